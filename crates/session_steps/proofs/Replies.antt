-- What the brick of a holder replies to a fetch, by its history.
use Rattle.std.proofs.Common.{◌≡◌, ◌⊎◌, inl, inr, ℕ, zero, suc, ◌+◌, ◌<◌, ◌==◌, ◌||◌, Bool, true, false, if◌then◌else◌, nat_lt, List, [], ◌∷◌, ◌++◌, Option, Some, None, refl, sym, ap, ◌∙◌, subst, arith, append_assoc}
use Rattle.std.specs.Prelude.{slice_get}
use Rattle.std.proofs.lemmas.Bool.Decides.{nat_tests}
use Rattle.crash_base.specs.declared.numbers.Moment.{Moment}
use Rattle.crash_base.specs.declared.numbers.SessionKey.{SessionKey}
use Rattle.crash_base.specs.declared.numbers.Version.{Version}
use Rattle.crash_base.specs.Same.{same_key, same_version}
use Rattle.session_cookie.specs.declared.cookie.Cookie.{Cookie}
use Rattle.session_cookie.specs.declared.cookie.Holder.{Holder}
use Rattle.ssm_frames.specs.declared.frame.Frame.TheVariants.{Put}
use Rattle.ssm_frames.specs.declared.frame.TheConstants.{SWEEP_GRACE}
use Rattle.brick_store.specs.declared.kept.Kept.{Kept}
use Rattle.brick_store.specs.declared.event.BrickEvent.{BrickEvent}
use Rattle.brick_store.specs.declared.event.BrickEvent.TheVariants as happened
use Rattle.brick_store.specs.Bricks.{get_reply}
use Rattle.brick_store.specs.History.{left_by, held, later, incarnation_after, swept_after}
use Rattle.brick_store.specs.Kept.{is_under, is_late}
use Rattle.brick_store.proofs.Standing.{all_found}
use Rattle.ssm_stub.specs.declared.reply.Reference.{Reference}
use Rattle.ssm_stub.specs.declared.reply.ReadReply.{ReadReply}
use Rattle.ssm_stub.specs.declared.reply.ReadReply.TheVariants as get
use Rattle.ssm_stub.specs.Reads.{get_lawful}
use Rattle.ssm_stub.specs.Replies.{is_reply, refers, absence}
use Rattle.ssm_world.specs.Claims.{kept_for}
use Rattle.ssm_world.specs.Facts.{is_late_sweep, has_late_sweep, AllStored}
use Rattle.ssm_world.specs.Sound.{WasWritten, IsSound}
use Rattle.ssm_world.specs.Worlds.{WorldValue}
use Rattle.ssm_world.proofs.Growing.{WasAsked}
use Rattle.ssm_world.proofs.Histories.{incarnation_grows, left_is, held_was_stored, held_on, stored_front, stored_weaker}
use Rattle.ssm_world.proofs.Holding.{written_is}
use Rattle.ssm_world.proofs.Tests.{both, same_number, number_same, version_is, version_same, key_same, late_is}
use Rattle.session_steps.specs.Promise.{FetchMade, crashes, IsLate, HasCrashed, WasSweptLate, last_swept}
use Rattle.session_steps.specs.Rule.{reply_by}
use Rattle.session_steps.proofs.Holders.{HolderWent}

-- a history without sweeps has no late one
no_late : (expiry : Moment) (h : List BrickEvent) → ((moment : Moment) (i : ℕ) → slice_get h i ≡ Some (happened.Sweep moment) → ⊥) → has_late_sweep expiry h ≡ false
no_late expiry [] unswept = refl
no_late expiry (happened.Stored s ∷ h) unswept = no_late expiry h (λ moment i is. unswept moment (suc i) is)
no_late expiry (happened.Sweep moment ∷ h) unswept = absurd (unswept moment 0 refl)
no_late expiry (happened.Crash ∷ h) unswept = no_late expiry h (λ moment i is. unswept moment (suc i) is)

no_late_in_both : (expiry : Moment) (newer h : List BrickEvent) → has_late_sweep expiry newer ≡ false → has_late_sweep expiry h ≡ false → has_late_sweep expiry (newer ++ h) ≡ false
no_late_in_both expiry [] h first second = second
no_late_in_both expiry (e ∷ newer) h first second = go (is_late_sweep expiry e) first (no_late_in_both expiry newer h)
  where
    go : (a : Bool) → (a || has_late_sweep expiry newer) ≡ false → (has_late_sweep expiry newer ≡ false → has_late_sweep expiry h ≡ false → has_late_sweep expiry (newer ++ h) ≡ false) → (a || has_late_sweep expiry (newer ++ h)) ≡ false
    go true is rest = absurd (cc)
    go false is rest = rest is second

-- a late sweep of a history
record LateSweep (expiry : Moment) (h : List BrickEvent) : Type 0 where
  pub moment : Moment
  pub place : ℕ
  pub there : slice_get h place ≡ Some (happened.Sweep moment)
  pub late : is_late moment expiry ≡ true

later_sweep : (expiry : Moment) (e : BrickEvent) (h : List BrickEvent) → LateSweep expiry h → LateSweep expiry (e ∷ h)
later_sweep expiry e h late = record { moment = late.moment; place = suc late.place; there = late.there; late = late.late }

late_sweep : (expiry : Moment) (h : List BrickEvent) → has_late_sweep expiry h ≡ true → LateSweep expiry h
late_sweep expiry [] has = absurd (cc)
late_sweep expiry (happened.Stored s ∷ h) has = later_sweep expiry (happened.Stored s) h (late_sweep expiry h has)
late_sweep expiry (happened.Crash ∷ h) has = later_sweep expiry happened.Crash h (late_sweep expiry h has)
late_sweep expiry (happened.Sweep moment ∷ h) has = go (is_late moment expiry) refl has (late_sweep expiry h)
  where
    go : (b : Bool) → is_late moment expiry ≡ b → (b || has_late_sweep expiry h) ≡ true → (has_late_sweep expiry h ≡ true → LateSweep expiry h) → LateSweep expiry (happened.Sweep moment ∷ h)
    go true late is rest = record { moment = moment; place = 0; there = refl; late = late }
    go false late is rest = later_sweep expiry (happened.Sweep moment) h (rest is)

later_late : (a b expiry : Moment) → (is_late a expiry ≡ true) ⊎ (is_late b expiry ≡ true) → is_late (later a b) expiry ≡ true
later_late a b expiry late = go (nat_lt a.0 b.0) refl late
  where
    go : (t : Bool) → nat_lt a.0 b.0 ≡ t → (is_late a expiry ≡ true) ⊎ (is_late b expiry ≡ true) → is_late (if t then b else a) expiry ≡ true
    go true less (inr of_b) = of_b
    go false less (inl of_a) = of_a
    go true less (inl of_a) = grind (arith, nat_tests)
    go false less (inr of_b) = grind (arith, nat_tests)

is_late_from : (moment expiry : Moment) → expiry.0 + SWEEP_GRACE < moment.0 → is_late moment expiry ≡ true
is_late_from moment expiry late = grind (arith, nat_tests)

-- where a late sweep came and no crash, the greatest moment swept is late
swept_late : (expiry : Moment) (newer h : List BrickEvent) → incarnation_after 1 (newer ++ h) ≡ incarnation_after 1 h → has_late_sweep expiry newer ≡ true → is_late (swept_after (newer ++ h)) expiry ≡ true
swept_late expiry [] h same has = absurd (cc)
swept_late expiry (happened.Stored s ∷ newer) h same has = swept_late expiry newer h same has
swept_late expiry (happened.Crash ∷ newer) h same has = absurd (omega (arith, same, incarnation_grows newer h))
swept_late expiry (happened.Sweep moment ∷ newer) h same has = later_late (swept_after (newer ++ h)) moment expiry (go (is_late moment expiry) refl has (swept_late expiry newer h same))
  where
    go : (b : Bool) → is_late moment expiry ≡ b → (b || has_late_sweep expiry newer) ≡ true → (has_late_sweep expiry newer ≡ true → is_late (swept_after (newer ++ h)) expiry ≡ true)
        → (is_late (swept_after (newer ++ h)) expiry ≡ true) ⊎ (is_late moment expiry ≡ true)
    go true late is rest = inr late
    go false late is rest = inl (rest is)

late_there : (expiry moment : Moment) (h : List BrickEvent) (i : ℕ) → slice_get h i ≡ Some (happened.Sweep moment) → is_late moment expiry ≡ true → has_late_sweep expiry h ≡ true
late_there expiry moment [] i is late = absurd (cc)
late_there expiry moment (e ∷ h) zero is late = let same : e ≡ happened.Sweep moment = cc in ap (λ x. is_late_sweep expiry x || has_late_sweep expiry h) same ∙ ap (λ b. b || has_late_sweep expiry h) late
late_there expiry moment (e ∷ h) (suc i) is late = go (is_late_sweep expiry e) (late_there expiry moment h i is late)
  where
    go : (b : Bool) → has_late_sweep expiry h ≡ true → (b || has_late_sweep expiry h) ≡ true
    go true later = refl
    go false later = later

-- where nothing newer was stored under its key and version, what is held was neither lost in a crash nor swept since
record StillHeld (newer h : List BrickEvent) (s : Kept) : Type 0 where
  pub uncrashed : incarnation_after 1 (newer ++ h) ≡ incarnation_after 1 h
  pub unswept : has_late_sweep s.expiry newer ≡ false

left_late : (moment : Moment) (s : Kept) → left_by moment (Some s) ≡ Some s → is_late moment s.expiry ≡ false
left_late moment s is = go (is_late moment s.expiry) is
  where
    go : (b : Bool) → (if b then None else Some s) ≡ Some s → b ≡ false
    go true e = absurd (cc)
    go false e = refl

still_held : (newer h : List BrickEvent) (key : SessionKey) (version : Version) (s : Kept) → ((i : ℕ) (t : Kept) → slice_get newer i ≡ Some (happened.Stored t) → t.version ≡ version → ⊥)
    → held (newer ++ h) key version ≡ Some s → StillHeld newer h s
still_held [] h key version s others is = record { uncrashed = refl; unswept = refl }
still_held (happened.Crash ∷ newer) h key version s others is = absurd (cc)
still_held (happened.Stored t ∷ newer) h key version s others is = go (is_under key version t) refl is (λ e. still_held newer h key version s (λ i u at. others (suc i) u at) e)
  where
    go : (b : Bool) → is_under key version t ≡ b → (if b then Some t else held (newer ++ h) key version) ≡ Some s → (held (newer ++ h) key version ≡ Some s → StillHeld newer h s) → StillHeld (happened.Stored t ∷ newer) h s
    go true under e later = absurd (others 0 t refl (sym (version_is version t.version (both (same_key key t.key) (same_version version t.version) under).1)))
    go false under e later = let rest : StillHeld newer h s = later e in record { uncrashed = rest.uncrashed; unswept = rest.unswept }
still_held (happened.Sweep moment ∷ newer) h key version s others is =
    let before : held (newer ++ h) key version ≡ Some s = left_is moment (held (newer ++ h) key version) s is in
    let rest : StillHeld newer h s = still_held newer h key version s (λ i u at. others (suc i) u at) before in
    let in_time : is_late moment s.expiry ≡ false = left_late moment s (ap (left_by moment) (sym before) ∙ is) in
    record { uncrashed = rest.uncrashed; unswept = (λ l. in_time l || rest.unswept l) }

-- a frame that refers to what is wanted is a reply to it
reply_same : (wanted : Reference) → is_reply wanted wanted ≡ true
reply_same wanted = rw (version_same wanted.nonce, key_same wanted.key, version_same wanted.version, number_same wanted.brick.0) refl

-- what is heard of a brick of this history by what it holds
by_held : Version → Cookie → Holder → List BrickEvent → Option Kept → Option ReadReply
by_held nonce cookie holder h o =
    get_lawful nonce cookie.key cookie.version cookie.expiry holder
    (get_reply holder.brick (incarnation_after 1 h) (swept_after h) nonce cookie.key cookie.version o)

reply_by_held : (h : List BrickEvent) (nonce : Version) (cookie : Cookie) (holder : Holder) → reply_by (Some h) nonce cookie holder ≡ by_held nonce cookie holder h (held h cookie.key cookie.version)
unfolding by_held
reply_by_held h nonce cookie holder = ap (by_held nonce cookie holder h) (all_found h cookie.key cookie.version)

found_by : (nonce : Version) (cookie : Cookie) (holder : Holder) (h : List BrickEvent) (s : Kept) → by_held nonce cookie holder h (Some s) ≡ Some (get.Found s.value)
unfolding by_held
found_by nonce cookie holder h s = ap (λ b. if b then Some (get.Found s.value) else None) (reply_same (refers nonce cookie.key cookie.version holder.brick))

absent_by : (nonce : Version) (cookie : Cookie) (holder : Holder) (h : List BrickEvent) → by_held nonce cookie holder h None ≡ absence holder cookie.expiry (incarnation_after 1 h) (swept_after h)
unfolding by_held
absent_by nonce cookie holder h =
    ap (λ b. if b then absence holder cookie.expiry (incarnation_after 1 h) (swept_after h) else None) (reply_same (refers nonce cookie.key cookie.version holder.brick))

-- The brick replies with the value, where it has neither crashed since nor been swept late; or with the count of its
-- crashes, where it has crashed since; or, where it has not, with the last moment swept, which is late, where it was
-- swept late since.
pub record RepliesFound (fetch : FetchMade) (holder : Holder) (reply : Option ReadReply) : Type 0 where
  pub reply_is : reply ≡ Some (get.Found fetch.value)
  pub uncrashed : crashes holder.brick.0 fetch.since ≡ 0
  pub kept : WasSweptLate fetch holder → ⊥

pub record RepliesCrashed (fetch : FetchMade) (holder : Holder) (reply : Option ReadReply) : Type 0 where
  pub incarnation : ℕ
  pub reply_is : reply ≡ Some (get.Crashed incarnation)
  pub crashed : HasCrashed fetch holder
  pub count : incarnation ≡ 1 + crashes holder.brick.0 fetch.before + crashes holder.brick.0 fetch.since

pub record RepliesSwept (fetch : FetchMade) (holder : Holder) (reply : Option ReadReply) : Type 0 where
  pub moment : Moment
  pub reply_is : reply ≡ Some (get.Swept moment)
  pub uncrashed : crashes holder.brick.0 fetch.since ≡ 0
  pub swept : WasSweptLate fetch holder
  pub late : IsLate fetch.cookie moment
  pub last : moment ≡ last_swept fetch holder

pub holder_replies : (w : WorldValue) (nonce : Version) (fetch : FetchMade) (holder : Holder)
    → (went : HolderWent (record { 0 = 0 }) fetch.before fetch.written_at fetch.since w holder (kept_for fetch.cookie fetch.value)) → IsSound w
    → WasAsked w (Put fetch.cookie.version fetch.cookie.key fetch.cookie.version fetch.cookie.expiry fetch.value)
    → RepliesFound fetch holder (reply_by (Some went.events) nonce fetch.cookie holder)
    ⊎ (RepliesCrashed fetch holder (reply_by (Some went.events) nonce fetch.cookie holder) ⊎ RepliesSwept fetch holder (reply_by (Some went.events) nonce fetch.cookie holder))
holder_replies w nonce fetch holder went sound was = go (held h cookie.key cookie.version) refl
  where
    cookie : Cookie
    cookie = fetch.cookie

    k : Kept
    k = kept_for cookie fetch.value

    h : List BrickEvent
    h = went.events

    written : List BrickEvent
    written = went.between ++ happened.Stored k ∷ went.earlier

    Right : Option ReadReply → Type 0
    Right o = RepliesFound fetch holder o ⊎ (RepliesCrashed fetch holder o ⊎ RepliesSwept fetch holder o)

    since : incarnation_after 1 h ≡ holder.incarnation + crashes holder.brick.0 fetch.since
    since = ap (incarnation_after 1) went.parts ∙ went.went.crashed written ∙ ap (λ n. n + crashes holder.brick.0 fetch.since) went.uncrashed

    all : AllStored (WasWritten w holder.brick) h
    all = sound.stored holder.brick h went.history_is

    is_its : (s : Kept) → WasWritten w holder.brick s → is_under cookie.key cookie.version s ≡ true → s ≡ k
    is_its s written_s under = written_is w holder.brick cookie.version cookie.key cookie.expiry fetch.value s sound was written_s (both (same_key cookie.key s.key) (same_version cookie.version s.version) under).1

    reply : Option ReadReply
    reply = reply_by (Some h) nonce cookie holder

    absent : held h cookie.key cookie.version ≡ None → reply ≡ absence holder cookie.expiry (incarnation_after 1 h) (swept_after h)
    absent at = reply_by_held h nonce cookie holder ∙ ap (by_held nonce cookie holder h) at ∙ absent_by nonce cookie holder h

    holds : crashes holder.brick.0 fetch.since ≡ 0 → has_late_sweep cookie.expiry went.newer ≡ false → held h cookie.key cookie.version ≡ Some k
    holds uncrashed quiet =
        let parts : h ≡ (went.newer ++ went.between) ++ happened.Stored k ∷ went.earlier = went.parts ∙ sym (append_assoc went.newer went.between (happened.Stored k ∷ went.earlier)) in
        let same : AllStored (λ (t : Kept). is_under k.key k.version t ≡ true → t ≡ k) (went.newer ++ went.between) =
        stored_weaker (WasWritten w holder.brick) (λ (t : Kept). is_under k.key k.version t ≡ true → t ≡ k) (went.newer ++ went.between) is_its
        (stored_front (WasWritten w holder.brick) (went.newer ++ went.between) (happened.Stored k ∷ went.earlier) (subst (λ g. AllStored (WasWritten w holder.brick) g) parts all)) in
        let incarnation : incarnation_after 1 ((went.newer ++ went.between) ++ happened.Stored k ∷ went.earlier) ≡ incarnation_after 1 went.earlier =
        ap (incarnation_after 1) (sym parts) ∙ since ∙ ap (λ n. holder.incarnation + n) uncrashed ∙ add_none holder.incarnation ∙ sym went.in_named in
        let unswept : has_late_sweep cookie.expiry (went.newer ++ went.between) ≡ false = no_late_in_both cookie.expiry went.newer went.between quiet (no_late cookie.expiry went.between went.unswept) in
        ap (λ g. held g cookie.key cookie.version) parts ∙ held_on (went.newer ++ went.between) went.earlier k same incarnation unswept
      where
        add_none : (n : ℕ) → n + 0 ≡ n
        add_none n = omega arith

    by_sweep : held h cookie.key cookie.version ≡ None → (incarnation_after 1 h == holder.incarnation) ≡ true → (late : Bool) → has_late_sweep cookie.expiry went.newer ≡ late → Right reply
    by_sweep at same false quiet =
        let number : incarnation_after 1 h ≡ holder.incarnation = same_number _ _ same in
        let clash : None ≡ Some k = sym at ∙ holds (omega (arith, since, number)) quiet in
        absurd (cc)
    by_sweep at same true late =
        let number : incarnation_after 1 h ≡ holder.incarnation = same_number _ _ same in
        let by : LateSweep cookie.expiry went.newer = late_sweep cookie.expiry went.newer late in
        let unmoved : incarnation_after 1 (went.newer ++ written) ≡ incarnation_after 1 written = ap (incarnation_after 1) (sym went.parts) ∙ number ∙ sym went.uncrashed in
        let greatest : is_late (swept_after h) cookie.expiry ≡ true = ap (λ g. is_late (swept_after g) cookie.expiry) went.parts ∙ swept_late cookie.expiry went.newer written unmoved late in
        let told : absence holder cookie.expiry (incarnation_after 1 h) (swept_after h) ≡ Some (get.Swept (swept_after h)) =
        (λ l. if same l then (if greatest l then Some (get.Swept (swept_after h)) else None) else Some (get.Crashed (incarnation_after 1 h))) in
        inr (inr (record {
          moment = swept_after h;
          reply_is = absent at ∙ told;
          uncrashed = omega (arith, since, number);
          swept = record { moment = by.moment; sweeps = went.went.swept by.moment by.place by.there; late = late_is by.moment cookie.expiry by.late };
          late = late_is (swept_after h) cookie.expiry greatest;
          last = went.swept_is;
        }))

    by_crash : held h cookie.key cookie.version ≡ None → (same : Bool) → (incarnation_after 1 h == holder.incarnation) ≡ same → Right reply
    by_crash at true same = by_sweep at same (has_late_sweep cookie.expiry went.newer) refl
    by_crash at false apart =
        let told : absence holder cookie.expiry (incarnation_after 1 h) (swept_after h) ≡ Some (get.Crashed (incarnation_after 1 h)) =
        ap (λ b. if b then (if nat_lt (cookie.expiry.0 + SWEEP_GRACE) (swept_after h).0 then Some (get.Swept (swept_after h)) else None) else Some (get.Crashed (incarnation_after 1 h))) apart in
        let other : incarnation_after 1 h ≡ holder.incarnation → ⊥ = λ number. (let same : (incarnation_after 1 h == holder.incarnation) ≡ true = ap (λ n. n == holder.incarnation) number ∙ number_same holder.incarnation in let clash : true ≡ false = sym same ∙ apart in cc) in
        inr (inl (record {
          incarnation = incarnation_after 1 h;
          reply_is = absent at ∙ told;
          crashed = omega (arith, since, other);
          count = omega (arith, since, went.incarnation_is);
        }))

    go : (o : Option Kept) → held h cookie.key cookie.version ≡ o → Right reply
    go (Some s) at =
        let its : WasWritten w holder.brick s × (is_under cookie.key cookie.version s ≡ true) = held_was_stored (WasWritten w holder.brick) h cookie.key cookie.version s all at in
        let value : s.value ≡ fetch.value = ap (λ (x : Kept). x.value) (is_its s its.0 its.1) in
        let same : s ≡ k = is_its s its.0 its.1 in
        let still : StillHeld went.newer written s = still_held went.newer written cookie.key cookie.version s went.others (ap (λ g. held g cookie.key cookie.version) (sym went.parts) ∙ at) in
        let number : incarnation_after 1 h ≡ holder.incarnation = ap (incarnation_after 1) went.parts ∙ still.uncrashed ∙ went.uncrashed in
        let unswept : has_late_sweep cookie.expiry went.newer ≡ false = ap (λ (x : Kept). has_late_sweep x.expiry went.newer) (sym same) ∙ still.unswept in
        inl (record {
          reply_is = reply_by_held h nonce cookie holder ∙ ap (by_held nonce cookie holder h) at ∙ found_by nonce cookie holder h s ∙ ap (λ x. Some (get.Found x)) value;
          uncrashed = omega (arith, since, number);
          kept = λ was. (
              let there = went.went.sweeps was.moment was.sweeps in
              let late : has_late_sweep cookie.expiry went.newer ≡ true = late_there cookie.expiry was.moment went.newer there.0 there.1 (is_late_from was.moment cookie.expiry was.late) in
              let clash : true ≡ false = sym late ∙ unswept in
              cc);
        })
    go None at = by_crash at (incarnation_after 1 h == holder.incarnation) refl
