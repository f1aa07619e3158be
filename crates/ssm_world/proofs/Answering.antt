-- What a read of an acknowledged cookie answers.
use Rattle.std.proofs.Common.{◌≡◌, ◌⊎◌, inl, inr, ℕ, zero, suc, ◌<◌, ◌≤◌, Bool, true, false, if◌then◌else◌, nat_lt, List, [], ◌∷◌, ◌++◌, length, Option, Some, None, Result, Ok, Err, refl, sym, ap, ◌∙◌, subst, arith, append_assoc}
use Rattle.std.specs.Prelude.{slice_get}
use Rattle.std.specs.List.{filter_map, cons_option}
use Rattle.std.proofs.lemmas.Bool.Decides.{nat_tests}
use Rattle.crash_base.specs.declared.numbers.Moment.{Moment}
use Rattle.crash_base.specs.Same.{same_version, same_key}
use Rattle.session_cookie.specs.declared.cookie.Cookie.{Cookie}
use Rattle.session_cookie.specs.declared.cookie.Holder.{Holder}
use Rattle.ssm_frames.specs.declared.frame.Frame.{Frame}
use Rattle.ssm_frames.specs.declared.frame.Frame.TheVariants.{Found, Absent}
use Rattle.ssm_frames.specs.Requests.{is_request}
use Rattle.brick_store.specs.declared.event.BrickEvent.{BrickEvent}
use Rattle.brick_store.specs.declared.event.BrickEvent.TheVariants as happened
use Rattle.brick_store.specs.declared.kept.Kept.{Kept}
use Rattle.brick_store.specs.Bricks.{get_reply}
use Rattle.brick_store.specs.History.{all_held, incarnation_after, swept_after}
use Rattle.brick_store.specs.Kept.{is_under, is_late, kept_under}
use Rattle.brick_store.proofs.Standing.{all_found}
use Rattle.ssm_stub.specs.declared.ask.Ask.{Ask}
use Rattle.ssm_stub.specs.declared.ask.Turn.{Turn}
use Rattle.ssm_stub.specs.declared.cause.BrickCause.{BrickCause}
use Rattle.ssm_stub.specs.declared.cause.Cause.{Cause}
use Rattle.ssm_stub.specs.declared.cause.Cause.TheVariants as cause
use Rattle.ssm_stub.specs.declared.ear.Outcome.{Outcome}
use Rattle.ssm_stub.specs.declared.ear.Outcome.TheVariants as outcome
use Rattle.ssm_stub.specs.declared.ear.Ear.TheVariants.{Heard}
use Rattle.ssm_stub.specs.declared.event.Told.{Told}
use Rattle.ssm_stub.specs.declared.read_call.ReadRefusal.{ReadRefusal}
use Rattle.ssm_stub.specs.declared.read_call.ReadRefusal.TheVariants.{Expired, Lost}
use Rattle.ssm_stub.specs.declared.reply.ReadReply.{ReadReply}
use Rattle.ssm_stub.specs.declared.reply.ReadReply.TheVariants as get
use Rattle.ssm_stub.specs.Turns.{turn_in_order}
use Rattle.ssm_stub.specs.Writes.{with_brick}
use Rattle.ssm_stub.specs.Lawful.{IsGetReply}
use Rattle.ssm_stub.specs.Reads.{ReadState, get_lawful, value_by, found_in, loss_by, loss_of, lost_unless, found_or, read_answer}
use Rattle.ssm_world.specs.declared.call.Call.TheVariants as call
use Rattle.ssm_world.specs.declared.event.WorldEvent.{WorldEvent}
use Rattle.ssm_world.specs.Facts.{AllStored, has_late_sweep, frame_nonce, WasStored, WasSweptAt}
use Rattle.ssm_world.specs.Worlds.{WorldValue, new_world, after}
use Rattle.ssm_world.specs.Sound.{asked_of, WasSent, WasWritten, ReadIsSound}
use Rattle.ssm_world.specs.Claims.{kept_for, IsIntact, HasCrashed, WasSwept, ReadOrder, HeardAs, IsLossCause, AreLost, WasGiven, IsRight, read_world, told_since, ReadAfter}
use Rattle.ssm_world.proofs.Ending.{FoundAt, found_at, none_found, HasOutcome, all_ended}
use Rattle.ssm_world.proofs.Histories.{incarnation_grows, crash_stands, stored_front, stored_behind, stored_weaker, held_on, greatest_swept, swept_before, LateSweep, late_sweep, late_among, stands_behind, no_late_behind}
use Rattle.ssm_world.proofs.Holding.{written_is}
use Rattle.ssm_world.proofs.Lawful.{lawful_get_is}
use Rattle.ssm_world.proofs.Replying.{AbsentFor, absent_for}
use Rattle.ssm_world.proofs.Scenes.{Scene, IsOrdered, scene, ordered, runs, distinct, found_is, Replied, replied}
use Rattle.ssm_stub.proofs.Tests.{both}
use Rattle.ssm_world.proofs.Tests.{late_is, late_from}
use Rattle.ssm_world.proofs.Tracing.{OwnLaw, EndLaw, heard_as}

-- a holder that tells another incarnation has crashed since it stored the value
crashed_is : (v : WorldValue) (order : ReadOrder) (value : List ℕ) (h : Holder) (i : ℕ) (moment : Moment) → Replied v order value h (Absent order.nonce order.cookie.key order.cookie.version h.brick i moment) → (i ≡ h.incarnation → ⊥)
    → HasCrashed v h (kept_for order.cookie value) i
crashed_is v order value h i moment r apart =
    let kept : Kept = kept_for order.cookie value in
    let stored : List BrickEvent = happened.Stored kept ∷ r.before in
    let e : List BrickEvent = r.between ++ stored in
    let for : AbsentFor e i moment = absent_for h.brick h.brick e _ _ _ _ _ _ _ _ r.reply_is in
    let up : incarnation_after 1 r.before ≤ incarnation_after 1 e = incarnation_grows r.between stored in
    let on : incarnation_after 1 e ≤ incarnation_after 1 (r.since ++ e) = incarnation_grows r.since e in
    let greater : h.incarnation < i = omega (arith, for.incarnation_is, r.in_named, apart) in
    let crash : (j : ℕ) × (slice_get r.between j ≡ Some happened.Crash) = crash_stands r.between stored (omega (arith, for.incarnation_is, r.in_named, greater)) in
    let now : (j : ℕ) × (slice_get (r.since ++ r.between) j ≡ Some happened.Crash) = stands_behind r.since r.between crash.0 happened.Crash crash.1 in
    record {
      events = r.since ++ e;
      history_is = r.history_is;
      stored = record { earlier = r.before; later = r.since ++ r.between; parts = sym (append_assoc r.since r.between stored); incarnation_is = r.in_named };
      place = now.0;
      crash = now.1;
      greater = greater;
      reached = omega (arith, for.incarnation_is, on);
    }

-- where a holder had not crashed and was not swept late since it stored the value, it had the value when it replied
still_kept : (n : ℕ) (w v : WorldValue) (order : ReadOrder) (value : List ℕ) (h : Holder) (frame : Frame) (s : Scene n w v order value) (r : Replied v order value h frame)
    → incarnation_after 1 (r.between ++ happened.Stored (kept_for order.cookie value) ∷ r.before) ≡ incarnation_after 1 r.before → has_late_sweep order.cookie.expiry r.between ≡ false
    → kept_under order.cookie.key order.cookie.version (all_held (r.between ++ happened.Stored (kept_for order.cookie value) ∷ r.before)) ≡ Some (kept_for order.cookie value)
still_kept n w v order value h frame s r stays quiet =
    let c : Cookie = order.cookie in
    let kept : Kept = kept_for c value in
    let stored : List BrickEvent = happened.Stored kept ∷ r.before in
    let e : List BrickEvent = r.between ++ stored in
    let all : AllStored (WasWritten v h.brick) r.between = stored_front (WasWritten v h.brick) r.between stored (stored_behind (WasWritten v h.brick) r.since e (s.late.stored h.brick (r.since ++ e) r.history_is)) in
    let same : AllStored (λ (t : Kept). is_under c.key c.version t ≡ true → t ≡ kept) r.between =
    stored_weaker (WasWritten v h.brick) (λ (t : Kept). is_under c.key c.version t ≡ true → t ≡ kept) r.between
    (λ t written under. written_is v h.brick c.version c.key c.expiry value t s.late s.wrote written (both (same_key c.key t.key) (same_version c.version t.version) under).1)
    all in
    all_found e c.key c.version ∙ held_on r.between r.before kept same stays quiet

-- one that did not have it though it has not crashed was swept late since
swept_since : (n : ℕ) (w v : WorldValue) (order : ReadOrder) (value : List ℕ) (h : Holder) (i : ℕ) (moment : Moment) → Scene n w v order value
    → (r : Replied v order value h (Absent order.nonce order.cookie.key order.cookie.version h.brick i moment))
    → incarnation_after 1 (r.between ++ happened.Stored (kept_for order.cookie value) ∷ r.before) ≡ incarnation_after 1 r.before → has_late_sweep order.cookie.expiry r.between ≡ true
swept_since n w v order value h i moment s r stays = go (has_late_sweep order.cookie.expiry r.between) refl
  where
    go : (b : Bool) → has_late_sweep order.cookie.expiry r.between ≡ b → has_late_sweep order.cookie.expiry r.between ≡ true
    go true swept = swept
    go false quiet = absurd (
        let c : Cookie = order.cookie in
        let kept : Kept = kept_for c value in
        let e : List BrickEvent = r.between ++ happened.Stored kept ∷ r.before in
        let there : kept_under c.key c.version (all_held e) ≡ Some kept = still_kept n w v order value h _ s r stays quiet in
        let replies : Some (get_reply h.brick (incarnation_after 1 e) (swept_after e) order.nonce c.key c.version (Some kept)) ≡ Some (Absent order.nonce c.key c.version h.brick i moment) =
        ap (λ k. Some (get_reply h.brick (incarnation_after 1 e) (swept_after e) order.nonce c.key c.version k)) (sym there) ∙ r.reply_is in
        cc)

-- one that tells a late sweep was swept late since it stored the value
swept_is : (n : ℕ) (w v : WorldValue) (order : ReadOrder) (value : List ℕ) (h : Holder) (told : Moment) → Scene n w v order value
    → Replied v order value h (Absent order.nonce order.cookie.key order.cookie.version h.brick h.incarnation told) → is_late told order.cookie.expiry ≡ true
    → WasSwept v h (kept_for order.cookie value) told
swept_is n w v order value h told s r late =
    let expiry : Moment = order.cookie.expiry in
    let kept : Kept = kept_for order.cookie value in
    let stored : List BrickEvent = happened.Stored kept ∷ r.before in
    let e : List BrickEvent = r.between ++ stored in
    let for : AbsentFor e h.incarnation told = absent_for h.brick h.brick e _ _ _ _ _ _ _ _ r.reply_is in
    let q : LateSweep expiry r.between = late_sweep expiry r.between (swept_since n w v order value h h.incarnation told s r (for.incarnation_is ∙ sym r.in_named)) in
    let met : List BrickEvent = q.earlier ++ stored in
    let parts : e ≡ q.later ++ happened.Sweep q.moment ∷ met = ap (λ g. g ++ stored) q.parts ∙ append_assoc q.later (happened.Sweep q.moment ∷ q.earlier) stored in
    let up : incarnation_after 1 r.before ≤ incarnation_after 1 met = incarnation_grows q.earlier stored in
    let on : incarnation_after 1 met ≤ incarnation_after 1 (q.later ++ happened.Sweep q.moment ∷ met) = incarnation_grows q.later (happened.Sweep q.moment ∷ met) in
    let now : incarnation_after 1 (q.later ++ happened.Sweep q.moment ∷ met) ≡ h.incarnation = ap (incarnation_after 1) (sym parts) ∙ for.incarnation_is in
    let in_it : incarnation_after 1 met ≡ h.incarnation = omega (arith, up, on, now, r.in_named) in
    let before : q.moment.0 ≤ (swept_after (q.later ++ happened.Sweep q.moment ∷ met)).0 = swept_before q.later met q.moment (now ∙ sym in_it) in
    let greatest : WasSweptAt e (incarnation_after 1 e) (swept_after e) = greatest_swept expiry e (ap (λ m. is_late m expiry) for.swept_is ∙ late) in
    record {
      events = r.since ++ e;
      history_is = r.history_is;
      moment = q.moment;
      sweep = record { earlier = met; later = r.since ++ q.later; parts = ap (λ g. r.since ++ g) parts ∙ sym (append_assoc r.since q.later (happened.Sweep q.moment ∷ met)); incarnation_is = in_it };
      stored = record { earlier = r.before; later = q.earlier; parts = refl; incarnation_is = r.in_named };
      late = late_is q.moment expiry q.late;
      told_sweep = record {
        earlier = greatest.earlier;
        later = r.since ++ greatest.later;
        parts =
            ap (λ g. r.since ++ g) greatest.parts
            ∙ sym (append_assoc r.since greatest.later (happened.Sweep (swept_after e) ∷ greatest.earlier))
            ∙ ap (λ m. (r.since ++ greatest.later) ++ happened.Sweep m ∷ greatest.earlier) for.swept_is;
        incarnation_is = greatest.incarnation_is ∙ for.incarnation_is;
      };
      told_late = subst (λ (m : Moment). q.moment.0 ≤ m.0) (ap swept_after (sym parts) ∙ for.swept_is) before;
    }

-- a holder that is intact replies Found with the value
pub intact_found : (n : ℕ) (w v : WorldValue) (order : ReadOrder) (value : List ℕ) (i : ℕ) (h : Holder) (frame : Frame) → Scene n w v order value → slice_get order.cookie.bricks i ≡ Some h
    → WasSent v h.brick frame → is_request frame ≡ false → frame_nonce frame ≡ order.nonce → IsIntact v h (kept_for order.cookie value)
    → frame ≡ Found order.nonce order.cookie.key order.cookie.version h.brick h.incarnation order.cookie.expiry value
intact_found n w v order value i h frame s among was none nonce intact =
    let r : Replied v order value h frame = replied n w v order value i h frame s among was none nonce in
    let c : Cookie = order.cookie in
    let kept : Kept = kept_for c value in
    let stored : List BrickEvent = happened.Stored kept ∷ r.before in
    let e : List BrickEvent = r.between ++ stored in
    let one : Some intact.events ≡ Some (r.since ++ e) = sym intact.history_is ∙ r.history_is in
    let events : intact.events ≡ r.since ++ e = cc in
    let now : incarnation_after 1 (r.since ++ e) ≡ h.incarnation = ap (incarnation_after 1) (sym events) ∙ intact.uncrashed in
    let up : incarnation_after 1 r.before ≤ incarnation_after 1 e = incarnation_grows r.between stored in
    let on : incarnation_after 1 e ≤ incarnation_after 1 (r.since ++ e) = incarnation_grows r.since e in
    let stays : incarnation_after 1 e ≡ incarnation_after 1 r.before = omega (arith, now, r.in_named) in
    let its : WasStored intact.events h.incarnation kept = record { earlier = r.before; later = r.since ++ r.between; parts = events ∙ sym (append_assoc r.since r.between stored); incarnation_is = r.in_named } in
    let quiet : has_late_sweep c.expiry r.between ≡ false = no_late_behind c.expiry r.since r.between (intact.unswept its) in
    let there : kept_under c.key c.version (all_held e) ≡ Some kept = still_kept n w v order value h frame s r stays quiet in
    let number : incarnation_after 1 e ≡ h.incarnation = stays ∙ r.in_named in
    let replies : Some (get_reply h.brick (incarnation_after 1 e) (swept_after e) order.nonce c.key c.version (Some kept)) ≡ Some frame =
    ap (λ k. Some (get_reply h.brick (incarnation_after 1 e) (swept_after e) order.nonce c.key c.version k)) (sym there) ∙ r.reply_is in
    let found : Found order.nonce c.key c.version h.brick (incarnation_after 1 e) c.expiry value ≡ frame = cc in
    sym found ∙ ap (λ k. Found order.nonce c.key c.version h.brick k c.expiry value) number

-- what was heard of a holder as its reply was sent by it, and is lawful
pub Evidence : WorldValue → ReadOrder → Holder → ReadReply → Type 0
Evidence v order h reply = (frame : Frame) × WasSent v h.brick frame × IsGetReply order.nonce order.cookie.key order.cookie.version order.cookie.expiry h frame reply

evidence : (v : WorldValue) (order : ReadOrder) (r : ReadState) (i : ℕ) (a : Ask Holder ReadReply) (reply : ReadReply) → ReadIsSound v r → IsOrdered r order → slice_get r.asks i ≡ Some a → a.ear ≡ Heard (outcome.Answered reply) → Evidence v order a.who reply
unfolding Evidence
evidence v order r i a reply sound its there ear =
    let was : (frame : Frame) × WasSent v a.who.brick frame × (get_lawful r.nonce r.key r.version r.expiry a.who frame ≡ Some reply) = sound.replies i a reply there ear in
    let lawful : get_lawful order.nonce order.cookie.key order.cookie.version order.cookie.expiry a.who was.0 ≡ Some reply =
    (λ l. get_lawful (sym its.nonce_is l) (sym its.key_is l) (sym its.version_is l) (sym its.expiry_is l) a.who was.0) ∙ was.2 in
    (was.0, was.1, lawful_get_is order.nonce order.cookie.key order.cookie.version order.cookie.expiry a.who was.0 reply lawful)

-- a value that a holder gave is the one that was written
found_value : (n : ℕ) (w v : WorldValue) (order : ReadOrder) (value : List ℕ) (h : Holder) (x : List ℕ) → Scene n w v order value → Evidence v order h (get.Found x) → x ≡ value
unfolding Evidence
found_value n w v order value h x s its = found_is n w v order value h its.2.0 its.2.1 x s (subst (λ f. WasSent v h.brick f) its.2.2 its.1)

-- a holder that did not give the value has its cause
lost_by : (n : ℕ) (w v : WorldValue) (order : ReadOrder) (value : List ℕ) (i : ℕ) (h : Holder) (told : List Told) (o : Outcome ReadReply) → Scene n w v order value → slice_get order.cookie.bricks i ≡ Some h
    → HeardAs order h told o → ((reply : ReadReply) → o ≡ outcome.Answered reply → Evidence v order h reply) → value_by (Heard o) ≡ None
    → (c : Cause) × (loss_by (Heard o) ≡ Some c) × IsLossCause v order (kept_for order.cookie value) h told c
unfolding Evidence
lost_by n w v order value i h told outcome.Silent s among heard_so its none = (cause.Silent, refl, heard_so)
lost_by n w v order value i h told outcome.Strayed s among heard_so its none = (cause.Strayed, refl, heard_so)
lost_by n w v order value i h told (outcome.Answered (get.Found x)) s among heard_so its none = absurd (cc)
lost_by n w v order value i h told (outcome.Answered (get.Crashed j)) s among heard_so its none =
    let e = its (get.Crashed j) refl in
    let frame : Frame = Absent order.nonce order.cookie.key order.cookie.version h.brick j e.2.0 in
    let was : WasSent v h.brick frame = subst (λ f. WasSent v h.brick f) e.2.1 e.1 in
    (cause.Crashed j, refl, (heard_so, crashed_is v order value h j e.2.0 (replied n w v order value i h frame s among was refl refl) e.2.2))
lost_by n w v order value i h told (outcome.Answered (get.Swept moment)) s among heard_so its none =
    let e = its (get.Swept moment) refl in
    let frame : Frame = Absent order.nonce order.cookie.key order.cookie.version h.brick h.incarnation moment in
    let was : WasSent v h.brick frame = subst (λ f. WasSent v h.brick f) e.2.0 e.1 in
    (cause.Swept moment, refl, (heard_so, swept_is n w v order value h moment s (replied n w v order value i h frame s among was refl refl) (late_from moment order.cookie.expiry e.2.1)))

-- where each has its cause, all have them in order
lost_all : (v : WorldValue) (order : ReadOrder) (kept : Kept) (told : Holder → List Told) (asks : List (Ask Holder ReadReply))
    → ((i : ℕ) (a : Ask Holder ReadReply) → slice_get asks i ≡ Some a → (c : Cause) × (loss_by a.ear ≡ Some c) × IsLossCause v order kept a.who (told a.who) c)
    → AreLost v order kept told (asked_of asks) (filter_map loss_of asks)
lost_all v order kept told [] each = tt
lost_all v order kept told (a ∷ asks) each =
    let first : (c : Cause) × (loss_by a.ear ≡ Some c) × IsLossCause v order kept a.who (told a.who) c = each 0 a refl in
    let later : AreLost v order kept told (asked_of asks) (filter_map loss_of asks) = lost_all v order kept told asks (λ i b there. each (suc i) b there) in
    let P : Option Cause → Type 0 = λ o. AreLost v order kept told (a.who ∷ asked_of asks) (cons_option (with_brick a.who.brick o) (filter_map loss_of asks)) in
    subst P (sym first.1) (refl, first.2, later)

-- one that is asked is a holder of the cookie
holder_at : (asks : List (Ask Holder ReadReply)) (i : ℕ) (a : Ask Holder ReadReply) → slice_get asks i ≡ Some a → slice_get (asked_of asks) i ≡ Some a.who
holder_at [] i a there = absurd (cc)
holder_at (b ∷ asks) zero a there = let same : b ≡ a = cc in ap (λ (x : Ask Holder ReadReply). Some x.who) same
holder_at (b ∷ asks) (suc i) a there = holder_at asks i a there

among_holders : (r : ReadState) (order : ReadOrder) (i : ℕ) (a : Ask Holder ReadReply) → IsOrdered r order → slice_get r.asks i ≡ Some a → slice_get order.cookie.bricks i ≡ Some a.who
among_holders r order i a its there = ap (λ hs. slice_get hs i) (sym its.holders_are) ∙ holder_at r.asks i a there

-- what a read heard of each is what it was told of it
pub each_heard : OwnLaw → EndLaw → (w : WorldValue) (order : ReadOrder) (value : List ℕ) (later : List WorldEvent) (r : ReadState) (i : ℕ) (a : Ask Holder ReadReply) (o : Outcome ReadReply)
    → ReadAfter w order value later r → slice_get r.asks i ≡ Some a → a.ear ≡ Heard o → HeardAs order a.who (told_since w order later a.who) o
each_heard own ends w order value later r i a o read there ear =
    heard_as own ends (read_world w order later) (length w.calls) order _ r i a o (runs w order value later r read) read.there (distinct w order value later r read)
    (among_holders r order i a (ordered w order value later r read) there) there ear

-- each answer is right
right : (n : ℕ) (w v : WorldValue) (order : ReadOrder) (value : List ℕ) (r : ReadState) (told : Holder → List Told) (result : Result (List ℕ) ReadRefusal) → Scene n w v order value → IsOrdered r order → ReadIsSound v r
    → ((i : ℕ) (a : Ask Holder ReadReply) (o : Outcome ReadReply) → slice_get r.asks i ≡ Some a → a.ear ≡ Heard o → HeardAs order a.who (told a.who) o)
    → read_answer r ≡ Some result → IsRight v order value told result
right n w v order value r told result s its sound heard_so is = go (nat_lt r.expiry.0 r.moment.0) (found_in r.asks) (turn_in_order r.asks) refl refl refl is
  where
    causes : found_in r.asks ≡ None → turn_in_order r.asks ≡ None → AreLost v order (kept_for order.cookie value) told (asked_of r.asks) (filter_map loss_of r.asks)
    causes none ended = lost_all v order (kept_for order.cookie value) told r.asks (λ i a there.
        let end : HasOutcome a = all_ended r.asks ended i a there in
        let lost : (c : Cause) × (loss_by (Heard end.outcome) ≡ Some c) × IsLossCause v order (kept_for order.cookie value) a.who (told a.who) c =
        lost_by n w v order value i a.who (told a.who) end.outcome s (among_holders r order i a its there) (heard_so i a end.outcome there end.ear_is)
        (λ reply o. evidence v order r i a reply sound its there (end.ear_is ∙ ap (λ x. Heard x) o))
        (ap value_by (sym end.ear_is) ∙ none_found r.asks none i a there) in
        (lost.0, ap loss_by end.ear_is ∙ lost.1, lost.2))

    go : (expired : Bool) (found : Option (List ℕ)) (turn : Option (Turn Holder)) → nat_lt r.expiry.0 r.moment.0 ≡ expired → found_in r.asks ≡ found → turn_in_order r.asks ≡ turn
        → (if expired then Some (Err (Expired r.moment r.expiry)) else found_or found (lost_unless turn (filter_map loss_of r.asks))) ≡ Some result → IsRight v order value told result
    go true found turn late found_so turn_so e =
        let same : Err (Expired r.moment r.expiry) ≡ result = cc in
        let P : Result (List ℕ) ReadRefusal → Type 0 = λ a. IsRight v order value told a in
        let test : nat_lt order.cookie.expiry.0 order.moment.0 ≡ true = (λ l. nat_lt (sym its.expiry_is l).0 (sym its.moment_is l).0) ∙ late in
        subst P same (its.moment_is, its.expiry_is, grind (arith, nat_tests))
    go false (Some x) turn early found_so turn_so e =
        let same : Ok x ≡ result = cc in
        let P : Result (List ℕ) ReadRefusal → Type 0 = λ a. IsRight v order value told a in
        let at : FoundAt r.asks x = found_at r.asks x found_so in
        let test : nat_lt order.cookie.expiry.0 order.moment.0 ≡ false = (λ l. nat_lt (sym its.expiry_is l).0 (sym its.moment_is l).0) ∙ early in
        let given : WasGiven order told x = record {
          place = at.place;
          holder = at.ask.who;
          there = among_holders r order at.place at.ask its at.there;
          gave = heard_so at.place at.ask (outcome.Answered (get.Found x)) at.there at.ear_is;
        } in
        subst P same (found_value n w v order value at.ask.who x s (evidence v order r at.place at.ask (get.Found x) sound its at.there at.ear_is), grind (arith, nat_tests), given)
    go false None (Some turn) early found_so turn_so e = absurd (cc)
    go false None None early found_so turn_so e =
        let same : Err (Lost (filter_map loss_of r.asks)) ≡ result = cc in
        let P : Result (List ℕ) ReadRefusal → Type 0 = λ a. IsRight v order value told a in
        let Q : List Holder → Type 0 = λ hs. AreLost v order (kept_for order.cookie value) told hs (filter_map loss_of r.asks) in
        let test : nat_lt order.cookie.expiry.0 order.moment.0 ≡ false = (λ l. nat_lt (sym its.expiry_is l).0 (sym its.moment_is l).0) ∙ early in
        subst P same (grind (arith, nat_tests), subst Q its.holders_are (causes found_so turn_so))

pub read_is_right : OwnLaw → EndLaw → (n : ℕ) (earlier later : List WorldEvent) (order : ReadOrder) (value : List ℕ) (r : ReadState) (result : Result (List ℕ) ReadRefusal)
    → ReadAfter (after (new_world n) earlier) order value later r → read_answer r ≡ Some result
    → IsRight (read_world (after (new_world n) earlier) order later) order value (told_since (after (new_world n) earlier) order later) result
read_is_right own ends n earlier later order value r result read is =
    let w : WorldValue = after (new_world n) earlier in
    let v : WorldValue = read_world w order later in
    let s : Scene n w v order value = scene n earlier order value later r read in
    right n w v order value r (told_since w order later) result s (ordered w order value later r read) (s.late.calls (length w.calls) (call.Read r) read.there)
    (λ i a o there ear. each_heard own ends w order value later r i a o read there ear) is

-- the one that is asked at a place is the cookie's holder there, and what the read heard of it is what it was told
pub each_asked : OwnLaw → EndLaw → (bricks : ℕ) (earlier later : List WorldEvent) (order : ReadOrder) (value : List ℕ) (r : ReadState) (place : ℕ) (ask : Ask Holder ReadReply) (o : Outcome ReadReply)
    → ReadAfter (after (new_world bricks) earlier) order value later r → slice_get r.asks place ≡ Some ask → ask.ear ≡ Heard o
    → (slice_get order.cookie.bricks place ≡ Some ask.who) × HeardAs order ask.who (told_since (after (new_world bricks) earlier) order later ask.who) o
each_asked own ends bricks earlier later order value r place ask o read there ear =
    let w : WorldValue = after (new_world bricks) earlier in
    (among_holders r order place ask (ordered w order value later r read) there, each_heard own ends w order value later r place ask o read there ear)

pub holder_replies : (n : ℕ) (earlier later : List WorldEvent) (order : ReadOrder) (value : List ℕ) (r : ReadState) (place packet : ℕ) (h : Holder) (frame : Frame)
    → ReadAfter (after (new_world n) earlier) order value later r → slice_get order.cookie.bricks place ≡ Some h
    → IsIntact (read_world (after (new_world n) earlier) order later) h (kept_for order.cookie value)
    → slice_get (read_world (after (new_world n) earlier) order later).packets packet ≡ Some (record { brick = h.brick; frame = frame }) → is_request frame ≡ false → frame_nonce frame ≡ order.nonce
    → frame ≡ Found order.nonce order.cookie.key order.cookie.version h.brick h.incarnation order.cookie.expiry value
holder_replies n earlier later order value r place packet h frame read among intact there none nonce =
    intact_found n (after (new_world n) earlier) (read_world (after (new_world n) earlier) order later) order value place h frame (scene n earlier order value later r read) among (packet, there) none nonce intact

-- the outcome of a holder that is intact
abbrev IsServed : List ℕ → Outcome ReadReply → Type 0
IsServed value o = (o ≡ outcome.Answered (get.Found value)) ⊎ ((o ≡ outcome.Silent) ⊎ (o ≡ outcome.Strayed))

uncrashed : (v : WorldValue) (h : Holder) (kept : Kept) (i : ℕ) → IsIntact v h kept → HasCrashed v h kept i → ⊥
uncrashed v h kept i intact crashed =
    let one : Some intact.events ≡ Some crashed.events = sym intact.history_is ∙ crashed.history_is in
    let events : intact.events ≡ crashed.events = cc in
    let now : incarnation_after 1 crashed.events ≡ h.incarnation = ap (incarnation_after 1) (sym events) ∙ intact.uncrashed in
    omega (arith, now, crashed.greater, crashed.reached)

unswept : (v : WorldValue) (h : Holder) (kept : Kept) (moment : Moment) → IsIntact v h kept → WasSwept v h kept moment → ⊥
unswept v h kept moment intact swept =
    let one : Some intact.events ≡ Some swept.events = sym intact.history_is ∙ swept.history_is in
    let events : intact.events ≡ swept.events = cc in
    let sweep : List BrickEvent = happened.Sweep swept.moment ∷ swept.stored.later in
    let stored : List BrickEvent = happened.Stored kept ∷ swept.stored.earlier in
    let parts : swept.events ≡ (swept.sweep.later ++ sweep) ++ stored =
    swept.sweep.parts ∙ ap (λ g. swept.sweep.later ++ happened.Sweep swept.moment ∷ g) swept.stored.parts ∙ sym (append_assoc swept.sweep.later sweep stored) in
    let its : WasStored intact.events h.incarnation kept = record { earlier = swept.stored.earlier; later = swept.sweep.later ++ sweep; parts = events ∙ parts; incarnation_is = swept.stored.incarnation_is } in
    let none : has_late_sweep kept.expiry (swept.sweep.later ++ sweep) ≡ false = intact.unswept its in
    let some : has_late_sweep kept.expiry (swept.sweep.later ++ sweep) ≡ true = late_among kept.expiry swept.sweep.later swept.stored.later swept.moment (late_from swept.moment kept.expiry swept.late) in
    absurd (cc)

served : (n : ℕ) (w v : WorldValue) (order : ReadOrder) (value : List ℕ) (i : ℕ) (h : Holder) (told : List Told) (o : Outcome ReadReply) → Scene n w v order value → slice_get order.cookie.bricks i ≡ Some h
    → HeardAs order h told o → ((reply : ReadReply) → o ≡ outcome.Answered reply → Evidence v order h reply) → IsIntact v h (kept_for order.cookie value) → IsServed value o
served n w v order value i h told outcome.Silent s among heard_so its intact = inr (inl refl)
served n w v order value i h told outcome.Strayed s among heard_so its intact = inr (inr refl)
served n w v order value i h told (outcome.Answered (get.Found x)) s among heard_so its intact =
    inl (ap (λ y. outcome.Answered (get.Found y)) (found_value n w v order value h x s (its (get.Found x) refl)))
served n w v order value i h told (outcome.Answered (get.Crashed j)) s among heard_so its intact = absurd (
    let lost : (c : Cause) × (loss_by (Heard (outcome.Answered (get.Crashed j))) ≡ Some c) × IsLossCause v order (kept_for order.cookie value) h told c = lost_by n w v order value i h told (outcome.Answered (get.Crashed j)) s among heard_so its refl in
    let same : lost.0 ≡ cause.Crashed j = cc in
    let P : Cause → Type 0 = λ c. IsLossCause v order (kept_for order.cookie value) h told c in
    let its : IsLossCause v order (kept_for order.cookie value) h told (cause.Crashed j) = subst P same lost.2 in
    uncrashed v h (kept_for order.cookie value) j intact its.1)
served n w v order value i h told (outcome.Answered (get.Swept moment)) s among heard_so its intact = absurd (
    let lost : (c : Cause) × (loss_by (Heard (outcome.Answered (get.Swept moment))) ≡ Some c) × IsLossCause v order (kept_for order.cookie value) h told c = lost_by n w v order value i h told (outcome.Answered (get.Swept moment)) s among heard_so its refl in
    let same : lost.0 ≡ cause.Swept moment = cc in
    let P : Cause → Type 0 = λ c. IsLossCause v order (kept_for order.cookie value) h told c in
    let its : IsLossCause v order (kept_for order.cookie value) h told (cause.Swept moment) = subst P same lost.2 in
    unswept v h (kept_for order.cookie value) moment intact its.1)

pub holder_heard : OwnLaw → EndLaw → (n : ℕ) (earlier later : List WorldEvent) (order : ReadOrder) (value : List ℕ) (r : ReadState) (place : ℕ) (a : Ask Holder ReadReply) (o : Outcome ReadReply)
    → ReadAfter (after (new_world n) earlier) order value later r → slice_get r.asks place ≡ Some a → a.ear ≡ Heard o
    → IsIntact (read_world (after (new_world n) earlier) order later) a.who (kept_for order.cookie value)
    → HeardAs order a.who (told_since (after (new_world n) earlier) order later a.who) o
    × ((o ≡ outcome.Answered (get.Found value)) ⊎ ((o ≡ outcome.Silent) ⊎ (o ≡ outcome.Strayed)))
holder_heard own ends n earlier later order value r place a o read there ear intact =
    let w : WorldValue = after (new_world n) earlier in
    let v : WorldValue = read_world w order later in
    let s : Scene n w v order value = scene n earlier order value later r read in
    let its : IsOrdered r order = ordered w order value later r read in
    let heard_so : HeardAs order a.who (told_since w order later a.who) o = each_heard own ends w order value later r place a o read there ear in (
      heard_so,
      served n w v order value place a.who (told_since w order later a.who) o s (among_holders r order place a its there) heard_so
          (λ reply is. evidence v order r place a reply (s.late.calls (length w.calls) (call.Read r) read.there) its there (ear ∙ ap (λ x. Heard x) is)) intact,
    )

-- a cause of a holder that is intact is the link's
unheard : (v : WorldValue) (order : ReadOrder) (kept : Kept) (h : Holder) (told : List Told) (c : Cause) → IsLossCause v order kept h told c → IsIntact v h kept → (c ≡ cause.Silent) ⊎ (c ≡ cause.Strayed)
unheard v order kept h told cause.Silent lost intact = inl refl
unheard v order kept h told cause.Strayed lost intact = inr refl
unheard v order kept h told (cause.Full entries bytes) lost intact = absurd lost
unheard v order kept h told (cause.Crashed i) lost intact = absurd (uncrashed v h kept i intact lost.1)
unheard v order kept h told (cause.Swept moment) lost intact = absurd (unswept v h kept moment intact lost.1)

pub all_unheard : (v : WorldValue) (order : ReadOrder) (kept : Kept) (told : Holder → List Told) (hs : List Holder) (cs : List BrickCause) (i : ℕ) (h : Holder) (c : BrickCause)
    → AreLost v order kept told hs cs → slice_get hs i ≡ Some h → slice_get cs i ≡ Some c → IsIntact v h kept → (c.cause ≡ cause.Silent) ⊎ (c.cause ≡ cause.Strayed)
all_unheard v order kept told [] cs i h c lost at_h at_c intact = absurd (cc)
all_unheard v order kept told (g ∷ hs) [] i h c lost at_h at_c intact = absurd (cc)
all_unheard v order kept told (g ∷ hs) (d ∷ cs) zero h c lost at_h at_c intact =
    let holder : g ≡ h = cc in
    let same : d ≡ c = cc in
    let P : Holder → Type 0 = λ x. IsIntact v x kept in
    let Q : BrickCause → Type 0 = λ x. (x.cause ≡ cause.Silent) ⊎ (x.cause ≡ cause.Strayed) in
    subst Q same (unheard v order kept g (told g) d.cause lost.1 (subst P (sym holder) intact))
all_unheard v order kept told (g ∷ hs) (d ∷ cs) (suc i) h c lost at_h at_c intact = all_unheard v order kept told hs cs i h c lost.2 at_h at_c intact
