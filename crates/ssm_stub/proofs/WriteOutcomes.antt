-- What the answers of writes say.
use Rattle.std.proofs.Common.{arith, ◌≡◌, ◌∙◌, ap, sym, refl, subst, ℕ, zero, suc, ◌+◌, ◌<◌, ◌≤◌, Bool, true, false, nat_le, if◌then◌else◌, List, [], ◌∷◌, length, map, take, filter_map, All, Option, Some, None, Ok, Err, slice_get}
use Rattle.std.specs.Prelude.{option_map}
use Rattle.std.specs.List.{cons_option}
use Rattle.std.proofs.lemmas.Bool.{leb-true, leb-false}
use Rattle.std.proofs.lemmas.List.{length-take-le}
use Rattle.std.proofs.lemmas.List.Elements.{All-nil, All-cons, All-take}
use Rattle.std.proofs.lemmas.Option.{slice_get-map}
use Rattle.crash_base.specs.declared.numbers.BrickNo.{BrickNo}
use Rattle.crash_base.specs.declared.numbers.Moment.{Moment}
use Rattle.crash_base.specs.declared.numbers.SessionKey.{SessionKey}
use Rattle.crash_base.specs.declared.numbers.Version.{Version}
use Rattle.outside.specs.declared.link.LinkEvent.{LinkEvent}
use Rattle.session_cookie.specs.declared.cookie.Cookie.{Cookie}
use Rattle.session_cookie.specs.declared.cookie.Holder.{Holder}
use Rattle.ssm_frames.specs.declared.frame.Frame.{Frame}
use Rattle.ssm_stub.specs.declared.cause.BrickCause.{BrickCause}
use Rattle.ssm_stub.specs.declared.cause.Cause.{Cause}
use Rattle.ssm_stub.specs.declared.cause.Cause.TheVariants as cause
use Rattle.ssm_stub.specs.declared.ear.Stage.TheVariants.{Unasked}
use Rattle.ssm_stub.specs.declared.ear.Outcome.{Outcome}
use Rattle.ssm_stub.specs.declared.ear.Outcome.TheVariants.{Answered, Silent, Strayed}
use Rattle.ssm_stub.specs.declared.ear.Ear.{Ear}
use Rattle.ssm_stub.specs.declared.ear.Ear.TheVariants.{Open, Heard}
use Rattle.ssm_stub.specs.declared.event.Told.{Told}
use Rattle.ssm_stub.specs.declared.ask.Ask.{Ask}
use Rattle.ssm_stub.specs.declared.ask.Turn.{Turn}
use Rattle.ssm_stub.specs.declared.reply.WriteReply.{WriteReply}
use Rattle.ssm_stub.specs.declared.reply.WriteReply.TheVariants.{Stored, Full}
use Rattle.ssm_stub.specs.declared.write_call.WriteRefusal.TheVariants.{Missed}
use Rattle.ssm_stub.specs.Ears.{ear_after}
use Rattle.ssm_stub.specs.Turns.{is_open, turn_after_asks}
use Rattle.ssm_stub.specs.Runs.{Fits}
use Rattle.ssm_stub.specs.Writes.{put_lawful, holder_by, holder_of, cause_by, cause_of, with_brick, missed_unless, answer_of}
use Rattle.ssm_stub.specs.Hearing.{all_about, EndsIn, ear_machine}
use Rattle.ssm_stub.specs.Outcomes.{stored_of, stored_by, missed_of, missed_by, IsPutCause, IsMissedBy, IsWritten, IsMissed}
use Rattle.ssm_stub.proofs.HearingEnds.{heard_so}
use Rattle.ssm_stub.proofs.ByEvents.{ask_by}
use Rattle.ssm_stub.proofs.Searching.{all_heard}
use Rattle.ssm_stub.proofs.WriteFacts.{WriteFacts}

pub filter_map_map : {X Y Z : Type 0} (h : Y → Option Z) (f : X → Y) (xs : List X) → filter_map h (map f xs) ≡ filter_map (λ x. h (f x)) xs
filter_map_map h f [] = refl
filter_map_map h f (x ∷ xs) = ap (cons_option (h (f x))) (filter_map_map h f xs)

all_more : {Y : Type 0} (Q : Y → Type 0) (found : Option Y) (rest : List Y) → ((y : Y) → found ≡ Some y → Q y) → All Q rest → All Q (cons_option found rest)
all_more Q None rest h all = all
all_more Q (Some y) rest h all = All-cons Q y rest (h y refl) all

pub all_found : {X Y : Type 0} (f : X → Option Y) (Q : Y → Type 0) (xs : List X) → ((i : ℕ) (x : X) (y : Y) → slice_get xs i ≡ Some x → f x ≡ Some y → Q y) → All Q (filter_map f xs)
all_found f Q [] h = All-nil Q
all_found f Q (x ∷ xs) h = all_more Q (f x) (filter_map f xs) (λ y e. h zero x y refl e) (all_found f Q xs (λ i z y here e. h (suc i) z y here e))

-- what a holder's brick was heard to say
held_by : (brick : BrickNo) (ear : Ear WriteReply) (h : Holder) → holder_by brick ear ≡ Some h → (brick ≡ h.brick) × (ear ≡ Heard (Answered (Stored h.incarnation)))
held_by brick (Open stage) h e = absurd cc
held_by brick (Heard (Answered (Stored incarnation))) h e =
    let same : record { brick = brick; incarnation = incarnation } ≡ h = cc in
    (ap (λ (x : Holder). x.brick) same, (let f : Holder → Ear WriteReply = λ x. Heard (Answered (Stored x.incarnation)) in ap f same))
held_by brick (Heard (Answered (Full entries bytes))) h e = absurd cc
held_by brick (Heard Silent) h e = absurd cc
held_by brick (Heard Strayed) h e = absurd cc

ok_parts : (enough : Bool) (made cookie : Cookie) (turn : Option (Turn BrickNo)) (causes : List BrickCause) → (if enough then Some (Ok made) else missed_unless turn causes) ≡ Some (Ok cookie) → (enough ≡ true) × (cookie ≡ made)
ok_parts true made cookie turn causes h = (refl, cc)
ok_parts false made cookie (Some t) causes h = absurd cc
ok_parts false made cookie None causes h = absurd cc

missed_parts : (enough : Bool) (made : Cookie) (turn : Option (Turn BrickNo)) (all causes : List BrickCause) → (if enough then Some (Ok made) else missed_unless turn all) ≡ Some (Err (Missed causes)) → (enough ≡ false) × (turn ≡ None) × (causes ≡ all)
missed_parts true made turn all causes h = absurd cc
missed_parts false made (Some t) all causes h = absurd cc
missed_parts false made None all causes h = (refl, refl, cc)

-- each that was heard stored the value or has a cause
one_each : (brick : BrickNo) (ear : Ear WriteReply) (holders : List Holder) (causes : List BrickCause) (n : ℕ) → is_open (record { who = brick; ear = ear }) ≡ false → length holders + length causes ≡ n → length (cons_option (holder_by brick ear) holders) + length (cons_option (with_brick brick (cause_by ear)) causes) ≡ suc n
one_each brick (Open stage) holders causes n h k = absurd cc
one_each brick (Heard (Answered (Stored incarnation))) holders causes n h k = omega arith
one_each brick (Heard (Answered (Full entries bytes))) holders causes n h k = omega arith
one_each brick (Heard Silent) holders causes n h k = omega arith
one_each brick (Heard Strayed) holders causes n h k = omega arith

stored_or_missed : (ear_of : BrickNo → Ear WriteReply) (bricks : List BrickNo) → ((i : ℕ) (b : BrickNo) → slice_get bricks i ≡ Some b → is_open (record { who = b; ear = ear_of b }) ≡ false) → length (filter_map (λ b. holder_by b (ear_of b)) bricks) + length (filter_map (λ b. with_brick b (cause_by (ear_of b))) bricks) ≡ length bricks
stored_or_missed ear_of [] h = refl
stored_or_missed ear_of (b ∷ bricks) h =
    one_each b (ear_of b) (filter_map (λ x. holder_by x (ear_of x)) bricks) (filter_map (λ x. with_brick x (cause_by (ear_of x))) bricks) (length bricks) (h zero b refl) (stored_or_missed ear_of bricks (λ i x here. h (suc i) x here))

told_by : (lawful : Frame → Option WriteReply) (events : List Told) (brick : BrickNo) (why : Cause) (c : BrickCause) → Some (record { brick = brick; cause = why }) ≡ Some c → IsPutCause lawful events why → (brick ≡ c.brick) × IsPutCause lawful events c.cause
told_by lawful events brick why c e is =
    let same : record { brick = brick; cause = why } ≡ c = cc in
    let P : BrickCause → Type 0 = λ x. (brick ≡ x.brick) × IsPutCause lawful events x.cause in
    subst P same (refl, is)

-- a cause is told by the outcome
pub caused_by : (lawful : Frame → Option WriteReply) (events : List Told) (brick : BrickNo) (ear : Ear WriteReply) (c : BrickCause) → with_brick brick (cause_by ear) ≡ Some c → ((o : Outcome WriteReply) → ear ≡ Heard o → EndsIn lawful events o) → (brick ≡ c.brick) × IsPutCause lawful events c.cause
caused_by lawful events brick (Open stage) c e ends = absurd cc
caused_by lawful events brick (Heard (Answered (Stored incarnation))) c e ends = absurd cc
caused_by lawful events brick (Heard (Answered (Full entries bytes))) c e ends =
    told_by lawful events brick (cause.Full entries bytes) c e (ends (Answered (Full entries bytes)) refl)
caused_by lawful events brick (Heard Silent) c e ends = told_by lawful events brick cause.Silent c e (ends Silent refl)
caused_by lawful events brick (Heard Strayed) c e ends = told_by lawful events brick cause.Strayed c e (ends Strayed refl)

-- each that a cookie names gave a lawful Stored
pub named : (bricks : List BrickNo) (least : ℕ) (nonce : Version) (key : SessionKey) (expiry : Moment) (told : BrickNo → List Told) (cookie : Cookie) → answer_of least nonce key expiry (map (ask_by (λ (b : BrickNo). b) (put_lawful nonce key) told) bricks) ≡ Some (Ok cookie) → ((i : ℕ) (b : BrickNo) → slice_get bricks i ≡ Some b → Fits (ear_machine b (put_lawful nonce key b)) (Open Unasked) (told b)) → All (λ (h : Holder). EndsIn (put_lawful nonce key h.brick) (told h.brick) (Answered (Stored h.incarnation))) cookie.bricks
named bricks least nonce key expiry told cookie answers fitting =
    let asks = map (ask_by (λ (b : BrickNo). b) (put_lawful nonce key) told) bricks in
    let stored_of : BrickNo → Option Holder = λ b. holder_by b (ear_after (put_lawful nonce key b) (told b)) in
    let holders_are : filter_map holder_of asks ≡ filter_map stored_of bricks = filter_map_map holder_of (ask_by (λ (b : BrickNo). b) (put_lawful nonce key) told) bricks in
    let made : Cookie = record { key = key; version = nonce; expiry = expiry; bricks = take least (filter_map holder_of asks) } in
    let parts = ok_parts (nat_le least (length (filter_map holder_of asks))) made cookie (turn_after_asks asks) (filter_map cause_of asks) answers in
    let bricks_are : cookie.bricks ≡ take least (filter_map stored_of bricks) = ap (λ (c : Cookie). c.bricks) parts.1 ∙ ap (take least) holders_are in
    let Q : Holder → Type 0 = λ h. EndsIn (put_lawful nonce key h.brick) (told h.brick) (Answered (Stored h.incarnation)) in
    let each : (i : ℕ) (b : BrickNo) (h : Holder) → slice_get bricks i ≡ Some b → stored_of b ≡ Some h → Q h = λ i b h here e.
    let held = held_by b (ear_after (put_lawful nonce key b) (told b)) h e in
    let P : BrickNo → Type 0 = λ x. EndsIn (put_lawful nonce key x) (told x) (Answered (Stored h.incarnation)) in
    subst P held.0 (heard_so (put_lawful nonce key b) b (told b) (Answered (Stored h.incarnation)) (fitting i b here) held.1) in
    let All-of : List Holder → Type 0 = All Q in
    subst All-of (sym bricks_are) (All-take Q least (filter_map stored_of bricks) (all_found stored_of Q bricks each))

-- a write that was missed by what its bricks were told tells why
pub missed_told : (bricks : List BrickNo) (least : ℕ) (nonce : Version) (key : SessionKey) (expiry : Moment) (about : BrickNo → List Told) (causes : List BrickCause) → answer_of least nonce key expiry (map (ask_by (λ (b : BrickNo). b) (put_lawful nonce key) about) bricks) ≡ Some (Err (Missed causes)) → ((i : ℕ) (b : BrickNo) → slice_get bricks i ≡ Some b → Fits (ear_machine b (put_lawful nonce key b)) (Open Unasked) (about b)) → IsMissedBy bricks least nonce key about causes
missed_told bricks least nonce key expiry about causes answers fitting =
    let mk : BrickNo → Ask BrickNo WriteReply = ask_by (λ (b : BrickNo). b) (put_lawful nonce key) about in
    let asks = map mk bricks in
    let stored = filter_map (stored_of nonce key about) bricks in
    let made : Cookie = record { key = key; version = nonce; expiry = expiry; bricks = take least (filter_map holder_of asks) } in
    let holders_are : filter_map holder_of asks ≡ stored = filter_map_map holder_of mk bricks in
    let parts = missed_parts (nat_le least (length (filter_map holder_of asks))) made (turn_after_asks asks) (filter_map cause_of asks) causes answers in
    let few : length stored < least = rw (sym holders_are) (leb-false least (length (filter_map holder_of asks)) parts.0) in
    let causes_are : causes ≡ filter_map (missed_of nonce key about) bricks = parts.2 ∙ filter_map_map cause_of mk bricks in
    let ear_of : BrickNo → Ear WriteReply = λ b. ear_after (put_lawful nonce key b) (about b) in
    let each_heard : (i : ℕ) (b : BrickNo) → slice_get bricks i ≡ Some b → is_open (mk b) ≡ false = λ i b here.
    all_heard asks parts.1 i (mk b) (slice_get-map mk bricks i ∙ ap (option_map mk) here) in
    let Q : BrickCause → Type 0 = λ c. IsPutCause (put_lawful nonce key c.brick) (about c.brick) c.cause in
    let each : (i : ℕ) (b : BrickNo) (c : BrickCause) → slice_get bricks i ≡ Some b → missed_of nonce key about b ≡ Some c → Q c = λ i b c here e.
    let told = caused_by (put_lawful nonce key b) (about b) b (ear_of b) c e (λ o is. heard_so (put_lawful nonce key b) b (about b) o (fitting i b here) is) in
    let P : BrickNo → Type 0 = λ x. IsPutCause (put_lawful nonce key x) (about x) c.cause in
    subst P told.0 told.1 in
    let All-of : List BrickCause → Type 0 = All Q in
    record {
      few = few;
      causes_are = causes_are;
      all_heard = ap (λ cs. length stored + length cs) causes_are ∙ stored_or_missed ear_of bricks each_heard;
      told = subst All-of (sym causes_are) (all_found (missed_of nonce key about) Q bricks each);
    }

module _ {L : Type 0} (makes : L → LinkEvent → L → Type 0) (bricks : List BrickNo) (least : ℕ) (nonce : Version) (key : SessionKey) (expiry : Moment) (old new : L) where
  -- a cookie names who stored the value
  pub written : (cookie : Cookie) → WriteFacts makes bricks least nonce key expiry old new (Ok cookie) → IsWritten makes bricks least nonce key expiry old new cookie
  written cookie facts =
      let about : BrickNo → List Told = λ b. all_about b facts.calls_made in
      let mk : BrickNo → Ask BrickNo WriteReply = ask_by (λ (b : BrickNo). b) (put_lawful nonce key) about in
      let asks = map mk bricks in
      let stored = filter_map (stored_by nonce key facts.calls_made) bricks in
      let holders_are : filter_map holder_of asks ≡ stored = filter_map_map holder_of mk bricks in
      let made : Cookie = record { key = key; version = nonce; expiry = expiry; bricks = take least (filter_map holder_of asks) } in
      let parts = ok_parts (nat_le least (length (filter_map holder_of asks))) made cookie (turn_after_asks asks) (filter_map cause_of asks) facts.answers in
      let enough : least ≤ length stored = rw (sym holders_are) (leb-true least (length (filter_map holder_of asks)) parts.0) in
      let bricks_are : cookie.bricks ≡ take least stored = ap (λ (c : Cookie). c.bricks) parts.1 ∙ ap (take least) holders_are in
      record {
        calls = facts.calls_made;
        made = facts.made;
        key_is = ap (λ (c : Cookie). c.key) parts.1;
        version_is = ap (λ (c : Cookie). c.version) parts.1;
        expiry_is = ap (λ (c : Cookie). c.expiry) parts.1;
        enough = ap length bricks_are ∙ length-take-le least stored enough;
        first = bricks_are;
        stored = named bricks least nonce key expiry (λ b. all_about b facts.calls_made) cookie facts.answers facts.fitting;
      }

  pub missed_are : (causes : List BrickCause) (facts : WriteFacts makes bricks least nonce key expiry old new (Err (Missed causes))) → causes ≡ filter_map (missed_by nonce key facts.calls_made) bricks
  missed_are causes facts = (missed_told bricks least nonce key expiry (λ b. all_about b facts.calls_made) causes facts.answers facts.fitting).causes_are

  -- a write that was missed tells why
  pub missed : (causes : List BrickCause) → WriteFacts makes bricks least nonce key expiry old new (Err (Missed causes)) → IsMissed makes bricks least nonce key old new causes
  missed causes facts =
      let m = missed_told bricks least nonce key expiry (λ b. all_about b facts.calls_made) causes facts.answers facts.fitting in
      record {
        calls = facts.calls_made;
        made = facts.made;
        few = m.few;
        causes_are = m.causes_are;
        all_heard = m.all_heard;
        told = m.told;
      }

  -- by the same calls
  pub written-calls : (cookie : Cookie) (facts : WriteFacts makes bricks least nonce key expiry old new (Ok cookie)) → (written cookie facts).calls ≡ facts.calls_made
  unfolding written
  written-calls cookie facts = refl

  pub missed-calls : (causes : List BrickCause) (facts : WriteFacts makes bricks least nonce key expiry old new (Err (Missed causes))) → (missed causes facts).calls ≡ facts.calls_made
  unfolding missed
  missed-calls causes facts = refl
