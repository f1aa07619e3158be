-- How reads and writes end.
use Rattle.std.proofs.Common.{◌≡◌, ap, refl, subst, ℕ, ◌<◌, Bool, true, false, List, [], ◌∷◌, map, filter_map, Option, Some, None, Result, Err}
use Rattle.std.proofs.lemmas.Bool.{lt-ltb, ltb-true}
use Rattle.std.specs.Prelude.{if◌then◌else◌, nat_lt}
use Rattle.crash_base.specs.declared.numbers.Moment.{Moment}
use Rattle.outside.specs.declared.link.LinkEvent.{LinkEvent}
use Rattle.outside.specs.Link.{Made}
use Rattle.session_cookie.specs.declared.cookie.Holder.{Holder}
use Rattle.ssm_frames.specs.Spelling.{encode_of}
use Rattle.ssm_stub.specs.declared.ask.Turn.{Turn}
use Rattle.ssm_stub.specs.declared.cause.BrickCause.{BrickCause}
use Rattle.ssm_stub.specs.declared.event.StubEvent.{StubEvent}
use Rattle.ssm_stub.specs.declared.event.StubNext.TheVariants.{Ended}
use Rattle.ssm_stub.specs.declared.read_call.ReadRefusal.{ReadRefusal}
use Rattle.ssm_stub.specs.declared.read_call.ReadRefusal.TheVariants.{Expired, OutOfMemory}
use Rattle.ssm_stub.specs.Reads.{ReadState, found_in, found_or, loss_of, lost_unless, read_answer, read_ask, read_machine, read_next}
use Rattle.ssm_stub.specs.Runs.{Ran, calls, told_of}
use Rattle.ssm_stub.specs.Turns.{turn_in_order}
use Rattle.ssm_stub.proofs.Concluding.{read-answered}
use Rattle.ssm_stub.proofs.ReadEnding.{hears_nothing}

-- a read that has not expired answers a value, or that it was lost
pub not_expired : (found : Option (List ℕ)) (turn : Option (Turn Holder)) (causes : List BrickCause) (now expiry : Moment) → found_or found (lost_unless turn causes) ≡ Some (Err (Expired now expiry)) → ⊥
not_expired (Some value) turn causes now expiry h = cc
not_expired None (Some turn) causes now expiry h = cc
not_expired None None causes now expiry h = cc

-- no read answers that it wanted memory
pub not_wanting : (test : Bool) (found : Option (List ℕ)) (turn : Option (Turn Holder)) (causes : List BrickCause) (now expiry : Moment) → (if test then Some (Err (Expired now expiry)) else found_or found (lost_unless turn causes)) ≡ Some (Err OutOfMemory) → ⊥
not_wanting true found turn causes now expiry h = cc
not_wanting false (Some value) turn causes now expiry h = cc
not_wanting false None (Some turn) causes now expiry h = cc
not_wanting false None None causes now expiry h = cc

-- a read that has ended has an answer, and it is not that memory was wanted
pub has_answer : (s : ReadState) → read_next s ≡ Ended → read_answer s ≡ None → ⊥
has_answer s ended none = read-answered s ended none

pub wants_no_memory : (s : ReadState) → read_answer s ≡ Some (Err OutOfMemory) → ⊥
wants_no_memory s h = not_wanting (nat_lt s.expiry.0 s.moment.0) (found_in s.asks) (turn_in_order s.asks) (filter_map loss_of s.asks) s.moment s.expiry h

-- a read of a moment past the expiry answers so
pub expired_answer : (s : ReadState) → s.expiry.0 < s.moment.0 → read_answer s ≡ Some (Err (Expired s.moment s.expiry))
expired_answer s past =
    ap (λ (test : Bool). if test then Some (Err (Expired s.moment s.expiry)) else found_or (found_in s.asks) (lost_unless (turn_in_order s.asks) (filter_map loss_of s.asks))) (lt-ltb s.expiry.0 s.moment.0 past)

by_test : (test : Bool) (found : Option (List ℕ)) (turn : Option (Turn Holder)) (causes : List BrickCause) (now expiry at until : Moment) → (if test then Some (Err (Expired now expiry)) else found_or found (lost_unless turn causes)) ≡ Some (Err (Expired at until)) → test ≡ true
by_test true found turn causes now expiry at until h = refl
by_test false found turn causes now expiry at until h = absurd (not_expired found turn causes at until h)

-- a read answers so only past the expiry
pub answered_expired : (s : ReadState) (at expiry : Moment) → read_answer s ≡ Some (Err (Expired at expiry)) → s.expiry.0 < s.moment.0
answered_expired s at expiry h =
    ltb-true s.expiry.0 s.moment.0 (by_test (nat_lt s.expiry.0 s.moment.0) (found_in s.asks) (turn_in_order s.asks) (filter_map loss_of s.asks) s.moment s.expiry at expiry h)

no_events : (events : List StubEvent) → map told_of events ≡ [] → events ≡ []
no_events [] h = refl
no_events (event ∷ events) h = cc

-- a read that has an answer from its begin leaves the link as it was
pub untouched : {L : Type 0} (makes : L → LinkEvent → L → Type 0) (start : ReadState) (old : L) (events : List StubEvent) (here : ReadState) (new : L) (answer : Result (List ℕ) ReadRefusal) → read_answer start ≡ Some answer → Ran read_machine makes (encode_of (read_ask start)) start old events here new → old ≡ new
untouched {L} makes start old events here new answer answers ran =
    let none : events ≡ [] = no_events events (hears_nothing (map told_of events) start answer answers ran.fitting) in
    let Making : List StubEvent → Type 0 = λ more. Made makes old (calls read_machine (encode_of (read_ask start)) start more) new in
    subst Making none ran.made
