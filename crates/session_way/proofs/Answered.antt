-- Ways that want nothing more, and their answers.
use Rattle.std.proofs.Common.{◌≡◌, ◌∙◌, ap, refl, Bool, true, false, nat_le, if◌then◌else◌, List, length, take, filter_map, Option, Some, None, Ok, Err}
use Rattle.crash_base.specs.declared.numbers.BrickNo.{BrickNo}
use Rattle.session_cookie.specs.declared.cookie.Cookie.{Cookie}
use Rattle.ssm_stub.specs.declared.ask.Turn.{Turn}
use Rattle.ssm_stub.specs.declared.cause.BrickCause.{BrickCause}
use Rattle.ssm_stub.specs.declared.event.StubNext.{StubNext}
use Rattle.ssm_stub.specs.declared.event.StubNext.TheVariants.{Send, Receive, Ended}
use Rattle.ssm_stub.specs.declared.write_call.WriteRefusal.TheVariants.{OutOfMemory}
use Rattle.ssm_stub.specs.Reads.{ReadState, read_answer, read_next}
use Rattle.ssm_stub.specs.Turns.{next_unless, turn_after_asks}
use Rattle.ssm_stub.specs.Writes.{WriteState, cause_of, holder_of, missed_unless, write_answer, write_next, write_until}
use Rattle.ssm_stub.proofs.Concluding.{read-answered, write-answered}
use Rattle.session_way.specs.declared.way.Wants.TheVariants.{Nothing, Windows}
use Rattle.session_way.specs.Way.{outside_or}
use Rattle.session_way.proofs.Settled.{wants_nothing}

-- where nothing is wanted, the machine has ended
ended : (next : StubNext) → outside_or Nothing next ≡ Nothing → next ≡ Ended
ended (Send brick) h = absurd cc
ended (Receive brick) h = absurd cc
ended Ended h = refl

pub read_answered : (here : ReadState) → outside_or Nothing (read_next here) ≡ Nothing → read_answer here ≡ None → ⊥
read_answered here wants none = read-answered here (ended (read_next here) wants) none

pub write_answered : (here : WriteState) → outside_or Nothing (write_until.next here) ≡ Nothing → write_answer here ≡ None → ⊥
write_answered here wants none = write-answered here (ended (write_until.next here) wants) none

-- what has ended has ended up to its answer
ended_until : {X : Type 0} (answer : Option X) → next_unless answer Ended ≡ Ended
ended_until None = refl
ended_until (Some answer) = refl

pub settled_answered : (here : WriteState) → outside_or Windows (write_next here) ≡ Windows → write_answer here ≡ None → ⊥
settled_answered here wants none =
    let all : write_next here ≡ Ended = wants_nothing (write_next here) wants in
    let until : write_until.next here ≡ Ended = ap (λ next. next_unless (write_answer here) next) all ∙ ended_until (write_answer here) in
    write-answered here until none

not_wanting : (test : Bool) (cookie : Cookie) (turn : Option (Turn BrickNo)) (causes : List BrickCause) → (if test then Some (Ok cookie) else missed_unless turn causes) ≡ Some (Err OutOfMemory) → ⊥
not_wanting true cookie turn causes h = cc
not_wanting false cookie (Some t) causes h = cc
not_wanting false cookie None causes h = cc

-- no write answers that memory was wanted
pub write_wants_no_memory : (s : WriteState) → write_answer s ≡ Some (Err OutOfMemory) → ⊥
write_wants_no_memory s h =
    let holders = filter_map holder_of s.asks in
    not_wanting (nat_le s.least (length holders)) (record { key = s.key; version = s.nonce; expiry = s.expiry; bricks = take s.least holders }) (turn_after_asks s.asks) (filter_map cause_of s.asks) h
