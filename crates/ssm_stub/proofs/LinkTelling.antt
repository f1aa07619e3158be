-- The calls of a link tell each brick what it is told in the run, and a write up to its answer is a run.
use Rattle.std.proofs.Common.{◌≡◌, ◌∙◌, ap, refl, subst, ℕ, ◌==◌, Bool, true, false, IsTrue, if◌then◌else◌, List, [], ◌∷◌, ◌++◌, map, Option, Some, None}
use Rattle.std.specs.List.{cons_option}
use Rattle.std.proofs.lemmas.List.Elements.{filter_map-append}
use Rattle.crash_base.specs.declared.numbers.BrickNo.{BrickNo}
use Rattle.ssm_stub.specs.declared.event.StubEvent.{StubEvent}
use Rattle.ssm_stub.specs.declared.event.StubEvent.TheVariants.{Sent, Frame, Silent}
use Rattle.ssm_stub.specs.declared.event.StubNext.{StubNext}
use Rattle.ssm_stub.specs.declared.event.StubNext.TheVariants.{Send, Receive, Ended}
use Rattle.ssm_stub.specs.declared.event.Told.{Told}
use Rattle.ssm_stub.specs.Turns.{next_unless}
use Rattle.ssm_stub.specs.Runs.{Machine, told_of, fits, call_of, Fits, calls}
use Rattle.ssm_stub.specs.Writes.{WriteState, write_answer, write_next, write_machine, write_until, hear_write}
use Rattle.ssm_stub.specs.Hearing.{about, all_about, is_of, told_to}

one_if : {X : Type 0} (mine : Bool) (x : X) → cons_option (if mine then Some x else None) [] ≡ (if mine then x ∷ [] else [])
one_if true x = refl
one_if false x = refl

-- a call tells the brick of which the step is wanted
call_tells : (ask : List ℕ) (brick : BrickNo) (next : StubNext) (event : StubEvent) → IsTrue (fits next (told_of event)) → all_about brick (call_of ask next event) ≡ (if is_of brick next then told_of event ∷ [] else [])
call_tells ask brick (Send to) Sent h = one_if (to.0 == brick.0) (told_of Sent)
call_tells ask brick (Send to) (Frame bytes) h = cc
call_tells ask brick (Send to) Silent h = one_if (to.0 == brick.0) (told_of Silent)
call_tells ask brick (Receive from) Sent h = cc
call_tells ask brick (Receive from) (Frame bytes) h = one_if (from.0 == brick.0) (told_of (Frame bytes))
call_tells ask brick (Receive from) Silent h = one_if (from.0 == brick.0) (told_of Silent)
call_tells ask brick Ended event h = cc

one_more : {X : Type 0} (mine : Bool) (x : X) (xs : List X) → (if mine then x ∷ [] else []) ++ xs ≡ (if mine then x ∷ xs else xs)
one_more true x xs = refl
one_more false x xs = refl

-- what the calls of a run tell of a brick is what it is told in the run
pub calls_tell : {S : Type 0} (m : Machine S) (ask : List ℕ) (brick : BrickNo) (events : List StubEvent) (s : S) → Fits m s (map told_of events) → all_about brick (calls m ask s events) ≡ told_to m s (map told_of events) brick
calls_tell m ask brick [] s fitting = refl
calls_tell m ask brick (event ∷ events) s (first, rest) =
    let later = calls m ask (m.hear s (told_of event)) events in
    filter_map-append (about brick) (call_of ask (m.next s) event) later
    ∙ (ap (λ xs. xs ++ all_about brick later) (call_tells ask brick (m.next s) event first)
    ∙ (ap (λ xs. (if is_of brick (m.next s) then told_of event ∷ [] else []) ++ xs) (calls_tell m ask brick events (m.hear s (told_of event)) rest)
    ∙ one_more (is_of brick (m.next s)) (told_of event) (told_to m (m.hear s (told_of event)) (map told_of events) brick)))

unanswered-next : {X : Type 0} (answer : Option X) (next : StubNext) (told : Told) → IsTrue (fits (next_unless answer next) told) → next_unless answer next ≡ next
unanswered-next (Some answer) next told h = cc
unanswered-next None next told h = refl

-- a write up to its answer fits the write that goes on
pub until-fits : (events : List Told) (s : WriteState) → Fits write_until s events → Fits write_machine s events
until-fits [] s h = tt
until-fits (told ∷ events) s (first, rest) =
    (let P : StubNext → Type 0 = λ next. IsTrue (fits next told) in subst P (unanswered-next (write_answer s) (write_next s) told first) first, until-fits events (hear_write s told) rest)

-- by the same calls of the link
pub until-calls : (ask : List ℕ) (events : List StubEvent) (s : WriteState) → Fits write_until s (map told_of events) → calls write_until ask s events ≡ calls write_machine ask s events
until-calls ask [] s h = refl
until-calls ask (event ∷ events) s (first, rest) =
    ap (λ next. call_of ask next event ++ calls write_until ask (hear_write s (told_of event)) events) (unanswered-next (write_answer s) (write_next s) (told_of event) first)
    ∙ ap (λ later. call_of ask (write_next s) event ++ later) (until-calls ask events (hear_write s (told_of event)) rest)
