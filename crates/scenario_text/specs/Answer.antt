-- What a line of a scenario answers.
use Rattle.std.specs.Prelude.{◌≡◌, ℕ, Bool, true, false, List, [], Option, Some, None, string_bytes}
use Rattle.scenario_text.specs.declared.answer.LineAnswer.{LineAnswer}
use Rattle.scenario_text.specs.declared.answer.LineAnswer.TheVariants as answers

-- A line is refused, or is done: the state that it leaves, and what it writes.
pub data Answer (S : Type 0) : Type 0 where
  Refused : Answer S
  Done : (state : S) (text : List ℕ) → Answer S

-- refused where the test holds
abbrev pub refused_if : {S : Type 0} → Bool → Answer S → Answer S
refused_if true answer = Refused
refused_if false answer = answer

-- refused where there is nothing to go on with
abbrev pub or_refused : {A S : Type 0} → Option A → (A → Answer S) → Answer S
or_refused None f = Refused
or_refused (Some a) f = f a

-- the answer of a part, as an answer of the whole
abbrev pub within : {A S : Type 0} → (A → S) → Answer A → Answer S
within whole Refused = Refused
within whole (Done part text) = Done (whole part) text

-- what the code answers, with the state that it leaves
abbrev pub answer_of : {S : Type 0} → LineAnswer → S → Answer S
answer_of answers.Refused s = Refused
answer_of answers.Done s = Done s []
answer_of (answers.Wrote text) s = Done s (string_bytes text)

-- A line that is refused leaves the state as it was.
abbrev pub KeepsRefused : {S : Type 0} → LineAnswer → S → S → Type 0
KeepsRefused answers.Refused old new = new ≡ old
KeepsRefused answers.Done old new = Unit {0}
KeepsRefused (answers.Wrote text) old new = Unit {0}
