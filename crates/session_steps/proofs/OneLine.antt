-- A line that changes the store alone, as a line about the whole sessions.
use Rattle.std.proofs.Common.{◌≡◌, ◌∙◌, refl, ap, Option, Some, None}
use Rattle.scenario_text.specs.declared.answer.LineAnswer.{LineAnswer}
use Rattle.scenario_text.specs.declared.answer.LineAnswer.TheVariants as answers
use Rattle.scenario_text.specs.Answer.{Answer, or_refused, within, KeepsRefused, answer_of}
use Rattle.session_steps.specs.Sessions.{SessionsState, with_store}
use Rattle.session_lanes.specs.Lanes.{LanesState}

answer_within : (s : SessionsState) (a : LineAnswer) (st : LanesState) → answer_of a (with_store s st) ≡ within (with_store s) (answer_of a st)
answer_within s answers.Refused st = refl
answer_within s answers.Done st = refl
answer_within s (answers.Wrote text) st = refl

or_within : {A : Type 0} (s : SessionsState) (o : Option A) (f : A → Answer LanesState) → within (with_store s) (or_refused o f) ≡ or_refused o (λ a. within (with_store s) (f a))
or_within s None f = refl
or_within s (Some a) f = refl

-- what the line answers
pub lane_line : {A : Type 0} (s : SessionsState) (a : LineAnswer) (st : LanesState) (o : Option A) (f : A → Answer LanesState) → answer_of a st ≡ or_refused o f → answer_of a (with_store s st) ≡ or_refused o (λ a. within (with_store s) (f a))
lane_line s a st o f is = answer_within s a st ∙ (ap (within (with_store s)) is ∙ or_within s o f)

-- where it is refused
pub lane_refused : (s : SessionsState) (a : LineAnswer) (old new : LanesState) → KeepsRefused a old new → KeepsRefused a (with_store s old) (with_store s new)
lane_refused s answers.Refused old new same = ap (with_store s) same
lane_refused s answers.Done old new same = tt
lane_refused s (answers.Wrote text) old new same = tt
