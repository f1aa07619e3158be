use Rattle.std.proofs.Common.{refl, ap, Option}
use Rattle.std.specs.Prelude.{option_map}
use Rattle.request_decisions.specs.Calls.{call_by, user_of}
use Rattle.request_visit.specs.Advancing.{value_of}
use Rattle.session_way.specs.declared.lease.SessionLease.{SessionLease}
use Rattle.shepherd.proofs.Begun.{begins_so}
use Rattle.shepherd.proofs.serving.requests_are_served_as_they_came.Goals as goal

pub returns-clause-begins : goal.returns-clause-begins
returns-clause-begins g c = λ key home counts head s new clock clock_after random random_after serials serials_after h a admitted.
    begins_so s.front counts head h.intake.now h.intake.arrival a new.stage (ap (λ x. x.stage) h.new_is) admitted

pub returns-clause-opens : goal.returns-clause-opens
returns-clause-opens g c = λ maker worker v after asked h. (
  call_by asked.call (option_map value_of v.lease),
  h.text,
  h.program,
  h.made,
  ap (λ x. x.work) h.new_is,
  refl,
  λ none. ap (λ (o : Option SessionLease). user_of (option_map value_of o)) none,
  λ l some. ap (λ (o : Option SessionLease). user_of (option_map value_of o)) some,
)
