-- The serial numbers that were found spent for the requests of a connection.
use Rattle.std.specs.Prelude.{IfSome}
use Rattle.std.proofs.Common.{◌≡◌, ℕ, inl, inr, List, Option, Some, None, refl, sym, ap, ◌∙◌, subst}
use Rattle.crash_base.specs.declared.numbers.Place.{Place}
use Rattle.http_wire.specs.declared.taken.Head.{Head}
use Rattle.http_wire.specs.declared.taken.Taken.{Taken}
use Rattle.http_wire.specs.declared.taken.Taken.TheVariants as took
use Rattle.outside.specs.declared.link.LinkCounts.{LinkCounts}
use Rattle.request_decisions.specs.declared.decision.Decision.{Decision}
use Rattle.request_decisions.specs.declared.decision.Decision.TheVariants as decided
use Rattle.request_intake.specs.Intakes.{Gives, Looks, TakesInBy, TakesInOrder}
use Rattle.request_intake.specs.declared.intake.Admission.{Admission}
use Rattle.request_intake.specs.declared.intake.Arrival.{Arrival}
use Rattle.request_intake.specs.declared.intake.Arrival.TheVariants as arrival
use Rattle.request_intake.specs.declared.intake.HomeBoot.{HomeBoot}
use Rattle.request_intake.specs.declared.intake.Intake.{Intake}
use Rattle.request_visit.specs.Stepping.{VisitsWindows}
use Rattle.request_visit.specs.Visits.{overloaded}
use Rattle.request_visit.specs.declared.facts.VisitFacts.{VisitFacts}
use Rattle.request_visit.specs.declared.visit.Visit.{Visit}
use Rattle.request_visit.specs.declared.visit.Work.{Work}
use Rattle.request_visit.specs.declared.visit.Work.TheVariants.{Reading, Opening, Serving as ServingBy, Committed, Decided, Answered, Left}
use Rattle.send_windows.specs.Windows.{WindowsValue}
use Rattle.send_windows.specs.declared.fact.WindowFact.{WindowFact}
use Rattle.session_cookie.specs.declared.cookie.Cookie.{Cookie}
use Rattle.shepherd.specs.Steps.{TakesBy, admitted_visit, begun_by, facts_of}
use Rattle.shepherd.specs.declared.shepherd.Shepherd.{Shepherd}
use Rattle.shepherd.specs.declared.shepherd.Stage.{Stage}
use Rattle.served_connections.specs.Findings.{found_at, found_by}
use Rattle.served_connections.specs.Spent.{IsFoundSpent, spent_in}
use Rattle.served_connections.proofs.Findings.{IsToldElsewhere, given_found}

pub spent_elsewhere : IsToldElsewhere spent_in
spent_elsewhere = record { ended = λ end. refl; expired = λ now expiry. refl; lost = λ causes. refl; missed = λ place again causes. refl }

full_spent : {P : Type 0} (full : List WindowFact) (work : Work P) → found_by spent_in (overloaded full work) ≡ found_by spent_in work
full_spent full Reading = refl
full_spent full Opening = refl
full_spent full (ServingBy tries program) = refl
full_spent full (Committed place again shown) = refl
full_spent full (Decided became) = refl
full_spent full (Answered fate bytes) = refl
full_spent full (Left fate) = refl

pub windows_spent : {P : Type 0} (v w : Visit P) (windows after : WindowsValue) → VisitsWindows v windows w after → found_by spent_in w.work ≡ found_by spent_in v.work
windows_spent {P} v w windows after (inl given) = given_found spent_in spent_elsewhere v w windows after given
windows_spent {P} v w windows after (inr refused) = ap (λ (x : Visit P). found_by spent_in x.work) refused.new_is ∙ full_spent refused.full v.work

admitted_spent : (P : Type 0) (facts : VisitFacts) (counts : LinkCounts) (a : Admission) (cookie : Option Cookie) → found_at spent_in (admitted_visit {P = P} facts counts a cookie) ≡ None
admitted_spent P facts counts a None = refl
admitted_spent P facts counts a (Some cookie) = refl

module _ {P C R S : Type 0} (told : C → ℕ) (gives : Gives R) (looks : Looks S) (key : List ℕ) (home : HomeBoot) (counts : LinkCounts) (s : Shepherd P) (clock : C) (random : R) (serials : S) (new : Shepherd P) (clock_after : C) (random_after : R) (serials_after : S) where
  abbrev Found : Option ℕ → Type 0
  Found spent = IfSome spent (λ seen. IsFoundSpent gives looks random serials seen random_after serials_after)

  ordered : (front : Place) (head : Head) (i : Intake) (d : Decision) → TakesInBy gives looks key home d random serials i random_after serials_after → Found (found_at spent_in (begun_by {P = P} front counts head i.now i.arrival))
  ordered front head i (decided.Refused why) takes = subst (λ (a : Arrival). Found (found_at spent_in (begun_by {P = P} front counts head i.now a))) (sym takes.0) tt
  ordered front head i (decided.Ordered o) takes = by i.arrival takes where
    by : (a : Arrival) → TakesInOrder gives looks key home o i.now random serials i.drawn a random_after serials_after → Found (found_at spent_in (begun_by {P = P} front counts head i.now a))
    by (arrival.Refused why) x = absurd x
    by (arrival.SerialsSpent request seen) x = record { drawn = i.drawn; before = x.0.before; drew = x.0.drawn_are; looked = x.0.looked; past = x.0.past }
    by (arrival.Admitted a) x = subst Found (sym (admitted_spent P (facts_of a i.now front head) counts a a.cookie)) tt

  -- The serial number that is found spent for a request that is taken off the bytes was looked at for it.
  pub taken_spent : (t : Taken) → TakesBy told gives looks key home counts t s clock random serials new clock_after random_after serials_after → Found (found_at spent_in new.stage)
  taken_spent (took.Request head) takes =
      subst (λ (x : Stage P). Found (found_at spent_in x)) (sym (ap (λ (x : Shepherd P). x.stage) takes.new_is)) (ordered s.front head takes.intake takes.taken_in.decision takes.taken_in.follows)
  taken_spent took.Bad takes = subst (λ (x : Stage P). Found (found_at spent_in x)) (sym (ap (λ (x : Shepherd P). x.stage) takes.new_is)) tt
  taken_spent (took.TooLong len lines) takes = subst (λ (x : Stage P). Found (found_at spent_in x)) (sym (ap (λ (x : Shepherd P). x.stage) takes.new_is)) tt
  taken_spent took.NoCoding takes = subst (λ (x : Stage P). Found (found_at spent_in x)) (sym (ap (λ (x : Shepherd P). x.stage) takes.new_is)) tt
  taken_spent (took.BodyTooLong said) takes = subst (λ (x : Stage P). Found (found_at spent_in x)) (sym (ap (λ (x : Shepherd P). x.stage) takes.new_is)) tt
  taken_spent took.More takes = absurd takes
