-- The windows that were full where passes were refused for the requests of a connection.
use Rattle.std.specs.Prelude.{IfSome, option_to_list}
use Rattle.std.proofs.Common.{◌≡◌, ℕ, inl, inr, true, List, [], ◌∷◌, ◌++◌, Option, Some, None, refl, sym, ap, ◌∙◌}
use Rattle.std.proofs.lemmas.List.{append-nil}
use Rattle.crash_base.specs.declared.numbers.Moment.{Moment}
use Rattle.crash_base.specs.declared.numbers.Place.{Place}
use Rattle.http_wire.specs.declared.taken.Head.{Head}
use Rattle.http_wire.specs.declared.taken.Taken.{Taken}
use Rattle.http_wire.specs.declared.taken.Taken.TheVariants as took
use Rattle.outcome_items.specs.declared.item.Item.{Item}
use Rattle.outside.specs.declared.link.LinkCounts.{LinkCounts}
use Rattle.request_intake.specs.Intakes.{Gives, Looks}
use Rattle.request_intake.specs.declared.intake.Admission.{Admission}
use Rattle.request_intake.specs.declared.intake.Arrival.{Arrival}
use Rattle.request_intake.specs.declared.intake.Arrival.TheVariants as arrival
use Rattle.request_intake.specs.declared.intake.HomeBoot.{HomeBoot}
use Rattle.request_visit.specs.Stepping.{VisitsWindows}
use Rattle.request_visit.specs.Visits.{overloaded}
use Rattle.request_visit.specs.declared.facts.VisitFacts.{VisitFacts}
use Rattle.request_visit.specs.declared.visit.Visit.{Visit}
use Rattle.request_visit.specs.declared.visit.Work.{Work}
use Rattle.request_visit.specs.declared.visit.Work.TheVariants.{Reading, Opening, Serving as ServingBy, Committed, Decided, Answered, Left}
use Rattle.send_windows.specs.Windows.{WindowsValue}
use Rattle.send_windows.specs.declared.fact.WindowFact.{WindowFact}
use Rattle.session_cookie.specs.declared.cookie.Cookie.{Cookie}
use Rattle.session_way.specs.declared.way.SessionWay.{SessionWay}
use Rattle.session_way.specs.declared.way.SessionWay.TheVariants as way
use Rattle.shepherd.specs.Shepherds.{turn}
use Rattle.shepherd.specs.Steps.{StepsVisit, TakesBy, admitted_visit, begun_by, facts_of}
use Rattle.shepherd.specs.declared.shepherd.AskedCall.{AskedCall}
use Rattle.shepherd.specs.declared.shepherd.Shepherd.{Shepherd}
use Rattle.shepherd.specs.declared.shepherd.Stage.{Stage}
use Rattle.shepherd.specs.declared.shepherd.Stage.TheVariants.{Resting, Serving, Refusing, Over}
use Rattle.served_connections.specs.Findings.{Finds, found_at, found_by, found_in_all}
use Rattle.served_connections.specs.Full.{IsFoundFull, full_in}
use Rattle.served_connections.proofs.Findings.{IsToldElsewhere, given_found, none_before, same_found, takes_next}
use Rattle.send_windows.specs.declared.windows.TakeRefusal.TheVariants.{Overload}
use Rattle.session_way.specs.Way.{IsRefused}
use Rattle.request_visit.specs.Stepping.{IsOverloaded}

pub full_elsewhere : IsToldElsewhere full_in
full_elsewhere = record { ended = λ end. refl; expired = λ now expiry. refl; lost = λ causes. refl; missed = λ place again causes. refl }

refused_full : (w after : SessionWay) (windows behind : WindowsValue) (full : List WindowFact) → IsRefused w windows after behind (Overload full) → IsFoundFull windows behind full
refused_full way.Resting after windows behind full r = absurd r
refused_full (way.Reading x) after windows behind full r = absurd r
refused_full (way.Ordered order) after windows behind full r =
    record { few = r.1.0; full_are = r.1.1; refused = ap (λ (x : WindowsValue). x.history) r.1.2 }
refused_full (way.Writing x) after windows behind full r = absurd r
refused_full (way.Settling x) after windows behind full r = absurd r
refused_full (way.Holding passes) after windows behind full r = absurd r

-- A step of the windows found these full, if passes were refused at it.
pub record FindsNext {P : Type 0} (full : List (List WindowFact)) (items : List Item) (new : Stage P) (windows after : WindowsValue) : Type 0 where
  pub told : Option (List WindowFact)
  pub found : IfSome told (λ one. IsFoundFull windows after one)
  pub finds : Finds full_in (full ++ option_to_list told) items new

module _ {P : Type 0} (full : List (List WindowFact)) (items : List Item) (old new : Stage P) (windows after : WindowsValue) (finds : Finds full_in full items old) where
  none_next : found_at full_in new ≡ found_at full_in old → FindsNext full items new windows after
  none_next same = record { told = None; found = tt; finds = append-nil full ∙ same_found full_in full_elsewhere full items old new same finds }

  one_next : (one : List WindowFact) → IsFoundFull windows after one → found_at full_in old ≡ None → found_at full_in new ≡ Some one → FindsNext full items new windows after
  one_next one found before behind =
      let all : List (List WindowFact) = found_in_all full_in items in
      record {
        told = Some one;
        found = found;
        finds = ap (λ (l : List (List WindowFact)). l ++ one ∷ []) (finds ∙ (ap (λ (o : Option (List WindowFact)). all ++ option_to_list o) before ∙ append-nil all))
            ∙ ap (λ (o : Option (List WindowFact)). all ++ option_to_list o) (sym behind);
      }

  overloaded_next : (v w : Visit P) (call : Option AskedCall) → old ≡ Serving v call → new ≡ Serving w call → IsOverloaded v windows w after → FindsNext full items new windows after
  overloaded_next v w call was is o = by v.work refl where
    found : IsFoundFull windows after o.full
    found = refused_full v.way w.way windows after o.full o.refused

    here : found_at full_in new ≡ found_by full_in (overloaded o.full v.work)
    here = ap (λ (x : Stage P). found_at full_in x) is ∙ ap (λ (x : Visit P). found_by full_in x.work) o.new_is

    there : found_at full_in old ≡ found_by full_in v.work
    there = ap (λ (x : Stage P). found_at full_in x) was

    on : (work : Work P) → v.work ≡ work → found_by full_in (overloaded o.full work) ≡ found_by full_in work → FindsNext full items new windows after
    on work at same = none_next (here ∙ (ap (λ (x : Work P). found_by full_in (overloaded o.full x)) at ∙ (same ∙ (sym (ap (λ (x : Work P). found_by full_in x) at) ∙ sym there))))

    by : (work : Work P) → v.work ≡ work → FindsNext full items new windows after
    by Reading at = on Reading at refl
    by Opening at = on Opening at refl
    by (ServingBy tries program) at = on (ServingBy tries program) at refl
    by (Committed place again shown) at = one_next o.full found (there ∙ ap (λ (x : Work P). found_by full_in x) at) (here ∙ ap (λ (x : Work P). found_by full_in (overloaded o.full x)) at)
    by (Decided became) at = on (Decided became) at refl
    by (Answered fate bytes) at = on (Answered fate bytes) at refl
    by (Left fate) at = on (Left fate) at refl

  -- Behind a step of the windows.
  pub windows_full : StepsVisit (λ v w. VisitsWindows v windows w after) old new → FindsNext full items new windows after
  windows_full steps = by old refl steps where
    made : (v w : Visit P) (call : Option AskedCall) → old ≡ Serving v call → new ≡ Serving w call → VisitsWindows v windows w after → FindsNext full items new windows after
    made v w call was is (inl given) =
        none_next (ap (λ (x : Stage P). found_at full_in x) is ∙ (given_found full_in full_elsewhere v w windows after given ∙ sym (ap (λ (x : Stage P). found_at full_in x) was)))
    made v w call was is (inr refused) = overloaded_next v w call was is refused

    by : (x : Stage P) → old ≡ x → StepsVisit (λ v w. VisitsWindows v windows w after) x new → FindsNext full items new windows after
    by Resting was steps = absurd steps
    by (Serving v call) was steps = made v steps.0 call was steps.2 steps.1
    by (Refusing why bytes) was steps = absurd steps
    by (Over end) was steps = absurd steps

admitted_full : (P : Type 0) (facts : VisitFacts) (counts : LinkCounts) (a : Admission) (cookie : Option Cookie) → found_at full_in (admitted_visit {P = P} facts counts a cookie) ≡ None
admitted_full P facts counts a None = refl
admitted_full P facts counts a (Some cookie) = refl

begun_full : (P : Type 0) (front : Place) (counts : LinkCounts) (head : Head) (now : Moment) (a : Arrival) → found_at full_in (begun_by {P = P} front counts head now a) ≡ None
begun_full P front counts head now (arrival.Refused why) = refl
begun_full P front counts head now (arrival.SerialsSpent request seen) = refl
begun_full P front counts head now (arrival.Admitted a) = admitted_full P (facts_of a now front head) counts a a.cookie

-- Behind a request that was taken off the bytes.
pub taken_full : {P C R S : Type 0} (told : C → ℕ) (gives : Gives R) (looks : Looks S) (key : List ℕ) (home : HomeBoot) (counts : LinkCounts) (full : List (List WindowFact)) (items : List Item) (t : Taken) (s : Shepherd P) (clock : C) (random : R) (serials : S) (new : Shepherd P)
    (clock_after : C) (random_after : R) (serials_after : S) → takes_next (turn s) ≡ true → TakesBy told gives looks key home counts t s clock random serials new clock_after random_after serials_after → Finds full_in full items s.stage → Finds full_in full items new.stage
taken_full {P} told gives looks key home counts full items t s clock random serials new clock_after random_after serials_after is takes finds =
    same_found full_in full_elsewhere full items s.stage new.stage (by t takes ∙ sym (none_before full_in full_elsewhere s is)) finds
  where
    to : (stage : Stage P) → new.stage ≡ stage → found_at full_in stage ≡ None → found_at full_in new.stage ≡ None
    to stage same none = ap (λ (x : Stage P). found_at full_in x) same ∙ none

    by : (x : Taken) → TakesBy told gives looks key home counts x s clock random serials new clock_after random_after serials_after → found_at full_in new.stage ≡ None
    by (took.Request head) b =
        to (begun_by s.front counts head b.intake.now b.intake.arrival) (ap (λ (x : Shepherd P). x.stage) b.new_is) (begun_full P s.front counts head b.intake.now b.intake.arrival)
    by took.Bad b = to _ (ap (λ (x : Shepherd P). x.stage) b.new_is) refl
    by (took.TooLong len lines) b = to _ (ap (λ (x : Shepherd P). x.stage) b.new_is) refl
    by took.NoCoding b = to _ (ap (λ (x : Shepherd P). x.stage) b.new_is) refl
    by (took.BodyTooLong said) b = to _ (ap (λ (x : Shepherd P). x.stage) b.new_is) refl
    by took.More b = absurd b
