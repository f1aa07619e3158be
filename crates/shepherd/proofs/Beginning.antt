-- A request that is taken off the bytes has added nothing, and left no mark.
use Rattle.std.proofs.Common.{◌≡◌, ℕ, List, [], refl, sym, ap, subst, Option, Some, None}
use Rattle.boot_core.specs.declared.boot.Start.{Start}
use Rattle.call_ticket.specs.declared.next.Answer.{Answer}
use Rattle.call_ticket.specs.declared.next.Next.{Next}
use Rattle.call_ticket.specs.declared.next.Next.TheVariants as next
use Rattle.container_core.specs.declared.history.Event.{Event}
use Rattle.crash_base.specs.declared.numbers.Moment.{Moment}
use Rattle.crash_base.specs.declared.numbers.Place.{Place}
use Rattle.http_wire.specs.Taking.{taken_of}
use Rattle.http_wire.specs.declared.taken.Head.{Head}
use Rattle.http_wire.specs.declared.taken.Taken.{Taken}
use Rattle.http_wire.specs.declared.taken.Taken.TheVariants as took
use Rattle.outcome_items.specs.declared.item.Item.{Item}
use Rattle.outcome_items.specs.declared.outcome.ItemOutcome.TheVariants as item
use Rattle.outside.specs.declared.link.LinkCounts.{LinkCounts}
use Rattle.request_decisions.specs.declared.decision.Refusal.{Refusal}
use Rattle.request_decisions.specs.declared.decision.Refusal.TheVariants as refusal
use Rattle.request_intake.specs.declared.intake.Admission.{Admission}
use Rattle.request_intake.specs.declared.intake.Arrival.{Arrival}
use Rattle.request_intake.specs.declared.intake.Arrival.TheVariants.{Refused, SerialsSpent, Admitted}
use Rattle.request_intake.specs.declared.intake.HomeBoot.{HomeBoot}
use Rattle.request_tries.specs.Ends.{Errand}
use Rattle.request_visit.specs.Accounts.{Accounts}
use Rattle.request_visit.specs.Visits.{begun}
use Rattle.request_visit.specs.declared.facts.VisitFacts.{VisitFacts}
use Rattle.request_visit.specs.declared.visit.Work.TheVariants.{Reading, Opening, Decided}
use Rattle.send_windows.specs.declared.history.WindowMark.{WindowMark}
use Rattle.session_cookie.specs.declared.cookie.Cookie.{Cookie}
use Rattle.session_way.specs.declared.way.SessionWay.{SessionWay}
use Rattle.session_way.specs.declared.way.SessionWay.TheVariants as way
use Rattle.shepherd.specs.Accounting.{Accounting, StageTells}
use Rattle.shepherd.specs.Shepherds.{turn}
use Rattle.shepherd.specs.Steps.{TakesBy, TakesRequest, admitted_visit, begun_by, facts_of}
use Rattle.shepherd.specs.declared.shepherd.Shepherd.{Shepherd}
use Rattle.shepherd.specs.declared.shepherd.ShepherdTurn.TheVariants as turns
use Rattle.shepherd.specs.declared.shepherd.Stage.TheVariants.{Resting}
use Rattle.shepherd.proofs.Counting.{with_stage}
use Rattle.shepherd.proofs.Turning.{asks_request}

-- what a law tells of requests that begin
abbrev pub Begin : {P : Type 0} → (P → List Answer → Next) → Type 0
Begin {P} asks = (start : Start) (history : List Event) (errand : Errand) (facts : VisitFacts) (counts : LinkCounts) (way : SessionWay) (why : Refusal) (seen : ℕ)
    → Accounts asks start history errand [] (begun facts counts way Reading)
    × Accounts asks start history errand [] (begun facts counts way Opening)
    × Accounts asks start history errand [] (begun facts counts way (Decided (item.Refused why)))
    × Accounts asks start history errand [] (begun facts counts way (Decided (item.SerialsSpent seen)))

-- what is asked of the container before a program is made: anything
nothing : Errand
nothing = record { request = record { boot = 0; serial = 0 }; text = []; asks = λ answers. next.Exit }

admitted_tells : {P : Type 0} (asks : P → List Answer → Next) → Begin asks → (start : Start) (history : List Event) (facts : VisitFacts) (counts : LinkCounts) (a : Admission) (cookie : Option Cookie)
    → facts.request ≡ Some a.request → StageTells asks start history [] [] (admitted_visit facts counts a cookie)
admitted_tells asks begin start history facts counts a None number = record {
  errand = nothing;
  accounts = (begin start history nothing facts counts way.Resting refusal.NotThere 0).1;
  marks_are = (refl, record { rests = refl; marks_are = refl });
  number = number;
}
admitted_tells asks begin start history facts counts a (Some cookie) number = record {
  errand = nothing;
  accounts = (begin start history nothing facts counts (way.Reading (Rattle.ssm_stub.specs.Reads.read_start facts.now a.read cookie)) refusal.NotThere 0).0;
  marks_are = (refl, refl, tt);
  number = number;
}

begun_tells : {P : Type 0} (asks : P → List Answer → Next) → Begin asks → (start : Start) (history : List Event) (front : Place) (counts : LinkCounts) (head : Head) (now : Moment) (arrival : Arrival)
    → StageTells asks start history [] [] (begun_by front counts head now arrival)
begun_tells asks begin start history front counts head now (Refused why) = record {
  errand = nothing;
  accounts = (begin start history nothing (Rattle.shepherd.specs.Steps.bare_facts None now front head) counts way.Resting why 0).2;
  marks_are = (refl, record { rests = refl; marks_are = refl });
  number = tt;
}
begun_tells asks begin start history front counts head now (SerialsSpent request seen) = record {
  errand = nothing;
  accounts = (begin start history nothing (Rattle.shepherd.specs.Steps.bare_facts request now front head) counts way.Resting refusal.NotThere seen).3;
  marks_are = (refl, record { rests = refl; marks_are = refl });
  number = tt;
}
begun_tells asks begin start history front counts head now (Admitted a) = admitted_tells asks begin start history (facts_of a now front head) counts a a.cookie refl

-- where nothing is open, nothing else was added
nothing_open : {P : Type 0} (asks : P → List Answer → Next) (start : Start) (history own : List Event) (marks : List WindowMark) (items : List Item) (s : Shepherd P) (h : Accounting asks start history own marks items s)
    → s.stage ≡ Resting → (h.open_own ≡ []) × (h.open_marks ≡ [])
nothing_open asks start history own marks items s h rest = subst (λ x. StageTells asks start history h.open_own h.open_marks x) rest h.tells

-- so another stage that tells of nothing stands in its place
in_place : {P : Type 0} (asks : P → List Answer → Next) (start : Start) (history own : List Event) (marks : List WindowMark) (items : List Item) (s new : Shepherd P)
    → s.stage ≡ Resting → StageTells asks start history [] [] new.stage → Accounting asks start history own marks items s → Accounting asks start history own marks items new
in_place asks start history own marks items s new rest tells h =
    let none = nothing_open asks start history own marks items s h rest in
    with_stage asks start history own marks items s new h
    (subst (λ xs. StageTells asks start history xs h.open_marks new.stage) (sym none.0) (subst (λ xs. StageTells asks start history [] xs new.stage) (sym none.1) tells))

pub taken : {P C R S : Type 0} (asks : P → List Answer → Next) → Begin asks → (told : C → ℕ) (gives : Rattle.request_intake.specs.Intakes.Gives R) (looks : Rattle.request_intake.specs.Intakes.Looks S)
    (key : List ℕ) (home : HomeBoot) (counts : LinkCounts) (start : Start) (history own : List Event) (marks : List WindowMark) (items : List Item) (s new : Shepherd P)
    (clock clock_after : C) (random random_after : R) (serials serials_after : S) → turn s ≡ turns.Request
    → TakesRequest told gives looks key home counts s clock random serials new clock_after random_after serials_after
    → Accounting asks start history own marks items s → Accounting asks start history own marks items new
taken {P} asks begin told gives looks key home counts start history own marks items s new clock clock_after random random_after serials serials_after is takes h =
    in_place asks start history own marks items s new rest (by (taken_of s.received) takes) h where
      rest : s.stage ≡ Resting
      rest = (asks_request s is).0

      by : (x : Taken) → TakesBy told gives looks key home counts x s clock random serials new clock_after random_after serials_after → StageTells asks start history [] [] new.stage
      by (took.Request head) b =
          subst (λ x. StageTells asks start history [] [] x) (sym (ap (λ (x : Shepherd P). x.stage) b.new_is)) (begun_tells asks begin start history s.front counts head b.intake.now b.intake.arrival)
      by took.Bad r = subst (λ x. StageTells asks start history [] [] x) (sym (ap (λ (x : Shepherd P). x.stage) r.new_is)) (refl, refl)
      by (took.TooLong len lines) r = subst (λ x. StageTells asks start history [] [] x) (sym (ap (λ (x : Shepherd P). x.stage) r.new_is)) (refl, refl)
      by took.NoCoding r = subst (λ x. StageTells asks start history [] [] x) (sym (ap (λ (x : Shepherd P). x.stage) r.new_is)) (refl, refl)
      by (took.BodyTooLong said) r = subst (λ x. StageTells asks start history [] [] x) (sym (ap (λ (x : Shepherd P). x.stage) r.new_is)) (refl, refl)
      by took.More r = absurd r
