-- A request that is taken off the bytes is the next one that is answered.
use Rattle.std.proofs.Common.{◌≡◌, ◌⊎◌, inl, inr, ℕ, List, [], ◌∷◌, ◌++◌, refl, sym, ap, ◌∙◌, subst, Option, Some, None}
use Rattle.std.proofs.lemmas.List.{append-nil}
use Rattle.container_core.specs.declared.history.Event.{Event}
use Rattle.crash_base.specs.declared.numbers.Moment.{Moment}
use Rattle.crash_base.specs.declared.numbers.Place.{Place}
use Rattle.http_wire.specs.Taking.{taken_of}
use Rattle.http_wire.specs.declared.taken.Head.{Head}
use Rattle.http_wire.specs.declared.taken.Taken.{Taken}
use Rattle.http_wire.specs.declared.taken.Taken.TheVariants as took
use Rattle.outcome_items.specs.declared.item.Item.{Item}
use Rattle.outcome_items.specs.declared.outcome.ItemOutcome.TheVariants as item
use Rattle.outside.specs.declared.link.LinkCounts.{LinkCounts}
use Rattle.request_decisions.specs.declared.decision.Refusal.{Refusal}
use Rattle.request_intake.specs.declared.intake.Admission.{Admission}
use Rattle.request_intake.specs.declared.intake.Arrival.{Arrival}
use Rattle.request_intake.specs.declared.intake.Arrival.TheVariants.{Refused, SerialsSpent, Admitted}
use Rattle.request_intake.specs.declared.intake.HomeBoot.{HomeBoot}
use Rattle.request_visit.specs.Says.{Says}
use Rattle.request_visit.specs.Visits.{begun}
use Rattle.request_visit.specs.declared.facts.VisitFacts.{VisitFacts}
use Rattle.request_visit.specs.declared.visit.Visit.{Visit}
use Rattle.request_visit.specs.declared.visit.Work.TheVariants.{Reading, Opening, Decided}
use Rattle.session_cookie.specs.declared.cookie.Cookie.{Cookie}
use Rattle.session_way.specs.declared.way.SessionWay.{SessionWay}
use Rattle.session_way.specs.declared.way.SessionWay.TheVariants as way
use Rattle.site_responses.specs.Responses.{last_response}
use Rattle.site_responses.specs.declared.answer.Untaken.{Untaken}
use Rattle.site_responses.specs.declared.answer.Untaken.TheVariants as untaken
use Rattle.ssm_stub.specs.Reads.{read_start}
use Rattle.shepherd.specs.Answering.{Answering, IsForHead, SaysSo, StageSays, answered_heads, heads_in}
use Rattle.shepherd.specs.Shepherds.{turn}
use Rattle.shepherd.specs.Steps.{TakesBy, TakesRequest, admitted_visit, bare_facts, begun_by, facts_of}
use Rattle.shepherd.specs.declared.shepherd.Shepherd.{Shepherd}
use Rattle.shepherd.specs.declared.shepherd.ShepherdTurn.TheVariants as turns
use Rattle.shepherd.specs.declared.shepherd.Stage.TheVariants.{Resting, Refusing}
use Rattle.shepherd.proofs.Turning.{asks_request}

-- what the laws tell of requests that begin
abbrev pub SaysBegun : Type 0 → Type 0
SaysBegun P = (key : List ℕ) (history : List Event) (facts : VisitFacts) (counts : LinkCounts) (way : SessionWay) (v : Visit P) → (v ≡ begun facts counts way Reading) ⊎ (v ≡ begun facts counts way Opening) → Says key history [] v

abbrev pub SaysRefused : Type 0 → Type 0
SaysRefused P = (key : List ℕ) (history : List Event) (facts : VisitFacts) (counts : LinkCounts) (way : SessionWay) (why : Refusal) (v : Visit P) → v ≡ begun facts counts way (Decided (item.Refused why)) → Says key history [] v

abbrev pub SaysSpent : Type 0 → Type 0
SaysSpent P = (key : List ℕ) (history : List Event) (facts : VisitFacts) (counts : LinkCounts) (way : SessionWay) (seen : ℕ) (v : Visit P) → v ≡ begun facts counts way (Decided (item.SerialsSpent seen)) → Says key history [] v

admitted_says : {P : Type 0} → SaysBegun P → (key : List ℕ) (history : List Event) (head : Head) (facts : VisitFacts) (counts : LinkCounts) (a : Admission) (cookie : Option Cookie)
    → facts.close ≡ head.close → facts.head_only ≡ Rattle.outcome_items.specs.Answers.is_head_only head.method → StageSays {P = P} key history (head ∷ []) [] (admitted_visit facts counts a cookie)
admitted_says begins key history head facts counts a None close only = record {
  head = head;
  opened_is = refl;
  for_head = record { close_is = close; head_only_is = only };
  marks = [];
  marks_are = (refl, record { rests = refl; marks_are = refl });
  says = begins key history facts counts way.Resting (begun facts counts way.Resting Opening) (inr refl);
  unsent = λ e. refl;
}
admitted_says begins key history head facts counts a (Some cookie) close only = record {
  head = head;
  opened_is = refl;
  for_head = record { close_is = close; head_only_is = only };
  marks = [];
  marks_are = (refl, refl, tt);
  says = begins key history facts counts (way.Reading (read_start facts.now a.read cookie)) (begun facts counts (way.Reading (read_start facts.now a.read cookie)) Reading) (inl refl);
  unsent = λ e. refl;
}

begun_says : {P : Type 0} → SaysBegun P → SaysRefused P → SaysSpent P → (key : List ℕ) (history : List Event) (front : Place) (counts : LinkCounts) (head : Head) (now : Moment) (arrival : Arrival)
    → StageSays {P = P} key history (head ∷ []) [] (begun_by front counts head now arrival)
begun_says begins refused spent key history front counts head now (Refused why) = record {
  head = head;
  opened_is = refl;
  for_head = record { close_is = refl; head_only_is = refl };
  marks = [];
  marks_are = (refl, record { rests = refl; marks_are = refl });
  says = refused key history (bare_facts None now front head) counts way.Resting why (begun (bare_facts None now front head) counts way.Resting (Decided (item.Refused why))) refl;
  unsent = λ e. refl;
}
begun_says begins refused spent key history front counts head now (SerialsSpent request seen) = record {
  head = head;
  opened_is = refl;
  for_head = record { close_is = refl; head_only_is = refl };
  marks = [];
  marks_are = (refl, record { rests = refl; marks_are = refl });
  says = spent key history (bare_facts request now front head) counts way.Resting seen (begun (bare_facts request now front head) counts way.Resting (Decided (item.SerialsSpent seen))) refl;
  unsent = λ e. refl;
}
begun_says begins refused spent key history front counts head now (Admitted a) = admitted_says begins key history head (facts_of a now front head) counts a a.cookie refl refl

-- where nothing is open, a request may open, or none
in_place : {P : Type 0} (key : List ℕ) (history : List Event) (heads more : List Head) (written : List ℕ) (items : List Item) (s new : Shepherd P) → s.stage ≡ Resting
    → StageSays key history more [] new.stage → Answering key history heads written items s → Answering key history (heads ++ more) written items new
in_place key history heads more written items s new rest says h =
    let none : (h.opened ≡ []) × (h.sent ≡ []) = subst (λ x. StageSays key history h.opened h.sent x) rest h.says in
    record {
      answered = h.answered;
      opened = more;
      sent = [];
      heads_are = ap (λ xs. xs ++ more) (h.heads_are ∙ ap (λ xs. answered_heads h.answered ++ xs) none.0 ∙ append-nil (answered_heads h.answered));
      items_are = h.items_are;
      written_is = h.written_is ∙ ap (λ xs. Rattle.shepherd.specs.Answering.answered_bytes h.answered ++ xs) none.1;
      said = h.said;
      says = says;
    }

pub taken : {P C R S : Type 0} → SaysBegun P → SaysRefused P → SaysSpent P → (told : C → ℕ) (gives : Rattle.request_intake.specs.Intakes.Gives R) (looks : Rattle.request_intake.specs.Intakes.Looks S)
    (key : List ℕ) (home : HomeBoot) (counts : LinkCounts) (history : List Event) (heads : List Head) (written : List ℕ) (items : List Item) (s new : Shepherd P)
    (clock clock_after : C) (random random_after : R) (serials serials_after : S) → turn s ≡ turns.Request
    → TakesRequest told gives looks key home counts s clock random serials new clock_after random_after serials_after
    → Answering key history heads written items s → Answering key history (heads ++ heads_in (taken_of s.received)) written items new
taken {P} begins refused spent told gives looks key home counts history heads written items s new clock clock_after random random_after serials serials_after is takes h =
    in_place key history heads (heads_in (taken_of s.received)) written items s new rest (by (taken_of s.received) takes) h where
      rest : s.stage ≡ Resting
      rest = (asks_request s is).0

      refuses : (why : Untaken) → new ≡ record s { stage = Refusing why (last_response why) } → StageSays key history [] [] new.stage
      refuses why same = subst (λ x. StageSays key history [] [] x) (sym (ap (λ (x : Shepherd P). x.stage) same)) (refl, refl, refl)

      by : (x : Taken) → TakesBy told gives looks key home counts x s clock random serials new clock_after random_after serials_after → StageSays key history (heads_in x) [] new.stage
      by (took.Request head) b =
          subst (λ x. StageSays key history (head ∷ []) [] x) (sym (ap (λ (x : Shepherd P). x.stage) b.new_is)) (begun_says begins refused spent key history s.front counts head b.intake.now b.intake.arrival)
      by took.Bad r = refuses untaken.Bad r.new_is
      by (took.TooLong len lines) r = refuses untaken.TooLong r.new_is
      by took.NoCoding r = refuses untaken.NoCoding r.new_is
      by (took.BodyTooLong said) r = refuses untaken.BodyTooLong r.new_is
      by took.More r = absurd r
