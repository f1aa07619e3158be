-- What a request is told changes nothing of what it has added.
use Rattle.std.proofs.Common.{◌≡◌, ℕ, List, Option, Some, None, refl, sym, ap, ◌∙◌, subst, inl, inr, take}
use Rattle.boot_core.specs.declared.boot.Start.{Start}
use Rattle.call_ticket.specs.declared.next.Answer.{Answer}
use Rattle.call_ticket.specs.declared.next.Next.{Next}
use Rattle.container_core.specs.History.{entries_in}
use Rattle.container_core.specs.declared.history.Event.{Event}
use Rattle.request_tries.specs.Ends.{Errand}
use Rattle.send_windows.specs.declared.fact.WindowFact.{WindowFact}
use Rattle.send_windows.specs.Windows.{WindowsValue}
use Rattle.ssm_stub.specs.declared.cause.BrickCause.{BrickCause}
use Rattle.session_way.specs.declared.session_read.ReadOutcome.{ReadOutcome}
use Rattle.session_way.specs.declared.session_read.ReadOutcome.TheVariants as read
use Rattle.session_way.specs.declared.session_write.WriteOutcome.{WriteOutcome}
use Rattle.session_way.specs.declared.session_write.WriteOutcome.TheVariants as outcome
use Rattle.session_way.specs.declared.way.SessionWay.{SessionWay}
use Rattle.session_way.specs.declared.way.SessionWay.TheVariants as way
use Rattle.outcome_items.specs.Traces.{event_trace, events_of_outcome}
use Rattle.outcome_items.specs.declared.item.Holds.{Holds}
use Rattle.outcome_items.specs.declared.item.Item.{Item}
use Rattle.outcome_items.specs.declared.outcome.ItemOutcome.{ItemOutcome}
use Rattle.outcome_items.specs.declared.outcome.ItemOutcome.TheVariants as item
use Rattle.request_visit.specs.Accounts.{Accounts, AccountsOf, Became, FateStands, IsUnheld}
use Rattle.request_visit.specs.Advancing.{Advances, HearsReadOf, IsItemOf, after_read, departed, outcome_in}
use Rattle.request_tries.specs.Serving.{TriesValue, errand_of}
use Rattle.session_way.specs.Way.{wants}
use Rattle.request_visit.specs.declared.visit.Turn.TheVariants as turns
use Rattle.request_visit.specs.Stepping.{IsGivenBack, VisitsWindows, dropped}
use Rattle.request_visit.specs.Visits.{after_outcome, fate_missed, fate_written, or_over, overloaded, turn, turn_by, with_fate}
use Rattle.request_visit.specs.declared.facts.VisitFacts.{VisitFacts}
use Rattle.request_visit.specs.declared.visit.Fate.{Fate}
use Rattle.request_visit.specs.declared.visit.Fate.TheVariants.{Known, Writing}
use Rattle.request_visit.specs.declared.visit.Visit.{Visit}
use Rattle.request_visit.specs.declared.visit.Work.{Work}
use Rattle.request_visit.specs.declared.visit.Work.TheVariants.{Reading, Opening, Serving, Committed, Decided, Answered, Left}

-- a change of fates that changes nothing of what was added
abbrev Keeps : (Fate → Fate) → Type 0
Keeps change = (start : Start) (history : List Event) (errand : Errand) (facts : VisitFacts) (holds : Holds) (own : List Event) (fate : Fate)
    → FateStands start history errand facts holds own fate → FateStands start history errand facts holds own (change fate)

written_keeps : Keeps fate_written
written_keeps start history errand facts holds own (Known became) f = f
written_keeps start history errand facts holds own (Writing place again) f = f

missed_keeps : (causes : List BrickCause) → Keeps (fate_missed causes)
missed_keeps causes start history errand facts holds own (Known became) f = f
missed_keeps causes start history errand facts holds own (Writing place again) f = f

fate_told : {P : Type 0} (change : Fate → Fate) (keeps : Keeps change) (asks : P → List Answer → Next) (start : Start) (history : List Event) (errand : Errand) (facts : VisitFacts) (holds : Holds) (own : List Event) (work : Work P)
    → AccountsOf asks start history errand facts holds own work → AccountsOf asks start history errand facts holds own (with_fate change work)
fate_told change keeps asks start history errand facts holds own Reading a = a
fate_told change keeps asks start history errand facts holds own Opening a = a
fate_told change keeps asks start history errand facts holds own (Serving tries program) a = a
fate_told change keeps asks start history errand facts holds own (Committed place again shown) a = a
fate_told change keeps asks start history errand facts holds own (Decided became) a = a
fate_told change keeps asks start history errand facts holds own (Answered fate bytes) a = keeps start history errand facts holds own fate a
fate_told change keeps asks start history errand facts holds own (Left fate) a = keeps start history errand facts holds own fate a

overload_told : {P : Type 0} (full : List WindowFact) (asks : P → List Answer → Next) (start : Start) (history : List Event) (errand : Errand) (facts : VisitFacts) (holds : Holds) (own : List Event) (work : Work P)
    → AccountsOf asks start history errand facts holds own work → AccountsOf asks start history errand facts holds own (overloaded full work)
overload_told full asks start history errand facts holds own Reading a = a
overload_told full asks start history errand facts holds own Opening a = a
overload_told full asks start history errand facts holds own (Serving tries program) a = a
overload_told full asks start history errand facts holds own (Committed place again shown) a = a
overload_told full asks start history errand facts holds own (Decided became) a = a
overload_told full asks start history errand facts holds own (Answered fate bytes) a = a
overload_told full asks start history errand facts holds own (Left fate) a = a

outcome_told : {P : Type 0} (asks : P → List Answer → Next) (start : Start) (history : List Event) (errand : Errand) (own : List Event) (told : Option WriteOutcome) (v : Visit P)
    → Accounts asks start history errand own v → Accounts asks start history errand own (after_outcome told v)
outcome_told asks start history errand own None v a = a
outcome_told asks start history errand own (Some (outcome.Written cookie)) v a = fate_told fate_written written_keeps asks start history errand v.facts v.holds own v.work a
outcome_told asks start history errand own (Some (outcome.Missed causes)) v a = fate_told (fate_missed causes) (missed_keeps causes) asks start history errand v.facts v.holds own v.work a

pub by_windows : {P : Type 0} (asks : P → List Answer → Next) (start : Start) (history : List Event) (errand : Errand) (own : List Event) (old new : Visit P) (windows after : WindowsValue)
    → VisitsWindows old windows new after → Accounts asks start history errand own old → Accounts asks start history errand own new
by_windows {P} asks start history errand own old new windows after visits a =
    elim visits [
      | inl given ↦ subst (λ (v : Visit P). Accounts asks start history errand own v) (sym given.new_is)
          (outcome_told asks start history errand own given.outcome (record old { way = new.way }) a)
      | inr refused ↦ subst (λ (v : Visit P). Accounts asks start history errand own v) (sym refused.new_is)
          (overload_told refused.full asks start history errand old.facts old.holds own old.work a)
    ]

read_told : {P : Type 0} (asks : P → List Answer → Next) (start : Start) (history : List Event) (errand : Errand) (own : List Event) (told : ReadOutcome) (v : Visit P)
    → IsUnheld v.facts v.holds own → Accounts asks start history errand own (after_read told v)
read_told asks start history errand own (read.Found lease) v a = a
read_told asks start history errand own (read.Expired now expiry) v a = a
read_told asks start history errand own (read.Lost causes) v a = a

by_read : {P : Type 0} (asks : P → List Answer → Next) (start : Start) (history : List Event) (errand : Errand) (own : List Event) (old new : Visit P) (w : SessionWay)
    → HearsReadOf w old new → IsUnheld old.facts old.holds own → Accounts asks start history errand own new
by_read {P} asks start history errand own old new (way.Reading r) hears a =
    subst (λ (v : Visit P). Accounts asks start history errand own v) (sym hears.new_is) (read_told asks start history errand own hears.outcome old a)
by_read {P} asks start history errand own old new way.Resting hears a = subst (λ (v : Visit P). Accounts asks start history errand own v) (sym hears) a
by_read {P} asks start history errand own old new (way.Ordered order) hears a = subst (λ (v : Visit P). Accounts asks start history errand own v) (sym hears) a
by_read {P} asks start history errand own old new (way.Writing w) hears a = subst (λ (v : Visit P). Accounts asks start history errand own v) (sym hears) a
by_read {P} asks start history errand own old new (way.Settling w) hears a = subst (λ (v : Visit P). Accounts asks start history errand own v) (sym hears) a
by_read {P} asks start history errand own old new (way.Holding passes) hears a = subst (λ (v : Visit P). Accounts asks start history errand own v) (sym hears) a

-- a step by itself, by how far the request has come, whose work this is
by_itself : {P : Type 0} (asks : P → List Answer → Next) (start : Start) (history : List Event) (errand : Errand) (own : List Event) (key : List ℕ) (old new : Visit P) (work : Work P)
    → old.work ≡ work → Advances key old work new → AccountsOf asks start history errand old.facts old.holds own work → Accounts asks start history errand own new
by_itself {P} asks start history errand own key old new Reading is advances a = by_read asks start history errand own old new old.way advances a
by_itself {P} asks start history errand own key old new Opening is advances a =
    subst (λ (v : Visit P). Accounts asks start history errand own v) (sym advances) (subst (λ (w : Work P). AccountsOf asks start history errand old.facts old.holds own w) (sym is) a)
by_itself {P} asks start history errand own key old new (Serving tries program) is advances a =
    subst (λ (v : Visit P). Accounts asks start history errand own v) (sym advances) (subst (λ (w : Work P). AccountsOf asks start history errand old.facts old.holds own w) (sym is) a)
by_itself {P} asks start history errand own key old new (Committed place again shown) is advances a =
    subst (λ (v : Visit P). Accounts asks start history errand own v) (sym advances.new_is) a
by_itself {P} asks start history errand own key old new (Decided became) is advances a =
    subst (λ (v : Visit P). Accounts asks start history errand own v) (sym advances) a
by_itself {P} asks start history errand own key old new (Answered fate bytes) is advances a =
    subst (λ (v : Visit P). Accounts asks start history errand own v) (sym advances) (subst (λ (w : Work P). AccountsOf asks start history errand old.facts old.holds own w) (sym is) a)
by_itself {P} asks start history errand own key old new (Left fate) is advances a =
    subst (λ (v : Visit P). Accounts asks start history errand own v) (sym advances) (subst (λ (w : Work P). AccountsOf asks start history errand old.facts old.holds own w) (sym is) a)

pub by_advance : {P : Type 0} (asks : P → List Answer → Next) (start : Start) (history : List Event) (errand : Errand) (own : List Event) (old new : Visit P) (key : List ℕ)
    → Advances key old old.work new → Accounts asks start history errand own old → Accounts asks start history errand own new
by_advance asks start history errand own old new key advances a = by_itself asks start history errand own key old new old.work refl advances a

pub by_leaving : {P : Type 0} (asks : P → List Answer → Next) (start : Start) (history : List Event) (errand : Errand) (facts : VisitFacts) (holds : Holds) (own : List Event) (work : Work P)
    → AccountsOf asks start history errand facts holds own work → AccountsOf asks start history errand facts holds own (departed work)
by_leaving asks start history errand facts holds own Reading a = a
by_leaving asks start history errand facts holds own Opening a = a
by_leaving asks start history errand facts holds own (Serving tries program) a = a
by_leaving asks start history errand facts holds own (Committed place again shown) a = a
by_leaving asks start history errand facts holds own (Decided became) a = a
by_leaving asks start history errand facts holds own (Answered fate bytes) a = a
by_leaving asks start history errand facts holds own (Left fate) a = a

-- what became of a request is what its fate says
fate_became : (start : Start) (history : List Event) (errand : Errand) (facts : VisitFacts) (holds : Holds) (own : List Event) (fate : Fate)
    → FateStands start history errand facts holds own fate → Became start history errand facts holds own (outcome_in fate)
fate_became start history errand facts holds own (Known became) f = f
fate_became start history errand facts holds own (Writing place again) f = f

-- its trace is what it added
traced : (start : Start) (history : List Event) (errand : Errand) (facts : VisitFacts) (holds : Holds) (own : List Event) (became : ItemOutcome)
    → Became start history errand facts holds own became → own ≡ events_of_outcome (entries_in (take holds.held history)) facts.request became
traced start history errand facts holds own (item.Refused why) b = b.own_is
traced start history errand facts holds own (item.SerialsSpent seen) b = b.own_is
traced start history errand facts holds own (item.Expired now expiry) b = b.own_is
traced start history errand facts holds own (item.Lost causes) b = b.own_is
traced start history errand facts holds own (item.Ended end) b = b.own_is
traced start history errand facts holds own (item.Overload place again full) b = b.own_is
traced start history errand facts holds own (item.Missed place again causes) b = b.own_is

-- what the item of a request tells
abbrev ItemTells : Start → List Event → Errand → VisitFacts → Holds → List Event → Item → Type 0
ItemTells start history errand facts holds own i =
    Became start history errand facts holds own i.outcome × (own ≡ event_trace (entries_in (take i.holds.held history)) i)

pub by_item : {P : Type 0} (asks : P → List Answer → Next) (start : Start) (history : List Event) (errand : Errand) (own : List Event) (v : Visit P) (work : Work P) (i : Item)
    → IsItemOf v work i → AccountsOf asks start history errand v.facts v.holds own work → ItemTells start history errand v.facts v.holds own i
by_item asks start history errand own v Reading i is a = absurd is
by_item asks start history errand own v Opening i is a = absurd is
by_item asks start history errand own v (Serving tries program) i is a = absurd is
by_item asks start history errand own v (Committed place again shown) i is a = absurd is
by_item asks start history errand own v (Decided became) i is a = absurd is
by_item asks start history errand own v (Answered fate bytes) i is a = absurd is
by_item asks start history errand own v (Left fate) i is a =
    let became = fate_became start history errand v.facts v.holds own fate a in
    subst (λ (x : Item). ItemTells start history errand v.facts v.holds own x) (sym is)
    (became, traced start history errand v.facts v.holds own (outcome_in fate) became)

-- passes that are given back change nothing of it
pub by_giving_back : {P : Type 0} (asks : P → List Answer → Next) (start : Start) (history : List Event) (errand : Errand) (own : List Event) (old new : Visit P)
    → IsGivenBack old new → Accounts asks start history errand own old → Accounts asks start history errand own new
by_giving_back {P} asks start history errand own old new back a =
    subst (λ (v : Visit P). Accounts asks start history errand own v) (sym back.new_is)
    (outcome_told asks start history errand own back.outcome (record old { way = way.Resting }) a)

-- a call that is given up neither
pub by_dropping : {P : Type 0} (asks : P → List Answer → Next) (start : Start) (history : List Event) (errand : Errand) (facts : VisitFacts) (holds : Holds) (own : List Event) (work : Work P)
    → AccountsOf asks start history errand facts holds own work → AccountsOf asks start history errand facts holds own (dropped work)
by_dropping asks start history errand facts holds own Reading a = a
by_dropping asks start history errand facts holds own Opening a = a
by_dropping asks start history errand facts holds own (Serving tries program) a = a
by_dropping asks start history errand facts holds own (Committed place again shown) a = a
by_dropping asks start history errand facts holds own (Decided became) a = a
by_dropping asks start history errand facts holds own (Answered fate bytes) a = a
by_dropping asks start history errand facts holds own (Left fate) a = a

-- a request that comes to the container asks for what its tries and its program say
pub by_opening : {P : Type 0} (asks : P → List Answer → Next) (start : Start) (history : List Event) (errand : Errand) (own : List Event) (v : Visit P) (tries : TriesValue) (program : P)
    → v.work ≡ Opening → v.facts.request ≡ Some tries.request → Accounts asks start history errand own v
    → Accounts asks start history (errand_of tries (asks program)) own (record v { work = Serving tries program })
by_opening {P} asks start history errand own v tries program is number a = record {
  errand_is = refl;
  number_is = number;
  unheld_is = subst (λ (w : Work P). AccountsOf asks start history errand v.facts v.holds own w) is a;
}

-- nothing is left to be done for a request whose response has left, once its passes are given back
told_turn : {P : Type 0} (told : Option WriteOutcome) (v : Visit P) (fate : Fate) → v.work ≡ Left fate → v.way ≡ way.Resting → turn (after_outcome told v) ≡ turns.Over
told_turn {P} told v fate is rests = by_told told where
  left : (w : Work P) (f : Fate) → w ≡ Left f → turn_by w (wants v.way) ≡ turns.Over
  left w f same = ap (λ (x : Work P). turn_by x (wants v.way)) same ∙ ap (λ (x : SessionWay). or_over (wants x)) rests

  by_told : (o : Option WriteOutcome) → turn (after_outcome o v) ≡ turns.Over
  by_told None = left v.work fate is
  by_told (Some (outcome.Written cookie)) = left (with_fate fate_written v.work) (fate_written fate) (ap (λ (x : Work P). with_fate fate_written x) is)
  by_told (Some (outcome.Missed causes)) = left (with_fate (fate_missed causes) v.work) (fate_missed causes fate) (ap (λ (x : Work P). with_fate (fate_missed causes) x) is)

pub over_then : {P : Type 0} (old new : Visit P) (fate : Fate) → IsGivenBack old new → old.work ≡ Left fate → turn new ≡ turns.Over
over_then {P} old new fate back is =
    ap (λ (v : Visit P). turn v) back.new_is ∙ told_turn back.outcome (record old { way = way.Resting }) fate is refl
