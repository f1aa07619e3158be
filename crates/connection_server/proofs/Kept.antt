-- How far the container had come for a request, which only a step in the container changes.
use Rattle.std.specs.Prelude.{IfSome, option_map}
use Rattle.std.proofs.Common.{◌≡◌, inl, inr, true, false, List, ℕ, refl, sym, ap, ◌∙◌, subst, Option, Some, None}
use Rattle.call_ticket.specs.declared.next.Answer.{Answer}
use Rattle.call_ticket.specs.declared.next.Next.{Next}
use Rattle.container_core.specs.Container.{ContainerValue, event_count, events_of}
use Rattle.outcome_items.specs.declared.item.Holds.{Holds}
use Rattle.outcome_items.specs.declared.item.Item.{Item}
use Rattle.request_tries.specs.declared.outcome.Ended.{Ended}
use Rattle.request_visit.specs.Advancing.{Advances, HearsReadOf, IsItemOf, after_read}
use Rattle.request_visit.specs.Serving.{closing_of}
use Rattle.request_visit.specs.Stepping.{IsGivenBack, ServesWork, VisitsInside, VisitsWindows, after_closing_if, left_so}
use Rattle.request_visit.specs.Visits.{after_outcome, turn as visit_turn}
use Rattle.request_visit.specs.declared.facts.VisitFacts.{VisitFacts}
use Rattle.request_visit.specs.declared.ready.Ready.TheVariants.{Respond, Write}
use Rattle.request_visit.specs.declared.serving.Closed.{Closed}
use Rattle.request_visit.specs.declared.serving.Closed.TheVariants as closes
use Rattle.request_visit.specs.declared.serving.Closing.{Closing}
use Rattle.request_visit.specs.declared.visit.Visit.{Visit}
use Rattle.request_visit.specs.declared.visit.Work.{Work}
use Rattle.request_visit.specs.declared.visit.Work.TheVariants.{Reading, Opening, Serving as ServingBy, Committed, Decided, Answered, Left}
use Rattle.send_windows.specs.Windows.{WindowsValue}
use Rattle.session_way.specs.declared.lease.SessionLease.{SessionLease}
use Rattle.session_way.specs.declared.session_read.ReadOutcome.{ReadOutcome}
use Rattle.session_way.specs.declared.session_read.ReadOutcome.TheVariants as read
use Rattle.session_way.specs.declared.session_write.WriteOutcome.{WriteOutcome}
use Rattle.session_way.specs.declared.session_write.WriteOutcome.TheVariants as outcome
use Rattle.session_way.specs.declared.way.SessionWay.{SessionWay}
use Rattle.session_way.specs.declared.way.SessionWay.TheVariants as way
use Rattle.shepherd.specs.Shepherds.{turn_by}
use Rattle.connection_server.specs.Turning.{is_inside}

module _ {P : Type 0} where
  by_equation : (v w x : Visit P) → w ≡ x → x.holds ≡ v.holds → w.holds ≡ v.holds
  by_equation v w x is same = ap (λ (y : Visit P). y.holds) is ∙ same

  told : (v : Visit P) (w : SessionWay) (o : Option WriteOutcome) → (after_outcome o (record v { way = w })).holds ≡ v.holds
  told v w None = refl
  told v w (Some (outcome.Written cookie)) = refl
  told v w (Some (outcome.Missed causes)) = refl

  pub windows_keep : (v : Visit P) (windows : WindowsValue) (w : Visit P) (after : WindowsValue) → VisitsWindows v windows w after → w.holds ≡ v.holds
  windows_keep v windows w after (inl given) = by_equation v w (after_outcome given.outcome (record v { way = w.way })) given.new_is (told v w.way given.outcome)
  windows_keep v windows w after (inr refused) = ap (λ (x : Visit P). x.holds) refused.new_is

  pub back_keeps : (v w : Visit P) → IsGivenBack v w → w.holds ≡ v.holds
  back_keeps v w back = by_equation v w (after_outcome back.outcome (record v { way = way.Resting })) back.new_is (told v way.Resting back.outcome)

  heard : (o : ReadOutcome) (v : Visit P) → (after_read o v).holds ≡ v.holds
  heard (read.Found lease) v = refl
  heard (read.Expired now expiry) v = refl
  heard (read.Lost causes) v = refl

  hearing : (x : SessionWay) (v w : Visit P) → HearsReadOf x v w → w.holds ≡ v.holds
  hearing (way.Reading r) v w hears = by_equation v w (after_read hears.outcome v) hears.new_is (heard hears.outcome v)
  hearing way.Resting v w hears = ap (λ (y : Visit P). y.holds) hears
  hearing (way.Ordered order) v w hears = ap (λ (y : Visit P). y.holds) hears
  hearing (way.Writing x) v w hears = ap (λ (y : Visit P). y.holds) hears
  hearing (way.Settling x) v w hears = ap (λ (y : Visit P). y.holds) hears
  hearing (way.Holding passes) v w hears = ap (λ (y : Visit P). y.holds) hears

  pub advance_keeps : (key : List ℕ) (v w : Visit P) → Advances key v v.work w → w.holds ≡ v.holds
  advance_keeps key v w advances = by v.work advances where
    by : (x : Work P) → Advances key v x w → w.holds ≡ v.holds
    by Reading a = hearing v.way v w a
    by Opening a = ap (λ (y : Visit P). y.holds) a
    by (ServingBy tries program) a = ap (λ (y : Visit P). y.holds) a
    by (Committed place again page) a = ap (λ (y : Visit P). y.holds) a.new_is
    by (Decided became) a = ap (λ (y : Visit P). y.holds) a
    by (Answered fate bytes) a = ap (λ (y : Visit P). y.holds) a
    by (Left fate) a = ap (λ (y : Visit P). y.holds) a

  -- what an item tells is how far the container had come for its request
  pub item_keeps : (v : Visit P) (i : Item) → IsItemOf v v.work i → i.holds ≡ v.holds
  item_keeps v i is = by v.work is where
    by : (x : Work P) → IsItemOf v x i → i.holds ≡ v.holds
    by Reading is = absurd is
    by Opening is = absurd is
    by (ServingBy tries program) is = absurd is
    by (Committed place again shown) is = absurd is
    by (Decided became) is = absurd is
    by (Answered fate bytes) is = absurd is
    by (Left fate) is = ap (λ (x : Item). x.holds) is

  -- A step in the container left a request as it was, and in the container; or it left the container at all its events.
  pub data HeldSo (v w : Visit P) (after : ContainerValue) : Type 0 where
    stays : is_inside (turn_by (visit_turn w)) ≡ true → w.holds ≡ v.holds → HeldSo v w after
    leaves : is_inside (turn_by (visit_turn w)) ≡ false → w.holds.held ≡ event_count after → HeldSo v w after

  out_of : (c : Closed) (v : Visit P) → is_inside (turn_by (visit_turn (left_so c v))) ≡ false
  out_of (closes.Page place again (Respond bytes)) v = refl
  out_of (closes.Page place again (Write order shown)) v = refl
  out_of (closes.Other became) v = refl

  kept_by : (c : Closed) (v : Visit P) → (left_so c v).holds ≡ v.holds
  kept_by (closes.Page place again (Respond bytes)) v = refl
  kept_by (closes.Page place again (Write order shown)) v = refl
  kept_by (closes.Other became) v = refl

  closed_at : (old : Visit P) (work : Work P) (after : ContainerValue) (facts : VisitFacts) (lease : Option SessionLease) (end : Option Ended) → is_inside (turn_by (visit_turn (record old { work = work }))) ≡ true
      → IfSome end (λ e. e.held ≡ event_count after) → HeldSo old (after_closing_if (option_map (closing_of facts lease (events_of after)) end) (record old { work = work })) after
  closed_at old work after facts lease None inside counted = stays inside refl
  closed_at old work after facts lease (Some e) inside counted =
      let c : Closing = closing_of facts lease (events_of after) e in
      let v : Visit P = record old { work = work; holds = c.holds } in
      leaves (out_of c.closed v) (ap (λ (x : Holds). x.held) (kept_by c.closed v) ∙ counted)

  pub inside_holds : (asks : P → List Answer → Next) (old : Visit P) (container : ContainerValue) (new : Visit P) (after : ContainerValue) → VisitsInside asks old container new after → HeldSo old new after
  inside_holds asks old container new after visits = by old.work visits.serves where
    by : (x : Work P) → ServesWork asks container old.facts old.lease x visits.closing after visits.work → HeldSo old new after
    by Reading serves = absurd serves
    by Opening serves = absurd serves
    by (ServingBy tries program) serves =
        subst (λ (v : Visit P). HeldSo old v after) (sym (visits.new_is ∙ ap (λ (c : Option Closing). after_closing_if c (record old { work = visits.work })) serves.serves.closing_is))
        (closed_at old visits.work after old.facts old.lease serves.serves.end
        (ap (λ (x : Work P). is_inside (turn_by (visit_turn (record old { work = x })))) serves.work_is) serves.serves.brings.counted)
    by (Committed place again shown) serves = absurd serves
    by (Decided became) serves = absurd serves
    by (Answered fate bytes) serves = absurd serves
    by (Left fate) serves = absurd serves
