-- What a request saw that the link counted, which only a call of the link changes; and when the container was held for
-- it, which only a step in the container changes.
use Rattle.std.specs.Prelude.{IfSome, option_map}
use Rattle.std.proofs.Common.{◌≡◌, ◌⊎◌, inl, inr, List, ℕ, refl, sym, ap, ◌∙◌, subst, Option, Some, None}
use Rattle.call_ticket.specs.declared.next.Answer.{Answer}
use Rattle.call_ticket.specs.declared.next.Next.{Next}
use Rattle.container_core.specs.Container.{ContainerValue, event_count, events_of}
use Rattle.outcome_items.specs.declared.item.Holds.{Holds}
use Rattle.outcome_items.specs.declared.item.Item.{Item}
use Rattle.request_tries.specs.declared.outcome.Ended.{Ended}
use Rattle.request_visit.specs.Advancing.{Advances, HearsReadOf, IsItemOf, after_read, decided_response}
use Rattle.request_visit.specs.Serving.{closing_of}
use Rattle.request_visit.specs.Stepping.{IsGivenBack, ServesWork, VisitsInside, VisitsWindows, after_closing_if, left_so}
use Rattle.request_visit.specs.Visits.{after_outcome}
use Rattle.request_visit.specs.declared.facts.VisitFacts.{VisitFacts}
use Rattle.request_visit.specs.declared.ready.Ready.TheVariants.{Respond, Write}
use Rattle.request_visit.specs.declared.serving.Closed.{Closed}
use Rattle.request_visit.specs.declared.serving.Closed.TheVariants as closes
use Rattle.request_visit.specs.declared.serving.Closing.{Closing}
use Rattle.request_visit.specs.declared.visit.Fate.TheVariants.{Known, Writing}
use Rattle.request_visit.specs.declared.visit.Visit.{Visit}
use Rattle.request_visit.specs.declared.visit.Work.{Work}
use Rattle.request_visit.specs.declared.visit.Work.TheVariants.{Reading, Opening, Serving as ServingBy, Committed, Decided, Answered, Left}
use Rattle.send_windows.specs.Windows.{WindowsValue}
use Rattle.session_way.specs.declared.lease.SessionLease.{SessionLease}
use Rattle.session_way.specs.declared.session_read.ReadOutcome.{ReadOutcome}
use Rattle.session_way.specs.declared.session_read.ReadOutcome.TheVariants as read
use Rattle.session_way.specs.declared.session_write.WriteOutcome.{WriteOutcome}
use Rattle.session_way.specs.declared.session_write.WriteOutcome.TheVariants as outcome
use Rattle.session_way.specs.declared.way.SessionWay.{SessionWay}
use Rattle.session_way.specs.declared.way.SessionWay.TheVariants as way

-- A step kept what its request saw of the link and the container.
pub record SeesSame {P : Type 0} (old new : Visit P) : Type 0 where
  pub counts : new.counts ≡ old.counts
  pub holds : new.holds ≡ old.holds

module _ {P : Type 0} where
  same : (old new : Visit P) → new ≡ old → SeesSame old new
  same old new is = subst (λ (v : Visit P). SeesSame old v) (sym is) (record { counts = refl; holds = refl })

  told : (old : Visit P) (w : SessionWay) (o : Option WriteOutcome) → SeesSame old (after_outcome o (record old { way = w }))
  told old w None = record { counts = refl; holds = refl }
  told old w (Some (outcome.Written cookie)) = record { counts = refl; holds = refl }
  told old w (Some (outcome.Missed causes)) = record { counts = refl; holds = refl }

  pub windows_same : (old : Visit P) (windows : WindowsValue) (new : Visit P) (after : WindowsValue) → VisitsWindows old windows new after → SeesSame old new
  windows_same old windows new after (inl given) = subst (λ (v : Visit P). SeesSame old v) (sym given.new_is) (told old new.way given.outcome)
  windows_same old windows new after (inr refused) = subst (λ (v : Visit P). SeesSame old v) (sym refused.new_is) (record { counts = refl; holds = refl })

  pub back_same : (old new : Visit P) → IsGivenBack old new → SeesSame old new
  back_same old new back = subst (λ (v : Visit P). SeesSame old v) (sym back.new_is) (told old way.Resting back.outcome)

  heard : (o : ReadOutcome) (old : Visit P) → SeesSame old (after_read o old)
  heard (read.Found lease) old = record { counts = refl; holds = refl }
  heard (read.Expired now expiry) old = record { counts = refl; holds = refl }
  heard (read.Lost causes) old = record { counts = refl; holds = refl }

  other_work : (old new : Visit P) (w : Work P) → new ≡ record old { work = w } → SeesSame old new
  other_work old new w is = subst (λ (v : Visit P). SeesSame old v) (sym is) (record { counts = refl; holds = refl })

  hearing : (w : SessionWay) (old new : Visit P) → HearsReadOf w old new → SeesSame old new
  hearing (way.Reading r) old new hears = subst (λ (v : Visit P). SeesSame old v) (sym hears.new_is) (heard hears.outcome old)
  hearing way.Resting old new hears = other_work old new Opening hears
  hearing (way.Ordered order) old new hears = other_work old new Opening hears
  hearing (way.Writing x) old new hears = other_work old new Opening hears
  hearing (way.Settling x) old new hears = other_work old new Opening hears
  hearing (way.Holding passes) old new hears = other_work old new Opening hears

  pub advance_same : (key : List ℕ) (old new : Visit P) → Advances key old old.work new → SeesSame old new
  advance_same key old new advances = by old.work advances where
    by : (w : Work P) → Advances key old w new → SeesSame old new
    by Reading a = hearing old.way old new a
    by Opening a = same old new a
    by (ServingBy tries program) a = same old new a
    by (Committed place again page) a = other_work old new (Answered (Writing place again) a.bytes) a.new_is
    by (Decided became) a = other_work old new (Answered (Known became) (decided_response old.facts became)) a
    by (Answered fate bytes) a = same old new a
    by (Left fate) a = same old new a

  -- a step in the container leaves what was counted
  left : (c : Closed) (v : Visit P) → SeesSame v (left_so c v)
  left (closes.Page place again (Respond bytes)) v = record { counts = refl; holds = refl }
  left (closes.Page place again (Write order shown)) v = record { counts = refl; holds = refl }
  left (closes.Other became) v = record { counts = refl; holds = refl }

  closed : (c : Option Closing) (v : Visit P) → (after_closing_if c v).counts ≡ v.counts
  closed None v = refl
  closed (Some c) v = (left c.closed (record v { holds = c.holds })).counts

  pub inside_same : (asks : P → List Answer → Next) (old : Visit P) (container : ContainerValue) (new : Visit P) (after : ContainerValue) → VisitsInside asks old container new after → new.counts ≡ old.counts
  inside_same asks old container new after visits = ap (λ (v : Visit P). v.counts) visits.new_is ∙ closed visits.closing (record old { work = visits.work })

  -- and where it ends the request, the container is held at all its events
  closed_at : (after : ContainerValue) (facts : VisitFacts) (lease : Option SessionLease) (end : Option Ended) (v : Visit P) → IfSome end (λ e. e.held ≡ event_count after)
      → ((after_closing_if (option_map (closing_of facts lease (events_of after)) end) v).holds ≡ v.holds)
      ⊎ ((after_closing_if (option_map (closing_of facts lease (events_of after)) end) v).holds.held ≡ event_count after)
  closed_at after facts lease None v counted = inl refl
  closed_at after facts lease (Some e) v counted =
      let c : Closing = closing_of facts lease (events_of after) e in
      inr (ap (λ (x : Holds). x.held) (left c.closed (record v { holds = c.holds })).holds ∙ counted)

  pub inside_held : (asks : P → List Answer → Next) (old : Visit P) (container : ContainerValue) (new : Visit P) (after : ContainerValue) → VisitsInside asks old container new after
      → (new.holds ≡ old.holds) ⊎ (new.holds.held ≡ event_count after)
  inside_held asks old container new after visits = by old.work visits.serves where
    by : (w : Work P) → ServesWork asks container old.facts old.lease w visits.closing after visits.work → (new.holds ≡ old.holds) ⊎ (new.holds.held ≡ event_count after)
    by Reading serves = absurd serves
    by Opening serves = absurd serves
    by (ServingBy tries program) serves =
        subst (λ (v : Visit P). (v.holds ≡ old.holds) ⊎ (v.holds.held ≡ event_count after)) (sym (visits.new_is ∙ ap (λ (c : Option Closing). after_closing_if c (record old { work = visits.work })) serves.serves.closing_is))
        (closed_at after old.facts old.lease serves.serves.end (record old { work = visits.work }) serves.serves.brings.counted)
    by (Committed place again shown) serves = absurd serves
    by (Decided became) serves = absurd serves
    by (Answered fate bytes) serves = absurd serves
    by (Left fate) serves = absurd serves

  -- what an item tells is what its request saw
  pub item_same : (v : Visit P) (i : Item) → IsItemOf v v.work i → (i.counts ≡ v.counts) × (i.holds ≡ v.holds)
  item_same v i is = by v.work is where
    by : (w : Work P) → IsItemOf v w i → (i.counts ≡ v.counts) × (i.holds ≡ v.holds)
    by Reading is = absurd is
    by Opening is = absurd is
    by (ServingBy tries program) is = absurd is
    by (Committed place again shown) is = absurd is
    by (Decided became) is = absurd is
    by (Answered fate bytes) is = absurd is
    by (Left fate) is = (ap (λ (x : Item). x.counts) is, ap (λ (x : Item). x.holds) is)
