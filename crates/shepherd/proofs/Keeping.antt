-- What no step of a request changes: what is known of it; that its response has left; and that its program was made.
use Rattle.std.proofs.Common.{◌≡◌, inl, inr, ℕ, true, false, List, refl, sym, ap, ◌∙◌, subst, Option, Some, None}
use Rattle.call_ticket.specs.declared.next.Answer.{Answer}
use Rattle.call_ticket.specs.declared.next.Next.{Next}
use Rattle.container_core.specs.Container.{ContainerValue}
use Rattle.outside.specs.Link.{Tally}
use Rattle.outside.specs.declared.link.LinkEvent.{LinkEvent}
use Rattle.request_visit.specs.Advancing.{Advances, HearsReadOf, after_read}
use Rattle.request_visit.specs.Stepping.{IsGivenBack, OnServing, ServesBy, ServesWork, VisitsInside, VisitsWindows, after_closing_if, dropped}
use Rattle.request_visit.specs.Visits.{after_outcome, overloaded, with_fate}
use Rattle.request_visit.specs.declared.ready.Ready.TheVariants.{Respond, Write}
use Rattle.request_visit.specs.declared.serving.Closed.TheVariants as closes
use Rattle.request_visit.specs.declared.serving.Closing.{Closing}
use Rattle.request_visit.specs.declared.visit.Fate.{Fate}
use Rattle.request_visit.specs.declared.visit.Visit.{Visit}
use Rattle.request_visit.specs.declared.visit.Work.{Work}
use Rattle.request_visit.specs.declared.visit.Work.TheVariants.{Reading, Opening, Serving as ServingBy, Committed, Decided, Answered, Left}
use Rattle.send_windows.specs.Windows.{WindowsValue}
use Rattle.send_windows.specs.declared.fact.WindowFact.{WindowFact}
use Rattle.session_way.specs.declared.session_read.ReadOutcome.{ReadOutcome}
use Rattle.session_way.specs.declared.session_read.ReadOutcome.TheVariants as read
use Rattle.session_way.specs.declared.session_write.WriteOutcome.{WriteOutcome}
use Rattle.session_way.specs.declared.session_write.WriteOutcome.TheVariants as outcome
use Rattle.session_way.specs.declared.way.SessionWay.{SessionWay}
use Rattle.session_way.specs.declared.way.SessionWay.TheVariants as way
use Rattle.shepherd.specs.Standing.{has_left, is_early}
use Rattle.shepherd.specs.Steps.{VisitsOutside}

-- A step keeps what is known of its request; a response that has left stays so, and so does a program that was made.
pub record Keeps {P : Type 0} (old new : Visit P) : Type 0 where
  pub facts : new.facts ≡ old.facts
  pub left : has_left new.work ≡ false → has_left old.work ≡ false
  pub early : is_early new.work ≡ true → is_early old.work ≡ true

-- what has the same facts and the same stage of its work is kept
of_work : {P : Type 0} (old new : Visit P) → new.facts ≡ old.facts → has_left new.work ≡ has_left old.work → is_early new.work ≡ is_early old.work → Keeps old new
of_work old new facts left early = record { facts = facts; left = λ e. sym left ∙ e; early = λ e. sym early ∙ e }

pub outside_keeps : {P L : Type 0} (makes : L → LinkEvent → L → Type 0) (tally : L → Tally) (old : Visit P) (link : L) (new : Visit P) (after : L)
    → VisitsOutside makes tally old link new after → Keeps old new
outside_keeps makes tally old link new after steps =
    subst (λ v. Keeps old v) (sym steps.rest) (record { facts = refl; left = λ e. e; early = λ e. e })

fated_left : {P : Type 0} (change : Fate → Fate) (w : Work P) → (has_left (with_fate change w) ≡ has_left w) × (is_early (with_fate change w) ≡ is_early w)
fated_left change Reading = (refl, refl)
fated_left change Opening = (refl, refl)
fated_left change (ServingBy tries program) = (refl, refl)
fated_left change (Committed place again shown) = (refl, refl)
fated_left change (Decided became) = (refl, refl)
fated_left change (Answered fate bytes) = (refl, refl)
fated_left change (Left fate) = (refl, refl)

full_left : {P : Type 0} (full : List WindowFact) (w : Work P) → (has_left (overloaded full w) ≡ has_left w) × (is_early (overloaded full w) ≡ is_early w)
full_left full Reading = (refl, refl)
full_left full Opening = (refl, refl)
full_left full (ServingBy tries program) = (refl, refl)
full_left full (Committed place again shown) = (refl, refl)
full_left full (Decided became) = (refl, refl)
full_left full (Answered fate bytes) = (refl, refl)
full_left full (Left fate) = (refl, refl)

told_keeps : {P : Type 0} (old : Visit P) (w : SessionWay) (o : Option WriteOutcome) → Keeps old (after_outcome o (record old { way = w }))
told_keeps old w None = of_work old (record old { way = w }) refl refl refl
told_keeps old w (Some (outcome.Written cookie)) =
    let same = fated_left Rattle.request_visit.specs.Visits.fate_written old.work in
    record { facts = refl; left = λ e. sym same.0 ∙ e; early = λ e. sym same.1 ∙ e }
told_keeps old w (Some (outcome.Missed causes)) =
    let same = fated_left (Rattle.request_visit.specs.Visits.fate_missed causes) old.work in
    record { facts = refl; left = λ e. sym same.0 ∙ e; early = λ e. sym same.1 ∙ e }

pub windows_keep : {P : Type 0} (old : Visit P) (windows : WindowsValue) (new : Visit P) (after : WindowsValue) → VisitsWindows old windows new after → Keeps old new
windows_keep old windows new after (inl given) = subst (λ v. Keeps old v) (sym given.new_is) (told_keeps old new.way given.outcome)
windows_keep old windows new after (inr refused) =
    let same = full_left refused.full old.work in
    subst (λ v. Keeps old v) (sym refused.new_is) (record { facts = refl; left = λ e. sym same.0 ∙ e; early = λ e. sym same.1 ∙ e })

-- a request that was served in the container, and has left it or not
closing_keeps : {P : Type 0} (old mid : Visit P) (closing : Option Closing) → mid.facts ≡ old.facts → has_left old.work ≡ false → is_early mid.work ≡ false → Keeps old (after_closing_if closing mid)
closing_keeps old mid None facts unsent late = record { facts = facts; left = λ e. unsent; early = λ e. absurd (cc) }
closing_keeps old mid (Some closing) facts unsent late = by closing.closed where
  by : (c : Rattle.request_visit.specs.declared.serving.Closed.Closed) → Keeps old (Rattle.request_visit.specs.Stepping.left_so c (record mid { holds = closing.holds }))
  by (closes.Page place again (Respond bytes)) = record { facts = facts; left = λ e. unsent; early = λ e. absurd (cc) }
  by (closes.Page place again (Write order shown)) = record { facts = facts; left = λ e. unsent; early = λ e. absurd (cc) }
  by (closes.Other became) = record { facts = facts; left = λ e. unsent; early = λ e. absurd (cc) }

pub inside_keeps : {P : Type 0} (asks : P → List Answer → Next) (old : Visit P) (container : ContainerValue) (new : Visit P) (after : ContainerValue) → VisitsInside asks old container new after → Keeps old new
inside_keeps {P} asks old container new after visits = subst (λ v. Keeps old v) (sym visits.new_is) (by old.work refl visits.serves) where
  by : (w : Work P) → old.work ≡ w → ServesWork asks container old.facts old.lease w visits.closing after visits.work → Keeps old (after_closing_if visits.closing (record old { work = visits.work }))
  by Reading is serves = absurd serves
  by Opening is serves = absurd serves
  by (ServingBy tries program) is serves =
      closing_keeps old (record old { work = visits.work }) visits.closing refl (ap has_left is) (ap is_early serves.work_is)
  by (Committed place again shown) is serves = absurd serves
  by (Decided became) is serves = absurd serves
  by (Answered fate bytes) is serves = absurd serves
  by (Left fate) is serves = absurd serves

-- a request that heard its read
read_keeps : {P : Type 0} (old : Visit P) (o : ReadOutcome) → has_left old.work ≡ false → is_early old.work ≡ true → Keeps old (after_read o old)
read_keeps old (read.Found lease) unsent early = record { facts = refl; left = λ e. unsent; early = λ e. early }
read_keeps old (read.Expired now expiry) unsent early = record { facts = refl; left = λ e. unsent; early = λ e. early }
read_keeps old (read.Lost causes) unsent early = record { facts = refl; left = λ e. unsent; early = λ e. early }

hearing_keeps : {P : Type 0} (w : SessionWay) (old new : Visit P) → has_left old.work ≡ false → is_early old.work ≡ true → HearsReadOf w old new → Keeps old new
hearing_keeps (way.Reading r) old new unsent early hears = subst (λ v. Keeps old v) (sym hears.new_is) (read_keeps old hears.outcome unsent early)
hearing_keeps way.Resting old new unsent early hears = subst (λ v. Keeps old v) (sym hears) (record { facts = refl; left = λ e. unsent; early = λ e. early })
hearing_keeps (way.Ordered order) old new unsent early hears = subst (λ v. Keeps old v) (sym hears) (record { facts = refl; left = λ e. unsent; early = λ e. early })
hearing_keeps (way.Writing x) old new unsent early hears = subst (λ v. Keeps old v) (sym hears) (record { facts = refl; left = λ e. unsent; early = λ e. early })
hearing_keeps (way.Settling x) old new unsent early hears = subst (λ v. Keeps old v) (sym hears) (record { facts = refl; left = λ e. unsent; early = λ e. early })
hearing_keeps (way.Holding passes) old new unsent early hears = subst (λ v. Keeps old v) (sym hears) (record { facts = refl; left = λ e. unsent; early = λ e. early })

same_keeps : {P : Type 0} (old new : Visit P) → new ≡ old → Keeps old new
same_keeps old new same = subst (λ v. Keeps old v) (sym same) (record { facts = refl; left = λ e. e; early = λ e. e })

pub advance_keeps : {P : Type 0} (key : List ℕ) (old new : Visit P) → Advances key old old.work new → Keeps old new
advance_keeps {P} key old new advances = by old.work refl advances where
  by : (w : Work P) → old.work ≡ w → Advances key old w new → Keeps old new
  by Reading is a = hearing_keeps old.way old new (ap has_left is) (ap is_early is) a
  by Opening is a = same_keeps old new a
  by (ServingBy tries program) is a = same_keeps old new a
  by (Committed place again shown) is a =
      subst (λ v. Keeps old v) (sym a.new_is) (record { facts = refl; left = λ e. ap has_left is; early = λ e. absurd (cc) })
  by (Decided became) is a =
      subst (λ v. Keeps old v) (sym a) (record { facts = refl; left = λ e. ap has_left is; early = λ e. absurd (cc) })
  by (Answered fate bytes) is a = same_keeps old new a
  by (Left fate) is a = same_keeps old new a

pub dropping_keeps : {P : Type 0} (old : Visit P) → Keeps old (record old { work = dropped old.work })
dropping_keeps {P} old = let same = by old.work in record { facts = refl; left = λ e. sym same.0 ∙ e; early = λ e. sym same.1 ∙ e } where
  by : (w : Work P) → (has_left (dropped w) ≡ has_left w) × (is_early (dropped w) ≡ is_early w)
  by Reading = (refl, refl)
  by Opening = (refl, refl)
  by (ServingBy tries program) = (refl, refl)
  by (Committed place again shown) = (refl, refl)
  by (Decided became) = (refl, refl)
  by (Answered fate bytes) = (refl, refl)
  by (Left fate) = (refl, refl)

pub back_keeps : {P : Type 0} (old new : Visit P) → IsGivenBack old new → Keeps old new
back_keeps old new back = subst (λ v. Keeps old v) (sym back.new_is) (told_keeps old way.Resting back.outcome)
