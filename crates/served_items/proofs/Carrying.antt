-- What each step of a request carries on: what is known of it, and that it goes back to how it was taken in.
use Rattle.std.specs.Prelude.{option_map}
use Rattle.std.proofs.Common.{◌≡◌, inl, inr, ℕ, Bool, List, refl, sym, ap, ◌∙◌, subst, Option, Some, None}
use Rattle.call_ticket.specs.declared.next.Answer.{Answer}
use Rattle.call_ticket.specs.declared.next.Next.{Next}
use Rattle.container_core.specs.Container.{ContainerValue, events_of}
use Rattle.outside.specs.Link.{Tally}
use Rattle.outside.specs.declared.link.LinkEvent.{LinkEvent}
use Rattle.request_intake.specs.declared.intake.Admission.{Admission}
use Rattle.request_intake.specs.declared.intake.Arrival.{Arrival}
use Rattle.request_intake.specs.declared.intake.Arrival.TheVariants.{Refused, SerialsSpent, Admitted}
use Rattle.request_tries.specs.Ends.{done_of}
use Rattle.request_tries.specs.Serving.{TriesValue}
use Rattle.request_tries.specs.declared.outcome.Ended.{Ended}
use Rattle.request_tries.specs.declared.outcome.RequestOutcome.{RequestOutcome}
use Rattle.request_tries.specs.declared.outcome.RequestOutcome.TheVariants.{Page, Sentinel, Hung, Raised, Revoked, Conflict, JournalFull, KeeperFailed}
use Rattle.request_visit.specs.Advancing.{Advances, HearsReadOf, after_leaving, after_read, decided_response, departed}
use Rattle.request_visit.specs.Ready.{ready_of}
use Rattle.request_visit.specs.Serving.{closed_with, closing_of, holds_of}
use Rattle.request_visit.specs.Stepping.{IsGivenBack, ServesWork, VisitsInside, VisitsWindows, after_closing_if, dropped, left_so, shown_so}
use Rattle.request_visit.specs.Visits.{after_outcome, fate_missed, fate_written, overloaded, with_fate}
use Rattle.request_visit.specs.declared.ready.Ready.{Ready}
use Rattle.request_visit.specs.declared.ready.Ready.TheVariants.{Respond, Write}
use Rattle.request_visit.specs.declared.serving.Closing.{Closing}
use Rattle.request_visit.specs.declared.visit.Fate.TheVariants.{Known, Writing}
use Rattle.request_visit.specs.declared.visit.Visit.{Visit}
use Rattle.request_visit.specs.declared.visit.Work.{Work}
use Rattle.request_visit.specs.declared.visit.Work.TheVariants.{Reading, Opening, Serving as ServingBy, Committed, Decided, Answered, Left}
use Rattle.send_windows.specs.Windows.{WindowsValue}
use Rattle.send_windows.specs.declared.fact.WindowFact.{WindowFact}
use Rattle.session_way.specs.declared.lease.SessionLease.{SessionLease}
use Rattle.session_way.specs.declared.session_read.ReadOutcome.{ReadOutcome}
use Rattle.session_way.specs.declared.session_read.ReadOutcome.TheVariants as read
use Rattle.session_way.specs.declared.session_write.WriteOutcome.{WriteOutcome}
use Rattle.session_way.specs.declared.session_write.WriteOutcome.TheVariants as outcome
use Rattle.session_way.specs.declared.way.SessionWay.{SessionWay}
use Rattle.session_way.specs.declared.way.SessionWay.TheVariants as way
use Rattle.shepherd.specs.Steps.{VisitsOutside, asked_call}
use Rattle.shepherd.specs.declared.shepherd.AskedCall.{AskedCall}
use Rattle.ssm_stub.specs.declared.cause.BrickCause.{BrickCause}
use Rattle.served_items.specs.Attributing.{OnAdmitted, WorkBy}

-- A step keeps what is known of its request, and how that goes back to its arrival.
pub record Carries {P : Type 0} (arrival : Arrival) (So : Option SessionLease → Admission → Type 0) (call : Option AskedCall) (old new : Visit P) : Type 0 where
  pub facts : new.facts ≡ old.facts
  pub work : WorkBy arrival (So old.lease) call old.work → WorkBy arrival (So new.lease) call new.work

module _ (arrival : Arrival) (So : Option SessionLease → Admission → Type 0) (call : Option AskedCall) where
  same : {P : Type 0} (old new : Visit P) → new ≡ old → Carries arrival So call old new
  same old new is = subst (λ v. Carries arrival So call old v) (sym is) (record { facts = refl; work = λ h. h })

  pub outside_carries : {P L : Type 0} (makes : L → LinkEvent → L → Type 0) (tally : L → Tally) (old : Visit P) (link : L) (new : Visit P) (after : L)
      → VisitsOutside makes tally old link new after → Carries arrival So call old new
  outside_carries makes tally old link new after steps =
      subst (λ v. Carries arrival So call old v) (sym steps.rest) (record { facts = refl; work = λ h. h })

  written : {P : Type 0} (lease : Option SessionLease) (w : Work P) → WorkBy arrival (So lease) call w → WorkBy arrival (So lease) call (with_fate fate_written w)
  written lease Reading h = h
  written lease Opening h = h
  written lease (ServingBy tries program) h = h
  written lease (Committed place again shown) h = h
  written lease (Decided became) h = h
  written lease (Answered (Known became) bytes) h = h
  written lease (Answered (Writing place again) bytes) h = h
  written lease (Left (Known became)) h = h
  written lease (Left (Writing place again)) h = h

  missed : {P : Type 0} (causes : List BrickCause) (lease : Option SessionLease) (w : Work P) → WorkBy arrival (So lease) call w → WorkBy arrival (So lease) call (with_fate (fate_missed causes) w)
  missed causes lease Reading h = h
  missed causes lease Opening h = h
  missed causes lease (ServingBy tries program) h = h
  missed causes lease (Committed place again shown) h = h
  missed causes lease (Decided became) h = h
  missed causes lease (Answered (Known became) bytes) h = h
  missed causes lease (Answered (Writing place again) bytes) h = h
  missed causes lease (Left (Known became)) h = h
  missed causes lease (Left (Writing place again)) h = h

  full_so : {P : Type 0} (full : List WindowFact) (lease : Option SessionLease) (w : Work P) → WorkBy arrival (So lease) call w → WorkBy arrival (So lease) call (overloaded full w)
  full_so full lease Reading h = h
  full_so full lease Opening h = h
  full_so full lease (ServingBy tries program) h = h
  full_so full lease (Committed place again shown) h = h
  full_so full lease (Decided became) h = h
  full_so full lease (Answered fate bytes) h = h
  full_so full lease (Left fate) h = h

  told : {P : Type 0} (old : Visit P) (w : SessionWay) (o : Option WriteOutcome) → Carries arrival So call old (after_outcome o (record old { way = w }))
  told old w None = record { facts = refl; work = λ h. h }
  told old w (Some (outcome.Written cookie)) = record { facts = refl; work = λ h. written old.lease old.work h }
  told old w (Some (outcome.Missed causes)) = record { facts = refl; work = λ h. missed causes old.lease old.work h }

  pub windows_carry : {P : Type 0} (old : Visit P) (windows : WindowsValue) (new : Visit P) (after : WindowsValue) → VisitsWindows old windows new after → Carries arrival So call old new
  windows_carry old windows new after (inl given) = subst (λ v. Carries arrival So call old v) (sym given.new_is) (told old new.way given.outcome)
  windows_carry old windows new after (inr refused) =
      subst (λ v. Carries arrival So call old v) (sym refused.new_is) (record { facts = refl; work = λ h. full_so refused.full old.lease old.work h })

  pub back_carries : {P : Type 0} (old new : Visit P) → IsGivenBack old new → Carries arrival So call old new
  back_carries old new back = subst (λ v. Carries arrival So call old v) (sym back.new_is) (told old way.Resting back.outcome)

  shown : {P : Type 0} (mid : Visit P) (ready : Bool → Ready) (outcome : RequestOutcome) → OnAdmitted arrival (So mid.lease)
      → WorkBy arrival (So (left_so (closed_with ready outcome) mid).lease) call (left_so (closed_with ready outcome) mid).work
  shown {P} mid ready (Page place again) h = by (ready again) where
    by : (r : Ready) → WorkBy arrival (So (shown_so place again r mid).lease) call (shown_so place again r mid).work
    by (Respond bytes) = h
    by (Write order page) = h
  shown mid ready (Sentinel group down) h = h
  shown mid ready (Hung component fault path) h = h
  shown mid ready (Raised component fault path) h = h
  shown mid ready (Revoked tries) h = h
  shown mid ready (Conflict tries) h = h
  shown mid ready (JournalFull full) h = h
  shown mid ready KeeperFailed h = h

  known : {P : Type 0} (mid : Visit P) (ready : Bool → Ready) (outcome : RequestOutcome) → (left_so (closed_with ready outcome) mid).facts ≡ mid.facts
  known {P} mid ready (Page place again) = by (ready again) where
    by : (r : Ready) → (shown_so place again r mid).facts ≡ mid.facts
    by (Respond bytes) = refl
    by (Write order page) = refl
  known mid ready (Sentinel group down) = refl
  known mid ready (Hung component fault path) = refl
  known mid ready (Raised component fault path) = refl
  known mid ready (Revoked tries) = refl
  known mid ready (Conflict tries) = refl
  known mid ready (JournalFull full) = refl
  known mid ready KeeperFailed = refl

  -- a request that was served in the container, and has left it or not
  closed_so : {P : Type 0} (asks : P → List Answer → Next) (old : Visit P) (after : ContainerValue) (tries later : TriesValue) (program : P) (end : Option Ended) → old.work ≡ ServingBy tries program
      → Carries arrival So call old (after_closing_if (option_map (closing_of old.facts old.lease (events_of after)) end) (record old { work = ServingBy later program }))
  closed_so {P} asks old after tries later program None is = record { facts = refl; work = λ h. subst (λ (w : Work P). WorkBy arrival (So old.lease) call w) is h }
  closed_so {P} asks old after tries later program (Some e) is =
      let mid : Visit P = record old { work = ServingBy later program; holds = holds_of e } in
      let ready : Bool → Ready = λ again. ready_of old.facts old.lease (done_of (events_of after) e) in
      record {
        facts = known mid ready e.outcome;
        work = λ h. shown mid ready e.outcome (subst (λ (w : Work P). WorkBy arrival (So old.lease) call w) is h);
      }

  pub inside_carries : {P : Type 0} (asks : P → List Answer → Next) (old : Visit P) (container : ContainerValue) (new : Visit P) (after : ContainerValue) → VisitsInside asks old container new after → Carries arrival So call old new
  inside_carries {P} asks old container new after visits = by old.work refl visits.serves where
    by : (w : Work P) → old.work ≡ w → ServesWork asks container old.facts old.lease w visits.closing after visits.work → Carries arrival So call old new
    by Reading is serves = absurd serves
    by Opening is serves = absurd serves
    by (ServingBy tries program) is serves =
        let to : new ≡ after_closing_if (option_map (closing_of old.facts old.lease (events_of after)) serves.serves.end) (record old { work = ServingBy serves.after program }) =
        visits.new_is ∙ ap (λ (w : Work P). after_closing_if visits.closing (record old { work = w })) serves.work_is
        ∙ ap (λ (c : Option Closing). after_closing_if c (record old { work = ServingBy serves.after program })) serves.serves.closing_is in
        subst (λ (v : Visit P). Carries arrival So call old v) (sym to) (closed_so asks old after tries serves.after program serves.serves.end is)
    by (Committed place again page) is serves = absurd serves
    by (Decided became) is serves = absurd serves
    by (Answered fate bytes) is serves = absurd serves
    by (Left fate) is serves = absurd serves

  admitted : (a : Arrival) (Was : Admission → Type 0) → OnAdmitted a Was → OnAdmitted a (λ x. Unit {0})
  admitted (Refused why) Was h = absurd h
  admitted (SerialsSpent request seen) Was h = absurd h
  admitted (Admitted a) Was h = tt

  heard : {P : Type 0} (old : Visit P) (o : ReadOutcome) → old.work ≡ Reading → Carries arrival So call old (after_read o old)
  heard {P} old (read.Found lease) is = record { facts = refl; work = λ h. subst (λ (w : Work P). WorkBy arrival (So old.lease) call w) is h }
  heard {P} old (read.Expired now expiry) is = record {
    facts = refl;
    work = λ h. admitted arrival (λ a. call ≡ Some (asked_call a)) (subst (λ (w : Work P). WorkBy arrival (So old.lease) call w) is h);
  }
  heard {P} old (read.Lost causes) is = record {
    facts = refl;
    work = λ h. admitted arrival (λ a. call ≡ Some (asked_call a)) (subst (λ (w : Work P). WorkBy arrival (So old.lease) call w) is h);
  }

  -- a request whose work is this now, which goes back as the one before does
  worked : {P : Type 0} (old new : Visit P) (before after : Work P) → old.work ≡ before → new ≡ record old { work = after }
      → (WorkBy arrival (So old.lease) call before → WorkBy arrival (So old.lease) call after) → Carries arrival So call old new
  worked {P} old new before after is to goes = subst (λ (v : Visit P). Carries arrival So call old v) (sym to) (record {
    facts = refl;
    work = λ h. goes (subst (λ (w : Work P). WorkBy arrival (So old.lease) call w) is h);
  })

  heard_so : {P : Type 0} (w : SessionWay) (old new : Visit P) → old.work ≡ Reading → HearsReadOf w old new → Carries arrival So call old new
  heard_so {P} (way.Reading r) old new is hears = subst (λ (v : Visit P). Carries arrival So call old v) (sym hears.new_is) (heard old hears.outcome is)
  heard_so way.Resting old new is hears = worked old new Reading Opening is hears (λ h. h)
  heard_so (way.Ordered order) old new is hears = worked old new Reading Opening is hears (λ h. h)
  heard_so (way.Writing x) old new is hears = worked old new Reading Opening is hears (λ h. h)
  heard_so (way.Settling x) old new is hears = worked old new Reading Opening is hears (λ h. h)
  heard_so (way.Holding passes) old new is hears = worked old new Reading Opening is hears (λ h. h)

  pub advance_carries : {P : Type 0} (key : List ℕ) (old new : Visit P) → Advances key old old.work new → Carries arrival So call old new
  advance_carries {P} key old new advances = by old.work refl advances where
    by : (w : Work P) → old.work ≡ w → Advances key old w new → Carries arrival So call old new
    by Reading is a = heard_so old.way old new is a
    by Opening is a = same old new a
    by (ServingBy tries program) is a = same old new a
    by (Committed place again page) is a = worked old new (Committed place again page) (Answered (Writing place again) a.bytes) is a.new_is (λ h. h)
    by (Decided became) is a = worked old new (Decided became) (Answered (Known became) (decided_response old.facts became)) is a (λ h. h)
    by (Answered fate bytes) is a = same old new a
    by (Left fate) is a = same old new a

  pub leaving_carries : {P : Type 0} (old : Visit P) → Carries arrival So call old (after_leaving old)
  leaving_carries {P} old = record { facts = refl; work = λ h. by old.work h } where
    by : (w : Work P) → WorkBy arrival (So old.lease) call w → WorkBy arrival (So old.lease) call (departed w)
    by Reading h = h
    by Opening h = h
    by (ServingBy tries program) h = h
    by (Committed place again page) h = h
    by (Decided became) h = h
    by (Answered fate bytes) h = h
    by (Left fate) h = h

  pub dropping_carries : {P : Type 0} (old : Visit P) → Carries arrival So call old (record old { work = dropped old.work })
  dropping_carries {P} old = record { facts = refl; work = λ h. by old.work h } where
    by : (w : Work P) → WorkBy arrival (So old.lease) call w → WorkBy arrival (So old.lease) call (dropped w)
    by Reading h = h
    by Opening h = h
    by (ServingBy tries program) h = h
    by (Committed place again page) h = h
    by (Decided became) h = h
    by (Answered fate bytes) h = h
    by (Left fate) h = h
