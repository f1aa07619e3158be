-- A seat that fits its boot fits it behind each of its steps.
use Rattle.std.specs.Prelude.{IfSome, slice_get}
use Rattle.std.proofs.Common.{◌≡◌, ◌⊎◌, ◌↔◌, inl, inr, ◌∙◌, ℕ, zero, suc, Bool, true, List, [], ◌∷◌, ◌++◌, Option, Some, None, refl, sym, ap, subst}
use Rattle.auction_calls.specs.Calls.{is_action}
use Rattle.auction_calls.specs.declared.action.ActionCall.{ActionCall}
use Rattle.auction_rows.specs.Parts.{site_parts}
use Rattle.auction_site.specs.Actions.{steps_of}
use Rattle.boot_core.specs.Boot.{BootValue, HasGrown, with_entry}
use Rattle.boot_core.specs.Fits.{FitsIn}
use Rattle.boot_core.specs.Refusals.{commit_refusal}
use Rattle.boot_core.specs.Sound.{IsSound}
use Rattle.boot_core.specs.declared.boot.Start.{Start}
use Rattle.call_attempts.specs.Attempt.{AttemptValue}
use Rattle.container_core.specs.Container.{ContainerValue}
use Rattle.container_core.specs.declared.history.Event.{Event}
use Rattle.crash_base.specs.declared.numbers.RequestNo.{RequestNo}
use Rattle.http_wire.specs.declared.taken.Head.{Head}
use Rattle.http_wire.specs.declared.taken.MethodKind.{MethodKind}
use Rattle.http_wire.specs.declared.taken.MethodKind.TheVariants.{Get, HeadOnly, Post, Other}
use Rattle.journal_model.specs.Calls.{Call, entry_of}
use Rattle.journal_model.specs.declared.entry.ActionEntry.{ActionEntry}
use Rattle.journal_model.specs.declared.entry.CommitEntry.{CommitEntry}
use Rattle.journal_model.specs.declared.entry.Entry.{Entry}
use Rattle.journal_model.specs.declared.entry.Entry.TheVariants.{Commit}
use Rattle.lane_link.specs.Links.{lane_link_tally}
use Rattle.lane_link.specs.declared.link.LaneLink.{LaneLink}
use Rattle.outside.specs.declared.link.LinkCounts.{LinkCounts}
use Rattle.request_decisions.specs.Calls.{ordered_call, request_of}
use Rattle.request_decisions.specs.Decisions.{IsDecided, IsNumbered, IsOrdered}
use Rattle.request_decisions.specs.declared.decision.Decision.TheVariants as decided
use Rattle.request_decisions.specs.declared.decision.Order.{Order}
use Rattle.request_decisions.specs.declared.draws.Draw.{Draw}
use Rattle.request_tries.specs.Serving.{TriesValue}
use Rattle.request_visit.specs.Stepping.{counted}
use Rattle.request_visit.specs.declared.visit.Visit.{Visit}
use Rattle.request_visit.specs.declared.visit.Work.{Work}
use Rattle.request_visit.specs.declared.visit.Work.TheVariants.{Reading, Opening, Serving as ServingBy, Committed, Decided, Answered, Left}
use Rattle.shepherd.specs.Shepherds.{turn}
use Rattle.shepherd.specs.declared.shepherd.AskedCall.{AskedCall}
use Rattle.shepherd.specs.declared.shepherd.Shepherd.{Shepherd}
use Rattle.shepherd.specs.declared.shepherd.ShepherdTurn.{ShepherdTurn}
use Rattle.shepherd.specs.declared.shepherd.ShepherdTurn.TheVariants as turns
use Rattle.shepherd.specs.declared.shepherd.Stage.{Stage}
use Rattle.shepherd.specs.declared.shepherd.Stage.TheVariants.{Resting, Serving, Refusing, Over}
use Rattle.shepherd_steps.specs.Deciding.{ReadRightly, Readings, decided_by}
use Rattle.shepherd_steps.specs.Inside.{Stride, inside, inside_of, stride, untold}
use Rattle.shepherd_steps.specs.Own.{own}
use Rattle.shepherd_steps.specs.Stepping.{World, event_at, step, step_inside, steps_in}
use Rattle.seat_steps.proofs.Functions.{CookieLaw, NoneLaw, TokenLaw}
use Rattle.seat_steps.specs.Seats.{SeatGivens, SeatWorld, givens_in, seat_step, seen_by}
use Rattle.seat_steps.specs.declared.seat.Seat.{Seat}
use Rattle.seat_laws.proofs.Attempting.{FollowLaw, StrideFits, grown-by, own-call, serves-on, stride-fits}
use Rattle.seat_laws.proofs.Ordering.{OrderLaws, order-decided, order-laws}
use Rattle.seat_laws.proofs.Passing.{AdmitsLaw, OpensLaw, by-windows-passes, course-passes, drawing, gone-passes, outside-passes, output-passes, request-passes}
use Rattle.seat_laws.specs.Fitting.{AsksInBoot, CommitsAreOwn, CommitsAtMost, IsOpenFor, IsOwnCall, SeatFits, ServesInBoot, StageFits, WorksInBoot, attempt_by, attempt_open}

-- the laws by which requests are ordered, and by which calls go on
pub record FitLaws : Type 0 where
  pub orders : OrderLaws
  pub follow : FollowLaw

-- the same, from the laws that tell them
pub fit-laws : CookieLaw → NoneLaw → TokenLaw → ((key : List ℕ) (readings : Readings) (boot : ℕ) (head : Head) → ReadRightly key readings → IsDecided key boot head (decided_by readings boot head))
    → ((key : List ℕ) (boot : ℕ) (head : Head) (o : Order) → IsDecided key boot head (decided.Ordered o) → is_action o.action ≡ true)
    → ((key : List ℕ) (boot : ℕ) (head : Head) (o : Order) → IsDecided key boot head (decided.Ordered o) ↔ IsOrdered key boot head o) → FollowLaw → FitLaws
fit-laws cookie none token decides in_range exact follow = record { orders = order-laws cookie none token decides in_range exact; follow = follow }

-- a sound boot stays so by a commit that it does not refuse
abbrev pub CommitLaw : Type 0
CommitLaw = (c : BootValue) (call : Call) (action : Option ActionEntry) → IsSound c → FitsIn c call → commit_refusal c.start.limits c.entries call action ≡ None → IsSound (with_entry c (Commit (entry_of call action)))

-- what was asked stays so in a boot that has grown
asks-on : (old new : BootValue) (call : Option AskedCall) → HasGrown old new → IfSome call (AsksInBoot old) → IfSome call (AsksInBoot new)
asks-on old new None grown asks = tt
asks-on old new (Some asked) grown asks = record { action = asks.action; own = asks.own ∙ ap (λ (s : Start). s.boot) (sym grown.start) }

works-on : (old new : BootValue) (w : Work ActionCall) → HasGrown old new → WorksInBoot old w → WorksInBoot new w
works-on old new Reading grown fits = tt
works-on old new Opening grown fits = tt
works-on old new (ServingBy tries program) grown fits = serves-on old new tries program grown fits
works-on old new (Committed place again shown) grown fits = tt
works-on old new (Decided became) grown fits = tt
works-on old new (Answered fate bytes) grown fits = tt
works-on old new (Left fate) grown fits = tt

stage-on : (old new : BootValue) (stage : Stage ActionCall) → HasGrown old new → StageFits old stage → StageFits new stage
stage-on old new Resting grown fits = tt
stage-on old new (Serving v call) grown fits = (asks-on old new call grown fits.0, works-on old new v.work grown fits.1)
stage-on old new (Refusing why bytes) grown fits = tt
stage-on old new (Over end) grown fits = tt

-- A seat fits each boot that has grown from the one that it fits.
pub fits-meanwhile : (old new : BootValue) (seat : Seat) → HasGrown old new → SeatFits old seat → SeatFits new seat
fits-meanwhile old new seat grown fits = record {
  site = ap (λ (s : Start). s.deployment) grown.start ∙ fits.site;
  stage = stage-on old new seat.connection.stage grown fits.stage;
}

pub fits-still : (boot : BootValue) (seat new : Seat) → new.connection.stage ≡ seat.connection.stage → SeatFits boot seat → SeatFits boot new
fits-still boot seat new same fits = record { site = fits.site; stage = subst (StageFits boot) (sym same) fits.stage }

-- The call of its open attempt is one of the boot's own.
pub fits-attempt : (boot : BootValue) (seat : Seat) → SeatFits boot seat → IfSome (attempt_open seat.connection.stage) (λ (a : AttemptValue). IsOwnCall boot a.ticket.call)
fits-attempt boot seat fits = by seat.connection.stage fits.stage where
  tried : (tries : TriesValue) (program : ActionCall) → ServesInBoot boot tries program → (o : Option AttemptValue) → IfSome o (IsOpenFor boot program tries.request)
      → IfSome o (λ (a : AttemptValue). IsOwnCall boot a.ticket.call)
  tried tries program serves None opened = tt
  tried tries program serves (Some a) opened = own-call boot tries program a serves.own opened

  work : (w : Work ActionCall) → WorksInBoot boot w → IfSome (attempt_by w) (λ (a : AttemptValue). IsOwnCall boot a.ticket.call)
  work Reading fits = tt
  work Opening fits = tt
  work (ServingBy tries program) fits = tried tries program fits tries.attempt fits.attempt
  work (Committed place again shown) fits = tt
  work (Decided became) fits = tt
  work (Answered fate bytes) fits = tt
  work (Left fate) fits = tt

  by : (stage : Stage ActionCall) → StageFits boot stage → IfSome (attempt_open stage) (λ (a : AttemptValue). IsOwnCall boot a.ticket.call)
  by Resting fits = tt
  by (Serving v call) fits = work v.work fits.1
  by (Refusing why bytes) fits = tt
  by (Over end) fits = tt

-- a request of the boot is served so once its program is made: no attempt is open
opens-fit : (boot : BootValue) → OpensLaw (AsksInBoot boot) (ServesInBoot boot)
opens-fit boot g v asked asks = record { action = asks.action; own = asks.own; attempt = tt }

-- the step of a request in the container leaves this
record InsideFits (old : BootValue) (v : Visit ActionCall) (boot : BootValue) : Type 0 where
  commits : CommitsAtMost old boot
  work : WorksInBoot boot v.work

inside-fits : FollowLaw → (keeps : Bool) (v : Visit ActionCall) (boot : BootValue) (since : List Event) → boot.start.deployment ≡ site_parts → WorksInBoot boot v.work
    → InsideFits boot (inside steps_of keeps v boot since).visit (inside steps_of keeps v boot since).boot
unfolding inside
inside-fits follow keeps v boot since site fits = by v.work fits where
  rests : InsideFits boot v boot
  rests = record { commits = inl (inl refl); work = fits }

  by : (w : Work ActionCall) → WorksInBoot boot w → InsideFits boot (inside_of steps_of keeps v w (untold boot since)).visit (inside_of steps_of keeps v w (untold boot since)).boot
  by Reading its = rests
  by Opening its = rests
  by (ServingBy tries program) its =
      let c : ContainerValue = untold boot since in
      let s : Stride = stride (steps_of program) keeps c tries tries.attempt in
      let it : StrideFits boot program s = stride-fits follow keeps c tries program site its in
      record { commits = it.commits; work = course-passes (AsksInBoot s.container.boot) (ServesInBoot s.container.boot) v program s.container s.course it.course }
  by (Committed place again shown) its = rests
  by (Decided became) its = rests
  by (Answered fate bytes) its = rests
  by (Left fate) its = rests

same-some : (a b : Entry) → Some a ≡ Some b → a ≡ b
same-some a b is = cc

-- the entry at a place of entries with one more is one of those before, or this one
entry-there : (es : List Entry) (last : Entry) (place : ℕ) (x : Entry) → slice_get (es ++ last ∷ []) place ≡ Some x → (slice_get es place ≡ Some x) ⊎ (last ≡ x)
entry-there [] last zero x is = inr (same-some last x is)
entry-there [] last (suc n) x is = absurd (cc)
entry-there (e ∷ es) last zero x is = inl is
entry-there (e ∷ es) last (suc n) x is = entry-there es last n x is

own-more : (b : BootValue) (e : CommitEntry) → e.request.boot ≡ b.start.boot → CommitsAreOwn b → CommitsAreOwn (with_entry b (Commit e))
own-more b e is own place x there = by (entry-there b.entries (Commit e) place (Commit x) there) where
  same : Commit e ≡ Commit x → e ≡ x
  same it = cc

  by : (slice_get b.entries place ≡ Some (Commit x)) ⊎ (Commit e ≡ Commit x) → x.request.boot ≡ b.start.boot
  by (inl before) = own place x before
  by (inr it) = ap (λ (y : CommitEntry). y.request.boot) (sym (same it)) ∙ is

-- a stage and the boot after an event
record EventFits (old : BootValue) (to : Stage ActionCall) (boot : BootValue) : Type 0 where
  commits : CommitsAtMost old boot
  stage : StageFits boot to

module _ (laws : FitLaws) (g : SeatGivens) (seat : Seat) (w : SeatWorld) (its : SeatFits w.boot seat) where
  abbrev s : Shepherd ActionCall
  s = seat.connection

  abbrev E : ShepherdTurn → World ActionCall LaneLink
  E t = (event_at (givens_in g w) t (seen_by seat w)).0

  abbrev seen : LinkCounts
  seen = counted (lane_link_tally (record { lanes = w.store; active = seat.twin }))

  -- the number of an order is of the boot
  number-own : (head : Head) (o : Order) (drawn : List Draw) → IsNumbered g.key w.boot.start.boot head.method head.body o → (request_of w.boot.start.boot o.number drawn).boot ≡ w.boot.start.boot
  number-own head o drawn = by head.method where
    none : o.number ≡ None → (request_of w.boot.start.boot o.number drawn).boot ≡ w.boot.start.boot
    none is = ap (λ (n : Option RequestNo). (request_of w.boot.start.boot n drawn).boot) is

    by : (m : MethodKind) → IsNumbered g.key w.boot.start.boot m head.body o → (request_of w.boot.start.boot o.number drawn).boot ≡ w.boot.start.boot
    by Get is = none is
    by HeadOnly is = none is
    by Other is = none is
    by Post has = ap (λ (n : Option RequestNo). (request_of w.boot.start.boot n drawn).boot) has.number_is ∙ has.in_boot

  admits-fit : AdmitsLaw (AsksInBoot w.boot) (ServesInBoot w.boot) g w
  unfolding ordered_call
  admits-fit head o is =
      let by : IsDecided g.key w.boot.start.boot head (decided.Ordered o) = order-decided laws.orders g.key w.boot.start.boot head o is in
      record {
        action = laws.orders.in_range g.key w.boot.start.boot head o by;
        own = number-own head o (drawing g w o).drawn (laws.orders.exact g.key w.boot.start.boot head o by).numbered;
      }

  -- an event that leaves the boot as it was
  same : (stage : Stage ActionCall) → StageFits w.boot stage → EventFits w.boot stage w.boot
  same stage fits = record { commits = inl (inl refl); stage = fits }

  event-fits : (t : ShepherdTurn) → EventFits w.boot (E t).connection.stage (E t).boot
  event-fits turns.Bytes = same s.stage its.stage
  event-fits turns.Request =
      same (E turns.Request).connection.stage (request-passes (AsksInBoot w.boot) (ServesInBoot w.boot) g w admits-fit s seen its.stage)
  event-fits turns.Outside =
      same (E turns.Outside).connection.stage (outside-passes (AsksInBoot w.boot) (ServesInBoot w.boot) s.stage (record { lanes = w.store; active = seat.twin }) its.stage)
  event-fits turns.Windows =
      same (E turns.Windows).connection.stage (by-windows-passes (AsksInBoot w.boot) (ServesInBoot w.boot) s.stage w.store.windows its.stage)
  event-fits turns.Inside = go s.stage its.stage where
    go : (stage : Stage ActionCall) → StageFits w.boot stage
        → (let x : Stage ActionCall × (BootValue × List Event) = steps_in (step_inside steps_of g.keeps) stage (w.boot, w.since) in EventFits w.boot x.0 x.1.0)
    go Resting fits = same Resting tt
    go (Serving v call) fits =
        let i = inside steps_of g.keeps v w.boot w.since in
        let it : InsideFits w.boot i.visit i.boot = inside-fits laws.follow g.keeps v w.boot w.since its.site fits.1 in
        record { commits = it.commits; stage = (asks-on w.boot i.boot call (grown-by w.boot i.boot it.commits) fits.0, it.work) }
    go (Refusing why bytes) fits = same (Refusing why bytes) tt
    go (Over end) fits = same (Over end) tt
  event-fits turns.Program = same s.stage its.stage
  event-fits turns.Own = same s.stage its.stage
  event-fits turns.Output = same (E turns.Output).connection.stage (output-passes (AsksInBoot w.boot) (ServesInBoot w.boot) s.stage its.stage)
  event-fits turns.Item = same s.stage its.stage
  event-fits (turns.Ended end) = same s.stage its.stage

  -- A step adds the commit of a call that fits, or counts an entering, or leaves the boot as it was.
  pub step-commits : CommitsAtMost w.boot (seat_step g seat w).world.boot
  unfolding seat_step step
  step-commits = (event-fits (turn s)).commits

  -- And the seat fits the boot then.
  pub step-fits : SeatFits (seat_step g seat w).world.boot (seat_step g seat w).seat
  unfolding seat_step step
  step-fits =
      let event : EventFits w.boot (E (turn s)).connection.stage (E (turn s)).boot = event-fits (turn s) in
      let grown : HasGrown w.boot (E (turn s)).boot = grown-by w.boot (E (turn s)).boot event.commits in
      record {
        site = ap (λ (x : Start). x.deployment) grown.start ∙ its.site;
        stage = gone-passes (AsksInBoot (E (turn s)).boot) (ServesInBoot (E (turn s)).boot) (opens-fit (E (turn s)).boot) g (E (turn s)).connection event.stage;
      }

  -- a boot that is as it was, or that has counted an entering, or that has such a commit, keeps what was so

  pub sound-at-seats : CommitLaw → IsSound w.boot → IsSound (seat_step g seat w).world.boot
  sound-at-seats commit sound = by (seat_step g seat w).world.boot step-commits where
    by : (new : BootValue) → CommitsAtMost w.boot new → IsSound new
    by new (inl (inl same)) = subst IsSound (sym same) sound
    by new (inl (inr (component, counts))) = subst IsSound (sym counts) (record { legal = sound.legal; within = sound.within; owned = sound.owned })
    by new (inr has) = subst IsSound (sym has.added) (commit w.boot has.call (Some has.action) sound has.is_own.fits has.unrefused)

  pub own-at-seats : CommitsAreOwn w.boot → CommitsAreOwn (seat_step g seat w).world.boot
  own-at-seats own = by (seat_step g seat w).world.boot step-commits where
    by : (new : BootValue) → CommitsAtMost w.boot new → CommitsAreOwn new
    by new (inl (inl same)) = subst CommitsAreOwn (sym same) own
    by new (inl (inr (component, counts))) = subst CommitsAreOwn (sym counts) own
    by new (inr has) = subst CommitsAreOwn (sym has.added) (own-more w.boot (entry_of has.call (Some has.action)) has.is_own.own own)
