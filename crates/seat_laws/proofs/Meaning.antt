-- A journal stays meant behind each step of a seat that fits its boot, and whose texts spell their calls.
use Rattle.std.proofs.Common.{◌≡◌, Bool, List, [], ◌∷◌, ◌++◌, Option, Some, None, refl}
use Rattle.std.specs.Prelude.{IfSome}
use Rattle.auction_calls.specs.Texts.{Spells}
use Rattle.auction_calls.specs.declared.action.ActionCall.{ActionCall}
use Rattle.auction_site.specs.Actions.{steps_of}
use Rattle.auction_site.specs.Meant.{AreMeant}
use Rattle.boot_core.proofs.Sounding.{IsFree, is_free}
use Rattle.boot_core.specs.Boot.{BootValue}
use Rattle.boot_core.specs.declared.refusals.CommitRefusal.{CommitRefusal}
use Rattle.call_attempts.specs.Attempt.{AttemptValue, boot_after, stop_of_attempt, wanted}
use Rattle.call_attempts.specs.declared.stop.Stop.{Stop}
use Rattle.call_ticket.specs.Following.{Follows}
use Rattle.call_ticket.specs.declared.next.Answer.{Answer}
use Rattle.call_ticket.specs.declared.next.Next.{Next}
use Rattle.call_ticket.specs.declared.next.Next.TheVariants as next
use Rattle.container_core.specs.Container.{ContainerValue}
use Rattle.container_core.specs.declared.history.Event.{Event}
use Rattle.crash_base.specs.declared.rows.RowWrite.{RowWrite}
use Rattle.journal_model.proofs.Fitting.{fits_commit}
use Rattle.journal_model.specs.Calls.{Call, entry_of}
use Rattle.journal_model.specs.Legal.{IsCurrent, MayCommit}
use Rattle.journal_model.specs.Snapshots.{snapshot}
use Rattle.journal_model.specs.declared.entry.ActionEntry.{ActionEntry}
use Rattle.journal_model.specs.declared.entry.DoneText.{DoneText}
use Rattle.journal_model.specs.declared.entry.Entry.{Entry}
use Rattle.journal_model.specs.declared.entry.Entry.TheVariants.{Commit}
use Rattle.lane_link.specs.declared.link.LaneLink.{LaneLink}
use Rattle.request_tries.specs.Serving.{TriesValue}
use Rattle.request_tries.specs.Steps.{action_of, refusal_of}
use Rattle.request_visit.specs.declared.visit.Visit.{Visit}
use Rattle.request_visit.specs.declared.visit.Work.{Work}
use Rattle.request_visit.specs.declared.visit.Work.TheVariants.{Reading, Opening, Serving as ServingBy, Committed, Decided, Answered, Left}
use Rattle.shepherd.specs.Shepherds.{turn}
use Rattle.shepherd.specs.declared.shepherd.ShepherdTurn.{ShepherdTurn}
use Rattle.shepherd.specs.declared.shepherd.ShepherdTurn.TheVariants as turns
use Rattle.shepherd.specs.declared.shepherd.Stage.{Stage}
use Rattle.shepherd.specs.declared.shepherd.Stage.TheVariants.{Resting, Serving, Refusing, Over}
use Rattle.shepherd_steps.specs.Inside.{came_by, commits_by, inside, inside_of, stride, stride_by, untold, with_keeper}
use Rattle.shepherd_steps.specs.Stepping.{World, event_at, step, step_inside, steps_in}
use Rattle.seat_steps.specs.Seats.{SeatGivens, SeatWorld, givens_in, seat_step, seen_by}
use Rattle.seat_steps.specs.declared.seat.Seat.{Seat}
use Rattle.seat_laws.proofs.Attempting.{unrefused}
use Rattle.seat_laws.specs.Fitting.{AsksAndServes, IfServed, IsOpenFor, SeatFits, ServesInBoot, StageFits, WorksInBoot}
use Rattle.seat_laws.specs.Spelling.{AsksInRange, SeatSpells, TextSpells}

-- a meant journal stays so by the current commit of a call that followed its steps until they were done
abbrev pub FollowedLaw : Type 0
FollowedLaw = (base : List RowWrite) (es : List Entry) (call : ActionCall) (answers : List Answer) (making : Call) (action : ActionEntry) → Spells action.text call
    → Follows (steps_of call) (snapshot base es making.at.0) answers making → steps_of call answers ≡ next.Done action.done → IsCurrent base es (entry_of making (Some action))
    → AreMeant base es → AreMeant base (es ++ Commit (entry_of making (Some action)) ∷ [])

-- the journal of a boot is meant
abbrev Meant : BootValue → Type 0
Meant boot = AreMeant boot.start.base boot.entries

-- by a commit that is refused or not
commit-meant : FollowedLaw → (c : ContainerValue) (tries : TriesValue) (program : ActionCall) (a : AttemptValue) (done : DoneText) (refusal : Option CommitRefusal)
    → (refusal ≡ None → refusal_of c tries a done ≡ None) → wanted (steps_of program) a ≡ next.Done done → IsOpenFor c.boot program tries.request a → TextSpells tries program
    → Meant c.boot → Meant (commits_by c tries a done refusal).container.boot
commit-meant law c tries program a done None free is opened spells meant =
    let base : List RowWrite = c.boot.start.base in
    let call : Call = a.ticket.call in
    let its : IsFree c.boot.start.limits c.boot.entries call (action_of tries done) = is_free c.boot.start.limits c.boot.entries call (action_of tries done) (free refl) in
    let may : MayCommit base c.boot.entries (entry_of call (action_of tries done)) = fits_commit base c.boot.entries call (action_of tries done) opened.way.fits.journal its.once its.fresh its.current in
    law base c.boot.entries program a.answers call (record { text = tries.text; done = done }) spells opened.way.follows is may.current meant
commit-meant law c tries program a done (Some refusal) free is opened spells meant = meant

-- by the count of what a step enters
meant-after : (boot : BootValue) (x : Next) → Meant boot → Meant (boot_after boot x)
meant-after boot (next.Enter component method) meant = meant
meant-after boot (next.Read id) meant = meant
meant-after boot (next.List table) meant = meant
meant-after boot (next.Put write) meant = meant
meant-after boot next.Exit meant = meant
meant-after boot (next.Done done) meant = meant

-- by the step of a request
stride-meant : FollowedLaw → (keeps : Bool) (c : ContainerValue) (tries : TriesValue) (program : ActionCall) → ServesInBoot c.boot tries program → TextSpells tries program → Meant c.boot
    → Meant (stride (steps_of program) keeps c tries tries.attempt).container.boot
stride-meant law keeps c tries program serves spells meant = by tries.attempt serves.attempt where
  asks : List Answer → Next
  asks = steps_of program

  at : (a : AttemptValue) → IsOpenFor c.boot program tries.request a → (x : Next) → wanted asks a ≡ x → (o : Option Stop) → Meant (stride_by asks keeps c tries a (came_by x o)).container.boot
  at a opened (next.Enter component method) is None = meant-after c.boot (wanted asks a) meant
  at a opened (next.Enter component method) is (Some stop) = meant
  at a opened (next.Read id) is None = meant-after c.boot (wanted asks a) meant
  at a opened (next.Read id) is (Some stop) = meant
  at a opened (next.List table) is None = meant-after c.boot (wanted asks a) meant
  at a opened (next.List table) is (Some stop) = meant
  at a opened (next.Put write) is None = meant-after c.boot (wanted asks a) meant
  at a opened (next.Put write) is (Some stop) = meant
  at a opened next.Exit is None = meant-after c.boot (wanted asks a) meant
  at a opened next.Exit is (Some stop) = meant
  at a opened (next.Done done) is o =
      commit-meant law c tries program a done (with_keeper (refusal_of c tries a done) a.ticket.call.writes keeps) (unrefused (refusal_of c tries a done) a.ticket.call.writes keeps) is opened spells meant

  by : (o : Option AttemptValue) → IfSome o (IsOpenFor c.boot program tries.request) → Meant (stride asks keeps c tries o).container.boot
  by None opened = meant
  by (Some a) opened = at a opened (wanted asks a) refl (stop_of_attempt c.boot asks a)

inside-meant : FollowedLaw → (keeps : Bool) (v : Visit ActionCall) (boot : BootValue) (since : List Event) → WorksInBoot boot v.work → IfServed TextSpells v.work → Meant boot → Meant (inside steps_of keeps v boot since).boot
unfolding inside
inside-meant law keeps v boot since fits spells meant = by v.work fits spells where
  by : (w : Work ActionCall) → WorksInBoot boot w → IfServed TextSpells w → Meant (inside_of steps_of keeps v w (untold boot since)).boot
  by Reading its said = meant
  by Opening its said = meant
  by (ServingBy tries program) its said = stride-meant law keeps (untold boot since) tries program its said meant
  by (Committed place again shown) its said = meant
  by (Decided became) its said = meant
  by (Answered fate bytes) its said = meant
  by (Left fate) its said = meant

module _ (law : FollowedLaw) (g : SeatGivens) (seat : Seat) (w : SeatWorld) (its : SeatFits w.boot seat) (spells : SeatSpells seat) (meant : AreMeant w.boot.start.base w.boot.entries) where
  abbrev E : ShepherdTurn → World ActionCall LaneLink
  E t = (event_at (givens_in g w) t (seen_by seat w)).0

  event-meant : (t : ShepherdTurn) → Meant (E t).boot
  event-meant turns.Bytes = meant
  event-meant turns.Request = meant
  event-meant turns.Outside = meant
  event-meant turns.Windows = meant
  event-meant turns.Inside = go seat.connection.stage its.stage spells.stage where
    go : (stage : Stage ActionCall) → StageFits w.boot stage → AsksAndServes AsksInRange TextSpells stage
        → (let x : Stage ActionCall × (BootValue × List Event) = steps_in (step_inside steps_of g.keeps) stage (w.boot, w.since) in Meant x.1.0)
    go Resting fits said = meant
    go (Serving v call) fits said = inside-meant law g.keeps v w.boot w.since fits.1 said.1 meant
    go (Refusing why bytes) fits said = meant
    go (Over end) fits said = meant
  event-meant turns.Program = meant
  event-meant turns.Own = meant
  event-meant turns.Output = meant
  event-meant turns.Item = meant
  event-meant (turns.Ended end) = meant

  -- What a step commits is what the site means by its call.
  pub step-meant : AreMeant (seat_step g seat w).world.boot.start.base (seat_step g seat w).world.boot.entries
  unfolding seat_step step
  step-meant = event-meant (turn seat.connection)
