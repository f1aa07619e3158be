-- Where a step hands nothing to the keeper, its reply changes nothing.
use Rattle.std.proofs.Common.{◌≡◌, ℕ, Bool, List, [], ◌∷◌, Option, Some, None, refl, ap}
use Rattle.auction_calls.specs.declared.action.ActionCall.{ActionCall}
use Rattle.auction_site.specs.Actions.{steps_of}
use Rattle.boot_core.specs.Boot.{BootValue}
use Rattle.boot_core.specs.declared.refusals.CommitRefusal.{CommitRefusal}
use Rattle.call_attempts.specs.Attempt.{AttemptValue, stop_of_attempt, wanted}
use Rattle.call_attempts.specs.declared.attempt.Stepped.{Stepped}
use Rattle.call_attempts.specs.declared.attempt.Stepped.TheVariants as coming
use Rattle.call_ticket.specs.declared.next.Answer.{Answer}
use Rattle.call_ticket.specs.declared.next.Next.{Next}
use Rattle.container_core.specs.Container.{ContainerValue}
use Rattle.container_core.specs.declared.history.Event.{Event}
use Rattle.crash_base.specs.declared.rows.RowWrite.{RowWrite}
use Rattle.journal_model.specs.declared.entry.DoneText.{DoneText}
use Rattle.lane_link.specs.declared.link.LaneLink.{LaneLink}
use Rattle.request_tries.specs.Serving.{TriesValue}
use Rattle.request_tries.specs.Steps.{refusal_of}
use Rattle.request_visit.specs.declared.visit.Visit.{Visit}
use Rattle.request_visit.specs.declared.visit.Work.{Work}
use Rattle.request_visit.specs.declared.visit.Work.TheVariants.{Reading, Opening, Serving as ServingBy, Committed, Decided, Answered, Left}
use Rattle.shepherd.specs.Shepherds.{turn}
use Rattle.shepherd.specs.declared.shepherd.ShepherdTurn.{ShepherdTurn}
use Rattle.shepherd.specs.declared.shepherd.ShepherdTurn.TheVariants as turns
use Rattle.shepherd.specs.declared.shepherd.Stage.{Stage}
use Rattle.shepherd.specs.declared.shepherd.Stage.TheVariants.{Resting, Serving, Refusing, Over}
use Rattle.shepherd_steps.specs.Events.{event_of}
use Rattle.shepherd_steps.specs.Inside.{Inside, came_by, commit_inside, commits_by, handed, handed_at, handed_by, handed_in, handed_of, inside, inside_by, inside_of, stride, stride_by, untold, with_keeper}
use Rattle.shepherd_steps.specs.Stepping.{World, alone_after, at_stage, event_at, step, step_inside, steps_in}
use Rattle.seat_steps.specs.Seats.{SeatGivens, SeatWorld, givens_in, making_by, report_at, seat_step, seen_by, synced, unsynced}
use Rattle.seat_steps.specs.Stepped.{seat_writes, writes_at, writes_of}
use Rattle.seat_steps.specs.declared.seat.Seat.{Seat}

module _ (keeps other : Bool) where
  unasked-commit : (c : ContainerValue) (s : TriesValue) (a : AttemptValue) (done : DoneText) → handed_by (refusal_of c s a done) a.ticket.call.writes ≡ []
      → commit_inside keeps c s a done ≡ commit_inside other c s a done
  unasked-commit c s a done none = go (refusal_of c s a done) a.ticket.call.writes none where
    go : (refusal : Option CommitRefusal) (ws : List RowWrite) → handed_by refusal ws ≡ [] → commits_by c s a done (with_keeper refusal ws keeps) ≡ commits_by c s a done (with_keeper refusal ws other)
    go (Some refusal) ws none = refl
    go None [] none = refl
    go None (w ∷ ws) none = absurd (cc)

  unasked-stride : (asks : List Answer → Next) (c : ContainerValue) (s : TriesValue) (o : Option AttemptValue) → handed_in asks c s o ≡ [] → stride asks keeps c s o ≡ stride asks other c s o
  unasked-stride asks c s None none = refl
  unasked-stride asks c s (Some a) none = by (came_by (wanted asks a) (stop_of_attempt c.boot asks a)) none where
    by : (came : Stepped) → handed_at c s a came ≡ [] → stride_by asks keeps c s a came ≡ stride_by asks other c s a came
    by coming.Went none = refl
    by (coming.Done done) none = unasked-commit c s a done none
    by (coming.Stopped stop) none = refl

  unasked-inside : (v : Visit ActionCall) (boot : BootValue) (since : List Event) → handed steps_of v boot ≡ [] → inside steps_of keeps v boot since ≡ inside steps_of other v boot since
  unfolding inside handed
  unasked-inside v boot since none = go v.work none where
    go : (w : Work ActionCall) → handed_of steps_of w (untold boot []) ≡ [] → inside_of steps_of keeps v w (untold boot since) ≡ inside_of steps_of other v w (untold boot since)
    go Reading none = refl
    go Opening none = refl
    go (ServingBy tries program) none = ap (inside_by v program) (unasked-stride (steps_of program) (untold boot since) tries tries.attempt none)
    go (Committed place again shown) none = refl
    go (Decided became) none = refl
    go (Answered fate bytes) none = refl
    go (Left fate) none = refl

  unasked-event : (g : SeatGivens) (seat : Seat) (w : SeatWorld) (t : ShepherdTurn) → writes_at t seat.connection.stage w.boot ≡ []
      → event_at (givens_in (record g { keeps = keeps }) w) t (seen_by seat w) ≡ event_at (givens_in (record g { keeps = other }) w) t (seen_by seat w)
  unasked-event g seat w turns.Bytes none = refl
  unasked-event g seat w turns.Request none = refl
  unasked-event g seat w turns.Outside none = refl
  unasked-event g seat w turns.Windows none = refl
  unasked-event g seat w turns.Inside none = ap (left (seen_by seat w)) (by seat.connection.stage none) where
    left : World ActionCall LaneLink → Stage ActionCall × (BootValue × List Event) → World ActionCall LaneLink × List ℕ
    left x s = (record (at_stage x s.0) { boot = s.1.0; since = s.1.1 }, [])

    by : (stage : Stage ActionCall) → writes_of stage w.boot ≡ [] → steps_in (step_inside steps_of keeps) stage (w.boot, w.since) ≡ steps_in (step_inside steps_of other) stage (w.boot, w.since)
    by Resting none = refl
    by (Serving v call) none = ap (λ (i : Inside ActionCall). (Serving i.visit call, (i.boot, i.since))) (unasked-inside v w.boot w.since none)
    by (Refusing why bytes) none = refl
    by (Over end) none = refl
  unasked-event g seat w turns.Program none = refl
  unasked-event g seat w turns.Own none = refl
  unasked-event g seat w turns.Output none = refl
  unasked-event g seat w turns.Item none = refl
  unasked-event g seat w (turns.Ended end) none = refl

  -- So it is of the step of a seat.
  pub unasked-step : (g : SeatGivens) (seat : Seat) (w : SeatWorld) → seat_writes seat.connection w.boot ≡ []
      → seat_step (record g { keeps = keeps }) seat w ≡ seat_step (record g { keeps = other }) seat w
  unfolding seat_step step event_of seat_writes
  unasked-step g seat w none =
      ap (λ (event : World ActionCall LaneLink × List ℕ). synced (unsynced seat.twin w (report_at (turn seat.connection) event.0.connection.stage) (alone_after (making_by g) event)))
      (unasked-event g seat w (turn seat.connection) none)
