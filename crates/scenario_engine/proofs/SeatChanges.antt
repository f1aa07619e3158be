-- What the step of a connection makes of the boot, by what it hands to the keeper.
use Rattle.std.proofs.Common.{◌≡◌, ◌⊎◌, inl, inr, ℕ, Bool, true, false, List, [], ◌∷◌, Option, Some, None, is_some, refl, ap, ◌∙◌}
use Rattle.auction_calls.specs.declared.action.ActionCall.{ActionCall}
use Rattle.auction_site.specs.Actions.{steps_of}
use Rattle.boot_core.specs.Boot.{BootValue, with_entry, HasOnlyEntered}
use Rattle.boot_core.specs.declared.refusals.CommitRefusal.{CommitRefusal}
use Rattle.call_attempts.specs.Attempt.{AttemptValue, stop_of_attempt, wanted, boot_after}
use Rattle.call_attempts.specs.declared.attempt.Stepped.{Stepped}
use Rattle.call_attempts.specs.declared.attempt.Stepped.TheVariants as coming
use Rattle.call_ticket.specs.declared.next.Answer.{Answer as Told}
use Rattle.call_ticket.specs.declared.next.Next.{Next}
use Rattle.container_core.specs.Container.{ContainerValue}
use Rattle.container_core.specs.declared.history.Event.{Event}
use Rattle.crash_base.specs.declared.rows.RowWrite.{RowWrite}
use Rattle.journal_model.specs.Calls.{entry_of}
use Rattle.journal_model.specs.Rows.{writes_of as writes_in}
use Rattle.journal_model.specs.declared.entry.DoneText.{DoneText}
use Rattle.journal_model.specs.declared.entry.Entry.{Entry}
use Rattle.journal_model.specs.declared.entry.Entry.TheVariants.{Commit}
use Rattle.request_tries.specs.Serving.{TriesValue}
use Rattle.request_tries.specs.Steps.{action_of, refusal_of}
use Rattle.request_visit.specs.declared.visit.Visit.{Visit}
use Rattle.request_visit.specs.declared.visit.Work.{Work}
use Rattle.request_visit.specs.declared.visit.Work.TheVariants.{Reading, Opening, Serving as ServingBy, Committed, Decided, Answered, Left}
use Rattle.scenario_text.specs.Answer.{Answer, Refused, Done, or_refused, refused_if, within}
use Rattle.scenario_text.proofs.Leaving.{Leaves, leaves-refused_if}
use Rattle.seat_lines.specs.Handing.{writes_by}
use Rattle.seat_lines.specs.Lines.{Place, givens_of, is_beyond, moved, place_step, step_over, step_line, steps_at, with_place, world_of}
use Rattle.seat_lines.specs.Site.{SiteState, seat_at}
use Rattle.seat_steps.specs.Seats.{SeatGivens, SeatOutcome, SeatWorld, givens_in, seat_step, seen_by}
use Rattle.seat_steps.specs.Stepped.{seat_writes, writes_at, writes_of}
use Rattle.seat_steps.specs.declared.seat.Seat.{Seat}
use Rattle.session_lanes.specs.Lanes.{LanesState}
use Rattle.shepherd.specs.Shepherds.{turn}
use Rattle.shepherd.specs.declared.shepherd.Shepherd.{Shepherd}
use Rattle.shepherd.specs.declared.shepherd.ShepherdTurn.{ShepherdTurn}
use Rattle.shepherd.specs.declared.shepherd.ShepherdTurn.TheVariants as turns
use Rattle.shepherd.specs.declared.shepherd.Stage.{Stage}
use Rattle.shepherd.specs.declared.shepherd.Stage.TheVariants.{Resting, Serving, Refusing, Over}
use Rattle.shepherd_steps.specs.Inside.{came_by, commit_inside, commits_by, handed, handed_at, handed_by, handed_in, handed_of, inside, inside_of, stride, stride_by, untold, with_keeper}
use Rattle.shepherd_steps.specs.Stepping.{event_at, step}
use Rattle.call_ticket.specs.declared.next.Next.TheVariants as next
use Rattle.recovery_manager.specs.Kept.{ManagerValue}

-- A step made this of a boot: it handed nothing to the keeper, or the keeper did not keep it, and the boot is as it
-- was but for how often its components were entered; or the journal has one entry more, with just these writes.
abbrev pub Changes : BootValue → List RowWrite → Bool → BootValue → Type 0
Changes old writes keeps new =
    (HasOnlyEntered old new × ((writes ≡ []) ⊎ (keeps ≡ false)))
    ⊎ ((e : Entry) × (new ≡ with_entry old e) × (writes_in e ≡ writes) × ((writes ≡ []) ⊎ (keeps ≡ true)))

-- an answered step only counts
only_counts : (b : BootValue) (x : Next) → HasOnlyEntered b (boot_after b x)
only_counts b (next.Enter c m) = refl
only_counts b (next.Read id) = refl
only_counts b (next.List table) = refl
only_counts b (next.Put w) = refl
only_counts b next.Exit = refl
only_counts b (next.Done d) = refl

changed_by_commit : (keeps : Bool) (c : ContainerValue) (s : TriesValue) (a : AttemptValue) (done : DoneText) → Changes c.boot (handed_by (refusal_of c s a done) a.ticket.call.writes) keeps (commit_inside keeps c s a done).container.boot
changed_by_commit keeps c s a done = go (refusal_of c s a done) a.ticket.call.writes refl keeps
  where
    go : (refusal : Option CommitRefusal) (ws : List RowWrite) → a.ticket.call.writes ≡ ws → (keeps : Bool) → Changes c.boot (handed_by refusal ws) keeps (commits_by c s a done (with_keeper refusal ws keeps)).container.boot
    go (Some refusal) ws is keeps = inl (refl, inl refl)
    go None [] is keeps = inr (Commit (entry_of a.ticket.call (action_of s done)), refl, is, inl refl)
    go None (w ∷ ws) is true = inr (Commit (entry_of a.ticket.call (action_of s done)), refl, is, inr refl)
    go None (w ∷ ws) is false = inl (refl, inr refl)

changed_by_stride : (asks : List Told → Next) (keeps : Bool) (c : ContainerValue) (s : TriesValue) (o : Option AttemptValue) → Changes c.boot (handed_in asks c s o) keeps (stride asks keeps c s o).container.boot
changed_by_stride asks keeps c s None = inl (refl, inl refl)
changed_by_stride asks keeps c s (Some a) = by (came_by (wanted asks a) (stop_of_attempt c.boot asks a))
  where
    by : (came : Stepped) → Changes c.boot (handed_at c s a came) keeps (stride_by asks keeps c s a came).container.boot
    by coming.Went = inl (only_counts c.boot (wanted asks a), inl refl)
    by (coming.Done done) = changed_by_commit keeps c s a done
    by (coming.Stopped stop) = inl (refl, inl refl)

changed_inside : (keeps : Bool) (v : Visit ActionCall) (boot : BootValue) (since : List Event) → Changes boot (handed steps_of v boot) keeps (inside steps_of keeps v boot since).boot
unfolding inside handed
changed_inside keeps v boot since = go v.work
  where
    go : (w : Work ActionCall) → Changes boot (handed_of steps_of w (untold boot [])) keeps (inside_of steps_of keeps v w (untold boot since)).boot
    go Reading = inl (refl, inl refl)
    go Opening = inl (refl, inl refl)
    go (ServingBy tries program) = changed_by_stride (steps_of program) keeps (untold boot since) tries tries.attempt
    go (Committed place again shown) = inl (refl, inl refl)
    go (Decided became) = inl (refl, inl refl)
    go (Answered fate bytes) = inl (refl, inl refl)
    go (Left fate) = inl (refl, inl refl)

changed_by_event : (g : SeatGivens) (seat : Seat) (w : SeatWorld) (t : ShepherdTurn) → Changes w.boot (writes_at t seat.connection.stage w.boot) g.keeps (event_at (givens_in g w) t (seen_by seat w)).0.boot
changed_by_event g seat w turns.Bytes = inl (refl, inl refl)
changed_by_event g seat w turns.Request = inl (refl, inl refl)
changed_by_event g seat w turns.Outside = inl (refl, inl refl)
changed_by_event g seat w turns.Windows = inl (refl, inl refl)
changed_by_event g seat w turns.Inside = go seat.connection.stage refl
  where
    go : (stage : Stage ActionCall) → seat.connection.stage ≡ stage → Changes w.boot (writes_of seat.connection.stage w.boot) g.keeps (event_at (givens_in g w) turns.Inside (seen_by seat w)).0.boot
    go Resting is = rw is (inl (refl, inl refl))
    go (Serving v call) is = rw is (changed_inside g.keeps v w.boot w.since)
    go (Refusing why bytes) is = rw is (inl (refl, inl refl))
    go (Over end) is = rw is (inl (refl, inl refl))
changed_by_event g seat w turns.Program = inl (refl, inl refl)
changed_by_event g seat w turns.Own = inl (refl, inl refl)
changed_by_event g seat w turns.Output = inl (refl, inl refl)
changed_by_event g seat w turns.Item = inl (refl, inl refl)
changed_by_event g seat w (turns.Ended end) = inl (refl, inl refl)

pub changed_seat : (g : SeatGivens) (seat : Seat) (w : SeatWorld) → Changes w.boot (seat_writes seat.connection w.boot) g.keeps (seat_step g seat w).world.boot
unfolding seat_step step seat_writes
changed_seat g seat w = changed_by_event g seat w (turn seat.connection)

-- one that makes no step hands nothing
none_at : (s : Shepherd ActionCall) (boot : BootValue) (t : ShepherdTurn) → turn s ≡ t → writes_at t s.stage boot ≡ [] → seat_writes s boot ≡ []
unfolding seat_writes
none_at s boot t is none = ap (λ (t : ShepherdTurn). writes_at t s.stage boot) is ∙ none

changed_at : (g : SeatGivens) (n : ℕ) (seat : Seat) (w : SeatWorld) (m : ManagerValue) (t : ShepherdTurn) → turn seat.connection ≡ t → Leaves (λ (p : Place). Changes w.boot (seat_writes seat.connection w.boot) g.keeps p.world.boot) (steps_at t g n seat w m)
changed_at g n seat w m turns.Bytes is = inl (refl, inl (none_at seat.connection w.boot turns.Bytes is refl))
changed_at g n seat w m turns.Request is = changed_seat g seat w
changed_at g n seat w m turns.Outside is = changed_seat g seat w
changed_at g n seat w m turns.Windows is = changed_seat g seat w
changed_at g n seat w m turns.Inside is = changed_seat g seat w
changed_at g n seat w m turns.Program is = changed_seat g seat w
changed_at g n seat w m turns.Own is = changed_seat g seat w
changed_at g n seat w m turns.Output is = changed_seat g seat w
changed_at g n seat w m turns.Item is = changed_seat g seat w
changed_at g n seat w m (turns.Ended end) is = inl (refl, inl (none_at seat.connection w.boot (turns.Ended end) is refl))

-- what holds of a site after the step of a connection
pub record HasStep (s : SiteState) (n : ℕ) (keeps : Bool) (t : SiteState) : Type 0 where
  pub changes : Changes s.boot (writes_by (seat_at s.seats.seats n) s.boot) keeps t.boot
  pub bricks : is_some t.sessions.store ≡ true

placed : (s : SiteState) (n : ℕ) (keeps : Bool) (a : Answer Place) → Leaves (λ (p : Place). Changes s.boot (writes_by (seat_at s.seats.seats n) s.boot) keeps p.world.boot) a → Leaves (HasStep s n keeps) (within (with_place s n) a)
placed s n keeps Refused h = tt
placed s n keeps (Done p text) h = record { changes = h; bricks = refl }

pub changed_step : (s : SiteState) (n : ℕ) (keeps : Bool) → Leaves (HasStep s n keeps) (step_line s n keeps)
unfolding step_line place_step
changed_step s n keeps = leaves-refused_if (HasStep s n keeps) (is_beyond n) (or_refused s.sessions.store (λ store. step_over s n keeps store)) (λ near. by s.sessions.store)
  where
    there : (o : Option Seat) (st : LanesState) → Leaves (λ (p : Place). Changes s.boot (writes_by o s.boot) keeps p.world.boot) (or_refused o (λ seat. steps_at (turn seat.connection) (givens_of s n keeps) n seat (world_of s st) s.seats.manager))
    there None st = tt
    there (Some seat) st = changed_at (givens_of s n keeps) n seat (world_of s st) s.seats.manager (turn seat.connection) refl

    by : (o : Option LanesState) → Leaves (HasStep s n keeps) (or_refused o (λ store. step_over s n keeps store))
    by None = tt
    by (Some st) = placed s n keeps (or_refused (seat_at s.seats.seats n) (λ seat. steps_at (turn seat.connection) (givens_of s n keeps) n seat (world_of s st) s.seats.manager)) (there (seat_at s.seats.seats n) st)

-- where a step hands nothing to the keeper, its reply changes nothing

-- the same givens, where the keeper replies so
abbrev pub replied_by : SeatGivens → Bool → SeatGivens
replied_by g keeps = record g { keeps = keeps }

-- this is promised of the step of a connection
abbrev pub ReplyLaw : Type 0
ReplyLaw = (g : SeatGivens) (keeps other : Bool) (seat : Seat) (w : SeatWorld) → seat_writes seat.connection w.boot ≡ [] → seat_step (replied_by g keeps) seat w ≡ seat_step (replied_by g other) seat w

unasked_at : (g : SeatGivens) (keeps other : Bool) (n : ℕ) (seat : Seat) (w : SeatWorld) (m : ManagerValue) (t : ShepherdTurn) → seat_step (replied_by g keeps) seat w ≡ seat_step (replied_by g other) seat w → steps_at t (replied_by g keeps) n seat w m ≡ steps_at t (replied_by g other) n seat w m
unasked_at g keeps other n seat w m turns.Bytes same = refl
unasked_at g keeps other n seat w m turns.Request same = ap (λ (o : SeatOutcome). moved turns.Request n o m) same
unasked_at g keeps other n seat w m turns.Outside same = ap (λ (o : SeatOutcome). moved turns.Outside n o m) same
unasked_at g keeps other n seat w m turns.Windows same = ap (λ (o : SeatOutcome). moved turns.Windows n o m) same
unasked_at g keeps other n seat w m turns.Inside same = ap (λ (o : SeatOutcome). moved turns.Inside n o m) same
unasked_at g keeps other n seat w m turns.Program same = ap (λ (o : SeatOutcome). moved turns.Program n o m) same
unasked_at g keeps other n seat w m turns.Own same = ap (λ (o : SeatOutcome). moved turns.Own n o m) same
unasked_at g keeps other n seat w m turns.Output same = ap (λ (o : SeatOutcome). moved turns.Output n o m) same
unasked_at g keeps other n seat w m turns.Item same = ap (λ (o : SeatOutcome). moved turns.Item n o m) same
unasked_at g keeps other n seat w m (turns.Ended end) same = refl

pub unasked_step : ReplyLaw → (s : SiteState) (n : ℕ) (keeps other : Bool) → writes_by (seat_at s.seats.seats n) s.boot ≡ [] → step_line s n keeps ≡ step_line s n other
unfolding step_line place_step
unasked_step unasked s n keeps other none = ap (λ (a : Answer SiteState). refused_if (is_beyond n) a) (by s.sessions.store)
  where
    there : (o : Option Seat) (st : LanesState) → writes_by o s.boot ≡ [] → or_refused o (λ seat. steps_at (turn seat.connection) (givens_of s n keeps) n seat (world_of s st) s.seats.manager) ≡ or_refused o (λ seat. steps_at (turn seat.connection) (givens_of s n other) n seat (world_of s st) s.seats.manager)
    there None st none = refl
    there (Some seat) st none = unasked_at (givens_of s n keeps) keeps other n seat (world_of s st) s.seats.manager (turn seat.connection) (unasked (givens_of s n keeps) keeps other seat (world_of s st) none)

    by : (o : Option LanesState) → or_refused o (λ store. step_over s n keeps store) ≡ or_refused o (λ store. step_over s n other store)
    by None = refl
    by (Some st) = ap (λ (a : Answer Place). within (with_place s n) a) (there (seat_at s.seats.seats n) st none)
