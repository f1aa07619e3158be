-- A step of a connection is one event, and leaves what is not of its turn.
use Rattle.std.proofs.Common.{◌≡◌, ◌≢◌, inl, inr, ℕ, Bool, false, List, [], ◌++◌, Option, Some, None, refl, ap, ◌∙◌}
use Rattle.boot_core.specs.Boot.{BootValue}
use Rattle.boot_core.specs.declared.refusals.CommitRefusal.{CommitRefusal}
use Rattle.boot_core.specs.declared.refusals.CommitRefusal.TheVariants as commits
use Rattle.call_attempts.specs.Attempt.{AttemptValue, stop_of_attempt, wanted}
use Rattle.call_attempts.specs.declared.attempt.Stepped.{Stepped}
use Rattle.call_attempts.specs.declared.attempt.Stepped.TheVariants as coming
use Rattle.call_ticket.specs.declared.next.Answer.{Answer}
use Rattle.call_ticket.specs.declared.next.Next.{Next}
use Rattle.container_core.specs.Container.{ContainerValue}
use Rattle.container_core.specs.declared.history.Event.{Event}
use Rattle.container_core.specs.declared.history.Event.TheVariants.{Added, KeeperFailed}
use Rattle.journal_model.specs.Calls.{Call, entry_of}
use Rattle.journal_model.specs.declared.entry.ActionEntry.{ActionEntry}
use Rattle.journal_model.specs.declared.entry.Entry.TheVariants.{Commit}
use Rattle.outcome_items.specs.declared.item.Item.{Item}
use Rattle.request_tries.specs.Serving.{TriesValue}
use Rattle.request_tries.specs.Steps.{action_of, refusal_of}
use Rattle.request_visit.specs.declared.visit.Visit.{Visit}
use Rattle.request_visit.specs.declared.visit.Work.{Work}
use Rattle.request_visit.specs.declared.visit.Work.TheVariants.{Reading, Opening, Serving as ServingBy, Committed, Decided, Answered, Left}
use Rattle.shepherd.specs.Shepherds.{turn}
use Rattle.shepherd.specs.declared.shepherd.Shepherd.{Shepherd}
use Rattle.shepherd.specs.declared.shepherd.ShepherdTurn.{ShepherdTurn}
use Rattle.shepherd.specs.declared.shepherd.ShepherdTurn.TheVariants as turns
use Rattle.shepherd.specs.declared.shepherd.Stage.{Stage}
use Rattle.shepherd.specs.declared.shepherd.Stage.TheVariants.{Resting, Serving, Refusing, Over}
use Rattle.shepherd_steps.specs.Alone.{HasCall, Making, alone, alone_at, goes_alone, gone_alone}
use Rattle.shepherd_steps.specs.Events.{AddsOneAtMost, event_of}
use Rattle.shepherd_steps.specs.Inside.{after_entry, came_by, inside, inside_of, stride, stride_by, untold, with_keeper}
use Rattle.shepherd_steps.specs.Stepping.{Givens, Outcome, World, alone_after, event_at, step, step_inside, steps_in}
use Rattle.shepherd_steps.proofs.AloneEnds.{gone-alone-ends}

-- a turn at which a connection does not go on by itself is none of those at which it does
not-alone : (t : ShepherdTurn) → goes_alone t ≡ false → (t ≢ turns.Program) × (t ≢ turns.Own) × (t ≢ turns.Item)
not-alone t is =
    ((λ e. let same = ap goes_alone e in cc), (λ e. let same = ap goes_alone e in cc), (λ e. let same = ap goes_alone e in cc))

-- at such a turn nothing is done
alone-none : {P : Type 0} (m : Making P) (s : Shepherd P) → goes_alone (turn s) ≡ false → alone m s ≡ (s, [])
unfolding alone
alone-none {P} m s is = by (turn s) is where
  by : (t : ShepherdTurn) → goes_alone t ≡ false → alone_at m t s ≡ (s, [])
  by turns.Bytes e = refl
  by turns.Request e = refl
  by turns.Outside e = refl
  by turns.Windows e = refl
  by turns.Inside e = refl
  by turns.Program e = absurd (cc)
  by turns.Own e = absurd (cc)
  by turns.Output e = refl
  by turns.Item e = absurd (cc)
  by (turns.Ended end) e = refl

gone-none : {P : Type 0} (m : Making P) (s : Shepherd P) → goes_alone (turn s) ≡ false → gone_alone m s ≡ (s, [])
unfolding gone_alone
gone-none {P} m s is =
    ap (λ (first : Shepherd P × List Item). let second = alone m first.0 in (second.0, first.1 ++ second.1)) (alone-none m s is)
    ∙ ap (λ (second : Shepherd P × List Item). (second.0, second.1)) (alone-none m s is)

-- a step at a turn at which nothing happens
pub none-happens : {P L : Type 0} (g : Givens P L) (w : World P L) (t : ShepherdTurn) → turn w.connection ≡ t → goes_alone t ≡ false
    → event_at g t w ≡ (w, []) → step g w ≡ record { world = w; bytes = []; items = [] }
unfolding step
none-happens {P} {L} g w t is waits none =
    ap (λ (u : ShepherdTurn). alone_after g.making (event_at g u w)) is
    ∙ (ap (λ (e : World P L × List ℕ). alone_after g.making e) none
    ∙ ap (λ (r : Shepherd P × List Item). let o : Outcome P L = record { world = record w { connection = r.0 }; bytes = []; items = r.1 } in o)
    (gone-none g.making w.connection (ap goes_alone is ∙ waits)))

-- the event at a turn leaves what is not of the turn
link-stays : {P L : Type 0} (g : Givens P L) (w : World P L) (t : ShepherdTurn) → t ≢ turns.Outside → (event_at g t w).0.link ≡ w.link
link-stays g w turns.Bytes other = refl
link-stays g w turns.Request other = refl
link-stays g w turns.Outside other = absurd (other refl)
link-stays g w turns.Windows other = refl
link-stays g w turns.Inside other = refl
link-stays g w turns.Program other = refl
link-stays g w turns.Own other = refl
link-stays g w turns.Output other = refl
link-stays g w turns.Item other = refl
link-stays g w (turns.Ended end) other = refl

windows-stay : {P L : Type 0} (g : Givens P L) (w : World P L) (t : ShepherdTurn) → t ≢ turns.Windows → (event_at g t w).0.windows ≡ w.windows
windows-stay g w turns.Bytes other = refl
windows-stay g w turns.Request other = refl
windows-stay g w turns.Outside other = refl
windows-stay g w turns.Windows other = absurd (other refl)
windows-stay g w turns.Inside other = refl
windows-stay g w turns.Program other = refl
windows-stay g w turns.Own other = refl
windows-stay g w turns.Output other = refl
windows-stay g w turns.Item other = refl
windows-stay g w (turns.Ended end) other = refl

inside-stays : {P L : Type 0} (g : Givens P L) (w : World P L) (t : ShepherdTurn) → t ≢ turns.Inside
    → ((event_at g t w).0.boot ≡ w.boot) × ((event_at g t w).0.since ≡ w.since)
inside-stays g w turns.Bytes other = (refl, refl)
inside-stays g w turns.Request other = (refl, refl)
inside-stays g w turns.Outside other = (refl, refl)
inside-stays g w turns.Windows other = (refl, refl)
inside-stays g w turns.Inside other = absurd (other refl)
inside-stays g w turns.Program other = (refl, refl)
inside-stays g w turns.Own other = (refl, refl)
inside-stays g w turns.Output other = (refl, refl)
inside-stays g w turns.Item other = (refl, refl)
inside-stays g w (turns.Ended end) other = (refl, refl)

none-drawn : {P L : Type 0} (g : Givens P L) (w : World P L) (t : ShepherdTurn) → t ≢ turns.Request → (event_at g t w).0.drawn ≡ w.drawn
none-drawn g w turns.Bytes other = refl
none-drawn g w turns.Request other = absurd (other refl)
none-drawn g w turns.Outside other = refl
none-drawn g w turns.Windows other = refl
none-drawn g w turns.Inside other = refl
none-drawn g w turns.Program other = refl
none-drawn g w turns.Own other = refl
none-drawn g w turns.Output other = refl
none-drawn g w turns.Item other = refl
none-drawn g w (turns.Ended end) other = refl

none-out : {P L : Type 0} (g : Givens P L) (w : World P L) (t : ShepherdTurn) → t ≢ turns.Output → (event_at g t w).1 ≡ []
none-out g w turns.Bytes other = refl
none-out g w turns.Request other = refl
none-out g w turns.Outside other = refl
none-out g w turns.Windows other = refl
none-out g w turns.Inside other = refl
none-out g w turns.Program other = refl
none-out g w turns.Own other = refl
none-out g w turns.Output other = absurd (other refl)
none-out g w turns.Item other = refl
none-out g w (turns.Ended end) other = refl

-- a commit adds one event at most
entry-adds : (c : ContainerValue) (call : Call) (action : Option ActionEntry) (refusal : Option CommitRefusal) → AddsOneAtMost c.since (after_entry c call action refusal).since
entry-adds c call action None = inr (Added (Commit (entry_of call action)), refl)
entry-adds c call action (Some commits.KeeperFailed) = inr (KeeperFailed call.request, refl)
entry-adds c call action (Some commits.OutOfMemory) = inl refl
entry-adds c call action (Some (commits.Already place)) = inl refl
entry-adds c call action (Some (commits.Revoked shown)) = inl refl
entry-adds c call action (Some (commits.Conflict conflict)) = inl refl
entry-adds c call action (Some (commits.JournalFull full)) = inl refl

came-adds : (asks : List Answer → Next) (keeps : Bool) (c : ContainerValue) (s : TriesValue) (a : AttemptValue) (came : Stepped)
    → AddsOneAtMost c.since (stride_by asks keeps c s a came).container.since
came-adds asks keeps c s a coming.Went = inl refl
came-adds asks keeps c s a (coming.Done done) =
    entry-adds c a.ticket.call (action_of s done) (with_keeper (refusal_of c s a done) a.ticket.call.writes keeps)
came-adds asks keeps c s a (coming.Stopped stop) = inl refl

stride-adds : (asks : List Answer → Next) (keeps : Bool) (c : ContainerValue) (s : TriesValue) (at : Option AttemptValue) → AddsOneAtMost c.since (stride asks keeps c s at).container.since
stride-adds asks keeps c s None = inl refl
stride-adds asks keeps c s (Some a) = came-adds asks keeps c s a (came_by (wanted asks a) (stop_of_attempt c.boot asks a))

work-adds : {P : Type 0} (asks : P → List Answer → Next) (keeps : Bool) (v : Visit P) (w : Work P) (c : ContainerValue) → AddsOneAtMost c.since (inside_of asks keeps v w c).since
work-adds asks keeps v Reading c = inl refl
work-adds asks keeps v Opening c = inl refl
work-adds asks keeps v (ServingBy tries program) c = stride-adds (asks program) keeps c tries tries.attempt
work-adds asks keeps v (Committed place again shown) c = inl refl
work-adds asks keeps v (Decided became) c = inl refl
work-adds asks keeps v (Answered fate bytes) c = inl refl
work-adds asks keeps v (Left fate) c = inl refl

stage-adds : {P : Type 0} (asks : P → List Answer → Next) (keeps : Bool) (stage : Stage P) (x : BootValue × List Event)
    → AddsOneAtMost x.1 (steps_in (step_inside asks keeps) stage x).1.1
unfolding inside
stage-adds asks keeps Resting x = inl refl
stage-adds asks keeps (Serving v call) x = work-adds asks keeps v v.work (untold x.0 x.1)
stage-adds asks keeps (Refusing why bytes) x = inl refl
stage-adds asks keeps (Over end) x = inl refl

turn-adds : {P L : Type 0} (g : Givens P L) (w : World P L) (t : ShepherdTurn) → AddsOneAtMost w.since (event_at g t w).0.since
turn-adds g w turns.Bytes = inl refl
turn-adds g w turns.Request = inl refl
turn-adds g w turns.Outside = inl refl
turn-adds g w turns.Windows = inl refl
turn-adds g w turns.Inside = stage-adds g.asks g.keeps w.connection.stage (w.boot, w.since)
turn-adds g w turns.Program = inl refl
turn-adds g w turns.Own = inl refl
turn-adds g w turns.Output = inl refl
turn-adds g w turns.Item = inl refl
turn-adds g w (turns.Ended end) = inl refl

module _ {P L : Type 0} (g : Givens P L) (w : World P L) where
  pub step-rests : HasCall (event_of g w).world.connection.stage
      → (let next = turn (step g w).world.connection in (next ≢ turns.Program) × (next ≢ turns.Own) × (next ≢ turns.Item))
  unfolding step event_of
  step-rests has =
      let mid = (event_at g (turn w.connection) w).0.connection in
      not-alone (turn (gone_alone g.making mid).0) (gone-alone-ends g.making mid has)

  pub step-link : turn w.connection ≢ turns.Outside → (step g w).world.link ≡ w.link
  unfolding step
  step-link other = link-stays g w (turn w.connection) other

  pub step-windows : turn w.connection ≢ turns.Windows → (step g w).world.windows ≡ w.windows
  unfolding step
  step-windows other = windows-stay g w (turn w.connection) other

  pub step-inside : turn w.connection ≢ turns.Inside → ((step g w).world.boot ≡ w.boot) × ((step g w).world.since ≡ w.since)
  unfolding step
  step-inside other = inside-stays g w (turn w.connection) other

  pub step-drawn : turn w.connection ≢ turns.Request → (step g w).world.drawn ≡ w.drawn
  unfolding step
  step-drawn other = none-drawn g w (turn w.connection) other

  pub step-out : turn w.connection ≢ turns.Output → (step g w).bytes ≡ []
  unfolding step
  step-out other = none-out g w (turn w.connection) other

  pub step-adds : AddsOneAtMost w.since (step g w).world.since
  unfolding step
  step-adds = turn-adds g w (turn w.connection)
