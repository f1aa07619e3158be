-- What a step hands to the keeper, by what the keeper replied to it.
use Rattle.std.proofs.Common.{◌≡◌, ◌≢◌, ◌⊎◌, ◌∙◌, inl, inr, refl, sym, ap, subst, ℕ, ◌≤◌, ◌<◌, ◌^◌, Bool, true, false, List, [], ◌∷◌, ◌++◌, Option, Some, None, arith}
use Rattle.std.proofs.lemmas.List.{append-nil}
use Rattle.auction_calls.specs.declared.action.ActionCall.{ActionCall}
use Rattle.auction_site.specs.Actions.{steps_of}
use Rattle.boot_core.specs.Boot.{BootValue, HasOnlyEntered}
use Rattle.boot_core.specs.declared.boot.Start.{Start}
use Rattle.container_core.specs.Container.{ContainerValue, HasGrownBy}
use Rattle.container_core.specs.History.{entries_in}
use Rattle.crash_base.specs.declared.numbers.Moment.{Moment}
use Rattle.crash_base.specs.declared.rows.RowWrite.{RowWrite}
use Rattle.journal_model.specs.declared.entry.Entry.{Entry}
use Rattle.lane_link.specs.declared.link.LaneLink.{LaneLink}
use Rattle.outside.specs.Faults.{Rose}
use Rattle.outside.specs.declared.clock.TheConstants.{MOMENTS_END}
use Rattle.outside.specs.Keeper.{KeeperTold, TellsRefusal}
use Rattle.outside.specs.declared.keeper.KeeperFault.TheVariants as faults
use Rattle.recovery_manager.specs.Kept.{ManagerValue}
use Rattle.request_tries.specs.Steps.{KeepsNothing}
use Rattle.request_visit.specs.Stepping.{VisitsInside}
use Rattle.request_visit.specs.declared.visit.Visit.{Visit}
use Rattle.scenario_text.specs.Answer.{Answer, Done, KeepsRefused, Refused, answer_of}
use Rattle.scenario_text.specs.declared.answer.LineAnswer.{LineAnswer}
use Rattle.scenario_text.specs.declared.answer.LineAnswer.TheVariants as answers
use Rattle.seat_steps.specs.Going.{GoesOnAtSeat}
use Rattle.seat_steps.specs.Replies.{SeatHears}
use Rattle.seat_steps.specs.Seats.{SeatGivens, SeatOutcome, SeatWorld, givens_in, seat_step, seen_by}
use Rattle.seat_steps.specs.Stepped.{BreaksOff, CallsAt, HasStepped, KeeperReplied, MakesCalls, MakesEvent, SeatCalling, calling, kept_between, seat_writes, world_from, writes_at}
use Rattle.seat_steps.specs.declared.seat.NextDraws.{NextDraws}
use Rattle.seat_steps.specs.declared.seat.Seat.{Seat}
use Rattle.send_windows.specs.Windows.{KeepLimits}
use Rattle.session_lanes.specs.Lanes.{LanesState}
use Rattle.session_steps.specs.Kept.{HasSoundStore}
use Rattle.shepherd.specs.Shepherds.{turn}
use Rattle.shepherd.specs.Steps.{OnVisit, StepsVisit}
use Rattle.shepherd.specs.declared.shepherd.AskedCall.{AskedCall}
use Rattle.shepherd.specs.declared.shepherd.Shepherd.{Shepherd}
use Rattle.shepherd.specs.declared.shepherd.ShepherdTurn.{ShepherdTurn}
use Rattle.shepherd.specs.declared.shepherd.ShepherdTurn.TheVariants as turns
use Rattle.shepherd.specs.declared.shepherd.Stage.{Stage}
use Rattle.shepherd.specs.declared.shepherd.Stage.TheVariants.{Resting, Serving, Refusing, Over}
use Rattle.shepherd_steps.specs.Inside.{HasReplied, Inside, TellsReply, added_to, handed, inside}
use Rattle.shepherd_steps.specs.Stepping.{World, event_at, step, step_inside, steps_in}
use Rattle.seat_lines.specs.Handing.{AreCounted, AreHanded, AreSomeHanded, BreaksIn, Handed, HasMovedIn, TellsHanded, handed_first, writes_by}
use Rattle.seat_lines.specs.Hearing.{decided_text, manager_after}
use Rattle.seat_lines.specs.Making.{PlaceHearsSpelled, WasStepped}
use Rattle.seat_lines.specs.Lines.{Place, moved, moves, place_step, step_text, steps_at, still_by, end_of, worker_of}

-- what a connection that is there hears in its place is what it hears
one_hears : (seat : Seat) (st : LanesState) → SeatHears seat st → PlaceHearsSpelled (Some seat) st
one_hears seat st heard there is = let same : seat ≡ there = cc in subst (λ (x : Seat). SeatHears x st) same heard

-- one that is not there hears nothing
none_hears : (st : LanesState) → PlaceHearsSpelled None st
none_hears st there is = absurd (cc)

-- nor does one that makes no step
still_hears : (seat : Seat) (st : LanesState) → moves (turn seat.connection) ≡ false → SeatHears seat st
still_hears seat st rests outside = let clash : true ≡ false = sym (ap moves outside) ∙ rests in absurd (cc)

-- What is told around the step of a seat that was made.
pub record AroundStep (now : Moment) (seat : Seat) (old : ContainerValue) (w : SeatWorld) (new : ContainerValue) (o : SeatOutcome) : Type 0 where
  pub boot_is : old.boot ≡ w.boot
  pub since_is : old.since ≡ w.since
  pub entries_are : entries_in w.since ≡ w.boot.entries
  pub in_time : now.0 < MOMENTS_END
  pub word : w.word < 2 ^ 64
  pub goes : GoesOnAtSeat old seat.connection
  pub sound : HasSoundStore (Some w.store)
  pub limits : KeepLimits w.store.windows
  pub grown : HasGrownBy old new
  pub new_boot : new.boot ≡ o.world.boot
  pub new_since : new.since ≡ o.world.since

-- so it was made by its calls
was_stepped : (key : List ℕ) (now : Moment) (n : ℕ) (seat : Seat) (old : ContainerValue) (w : SeatWorld) (new : ContainerValue) (o : SeatOutcome) → (stepped : HasStepped key (worker_of n) now seat old w new o) → AroundStep now seat old w new o
    → WasStepped (record { key = key; worker = worker_of n; now = now; keeps = stepped.keeps }) seat w
was_stepped key now n seat old w new o stepped around =
    let g : SeatGivens = record { key = key; worker = worker_of n; now = now; keeps = stepped.keeps } in
    record {
      old = old;
      new = new;
      boot_is = around.boot_is;
      since_is = around.since_is;
      entries_are = around.entries_are;
      in_time = around.in_time;
      word = around.word;
      goes = around.goes;
      sound = around.sound;
      limits = around.limits;
      stepped = record {
        keeps = stepped.keeps;
        keeper = stepped.keeper;
        heard = stepped.heard;
        calls = subst (λ (x : SeatOutcome). MakesCalls g seat old w new x) stepped.step_is stepped.calls;
        step_is = refl;
      };
      keeps_is = refl;
      grown = around.grown;
      new_boot = around.new_boot ∙ ap (λ (x : SeatOutcome). x.world.boot) stepped.step_is;
      new_since = around.new_since ∙ ap (λ (x : SeatOutcome). x.world.since) stepped.step_is;
    }

-- a connection that is there made a step in its place
one_made : (g : SeatGivens) (seat : Seat) (w : SeatWorld) → WasStepped g seat w → (there : Seat) → Some seat ≡ Some there → moves (turn there.connection) ≡ true → WasStepped g there w
one_made g seat w made there is moving = let same : seat ≡ there = cc in subst (λ (x : Seat). WasStepped g x w) same made

-- one that is not there made none
none_made : (g : SeatGivens) (w : SeatWorld) (there : Seat) → (let none : Option Seat = None in none) ≡ Some there → moves (turn there.connection) ≡ true → WasStepped g there w
none_made g w there is moving = absurd (cc)

-- nor did one that rests
still_made : (g : SeatGivens) (seat : Seat) (w : SeatWorld) → moves (turn seat.connection) ≡ false → (there : Seat) → Some seat ≡ Some there → moves (turn there.connection) ≡ true → WasStepped g there w
still_made g seat w rests there is moving =
    let same : seat ≡ there = cc in
    let clash : true ≡ false = sym moving ∙ (ap (λ (x : Seat). moves (turn x.connection)) (sym same) ∙ rests) in absurd (cc)

-- what the keeper tells of its reply to one step
told_once : (writes : List RowWrite) (keeps : Bool) (old new : Option KeeperTold) → TellsReply writes keeps old new → TellsHanded (handed_first writes keeps []) old new
told_once [] keeps old new tells = tells
told_once (w ∷ ws) keeps old new tells = (new, tells, refl)

-- how its faults rise then
counted_once : (writes : List RowWrite) (keeps : Bool) (old new : ℕ) → old ≤ new → (keeps ≡ false → writes ≢ [] → Rose old new) → AreCounted (handed_first writes keeps []) old new
counted_once [] keeps old new count rose = count
counted_once (w ∷ ws) keeps old new count rose = (new, count, λ e. rose e (λ none. absurd (cc)), omega (arith))

-- a keeper that replied to one step was handed its writes
pub handed_once : (writes : List RowWrite) (keeps : Bool) (old new : ContainerValue) → KeeperReplied keeps writes old new → old.faults ≤ new.faults → AreHanded (handed_first writes keeps []) old new
handed_once writes keeps old new replied count = record {
  tells = told_once writes keeps old.told new.told replied.tells;
  counted = counted_once writes keeps old.faults new.faults count replied.failed;
}

-- nothing was handed
pub handed_none : (c : ContainerValue) → AreHanded [] c c
handed_none c = record { tells = refl; counted = omega (arith) }

-- all was handed that is some of it
abbrev pub all_handed : (handed : List Handed) (old new : ContainerValue) → AreHanded handed old new → AreSomeHanded handed old new
all_handed handed old new all = record {
  made = handed;
  more = [];
  begins = sym (append-nil handed);
  between = new.told;
  tells = all.tells;
  last = inl refl;
  counted = all.counted;
}

-- a keeper that kept nothing told nothing more, or was refused memory for the very first
abbrev told_nothing : (old new : ContainerValue) → KeepsNothing old new → (new.told ≡ old.told) ⊎ ((let none : List Handed = [] in none ≡ []) × TellsRefusal faults.OutOfMemory old.told new.told)
told_nothing old new (inl same) = inl same
told_nothing old new (inr refusal) = inr (refl, refusal)

-- the keeper has kept nothing of it
abbrev pub nothing_kept : (handed : List Handed) (old new : ContainerValue) → KeepsNothing old new → old.faults ≤ new.faults → AreSomeHanded handed old new
nothing_kept handed old new keeps count = record {
  made = [];
  more = handed;
  begins = refl;
  between = old.told;
  tells = refl;
  last = told_nothing old new keeps;
  counted = count;
}

-- at a turn that moves, a connection comes to what its step comes to
pub moved_at : (t : ShepherdTurn) (g : SeatGivens) (n : ℕ) (seat : Seat) (w : SeatWorld) (m : ManagerValue) → moves t ≡ true → steps_at t g n seat w m ≡ moved t n (seat_step g seat w) m
moved_at turns.Bytes g n seat w m is = absurd (cc)
moved_at turns.Request g n seat w m is = refl
moved_at turns.Outside g n seat w m is = refl
moved_at turns.Windows g n seat w m is = refl
moved_at turns.Inside g n seat w m is = refl
moved_at turns.Program g n seat w m is = refl
moved_at turns.Own g n seat w m is = refl
moved_at turns.Output g n seat w m is = refl
moved_at turns.Item g n seat w m is = refl
moved_at (turns.Ended end) g n seat w m is = absurd (cc)

-- what a step in the container leaves of the boot and of its events is a function
abbrev pub InsideLaw : Type 0
InsideLaw = (keeps : Bool) (old new : Visit ActionCall) (container after : ContainerValue)
    → HasReplied keeps (handed steps_of old container.boot) (added_to container.since after.since)
    → VisitsInside steps_of old container new after
    → (let to : Inside ActionCall = record { visit = new; boot = after.boot; since = after.since } in to) ≡ inside steps_of keeps old container.boot container.since

module _ (law : InsideLaw) (g : SeatGivens) (seat : Seat) (old : ContainerValue) (lanes : LanesState) (next : NextDraws) where
  abbrev here : SeatWorld
  here = world_from old lanes next

  abbrev from : SeatCalling
  from = calling g.now seat.connection old (record { lanes = lanes; active = seat.twin }) next

  -- a container is as an event leaves the boot and its events
  abbrev IsAfter : ShepherdTurn → ContainerValue → Type 0
  IsAfter t new = (let e : World ActionCall LaneLink = (event_at (givens_in g here) t (seen_by seat here)).0 in (new.boot ≡ e.boot) × (new.since ≡ e.since))

  inside_is : (mid : SeatCalling) (stage : Stage ActionCall) → seat.connection.stage ≡ stage
      → StepsVisit (λ (v x : Visit ActionCall). VisitsInside steps_of v old x mid.container) stage mid.connection.stage
      → OnVisit stage (λ (v : Visit ActionCall) (call : Option AskedCall). HasReplied g.keeps (handed steps_of v old.boot) (added_to old.since mid.container.since))
      → (let x = steps_in (step_inside steps_of g.keeps) stage (old.boot, old.since) in (mid.container.boot ≡ x.1.0) × (mid.container.since ≡ x.1.1))
  inside_is mid Resting is steps replied = absurd steps
  inside_is mid (Serving v call) is (after, visits, to) replied =
      let same : (let i : Inside ActionCall = record { visit = after; boot = mid.container.boot; since = mid.container.since } in i) ≡ inside steps_of g.keeps v old.boot old.since =
      law g.keeps v after old mid.container replied visits in
      (ap (λ (i : Inside ActionCall). i.boot) same, ap (λ (i : Inside ActionCall). i.since) same)
  inside_is mid (Refusing why bytes) is steps replied = absurd steps
  inside_is mid (Over end) is steps replied = absurd steps

  event_is : (t : ShepherdTurn) (mid : SeatCalling) (bytes : List ℕ)
      → CallsAt (givens_in g here) t from mid bytes → IsAfter t mid.container
  event_is turns.Bytes mid bytes calls = (ap (λ (x : SeatCalling). x.container.boot) calls.same, ap (λ (x : SeatCalling). x.container.since) calls.same)
  event_is turns.Request mid bytes calls = (ap (λ (x : SeatCalling). x.container.boot) calls.rest, ap (λ (x : SeatCalling). x.container.since) calls.rest)
  event_is turns.Outside mid bytes calls = (ap (λ (x : SeatCalling). x.container.boot) calls.rest, ap (λ (x : SeatCalling). x.container.since) calls.rest)
  event_is turns.Windows mid bytes calls = (ap (λ (x : SeatCalling). x.container.boot) calls.rest, ap (λ (x : SeatCalling). x.container.since) calls.rest)
  event_is turns.Inside mid bytes calls = inside_is mid seat.connection.stage refl calls.steps.steps calls.replies
  event_is turns.Program mid bytes calls = (ap (λ (x : SeatCalling). x.container.boot) calls.same, ap (λ (x : SeatCalling). x.container.since) calls.same)
  event_is turns.Own mid bytes calls = (ap (λ (x : SeatCalling). x.container.boot) calls.same, ap (λ (x : SeatCalling). x.container.since) calls.same)
  event_is turns.Output mid bytes calls = (ap (λ (x : SeatCalling). x.container.boot) calls.rest, ap (λ (x : SeatCalling). x.container.since) calls.rest)
  event_is turns.Item mid bytes calls = (ap (λ (x : SeatCalling). x.container.boot) calls.same, ap (λ (x : SeatCalling). x.container.since) calls.same)
  event_is (turns.Ended end) mid bytes calls = (ap (λ (x : SeatCalling). x.container.boot) calls.same, ap (λ (x : SeatCalling). x.container.since) calls.same)

  -- where the event of a step was made, the boot and its events are as the step leaves them
  made_leaves : (bytes : List ℕ) (mid : Shepherd ActionCall) (new : ContainerValue) (link : LaneLink) (after : NextDraws)
      → MakesEvent g seat.connection old (record { lanes = lanes; active = seat.twin }) next bytes mid new link after
      → (new.boot ≡ (seat_step g seat here).world.boot) × (new.since ≡ (seat_step g seat here).world.since)
  unfolding seat_step step
  made_leaves bytes mid new link after made =
      let at : IsAfter (turn seat.connection) made.mid.container = event_is (turn seat.connection) made.mid bytes made.calls in
      (sym (ap (λ (c : ContainerValue). c.boot) made.container_is) ∙ at.0, sym (ap (λ (c : ContainerValue). c.since) made.container_is) ∙ at.1)

-- a boot of whose events there are no more is as it was, but for how often its components were entered
pub boot_stays : (old new : ContainerValue) → HasGrownBy old new → entries_in old.since ≡ old.boot.entries → entries_in new.since ≡ new.boot.entries → new.since ≡ old.since → HasOnlyEntered old.boot new.boot
boot_stays old new grown before after since =
    ap (λ (s : Start). let b : BootValue = record { start = s; entries = new.boot.entries; entered = new.boot.entered } in b) grown.boot.start
    ∙ ap (λ (es : List Entry). let b : BootValue = record { start = old.boot.start; entries = es; entered = new.boot.entered } in b) (sym after ∙ (ap entries_in since ∙ before))

-- memory ran out in a step of a seat
pub broke_in : InsideLaw → (key : List ℕ) (now : Moment) (n : ℕ) (seat : Seat) (old new : ContainerValue) (lanes : LanesState) (next after : NextDraws) (m : ManagerValue) → BreaksOff key now seat old lanes next new after → moves (turn seat.connection) ≡ true → (new.since ≡ old.since → HasOnlyEntered old.boot new.boot) → old.faults ≤ new.faults → BreaksIn key now n (Some seat) old (world_from old lanes next) m new
unfolding place_step
broke_in law key now n seat old new lanes next after m (inl nothing) moving stays count = record {
  keeps = true;
  handed = nothing_kept (handed_first (seat_writes seat.connection old.boot) true []) old new nothing.keeper count;
  added = inl (refl, (stays nothing.since, nothing.since));
}
broke_in law key now n seat old new lanes next after m (inr (bytes, mid, link, made)) moving stays count =
    let keeps : Bool = kept_between old new in
    let g : SeatGivens = record { key = key; worker = worker_of n; now = now; keeps = keeps } in
    let w : SeatWorld = world_from old lanes next in
    let o : SeatOutcome = seat_step g seat w in
    let writes : List RowWrite = seat_writes seat.connection old.boot in
    let event : MakesEvent g seat.connection old (record { lanes = lanes; active = seat.twin }) next bytes mid new link after = made (worker_of n) in
    let place : Place = record { seat = Some o.seat; world = o.world; manager = manager_after m o.report } in
    let left : (new.boot ≡ o.world.boot) × (new.since ≡ o.world.since) = made_leaves law g seat old lanes next bytes mid new link after event in
    record {
      keeps = keeps;
      handed = all_handed (handed_first writes keeps []) old new (handed_once writes keeps old new event.keeper count);
      added = inr (refl, refl, (place, step_text (turn seat.connection) n o.bytes ++ decided_text m o.report, moved_at (turn seat.connection) g n seat w m moving, left.0, left.1), one_hears seat lanes event.heard);
    }

-- the same, of the key and the moment that are lent
pub breaks_lent : (key lent_key : List ℕ) (now lent_now : Moment) (n : ℕ) (seat : Option Seat) (old : ContainerValue) (w : SeatWorld) (m : ManagerValue) (new : ContainerValue) → key ≡ lent_key → now ≡ lent_now → BreaksIn key now n seat old w m new → BreaksIn lent_key lent_now n seat old w m new
breaks_lent key lent_key now lent_now n seat old w m new keys moments at =
    subst (λ (k : List ℕ). BreaksIn k lent_now n seat old w m new) keys (subst (λ (x : Moment). BreaksIn key x n seat old w m new) moments at)

-- the same, where the connection is not there, or nothing is handed
pub broke_still : (key : List ℕ) (now : Moment) (n : ℕ) (seat : Option Seat) (c : ContainerValue) (w : SeatWorld) (m : ManagerValue) → BreaksIn key now n seat c w m c
broke_still key now n seat c w m = record {
  keeps = true;
  handed = nothing_kept (handed_first (writes_by seat c.boot) true []) c c (inl refl) (omega (arith));
  added = inl (refl, (refl, refl));
}

-- what is done is not refused
pub done_keeps : (a : LineAnswer) (old new : Place) (text : List ℕ) → answer_of a new ≡ Done new text → KeepsRefused a old new
done_keeps answers.Refused old new text is = absurd (cc)
done_keeps answers.Done old new text is = tt
done_keeps (answers.Wrote out) old new text is = tt

-- a connection that made a step at its turn came to what the function says
pub moved_in : (key : List ℕ) (now : Moment) (n : ℕ) (seat : Seat) (old : ContainerValue) (w : SeatWorld) (m : ManagerValue) (new : ContainerValue) (o : SeatOutcome) (a : Answer Place) → HasStepped key (worker_of n) now seat old w new o → AroundStep now seat old w new o → moves (turn seat.connection) ≡ true → old.faults ≤ new.faults → a ≡ moved (turn seat.connection) n o m
    → HasMovedIn key now n (Some seat) old w m a new
unfolding place_step
moved_in key now n seat old w m new o a stepped around moving count is =
    let g : SeatGivens = record { key = key; worker = worker_of n; now = now; keeps = stepped.keeps } in
    record {
      keeps = stepped.keeps;
      answers = is ∙ (ap (λ (x : SeatOutcome). moved (turn seat.connection) n x m) stepped.step_is ∙ sym (moved_at (turn seat.connection) g n seat w m moving));
      handed = handed_once (seat_writes seat.connection old.boot) stepped.keeps old new stepped.keeper count;
      heard = one_hears seat w.store stepped.heard;
      made = one_made g seat w (was_stepped key now n seat old w new o stepped around);
    }

-- what a connection hands at a turn at which it makes no step
no_writes : (t : ShepherdTurn) (seat : Seat) (boot : BootValue) → moves t ≡ false → turn seat.connection ≡ t → seat_writes seat.connection boot ≡ []
unfolding seat_writes
no_writes turns.Bytes seat boot is at = ap (λ (x : ShepherdTurn). writes_at x seat.connection.stage boot) at
no_writes turns.Request seat boot is at = absurd (cc)
no_writes turns.Outside seat boot is at = absurd (cc)
no_writes turns.Windows seat boot is at = absurd (cc)
no_writes turns.Inside seat boot is at = absurd (cc)
no_writes turns.Program seat boot is at = absurd (cc)
no_writes turns.Own seat boot is at = absurd (cc)
no_writes turns.Output seat boot is at = absurd (cc)
no_writes turns.Item seat boot is at = absurd (cc)
no_writes (turns.Ended end) seat boot is at = ap (λ (x : ShepherdTurn). writes_at x seat.connection.stage boot) at

-- a connection that is not there is refused
pub none_moves : (key : List ℕ) (now : Moment) (n : ℕ) (c : ContainerValue) (w : SeatWorld) (m : ManagerValue) → HasMovedIn key now n None c w m Refused c
unfolding place_step
none_moves key now n c w m =
    record {
      keeps = true;
      answers = refl;
      handed = handed_none c;
      heard = none_hears w.store;
      made = none_made (record { key = key; worker = worker_of n; now = now; keeps = true }) w;
    }

-- what a connection comes to at a turn at which it makes no step
still_at : (t : ShepherdTurn) (g : SeatGivens) (n : ℕ) (seat : Seat) (w : SeatWorld) (m : ManagerValue) → moves t ≡ false → still_by (end_of t) n seat w m ≡ steps_at t g n seat w m
still_at turns.Bytes g n seat w m is = refl
still_at turns.Request g n seat w m is = absurd (cc)
still_at turns.Outside g n seat w m is = absurd (cc)
still_at turns.Windows g n seat w m is = absurd (cc)
still_at turns.Inside g n seat w m is = absurd (cc)
still_at turns.Program g n seat w m is = absurd (cc)
still_at turns.Own g n seat w m is = absurd (cc)
still_at turns.Output g n seat w m is = absurd (cc)
still_at turns.Item g n seat w m is = absurd (cc)
still_at (turns.Ended end) g n seat w m is = refl

-- a connection makes no step at its turn, and this is what it comes to
pub still_moves : (key : List ℕ) (now : Moment) (n : ℕ) (seat : Seat) (c : ContainerValue) (w : SeatWorld) (m : ManagerValue) (a : Answer Place) → moves (turn seat.connection) ≡ false → a ≡ still_by (end_of (turn seat.connection)) n seat w m → HasMovedIn key now n (Some seat) c w m a c
unfolding place_step
still_moves key now n seat c w m a rests is =
    let g : SeatGivens = record { key = key; worker = worker_of n; now = now; keeps = true } in
    record {
      keeps = true;
      answers = is ∙ still_at (turn seat.connection) g n seat w m rests;
      handed = subst (λ (writes : List RowWrite). AreHanded (handed_first writes true []) c c) (sym (no_writes (turn seat.connection) seat c.boot rests refl)) (handed_none c);
      heard = one_hears seat w.store (still_hears seat w.store rests);
      made = still_made g seat w rests;
    }

-- memory ran out behind a step of a seat that was made
pub stepped_breaks : (key : List ℕ) (now : Moment) (n : ℕ) (seat : Seat) (old : ContainerValue) (w : SeatWorld) (m : ManagerValue) (new : ContainerValue) (o : SeatOutcome) → HasStepped key (worker_of n) now seat old w new o → moves (turn seat.connection) ≡ true → new.boot ≡ o.world.boot → new.since ≡ o.world.since → old.faults ≤ new.faults → BreaksIn key now n (Some seat) old w m new
unfolding place_step
stepped_breaks key now n seat old w m new o stepped moving boot since count =
    let g : SeatGivens = record { key = key; worker = worker_of n; now = now; keeps = stepped.keeps } in
    let to : SeatOutcome = seat_step g seat w in
    let writes : List RowWrite = seat_writes seat.connection old.boot in
    let place : Place = record { seat = Some to.seat; world = to.world; manager = manager_after m to.report } in
    record {
      keeps = stepped.keeps;
      handed = all_handed (handed_first writes stepped.keeps []) old new (handed_once writes stepped.keeps old new stepped.keeper count);
      added = inr (
        refl,
        refl,
        (
          place,
          step_text (turn seat.connection) n to.bytes ++ decided_text m to.report,
          moved_at (turn seat.connection) g n seat w m moving,
          boot ∙ ap (λ (x : SeatOutcome). x.world.boot) stepped.step_is,
          since ∙ ap (λ (x : SeatOutcome). x.world.since) stepped.step_is,
        ),
        one_hears seat w.store stepped.heard,
      );
    }

-- the same, in its place
pub still_there : (key : List ℕ) (now : Moment) (n : ℕ) (place : Option Seat) (seat : Seat) (c : ContainerValue) (w : SeatWorld) (m : ManagerValue) (a : Answer Place) → place ≡ Some seat → moves (turn seat.connection) ≡ false → a ≡ still_by (end_of (turn seat.connection)) n seat w m → HasMovedIn key now n place c w m a c
still_there key now n place seat c w m a there rests is = subst (λ (p : Option Seat). HasMovedIn key now n p c w m a c) (sym there) (still_moves key now n seat c w m a rests is)
