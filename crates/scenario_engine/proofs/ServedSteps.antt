-- A connection has served its requests behind each of its own steps, behind what comes to it, and wherever its boot
-- goes on.
use Rattle.std.proofs.Common.{◌≡◌, ◌≢◌, ◌⊎◌, inl, inr, ℕ, ◌^◌, ◌<◌, ◌≤◌, Bool, true, false, cond, List, [], ◌∷◌, ◌++◌, append-nil, append_assoc, length, map, Option, Some, None, refl, sym, ap, ◌∙◌, subst, arith}
use Rattle.std.specs.Prelude.{All, slice_set}
use Rattle.std.specs.List.{flat_map}
use Rattle.std.specs.Option.{option_to_list}
use Rattle.std.proofs.lemmas.List.{get_or-set_same, map-append}
use Rattle.std.proofs.lemmas.List.Concat.{flat_map-append}
use Rattle.std.proofs.lemmas.List.Elements.{All-head, All-nil, All-push, All-tail}
use Rattle.auction_calls.specs.declared.action.ActionCall.{ActionCall}
use Rattle.boot_core.specs.Boot.{BootValue}
use Rattle.container_core.specs.Container.{ContainerValue, HasGrownBy}
use Rattle.container_core.specs.History.{entries_in}
use Rattle.container_core.specs.declared.history.Event.{Event}
use Rattle.crash_base.specs.declared.numbers.Moment.{Moment}
use Rattle.failure_scores.specs.declared.report.FailureReport.{FailureReport}
use Rattle.outcome_items.specs.declared.item.Item.{Item}
use Rattle.outside.specs.declared.clock.TheConstants.{MOMENTS_END}
use Rattle.request_decisions.specs.declared.draws.Draw.{Draw}
use Rattle.scenario_text.specs.Answer.{Answer, Refused, Done}
use Rattle.scenario_text.specs.declared.seat_line.SeatLine.{SeatLine}
use Rattle.scenario_text.specs.declared.seat_line.SeatLine.TheVariants as lines
use Rattle.seat_laws.specs.Serving.{Course, DrewNext, ItemsFollow, SeatServes, course_behind, history_in, opening}
use Rattle.seat_lines.proofs.Keeping.{GrowsLaw, SiteStays, line_stays, moving_items, moving_outs, still_items, still_outs}
use Rattle.seat_lines.proofs.SeatSteps.{within_places}
use Rattle.seat_lines.specs.Changing.{ChangesSeatsAlone, IsLeftBySeat, SeatBecomes, makes_steps, number_in}
use Rattle.seat_lines.specs.Items.{items_at, outs_at, step_yields}
use Rattle.seat_lines.specs.Lines.{ended, fed, givens_of, moves, new_seat, step_line, world_of}
use Rattle.seat_lines.specs.Making.{StepMade, WasMade, WasStepped, run_makes}
use Rattle.seat_lines.specs.Responding.{in_row}
use Rattle.seat_lines.specs.Runs.{rests, seat_line}
use Rattle.seat_lines.specs.Site.{SiteState, seat_at, with_seat}
use Rattle.seat_lines.specs.Texts.{gone_text}
use Rattle.seat_steps.specs.Going.{GoesOnAtSeat}
use Rattle.seat_steps.specs.Seats.{SeatGivens, SeatOutcome, SeatWorld, seat_step}
use Rattle.seat_steps.specs.Stepped.{HasStepped}
use Rattle.seat_steps.specs.declared.seat.Seat.{Seat}
use Rattle.send_windows.specs.Windows.{KeepLimits}
use Rattle.session_cookie.specs.declared.cookie.TheConstants.{MAX_HOLDERS}
use Rattle.session_lanes.specs.Lanes.{LanesState}
use Rattle.session_steps.specs.Sessions.{SessionsState}
use Rattle.shepherd.specs.Shepherds.{fresh, turn}
use Rattle.shepherd.specs.declared.shepherd.EndKind.{EndKind}
use Rattle.shepherd.specs.declared.shepherd.Shepherd.{Shepherd}
use Rattle.shepherd.specs.declared.shepherd.ShepherdTurn.{ShepherdTurn}
use Rattle.shepherd.specs.declared.shepherd.ShepherdTurn.TheVariants as turns
use Rattle.scenario_engine.specs.Seats.{after_steps}
use Rattle.scenario_engine.specs.Serving.{DrawsBetween, DrewInStep, HasServed, IsOf, StepDraws, course_of, items_by, reported_by, written_by}
use Rattle.scenario_engine.proofs.Continuing.{Continues, continues_itself}
use Rattle.scenario_engine.proofs.StepReports.{moving-reports, reported-push, reports_in, still-reports}

-- what is promised of connections, of their steps, and of lines about them
pub record ServeLaws : Type 0 where
  pub begins : (key : List ℕ) (boot : BootValue) (since : List Event) (now : Moment) → SeatServes key boot since now (opening now (length (history_in boot since))) fresh
  pub feeds : (key : List ℕ) (boot : BootValue) (since : List Event) (now : Moment) (c : Course) (s : Shepherd ActionCall) (more : List ℕ) → SeatServes key boot since now c s
      → SeatServes key boot since now (record c { fed = c.fed ++ more }) (record s { received = s.received ++ more })
  pub ends : (key : List ℕ) (boot : BootValue) (since : List Event) (now : Moment) (c : Course) (s : Shepherd ActionCall) → SeatServes key boot since now c s → SeatServes key boot since now c (record s { ended = true })
  pub meanwhile : (key : List ℕ) (boot after : BootValue) (since more : List Event) (now later : Moment) (c : Course) (s : Shepherd ActionCall) → after.start ≡ boot.start → now.0 ≤ later.0
      → SeatServes key boot since now c s → SeatServes key after (since ++ more) later c s
  pub steps : (g : SeatGivens) (seat : Seat) (w : SeatWorld) (old new : ContainerValue) (c : Course) → old.boot ≡ w.boot → old.since ≡ w.since → entries_in w.since ≡ w.boot.entries → g.now.0 < MOMENTS_END → w.word < 2 ^ 64
      → HasGrownBy old new → 1 ≤ w.store.windows.wq → w.store.windows.wq ≤ MAX_HOLDERS → HasStepped g.key g.worker g.now seat old w new (seat_step g seat w) → SeatServes g.key w.boot w.since g.now c seat.connection
      → (drawn : List Draw) × DrewNext w drawn (seat_step g seat w).world
      × SeatServes g.key (seat_step g seat w).world.boot (seat_step g seat w).world.since g.now (course_behind c drawn (seat_step g seat w)) (seat_step g seat w).seat.connection
  pub follow : (g : SeatGivens) (seat : Seat) (w : SeatWorld) (old : ContainerValue) (c : Course) (drawn : List Draw) → GoesOnAtSeat old seat.connection → SeatServes g.key w.boot w.since g.now c seat.connection
      → ItemsFollow c → ItemsFollow (course_behind c drawn (seat_step g seat w))
  pub moved : (s t : SiteState) (n : ℕ) (keeps : Bool) (text : List ℕ) (seat : Seat) (st : LanesState) → seat_at s.seats.seats n ≡ Some seat → s.sessions.store ≡ Some st → moves (turn seat.connection) ≡ true
      → step_line s n keeps ≡ Done t text → IsLeftBySeat s n (turn seat.connection) (seat_step (givens_of s n keeps) seat (world_of s st)) t text
  pub waits : (s t : SiteState) (n : ℕ) (keeps : Bool) (text : List ℕ) (seat : Seat) → seat_at s.seats.seats n ≡ Some seat → turn seat.connection ≡ turns.Bytes → step_line s n keeps ≡ Done t text → (t ≡ s) × (text ≡ [])
  pub over : (s t : SiteState) (n : ℕ) (keeps : Bool) (text : List ℕ) (seat : Seat) (end : EndKind) → seat_at s.seats.seats n ≡ Some seat → turn seat.connection ≡ turns.Ended end → step_line s n keeps ≡ Done t text
      → (t ≡ with_seat s n None) × (text ≡ gone_text n end)
  pub moving : (t : ShepherdTurn) → moves t ≡ false → (t ≡ turns.Bytes) ⊎ ((end : EndKind) × (t ≡ turns.Ended end))
  pub none : (s : SiteState) (n : ℕ) (keeps : Bool) → seat_at s.seats.seats n ≡ None → step_line s n keeps ≡ Refused
  pub bare : (s : SiteState) (n : ℕ) (keeps : Bool) → s.sessions.store ≡ None → step_line s n keeps ≡ Refused
  pub apart : (s t : SiteState) (line : SeatLine) (replies : List Bool) (text : List ℕ) (m : ℕ) → seat_line s line replies ≡ Some (Done t text) → m ≢ number_in line → seat_at t.seats.seats m ≡ seat_at s.seats.seats m
  pub alone : (s t : SiteState) (line : SeatLine) (replies : List Bool) (text : List ℕ) → seat_line s line replies ≡ Some (Done t text) → makes_steps line ≡ false → ChangesSeatsAlone s t text
  pub grows : GrowsLaw
  pub opens : (s t : SiteState) (n : ℕ) (replies : List Bool) (text : List ℕ) → seat_line s (lines.Conn n) replies ≡ Some (Done t text) → seat_at t.seats.seats n ≡ Some new_seat
  pub bytes : (s t : SiteState) (n : ℕ) (came : List ℕ) (replies : List Bool) (text : List ℕ) → seat_line s (lines.Bytes n came) replies ≡ Some (Done t text) → SeatBecomes n s (λ (x : Seat). fed x came) t
  pub input : (s t : SiteState) (n : ℕ) (replies : List Bool) (text : List ℕ) → seat_line s (lines.End n) replies ≡ Some (Done t text) → SeatBecomes n s ended t

-- the step of a connection over a site
abbrev pub made_at : SiteState → ℕ → Bool → StepMade
made_at s n keeps = record { site = s; number = n; keeps = keeps }

-- one step more: what it put out, and what it gave
abbrev outs_of : StepMade → List ℕ
outs_of step = in_row (step_yields outs_at step.site step.number step.keeps)

abbrev items_of : StepMade → List Item
items_of step = step_yields items_at step.site step.number step.keeps

written-push : (steps : List StepMade) (step : StepMade) → written_by (steps ++ step ∷ []) ≡ written_by steps ++ outs_of step
written-push steps step = flat_map-append outs_of steps (step ∷ []) ∙ ap (λ (xs : List ℕ). written_by steps ++ xs) (append-nil (outs_of step))

items-push : (steps : List StepMade) (step : StepMade) → items_by (steps ++ step ∷ []) ≡ items_by steps ++ items_of step
items-push steps step = flat_map-append items_of steps (step ∷ []) ∙ ap (λ (xs : List Item). items_by steps ++ xs) (append-nil (items_of step))

abbrev steps_in : List StepDraws → List StepMade
steps_in draws = map (λ (d : StepDraws). d.step) draws

abbrev drawn_in : List StepDraws → List Draw
drawn_in draws = flat_map (λ (d : StepDraws). d.drawn) draws

steps-push : (draws : List StepDraws) (d : StepDraws) → steps_in (draws ++ d ∷ []) ≡ steps_in draws ++ d.step ∷ []
steps-push draws d = map-append (λ (x : StepDraws). x.step) draws (d ∷ [])

drawn-push : (draws : List StepDraws) (d : StepDraws) → drawn_in (draws ++ d ∷ []) ≡ drawn_in draws ++ d.drawn
drawn-push draws d = flat_map-append (λ (x : StepDraws). x.drawn) draws (d ∷ []) ∙ ap (λ (xs : List Draw). drawn_in draws ++ xs) (append-nil d.drawn)

-- how far a connection has come by one step more
course-push : (from : SiteState) (bytes : List ℕ) (draws : List StepDraws) (d : StepDraws) (drawn : List Draw) (written : List ℕ) (items : List Item) (reports : List FailureReport) → drawn_in draws ++ d.drawn ≡ drawn → written_by (steps_in draws) ++ outs_of d.step ≡ written
    → items_by (steps_in draws) ++ items_of d.step ≡ items → reported_by (steps_in draws) ++ reports_in d.step ≡ reports
    → course_of from bytes (draws ++ d ∷ []) ≡ record (course_of from bytes draws) { drawn = drawn; written = written; items = items; reports = reports }
course-push from bytes draws d drawn written items reports drew wrote gave told =
    let C : List Draw → List ℕ → List Item → List FailureReport → Course = λ x y z r. record (course_of from bytes draws) { drawn = x; written = y; items = z; reports = r } in
    let all = draws ++ d ∷ [] in
    let outs : written_by (steps_in all) ≡ written = ap written_by (steps-push draws d) ∙ written-push (steps_in draws) d.step ∙ wrote in
    let its : items_by (steps_in all) ≡ items = ap items_by (steps-push draws d) ∙ items-push (steps_in draws) d.step ∙ gave in
    let by : reported_by (steps_in all) ≡ reports = ap reported_by (steps-push draws d) ∙ reported-push (steps_in draws) d.step ∙ told in
    ap (λ (x : List Draw). C x (written_by (steps_in all)) (items_by (steps_in all)) (reported_by (steps_in all))) (drawn-push draws d ∙ drew)
    ∙ (ap (λ (y : List ℕ). C drawn y (items_by (steps_in all)) (reported_by (steps_in all))) outs
    ∙ (ap (λ (z : List Item). C drawn written z (reported_by (steps_in all))) its
    ∙ ap (λ (r : List FailureReport). C drawn written items r) by))

-- what is so of a connection is so in other words
abbrev Serves : SiteState → Course → Shepherd ActionCall → Type 0
Serves s c x = SeatServes s.sessions.key s.boot s.since s.sessions.moment c x

serves-as : (key key' : List ℕ) (boot boot' : BootValue) (since since' : List Event) (now now' : Moment) (c c' : Course) (x : Shepherd ActionCall) → key ≡ key' → boot ≡ boot' → since ≡ since' → now ≡ now' → c ≡ c' → SeatServes key boot since now c x → SeatServes key' boot' since' now' c' x
serves-as key key' boot boot' since since' now now' c c' x a b d e f h =
    subst (λ (k : List ℕ). SeatServes k boot' since' now' c' x) a
    (subst (λ (k : BootValue). SeatServes key k since' now' c' x) b
    (subst (λ (k : List Event). SeatServes key boot k now' c' x) d
    (subst (λ (k : Moment). SeatServes key boot since k c' x) e
    (subst (λ (k : Course). SeatServes key boot since now k x) f h))))

-- the connection that is there is the one that made the steps
pub is-there : (steps : List StepMade) (place : Option Seat) (seat : Seat) (x : Shepherd ActionCall) → place ≡ Some seat → IsOf steps place x → x ≡ seat.connection
is-there steps place seat x there is = subst (λ (p : Option Seat). IsOf steps p x) there is

as-there : (steps : List StepMade) (place : Option Seat) (seat : Seat) (x : Shepherd ActionCall) → place ≡ Some seat → x ≡ seat.connection → IsOf steps place x
as-there steps place seat x there is = subst (λ (p : Option Seat). IsOf steps p x) (sym there) is

few_holders : (wq w bricks : ℕ) → wq ≤ w → w ≤ bricks → bricks ≤ 16 → wq ≤ MAX_HOLDERS
few_holders wq w bricks a b c = omega (arith, a, b, c)

refused-not : (t : SiteState) (text : List ℕ) (a : Answer SiteState) → a ≡ Refused → a ≡ Done t text → ⊥
refused-not t text a refused done = cc

module _ (laws : ServeLaws) where
  module _ (n : ℕ) (from : SiteState) (bytes : List ℕ) where
    abbrev Served : List StepMade → SiteState → Type 0
    Served steps s = HasServed n from bytes steps s

    module _ (s t : SiteState) (keeps : Bool) (text : List ℕ) (done : step_line s n keeps ≡ Done t text) (seat : Seat) (there : seat_at s.seats.seats n ≡ Some seat) (st : LanesState) (bricks : s.sessions.store ≡ Some st) (steps : List StepMade) (its : Served steps s) where
      abbrev This : StepMade
      This = made_at s n keeps

      abbrev G : SeatGivens
      G = givens_of s n keeps

      abbrev W : SeatWorld
      W = world_of s st

      abbrev O : SeatOutcome
      O = seat_step G seat W

      -- the course before the step
      abbrev C : Course
      C = course_of from bytes its.draws

      here : Serves s C seat.connection
      here = subst (Serves s C) (is-there steps (seat_at s.seats.seats n) seat its.connection there its.is_of) its.serves

      served-moved : moves (turn seat.connection) ≡ true → WasMade This → Served (steps ++ This ∷ []) t
      served-moved moving made =
          let was : WasStepped G seat W = made st seat bricks there moving in
          let left : IsLeftBySeat s n (turn seat.connection) O t text = laws.moved s t n keeps text seat st there bricks moving done in
          let limits : KeepLimits st.windows = was.limits in
          let few : st.windows.wq ≤ MAX_HOLDERS = few_holders st.windows.wq st.windows.w (length st.windows.facts) limits.enough limits.within limits.few in
          let behind = laws.steps G seat W was.old was.new C was.boot_is was.since_is was.entries_are was.in_time was.word was.grown limits.some few was.stepped here in
          let d : StepDraws = record { step = This; drawn = behind.0 } in
          let course : course_of from bytes (its.draws ++ d ∷ []) ≡ course_behind C behind.0 O =
          course-push from bytes its.draws d (C.drawn ++ behind.0) (C.written ++ O.bytes) (C.items ++ O.items) (C.reports ++ option_to_list O.report) refl
          (ap (λ (xs : List ℕ). C.written ++ xs) (moving_outs s n keeps t text done seat there st bricks))
          (ap (λ (xs : List Item). C.items ++ xs) (moving_items s n keeps t text done seat there st bricks moving))
          (ap (λ (xs : List FailureReport). C.reports ++ xs) (moving-reports s n keeps t text done seat there st bricks moving)) in
          record {
            draws = its.draws ++ d ∷ [];
            steps_are = steps-push its.draws d ∙ ap (λ (xs : List StepMade). xs ++ This ∷ []) its.steps_are;
            drew = All-push DrewInStep its.draws d its.drew (record {
              seat = seat;
              bricks = st;
              seat_is = there;
              bricks_are = bricks;
              drew = subst (λ (b : Bool). DrawsBetween b W behind.0 O.world) (sym moving) behind.1;
            });
            connection = O.seat.connection;
            is_of = as-there (steps ++ This ∷ []) (seat_at t.seats.seats n) O.seat O.seat.connection left.seat refl;
            serves = serves-as s.sessions.key t.sessions.key O.world.boot t.boot O.world.since t.since s.sessions.moment t.sessions.moment (course_behind C behind.0 O) (course_of from bytes (its.draws ++ d ∷ [])) O.seat.connection
                (sym (ap (λ (x : SessionsState). x.key) left.sessions)) (sym left.boot) (sym left.since) (sym (ap (λ (x : SessionsState). x.moment) left.sessions)) (sym course) behind.2;
            follows = subst ItemsFollow (sym course) (laws.follow G seat W was.old C behind.0 was.goes here its.follows);
          }

      -- a step that does not move the connection: it stays so, over what is as it was
      served-still : (u : SiteState) → moves (turn seat.connection) ≡ false → IsOf (steps ++ This ∷ []) (seat_at u.seats.seats n) its.connection → Serves u C its.connection → Served (steps ++ This ∷ []) u
      served-still u moving is_of serves =
          let d : StepDraws = record { step = This; drawn = [] } in
          let course : course_of from bytes (its.draws ++ d ∷ []) ≡ C =
          course-push from bytes its.draws d C.drawn C.written C.items C.reports (append-nil C.drawn)
          (ap (λ (xs : List ℕ). C.written ++ xs) (still_outs s n keeps t text done seat there st bricks moving) ∙ append-nil C.written)
          (ap (λ (xs : List Item). C.items ++ xs) (still_items s n keeps t text done seat there st bricks moving) ∙ append-nil C.items)
          (ap (λ (xs : List FailureReport). C.reports ++ xs) (still-reports s n keeps t text done seat there st bricks moving) ∙ append-nil C.reports) in
          record {
            draws = its.draws ++ d ∷ [];
            steps_are = steps-push its.draws d ∙ ap (λ (xs : List StepMade). xs ++ This ∷ []) its.steps_are;
            drew = All-push DrewInStep its.draws d its.drew (record {
              seat = seat;
              bricks = st;
              seat_is = there;
              bricks_are = bricks;
              drew = subst (λ (b : Bool). DrawsBetween b W [] O.world) (sym moving) refl;
            });
            connection = its.connection;
            is_of = is_of;
            serves = subst (λ (c : Course). Serves u c its.connection) (sym course) serves;
            follows = subst ItemsFollow (sym course) its.follows;
          }

      served-waits : turn seat.connection ≡ turns.Bytes → moves (turn seat.connection) ≡ false → Served (steps ++ This ∷ []) t
      served-waits waiting moving =
          let same : t ≡ s = (laws.waits s t n keeps text seat there waiting done).0 in
          subst (Served (steps ++ This ∷ [])) (sym same)
          (served-still s moving (as-there (steps ++ This ∷ []) (seat_at s.seats.seats n) seat its.connection there (is-there steps (seat_at s.seats.seats n) seat its.connection there its.is_of)) its.serves)

      served-gone : (end : EndKind) → turn seat.connection ≡ turns.Ended end → moves (turn seat.connection) ≡ false → Served (steps ++ This ∷ []) t
      served-gone end over moving =
          let same : its.connection ≡ seat.connection = is-there steps (seat_at s.seats.seats n) seat its.connection there its.is_of in
          let gone : t ≡ with_seat s n None = (laws.over s t n keeps text seat end there over done).0 in
          let none : seat_at (slice_set s.seats.seats n None) n ≡ None = get_or-set_same s.seats.seats n None None (within_places s.seats.seats n seat there) in
          subst (Served (steps ++ This ∷ [])) (sym gone)
          (served-still (with_seat s n None) moving
          (subst (λ (p : Option Seat). IsOf (steps ++ This ∷ []) p its.connection) (sym none) (record {
            before = steps;
            last = This;
            steps_are = refl;
            seat = seat;
            seat_is = there;
            connection_is = same;
            end = end;
            ended = ap turn same ∙ over;
          }))
          its.serves)

      served-there : WasMade This → Served (steps ++ This ∷ []) t
      served-there made = by (moves (turn seat.connection)) refl
        where
          still : moves (turn seat.connection) ≡ false → (turn seat.connection ≡ turns.Bytes) ⊎ ((end : EndKind) × (turn seat.connection ≡ turns.Ended end)) → Served (steps ++ This ∷ []) t
          still moving (inl waiting) = served-waits waiting moving
          still moving (inr over) = served-gone over.0 over.1 moving

          by : (b : Bool) → moves (turn seat.connection) ≡ b → Served (steps ++ This ∷ []) t
          by true moving = served-moved moving made
          by false moving = still moving (laws.moving (turn seat.connection) moving)

    -- a step of the connection that is done
    pub served-step : (s t : SiteState) (keeps : Bool) (text : List ℕ) → step_line s n keeps ≡ Done t text → WasMade (made_at s n keeps) → (steps : List StepMade) → Served steps s → Served (steps ++ made_at s n keeps ∷ []) t
    served-step s t keeps text done made steps its = by (seat_at s.seats.seats n) refl s.sessions.store refl
      where
        by : (o : Option Seat) → seat_at s.seats.seats n ≡ o → (b : Option LanesState) → s.sessions.store ≡ b → Served (steps ++ made_at s n keeps ∷ []) t
        by None none b bricks = absurd (refused-not t text (step_line s n keeps) (laws.none s n keeps none) done)
        by (Some seat) there None bare = absurd (refused-not t text (step_line s n keeps) (laws.bare s n keeps bare) done)
        by (Some seat) there (Some st) bricks = served-there s t keeps text done seat there st bricks steps its made

    -- the steps of a run
    pub served-run : (s : SiteState) (replies : List Bool) (steps : List StepMade) → All WasMade (run_makes s n replies) → Served steps s → Served (steps ++ run_makes s n replies) (after_steps s n replies)
    served-run s [] steps made its = subst (λ (xs : List StepMade). Served xs s) (sym (append-nil steps)) its
    served-run s (keeps ∷ more) steps made its = go (λ t its made. served-run t more its made) (rests (seat_at s.seats.seats n)) (step_line s n keeps) refl made
      where
        Later : Type 0
        Later = (t : SiteState) (xs : List StepMade) → All WasMade (run_makes t n more) → Served xs t → Served (xs ++ run_makes t n more) (after_steps t n more)

        go : Later → (b : Bool) (a : Answer SiteState) → step_line s n keeps ≡ a → All WasMade (cond b [] (elim a [ Refused ↦ [] | Done t out ↦ made_at s n keeps ∷ run_makes t n more ]))
            → Served (steps ++ cond b [] (elim a [ Refused ↦ [] | Done t out ↦ made_at s n keeps ∷ run_makes t n more ])) (cond b s (elim a [ Refused ↦ s | Done t out ↦ after_steps t n more ]))
        go later true a is all = subst (λ (xs : List StepMade). Served xs s) (sym (append-nil steps)) its
        go later false Refused is all = subst (λ (xs : List StepMade). Served xs s) (sym (append-nil steps)) its
        go later false (Done t out) is all =
            let first : Served (steps ++ made_at s n keeps ∷ []) t = served-step s t keeps out is (All-head WasMade (made_at s n keeps) (run_makes t n more) all) steps its in
            subst (λ (xs : List StepMade). Served xs (after_steps t n more)) (append_assoc steps (made_at s n keeps ∷ []) (run_makes t n more))
            (later t (steps ++ made_at s n keeps ∷ []) (All-tail WasMade (made_at s n keeps) (run_makes t n more) all) first)

    -- what goes on beside the connection leaves it
    pub served-continues : (s t : SiteState) (steps : List StepMade) → seat_at t.seats.seats n ≡ seat_at s.seats.seats n → Continues s t → Served steps s → Served steps t
    served-continues s t steps same continues its = record {
      draws = its.draws;
      steps_are = its.steps_are;
      drew = its.drew;
      connection = its.connection;
      is_of = subst (λ (p : Option Seat). IsOf steps p its.connection) (sym same) its.is_of;
      serves = subst (λ (k : List ℕ). SeatServes k t.boot t.since t.sessions.moment (course_of from bytes its.draws) its.connection) (sym continues.key)
          (subst (λ (xs : List Event). SeatServes s.sessions.key t.boot xs t.sessions.moment (course_of from bytes its.draws) its.connection) (sym continues.since)
          (laws.meanwhile s.sessions.key s.boot t.boot s.since continues.more s.sessions.moment t.sessions.moment (course_of from bytes its.draws) its.connection continues.start continues.later its.serves));
      follows = its.follows;
    }

  -- what comes to a connection changes connections alone
  alone-as : (s t : SiteState) (text : List ℕ) (c : Course) (x : Shepherd ActionCall) → ChangesSeatsAlone s t text → Serves s c x → Serves t c x
  alone-as s t text c x alone h =
      serves-as s.sessions.key t.sessions.key s.boot t.boot s.since t.since s.sessions.moment t.sessions.moment c c x
      (sym (ap (λ (k : SessionsState). k.key) alone.sessions)) (sym alone.boot) (sym alone.since) (sym (ap (λ (k : SessionsState). k.moment) alone.sessions)) refl h

  -- a line about connections leaves a site that continues
  pub line-continues : (s t : SiteState) (line : SeatLine) (replies : List Bool) (text : List ℕ) → seat_line s line replies ≡ Some (Done t text) → Continues s t
  line-continues s t line replies text is =
      let stays : SiteStays s t = line_stays laws.grows s t line replies text is in
      let moment : t.sessions.moment.0 ≡ s.sessions.moment.0 = ap (λ (m : Moment). m.0) stays.moment in
      record { key = stays.key; later = omega (arith, moment); start = stays.start; more = stays.more; since = stays.since }

  -- a connection that opens
  pub served-opens : (s t : SiteState) (n : ℕ) (replies : List Bool) (text : List ℕ) → seat_line s (lines.Conn n) replies ≡ Some (Done t text) → HasServed n t [] [] t
  served-opens s t n replies text is = record {
    draws = [];
    steps_are = refl;
    drew = All-nil DrewInStep;
    connection = fresh;
    is_of = as-there [] (seat_at t.seats.seats n) new_seat fresh (laws.opens s t n replies text is) refl;
    serves = laws.begins t.sessions.key t.boot t.since t.sessions.moment;
    follows = tt;
  }

  -- bytes come
  pub served-bytes : (s t : SiteState) (n : ℕ) (from : SiteState) (bytes came : List ℕ) (steps : List StepMade) (replies : List Bool) (text : List ℕ) → seat_line s (lines.Bytes n came) replies ≡ Some (Done t text) → HasServed n from bytes steps s → HasServed n from (bytes ++ came) steps t
  served-bytes s t n from bytes came steps replies text is its =
      let comes : SeatBecomes n s (λ (x : Seat). fed x came) t = laws.bytes s t n came replies text is in
      let same : its.connection ≡ comes.seat.connection = is-there steps (seat_at s.seats.seats n) comes.seat its.connection comes.was its.is_of in
      let become : Shepherd ActionCall → Shepherd ActionCall = λ x. record x { received = x.received ++ came } in
      record {
        draws = its.draws;
        steps_are = its.steps_are;
        drew = its.drew;
        connection = become its.connection;
        is_of = as-there steps (seat_at t.seats.seats n) (fed comes.seat came) (become its.connection) comes.becomes (ap become same);
        serves = alone-as s t text (course_of from (bytes ++ came) its.draws) (become its.connection) (laws.alone s t (lines.Bytes n came) replies text is refl)
            (laws.feeds s.sessions.key s.boot s.since s.sessions.moment (course_of from bytes its.draws) its.connection came its.serves);
        follows = its.follows;
      }

  -- its input ends
  pub served-end : (s t : SiteState) (n : ℕ) (from : SiteState) (bytes : List ℕ) (steps : List StepMade) (replies : List Bool) (text : List ℕ) → seat_line s (lines.End n) replies ≡ Some (Done t text) → HasServed n from bytes steps s → HasServed n from bytes steps t
  served-end s t n from bytes steps replies text is its =
      let comes : SeatBecomes n s ended t = laws.input s t n replies text is in
      let same : its.connection ≡ comes.seat.connection = is-there steps (seat_at s.seats.seats n) comes.seat its.connection comes.was its.is_of in
      let become : Shepherd ActionCall → Shepherd ActionCall = λ x. record x { ended = true } in
      record {
        draws = its.draws;
        steps_are = its.steps_are;
        drew = its.drew;
        connection = become its.connection;
        is_of = as-there steps (seat_at t.seats.seats n) (ended comes.seat) (become its.connection) comes.becomes (ap become same);
        serves = alone-as s t text (course_of from bytes its.draws) (become its.connection) (laws.alone s t (lines.End n) replies text is refl)
            (laws.ends s.sessions.key s.boot s.since s.sessions.moment (course_of from bytes its.draws) its.connection its.serves);
        follows = its.follows;
      }

  -- what lines about another one leave of it, and of the site

  continues-on : (s t u : SiteState) → Continues s t → Continues t u → Continues s u
  continues-on s t u first next =
      let one = first.later in
      let two = next.later in
      record {
        key = next.key ∙ first.key;
        later = omega (arith, one, two);
        start = next.start ∙ first.start;
        more = first.more ++ next.more;
        since = next.since ∙ (ap (λ (es : List Event). es ++ next.more) first.since ∙ append_assoc s.since first.more next.more);
      }

  pub record LeavesOther (n : ℕ) (s t : SiteState) : Type 0 where
    pub same : seat_at t.seats.seats n ≡ seat_at s.seats.seats n
    pub continues : Continues s t

  leaves-itself : (n : ℕ) (s : SiteState) → LeavesOther n s s
  leaves-itself n s = record { same = refl; continues = continues_itself s }

  pub line-leaves : (n : ℕ) (s t : SiteState) (line : SeatLine) (replies : List Bool) (text : List ℕ) → n ≢ number_in line → seat_line s line replies ≡ Some (Done t text) → LeavesOther n s t
  line-leaves n s t line replies text other is = record { same = laws.apart s t line replies text n is other; continues = line-continues s t line replies text is }

  pub run-leaves : (n m : ℕ) → n ≢ m → (s : SiteState) (replies : List Bool) → LeavesOther n s (after_steps s m replies)
  run-leaves n m other s [] = leaves-itself n s
  run-leaves n m other s (keeps ∷ more) = go (λ t. run-leaves n m other t more) (rests (seat_at s.seats.seats m)) (step_line s m keeps) refl
    where
      go : ((t : SiteState) → LeavesOther n t (after_steps t m more)) → (b : Bool) (a : Answer SiteState) → step_line s m keeps ≡ a → LeavesOther n s (cond b s (elim a [ Refused ↦ s | Done t out ↦ after_steps t m more ]))
      go later true a is = leaves-itself n s
      go later false Refused is = leaves-itself n s
      go later false (Done t out) is =
          let first : LeavesOther n s t = line-leaves n s t (lines.Step m) (keeps ∷ []) out other (ap (λ (a : Answer SiteState). Some a) is) in
          let rest : LeavesOther n t (after_steps t m more) = later t in
          record { same = rest.same ∙ first.same; continues = continues-on s t (after_steps t m more) first.continues rest.continues }
