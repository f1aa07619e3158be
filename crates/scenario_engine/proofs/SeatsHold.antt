-- What lines about connections keep of a boot and of each connection in it, where each step of a connection keeps it at
-- a moment of the sessions.
use Rattle.std.proofs.Common.{◌≡◌, ℕ, ◌+◌, ◌-◌, Bool, true, false, cond, inl, inr, List, [], ◌∷◌, length, Option, Some, None, is_some, refl, sym, ap, ◌∙◌, subst}
use Rattle.std.specs.Prelude.{All, replicate}
use Rattle.std.proofs.lemmas.Bool.{cases_lt}
use Rattle.std.proofs.lemmas.List.{get_or_past}
use Rattle.std.proofs.lemmas.List.Elements.{All-append, All-replicate, All-set, All-weaker}
use Rattle.boot_core.specs.Boot.{BootValue}
use Rattle.crash_base.specs.declared.numbers.Moment.{Moment}
use Rattle.line_steps.specs.declared.head.Head.{Head}
use Rattle.scenario_text.specs.Answer.{Answer, Refused, Done, or_refused, refused_if, within}
use Rattle.scenario_text.specs.declared.seat_line.SeatLine.{SeatLine}
use Rattle.scenario_text.specs.declared.seat_line.SeatLine.TheVariants as lines
use Rattle.scenario_text.proofs.Leaving.{Leaves, leaves-refused_if}
use Rattle.seat_lines.specs.Lines.{Place, bytes_line, bytes_step, conn_line, end_line, end_step, ended, fed, givens_of, is_beyond, moved, new_seat, open_line, place_step, step_line, step_over, steps_at, with_place, world_of}
use Rattle.seat_lines.specs.Runs.{can_run, rests, run_from, run_line, seat_line}
use Rattle.seat_lines.specs.Site.{SiteState, padded, seat_at, with_seat}
use Rattle.seat_steps.specs.Seats.{SeatGivens, SeatWorld, seat_step}
use Rattle.seat_steps.specs.declared.seat.Seat.{Seat}
use Rattle.session_lanes.specs.Lanes.{LanesState}
use Rattle.shepherd.specs.Shepherds.{turn}
use Rattle.shepherd.specs.declared.shepherd.ShepherdTurn.{ShepherdTurn}
use Rattle.shepherd.specs.declared.shepherd.ShepherdTurn.TheVariants as turns
use Rattle.scenario_engine.specs.Seats.{in_boot, after_steps, by_replies, seat_over}
use Rattle.scenario_engine.specs.State.{RunningState, Running, Outcome, RefusedIn, site_of, with_site}
use Rattle.scenario_engine.proofs.Keeping.{HoldsIn, LeavesTo}
use Rattle.scenario_engine.proofs.SeatRows.{RunsTo, bricks_of, line_of_run, near_of, run_to}
use Rattle.recovery_manager.specs.Kept.{ManagerValue}

-- What is kept: P of the boot, Q of each connection in it, at moments of which T holds.
module _ (P : BootValue → Type 0) (Q : BootValue → Seat → Type 0) (T : Moment → Type 0) where
  -- a connection has it, if it is there
  abbrev pub IfHas : BootValue → Option Seat → Type 0
  IfHas boot None = Unit {0}
  IfHas boot (Some seat) = Q boot seat

  pub record HoldsAt (s : SiteState) : Type 0 where
    pub boot : P s.boot
    pub seats : All (IfHas s.boot) s.seats.seats
    pub time : T s.sessions.moment

  -- each step keeps it, of its own connection and of others, and of the boot
  pub record StepLaws : Type 0 where
    pub begins : (boot : BootValue) → P boot → Q boot new_seat
    pub still : (boot : BootValue) (seat new : Seat) → new.connection.stage ≡ seat.connection.stage → Q boot seat → Q boot new
    pub boot : (g : SeatGivens) (seat : Seat) (w : SeatWorld) → T g.now → Q w.boot seat → P w.boot → P (seat_step g seat w).world.boot
    pub step : (g : SeatGivens) (seat : Seat) (w : SeatWorld) → T g.now → Q w.boot seat → Q (seat_step g seat w).world.boot (seat_step g seat w).seat
    pub others : (g : SeatGivens) (seat other : Seat) (w : SeatWorld) → Q w.boot seat → Q w.boot other → Q (seat_step g seat w).world.boot other

  if_other : (old new : BootValue) → ((seat : Seat) → Q old seat → Q new seat) → (o : Option Seat) → IfHas old o → IfHas new o
  if_other old new goes None has = tt
  if_other old new goes (Some seat) has = goes seat has

  has_here : (boot : BootValue) (seats : List (Option Seat)) (n : ℕ) → All (IfHas boot) seats → IfHas boot (seat_at seats n)
  has_here boot seats n all = elim (cases_lt n (length seats)) [
    | inl within ↦ all n None within
    | inr past ↦ (let A : Option Seat → Type 0 = λ o. IfHas boot o in subst A (sym (get_or_past seats n None past)) tt)
  ]

  -- so it is of the world at a connection's place behind a step
  record PlaceHas (old : BootValue) (p : Place) : Type 0 where
    boot : P p.world.boot
    here : IfHas p.world.boot p.seat
    others : (other : Seat) → Q old other → Q p.world.boot other

  module _ (laws : StepLaws) where
    has_set : (s : SiteState) (n : ℕ) (o : Option Seat) → HoldsAt s → IfHas s.boot o → HoldsAt (with_seat s n o)
    has_set s n o h has = record { boot = h.boot; seats = All-set (IfHas s.boot) s.seats.seats n o has h.seats; time = h.time }

    has_conn : (s : SiteState) (n : ℕ) → HoldsAt s → Leaves HoldsAt (conn_line s n)
    unfolding open_line
    has_conn s n h =
        leaves-refused_if HoldsAt (is_beyond n) _ (λ near. leaves-refused_if HoldsAt (is_some (seat_at s.seats.seats n)) _ (λ free. opened))
      where
        opened : HoldsAt (with_seat (record s { seats = record (s.seats) { seats = padded s.seats.seats n } }) n (Some new_seat))
        opened =
            let I : Option Seat → Type 0 = IfHas s.boot in
            let more : ℕ = n + 1 - length s.seats.seats in
            let all : All I (padded s.seats.seats n) = All-append I s.seats.seats (replicate more None) h.seats (All-replicate I more None tt) in
            record { boot = h.boot; seats = All-set I (padded s.seats.seats n) n (Some new_seat) (laws.begins s.boot h.boot) all; time = h.time }

    has_bytes : (s : SiteState) (n : ℕ) (bytes : List ℕ) → HoldsAt s → Leaves HoldsAt (bytes_line s n bytes)
    unfolding bytes_line
    has_bytes s n bytes h = go (seat_at s.seats.seats n) (has_here s.boot s.seats.seats n h.seats)
      where
        by : (seat : Seat) (over : Bool) → Q s.boot seat → Leaves HoldsAt (within (with_seat s n) (refused_if over (Done (Some (fed seat bytes)) [])))
        by seat true has = tt
        by seat false has = has_set s n (Some (fed seat bytes)) h (laws.still s.boot seat (fed seat bytes) refl has)

        go : (o : Option Seat) → IfHas s.boot o → Leaves HoldsAt (within (with_seat s n) (bytes_step bytes o))
        go None has = tt
        go (Some seat) has = by seat seat.connection.ended has

    has_end : (s : SiteState) (n : ℕ) → HoldsAt s → Leaves HoldsAt (end_line s n)
    unfolding end_line
    has_end s n h = go (seat_at s.seats.seats n) (has_here s.boot s.seats.seats n h.seats)
      where
        by : (seat : Seat) (over : Bool) → Q s.boot seat → Leaves HoldsAt (within (with_seat s n) (refused_if over (Done (Some (ended seat)) [])))
        by seat true has = tt
        by seat false has = has_set s n (Some (ended seat)) h (laws.still s.boot seat (ended seat) refl has)

        go : (o : Option Seat) → IfHas s.boot o → Leaves HoldsAt (within (with_seat s n) (end_step o))
        go None has = tt
        go (Some seat) has = by seat seat.connection.ended has

    -- one step

    has_moved : (t : ShepherdTurn) (g : SeatGivens) (n : ℕ) (seat : Seat) (w : SeatWorld) (m : ManagerValue) → T g.now → Q w.boot seat → P w.boot → Leaves (PlaceHas w.boot) (moved t n (seat_step g seat w) m)
    has_moved t g n seat w m time has boot = record {
      boot = laws.boot g seat w time has boot;
      here = laws.step g seat w time has;
      others = λ other its. laws.others g seat other w has its;
    }

    has_at_turn : (t : ShepherdTurn) (g : SeatGivens) (n : ℕ) (seat : Seat) (w : SeatWorld) (m : ManagerValue) → T g.now → Q w.boot seat → P w.boot → Leaves (PlaceHas w.boot) (steps_at t g n seat w m)
    has_at_turn turns.Bytes g n seat w m time has boot = record { boot = boot; here = has; others = λ other its. its }
    has_at_turn turns.Request g n seat w m time has boot = has_moved turns.Request g n seat w m time has boot
    has_at_turn turns.Outside g n seat w m time has boot = has_moved turns.Outside g n seat w m time has boot
    has_at_turn turns.Windows g n seat w m time has boot = has_moved turns.Windows g n seat w m time has boot
    has_at_turn turns.Inside g n seat w m time has boot = has_moved turns.Inside g n seat w m time has boot
    has_at_turn turns.Program g n seat w m time has boot = has_moved turns.Program g n seat w m time has boot
    has_at_turn turns.Own g n seat w m time has boot = has_moved turns.Own g n seat w m time has boot
    has_at_turn turns.Output g n seat w m time has boot = has_moved turns.Output g n seat w m time has boot
    has_at_turn turns.Item g n seat w m time has boot = has_moved turns.Item g n seat w m time has boot
    has_at_turn (turns.Ended end) g n seat w m time has boot = record { boot = boot; here = tt; others = λ other its. its }

    has_placed : (s : SiteState) (n : ℕ) (a : Answer Place) → HoldsAt s → Leaves (PlaceHas s.boot) a → Leaves HoldsAt (within (with_place s n) a)
    has_placed s n Refused h left = tt
    has_placed s n (Done p text) h left =
        let now : BootValue = p.world.boot in
        record {
          boot = left.boot;
          seats = All-set (IfHas now) s.seats.seats n p.seat left.here (All-weaker (IfHas s.boot) (IfHas now) (if_other s.boot now left.others) s.seats.seats h.seats);
          time = h.time;
        }

    has_step : (s : SiteState) (n : ℕ) (keeps : Bool) → HoldsAt s → Leaves HoldsAt (step_line s n keeps)
    unfolding step_line place_step
    has_step s n keeps h = leaves-refused_if HoldsAt (is_beyond n) (or_refused s.sessions.store (λ store. step_over s n keeps store)) (λ near. by s.sessions.store)
      where
        there : (o : Option Seat) (st : LanesState) → IfHas s.boot o → Leaves (PlaceHas s.boot) (or_refused o (λ seat. steps_at (turn seat.connection) (givens_of s n keeps) n seat (world_of s st) s.seats.manager))
        there None st has = tt
        there (Some seat) st has = has_at_turn (turn seat.connection) (givens_of s n keeps) n seat (world_of s st) s.seats.manager h.time has h.boot

        by : (o : Option LanesState) → Leaves HoldsAt (or_refused o (λ store. step_over s n keeps store))
        by None = tt
        by (Some st) =
            has_placed s n (or_refused (seat_at s.seats.seats n) (λ seat. steps_at (turn seat.connection) (givens_of s n keeps) n seat (world_of s st) s.seats.manager)) h
            (there (seat_at s.seats.seats n) st (has_here s.boot s.seats.seats n h.seats))

    -- whole steps

    has_steps : (s : SiteState) (n : ℕ) (replies : List Bool) → HoldsAt s → HoldsAt (after_steps s n replies)
    has_steps s n [] h = h
    has_steps s n (keeps ∷ more) h = go (λ v. has_steps v n more) (rests (seat_at s.seats.seats n)) (step_line s n keeps) (has_step s n keeps h)
      where
        go : ((v : SiteState) → HoldsAt v → HoldsAt (after_steps v n more)) → (rest : Bool) (a : Answer SiteState) → Leaves HoldsAt a → HoldsAt (cond rest s (elim a [ Refused ↦ s | Done v out ↦ after_steps v n more ]))
        go later true a left = h
        go later false Refused left = h
        go later false (Done v out) left = later v left

    module _ (H : Head → Type 0) (R : RunningState → Type 0) (r : RunningState) (stays : R r) (makes : (v : SiteState) → HoldsAt v → R (with_site r v)) where
      has_answer : (a : Answer SiteState) → Leaves HoldsAt a → LeavesTo (HoldsIn H R) (in_boot r (within (with_site r) a))
      has_answer Refused left = stays
      has_answer (Done v text) left = makes v left

      has_run : (n : ℕ) (replies : List Bool) → HoldsAt (site_of r) → LeavesTo (HoldsIn H R) (by_replies r (lines.Run n) replies (run_line (site_of r) n replies))
      has_run n replies h = go (can_run (site_of r) n) refl
        where
          by : Bool → Outcome
          by can = by_replies r (lines.Run n) replies (cond can (run_from (site_of r) [] n replies) (Some Refused))

          as_run : by (can_run (site_of r) n) ≡ by_replies r (lines.Run n) replies (run_line (site_of r) n replies)
          as_run = ap (by_replies r (lines.Run n) replies) (line_of_run (site_of r) n replies)

          after : R (with_site r (after_steps (site_of r) n replies))
          after = makes (after_steps (site_of r) n replies) (has_steps (site_of r) n replies h)

          came : (o : Option (Answer SiteState)) → RunsTo (after_steps (site_of r) n replies) o → LeavesTo (HoldsIn H R) (by_replies r (lines.Run n) replies o)
          came None to = after
          came (Some Refused) to = absurd to
          came (Some (Done v out)) to = subst (λ (w : SiteState). R (with_site r w)) (sym to) after

          run : (can : Bool) → can_run (site_of r) n ≡ can → LeavesTo (HoldsIn H R) (by can)
          run true can = came (run_from (site_of r) [] n replies) (run_to (site_of r) [] n replies (near_of (is_beyond n) (is_some r.sessions.store) (is_some (seat_at r.seats.seats n)) can) (bricks_of (is_beyond n) (is_some r.sessions.store) (is_some (seat_at r.seats.seats n)) can))
          run false none = stays

          go : (can : Bool) → can_run (site_of r) n ≡ can → LeavesTo (HoldsIn H R) (by_replies r (lines.Run n) replies (run_line (site_of r) n replies))
          go can is = subst (LeavesTo (HoldsIn H R)) (ap by (sym is) ∙ as_run) (run can is)

      has_line : (line : SeatLine) (replies : List Bool) → HoldsAt (site_of r) → LeavesTo (HoldsIn H R) (by_replies r line replies (seat_line (site_of r) line replies))
      has_line (lines.Conn n) replies h = has_answer (conn_line (site_of r) n) (has_conn (site_of r) n h)
      has_line (lines.Bytes n bytes) replies h = has_answer (bytes_line (site_of r) n bytes) (has_bytes (site_of r) n bytes h)
      has_line (lines.End n) replies h = has_answer (end_line (site_of r) n) (has_end (site_of r) n h)
      has_line (lines.Step n) [] h = stays
      has_line (lines.Step n) (keeps ∷ more) h = has_answer (step_line (site_of r) n keeps) (has_step (site_of r) n keeps h)
      has_line (lines.Run n) replies h = has_run n replies h

      -- A line about connections leaves what it makes of a site where it holds.
      pub has_seat : (line : SeatLine) (replies : List Bool) → (r.site ≡ true → HoldsAt (site_of r)) → LeavesTo (HoldsIn H R) (seat_over r line replies)
      unfolding seat_over
      has_seat line replies h = go r.site refl
        where
          go : (site : Bool) → r.site ≡ site → LeavesTo (HoldsIn H R) (cond site (by_replies r line replies (seat_line (site_of r) line replies)) (RefusedIn (Running r)))
          go true is = has_line line replies (h is)
          go false is = stays
