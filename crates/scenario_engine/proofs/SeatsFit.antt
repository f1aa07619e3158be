-- Connections that fit their boot fit it behind each line, and a line about them keeps of the boot what each step of
-- one that fits keeps.
use Rattle.std.proofs.Common.{◌≡◌, ℕ, ◌+◌, ◌-◌, Bool, true, false, cond, inl, inr, List, [], ◌∷◌, length, Option, Some, None, is_some, refl, sym, ap, ◌∙◌, subst}
use Rattle.std.specs.Prelude.{All, replicate}
use Rattle.std.proofs.lemmas.Bool.{cases_lt}
use Rattle.std.proofs.lemmas.List.{get_or_past}
use Rattle.std.proofs.lemmas.List.Elements.{All-append, All-replicate, All-set, All-weaker}
use Rattle.auction_rows.specs.Parts.{site_parts}
use Rattle.boot_core.specs.Boot.{BootValue, HasGrown, with_entry}
use Rattle.boot_core.specs.Sound.{IsSound}
use Rattle.boot_core.specs.declared.boot.Start.{Start}
use Rattle.journal_model.specs.declared.entry.Entry.{Entry}
use Rattle.line_steps.specs.declared.head.Head.{Head}
use Rattle.scenario_text.specs.Answer.{Answer, Refused, Done, or_refused, refused_if, within}
use Rattle.scenario_text.specs.declared.seat_line.SeatLine.{SeatLine}
use Rattle.scenario_text.specs.declared.seat_line.SeatLine.TheVariants as lines
use Rattle.scenario_text.proofs.Leaving.{Leaves, leaves-refused_if}
use Rattle.seat_laws.specs.Fitting.{CommitsAtMost, SeatFits}
use Rattle.seat_lines.specs.Lines.{Place, bytes_line, bytes_step, conn_line, end_line, end_step, ended, fed, givens_of, is_beyond, moved, new_seat, open_line, place_step, step_line, step_over, steps_at, with_place, world_of}
use Rattle.seat_lines.specs.Runs.{can_run, rests, run_from, run_line, seat_line}
use Rattle.seat_lines.specs.Site.{SiteState, padded, seat_at, with_seat}
use Rattle.seat_steps.specs.Seats.{SeatGivens, SeatWorld, seat_step}
use Rattle.seat_steps.specs.declared.seat.Seat.{Seat}
use Rattle.session_lanes.specs.Lanes.{LanesState}
use Rattle.shepherd.specs.Shepherds.{fresh, turn}
use Rattle.shepherd.specs.declared.shepherd.ShepherdTurn.{ShepherdTurn}
use Rattle.shepherd.specs.declared.shepherd.ShepherdTurn.TheVariants as turns
use Rattle.scenario_engine.specs.Seats.{in_boot, after_steps, by_replies, seat_over}
use Rattle.scenario_engine.specs.State.{RunningState, Running, Outcome, RefusedIn, site_of, with_site}
use Rattle.scenario_engine.proofs.Keeping.{HoldsIn, LeavesTo}
use Rattle.scenario_engine.proofs.SeatRows.{RunsTo, bricks_of, line_of_run, near_of, run_to}
use Rattle.recovery_manager.specs.Kept.{ManagerValue}

-- what is promised of the steps of connections, where they fit the boot
pub record SeatLaws : Type 0 where
  pub begins : (boot : BootValue) → boot.start.deployment ≡ site_parts → SeatFits boot (record { connection = fresh; twin = None })
  pub step : (g : SeatGivens) (seat : Seat) (w : SeatWorld) → SeatFits w.boot seat → SeatFits (seat_step g seat w).world.boot (seat_step g seat w).seat
  pub others : (g : SeatGivens) (seat other : Seat) (w : SeatWorld) → SeatFits w.boot seat → SeatFits w.boot other → SeatFits (seat_step g seat w).world.boot other
  pub meanwhile : (old new : BootValue) (seat : Seat) → HasGrown old new → SeatFits old seat → SeatFits new seat
  pub still : (boot : BootValue) (seat new : Seat) → new.connection.stage ≡ seat.connection.stage → SeatFits boot seat → SeatFits boot new
  pub commits : (g : SeatGivens) (seat : Seat) (w : SeatWorld) → SeatFits w.boot seat → CommitsAtMost w.boot (seat_step g seat w).world.boot
  pub sound : (g : SeatGivens) (seat : Seat) (w : SeatWorld) → SeatFits w.boot seat → IsSound w.boot → IsSound (seat_step g seat w).world.boot

-- a connection, if it is there, fits a boot
abbrev pub IfFits : BootValue → Option Seat → Type 0
IfFits boot None = Unit {0}
IfFits boot (Some seat) = SeatFits boot seat

-- a boot is of the site, and each connection fits it
pub record SeatsFit (boot : BootValue) (seats : List (Option Seat)) : Type 0 where
  pub of_site : boot.start.deployment ≡ site_parts
  pub fits : All (IfFits boot) seats

if_other : (old new : BootValue) → ((seat : Seat) → SeatFits old seat → SeatFits new seat) → (o : Option Seat) → IfFits old o → IfFits new o
if_other old new goes None fits = tt
if_other old new goes (Some seat) fits = goes seat fits

-- connections fit a boot that has grown
pub fits_grown : SeatLaws → (old new : BootValue) (seats : List (Option Seat)) → HasGrown old new → SeatsFit old seats → SeatsFit new seats
fits_grown laws old new seats grown its = record {
  of_site = ap (λ (s : Start). s.deployment) grown.start ∙ its.of_site;
  fits = All-weaker (IfFits old) (IfFits new) (if_other old new (λ seat fits. laws.meanwhile old new seat grown fits)) seats its.fits;
}

-- so they do where its journal has one entry more
pub fits_entry : SeatLaws → (boot : BootValue) (e : Entry) (seats : List (Option Seat)) → SeatsFit boot seats → SeatsFit (with_entry boot e) seats
fits_entry laws boot e seats its = fits_grown laws boot (with_entry boot e) seats (record { start = refl; more = e ∷ []; entries = refl }) its

fits_here : (boot : BootValue) (seats : List (Option Seat)) (n : ℕ) → All (IfFits boot) seats → IfFits boot (seat_at seats n)
fits_here boot seats n all = elim (cases_lt n (length seats)) [
  | inl within ↦ all n None within
  | inr past ↦ (let P : Option Seat → Type 0 = λ o. IfFits boot o in subst P (sym (get_or_past seats n None past)) tt)
]

-- this holds of the boot of a site, and its connections fit it
abbrev pub HoldsAt : (BootValue → Type 0) → SiteState → Type 0
HoldsAt P s = P s.boot × SeatsFit s.boot s.seats.seats

-- so it does of the world at a connection's place behind a step, and so do those that fitted the boot before
record PlaceFits (P : BootValue → Type 0) (old : BootValue) (p : Place) : Type 0 where
  holds : P p.world.boot
  of_site : p.world.boot.start.deployment ≡ site_parts
  here : IfFits p.world.boot p.seat
  others : (other : Seat) → SeatFits old other → SeatFits p.world.boot other

module _ (laws : SeatLaws) (P : BootValue → Type 0) (each : (g : SeatGivens) (seat : Seat) (w : SeatWorld) → SeatFits w.boot seat → P w.boot → P (seat_step g seat w).world.boot) where
  fits_set : (s : SiteState) (n : ℕ) (o : Option Seat) → HoldsAt P s → IfFits s.boot o → HoldsAt P (with_seat s n o)
  fits_set s n o h fits = (h.0, record { of_site = h.1.of_site; fits = All-set (IfFits s.boot) s.seats.seats n o fits h.1.fits })

  fits_conn : (s : SiteState) (n : ℕ) → HoldsAt P s → Leaves (HoldsAt P) (conn_line s n)
  unfolding open_line
  fits_conn s n h =
      leaves-refused_if (HoldsAt P) (is_beyond n) _ (λ near. leaves-refused_if (HoldsAt P) (is_some (seat_at s.seats.seats n)) _ (λ free. opened))
    where
      opened : HoldsAt P (with_seat (record s { seats = record (s.seats) { seats = padded s.seats.seats n } }) n (Some new_seat))
      opened =
          let I : Option Seat → Type 0 = IfFits s.boot in
          let more : ℕ = n + 1 - length s.seats.seats in
          let all : All I (padded s.seats.seats n) = All-append I s.seats.seats (replicate more None) h.1.fits (All-replicate I more None tt) in
          (h.0, record { of_site = h.1.of_site; fits = All-set I (padded s.seats.seats n) n (Some new_seat) (laws.begins s.boot h.1.of_site) all })

  fits_bytes : (s : SiteState) (n : ℕ) (bytes : List ℕ) → HoldsAt P s → Leaves (HoldsAt P) (bytes_line s n bytes)
  unfolding bytes_line
  fits_bytes s n bytes h = go (seat_at s.seats.seats n) (fits_here s.boot s.seats.seats n h.1.fits)
    where
      by : (seat : Seat) (ended : Bool) → SeatFits s.boot seat → Leaves (HoldsAt P) (within (with_seat s n) (refused_if ended (Done (Some (fed seat bytes)) [])))
      by seat true fits = tt
      by seat false fits = fits_set s n (Some (fed seat bytes)) h (laws.still s.boot seat (fed seat bytes) refl fits)

      go : (o : Option Seat) → IfFits s.boot o → Leaves (HoldsAt P) (within (with_seat s n) (bytes_step bytes o))
      go None fits = tt
      go (Some seat) fits = by seat seat.connection.ended fits

  fits_end : (s : SiteState) (n : ℕ) → HoldsAt P s → Leaves (HoldsAt P) (end_line s n)
  unfolding end_line
  fits_end s n h = go (seat_at s.seats.seats n) (fits_here s.boot s.seats.seats n h.1.fits)
    where
      by : (seat : Seat) (over : Bool) → SeatFits s.boot seat → Leaves (HoldsAt P) (within (with_seat s n) (refused_if over (Done (Some (ended seat)) [])))
      by seat true fits = tt
      by seat false fits = fits_set s n (Some (ended seat)) h (laws.still s.boot seat (ended seat) refl fits)

      go : (o : Option Seat) → IfFits s.boot o → Leaves (HoldsAt P) (within (with_seat s n) (end_step o))
      go None fits = tt
      go (Some seat) fits = by seat seat.connection.ended fits

  -- one step

  fits_moved : (t : ShepherdTurn) (g : SeatGivens) (n : ℕ) (seat : Seat) (w : SeatWorld) (m : ManagerValue) → SeatFits w.boot seat → P w.boot → Leaves (PlaceFits P w.boot) (moved t n (seat_step g seat w) m)
  fits_moved t g n seat w m fits p =
      let new : SeatFits (seat_step g seat w).world.boot (seat_step g seat w).seat = laws.step g seat w fits in
      record {
        holds = each g seat w fits p;
        of_site = new.site;
        here = new;
        others = λ other its. laws.others g seat other w fits its;
      }

  fits_at_turn : (t : ShepherdTurn) (g : SeatGivens) (n : ℕ) (seat : Seat) (w : SeatWorld) (m : ManagerValue) → SeatFits w.boot seat → P w.boot → Leaves (PlaceFits P w.boot) (steps_at t g n seat w m)
  fits_at_turn turns.Bytes g n seat w m fits p = record { holds = p; of_site = fits.site; here = fits; others = λ other its. its }
  fits_at_turn turns.Request g n seat w m fits p = fits_moved turns.Request g n seat w m fits p
  fits_at_turn turns.Outside g n seat w m fits p = fits_moved turns.Outside g n seat w m fits p
  fits_at_turn turns.Windows g n seat w m fits p = fits_moved turns.Windows g n seat w m fits p
  fits_at_turn turns.Inside g n seat w m fits p = fits_moved turns.Inside g n seat w m fits p
  fits_at_turn turns.Program g n seat w m fits p = fits_moved turns.Program g n seat w m fits p
  fits_at_turn turns.Own g n seat w m fits p = fits_moved turns.Own g n seat w m fits p
  fits_at_turn turns.Output g n seat w m fits p = fits_moved turns.Output g n seat w m fits p
  fits_at_turn turns.Item g n seat w m fits p = fits_moved turns.Item g n seat w m fits p
  fits_at_turn (turns.Ended end) g n seat w m fits p = record { holds = p; of_site = fits.site; here = tt; others = λ other its. its }

  fits_placed : (s : SiteState) (n : ℕ) (a : Answer Place) → All (IfFits s.boot) s.seats.seats → Leaves (PlaceFits P s.boot) a → Leaves (HoldsAt P) (within (with_place s n) a)
  fits_placed s n Refused all h = tt
  fits_placed s n (Done p text) all h =
      let now : BootValue = p.world.boot in (
        h.holds,
        record {
          of_site = h.of_site;
          fits = All-set (IfFits now) s.seats.seats n p.seat h.here (All-weaker (IfFits s.boot) (IfFits now) (if_other s.boot now h.others) s.seats.seats all);
        },
      )

  fits_step : (s : SiteState) (n : ℕ) (keeps : Bool) → HoldsAt P s → Leaves (HoldsAt P) (step_line s n keeps)
  unfolding step_line place_step
  fits_step s n keeps h = leaves-refused_if (HoldsAt P) (is_beyond n) (or_refused s.sessions.store (λ store. step_over s n keeps store)) (λ near. by s.sessions.store)
    where
      there : (o : Option Seat) (st : LanesState) → IfFits s.boot o → Leaves (PlaceFits P s.boot) (or_refused o (λ seat. steps_at (turn seat.connection) (givens_of s n keeps) n seat (world_of s st) s.seats.manager))
      there None st fits = tt
      there (Some seat) st fits = fits_at_turn (turn seat.connection) (givens_of s n keeps) n seat (world_of s st) s.seats.manager fits h.0

      by : (o : Option LanesState) → Leaves (HoldsAt P) (or_refused o (λ store. step_over s n keeps store))
      by None = tt
      by (Some st) =
          fits_placed s n (or_refused (seat_at s.seats.seats n) (λ seat. steps_at (turn seat.connection) (givens_of s n keeps) n seat (world_of s st) s.seats.manager)) h.1.fits
          (there (seat_at s.seats.seats n) st (fits_here s.boot s.seats.seats n h.1.fits))

  -- whole steps

  fits_steps : (s : SiteState) (n : ℕ) (replies : List Bool) → HoldsAt P s → HoldsAt P (after_steps s n replies)
  fits_steps s n [] h = h
  fits_steps s n (keeps ∷ more) h = go (λ v. fits_steps v n more) (rests (seat_at s.seats.seats n)) (step_line s n keeps) (fits_step s n keeps h)
    where
      go : ((v : SiteState) → HoldsAt P v → HoldsAt P (after_steps v n more)) → (rest : Bool) (a : Answer SiteState) → Leaves (HoldsAt P) a → HoldsAt P (cond rest s (elim a [ Refused ↦ s | Done v out ↦ after_steps v n more ]))
      go later true a left = h
      go later false Refused left = h
      go later false (Done v out) left = later v left

  module _ (H : Head → Type 0) (R : RunningState → Type 0) (r : RunningState) (stays : R r) (makes : (v : SiteState) → HoldsAt P v → R (with_site r v)) where
    fits_answer : (a : Answer SiteState) → Leaves (HoldsAt P) a → LeavesTo (HoldsIn H R) (in_boot r (within (with_site r) a))
    fits_answer Refused left = stays
    fits_answer (Done v text) left = makes v left

    fits_run : (n : ℕ) (replies : List Bool) → HoldsAt P (site_of r) → LeavesTo (HoldsIn H R) (by_replies r (lines.Run n) replies (run_line (site_of r) n replies))
    fits_run n replies h = go (can_run (site_of r) n) refl
      where
        by : Bool → Outcome
        by can = by_replies r (lines.Run n) replies (cond can (run_from (site_of r) [] n replies) (Some Refused))

        as_run : by (can_run (site_of r) n) ≡ by_replies r (lines.Run n) replies (run_line (site_of r) n replies)
        as_run = ap (by_replies r (lines.Run n) replies) (line_of_run (site_of r) n replies)

        after : R (with_site r (after_steps (site_of r) n replies))
        after = makes (after_steps (site_of r) n replies) (fits_steps (site_of r) n replies h)

        came : (o : Option (Answer SiteState)) → RunsTo (after_steps (site_of r) n replies) o → LeavesTo (HoldsIn H R) (by_replies r (lines.Run n) replies o)
        came None to = after
        came (Some Refused) to = absurd to
        came (Some (Done v out)) to = subst (λ (w : SiteState). R (with_site r w)) (sym to) after

        run : (can : Bool) → can_run (site_of r) n ≡ can → LeavesTo (HoldsIn H R) (by can)
        run true can = came (run_from (site_of r) [] n replies) (run_to (site_of r) [] n replies (near_of (is_beyond n) (is_some r.sessions.store) (is_some (seat_at r.seats.seats n)) can) (bricks_of (is_beyond n) (is_some r.sessions.store) (is_some (seat_at r.seats.seats n)) can))
        run false none = stays

        go : (can : Bool) → can_run (site_of r) n ≡ can → LeavesTo (HoldsIn H R) (by_replies r (lines.Run n) replies (run_line (site_of r) n replies))
        go can is = subst (LeavesTo (HoldsIn H R)) (ap by (sym is) ∙ as_run) (run can is)

    fits_line : (line : SeatLine) (replies : List Bool) → HoldsAt P (site_of r) → LeavesTo (HoldsIn H R) (by_replies r line replies (seat_line (site_of r) line replies))
    fits_line (lines.Conn n) replies h = fits_answer (conn_line (site_of r) n) (fits_conn (site_of r) n h)
    fits_line (lines.Bytes n bytes) replies h = fits_answer (bytes_line (site_of r) n bytes) (fits_bytes (site_of r) n bytes h)
    fits_line (lines.End n) replies h = fits_answer (end_line (site_of r) n) (fits_end (site_of r) n h)
    fits_line (lines.Step n) [] h = stays
    fits_line (lines.Step n) (keeps ∷ more) h = fits_answer (step_line (site_of r) n keeps) (fits_step (site_of r) n keeps h)
    fits_line (lines.Run n) replies h = fits_run n replies h

    -- a line about connections leaves what it makes of a site that fits
    pub fits_seat : (line : SeatLine) (replies : List Bool) → (r.site ≡ true → HoldsAt P (site_of r)) → LeavesTo (HoldsIn H R) (seat_over r line replies)
    unfolding seat_over
    fits_seat line replies h = go r.site refl
      where
        go : (site : Bool) → r.site ≡ site → LeavesTo (HoldsIn H R) (cond site (by_replies r line replies (seat_line (site_of r) line replies)) (RefusedIn (Running r)))
        go true is = fits_line line replies (h is)
        go false is = stays
