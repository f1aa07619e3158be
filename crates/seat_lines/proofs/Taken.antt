-- A line about a connection that may be done is not refused, and one that may not is.
use Rattle.std.proofs.Common.{◌≡◌, ◌≢◌, ℕ, ◌≤◌, ◌<◌, Bool, true, false, not, ◌&&◌, cond, List, [], ◌∷◌, ◌++◌, Option, Some, None, is_some, refl, sym, ap, subst, ◌∙◌, arith}
use Rattle.std.proofs.lemmas.Bool.Decides.{nat_tests}
use Rattle.recovery_manager.specs.Kept.{ManagerValue}
use Rattle.scenario_text.specs.Answer.{Answer, Refused, Done, or_refused, refused_if, within}
use Rattle.scenario_text.specs.declared.seat_line.SeatLine.TheVariants as lines
use Rattle.scenario_text.specs.declared.seat_line.TheConstants.{MAX_SEAT}
use Rattle.seat_steps.specs.Seats.{SeatGivens, SeatWorld}
use Rattle.seat_steps.specs.declared.seat.Seat.{Seat}
use Rattle.session_lanes.specs.Lanes.{LanesState}
use Rattle.shepherd.specs.Shepherds.{turn}
use Rattle.shepherd.specs.declared.shepherd.ShepherdTurn.{ShepherdTurn}
use Rattle.shepherd.specs.declared.shepherd.ShepherdTurn.TheVariants as turns
use Rattle.seat_lines.specs.Lines.{Place, bytes_line, bytes_step, conn_line, end_line, end_step, givens_of, is_beyond, new_seat, open_line, place_step, step_line, step_over, steps_at, with_place, world_of}
use Rattle.seat_lines.specs.Runs.{can_run, rests, run_from, run_line, seat_line}
use Rattle.seat_lines.specs.Site.{SiteState, padded, seat_at, with_seat, with_seats}
use Rattle.seat_lines.proofs.Answering.{Comes, comes_all, comes_if, comes_or, comes_within}
use Rattle.seat_lines.proofs.Placing.{IsDone, steps_done}
use Rattle.seat_lines.proofs.SeatSteps.{InPlace}

-- a number that a connection may have
pub is_near : (n : ℕ) → n ≤ MAX_SEAT → is_beyond n ≡ false
is_near n near = grind (arith, nat_tests, near)

-- and one that none may have
pub is_far : (n : ℕ) → MAX_SEAT < n → is_beyond n ≡ true
is_far n far = grind (arith, nat_tests, far)

-- what is done of a part is done of the whole
whole_made : {A S : Type 0} (f : A → S) (a : Answer A) → a ≢ Refused → within f a ≢ Refused
whole_made f Refused made e = made refl
whole_made f (Done x text) made e = absurd (cc)

-- a connection that is there makes its step at each turn
made_at : (t : ShepherdTurn) (g : SeatGivens) (n : ℕ) (seat : Seat) (w : SeatWorld) (m : ManagerValue) → steps_at t g n seat w m ≢ Refused
made_at turns.Bytes g n seat w m e = absurd (cc)
made_at turns.Request g n seat w m e = absurd (cc)
made_at turns.Outside g n seat w m e = absurd (cc)
made_at turns.Windows g n seat w m e = absurd (cc)
made_at turns.Inside g n seat w m e = absurd (cc)
made_at turns.Program g n seat w m e = absurd (cc)
made_at turns.Own g n seat w m e = absurd (cc)
made_at turns.Output g n seat w m e = absurd (cc)
made_at turns.Item g n seat w m e = absurd (cc)
made_at (turns.Ended end) g n seat w m e = absurd (cc)

module _ (s : SiteState) (n : ℕ) (keeps : Bool) where
  -- the step of a connection that is there, over bricks
  in_place : (seat : Seat) (st : LanesState) → is_beyond n ≡ false → seat_at s.seats.seats n ≡ Some seat → s.sessions.store ≡ Some st → step_line s n keeps ≡ InPlace s n keeps seat st
  unfolding step_line place_step
  in_place seat st near there bricks =
      ap (λ (b : Bool). refused_if b (or_refused s.sessions.store (λ (x : LanesState). step_over s n keeps x))) near
      ∙ (ap (λ (o : Option LanesState). or_refused o (λ (x : LanesState). step_over s n keeps x)) bricks
      ∙ ap (λ (o : Option Seat). within (with_place s n) (or_refused o (λ (x : Seat). steps_at (turn x.connection) (givens_of s n keeps) n x (world_of s st) s.seats.manager))) there)

  pub step_made : (seat : Seat) (st : LanesState) → is_beyond n ≡ false → seat_at s.seats.seats n ≡ Some seat → s.sessions.store ≡ Some st → step_line s n keeps ≢ Refused
  step_made seat st near there bricks e =
      whole_made (with_place s n) (steps_at (turn seat.connection) (givens_of s n keeps) n seat (world_of s st) s.seats.manager)
      (made_at (turn seat.connection) (givens_of s n keeps) n seat (world_of s st) s.seats.manager) (sym (in_place seat st near there bricks) ∙ e)

pub opens_new : (s : SiteState) (n : ℕ) (replies : List Bool) → n ≤ MAX_SEAT → seat_at s.seats.seats n ≡ None → seat_line s (lines.Conn n) replies ≢ Some Refused
unfolding open_line
opens_new s n replies near none e =
    let opened : Answer SiteState = Done (with_seat (with_seats s (padded s.seats.seats n)) n (Some new_seat)) [] in
    let at : conn_line s n ≡ opened =
    ap (λ (b : Bool). refused_if b (open_line s n)) (is_near n near) ∙ ap (λ (o : Option Seat). refused_if (is_some o) opened) none in
    let same : Some opened ≡ Some Refused = ap (λ (a : Answer SiteState). Some a) (sym at) ∙ e in absurd (cc)

-- an input that has not ended takes what comes
taken_in : (b : Bool) (a : Answer (Option Seat)) → b ≡ false → a ≢ Refused → refused_if b a ≢ Refused
taken_in true a is made e = absurd (cc)
taken_in false a is made e = made e

bytes_made : (bytes : List ℕ) (o : Option Seat) (seat : Seat) → o ≡ Some seat → seat.connection.ended ≡ false → bytes_step bytes o ≢ Refused
bytes_made bytes None seat there going e = absurd (cc)
bytes_made bytes (Some x) seat there going e =
    let same : x ≡ seat = cc in
    let still : x.connection.ended ≡ false = ap (λ (y : Seat). y.connection.ended) same ∙ going in
    taken_in x.connection.ended _ still (λ done. absurd (cc)) e

end_made : (o : Option Seat) (seat : Seat) → o ≡ Some seat → seat.connection.ended ≡ false → end_step o ≢ Refused
end_made None seat there going e = absurd (cc)
end_made (Some x) seat there going e =
    let same : x ≡ seat = cc in
    let still : x.connection.ended ≡ false = ap (λ (y : Seat). y.connection.ended) same ∙ going in
    taken_in x.connection.ended _ still (λ done. absurd (cc)) e

-- what is done is not refused as the answer to a line
told : (a : Answer SiteState) → a ≢ Refused → Some a ≢ Some Refused
told Refused made e = made refl
told (Done t text) made e = absurd (cc)

pub bytes_taken : (s : SiteState) (n : ℕ) (bytes : List ℕ) (replies : List Bool) (seat : Seat) → seat_at s.seats.seats n ≡ Some seat → seat.connection.ended ≡ false → seat_line s (lines.Bytes n bytes) replies ≢ Some Refused
unfolding bytes_line
bytes_taken s n bytes replies seat there going =
    told (bytes_line s n bytes) (whole_made (with_seat s n) (bytes_step bytes (seat_at s.seats.seats n)) (bytes_made bytes (seat_at s.seats.seats n) seat there going))

pub end_taken : (s : SiteState) (n : ℕ) (replies : List Bool) (seat : Seat) → seat_at s.seats.seats n ≡ Some seat → seat.connection.ended ≡ false → seat_line s (lines.End n) replies ≢ Some Refused
unfolding end_line
end_taken s n replies seat there going =
    told (end_line s n) (whole_made (with_seat s n) (end_step (seat_at s.seats.seats n)) (end_made (seat_at s.seats.seats n) seat there going))

-- a site has bricks
abbrev HasBricks : SiteState → Type 0
HasBricks s = (st : LanesState) × (s.sessions.store ≡ Some st)

-- whatever a step leaves has bricks
bricks_left : (s : SiteState) (n : ℕ) (keeps : Bool) → Comes (λ t text. HasBricks t) (step_line s n keeps)
unfolding step_line
bricks_left s n keeps =
    comes_if (λ t text. HasBricks t) (is_beyond n) (or_refused s.sessions.store (λ (st : LanesState). step_over s n keeps st)) (λ near.
    comes_or (λ t text. HasBricks t) s.sessions.store (λ (st : LanesState). step_over s n keeps st) (λ st is.
    comes_within (λ t text. HasBricks t) (with_place s n) (place_step (givens_of s n keeps) n (seat_at s.seats.seats n) (world_of s st) s.seats.manager)
    (comes_all (λ (p : Place) text. HasBricks (with_place s n p)) (place_step (givens_of s n keeps) n (seat_at s.seats.seats n) (world_of s st) s.seats.manager) (λ p text. (p.world.store, refl)))))

-- what a line comes to is no refusal
abbrev Unrefused : Option (Answer SiteState) → Type 0
Unrefused answer = answer ≢ Some Refused

-- over bricks no step of a run is refused
run_taken : (n : ℕ) → n ≤ MAX_SEAT → (replies : List Bool) (s : SiteState) (text : List ℕ) → HasBricks s → Unrefused (run_from s text n replies)
run_taken n near [] s text has = go (rests (seat_at s.seats.seats n)) where
  go : (b : Bool) → Unrefused (cond b (Some (Done s text)) None)
  go true e = absurd (cc)
  go false e = absurd (cc)
run_taken n near (keeps ∷ more) s text has = go (λ x o. run_taken n near more x (text ++ o)) (rests (seat_at s.seats.seats n)) refl where
  Later : Type 0
  Later = (x : SiteState) (o : List ℕ) → HasBricks x → Unrefused (run_from x (text ++ o) n more)

  by : Later → (a : Answer SiteState) → Comes (λ x o. HasBricks x) a → IsDone a → Unrefused (elim a [ Refused ↦ Some Refused | Done x o ↦ run_from x (text ++ o) n more ])
  by later Refused left made e = absurd (let clash : Refused ≡ Done made.0 made.1 = made.2 in cc)
  by later (Done x o) left made e = later x o left e

  go : Later → (b : Bool) → rests (seat_at s.seats.seats n) ≡ b → Unrefused (cond b (Some (Done s text)) (elim (step_line s n keeps) [ Refused ↦ Some Refused | Done x o ↦ run_from x (text ++ o) n more ]))
  go later true at e = absurd (cc)
  go later false at e = by later (step_line s n keeps) (bricks_left s n keeps) (steps_done s n keeps has.0 near has.1 at) e

pub run_made : (s : SiteState) (n : ℕ) (replies : List Bool) (seat : Seat) (st : LanesState) → n ≤ MAX_SEAT → seat_at s.seats.seats n ≡ Some seat → s.sessions.store ≡ Some st → seat_line s (lines.Run n) replies ≢ Some Refused
unfolding run_line
run_made s n replies seat st near there bricks =
    let able : can_run s n ≡ true =
    ap (λ (b : Bool). not b && (is_some s.sessions.store && is_some (seat_at s.seats.seats n))) (is_near n near)
    ∙ (ap (λ (o : Option LanesState). is_some o && is_some (seat_at s.seats.seats n)) bricks ∙ ap (λ (o : Option Seat). is_some o) there) in
    subst (λ (b : Bool). Unrefused (cond b (run_from s [] n replies) (Some Refused))) (sym able) (run_taken n near replies s [] (st, bricks))

-- a run is refused that cannot begin
pub run_refused : (s : SiteState) (n : ℕ) (replies : List Bool) → can_run s n ≡ false → seat_line s (lines.Run n) replies ≡ Some Refused
unfolding run_line
run_refused s n replies unable = ap (λ (b : Bool). cond b (run_from s [] n replies) (Some Refused)) unable

-- no connection opens of a number that none may have
pub opens_none : (s : SiteState) (n : ℕ) (replies : List Bool) → MAX_SEAT < n → seat_line s (lines.Conn n) replies ≡ Some Refused
opens_none s n replies far = ap (λ (b : Bool). Some (refused_if b (open_line s n))) (is_far n far)
