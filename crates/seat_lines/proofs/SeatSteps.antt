-- The step of a connection is that of its seat.
use Rattle.std.proofs.Common.{◌≡◌, ◌≢◌, ◌⊎◌, inl, inr, ℕ, ◌<◌, Bool, true, false, List, [], ◌++◌, length, Option, Some, None, refl, sym, ap, ◌∙◌, arith}
use Rattle.std.proofs.lemmas.Bool.{cases_lt}
use Rattle.std.proofs.lemmas.Bool.Decides.{nat_tests}
use Rattle.std.proofs.lemmas.List.{get_or-set_same, get_or_past, set-get_or}
use Rattle.std.specs.Prelude.{slice_set}
use Rattle.scenario_text.specs.Answer.{Answer, Refused, Done, or_refused, refused_if, within}
use Rattle.scenario_text.specs.declared.seat_line.TheConstants.{MAX_SEAT}
use Rattle.seat_steps.specs.Seats.{SeatGivens, SeatOutcome, seat_step}
use Rattle.seat_steps.specs.declared.seat.Seat.{Seat}
use Rattle.session_lanes.specs.Lanes.{LanesState}
use Rattle.session_steps.specs.Lent.{lent_out, put_back}
use Rattle.shepherd.specs.Shepherds.{turn}
use Rattle.shepherd.specs.declared.shepherd.EndKind.{EndKind}
use Rattle.shepherd.specs.declared.shepherd.ShepherdTurn.{ShepherdTurn}
use Rattle.shepherd.specs.declared.shepherd.ShepherdTurn.TheVariants as turns
use Rattle.seat_lines.specs.Changing.{IsLeftBySeat}
use Rattle.seat_lines.specs.Hearing.{decided_text, manager_after}
use Rattle.seat_lines.specs.Lines.{Place, givens_of, is_beyond, moves, place_step, step_line, step_over, step_text, steps_at, with_place, world_of}
use Rattle.seat_lines.specs.Site.{SiteState, seat_at, with_seat, with_seats}
use Rattle.seat_lines.specs.Texts.{gone_text}
use Rattle.seat_lines.proofs.Handing.{moved_at}

-- a connection that is there has a place
pub within_places : (seats : List (Option Seat)) (n : ℕ) (seat : Seat) → seat_at seats n ≡ Some seat → n < length seats
within_places seats n seat there = elim (cases_lt n (length seats)) [
  | inl within ↦ within
  | inr past ↦ (let none : seat_at seats n ≡ None = get_or_past seats n None past in absurd (cc))
]

-- the step of a connection in its place, over bricks
abbrev pub InPlace : SiteState → ℕ → Bool → Seat → LanesState → Answer SiteState
InPlace s n keeps seat st = within (with_place s n) (steps_at (turn seat.connection) (givens_of s n keeps) n seat (world_of s st) s.seats.manager)

module _ (s : SiteState) (n : ℕ) (keeps : Bool) where
  -- a step that is done is of a number that a connection may have
  pub near_step : (t : SiteState) (text : List ℕ) → step_line s n keeps ≡ Done t text → is_beyond n ≡ false
  unfolding step_line
  near_step t text is = go (is_beyond n) is where
    go : (b : Bool) → refused_if b (or_refused s.sessions.store (λ (x : LanesState). step_over s n keeps x)) ≡ Done t text → b ≡ false
    go true e = absurd (cc)
    go false e = refl

  -- a step that is done has bricks
  pub with_bricks : (t : SiteState) (text : List ℕ) → step_line s n keeps ≡ Done t text → (st : LanesState) × (s.sessions.store ≡ Some st)
  unfolding step_line
  with_bricks t text is = go (is_beyond n) s.sessions.store is where
    go : (b : Bool) (o : Option LanesState) → refused_if b (or_refused o (λ (x : LanesState). step_over s n keeps x)) ≡ Done t text → (st : LanesState) × (o ≡ Some st)
    go true o e = absurd (cc)
    go false None e = absurd (cc)
    go false (Some st) e = (st, refl)

  -- and is that of the connection that is there
  pub step_in_place : (t : SiteState) (text : List ℕ) (seat : Seat) (st : LanesState) → seat_at s.seats.seats n ≡ Some seat → s.sessions.store ≡ Some st → step_line s n keeps ≡ Done t text → InPlace s n keeps seat st ≡ Done t text
  unfolding step_line place_step
  step_in_place t text seat st there bricks is = go (is_beyond n) is where
    inner : or_refused s.sessions.store (λ (x : LanesState). step_over s n keeps x) ≡ InPlace s n keeps seat st
    inner =
        ap (λ (o : Option LanesState). or_refused o (λ (x : LanesState). step_over s n keeps x)) bricks
        ∙ ap (λ (o : Option Seat). within (with_place s n) (or_refused o (λ (x : Seat). steps_at (turn x.connection) (givens_of s n keeps) n x (world_of s st) s.seats.manager))) there

    go : (b : Bool) → refused_if b (or_refused s.sessions.store (λ (x : LanesState). step_over s n keeps x)) ≡ Done t text → InPlace s n keeps seat st ≡ Done t text
    go true e = absurd (cc)
    go false e = sym inner ∙ e

  -- what a step is in a place that leaves this and writes this
  placed : (p : Place) (text : List ℕ) (a : Answer Place) (t : SiteState) (out : List ℕ) → a ≡ Done p text → within (with_place s n) a ≡ Done t out → (t ≡ with_place s n p) × (out ≡ text)
  placed p text a t out at is =
      let same : Done (with_place s n p) text ≡ Done t out = sym (ap (within (with_place s n)) at) ∙ is in
      let site : t ≡ with_place s n p = cc in
      let texts : out ≡ text = cc in (site, texts)

  pub left_by_seat : (t : SiteState) (text : List ℕ) (seat : Seat) (st : LanesState) → seat_at s.seats.seats n ≡ Some seat → s.sessions.store ≡ Some st → moves (turn seat.connection) ≡ true → step_line s n keeps ≡ Done t text
      → IsLeftBySeat s n (turn seat.connection) (seat_step (givens_of s n keeps) seat (world_of s st)) t text
  left_by_seat t text seat st there bricks moving is =
      let g : SeatGivens = givens_of s n keeps in
      let o : SeatOutcome = seat_step g seat (world_of s st) in
      let p : Place = record { seat = Some o.seat; world = o.world; manager = manager_after s.seats.manager o.report } in
      let out : List ℕ = step_text (turn seat.connection) n o.bytes ++ decided_text s.seats.manager o.report in
      let at : (t ≡ with_place s n p) × (text ≡ out) =
      placed p out (steps_at (turn seat.connection) g n seat (world_of s st) s.seats.manager) t text
      (moved_at (turn seat.connection) g n seat (world_of s st) s.seats.manager moving) (step_in_place t text seat st there bricks is) in
      record {
        seat = ap (λ (x : SiteState). seat_at x.seats.seats n) at.0 ∙ get_or-set_same s.seats.seats n (Some o.seat) None (within_places s.seats.seats n seat there);
        boot = ap (λ (x : SiteState). x.boot) at.0;
        since = ap (λ (x : SiteState). x.since) at.0;
        sessions = ap (λ (x : SiteState). x.sessions) at.0;
        word = ap (λ (x : SiteState). x.seats.word) at.0;
        manager = ap (λ (x : SiteState). x.seats.manager) at.0;
        text_is = at.1;
      }

  -- the site in which a connection is put back as it was
  as_it_was : (seat : Seat) (st : LanesState) → seat_at s.seats.seats n ≡ Some seat → s.sessions.store ≡ Some st → with_place s n (let p : Place = record { seat = Some seat; world = world_of s st; manager = s.seats.manager } in p) ≡ s
  as_it_was seat st there bricks =
      ap (λ (o : Option LanesState). record s { sessions = put_back (lent_out s.sessions) o s.sessions.serial; seats = record (s.seats) { seats = slice_set s.seats.seats n (Some seat) } }) (sym bricks)
      ∙ (ap (λ (o : Option Seat). with_seats s (slice_set s.seats.seats n o)) (sym there)
      ∙ ap (with_seats s) (set-get_or s.seats.seats n None))

  pub waits_still : (t : SiteState) (text : List ℕ) (seat : Seat) → seat_at s.seats.seats n ≡ Some seat → turn seat.connection ≡ turns.Bytes → step_line s n keeps ≡ Done t text → (t ≡ s) × (text ≡ [])
  waits_still t text seat there waiting is = by (with_bricks t text is) where
    by : ((st : LanesState) × (s.sessions.store ≡ Some st)) → (t ≡ s) × (text ≡ [])
    by (st, bricks) =
        let p : Place = record { seat = Some seat; world = world_of s st; manager = s.seats.manager } in
        let at : (t ≡ with_place s n p) × (text ≡ []) =
        placed p [] (steps_at (turn seat.connection) (givens_of s n keeps) n seat (world_of s st) s.seats.manager) t text
        (ap (λ (u : ShepherdTurn). steps_at u (givens_of s n keeps) n seat (world_of s st) s.seats.manager) waiting) (step_in_place t text seat st there bricks is) in
        (at.0 ∙ as_it_was seat st there bricks, at.1)

  pub goes_ended : (t : SiteState) (text : List ℕ) (seat : Seat) (end : EndKind) → seat_at s.seats.seats n ≡ Some seat → turn seat.connection ≡ turns.Ended end → step_line s n keeps ≡ Done t text → (t ≡ with_seat s n None) × (text ≡ gone_text n end)
  goes_ended t text seat end there over_is is = by (with_bricks t text is) where
    by : ((st : LanesState) × (s.sessions.store ≡ Some st)) → (t ≡ with_seat s n None) × (text ≡ gone_text n end)
    by (st, bricks) =
        let p : Place = record { seat = None; world = world_of s st; manager = s.seats.manager } in
        let at : (t ≡ with_place s n p) × (text ≡ gone_text n end) =
        placed p (gone_text n end) (steps_at (turn seat.connection) (givens_of s n keeps) n seat (world_of s st) s.seats.manager) t text
        (ap (λ (u : ShepherdTurn). steps_at u (givens_of s n keeps) n seat (world_of s st) s.seats.manager) over_is) (step_in_place t text seat st there bricks is) in
        (at.0 ∙ ap (λ (o : Option LanesState). record s { sessions = put_back (lent_out s.sessions) o s.sessions.serial; seats = record (s.seats) { seats = slice_set s.seats.seats n None } }) (sym bricks), at.1)

  either : (b : Bool) → refused_if b (let x : Answer SiteState = Refused in x) ≡ Refused
  either true = refl
  either false = refl

  pub none_steps : seat_at s.seats.seats n ≡ None → step_line s n keeps ≡ Refused
  unfolding step_line place_step
  none_steps none = ap (refused_if (is_beyond n)) (go s.sessions.store) ∙ either (is_beyond n) where
    go : (o : Option LanesState) → or_refused o (λ (x : LanesState). step_over s n keeps x) ≡ Refused
    go None = refl
    go (Some st) = ap (λ (o : Option Seat). within (with_place s n) (or_refused o (λ (x : Seat). steps_at (turn x.connection) (givens_of s n keeps) n x (world_of s st) s.seats.manager))) none

  pub bare_steps : s.sessions.store ≡ None → step_line s n keeps ≡ Refused
  unfolding step_line
  bare_steps bare = ap (λ (o : Option LanesState). refused_if (is_beyond n) (or_refused o (λ (x : LanesState). step_over s n keeps x))) bare ∙ either (is_beyond n)

  pub beyond_steps : MAX_SEAT < n → step_line s n keeps ≡ Refused
  unfolding step_line
  beyond_steps beyond =
      let is : is_beyond n ≡ true = grind (arith, nat_tests, beyond) in
      ap (λ (b : Bool). refused_if b (or_refused s.sessions.store (λ (x : LanesState). step_over s n keeps x))) is

-- at which turns no step is made
pub stays_at : (t : ShepherdTurn) → moves t ≡ false → (t ≡ turns.Bytes) ⊎ ((end : EndKind) × (t ≡ turns.Ended end))
stays_at turns.Bytes is = inl refl
stays_at turns.Request is = absurd (cc)
stays_at turns.Outside is = absurd (cc)
stays_at turns.Windows is = absurd (cc)
stays_at turns.Inside is = absurd (cc)
stays_at turns.Program is = absurd (cc)
stays_at turns.Own is = absurd (cc)
stays_at turns.Output is = absurd (cc)
stays_at turns.Item is = absurd (cc)
stays_at (turns.Ended end) is = inr (end, refl)

-- at which nothing is written
pub silent_at : (t : ShepherdTurn) (n : ℕ) (bytes : List ℕ) → t ≢ turns.Output → step_text t n bytes ≡ []
silent_at turns.Bytes n bytes other = refl
silent_at turns.Request n bytes other = refl
silent_at turns.Outside n bytes other = refl
silent_at turns.Windows n bytes other = refl
silent_at turns.Inside n bytes other = refl
silent_at turns.Program n bytes other = refl
silent_at turns.Own n bytes other = refl
silent_at turns.Output n bytes other = absurd (other refl)
silent_at turns.Item n bytes other = refl
silent_at (turns.Ended end) n bytes other = refl
