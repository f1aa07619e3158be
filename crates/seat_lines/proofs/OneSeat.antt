-- What a line about one connection leaves as it was.
use Rattle.std.proofs.Common.{◌≡◌, ◌≢◌, inl, inr, ℕ, ◌+◌, ◌-◌, ◌<◌, zero, suc, Bool, true, false, List, [], ◌∷◌, ◌++◌, length, Option, Some, None, IfSome, is_some, length-append, refl, ap, ◌∙◌, arith}
use Rattle.std.proofs.lemmas.Bool.{cases_lt}
use Rattle.std.proofs.lemmas.List.{get_or-replicate, get_or-set_other, get_or-set_same, get_or_past}
use Rattle.std.proofs.Math.ListN.{length-replicate}
use Rattle.std.specs.Prelude.{replicate}
use Rattle.scenario_text.specs.Answer.{Answer, Refused, Done, or_refused, refused_if, within}
use Rattle.scenario_text.specs.declared.seat_line.SeatLine.{SeatLine}
use Rattle.scenario_text.specs.declared.seat_line.SeatLine.TheVariants as lines
use Rattle.seat_steps.specs.declared.seat.Seat.{Seat}
use Rattle.session_lanes.specs.Lanes.{LanesState}
use Rattle.shepherd.specs.Shepherds.{turn}
use Rattle.shepherd.specs.declared.shepherd.ShepherdTurn.{ShepherdTurn}
use Rattle.shepherd.specs.declared.shepherd.ShepherdTurn.TheVariants as turns
use Rattle.seat_lines.specs.Changing.{ChangesSeatsAlone, SeatBecomes, makes_steps, number_in}
use Rattle.seat_lines.specs.Lines.{Place, bytes_line, bytes_step, conn_line, end_line, end_step, ended, fed, givens_of, is_beyond, new_seat, open_line, place_step, step_line, step_over, with_place, world_of}
use Rattle.seat_lines.specs.Runs.{rests, run_line, seat_line, step_by, waits_for_bytes}
use Rattle.seat_lines.specs.Site.{SiteState, padded, seat_at, with_seat, with_seats}
use Rattle.seat_lines.proofs.Answering.{Comes, comes_all, comes_if, comes_or, comes_to, comes_within, run_begun, run_keeps, run_rests}
use Rattle.seat_lines.proofs.SeatSteps.{within_places}

-- places that are made hold nobody
none_made : (k m : ℕ) → seat_at (replicate k None) m ≡ None
none_made k m = elim (cases_lt m k) [
  | inl within ↦ get_or-replicate k m None None within
  | inr past ↦ get_or_past (replicate k None) m None (omega (arith, length-replicate k (let none : Option Seat = None in none), past))
]

padded_at : (seats : List (Option Seat)) (k m : ℕ) → seat_at (seats ++ replicate k None) m ≡ seat_at seats m
padded_at [] k m = none_made k m
padded_at (x ∷ seats) k zero = refl
padded_at (x ∷ seats) k (suc m) = padded_at seats k m

-- each number up to this one has a place
pub padded_length : (seats : List (Option Seat)) (n : ℕ) → n < length (padded seats n)
padded_length seats n = omega (arith, length-append seats (replicate (n + 1 - length seats) (let none : Option Seat = None in none)), length-replicate (n + 1 - length seats) (let none : Option Seat = None in none))

module _ (s : SiteState) (n m : ℕ) (other : m ≢ n) where
  -- the connection of another number is as it was
  abbrev Stays : SiteState → Type 0
  Stays t = seat_at t.seats.seats m ≡ seat_at s.seats.seats m

  set_stays : (t : SiteState) (seat : Option Seat) → Stays t → Stays (with_seat t n seat)
  set_stays t seat stays = get_or-set_other t.seats.seats n m seat None other ∙ stays

  conn_stays : Comes (λ t text. Stays t) (conn_line s n)
  unfolding open_line
  conn_stays =
      comes_if (λ t text. Stays t) (is_beyond n) (open_line s n) (λ near.
      comes_if (λ t text. Stays t) (is_some (seat_at s.seats.seats n)) (Done (with_seat (with_seats s (padded s.seats.seats n)) n (Some new_seat)) []) (λ none.
      set_stays (with_seats s (padded s.seats.seats n)) (Some new_seat) (padded_at s.seats.seats (n + 1 - length s.seats.seats) m)))

  bytes_stays : (bytes : List ℕ) → Comes (λ t text. Stays t) (bytes_line s n bytes)
  unfolding bytes_line
  bytes_stays bytes = comes_within (λ t text. Stays t) (with_seat s n) (bytes_step bytes (seat_at s.seats.seats n)) (comes_all (λ x text. Stays (with_seat s n x)) (bytes_step bytes (seat_at s.seats.seats n)) (λ x text. set_stays s x refl))

  end_stays : Comes (λ t text. Stays t) (end_line s n)
  unfolding end_line
  end_stays = comes_within (λ t text. Stays t) (with_seat s n) (end_step (seat_at s.seats.seats n)) (comes_all (λ x text. Stays (with_seat s n x)) (end_step (seat_at s.seats.seats n)) (λ x text. set_stays s x refl))

  step_stays : (t : SiteState) (keeps : Bool) → Stays t → Comes (λ u text. Stays u) (step_line t n keeps)
  unfolding step_line
  step_stays t keeps stays =
      comes_if (λ u text. Stays u) (is_beyond n) (or_refused t.sessions.store (λ (st : LanesState). step_over t n keeps st)) (λ near.
      comes_or (λ u text. Stays u) t.sessions.store (λ (st : LanesState). step_over t n keeps st) (λ st is.
      comes_within (λ u text. Stays u) (with_place t n) (place_step (givens_of t n keeps) n (seat_at t.seats.seats n) (world_of t st) t.seats.manager)
      (comes_all (λ (p : Place) text. Stays (with_place t n p)) (place_step (givens_of t n keeps) n (seat_at t.seats.seats n) (world_of t st) t.seats.manager) (λ p text. get_or-set_other t.seats.seats n m p.seat None other ∙ stays))))

  run_stays : (t : SiteState) (replies : List Bool) (text : List ℕ) → run_line s n replies ≡ Some (Done t text) → Stays t
  run_stays t replies text is = run_keeps Stays n step_stays s [] replies t text refl (run_begun s t n replies text is)

-- an answer of a line
pub answer_is : (a : Answer SiteState) (t : SiteState) (text : List ℕ) → Some a ≡ Some (Done t text) → a ≡ Done t text
answer_is a t text is = cc

-- the answer of a step by its replies
stepped_by : (s t : SiteState) (n : ℕ) (replies : List Bool) (text : List ℕ) → step_by s n replies ≡ Some (Done t text) → (keeps : Bool) × (step_line s n keeps ≡ Done t text)
stepped_by s t n [] text is = absurd (cc)
stepped_by s t n (keeps ∷ more) text is = (keeps, answer_is (step_line s n keeps) t text is)

pub others_stay : (s t : SiteState) (line : SeatLine) (replies : List Bool) (text : List ℕ) (m : ℕ) → seat_line s line replies ≡ Some (Done t text) → m ≢ number_in line → seat_at t.seats.seats m ≡ seat_at s.seats.seats m
others_stay s t (lines.Conn n) replies text m is other = comes_to (λ x o. seat_at x.seats.seats m ≡ seat_at s.seats.seats m) (conn_line s n) t text (conn_stays s n m other) (answer_is (conn_line s n) t text is)
others_stay s t (lines.Bytes n bytes) replies text m is other = comes_to (λ x o. seat_at x.seats.seats m ≡ seat_at s.seats.seats m) (bytes_line s n bytes) t text (bytes_stays s n m other bytes) (answer_is (bytes_line s n bytes) t text is)
others_stay s t (lines.End n) replies text m is other = comes_to (λ x o. seat_at x.seats.seats m ≡ seat_at s.seats.seats m) (end_line s n) t text (end_stays s n m other) (answer_is (end_line s n) t text is)
others_stay s t (lines.Step n) replies text m is other =
    let stepped = stepped_by s t n replies text is in
    comes_to (λ x o. seat_at x.seats.seats m ≡ seat_at s.seats.seats m) (step_line s n stepped.0) t text (step_stays s n m other s stepped.0 refl) stepped.1
others_stay s t (lines.Run n) replies text m is other = run_stays s n m other t replies text is

-- a line that makes no step

conn_alone : (s : SiteState) (n : ℕ) → Comes (ChangesSeatsAlone s) (conn_line s n)
unfolding open_line
conn_alone s n =
    comes_if (ChangesSeatsAlone s) (is_beyond n) (open_line s n) (λ near.
    comes_if (ChangesSeatsAlone s) (is_some (seat_at s.seats.seats n)) (Done (with_seat (with_seats s (padded s.seats.seats n)) n (Some new_seat)) []) (λ none.
    record { boot = refl; since = refl; sessions = refl; word = refl; manager = refl; silent = refl }))

-- a connection to which something came, and which wrote nothing
record Came (seat : Option Seat) (become : Seat → Seat) (new : Option Seat) (text : List ℕ) : Type 0 where
  pub was : Seat
  pub was_is : seat ≡ Some was
  pub not_ended : was.connection.ended ≡ false
  pub new_is : new ≡ Some (become was)
  pub silent : text ≡ []

bytes_came : (bytes : List ℕ) (seat : Option Seat) → Comes (Came seat (λ x. fed x bytes)) (bytes_step bytes seat)
bytes_came bytes None = tt
bytes_came bytes (Some seat) =
    comes_if (Came (Some seat) (λ x. fed x bytes)) seat.connection.ended (Done (Some (fed seat bytes)) []) (λ goes. record { was = seat; was_is = refl; not_ended = goes; new_is = refl; silent = refl })

end_came : (seat : Option Seat) → Comes (Came seat ended) (end_step seat)
end_came None = tt
end_came (Some seat) =
    comes_if (Came (Some seat) ended) seat.connection.ended (Done (Some (ended seat)) []) (λ goes. record { was = seat; was_is = refl; not_ended = goes; new_is = refl; silent = refl })

-- what came to one connection is a change of connections alone
came_alone : (s : SiteState) (n : ℕ) (become : Seat → Seat) (a : Answer (Option Seat)) → Comes (Came (seat_at s.seats.seats n) become) a → Comes (ChangesSeatsAlone s) (within (with_seat s n) a)
came_alone s n become Refused came = tt
came_alone s n become (Done new text) came = record { boot = refl; since = refl; sessions = refl; word = refl; manager = refl; silent = came.silent }

came_becomes : (s : SiteState) (n : ℕ) (become : Seat → Seat) (a : Answer (Option Seat)) → Comes (Came (seat_at s.seats.seats n) become) a → Comes (λ t text. SeatBecomes n s become t) (within (with_seat s n) a)
came_becomes s n become Refused came = tt
came_becomes s n become (Done new text) came = record {
  seat = came.was;
  was = came.was_is;
  not_ended = came.not_ended;
  becomes = get_or-set_same s.seats.seats n new None (within_places s.seats.seats n came.was came.was_is) ∙ came.new_is;
}

pub still_alone : (s t : SiteState) (line : SeatLine) (replies : List Bool) (text : List ℕ) → seat_line s line replies ≡ Some (Done t text) → makes_steps line ≡ false → ChangesSeatsAlone s t text
unfolding bytes_line end_line
still_alone s t (lines.Conn n) replies text is still = comes_to (ChangesSeatsAlone s) (conn_line s n) t text (conn_alone s n) (answer_is (conn_line s n) t text is)
still_alone s t (lines.Bytes n bytes) replies text is still =
    comes_to (ChangesSeatsAlone s) (bytes_line s n bytes) t text (came_alone s n (λ x. fed x bytes) (bytes_step bytes (seat_at s.seats.seats n)) (bytes_came bytes (seat_at s.seats.seats n))) (answer_is (bytes_line s n bytes) t text is)
still_alone s t (lines.End n) replies text is still =
    comes_to (ChangesSeatsAlone s) (end_line s n) t text (came_alone s n ended (end_step (seat_at s.seats.seats n)) (end_came (seat_at s.seats.seats n))) (answer_is (end_line s n) t text is)
still_alone s t (lines.Step n) replies text is still = absurd (cc)
still_alone s t (lines.Run n) replies text is still = absurd (cc)

pub bytes_fed : (s t : SiteState) (n : ℕ) (bytes : List ℕ) (replies : List Bool) (text : List ℕ) → seat_line s (lines.Bytes n bytes) replies ≡ Some (Done t text) → SeatBecomes n s (λ x. fed x bytes) t
unfolding bytes_line
bytes_fed s t n bytes replies text is =
    comes_to (λ x o. SeatBecomes n s (λ seat. fed seat bytes) x) (bytes_line s n bytes) t text (came_becomes s n (λ x. fed x bytes) (bytes_step bytes (seat_at s.seats.seats n)) (bytes_came bytes (seat_at s.seats.seats n))) (answer_is (bytes_line s n bytes) t text is)

pub input_ended : (s t : SiteState) (n : ℕ) (replies : List Bool) (text : List ℕ) → seat_line s (lines.End n) replies ≡ Some (Done t text) → SeatBecomes n s ended t
unfolding end_line
input_ended s t n replies text is =
    comes_to (λ x o. SeatBecomes n s ended x) (end_line s n) t text (came_becomes s n ended (end_step (seat_at s.seats.seats n)) (end_came (seat_at s.seats.seats n))) (answer_is (end_line s n) t text is)

-- one that opens

both_refused : (b : Bool) → refused_if b (let x : Answer SiteState = Refused in x) ≡ Refused
both_refused true = refl
both_refused false = refl

pub there_refused : (s : SiteState) (n : ℕ) (replies : List Bool) (seat : Seat) → seat_at s.seats.seats n ≡ Some seat → seat_line s (lines.Conn n) replies ≡ Some Refused
unfolding open_line
there_refused s n replies seat there =
    ap (λ (x : Answer SiteState). Some (refused_if (is_beyond n) x)) (ap (λ (o : Option Seat). refused_if (is_some o) (Done (with_seat (with_seats s (padded s.seats.seats n)) n (Some new_seat)) [])) there)
    ∙ ap (λ (x : Answer SiteState). Some x) (both_refused (is_beyond n))

pub opens_fresh : (s t : SiteState) (n : ℕ) (replies : List Bool) (text : List ℕ) → seat_line s (lines.Conn n) replies ≡ Some (Done t text) → seat_at t.seats.seats n ≡ Some new_seat
unfolding open_line
opens_fresh s t n replies text is =
    comes_to (λ x o. seat_at x.seats.seats n ≡ Some new_seat) (conn_line s n) t text
    (comes_if (λ x o. seat_at x.seats.seats n ≡ Some new_seat) (is_beyond n) (open_line s n) (λ near.
    comes_if (λ x o. seat_at x.seats.seats n ≡ Some new_seat) (is_some (seat_at s.seats.seats n)) (Done (with_seat (with_seats s (padded s.seats.seats n)) n (Some new_seat)) []) (λ none.
    get_or-set_same (padded s.seats.seats n) n (Some new_seat) None (padded_length s.seats.seats n)))) (answer_is (conn_line s n) t text is)

-- one that ran

waits_at : (t : ShepherdTurn) → waits_for_bytes t ≡ true → t ≡ turns.Bytes
waits_at turns.Bytes is = refl
waits_at turns.Request is = absurd (cc)
waits_at turns.Outside is = absurd (cc)
waits_at turns.Windows is = absurd (cc)
waits_at turns.Inside is = absurd (cc)
waits_at turns.Program is = absurd (cc)
waits_at turns.Own is = absurd (cc)
waits_at turns.Output is = absurd (cc)
waits_at turns.Item is = absurd (cc)
waits_at (turns.Ended end) is = absurd (cc)

rests_at : (o : Option Seat) → rests o ≡ true → IfSome o (λ (seat : Seat). turn seat.connection ≡ turns.Bytes)
rests_at None is = tt
rests_at (Some seat) is = waits_at (turn seat.connection) is

pub run_at_rest : (s t : SiteState) (n : ℕ) (replies : List Bool) (text : List ℕ) → seat_line s (lines.Run n) replies ≡ Some (Done t text) → IfSome (seat_at t.seats.seats n) (λ (seat : Seat). turn seat.connection ≡ turns.Bytes)
run_at_rest s t n replies text is = rests_at (seat_at t.seats.seats n) (run_rests s [] n replies t text (run_begun s t n replies text is))
