-- The step of a connection in its place is that of the site.
use Rattle.std.proofs.Common.{◌≡◌, ◌⊎◌, ◌∙◌, inl, inr, refl, sym, ap, subst, ℕ, ◌≤◌, Bool, true, false, List, [], ◌∷◌, Option, Some, None, arith}
use Rattle.std.proofs.lemmas.List.{set-get_or}
use Rattle.std.proofs.lemmas.Bool.Decides.{nat_tests}
use Rattle.container_core.specs.Container.{ContainerValue}
use Rattle.scenario_text.specs.Answer.{Answer, Refused, Done, KeepsRefused, answer_of, or_refused, refused_if, within}
use Rattle.scenario_text.specs.declared.answer.LineAnswer.{LineAnswer}
use Rattle.scenario_text.specs.declared.answer.LineAnswer.TheVariants as answers
use Rattle.scenario_text.specs.declared.seat_line.TheConstants.{MAX_SEAT}
use Rattle.recovery_manager.specs.Kept.{ManagerValue}
use Rattle.seat_steps.specs.Replies.{SeatHears}
use Rattle.seat_steps.specs.Seats.{SeatGivens, SeatWorld}
use Rattle.seat_steps.specs.declared.seat.Seat.{Seat}
use Rattle.session_lanes.specs.Lanes.{LanesState}
use Rattle.session_steps.specs.Lent.{LentSessionsState, put_back}
use Rattle.shepherd.specs.Shepherds.{turn}
use Rattle.shepherd.specs.declared.shepherd.ShepherdTurn.{ShepherdTurn}
use Rattle.shepherd.specs.declared.shepherd.ShepherdTurn.TheVariants as turns
use Rattle.seat_lines.specs.Handing.{HasAddedNothing, AreHanded, BreaksIn, BreaksStep, Handed, HasMadeStep, HasMovedIn, IsAsPlaceLeaves, IsAsStepLeaves, handed_first, step_hands, step_in, writes_by}
use Rattle.seat_lines.specs.Lines.{Place, givens_of, is_beyond, moves, place_step, step_line, step_over, steps_at, with_place, worker_of, world_of}
use Rattle.seat_lines.specs.Making.{PlaceHearsSpelled, StepHearsSpelled, WasMade, WasStepped}
use Rattle.seat_lines.specs.Runs.{rests}
use Rattle.seat_lines.specs.Site.{SeatsState, SiteState, seat_at, site_in, with_seats}
use Rattle.seat_lines.proofs.Handing.{none_moves}

-- a number that a connection may have is not beyond
pub not_beyond : (n : ℕ) → n ≤ MAX_SEAT → is_beyond n ≡ false
not_beyond n fits = grind (arith, nat_tests, fits)

passes : {S : Type 0} (b : Bool) (answer : Answer S) → b ≡ false → refused_if b answer ≡ answer
passes true answer is = absurd (cc)
passes false answer is = refl

-- over bricks, the step of a connection whose number is not beyond is that in its place
pub step_there : (s : SiteState) (n : ℕ) (keeps : Bool) (store : LanesState) → n ≤ MAX_SEAT → s.sessions.store ≡ Some store → step_line s n keeps ≡ step_over s n keeps store
unfolding step_line
step_there s n keeps store fits there =
    passes (is_beyond n) (or_refused s.sessions.store (λ (st : LanesState). step_over s n keeps st)) (not_beyond n fits)
    ∙ ap (λ (o : Option LanesState). or_refused o (λ (st : LanesState). step_over s n keeps st)) there

module _ (s : SiteState) (n : ℕ) (keeps : Bool) where
  -- what is handed by an answer to the step of a connection
  abbrev HandsBy : Option Seat → Answer SiteState → List Handed
  HandsBy seat answer = elim answer [ Refused ↦ [] | Done t out ↦ handed_first (writes_by seat s.boot) keeps [] ]

  hands_at : (t : ShepherdTurn) (seat : Seat) (w : SeatWorld) (m : ManagerValue) → HandsBy (Some seat) (within (with_place s n) (steps_at t (givens_of s n keeps) n seat w m)) ≡ handed_first (writes_by (Some seat) s.boot) keeps []
  hands_at turns.Bytes seat w m = refl
  hands_at turns.Request seat w m = refl
  hands_at turns.Outside seat w m = refl
  hands_at turns.Windows seat w m = refl
  hands_at turns.Inside seat w m = refl
  hands_at turns.Program seat w m = refl
  hands_at turns.Own seat w m = refl
  hands_at turns.Output seat w m = refl
  hands_at turns.Item seat w m = refl
  hands_at (turns.Ended end) seat w m = refl

  hands_in : (seat : Option Seat) (w : SeatWorld) (m : ManagerValue) → HandsBy seat (within (with_place s n) (place_step (givens_of s n keeps) n seat w m)) ≡ handed_first (writes_by seat s.boot) keeps []
  unfolding place_step
  hands_in None w m = refl
  hands_in (Some seat) w m = hands_at (turn seat.connection) seat w m

  -- what the step of a connection hands over bricks
  pub hands_there : (store : LanesState) → n ≤ MAX_SEAT → s.sessions.store ≡ Some store → step_hands s n (keeps ∷ []) ≡ handed_first (writes_by (seat_at s.seats.seats n) s.boot) keeps []
  hands_there store fits there =
      ap (HandsBy (seat_at s.seats.seats n)) (step_there s n keeps store fits there) ∙ hands_in (seat_at s.seats.seats n) (world_of s store) s.seats.manager

-- an answer that is done
abbrev pub IsDone : Answer SiteState → Type 0
IsDone answer = (t : SiteState) × (out : List ℕ) × (answer ≡ Done t out)

abbrev is_done : Answer SiteState → Bool
is_done answer = elim answer [ Refused ↦ false | Done t out ↦ true ]

done_is : (answer : Answer SiteState) → is_done answer ≡ true → IsDone answer
done_is Refused is = absurd (cc)
done_is (Done t out) is = (t, out, refl)

done_at : (s : SiteState) (n : ℕ) (t : ShepherdTurn) (g : SeatGivens) (seat : Seat) (w : SeatWorld) (m : ManagerValue) → is_done (within (with_place s n) (steps_at t g n seat w m)) ≡ true
done_at s n turns.Bytes g seat w m = refl
done_at s n turns.Request g seat w m = refl
done_at s n turns.Outside g seat w m = refl
done_at s n turns.Windows g seat w m = refl
done_at s n turns.Inside g seat w m = refl
done_at s n turns.Program g seat w m = refl
done_at s n turns.Own g seat w m = refl
done_at s n turns.Output g seat w m = refl
done_at s n turns.Item g seat w m = refl
done_at s n (turns.Ended end) g seat w m = refl

-- over bricks, the step of a connection that is not at rest is done
pub steps_done : (s : SiteState) (n : ℕ) (keeps : Bool) (store : LanesState) → n ≤ MAX_SEAT → s.sessions.store ≡ Some store → rests (seat_at s.seats.seats n) ≡ false → IsDone (step_line s n keeps)
unfolding place_step
steps_done s n keeps store fits there going =
    done_is (step_line s n keeps) (ap is_done (step_there s n keeps store fits there) ∙ go (seat_at s.seats.seats n) going) where
      go : (o : Option Seat) → rests o ≡ false → is_done (within (with_place s n) (place_step (givens_of s n keeps) n o (world_of s store) s.seats.manager)) ≡ true
      go None e = absurd (cc)
      go (Some seat) e = done_at s n (turn seat.connection) (givens_of s n keeps) seat (world_of s store) s.seats.manager

-- an answer in a place is that of the whole
within_answer : {A S : Type 0} (a : LineAnswer) (whole : A → S) (part : A) → answer_of a (whole part) ≡ within whole (answer_of a part)
within_answer answers.Refused whole part = refl
within_answer answers.Done whole part = refl
within_answer (answers.Wrote text) whole part = refl

-- what a connection hears in its place, over bricks, is what it hears over these
place_hears : (place : Option Seat) (lanes st : LanesState) (seat : Seat) → PlaceHearsSpelled place lanes → Some lanes ≡ Some st → place ≡ Some seat → SeatHears seat st
place_hears place lanes st seat heard store there = let same : lanes ≡ st = cc in subst (λ (x : LanesState). SeatHears seat x) same (heard seat there)

-- and a step that was made over bricks was made over these
made_over : (s : SiteState) (n : ℕ) (keeps : Bool) (lanes st : LanesState) (seat : Seat) → Some lanes ≡ Some st → WasStepped (givens_of s n keeps) seat (world_of s lanes) → WasStepped (givens_of s n keeps) seat (world_of s st)
made_over s n keeps lanes st seat store made = let same : lanes ≡ st = cc in subst (λ (x : LanesState). WasStepped (givens_of s n keeps) seat (world_of s x)) same made

module _ (n : ℕ) (old : ContainerValue) (lent : LentSessionsState) (lanes : LanesState) (serial : ℕ) (seats : SeatsState) (new : ContainerValue) (fits : n ≤ MAX_SEAT) where
  abbrev s : SiteState
  s = site_in old (put_back lent (Some lanes) serial) seats

  step_hears : (keeps : Bool) → PlaceHearsSpelled (seat_at seats.seats n) lanes → StepHearsSpelled (step_in old (put_back lent (Some lanes) serial) seats n keeps)
  step_hears keeps heard st seat near store there = place_hears (seat_at seats.seats n) lanes st seat heard store there

  step_was_made : (keeps : Bool) → ((there : Seat) → seat_at seats.seats n ≡ Some there → moves (turn there.connection) ≡ true → WasStepped (givens_of s n keeps) there (world_of s lanes))
      → WasMade (step_in old (put_back lent (Some lanes) serial) seats n keeps)
  step_was_made keeps made st seat store there moving = made_over s n keeps lanes st seat store (made seat there moving)

  -- a connection that came to this in its place made a step of the site
  pub made_there : (a : LineAnswer) (place : Place) → HasMovedIn lent.key lent.moment n (seat_at seats.seats n) old (world_of s lanes) seats.manager (answer_of a place) new → HasMadeStep n old (put_back lent (Some lanes) serial) seats (answer_of a (with_place s n place)) new
  made_there a place moved = record {
    keeps = moved.keeps;
    answers = within_answer a (with_place s n) place ∙ (ap (within (with_place s n)) moved.answers ∙ sym (step_there s n moved.keeps lanes fits refl));
    handed = subst (λ (handed : List Handed). AreHanded handed old new) (sym (hands_there s n moved.keeps lanes fits refl)) moved.handed;
    heard = step_hears moved.keeps moved.heard;
    made = step_was_made moved.keeps moved.made;
  }

  -- so it is where memory ran out
  pub breaks_there : BreaksIn lent.key lent.moment n (seat_at seats.seats n) old (world_of s lanes) seats.manager new → BreaksStep n old (put_back lent (Some lanes) serial) seats new
  breaks_there broke = record {
    keeps = broke.keeps;
    handed = record {
      made = broke.handed.made;
      more = broke.handed.more;
      begins = hands_there s n broke.keeps lanes fits refl ∙ broke.handed.begins;
      between = broke.handed.between;
      tells = broke.handed.tells;
      last = broke.handed.last;
      counted = broke.handed.counted;
    };
    added = added broke.added;
  } where
    answer : Answer Place
    answer = place_step (record { key = lent.key; worker = worker_of n; now = lent.moment; keeps = broke.keeps }) n (seat_at seats.seats n) (world_of s lanes) seats.manager

    added : (HasAddedNothing broke.handed.made old new ⊎ ((broke.handed.more ≡ []) × (new.told ≡ broke.handed.between) × IsAsPlaceLeaves answer new × PlaceHearsSpelled (seat_at seats.seats n) lanes))
        → (HasAddedNothing broke.handed.made old new ⊎ ((broke.handed.more ≡ []) × (new.told ≡ broke.handed.between) × IsAsStepLeaves (step_line s n broke.keeps) new × StepHearsSpelled (step_in old (put_back lent (Some lanes) serial) seats n broke.keeps)))
    added (inl none) = inl none
    added (inr (all, told, (place, text, is, boot, since), heard)) =
        inr (all, told, (with_place s n place, text, step_there s n broke.keeps lanes fits refl ∙ ap (within (with_place s n)) is, boot, since), step_hears broke.keeps heard)

  -- a connection that is not there makes no step
  pub none_there : (at : new ≡ old) → seat_at seats.seats n ≡ None → HasMadeStep n old (put_back lent (Some lanes) serial) seats Refused new
  none_there at none =
      let place : Place = record { seat = None; world = world_of s lanes; manager = seats.manager } in
      made_there answers.Refused place
      (subst (λ (c : ContainerValue). HasMovedIn lent.key lent.moment n (seat_at seats.seats n) old (world_of s lanes) seats.manager Refused c) (sym at)
      (subst (λ (p : Option Seat). HasMovedIn lent.key lent.moment n p old (world_of s lanes) seats.manager Refused old) (sym none) (none_moves lent.key lent.moment n old (world_of s lanes) seats.manager)))

  -- what is refused in its place leaves the site as it was
  pub kept_there : (a : LineAnswer) (place : Place) → KeepsRefused a (let p : Place = record { seat = seat_at seats.seats n; world = world_of s lanes; manager = seats.manager } in p) place → KeepsRefused a s (with_place s n place)
  kept_there answers.Refused place is = ap (with_place s n) is ∙ ap (with_seats s) (set-get_or seats.seats n None)
  kept_there answers.Done place is = tt
  kept_there (answers.Wrote text) place is = tt
