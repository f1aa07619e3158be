-- A run comes to rest.
use Rattle.std.specs.Prelude.{IfSome, slice_set}
use Rattle.std.proofs.Common.{arith, ◌≡◌, ◌≢◌, ◌⊎◌, ◌∙◌, ◌<◌, ◌≤◌, ◌+◌, ◌&&◌, not, inl, inr, ℕ, Bool, true, false, cond, List, [], ◌∷◌, ◌++◌, length, Option, Some, None, is_some, refl, sym, ap, subst}
use Rattle.std.proofs.lemmas.Bool.{and_parts, cases_lt}
use Rattle.std.proofs.lemmas.Bool.Decides.{nat_tests}
use Rattle.std.proofs.lemmas.List.{get_or-set_same}
use Rattle.auction_calls.specs.declared.action.ActionCall.{ActionCall}
use Rattle.auction_rows.specs.Parts.{site_parts}
use Rattle.boot_core.specs.Boot.{BootValue}
use Rattle.scenario_text.specs.Answer.{Answer, Refused, Done}
use Rattle.scenario_text.specs.declared.seat_line.SeatLine.{SeatLine}
use Rattle.scenario_text.specs.declared.seat_line.SeatLine.TheVariants as lines
use Rattle.scenario_text.specs.declared.seat_line.TheConstants.{MAX_SEAT}
use Rattle.seat_laws.specs.StepsLeft.{IsCounted, seat_left, stage_left}
use Rattle.seat_lines.proofs.SeatSteps.{within_places}
use Rattle.seat_lines.specs.Changing.{ChangesSeatsAlone, IsLeftBySeat, SeatBecomes, makes_steps, number_in}
use Rattle.seat_lines.specs.Lines.{ended, fed, givens_of, is_beyond, moves, new_seat, step_line, world_of}
use Rattle.seat_lines.specs.Runs.{can_run, rests, run_from, run_line, seat_line, steps_from, waits_for_bytes}
use Rattle.seat_lines.specs.Site.{SiteState, seat_at, with_seat}
use Rattle.seat_lines.specs.Texts.{gone_text}
use Rattle.seat_steps.specs.Seats.{SeatGivens, SeatOutcome, SeatWorld, seat_step}
use Rattle.seat_steps.specs.declared.seat.Seat.{Seat}
use Rattle.send_windows.specs.declared.fact.TheConstants.{MAX_BRICKS}
use Rattle.session_lanes.specs.Lanes.{LanesState}
use Rattle.session_steps.specs.Sessions.{SessionsState}
use Rattle.shepherd.specs.Shepherds.{turn}
use Rattle.shepherd.specs.declared.shepherd.EndKind.{EndKind}
use Rattle.shepherd.specs.declared.shepherd.ShepherdTurn.{ShepherdTurn}
use Rattle.shepherd.specs.declared.shepherd.ShepherdTurn.TheVariants as turns
use Rattle.shepherd.specs.declared.shepherd.Stage.{Stage}
use Rattle.shepherd.specs.declared.shepherd.Stage.TheVariants.{Resting, Serving, Refusing, Over}
use Rattle.scenario_engine.specs.RunsLeft.{RunIsCounted, left_at, run_left}

-- the laws by which the steps of a run are counted
pub record RunLaws : Type 0 where
  pub step : (g : SeatGivens) (seat : Seat) (w : SeatWorld) → IsCounted w.boot seat → IsCounted (seat_step g seat w).world.boot (seat_step g seat w).seat
  pub fewer : (g : SeatGivens) (seat : Seat) (w : SeatWorld) → IsCounted w.boot seat → w.store.windows.w ≤ MAX_BRICKS → turn seat.connection ≢ turns.Bytes
      → ((end : EndKind) → turn seat.connection ≢ turns.Ended end) → seat_left (seat_step g seat w).seat < seat_left seat
  pub windows : (g : SeatGivens) (seat : Seat) (w : SeatWorld) → (seat_step g seat w).world.store.windows.w ≡ w.store.windows.w
  pub moved : (s t : SiteState) (n : ℕ) (keeps : Bool) (text : List ℕ) (seat : Seat) (st : LanesState) → seat_at s.seats.seats n ≡ Some seat → s.sessions.store ≡ Some st → moves (turn seat.connection) ≡ true
      → step_line s n keeps ≡ Done t text → IsLeftBySeat s n (turn seat.connection) (seat_step (givens_of s n keeps) seat (world_of s st)) t text
  pub waits : (s t : SiteState) (n : ℕ) (keeps : Bool) (text : List ℕ) (seat : Seat) → seat_at s.seats.seats n ≡ Some seat → turn seat.connection ≡ turns.Bytes → step_line s n keeps ≡ Done t text → (t ≡ s) × (text ≡ [])
  pub over : (s t : SiteState) (n : ℕ) (keeps : Bool) (text : List ℕ) (seat : Seat) (end : EndKind) → seat_at s.seats.seats n ≡ Some seat → turn seat.connection ≡ turns.Ended end → step_line s n keeps ≡ Done t text
      → (t ≡ with_seat s n None) × (text ≡ gone_text n end)
  pub moving : (t : ShepherdTurn) → moves t ≡ false → (t ≡ turns.Bytes) ⊎ ((end : EndKind) × (t ≡ turns.Ended end))
  pub other : (g : SeatGivens) (seat other : Seat) (w : SeatWorld) → IsCounted w.boot seat → IsCounted w.boot other → IsCounted (seat_step g seat w).world.boot other
  pub begins : (boot : BootValue) → boot.start.deployment ≡ site_parts → IsCounted boot new_seat
  pub still : (boot : BootValue) (seat new : Seat) → new.connection.stage ≡ seat.connection.stage → IsCounted boot seat → IsCounted boot new
  pub apart : (s t : SiteState) (line : SeatLine) (replies : List Bool) (text : List ℕ) (m : ℕ) → seat_line s line replies ≡ Some (Done t text) → m ≢ number_in line → seat_at t.seats.seats m ≡ seat_at s.seats.seats m
  pub alone : (s t : SiteState) (line : SeatLine) (replies : List Bool) (text : List ℕ) → seat_line s line replies ≡ Some (Done t text) → makes_steps line ≡ false → ChangesSeatsAlone s t text
  pub opens : (s t : SiteState) (n : ℕ) (replies : List Bool) (text : List ℕ) → seat_line s (lines.Conn n) replies ≡ Some (Done t text) → seat_at t.seats.seats n ≡ Some new_seat
  pub feeds : (s t : SiteState) (n : ℕ) (bytes : List ℕ) (replies : List Bool) (text : List ℕ) → seat_line s (lines.Bytes n bytes) replies ≡ Some (Done t text) → SeatBecomes n s (λ (x : Seat). fed x bytes) t
  pub stopped : (s t : SiteState) (n : ℕ) (replies : List Bool) (text : List ℕ) → seat_line s (lines.End n) replies ≡ Some (Done t text) → SeatBecomes n s ended t
  pub none : (s : SiteState) (n : ℕ) (keeps : Bool) → seat_at s.seats.seats n ≡ None → step_line s n keeps ≡ Refused
  pub bare : (s : SiteState) (n : ℕ) (keeps : Bool) → s.sessions.store ≡ None → step_line s n keeps ≡ Refused
  pub made : (s : SiteState) (n : ℕ) (keeps : Bool) (seat : Seat) (st : LanesState) → n ≤ MAX_SEAT → seat_at s.seats.seats n ≡ Some seat → s.sessions.store ≡ Some st → step_line s n keeps ≢ Refused

-- a step is left for each connection that is there
some-left : (seat : Seat) → 0 < seat_left seat
some-left seat = by seat.connection.stage refl where
  by : (stage : Stage ActionCall) → seat.connection.stage ≡ stage → 0 < seat_left seat
  by Resting is = (let here : stage_left seat.connection.stage ≡ 3 = ap stage_left is in omega (arith, here))
  by (Serving v call) is = (let here : stage_left seat.connection.stage ≡ stage_left (Serving v call) = ap stage_left is in omega (arith, here))
  by (Refusing why bytes) is = (let here : stage_left seat.connection.stage ≡ 2 = ap stage_left is in omega (arith, here))
  by (Over end) is = (let here : stage_left seat.connection.stage ≡ 1 = ap stage_left is in omega (arith, here))

-- a connection that moves neither waits nor has ended
moves-on : (t : ShepherdTurn) → moves t ≡ true → t ≢ turns.Bytes
moves-on t moving is = (let none : moves t ≡ false = ap moves is in cc)

moves-still : (t : ShepherdTurn) → moves t ≡ true → (end : EndKind) → t ≢ turns.Ended end
moves-still t moving end is = (let none : moves t ≡ false = ap moves is in cc)

there-none : (o : Option Seat) (seat : Seat) → o ≡ None → o ≡ Some seat → ⊥
there-none o seat none some = cc

refused-not : (t : SiteState) (text : List ℕ) (a : Answer SiteState) → a ≡ Refused → a ≡ Done t text → ⊥
refused-not t text a refused done = cc

-- A step of a run that goes on leaves this.
record Leaves (s : SiteState) (n : ℕ) (t : SiteState) : Type 0 where
  counted : RunIsCounted t n
  fewer : run_left t n < run_left s n
  store : is_some t.sessions.store ≡ true

module _ (laws : RunLaws) (s : SiteState) (n : ℕ) (counted : RunIsCounted s n) where
  -- what is so of a connection that is there, and of bricks that are
  its-seat : (seat : Seat) → seat_at s.seats.seats n ≡ Some seat → IsCounted s.boot seat
  its-seat seat there = subst (λ (o : Option Seat). IfSome o (λ (x : Seat). IsCounted s.boot x)) there counted.seat

  its-bricks : (st : LanesState) → s.sessions.store ≡ Some st → st.windows.w ≤ MAX_BRICKS
  its-bricks st bricks = subst (λ (o : Option LanesState). IfSome o (λ (x : LanesState). x.windows.w ≤ MAX_BRICKS)) bricks counted.windows

  moved-leaves : (keeps : Bool) (t : SiteState) (text : List ℕ) (seat : Seat) (st : LanesState) → seat_at s.seats.seats n ≡ Some seat → s.sessions.store ≡ Some st → moves (turn seat.connection) ≡ true
      → step_line s n keeps ≡ Done t text → Leaves s n t
  moved-leaves keeps t text seat st there bricks moving is =
      let g : SeatGivens = givens_of s n keeps in
      let w : SeatWorld = world_of s st in
      let o : SeatOutcome = seat_step g seat w in
      let left : IsLeftBySeat s n (turn seat.connection) o t text = laws.moved s t n keeps text seat st there bricks moving is in
      let here : IsCounted s.boot seat = its-seat seat there in
      let few : st.windows.w ≤ MAX_BRICKS = its-bricks st bricks in
      let store : t.sessions.store ≡ Some o.world.store = ap (λ (x : SessionsState). x.store) left.sessions in
      let behind : IsCounted t.boot o.seat = subst (λ (b : BootValue). IsCounted b o.seat) (sym left.boot) (laws.step g seat w here) in
      let same : o.world.store.windows.w ≤ MAX_BRICKS = subst (λ (k : ℕ). k ≤ MAX_BRICKS) (sym (laws.windows g seat w)) few in
      let less : seat_left o.seat < seat_left seat = laws.fewer g seat w here few (moves-on (turn seat.connection) moving) (moves-still (turn seat.connection) moving) in
      record {
        counted = record {
          seat = subst (λ (x : Option Seat). IfSome x (λ (y : Seat). IsCounted t.boot y)) (sym left.seat) behind;
          windows = subst (λ (x : Option LanesState). IfSome x (λ (y : LanesState). y.windows.w ≤ MAX_BRICKS)) (sym store) same;
        };
        fewer = subst (λ (x : Option Seat). left_at x < run_left s n) (sym left.seat) (subst (λ (x : Option Seat). seat_left o.seat < left_at x) (sym there) less);
        store = ap is_some store;
      }

  gone-leaves : (keeps : Bool) (t : SiteState) (text : List ℕ) (seat : Seat) (st : LanesState) (end : EndKind) → seat_at s.seats.seats n ≡ Some seat → s.sessions.store ≡ Some st → turn seat.connection ≡ turns.Ended end
      → step_line s n keeps ≡ Done t text → Leaves s n t
  gone-leaves keeps t text seat st end there bricks over is =
      let gone : t ≡ with_seat s n None = (laws.over s t n keeps text seat end there over is).0 in
      let none : seat_at (slice_set s.seats.seats n None) n ≡ None = get_or-set_same s.seats.seats n None None (within_places s.seats.seats n seat there) in
      let at : seat_at t.seats.seats n ≡ None = ap (λ (x : SiteState). seat_at x.seats.seats n) gone ∙ none in
      let store : t.sessions.store ≡ s.sessions.store = ap (λ (x : SiteState). x.sessions.store) gone in
      record {
        counted = record {
          seat = subst (λ (x : Option Seat). IfSome x (λ (y : Seat). IsCounted t.boot y)) (sym at) tt;
          windows = subst (λ (x : Option LanesState). IfSome x (λ (y : LanesState). y.windows.w ≤ MAX_BRICKS)) (sym store) counted.windows;
        };
        fewer = subst (λ (x : Option Seat). left_at x < run_left s n) (sym at) (subst (λ (x : Option Seat). 0 < left_at x) (sym there) (some-left seat));
        store = ap is_some (store ∙ bricks);
      }

  -- a step that a run makes leaves fewer
  step-leaves : (keeps : Bool) (t : SiteState) (text : List ℕ) (seat : Seat) (st : LanesState) → seat_at s.seats.seats n ≡ Some seat → s.sessions.store ≡ Some st → turn seat.connection ≢ turns.Bytes
      → step_line s n keeps ≡ Done t text → Leaves s n t
  step-leaves keeps t text seat st there bricks some is = by (moves (turn seat.connection)) refl where
    still : (turn seat.connection ≡ turns.Bytes) ⊎ ((end : EndKind) × (turn seat.connection ≡ turns.Ended end)) → Leaves s n t
    still (inl waits) = absurd (some waits)
    still (inr over) = gone-leaves keeps t text seat st over.0 there bricks over.1 is

    by : (b : Bool) → moves (turn seat.connection) ≡ b → Leaves s n t
    by true moving = moved-leaves keeps t text seat st there bricks moving is
    by false moving = still (laws.moving (turn seat.connection) moving)

  -- The steps of a run are counted behind each of them.
  pub step-counted : (keeps : Bool) (t : SiteState) (text : List ℕ) → step_line s n keeps ≡ Done t text → RunIsCounted t n
  step-counted keeps t text is = by (seat_at s.seats.seats n) refl s.sessions.store refl where
    waits : (seat : Seat) (st : LanesState) → seat_at s.seats.seats n ≡ Some seat → s.sessions.store ≡ Some st → (b : Bool) → moves (turn seat.connection) ≡ b → RunIsCounted t n
    waits seat st there bricks true moving = (moved-leaves keeps t text seat st there bricks moving is).counted
    waits seat st there bricks false moving = elim (laws.moving (turn seat.connection) moving) [
      | inl waiting ↦ subst (λ (x : SiteState). RunIsCounted x n) (sym (laws.waits s t n keeps text seat there waiting is).0) counted
      | inr over ↦ (gone-leaves keeps t text seat st over.0 there bricks over.1 is).counted
    ]

    by : (o : Option Seat) → seat_at s.seats.seats n ≡ o → (b : Option LanesState) → s.sessions.store ≡ b → RunIsCounted t n
    by None none b bricks = absurd (refused-not t text (step_line s n keeps) (laws.none s n keeps none) is)
    by (Some seat) there None bare = absurd (refused-not t text (step_line s n keeps) (laws.bare s n keeps bare) is)
    by (Some seat) there (Some st) bricks = waits seat st there bricks (moves (turn seat.connection)) refl

  -- what is counted of a connection is so behind a step of another
  boot-counted : (keeps : Bool) (t : SiteState) (text : List ℕ) → step_line s n keeps ≡ Done t text → (other : Seat) → IsCounted s.boot other → IsCounted t.boot other
  boot-counted keeps t text is other its = by (seat_at s.seats.seats n) refl s.sessions.store refl where
    at : (seat : Seat) (st : LanesState) → seat_at s.seats.seats n ≡ Some seat → s.sessions.store ≡ Some st → (b : Bool) → moves (turn seat.connection) ≡ b → IsCounted t.boot other
    at seat st there bricks true moving =
        let left : IsLeftBySeat s n (turn seat.connection) (seat_step (givens_of s n keeps) seat (world_of s st)) t text = laws.moved s t n keeps text seat st there bricks moving is in
        subst (λ (b : BootValue). IsCounted b other) (sym left.boot) (laws.other (givens_of s n keeps) seat other (world_of s st) (its-seat seat there) its)
    at seat st there bricks false moving = elim (laws.moving (turn seat.connection) moving) [
      | inl waiting ↦ subst (λ (x : SiteState). IsCounted x.boot other) (sym (laws.waits s t n keeps text seat there waiting is).0) its
      | inr over ↦ subst (λ (x : SiteState). IsCounted x.boot other) (sym (laws.over s t n keeps text seat over.0 there over.1 is).0) its
    ]

    by : (o : Option Seat) → seat_at s.seats.seats n ≡ o → (b : Option LanesState) → s.sessions.store ≡ b → IsCounted t.boot other
    by None none b bricks = absurd (refused-not t text (step_line s n keeps) (laws.none s n keeps none) is)
    by (Some seat) there None bare = absurd (refused-not t text (step_line s n keeps) (laws.bare s n keeps bare) is)
    by (Some seat) there (Some st) bricks = at seat st there bricks (moves (turn seat.connection)) refl

-- connections that are there are counted in another boot
pub each-counted : (old new : BootValue) → ((seat : Seat) → IsCounted old seat → IsCounted new seat) → (o : Option Seat) → IfSome o (λ (x : Seat). IsCounted old x) → IfSome o (λ (x : Seat). IsCounted new x)
each-counted old new goes None its = tt
each-counted old new goes (Some seat) its = goes seat its

same-or-not : (m n : ℕ) → (m ≡ n) ⊎ (m ≢ n)
same-or-not m n = elim (cases_lt m n) [
  | inl less ↦ inr (λ e. omega (arith, less, e))
  | inr most ↦ (elim (cases_lt n m) [ inl more ↦ inr (λ e. omega (arith, more, e)) | inr least ↦ inl (omega (arith, most, least)) ])
]

-- The steps of every other run are counted behind a step.
pub others-counted : RunLaws → (s t : SiteState) (n m : ℕ) (keeps : Bool) (text : List ℕ) → RunIsCounted s n → RunIsCounted s m → step_line s n keeps ≡ Done t text → RunIsCounted t m
others-counted laws s t n m keeps text counted its is = elim (same-or-not m n) [
  | inl same ↦ subst (λ (k : ℕ). RunIsCounted t k) (sym same) own
  | inr apart ↦ record {
    seat = subst (λ (o : Option Seat). IfSome o (λ (x : Seat). IsCounted t.boot x)) (sym (laws.apart s t (lines.Step n) (keeps ∷ []) text m (ap (λ (a : Answer SiteState). Some a) is) apart))
        (each-counted s.boot t.boot (boot-counted laws s n counted keeps t text is) (seat_at s.seats.seats m) its.seat);
    windows = own.windows;
  }
] where
  own : RunIsCounted t n
  own = step-counted laws s n counted keeps t text is

-- The boot is of the site, and the steps of each of its connections are counted.
pub record SeatsCounted (s : SiteState) : Type 0 where
  pub of_site : s.boot.start.deployment ≡ site_parts
  pub counted : (n : ℕ) → IfSome (seat_at s.seats.seats n) (λ (x : Seat). IsCounted s.boot x)

module _ (laws : RunLaws) (s : SiteState) (its : SeatsCounted s) where
  there-counted : (n : ℕ) (seat : Seat) → seat_at s.seats.seats n ≡ Some seat → IsCounted s.boot seat
  there-counted n seat there = subst (λ (o : Option Seat). IfSome o (λ (x : Seat). IsCounted s.boot x)) there (its.counted n)

  -- so it is where one connection alone was changed
  one-changed : (t : SiteState) (n : ℕ) → ((x : Seat) → IsCounted s.boot x → IsCounted t.boot x) → IfSome (seat_at t.seats.seats n) (λ (x : Seat). IsCounted t.boot x)
      → ((m : ℕ) → m ≢ n → seat_at t.seats.seats m ≡ seat_at s.seats.seats m) → SeatsCounted t
  one-changed t n goes here apart = record {
    of_site = (goes new_seat (laws.begins s.boot its.of_site)).fits.site;
    counted = λ m. elim (same-or-not m n) [
      | inl same ↦ subst (λ (k : ℕ). IfSome (seat_at t.seats.seats k) (λ (x : Seat). IsCounted t.boot x)) (sym same) here
      | inr other ↦ subst (λ (o : Option Seat). IfSome o (λ (x : Seat). IsCounted t.boot x)) (sym (apart m other)) (each-counted s.boot t.boot goes (seat_at s.seats.seats m) (its.counted m))
    ];
  }

  -- Those of each connection are counted behind a step.
  pub seats-step : (n : ℕ) (keeps : Bool) (t : SiteState) (text : List ℕ) → step_line s n keeps ≡ Done t text → SeatsCounted t
  seats-step n keeps t text is = by (seat_at s.seats.seats n) refl s.sessions.store refl where
    apart : (m : ℕ) → m ≢ n → seat_at t.seats.seats m ≡ seat_at s.seats.seats m
    apart m other = laws.apart s t (lines.Step n) (keeps ∷ []) text m (ap (λ (a : Answer SiteState). Some a) is) other

    moved : (seat : Seat) (st : LanesState) → seat_at s.seats.seats n ≡ Some seat → IsLeftBySeat s n (turn seat.connection) (seat_step (givens_of s n keeps) seat (world_of s st)) t text → SeatsCounted t
    moved seat st there left =
        let g : SeatGivens = givens_of s n keeps in
        let w : SeatWorld = world_of s st in
        let o : SeatOutcome = seat_step g seat w in
        let here : IsCounted s.boot seat = there-counted n seat there in
        let goes : (x : Seat) → IsCounted s.boot x → IsCounted t.boot x = λ x was. subst (λ (b : BootValue). IsCounted b x) (sym left.boot) (laws.other g seat x w here was) in
        let own : IsCounted t.boot o.seat = subst (λ (b : BootValue). IsCounted b o.seat) (sym left.boot) (laws.step g seat w here) in
        one-changed t n goes (subst (λ (x : Option Seat). IfSome x (λ (y : Seat). IsCounted t.boot y)) (sym left.seat) own) apart

    gone : (seat : Seat) → seat_at s.seats.seats n ≡ Some seat → t ≡ with_seat s n None → SeatsCounted t
    gone seat there over =
        let none : seat_at (slice_set s.seats.seats n None) n ≡ None = get_or-set_same s.seats.seats n None None (within_places s.seats.seats n seat there) in
        let now : seat_at t.seats.seats n ≡ None = ap (λ (x : SiteState). seat_at x.seats.seats n) over ∙ none in
        let boot : t.boot ≡ s.boot = ap (λ (x : SiteState). x.boot) over in
        one-changed t n (λ x was. subst (λ (b : BootValue). IsCounted b x) (sym boot) was) (subst (λ (x : Option Seat). IfSome x (λ (y : Seat). IsCounted t.boot y)) (sym now) tt) apart

    at : (seat : Seat) (st : LanesState) → seat_at s.seats.seats n ≡ Some seat → s.sessions.store ≡ Some st → (b : Bool) → moves (turn seat.connection) ≡ b → SeatsCounted t
    at seat st there bricks true moving = moved seat st there (laws.moved s t n keeps text seat st there bricks moving is)
    at seat st there bricks false moving = elim (laws.moving (turn seat.connection) moving) [
      | inl waiting ↦ subst (λ (x : SiteState). SeatsCounted x) (sym (laws.waits s t n keeps text seat there waiting is).0) its
      | inr over ↦ gone seat there (laws.over s t n keeps text seat over.0 there over.1 is).0
    ]

    by : (o : Option Seat) → seat_at s.seats.seats n ≡ o → (b : Option LanesState) → s.sessions.store ≡ b → SeatsCounted t
    by None none b bricks = absurd (refused-not t text (step_line s n keeps) (laws.none s n keeps none) is)
    by (Some seat) there None bare = absurd (refused-not t text (step_line s n keeps) (laws.bare s n keeps bare) is)
    by (Some seat) there (Some st) bricks = at seat st there bricks (moves (turn seat.connection)) refl

  -- So they are behind a line that makes none.
  pub seats-still : (t : SiteState) (line : SeatLine) (replies : List Bool) (text : List ℕ) → makes_steps line ≡ false → seat_line s line replies ≡ Some (Done t text) → SeatsCounted t
  seats-still t line replies text still is = one-changed t (number_in line) goes (own line still is) (λ m other. laws.apart s t line replies text m is other) where
    alone : ChangesSeatsAlone s t text
    alone = laws.alone s t line replies text is still

    goes : (x : Seat) → IsCounted s.boot x → IsCounted t.boot x
    goes x was = subst (λ (b : BootValue). IsCounted b x) (sym alone.boot) was

    Seated : Option Seat → Type 0
    Seated o = IfSome o (λ (x : Seat). IsCounted t.boot x)

    own : (line : SeatLine) → makes_steps line ≡ false → seat_line s line replies ≡ Some (Done t text) → Seated (seat_at t.seats.seats (number_in line))
    own (lines.Conn n) still is = subst Seated (sym (laws.opens s t n replies text is)) (goes new_seat (laws.begins s.boot its.of_site))
    own (lines.Bytes n bytes) still is =
        let b : SeatBecomes n s (λ (x : Seat). fed x bytes) t = laws.feeds s t n bytes replies text is in
        subst Seated (sym b.becomes) (goes (fed b.seat bytes) (laws.still s.boot b.seat (fed b.seat bytes) refl (there-counted n b.seat b.was)))
    own (lines.End n) still is =
        let b : SeatBecomes n s ended t = laws.stopped s t n replies text is in
        subst Seated (sym b.becomes) (goes (ended b.seat) (laws.still s.boot b.seat (ended b.seat) refl (there-counted n b.seat b.was)))
    own (lines.Step n) still is = absurd (cc)
    own (lines.Run n) still is = absurd (cc)

-- The steps of each run are counted behind a line that makes none.
pub lines-counted : RunLaws → (s t : SiteState) (line : SeatLine) (replies : List Bool) (text : List ℕ) (m : ℕ) → s.boot.start.deployment ≡ site_parts → ((n : ℕ) → RunIsCounted s n) → makes_steps line ≡ false
    → seat_line s line replies ≡ Some (Done t text) → RunIsCounted t m
lines-counted laws s t line replies text m site counted still is =
    let alone : ChangesSeatsAlone s t text = laws.alone s t line replies text is still in
    let its : SeatsCounted s = record { of_site = site; counted = λ n. (counted n).seat } in
    record {
      seat = (seats-still laws s its t line replies text still is).counted m;
      windows = subst (λ (x : Option LanesState). IfSome x (λ (y : LanesState). y.windows.w ≤ MAX_BRICKS)) (sym (ap (λ (x : SessionsState). x.store) alone.sessions)) (counted m).windows;
    }

-- a connection that does not rest is there, and does not wait
abbrev IsOn : Option Seat → Type 0
IsOn o = (seat : Seat) × (o ≡ Some seat) × (turn seat.connection ≢ turns.Bytes)

is-on : (o : Option Seat) → rests o ≡ false → IsOn o
is-on None e = absurd (cc)
is-on (Some seat) e = (seat, refl, λ waits. on waits) where
  on : turn seat.connection ≡ turns.Bytes → ⊥
  on waits = (let rest : waits_for_bytes (turn seat.connection) ≡ true = ap waits_for_bytes waits in cc)

has-store : (o : Option LanesState) → is_some o ≡ true → (st : LanesState) × (o ≡ Some st)
has-store None e = absurd (cc)
has-store (Some st) e = (st, refl)

rests-none : (o : Option Seat) → left_at o ≤ 0 → rests o ≡ true
rests-none None few = refl
rests-none (Some seat) few = absurd (let some = some-left seat in omega (arith, some, few))

-- a run is done
abbrev IsDone : Option (Answer SiteState) → Type 0
IsDone a = (t : SiteState) × (text : List ℕ) × (a ≡ Some (Done t text))

-- a run is done with these replies, from whatever site it goes on
abbrev RunsOut : ℕ → List Bool → Type 0
RunsOut n replies = (s : SiteState) (text : List ℕ) → RunIsCounted s n → is_some s.sessions.store ≡ true → run_left s n ≤ length replies → IsDone (run_from s text n replies)

-- so it is with one reply more
one-more : RunLaws → (n : ℕ) → n ≤ MAX_SEAT → (keeps : Bool) (more : List Bool) → RunsOut n more → RunsOut n (keeps ∷ more)
one-more laws n near keeps more later s text counted bricks few = by (rests (seat_at s.seats.seats n)) refl where
  goes : Answer SiteState → Option (Answer SiteState)
  goes a = elim a [ Refused ↦ Some Refused | Done t out ↦ run_from t (text ++ out) n more ]

  stepped : (a : Answer SiteState) → step_line s n keeps ≡ a → IsOn (seat_at s.seats.seats n) → (st : LanesState) × (s.sessions.store ≡ Some st) → IsDone (goes a)
  stepped Refused is on store = absurd (laws.made s n keeps on.0 store.0 near on.1 store.1 is)
  stepped (Done t out) is on store =
      let left : Leaves s n t = step-leaves laws s n counted keeps t out on.0 store.0 on.1 store.1 on.2 is in
      let less = left.fewer in
      later t (text ++ out) left.counted left.store (omega (arith, less, few))

  by : (b : Bool) → rests (seat_at s.seats.seats n) ≡ b → IsDone (cond b (Some (Done s text)) (goes (step_line s n keeps)))
  by true at = (s, text, refl)
  by false at = stepped (step_line s n keeps) refl (is-on (seat_at s.seats.seats n) at) (has-store s.sessions.store bricks)

run-done : RunLaws → (n : ℕ) → n ≤ MAX_SEAT → (replies : List Bool) → RunsOut n replies
run-done laws n near [] s text counted bricks few = (s, text, ap (λ (b : Bool). cond b (Some (Done s text)) None) (rests-none (seat_at s.seats.seats n) few))
run-done laws n near (keeps ∷ more) s text counted bricks few = one-more laws n near keeps more (run-done laws n near more) s text counted bricks few

near-by : (n : ℕ) → not (is_beyond n) ≡ true → n ≤ MAX_SEAT
near-by n e = by (is_beyond n) refl e where
  by : (b : Bool) → is_beyond n ≡ b → not b ≡ true → n ≤ MAX_SEAT
  by true is e = absurd (cc)
  by false is e = grind (arith, nat_tests)

pub line-done : RunLaws → (s : SiteState) (n : ℕ) (replies : List Bool) → RunIsCounted s n → can_run s n ≡ true → run_left s n ≤ length replies → IsDone (seat_line s (lines.Run n) replies)
unfolding run_line
line-done laws s n replies counted can few =
    let parts = and_parts (not (is_beyond n)) (is_some s.sessions.store && is_some (seat_at s.seats.seats n)) can in
    let bricks = and_parts (is_some s.sessions.store) (is_some (seat_at s.seats.seats n)) parts.1 in
    let done : IsDone (run_from s [] n replies) = run-done laws n (near-by n parts.0) replies s [] counted bricks.0 few in
    (done.0, done.1, ap (λ (b : Bool). cond b (run_from s [] n replies) (Some Refused)) can ∙ done.2)

pub line-answered : RunLaws → (s : SiteState) (n : ℕ) (replies : List Bool) → RunIsCounted s n → run_left s n ≤ length replies → seat_line s (lines.Run n) replies ≢ None
unfolding run_line
line-answered laws s n replies counted few none = by (can_run s n) refl none where
  by : (b : Bool) → can_run s n ≡ b → cond b (run_from s [] n replies) (Some Refused) ≡ None → ⊥
  by true can e =
      let done = line-done laws s n replies counted can few in
      let is : run_from s [] n replies ≡ Some (Done done.0 done.1) = ap (λ (b : Bool). cond b (run_from s [] n replies) (Some Refused)) (sym can) ∙ done.2 in cc
  by false can e = cc

some-same : (s t : SiteState) → Some s ≡ Some t → s ≡ t
some-same s t is = cc

-- steps leave fewer with these replies, by one for each at least
abbrev StepsLess : ℕ → List Bool → Type 0
StepsLess n replies = (s t : SiteState) → RunIsCounted s n → steps_from s n replies ≡ Some t → length replies + run_left t n ≤ run_left s n

one-less : RunLaws → (n : ℕ) (keeps : Bool) (more : List Bool) → StepsLess n more → StepsLess n (keeps ∷ more)
one-less laws n keeps more later s t counted is = by (rests (seat_at s.seats.seats n)) refl is where
  goes : Answer SiteState → Option SiteState
  goes a = elim a [ Refused ↦ None | Done x out ↦ steps_from x n more ]

  stepped : (a : Answer SiteState) → step_line s n keeps ≡ a → IsOn (seat_at s.seats.seats n) → (o : Option LanesState) → s.sessions.store ≡ o → goes a ≡ Some t → length (keeps ∷ more) + run_left t n ≤ run_left s n
  stepped Refused made on o store e = absurd (cc)
  stepped (Done x out) made on None bare e = absurd (refused-not x out (step_line s n keeps) (laws.bare s n keeps bare) made)
  stepped (Done x out) made on (Some st) store e =
      let left : Leaves s n x = step-leaves laws s n counted keeps x out on.0 st on.1 store on.2 made in
      let less = left.fewer in
      let rest = later x t left.counted e in
      omega (arith, less, rest)

  by : (b : Bool) → rests (seat_at s.seats.seats n) ≡ b → cond b None (goes (step_line s n keeps)) ≡ Some t → length (keeps ∷ more) + run_left t n ≤ run_left s n
  by true at e = absurd (cc)
  by false at e = stepped (step_line s n keeps) refl (is-on (seat_at s.seats.seats n) at) s.sessions.store refl e

pub steps-fewer : RunLaws → (n : ℕ) (replies : List Bool) → StepsLess n replies
steps-fewer laws n [] s t counted is = (let same : run_left s n ≡ run_left t n = ap (λ (x : SiteState). run_left x n) (some-same s t is) in omega (arith, same))
steps-fewer laws n (keeps ∷ more) s t counted is = one-less laws n keeps more (steps-fewer laws n more) s t counted is
