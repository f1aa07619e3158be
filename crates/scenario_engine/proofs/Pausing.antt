-- Connections stand at the end of all turns, and before each step that they make; behind a pause they do so over later
-- bricks, and what they begin is none of the calls of the bricks then.
use Rattle.std.proofs.Common.{◌≡◌, ℕ, suc, ◌+◌, ◌-◌, ◌^◌, ◌<◌, ◌≤◌, Bool, true, false, if◌then◌else◌, append-nil, append_assoc, nat_lt, List, [], ◌∷◌, ◌++◌, length, Option, Some, None, refl, sym, ap, ◌∙◌, subst, arith}
use Rattle.std.specs.Prelude.{All, slice_get}
use Rattle.std.proofs.lemmas.List.Elements.{All-append, All-nil, All-tail, All-weaker}
use Rattle.lane_link.specs.Twins.{ByEvents}
use Rattle.scenario_text.specs.declared.line.TheConstants.{MAX_LINE_BYTES}
use Rattle.scenario_text.proofs.Cuts.{all_left}
use Rattle.seat_laws.specs.Reads.{ReadsSince, read_under_way}
use Rattle.seat_laws.specs.Standing.{SeatStands}
use Rattle.seat_lines.specs.Making.{StepHearsSpelled, StepMade}
use Rattle.seat_lines.specs.Site.{SeatsState, seat_at}
use Rattle.seat_steps.specs.declared.seat.Seat.{Seat}
use Rattle.session_lanes.specs.Lanes.{LanesState}
use Rattle.session_lanes.specs.Sound.{LanesAreSound}
use Rattle.session_steps.specs.Promise.{BootsRise, SessionTurn}
use Rattle.session_steps.proofs.LanesKept.{all_sound}
use Rattle.ssm_stub.specs.Reads.{ReadState}
use Rattle.ssm_world.specs.Sound.{Grows}
use Rattle.ssm_world.specs.Worlds.{IsMade, WorldValue, after, new_world}
use Rattle.ssm_world.specs.declared.call.Call.{Call}
use Rattle.ssm_world.specs.declared.event.WorldEvent.{WorldEvent}
use Rattle.scenario_engine.specs.Connections.{IsIdle, Pause, StepStands, made_from, steps_behind, turn_makes}
use Rattle.scenario_engine.specs.Hearing.{AllHeardSpelled}
use Rattle.scenario_engine.specs.Sessions.{session_turns, starts_on, turn_on_sessions}
use Rattle.scenario_engine.specs.State.{RunningState, State, Running, Outcome, RefusedIn, DoneTo, UnstartedIn, UnderWayIn}
use Rattle.scenario_engine.specs.Transcript.{Turn, End, Ended, RefusedAt, TooLong, UnderWay, Unstarted, end_from, first, last_state, turn_outcome}
use Rattle.scenario_engine.proofs.Keeping.{LeavesTo}
use Rattle.scenario_engine.proofs.Leading.{CountsLaw, LeadsTo, leads_turn}
use Rattle.scenario_engine.proofs.SeatsLead.{DrawLaws}
use Rattle.scenario_engine.proofs.SeatsStand.{ArePlaced, IsStep, IsWhole, KeptLaws, StandLaws}
use Rattle.scenario_engine.proofs.Standing.{LaterAt, StandAt, StoryOf, TurnLaws, drawn_in, goes_on_story, later_in, later_on, later_to, rise_at, stand_turn}

-- What is known before turns: what those before came to, and what the turns will.
pub record IsAt (L : LanesState → Type 0) (K : ℕ → Option ℕ → Type 0) (turns : List Turn) (s : State) : Type 0 where
  pub before : List SessionTurn
  pub story : StoryOf L before s
  pub stand : StandAt K s
  pub rise : BootsRise 0 (before ++ session_turns s turns)
  pub heard : AllHeardSpelled s turns

-- connections stand where turns end, over bricks as events keep them
abbrev pub EndsAt : (LanesState → Type 0) → (ℕ → Option ℕ → Type 0) → State → Type 0
EndsAt L K s = StandAt K s × LaterAt L s

abbrev pub is_long : Turn → Bool
is_long turn = nat_lt MAX_LINE_BYTES (length turn.line)

-- what turns do to sessions, by what the first one comes to
abbrev turns_if : State → Turn → List Turn → Bool → Outcome → List SessionTurn
turns_if s turn turns long o = if long then [] else (elim o [
  | RefusedIn t ↦ starts_on s turn
  | DoneTo t text ↦ turn_on_sessions s turn t text ++ session_turns t turns
  | UnstartedIn t cause ↦ starts_on s turn
  | UnderWayIn t ↦ turn_on_sessions s turn t []
])

as_turns : (s : State) (turn : Turn) (turns : List Turn) (o : Outcome) → is_long turn ≡ false → turn_outcome s turn ≡ o → session_turns s (turn ∷ turns) ≡ turns_if s turn turns false o
as_turns s turn turns o is comes =
    ap (λ (b : Bool). turns_if s turn turns b (turn_outcome s turn)) is ∙ ap (λ (x : Outcome). turns_if s turn turns false x) comes

-- the steps behind a turn, by what it comes to
abbrev made_behind : List Turn → Outcome → List StepMade
made_behind turns o = elim o [ RefusedIn t ↦ [] | DoneTo t text ↦ made_from t turns | UnstartedIn t cause ↦ [] | UnderWayIn t ↦ [] ]

as_made : (s : State) (turn : Turn) (turns : List Turn) → is_long turn ≡ false → made_from s (turn ∷ turns) ≡ turn_makes s turn ++ made_behind turns (turn_outcome s turn)
as_made s turn turns is = ap (λ (b : Bool). if b then [] else (turn_makes s turn ++ made_behind turns (turn_outcome s turn))) is

-- what holds of each of two lists together holds of each behind the first
pub all_behind : {X : Type 0} (P : X → Type 0) (xs ys : List X) → All P (xs ++ ys) → All P ys
all_behind P [] ys all = all
all_behind P (x ∷ xs) ys all = all_behind P xs ys (All-tail P x (xs ++ ys) all)

ended_in : (s t : State) → Ended s ≡ Ended t → s ≡ t
ended_in s t is = cc

module _ (L : LanesState → Type 0) (K : ℕ → Option ℕ → Type 0) (kept : KeptLaws L K) (draw : DrawLaws) (laws : StandLaws) (sessions_laws : TurnLaws) (counts : CountsLaw) where
  module _ (s : State) (turn : Turn) (turns : List Turn) (at : IsAt L K (turn ∷ turns) s) (is : is_long turn ≡ false) where
    rises : (o : Outcome) → turn_outcome s turn ≡ o → BootsRise 0 (at.before ++ turns_if s turn turns false o)
    rises o comes = subst (λ (xs : List SessionTurn). BootsRise 0 (at.before ++ xs)) (as_turns s turn turns o is comes) at.rise

    starts_rise : (o : Outcome) → BootsRise 0 (at.before ++ turns_if s turn turns false o) → BootsRise 0 (at.before ++ starts_on s turn)
    starts_rise (RefusedIn t) rise = rise
    starts_rise (DoneTo t text) rise = rise_at L K kept draw laws sessions_laws at.before s turn t text (session_turns t turns) rise
    starts_rise (UnstartedIn t cause) rise = rise
    starts_rise (UnderWayIn t) rise =
        rise_at L K kept draw laws sessions_laws at.before s turn t [] []
        (subst (λ (xs : List SessionTurn). BootsRise 0 (at.before ++ xs)) (sym (append-nil (turn_on_sessions s turn t []))) rise)

    hears : All StepHearsSpelled (turn_makes s turn ++ made_behind turns (turn_outcome s turn))
    hears = subst (All StepHearsSpelled) (as_made s turn turns is) at.heard

    pub stands : LeavesTo (StandAt K) (turn_outcome s turn) × All (IsStep L K) (turn_makes s turn)
    stands =
        stand_turn L K kept draw laws sessions_laws s at.before at.story at.stand turn
        (starts_rise (turn_outcome s turn) (rises (turn_outcome s turn) refl)) (all_left StepHearsSpelled (turn_makes s turn) (made_behind turns (turn_outcome s turn)) hears)

    leads : LeadsTo s (starts_on s turn) (turn_on_sessions s turn) (turn_outcome s turn)
    leads = leads_turn counts draw s (drawn_in L K kept draw laws sessions_laws s at.before at.story) turn

    -- the next turns, where this one is done
    pub next_at : (t : State) (text : List ℕ) → turn_outcome s turn ≡ DoneTo t text → IsAt L K turns t
    next_at t text comes =
        let xs : List SessionTurn = turn_on_sessions s turn t text in
        record {
          before = at.before ++ xs;
          story = goes_on_story L K kept draw laws sessions_laws s t at.before xs at.story (subst (λ (o : Outcome). LeadsTo s (starts_on s turn) (turn_on_sessions s turn) o) comes leads);
          stand = subst (λ (o : Outcome). LeavesTo (StandAt K) o) comes stands.0;
          rise = subst (BootsRise 0) (sym (append_assoc at.before xs (session_turns t turns))) (rises (DoneTo t text) comes);
          heard =
              subst (λ (o : Outcome). All StepHearsSpelled (made_behind turns o)) comes
              (all_behind StepHearsSpelled (turn_makes s turn) (made_behind turns (turn_outcome s turn)) hears);
        }

    both : (o : Outcome) → LeavesTo (StandAt K) o → LeavesTo (LaterAt L) o → LeavesTo (EndsAt L K) o
    both (RefusedIn t) stand later = (stand, later)
    both (DoneTo t text) stand later = (stand, later)
    both (UnstartedIn t cause) stand later = (stand, later)
    both (UnderWayIn t) stand later = (stand, later)

    turn_ends : (o : Outcome) → turn_outcome s turn ≡ o → LeavesTo (EndsAt L K) o
    turn_ends o comes =
        subst (λ (x : Outcome). LeavesTo (EndsAt L K) x) comes
        (both (turn_outcome s turn) stands.0 (later_to L K kept draw laws sessions_laws s turn at.before (turn_outcome s turn) at.story leads))

  -- the end of all turns
  pub ends : (n : ℕ) (turns : List Turn) (s : State) → IsAt L K turns s → EndsAt L K (last_state (end_from s n turns))
  ends n [] s at = (at.stand, later_in L K kept draw laws sessions_laws s at.before at.story)
  ends n (turn ∷ turns) s at = go (λ t later. ends (n + 1) turns t later) (is_long turn) refl (turn_outcome s turn) refl
    where
      go : ((t : State) → IsAt L K turns t → EndsAt L K (last_state (end_from t (n + 1) turns))) → (long : Bool) → is_long turn ≡ long → (o : Outcome) → turn_outcome s turn ≡ o
          → EndsAt L K (last_state (if long then TooLong s n else (elim o [
            | RefusedIn t ↦ RefusedAt t n
            | DoneTo t text ↦ end_from t (n + 1) turns
            | UnstartedIn t cause ↦ Unstarted t cause
            | UnderWayIn t ↦ UnderWay t n
          ])))
      go later true is o comes = (at.stand, later_in L K kept draw laws sessions_laws s at.before at.story)
      go later false is (RefusedIn t) comes = turn_ends s turn turns at is (RefusedIn t) comes
      go later false is (DoneTo t text) comes = later t (next_at s turn turns at is t text comes)
      go later false is (UnstartedIn t cause) comes = turn_ends s turn turns at is (UnstartedIn t cause) comes
      go later false is (UnderWayIn t) comes = turn_ends s turn turns at is (UnderWayIn t) comes

  -- each step that is made
  pub known : (turns : List Turn) (s : State) → IsAt L K turns s → All (IsStep L K) (made_from s turns)
  known [] s at = All-nil (IsStep L K)
  known (turn ∷ turns) s at = go (λ t later. known turns t later) (is_long turn) refl (turn_outcome s turn) refl
    where
      alone : is_long turn ≡ false → All (IsStep L K) (turn_makes s turn ++ [])
      alone is = All-append (IsStep L K) (turn_makes s turn) [] (stands s turn turns at is).1 (All-nil (IsStep L K))

      go : ((t : State) → IsAt L K turns t → All (IsStep L K) (made_from t turns)) → (long : Bool) → is_long turn ≡ long → (o : Outcome) → turn_outcome s turn ≡ o
          → All (IsStep L K) (if long then [] else (turn_makes s turn ++ (elim o [
            | RefusedIn t ↦ []
            | DoneTo t text ↦ made_from t turns
            | UnstartedIn t cause ↦ []
            | UnderWayIn t ↦ []
          ])))
      go later true is o comes = All-nil (IsStep L K)
      go later false is (RefusedIn t) comes = alone is
      go later false is (DoneTo t text) comes =
          All-append (IsStep L K) (turn_makes s turn) (made_from t turns) (stands s turn turns at is).1 (later t (next_at s turn turns at is t text comes))
      go later false is (UnstartedIn t cause) comes = alone is
      go later false is (UnderWayIn t) comes = alone is

  -- turns that are done lead to a pause
  pub pauses : (n : ℕ) (turns more : List Turn) (s : State) (r : RunningState) → IsAt L K (turns ++ more) s → end_from s n turns ≡ Ended (Running r) → IsAt L K more (Running r)
  pauses n [] more s r at end = subst (λ (x : State). IsAt L K more x) (ended_in s (Running r) end) at
  pauses n (turn ∷ turns) more s r at end = go (λ t later rest. pauses (n + 1) turns more t r later rest) (is_long turn) refl (turn_outcome s turn) refl end
    where
      go : ((t : State) → IsAt L K (turns ++ more) t → end_from t (n + 1) turns ≡ Ended (Running r) → IsAt L K more (Running r)) → (long : Bool) → is_long turn ≡ long → (o : Outcome) → turn_outcome s turn ≡ o
          → (if long then TooLong s n else (elim o [
            | RefusedIn t ↦ RefusedAt t n
            | DoneTo t text ↦ end_from t (n + 1) turns
            | UnstartedIn t cause ↦ Unstarted t cause
            | UnderWayIn t ↦ UnderWay t n
          ])) ≡ Ended (Running r) → IsAt L K more (Running r)
      go later true is o comes end = absurd (cc)
      go later false is (RefusedIn t) comes end = absurd (cc)
      go later false is (DoneTo t text) comes end = later t (next_at s turn (turns ++ more) at is t text comes) end
      go later false is (UnstartedIn t cause) comes end = absurd (cc)
      go later false is (UnderWayIn t) comes end = absurd (cc)

-- turns that follow done ones end as they do from there on
end_behind : (n : ℕ) (turns more : List Turn) (s : State) (r : RunningState) → end_from s n turns ≡ Ended (Running r) → (m : ℕ) × (end_from s n (turns ++ more) ≡ end_from (Running r) m more)
end_behind n [] more s r end = (n, ap (λ (x : State). end_from x n more) (ended_in s (Running r) end))
end_behind n (turn ∷ turns) more s r end = go (λ t rest. end_behind (n + 1) turns more t r rest) (is_long turn) (turn_outcome s turn) end
  where
    by : Bool → Outcome → (State → End) → End
    by long o on = if long then TooLong s n else (elim o [
      | RefusedIn t ↦ RefusedAt t n
      | DoneTo t text ↦ on t
      | UnstartedIn t cause ↦ Unstarted t cause
      | UnderWayIn t ↦ UnderWay t n
    ])

    go : ((t : State) → end_from t (n + 1) turns ≡ Ended (Running r) → (m : ℕ) × (end_from t (n + 1) (turns ++ more) ≡ end_from (Running r) m more)) → (long : Bool) (o : Outcome)
        → by long o (λ t. end_from t (n + 1) turns) ≡ Ended (Running r) → (m : ℕ) × (by long o (λ t. end_from t (n + 1) (turns ++ more)) ≡ end_from (Running r) m more)
    go later true o end = absurd (cc)
    go later false (RefusedIn t) end = absurd (cc)
    go later false (DoneTo t text) end = later t end
    go later false (UnstartedIn t cause) end = absurd (cc)
    go later false (UnderWayIn t) end = absurd (cc)

-- from the first turn on nothing else is kept

abbrev pub AnyBricks : LanesState → Type 0
AnyBricks st = Unit {0}

abbrev pub AnyTwin : ℕ → Option ℕ → Type 0
AnyTwin place twin = Unit {0}

pub any_kept : KeptLaws AnyBricks AnyTwin
any_kept = record { goes = λ st later on its. tt; none = λ place. tt; begins = λ st place its. tt }

pub first_at : CountsLaw → (turns : List Turn) → BootsRise 0 (session_turns first turns) → AllHeardSpelled first turns → IsAt AnyBricks AnyTwin turns first
first_at counts turns rise heard = record { before = []; story = (refl, counts.none, λ st. tt); stand = tt; rise = rise; heard = heard }

-- from a pause on the bricks are later ones, and a connection that was idle begins behind their calls

abbrev pub LaterThan : LanesState → LanesState → Type 0
LaterThan earlier st = ByEvents earlier st

abbrev pub BeginsBehind : SeatsState → LanesState → ℕ → Option ℕ → Type 0
BeginsBehind past earlier place twin = IsIdle past place → (number : ℕ) → twin ≡ Some number → length earlier.world.calls ≤ number

-- worlds that only grow have as many calls
abbrev pub GrowsLaw : Type 0
GrowsLaw = (bricks : ℕ) (earlier more : List WorldEvent) → Grows (after (new_world bricks) earlier) (after (after (new_world bricks) earlier) more)

grows_by : GrowsLaw → (w v : WorldValue) → IsMade w → (events : List WorldEvent) × (v ≡ after w events) → Grows w v
grows_by law w v made (events, is) =
    let at : Grows w (after w events) = subst (λ (x : WorldValue). Grows x (after x events)) (sym made.made) (law made.bricks made.events events) in
    subst (Grows w) (sym is) at

as_many : (xs ys : List Call) → ((i : ℕ) (c : Call) → slice_get xs i ≡ Some c → (d : Call) × (slice_get ys i ≡ Some d)) → length xs ≤ length ys
as_many [] ys each = omega arith
as_many (x ∷ xs) [] each = absurd (let there = each 0 x refl in none_there there.0 there.1)
  where
    none_there : (d : Call) → slice_get [] 0 ≡ Some d → ⊥
    none_there d is = cc
as_many (x ∷ xs) (y ∷ ys) each = let rest : length xs ≤ length ys = as_many xs ys (λ i c is. each (suc i) c is) in omega (arith, rest)

calls_rise : GrowsLaw → (earlier st : LanesState) → LanesAreSound earlier → ByEvents earlier st → length earlier.world.calls ≤ length st.world.calls
calls_rise law earlier st sound later =
    let grows : Grows earlier.world st.world = grows_by law earlier.world st.world sound.made later in
    as_many earlier.world.calls st.world.calls (λ i c is. (let on = grows.calls i c is in (on.0, on.1)))

pub no_number : (number : ℕ) → None ≡ Some number → ⊥
no_number number is = cc

pub pause_kept : GrowsLaw → (past : SeatsState) (earlier : LanesState) → LanesAreSound earlier → KeptLaws (LaterThan earlier) (BeginsBehind past earlier)
pause_kept law past earlier sound = record {
  goes = λ st later on its. later_on earlier st later its on;
  none = λ place idle number is. absurd (no_number number is);
  begins = λ st place its idle number is.
      let same : length st.world.calls ≡ number = one (length st.world.calls) number is in
      subst (λ (n : ℕ). length earlier.world.calls ≤ n) same (calls_rise law earlier st sound its);
}
  where
    one : (a b : ℕ) → Some a ≡ Some b → a ≡ b
    one a b is = cc

-- what is known of a step by then
pub stands_since : (past : SeatsState) (earlier : LanesState) → LanesAreSound earlier → (step : StepMade) → IsStep (LaterThan earlier) (BeginsBehind past earlier) step → StepStands past earlier step
stands_since past earlier sound step its = λ seat bricks made.
    let whole : IsWhole (LaterThan earlier) (BeginsBehind past earlier) step.site bricks = its.whole bricks made.bricks_are made.unspent in
    record {
      stands = (whole.all.each step.number seat made.seat_is).stands;
      spelled = its.hears bricks seat its.near made.bricks_are made.seat_is;
      sound = sound;
      events = whole.later;
      begins = λ idle. whole.twins step.number seat made.seat_is idle;
    }

module _ (draw : DrawLaws) (laws : StandLaws) (sessions_laws : TurnLaws) (counts : CountsLaw) (grows : GrowsLaw) where
  -- all connections stand at the end
  pub all_stand : (turns : List Turn) (r : RunningState) (st : LanesState) (n : ℕ) (seat : Seat) → BootsRise 0 (session_turns first turns) → AllHeardSpelled first turns
      → last_state (end_from first 1 turns) ≡ Running r → r.sessions.store ≡ Some st → r.sessions.serial < 2 ^ 64 - 1 → seat_at r.seats.seats n ≡ Some seat → SeatStands seat st
  all_stand turns r st n seat rise heard last is left there =
      let end : EndsAt AnyBricks AnyTwin (last_state (end_from first 1 turns)) = ends AnyBricks AnyTwin any_kept draw laws sessions_laws counts 1 turns first (first_at counts turns rise heard) in
      let here : EndsAt AnyBricks AnyTwin (Running r) = subst (EndsAt AnyBricks AnyTwin) last end in
      let placed : ArePlaced AnyTwin r.seats.seats st = here.0 st is left in
      (placed.all.each n seat there).stands

  module _ (turns more : List Turn) (r : RunningState) (st : LanesState) (rise : BootsRise 0 (session_turns first (turns ++ more))) (heard : AllHeardSpelled first (turns ++ more)) (done : end_from first 1 turns ≡ Ended (Running r)) (is : r.sessions.store ≡ Some st) where
    at : IsAt AnyBricks AnyTwin more (Running r)
    at = pauses AnyBricks AnyTwin any_kept draw laws sessions_laws counts 1 turns more first r (first_at counts (turns ++ more) rise heard) done

    sound : LanesAreSound st
    sound = all_sound at.story.setup 0 at.before r.sessions st at.story.lead is

    kept : KeptLaws (LaterThan st) (BeginsBehind r.seats st)
    kept = pause_kept grows r.seats st sound

    same_bricks : (now : LanesState) → r.sessions.store ≡ Some now → st ≡ now
    same_bricks now its = let both : Some st ≡ Some now = sym is ∙ its in cc

    since_at : IsAt (LaterThan st) (BeginsBehind r.seats st) more (Running r)
    since_at = record {
      before = at.before;
      story = record {
        setup = at.story.setup;
        counts = at.story.counts;
        lead = at.story.lead;
        drew = at.story.drew;
        later = λ now its. subst (LaterThan st) (same_bricks now its) ([], refl);
      };
      stand = λ now its left.
          let placed : ArePlaced AnyTwin r.seats.seats now = at.stand now its left in
          record { all = placed.all; twins = λ i a there idle number twin. absurd (no_number number (sym (idle a there) ∙ twin)) };
      rise = at.rise;
      heard = at.heard;
    }

    -- a connection that was idle reads behind the pause
    pub reads_since : (q : RunningState) (now : LanesState) (n : ℕ) (seat : Seat) (read : ReadState) → IsIdle r.seats n → last_state (end_from first 1 (turns ++ more)) ≡ Running q → q.sessions.store ≡ Some now → q.sessions.serial < 2 ^ 64 - 1
        → seat_at q.seats.seats n ≡ Some seat → read_under_way seat.connection.stage ≡ Some read → ReadsSince st seat now read
    reads_since q now n seat read idle last there left its waits =
        let behind = end_behind 1 turns more first r done in
        let end : EndsAt (LaterThan st) (BeginsBehind r.seats st) (last_state (end_from (Running r) behind.0 more)) =
        ends (LaterThan st) (BeginsBehind r.seats st) kept draw laws sessions_laws counts behind.0 more (Running r) since_at in
        let here : EndsAt (LaterThan st) (BeginsBehind r.seats st) (Running q) = subst (EndsAt (LaterThan st) (BeginsBehind r.seats st)) (ap last_state (sym behind.1) ∙ last) end in
        let placed : ArePlaced (BeginsBehind r.seats st) q.seats.seats now = here.0 now there left in
        record { waits = waits; sound = sound; events = here.1 now there; begins = placed.twins n seat its idle }

    steps_stand : All (StepStands r.seats st) (made_from (Running r) more)
    steps_stand =
        All-weaker (IsStep (LaterThan st) (BeginsBehind r.seats st)) (StepStands r.seats st) (stands_since r.seats st sound) (made_from (Running r) more)
        (known (LaterThan st) (BeginsBehind r.seats st) kept draw laws sessions_laws counts more (Running r) since_at)

  -- each step behind a pause
  pub pause_stands : (turns : List Turn) (pause : Pause turns) → BootsRise 0 (session_turns first turns) → AllHeardSpelled first turns → All (StepStands pause.running.seats pause.bricks) (steps_behind pause)
  pause_stands turns pause rise heard =
      steps_stand pause.before pause.more pause.running pause.bricks
      (subst (λ (xs : List Turn). BootsRise 0 (session_turns first xs)) pause.turns_are rise)
      (subst (λ (xs : List Turn). AllHeardSpelled first xs) pause.turns_are heard) pause.done pause.bricks_are
