-- By the begin of a step, also inside a run: the steps from it on are made by connections that stand over later bricks.
-- What a write had answered by then, or by a pause, is acknowledged in the bricks of that time.
use Rattle.std.proofs.Common.{◌≡◌, ℕ, ◌+◌, Bool, true, false, if◌then◌else◌, List, [], ◌∷◌, ◌++◌, append-nil, append_assoc, Option, Some, Ok, refl, sym, ap, ◌∙◌, subst}
use Rattle.std.specs.Prelude.{All}
use Rattle.std.proofs.lemmas.List.Elements.{All-append, All-head, All-tail, All-weaker}
use Rattle.lane_link.specs.Twins.{ByEvents}
use Rattle.scenario_text.proofs.Cuts.{all_left}
use Rattle.seat_laws.specs.Reads.{value_written}
use Rattle.seat_laws.specs.Standing.{SeatStands}
use Rattle.seat_lines.specs.Making.{StepHearsSpelled, StepMade}
use Rattle.seat_lines.specs.Site.{SeatsState}
use Rattle.seat_steps.specs.Twinned.{way_in}
use Rattle.seat_steps.specs.declared.seat.Seat.{Seat}
use Rattle.session_cookie.specs.declared.cookie.Cookie.{Cookie}
use Rattle.session_lanes.specs.Lanes.{LanesState}
use Rattle.session_lanes.specs.Sound.{LanesAreSound}
use Rattle.session_steps.specs.Promise.{BootsRise, SessionTurn}
use Rattle.session_way.specs.Way.{answer_held}
use Rattle.ssm_world.specs.Claims.{IsAcknowledged}
use Rattle.ssm_world.specs.Worlds.{IsMade, WorldValue, after, new_world}
use Rattle.ssm_world.specs.declared.event.WorldEvent.{WorldEvent}
use Rattle.scenario_engine.specs.Connections.{IsMadeBy, Pause, StepAmong, StepStands, Wrote, made_from, steps_before, turn_makes}
use Rattle.scenario_engine.specs.Hearing.{AllHeardSpelled}
use Rattle.scenario_engine.specs.Sessions.{session_turns, starts_on, turn_on_sessions}
use Rattle.scenario_engine.specs.State.{State, Heading, Running, Outcome, RefusedIn, DoneTo, UnstartedIn, UnderWayIn}
use Rattle.scenario_engine.specs.Transcript.{End, Turn, Ended, RefusedAt, TooLong, UnderWay, Unstarted, end_from, first, last_state, turn_outcome}
use Rattle.scenario_engine.proofs.Leading.{CountsLaw}
use Rattle.scenario_engine.proofs.Onward.{BootBehind, EachOn, Onward, WhereDone, on_all, on_append, on_at, on_up_to, turn_onward}
use Rattle.scenario_engine.proofs.Pausing.{AnyBricks, AnyTwin, BeginsBehind, EndsAt, GrowsLaw, IsAt, LaterThan, all_behind, any_kept, ends, first_at, is_long, known, next_at, pause_kept, stands, stands_since}
use Rattle.scenario_engine.proofs.SeatsLead.{DrawLaws}
use Rattle.scenario_engine.proofs.SeatsStand.{IsStep, IsWhole, KeptLaws, StandLaws}
use Rattle.scenario_engine.proofs.Standing.{EventsLaw, TurnLaws, drawn_in, rise_first}
use Rattle.scenario_engine.proofs.StepsMade.{made-more}

-- what is promised of acknowledged cookies
pub record WriteLaws : Type 0 where
  pub answered : (seat : Seat) (st : LanesState) (cookie : Cookie) → SeatStands seat st → answer_held (way_in seat.connection.stage) ≡ Some (Ok cookie)
      → IsAcknowledged st.world cookie (value_written (way_in seat.connection.stage))
  pub stays : (bricks : ℕ) (earlier later : List WorldEvent) (cookie : Cookie) (value : List ℕ) → IsAcknowledged (after (new_world bricks) earlier) cookie value
      → IsAcknowledged (after (after (new_world bricks) earlier) later) cookie value

-- what was acknowledged stays so
ack_on : WriteLaws → (st later : LanesState) (cookie : Cookie) (value : List ℕ) → IsMade st.world → ByEvents st later → IsAcknowledged st.world cookie value → IsAcknowledged later.world cookie value
ack_on laws st later cookie value made (events, is) ack =
    let P : WorldValue → Type 0 = λ v. IsAcknowledged v cookie value → IsAcknowledged (after v events) cookie value in
    let on : P st.world = subst P (sym made.made) (laws.stays made.bricks made.events events cookie value) in
    subst (λ (v : WorldValue). IsAcknowledged v cookie value) (sym is) (on ack)

-- turns that end leave this
abbrev AtEnd : End → SeatsState → LanesState → Type 0
AtEnd (Ended s) past bricks = EndsAt (LaterThan bricks) (BeginsBehind past bricks) s
AtEnd (RefusedAt s n) past bricks = Unit {0}
AtEnd (TooLong s n) past bricks = Unit {0}
AtEnd (Unstarted s cause) past bricks = Unit {0}
AtEnd (UnderWay s n) past bricks = Unit {0}

at_end : (e : End) (past : SeatsState) (bricks : LanesState) → EndsAt (LaterThan bricks) (BeginsBehind past bricks) (last_state e) → AtEnd e past bricks
at_end (Ended s) past bricks is = is
at_end (RefusedAt s n) past bricks is = tt
at_end (TooLong s n) past bricks is = tt
at_end (Unstarted s cause) past bricks is = tt
at_end (UnderWay s n) past bricks is = tt

-- what turns that were done do to sessions, and more behind them
sessions_more : (s t : State) (n : ℕ) (turns more : List Turn) → end_from s n turns ≡ Ended t → session_turns s (turns ++ more) ≡ session_turns s turns ++ session_turns t more
sessions_more s t n [] more end = let same : s ≡ t = cc in ap (λ (u : State). session_turns u more) same
sessions_more s t n (turn ∷ turns) more end = go (is_long turn) (turn_outcome s turn) (λ u rest. sessions_more u t (n + 1) turns more rest) end
  where
    by : Bool → Outcome → (State → List SessionTurn) → List SessionTurn
    by long o on = if long then [] else (elim o [
      | RefusedIn u ↦ starts_on s turn
      | DoneTo u text ↦ turn_on_sessions s turn u text ++ on u
      | UnstartedIn u cause ↦ starts_on s turn
      | UnderWayIn u ↦ turn_on_sessions s turn u []
    ])

    go : (long : Bool) (o : Outcome) → ((u : State) → end_from u (n + 1) turns ≡ Ended t → session_turns u (turns ++ more) ≡ session_turns u turns ++ session_turns t more)
        → (if long then TooLong s n else (elim o [
          | RefusedIn u ↦ RefusedAt u n
          | DoneTo u text ↦ end_from u (n + 1) turns
          | UnstartedIn u cause ↦ Unstarted u cause
          | UnderWayIn u ↦ UnderWay u n
        ])) ≡ Ended t
        → by long o (λ u. session_turns u (turns ++ more)) ≡ by long o (λ u. session_turns u turns) ++ session_turns t more
    go true o later end = absurd (cc)
    go false (RefusedIn u) later end = absurd (cc)
    go false (DoneTo u text) later end =
        let these : List SessionTurn = turn_on_sessions s turn u text in
        ap (λ (xs : List SessionTurn). these ++ xs) (later u end) ∙ sym (append_assoc these (session_turns u turns) (session_turns t more))
    go false (UnstartedIn u cause) later end = absurd (cc)
    go false (UnderWayIn u) later end = absurd (cc)

module _ (draw : DrawLaws) (laws : StandLaws) (sessions_laws : TurnLaws) (counts : CountsLaw) (grows : GrowsLaw) (events : EventsLaw) where
  -- from the begin of a step on, over turns

  -- what is known before turns, behind bricks at which there were these connections
  behind_at : (turns : List Turn) (t : State) (past : SeatsState) (bricks : LanesState) → IsAt AnyBricks AnyTwin turns t → BootBehind t past bricks → IsAt (LaterThan bricks) (BeginsBehind past bricks) turns t
  behind_at turns (Heading head) past bricks at is = absurd is
  behind_at turns (Running q) past bricks at (stand, later) = record {
    before = at.before;
    story = record { setup = at.story.setup; counts = at.story.counts; lead = at.story.lead; drew = at.story.drew; later = later };
    stand = stand;
    rise = at.rise;
    heard = at.heard;
  }

  module _ (past : SeatsState) (bricks : LanesState) (sound : LanesAreSound bricks) (n : ℕ) (turns : List Turn) (t : State) (at : IsAt AnyBricks AnyTwin turns t) (is : BootBehind t past bricks) where
    abbrev L : LanesState → Type 0
    L = LaterThan bricks

    abbrev K : ℕ → Option ℕ → Type 0
    K = BeginsBehind past bricks

    kept : KeptLaws L K
    kept = pause_kept grows past bricks sound

    since : IsAt L K turns t
    since = behind_at turns t past bricks at is

    made_since : All (IsStep L K) (made_from t turns)
    made_since = known L K kept draw laws sessions_laws counts turns t since

    end_since : AtEnd (end_from t n turns) past bricks
    end_since = at_end (end_from t n turns) past bricks (ends L K kept draw laws sessions_laws counts n turns t since)

  -- the bricks of a step are sound
  sound_at : (b : StepMade) (seat : Seat) (bricks : LanesState) → IsMadeBy b seat bricks → (past : SeatsState) → IsStep (LaterThan bricks) (BeginsBehind past bricks) b → LanesAreSound bricks
  sound_at b seat bricks made past its =
      let whole : IsWhole (LaterThan bricks) (BeginsBehind past bricks) b.site bricks = its.whole bricks made.bricks_are made.unspent in
      (whole.all.each b.number seat made.seat_is).stands.sound

  on_to : (n : ℕ) (turns : List Turn) (t : State) (text : List ℕ) → IsAt AnyBricks AnyTwin turns t → (b : StepMade) (rest : List StepMade) → Onward (WhereDone (DoneTo t text)) b rest → Onward (AtEnd (end_from t n turns)) b (rest ++ made_from t turns)
  on_to n turns t text at b rest its = λ seat bricks made.
      let it = its seat bricks made in
      let P : StepMade → Type 0 = IsStep (LaterThan bricks) (BeginsBehind b.site.seats bricks) in
      let sound : LanesAreSound bricks = sound_at b seat bricks made b.site.seats (All-head P b rest it.0) in (
        All-append P (b ∷ rest) (made_from t turns) it.0 (made_since b.site.seats bricks sound n turns t at it.1),
        end_since b.site.seats bricks sound n turns t at it.1,
      )

  on_alone : (e : End) (o : Outcome) → ((past : SeatsState) (bricks : LanesState) → AtEnd e past bricks) → (b : StepMade) (rest : List StepMade) → Onward (WhereDone o) b rest → Onward (AtEnd e) b (rest ++ [])
  on_alone e o none b rest its = λ seat bricks made.
      let P : StepMade → Type 0 = IsStep (LaterThan bricks) (BeginsBehind b.site.seats bricks) in
      (subst (λ (xs : List StepMade). All P (b ∷ xs)) (sym (append-nil rest)) (its seat bricks made).0, none b.site.seats bricks)

  -- from each step of turns on
  all_onward : (n : ℕ) (turns : List Turn) (s : State) → IsAt AnyBricks AnyTwin turns s → EachOn (Onward (AtEnd (end_from s n turns))) (made_from s turns)
  all_onward n [] s at = tt
  all_onward n (turn ∷ turns) s at =
      go (λ t later. all_onward (n + 1) turns t later) (is_long turn) refl (turn_outcome s turn) refl
      (λ short. turn_onward draw laws grows events s (drawn_in AnyBricks AnyTwin any_kept draw laws sessions_laws s at.before at.story) turn
      (stands AnyBricks AnyTwin any_kept draw laws sessions_laws counts s turn turns at short).1)
    where
      go : ((t : State) → IsAt AnyBricks AnyTwin turns t → EachOn (Onward (AtEnd (end_from t (n + 1) turns))) (made_from t turns)) → (long : Bool) → is_long turn ≡ long
          → (o : Outcome) → turn_outcome s turn ≡ o → (is_long turn ≡ false → EachOn (Onward (WhereDone o)) (turn_makes s turn))
          → EachOn (Onward (AtEnd (if long then TooLong s n else (elim o [
            | RefusedIn t ↦ RefusedAt t n
            | DoneTo t text ↦ end_from t (n + 1) turns
            | UnstartedIn t cause ↦ Unstarted t cause
            | UnderWayIn t ↦ UnderWay t n
          ])))) (if long then [] else (turn_makes s turn ++ (elim o [
            | RefusedIn t ↦ []
            | DoneTo t text ↦ made_from t turns
            | UnstartedIn t cause ↦ []
            | UnderWayIn t ↦ []
          ])))
      go later true is o comes this = tt
      go later false is (RefusedIn t) comes this =
          on_append (Onward (WhereDone (RefusedIn t))) (Onward (AtEnd (RefusedAt t n))) (turn_makes s turn) [] (on_alone (RefusedAt t n) (RefusedIn t) (λ past bricks. tt)) (this is) tt
      go later false is (DoneTo t text) comes this =
          let next : IsAt AnyBricks AnyTwin turns t = next_at AnyBricks AnyTwin any_kept draw laws sessions_laws counts s turn turns at is t text comes in
          on_append (Onward (WhereDone (DoneTo t text))) (Onward (AtEnd (end_from t (n + 1) turns))) (turn_makes s turn) (made_from t turns) (on_to (n + 1) turns t text next) (this is) (later t next)
      go later false is (UnstartedIn t cause) comes this =
          on_append (Onward (WhereDone (UnstartedIn t cause))) (Onward (AtEnd (Unstarted t cause))) (turn_makes s turn) [] (on_alone (Unstarted t cause) (UnstartedIn t cause) (λ past bricks. tt)) (this is) tt
      go later false is (UnderWayIn t) comes this =
          on_append (Onward (WhereDone (UnderWayIn t))) (Onward (AtEnd (UnderWay t n))) (turn_makes s turn) [] (on_alone (UnderWay t n) (UnderWayIn t) (λ past bricks. tt)) (this is) tt

  first_onward : (turns : List Turn) → BootsRise 0 (session_turns first turns) → AllHeardSpelled first turns → EachOn (Onward (AtEnd (end_from first 1 turns))) (made_from first turns)
  first_onward turns rise heard = all_onward 1 turns first (first_at counts turns rise heard)

  -- each step from one on
  pub steps_stand : (turns : List Turn) (at : StepAmong turns) → BootsRise 0 (session_turns first turns) → AllHeardSpelled first turns → All (StepStands at.step.site.seats at.bricks) (at.step ∷ at.behind)
  steps_stand turns at rise heard =
      let P : StepMade → Type 0 = IsStep (LaterThan at.bricks) (BeginsBehind at.step.site.seats at.bricks) in
      let R : StepMade → List StepMade → Type 0 = Onward (AtEnd (end_from first 1 turns)) in
      let known_from : All P (at.step ∷ at.behind) =
      (on_at R at.before at.behind at.step (subst (EachOn R) at.steps_are (first_onward turns rise heard)) at.seat at.bricks at.made).0 in
      All-weaker P (StepStands at.step.site.seats at.bricks)
      (stands_since at.step.site.seats at.bricks (sound_at at.step at.seat at.bricks at.made at.step.site.seats (All-head P at.step at.behind known_from))) (at.step ∷ at.behind) known_from

  module _ (writes : WriteLaws) where
    -- a step wrote what is acknowledged in bricks behind its own
    wrote_by : (later : LanesState) (b : StepMade) (rest : List StepMade)
        → ((seat : Seat) (bricks : LanesState) → IsMadeBy b seat bricks → All (IsStep (LaterThan bricks) (BeginsBehind b.site.seats bricks)) (b ∷ rest) × ByEvents bricks later) → Wrote later b
    wrote_by later b rest its = λ seat bricks cookie made answers.
        let it = its seat bricks made in
        let P : StepMade → Type 0 = IsStep (LaterThan bricks) (BeginsBehind b.site.seats bricks) in
        let this : P b = All-head P b rest it.0 in
        let whole : IsWhole (LaterThan bricks) (BeginsBehind b.site.seats bricks) b.site bricks = this.whole bricks made.bricks_are made.unspent in
        let good : SeatStands seat bricks = (whole.all.each b.number seat made.seat_is).stands in
        ack_on writes bricks later cookie (value_written (way_in seat.connection.stage)) good.sound.made it.1 (writes.answered seat bricks cookie good answers)

    -- what each step up to one wrote
    pub steps_wrote : (turns : List Turn) (at : StepAmong turns) → BootsRise 0 (session_turns first turns) → AllHeardSpelled first turns → All (Wrote at.bricks) (at.before ++ at.step ∷ [])
    steps_wrote turns at rise heard =
        on_up_to R (Wrote at.bricks) at.before at.behind at.step
        (λ its. wrote_by at.bricks at.step at.behind (λ seat bricks made. (let it = its seat bricks made in (it.0, reach at.step seat bricks [] at.behind it.0))))
        (λ b us its. wrote_by at.bricks b (us ++ at.step ∷ at.behind) (λ seat bricks made. (let it = its seat bricks made in (it.0, reach b seat bricks us at.behind (All-tail (P b bricks) b (us ++ at.step ∷ at.behind) it.0)))))
        (subst (EachOn R) at.steps_are (first_onward turns rise heard))
      where
        R : StepMade → List StepMade → Type 0
        R = Onward (AtEnd (end_from first 1 turns))

        P : StepMade → LanesState → StepMade → Type 0
        P b bricks = IsStep (LaterThan bricks) (BeginsBehind b.site.seats bricks)

        reach : (b : StepMade) (seat : Seat) (bricks : LanesState) (us vs : List StepMade) → All (P b bricks) (us ++ at.step ∷ vs) → ByEvents bricks at.bricks
        reach b seat bricks us vs all =
            let its : P b bricks at.step = All-head (P b bricks) at.step vs (all_behind (P b bricks) us (at.step ∷ vs) all) in
            let whole : IsWhole (LaterThan bricks) (BeginsBehind b.site.seats bricks) at.step.site at.bricks = its.whole at.bricks at.made.bricks_are at.made.unspent in
            whole.later

    -- what each step before a pause wrote
    pub pause_wrote : (turns : List Turn) (pause : Pause turns) → BootsRise 0 (session_turns first turns) → AllHeardSpelled first turns → All (Wrote pause.bricks) (steps_before pause)
    pause_wrote turns pause rise heard =
        on_all (Onward (AtEnd (Ended r))) (Wrote pause.bricks) (made_from first pause.before)
        (λ b rest its. wrote_by pause.bricks b rest (λ seat bricks made. (let it = its seat bricks made in (it.0, it.1.1 pause.bricks pause.bricks_are))))
        (subst (λ (e : End). EachOn (Onward (AtEnd e)) (made_from first pause.before)) pause.done (first_onward pause.before rise_before heard_before))
      where
        r : State
        r = Running pause.running

        rise_before : BootsRise 0 (session_turns first pause.before)
        rise_before =
            rise_first AnyBricks AnyTwin any_kept draw laws sessions_laws (session_turns first pause.before) (session_turns r pause.more) 0
            (subst (BootsRise 0) (ap (λ (xs : List Turn). session_turns first xs) pause.turns_are ∙ sessions_more first r 1 pause.before pause.more pause.done) rise)

        heard_before : AllHeardSpelled first pause.before
        heard_before =
            all_left StepHearsSpelled (made_from first pause.before) (made_from r pause.more)
            (subst (λ (xs : List StepMade). All StepHearsSpelled xs) (ap (λ (xs : List Turn). made_from first xs) pause.turns_are ∙ made-more first r 1 pause.before pause.more pause.done) heard)
