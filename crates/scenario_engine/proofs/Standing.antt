-- Whatever the turns of a scenario over boots that rise, the connections that are there stand over its bricks, where
-- what their steps hear is spelled.
use Rattle.std.proofs.Common.{◌≡◌, ◌≢◌, inl, inr, ℕ, ◌-◌, ◌^◌, ◌<◌, ◌≤◌, Bool, true, false, cond, if◌then◌else◌, append-nil, append_assoc, List, [], ◌∷◌, ◌++◌, Option, Some, None, is_some, refl, sym, ap, ◌∙◌, subst, arith}
use Rattle.std.specs.Prelude.{All, IfSome, slice_get}
use Rattle.std.proofs.lemmas.List.Elements.{All-nil}
use Rattle.crash_base.specs.declared.numbers.Version.{Version}
use Rattle.lane_link.specs.Twins.{ByEvents}
use Rattle.line_steps.specs.Callers.{call_step}
use Rattle.line_steps.specs.Head.{head_line}
use Rattle.line_steps.specs.declared.head.Head.{Head}
use Rattle.scenario_text.specs.Answer.{Answer, Refused, Done, within}
use Rattle.scenario_text.specs.Line.{is_event}
use Rattle.scenario_text.specs.Reading.{line_of}
use Rattle.scenario_text.specs.Setup.{HasCounts, SetupState}
use Rattle.scenario_text.specs.declared.line.Line.{Line}
use Rattle.scenario_text.specs.declared.line.Line.TheVariants as lines
use Rattle.scenario_text.specs.declared.seat_line.SeatLine.{SeatLine}
use Rattle.scenario_text.specs.declared.seat_line.SeatLine.TheVariants as seats
use Rattle.scenario_text.specs.declared.session_line.SessionLine.{SessionLine}
use Rattle.scenario_text.proofs.Leaving.{Leaves}
use Rattle.seat_laws.specs.Drawing.{SeatHasDrawn}
use Rattle.seat_laws.specs.Owing.{write_owed}
use Rattle.seat_lines.specs.Lines.{bytes_line, conn_line, end_line, is_beyond, step_line}
use Rattle.seat_lines.specs.Making.{LineHearsSpelled, StepHearsSpelled, StepMade, line_makes, run_makes}
use Rattle.seat_lines.specs.Runs.{can_run, run_from, run_line, seat_line}
use Rattle.seat_lines.specs.Site.{SiteState, no_seats, seat_at}
use Rattle.seat_steps.specs.declared.seat.Seat.{Seat}
use Rattle.send_windows.specs.Windows.{KeepLimits}
use Rattle.session_lanes.specs.Lanes.{LanesState}
use Rattle.session_lanes.specs.Sound.{LanesAreSound}
use Rattle.session_lanes.specs.Steps.{LanesStep, BeginsRead as ReadsNow, BeginsWrite as WritesNow, TakesTurn as TurnsNow, after_steps as after_calls}
use Rattle.session_steps.specs.Lent.{BeginsRead, BeginsWrite, CallsWindows, HearsNone, LentStep, TakesTurn, WasDrawn, after_lent, after_lent_step}
use Rattle.session_steps.specs.Promise.{Boots, BootsRise, Does, Lead, Lends, SessionTurn}
use Rattle.session_steps.specs.Sessions.{SessionsState, nonce, reopened, session_line}
use Rattle.session_steps.specs.Setup.{set_up}
use Rattle.session_steps.proofs.LanesKept.{all_sound}
use Rattle.session_steps.proofs.Leading.{lead_on}
use Rattle.ssm_world.specs.Worlds.{WorldValue, after, is_new, step as world_step}
use Rattle.ssm_world.specs.declared.call.Call.{Call}
use Rattle.ssm_world.specs.declared.event.WorldEvent.{WorldEvent}
use Rattle.scenario_engine.specs.Connections.{makes_on, makes_over, makes_to, seat_makes, turn_makes}
use Rattle.scenario_engine.specs.Engine.{Replies, first_keeps, in_head, line_on, line_over, next_opening, opened_target, reopens, step, target_of}
use Rattle.scenario_engine.specs.Opening.{Opening, Opened, UnstartedBoot, opening}
use Rattle.scenario_engine.specs.Running.{boot_line, commit_step, started, with_called, with_sessions}
use Rattle.scenario_engine.specs.Seats.{after_steps, by_replies, in_boot, seat_over}
use Rattle.scenario_engine.specs.Sessions.{first_start, starts_by, starts_on, turn_on_sessions, turns_by, turns_to}
use Rattle.scenario_engine.specs.State.{RunningState, State, Heading, Running, Outcome, RefusedIn, DoneTo, UnstartedIn, UnderWayIn, site_of, with_site}
use Rattle.scenario_engine.specs.Transcript.{Turn, answer_to, turn_outcome}
use Rattle.scenario_engine.proofs.BricksKept.{LimitsLaw, NewLaw, lead_limits, turn_bricks}
use Rattle.scenario_engine.proofs.Keeping.{LeavesTo}
use Rattle.scenario_engine.proofs.Leading.{LeadsTo, Reaches, SameSessions, StateHasDrawn, as_sessions, first_drew, same_boot, same_commit, same_entered}
use Rattle.scenario_engine.proofs.SeatRows.{RunsTo, bricks_of, line_of_run, near_of, run_to}
use Rattle.scenario_engine.proofs.SeatsLead.{DrawLaws, IfDrew, SiteHasDrawn, Stays, drew_here, stays_bytes, stays_conn, stays_end}
use Rattle.scenario_engine.proofs.SeatsStand.{ArePlaced, IsGood, IsStep, IsWhole, KeptLaws, StandLaws, WholeIf, bytes_whole, conn_whole, end_whole, hears_done, known_line, no_seats_placed, step_goes, steps_go, under}
use Rattle.scenario_engine.proofs.SessionSerials.{Drew, serial_up, session_drew}

-- events lead from bricks to those after calls of them
abbrev pub EventsLaw : Type 0
EventsLaw = (st : LanesState) (steps : List LanesStep) → ByEvents st (after_calls st steps)

events_on : (first : List WorldEvent) (w : WorldValue) (more : List WorldEvent) → after w (first ++ more) ≡ after (after w first) more
events_on [] w more = refl
events_on (e ∷ first) w more = events_on first (world_step w e) more

pub later_on : (a b c : LanesState) → ByEvents a b → ByEvents b c → ByEvents a c
later_on a b c (first, is) (more, at) = (first ++ more, at ∙ ap (λ (w : WorldValue). after w more) is ∙ sym (events_on first a.world more))

-- and so they do by what connections do with bricks that are lent to them
lent_event : EventsLaw → (st : LanesState) (s : LentStep) → ByEvents st (after_lent_step st s)
lent_event events st (BeginsRead n now cookie) = events st (ReadsNow n now cookie ∷ [])
lent_event events st (BeginsWrite n key value expiry passes) = events st (WritesNow n key value expiry passes ∷ [])
lent_event events st (TakesTurn call) = events st (TurnsNow call ∷ [])
lent_event events st (CallsWindows call) = ([], refl)
lent_event events st (HearsNone brick) = ([], refl)

pub lent_events : EventsLaw → (st : LanesState) (steps : List LentStep) → ByEvents st (after_lent st steps)
lent_events events st [] = ([], refl)
lent_events events st (s ∷ steps) =
    later_on st (after_lent_step st s) (after_lent st (s ∷ steps)) (lent_event events st s) (lent_events events (after_lent_step st s) steps)

-- where turns leave bricks, there were some before
pub lead_bricks : (s t : SessionsState) (turns : List SessionTurn) (later : LanesState) → Lead s turns t → t.store ≡ Some later → (st : LanesState) × (s.store ≡ Some st)
lead_bricks s t [] later lead is = (later, ap (λ (x : SessionsState). x.store) (sym lead) ∙ is)
lead_bricks s t (turn ∷ turns) later (between, makes, rest) is =
    let mid = lead_bricks between t turns later rest is in turn_bricks s between turn mid.0 makes mid.1

-- what is promised of the sessions of scenarios
pub record TurnLaws : Type 0 where
  pub new : (setup : SetupState) (boot : ℕ) (turns : List SessionTurn) (u : SessionsState) (st : LanesState) (serial : ℕ) → BootsRise boot turns → Lead (set_up setup boot) turns u → u.store ≡ Some st → u.serial < 2 ^ 64 - 1 → u.serial ≤ serial → is_new st.world (record (nonce u) { serial = serial }) ≡ true
  pub others : (setup : SetupState) (boot : ℕ) (turns : List SessionTurn) (s t : SessionsState) (line : SessionLine) (text : List ℕ) (st later : LanesState) (other : Version) → Lead (set_up setup boot) turns s → session_line s line ≡ Done t text → s.store ≡ Some st → t.store ≡ Some later → is_new st.world other ≡ true → other ≢ nonce s → is_new later.world other ≡ true
  pub calls : (setup : SetupState) (boot : ℕ) (turns : List SessionTurn) (s t : SessionsState) (line : SessionLine) (text : List ℕ) (st later : LanesState) (number : ℕ) (call : Call) → Lead (set_up setup boot) turns s → session_line s line ≡ Done t text → s.store ≡ Some st → t.store ≡ Some later → slice_get st.world.calls number ≡ Some call → slice_get later.world.calls number ≡ Some call
  pub events : (setup : SetupState) (boot : ℕ) (before turns : List SessionTurn) (s t : SessionsState) (st later : LanesState) → Lead (set_up setup boot) before s → Lead s turns t → s.store ≡ Some st → t.store ≡ Some later → ByEvents st later
  pub limits : LimitsLaw
  pub windows : NewLaw

-- connections of a boot stand, where serials are left
abbrev pub StandIn : (ℕ → Option ℕ → Type 0) → RunningState → Type 0
StandIn K r = (st : LanesState) → r.sessions.store ≡ Some st → r.sessions.serial < 2 ^ 64 - 1 → ArePlaced K r.seats.seats st

abbrev pub StandAt : (ℕ → Option ℕ → Type 0) → State → Type 0
StandAt K (Heading head) = Unit {0}
StandAt K (Running r) = StandIn K r

-- the bricks of a boot are as events keep them
abbrev pub LaterAt : (LanesState → Type 0) → State → Type 0
LaterAt L (Heading head) = Unit {0}
LaterAt L (Running r) = (st : LanesState) → r.sessions.store ≡ Some st → L st

-- What turns of sessions came to in a boot.
pub record Story (L : LanesState → Type 0) (before : List SessionTurn) (r : RunningState) : Type 0 where
  pub setup : SetupState
  pub counts : HasCounts setup.counts
  pub lead : Lead (set_up setup 0) before r.sessions
  pub drew : SiteHasDrawn (site_of r)
  pub later : (st : LanesState) → r.sessions.store ≡ Some st → L st

-- what turns of sessions came to: none are done over the head
abbrev pub StoryOf : (LanesState → Type 0) → List SessionTurn → State → Type 0
StoryOf L before (Heading head) = (before ≡ []) × HasCounts head.setup.counts × ((st : LanesState) → L st)
StoryOf L before (Running r) = Story L before r

module _ (L : LanesState → Type 0) (K : ℕ → Option ℕ → Type 0) (kept : KeptLaws L K) (draw : DrawLaws) (laws : StandLaws) (sessions_laws : TurnLaws) where
  -- they stand where a line leaves a boot
  abbrev pub StandTo : Outcome → Type 0
  StandTo o = LeavesTo (StandAt K) o

  module _ (before : List SessionTurn) (r : RunningState) (story : Story L before r) (rise : BootsRise 0 before) (all : StandIn K r) where
    abbrev S : SiteState
    S = site_of r

    sound_here : (st : LanesState) → r.sessions.store ≡ Some st → LanesAreSound st
    sound_here st is = all_sound story.setup 0 before r.sessions st story.lead is

    limits_here : (st : LanesState) → r.sessions.store ≡ Some st → KeepLimits st.windows
    limits_here st is = lead_limits sessions_laws.limits sessions_laws.windows story.setup 0 before r.sessions st story.counts story.lead is

    whole_here : WholeIf L K S
    whole_here = λ st is left. record {
      fresh = λ serial up. sessions_laws.new story.setup 0 before r.sessions st serial rise story.lead is left up;
      all = (all st is left).all;
      later = story.later st is;
      twins = (all st is left).twins;
    }

    -- lines that leave the sessions and the connections as they are
    stand_same : (a : Answer RunningState) → Leaves (SameSessions r) a → StandTo (in_boot r a)
    stand_same Refused same = all
    stand_same (Done q text) (sessions, start, places) = λ st is left.
        let P : SessionsState → Type 0 = λ x. x.store ≡ Some st in
        let Q : SessionsState → Type 0 = λ x. x.serial < 2 ^ 64 - 1 in
        subst (λ (x : List (Option Seat)). ArePlaced K x st) (sym places) (all st (subst P sessions is) (subst Q sessions left))

    -- lines about connections that leave the sessions as they are
    stand_still : (a : Answer SiteState) → Leaves (Stays draw S) a → ((st : LanesState) → r.sessions.store ≡ Some st → ArePlaced K r.seats.seats st → Leaves (λ (v : SiteState). ArePlaced K v.seats.seats st) a) → StandTo (in_boot r (within (with_site r) a))
    stand_still Refused same each = all
    stand_still (Done v text) (same, drew) each = λ st is left.
        let P : SessionsState → Type 0 = λ x. x.store ≡ Some st in
        let Q : SessionsState → Type 0 = λ x. x.serial < 2 ^ 64 - 1 in
        each st (subst P same is) (all st (subst P same is) (subst Q same left))

    -- what steps of a connection come to
    stand_whole : (v : SiteState) → WholeIf L K v → StandIn K (with_site r v)
    stand_whole v whole = λ st is left. (let it : IsWhole L K v st = whole st is left in record { all = it.all; twins = it.twins })

    stand_step : (a : Answer SiteState) → Leaves (WholeIf L K) a → StandTo (in_boot r (within (with_site r) a))
    stand_step Refused goes = all
    stand_step (Done v text) goes = stand_whole v goes

    stand_run : (n : ℕ) (replies : List Bool) → All StepHearsSpelled (run_makes S n replies) → StandTo (by_replies r (seats.Run n) replies (run_line S n replies))
    stand_run n replies heard = go (can_run S n) refl
      where
        by : Bool → Outcome
        by can = by_replies r (seats.Run n) replies (cond can (run_from S [] n replies) (Some Refused))

        as_run : by (can_run S n) ≡ by_replies r (seats.Run n) replies (run_line S n replies)
        as_run = ap (by_replies r (seats.Run n) replies) (line_of_run S n replies)

        came : StandIn K (with_site r (after_steps S n replies)) → (o : Option (Answer SiteState)) → RunsTo (after_steps S n replies) o → StandTo (by_replies r (seats.Run n) replies o)
        came after None to = after
        came after (Some Refused) to = absurd to
        came after (Some (Done v out)) to = subst (λ (w : SiteState). StandIn K (with_site r w)) (sym to) after

        run : (can : Bool) → can_run S n ≡ can → StandTo (by can)
        run true can =
            let near : is_beyond n ≡ false = near_of (is_beyond n) (is_some r.sessions.store) (is_some (seat_at r.seats.seats n)) can in
            let bricks : is_some r.sessions.store ≡ true = bricks_of (is_beyond n) (is_some r.sessions.store) (is_some (seat_at r.seats.seats n)) can in
            came (stand_whole (after_steps S n replies) (steps_go L K kept draw laws S n replies story.drew heard whole_here))
            (run_from S [] n replies) (run_to S [] n replies near bricks)
        run false none = all

        go : (can : Bool) → can_run S n ≡ can → StandTo (by_replies r (seats.Run n) replies (run_line S n replies))
        go can is = subst (λ (o : Outcome). StandTo o) (ap by (sym is) ∙ as_run) (run can is)

    stand_line : (line : SeatLine) (replies : List Bool) → LineHearsSpelled S line replies → StandTo (by_replies r line replies (seat_line S line replies))
    stand_line (seats.Conn n) replies heard = stand_still (conn_line S n) (stays_conn draw S n story.drew) (λ st is here. conn_whole L K kept draw laws S n st (sound_here st is) (limits_here st is) here)
    stand_line (seats.Bytes n bytes) replies heard = stand_still (bytes_line S n bytes) (stays_bytes draw S n bytes story.drew) (λ st is here. bytes_whole L K kept draw laws S n bytes st here)
    stand_line (seats.End n) replies heard = stand_still (end_line S n) (stays_end draw S n story.drew) (λ st is here. end_whole L K kept draw laws S n st here)
    stand_line (seats.Step n) [] heard = all
    stand_line (seats.Step n) (keeps ∷ more) heard = stand_step (step_line S n keeps) (step_goes L K kept draw laws S n keeps story.drew (hears_done L K kept draw laws S n keeps more heard) whole_here)
    stand_line (seats.Run n) replies heard = stand_run n replies heard

    stand_seat : (line : SeatLine) (replies : List Bool) → All StepHearsSpelled (seat_makes r line replies) → StandTo (seat_over r line replies)
    unfolding seat_over
    stand_seat line replies heard = go r.site heard
      where
        go : (site : Bool) → All StepHearsSpelled (if site then line_makes S line replies else []) → StandTo (cond site (by_replies r line replies (seat_line S line replies)) (RefusedIn (Running r)))
        go true heard = stand_line line replies heard
        go false heard = all

    -- the steps that a line makes
    known_seat : (line : SeatLine) (replies : List Bool) → All StepHearsSpelled (seat_makes r line replies) → All (IsStep L K) (seat_makes r line replies)
    known_seat line replies heard = go r.site heard
      where
        go : (site : Bool) → All StepHearsSpelled (if site then line_makes S line replies else []) → All (IsStep L K) (if site then line_makes S line replies else [])
        go true heard = known_line L K kept draw laws S line replies story.drew heard whole_here
        go false heard = All-nil (IsStep L K)

    -- lines about sessions

    stand_session : (line : SessionLine) (a : Answer SessionsState) → session_line r.sessions line ≡ a → StandTo (in_boot r (within (with_sessions r) a))
    stand_session line Refused is = all
    stand_session line (Done t text) is = λ later at left. by (turn_bricks r.sessions t (Does line text) later is at) later at left
      where
        drew : Drew r.sessions t
        drew = subst (Leaves (Drew r.sessions)) is (session_drew r.sessions line)

        on : Lead r.sessions (Does line text ∷ []) t
        on = (t, is, refl)

        to : Lead (set_up story.setup 0) (before ++ Does line text ∷ []) t
        to = lead_on (set_up story.setup 0) r.sessions t before (Does line text ∷ []) story.lead on

        unlike : (v : Version) → v.serial < r.sessions.serial → v ≡ nonce r.sessions → ⊥
        unlike v less same = let serial : v.serial ≡ r.sessions.serial = ap (λ (x : Version). x.serial) same in omega (arith, less, serial)

        is_line : session_line r.sessions line ≡ Done t text
        is_line = is

        by : (st : LanesState) × (r.sessions.store ≡ Some st) → (later : LanesState) → t.store ≡ Some later → t.serial < 2 ^ 64 - 1 → ArePlaced K r.seats.seats later
        by (st, there) later at left =
            let old : ArePlaced K r.seats.seats st = all st there (under r.sessions.serial t.serial (serial_up r.sessions t story.drew.small drew) left) in
            record { all = record { each = λ i a is. still i a is (old.all.each i a is); pairs = old.all.pairs }; twins = old.twins }
          where
            early : (i : ℕ) (a : Seat) (v : Version) → seat_at r.seats.seats i ≡ Some a → write_owed a.connection.stage ≡ Some v → v.serial < r.sessions.serial
            early i a v is owed =
                let has : SeatHasDrawn r.boot.start.boot r.sessions.serial a = subst (IfDrew r.boot.start.boot r.sessions.serial) is (drew_here r.boot.start.boot r.sessions.serial r.seats.seats i story.drew.drew) in
                let was : WasDrawn r.boot.start.boot r.sessions.serial v = subst (λ (o : Option Version). IfSome o (WasDrawn r.boot.start.boot r.sessions.serial)) owed has.owed in was.1

            still : (i : ℕ) (a : Seat) → seat_at r.seats.seats i ≡ Some a → IsGood st a → IsGood later a
            still i a is good = record {
              stands = laws.calls a st later good.stands (all_sound story.setup 0 (before ++ Does line text ∷ []) t later to at)
                  (lead_limits sessions_laws.limits sessions_laws.windows story.setup 0 (before ++ Does line text ∷ []) t later story.counts to at)
                  (λ number call twin held. sessions_laws.calls story.setup 0 before r.sessions t line text st later number call story.lead is_line there at held);
              orders = good.orders;
              owed = λ v owed. sessions_laws.others story.setup 0 before r.sessions t line text st later v story.lead is_line there at (good.owed v owed) (unlike v (early i a v is owed));
            }

    stand_reopen : (how : Opening) → StandTo (reopens r how)
    stand_reopen (Opened start) = λ st is left. no_seats_placed K st
    stand_reopen (UnstartedBoot refusal) = all

    -- connections stand behind a line over a boot, and so they do before each step that it makes
    stand_over : (line : Line) (replies : Replies) → All StepHearsSpelled (makes_over r line replies) → StandTo (line_over r line replies) × All (IsStep L K) (makes_over r line replies)
    stand_over lines.Pass replies heard = (all, All-nil (IsStep L K))
    stand_over (lines.Head line) replies heard = (all, All-nil (IsStep L K))
    stand_over (lines.Call n line) replies heard = (stand_same (within (with_called r) (call_step r.boot r.callers n line)) (as_sessions r (within (with_called r) (call_step r.boot r.callers n line)) (same_entered r n line)), All-nil (IsStep L K))
    stand_over (lines.Commit n) replies heard = (stand_same (commit_step r n (first_keeps replies.keeps)) (as_sessions r (commit_step r n (first_keeps replies.keeps)) (same_commit r n (first_keeps replies.keeps))), All-nil (IsStep L K))
    stand_over (lines.Boot line) replies heard = (stand_same (boot_line r line) (same_boot r line), All-nil (IsStep L K))
    stand_over lines.Reopen replies heard = (stand_reopen (next_opening r replies.again), All-nil (IsStep L K))
    stand_over (lines.Session line) replies heard = (stand_session line (session_line r.sessions line) refl, All-nil (IsStep L K))
    stand_over (lines.Seat line) replies heard = (stand_seat line replies.keeps heard, known_seat line replies.keeps heard)

  -- one turn

  -- connections stand behind an outcome, and before each of these steps
  abbrev pub AllTo : Outcome → List StepMade → Type 0
  AllTo o steps = StandTo o × All (IsStep L K) steps

  stand_head : (head : Head) (a : Answer Head) → StandTo (in_head head a)
  stand_head head Refused = tt
  stand_head head (Done next text) = tt

  stand_opened : (head : Head) (how : Opening) (line : Line) (replies : Replies) → HasCounts head.setup.counts → ((st : LanesState) → L st) → BootsRise 0 (first_start (Heading head) (opened_target head how)) → All StepHearsSpelled (makes_on (opened_target head how) line replies)
      → AllTo (line_on (opened_target head how) line replies) (makes_on (opened_target head how) line replies)
  stand_opened head (Opened start) line replies counts later rise heard =
      let r : RunningState = started (set_up head.setup 0) (no_seats head.parts) head.site start in
      let story : Story L (Boots start.boot ∷ []) r = record {
        setup = head.setup;
        counts = counts;
        lead = (reopened (set_up head.setup 0) start.boot, refl, refl);
        drew = first_drew head start;
        later = λ st is. later st;
      } in
      stand_over (Boots start.boot ∷ []) r story rise (λ st is left. no_seats_placed K st) line replies heard
  stand_opened head (UnstartedBoot refusal) line replies counts later rise heard = (tt, All-nil (IsStep L K))

  stand_lines : (s : State) (before : List SessionTurn) → StoryOf L before s → StandAt K s → (line : Line) (replies : Replies) → BootsRise 0 (before ++ first_start s (target_of s (is_event line) replies.first)) → All StepHearsSpelled (makes_on (target_of s (is_event line) replies.first) line replies)
      → AllTo (step s line replies) (makes_on (target_of s (is_event line) replies.first) line replies)
  unfolding step
  stand_lines (Running r) before story all line replies rise heard = stand_over before r story (subst (BootsRise 0) (append-nil before) rise) all line replies heard
  stand_lines (Heading head) before (none, counts, later) all line replies rise heard = go (is_event line) (subst (λ (xs : List SessionTurn). BootsRise 0 (xs ++ first_start (Heading head) (target_of (Heading head) (is_event line) replies.first))) none rise) heard
    where
      go : (event : Bool) → BootsRise 0 (first_start (Heading head) (target_of (Heading head) event replies.first)) → All StepHearsSpelled (makes_on (target_of (Heading head) event replies.first) line replies)
          → AllTo (line_on (target_of (Heading head) event replies.first) line replies) (makes_on (target_of (Heading head) event replies.first) line replies)
      go false rise heard = (stand_head head (head_line head line), All-nil (IsStep L K))
      go true rise heard = stand_opened head (opening head.parts head.plans head.limits replies.first) line replies counts later rise heard

  stand_answer : (s : State) (before : List SessionTurn) → StoryOf L before s → StandAt K s → (o : Option Line) (replies : Replies) → BootsRise 0 (before ++ starts_by s o replies) → All StepHearsSpelled (makes_to s o replies) → AllTo (answer_to s o replies) (makes_to s o replies)
  stand_answer s before story all None replies rise heard = (all, All-nil (IsStep L K))
  stand_answer s before story all (Some line) replies rise heard = stand_lines s before story all line replies rise heard

  pub stand_turn : (s : State) (before : List SessionTurn) → StoryOf L before s → StandAt K s → (turn : Turn) → BootsRise 0 (before ++ starts_on s turn) → All StepHearsSpelled (turn_makes s turn) → AllTo (turn_outcome s turn) (turn_makes s turn)
  unfolding turn_outcome starts_on turn_makes
  stand_turn s before story all turn rise heard = stand_answer s before story all (line_of turn.line) turn.replies rise heard

  -- boots that rise over all turns rise over the first

  pub rise_first : (xs ys : List SessionTurn) (n : ℕ) → BootsRise n (xs ++ ys) → BootsRise n xs
  rise_first [] ys n rise = tt
  rise_first (Does line text ∷ xs) ys n rise = rise_first xs ys n rise
  rise_first (Boots m ∷ xs) ys n (less, rise) = (less, rise_first xs ys m rise)
  rise_first (Lends steps serial ∷ xs) ys n rise = rise_first xs ys n rise

  -- a turn begins with the start of the first boot, if it starts that
  begins_to : (s : State) (o : Option Line) (replies : Replies) (t : State) (text : List ℕ) → (rest : List SessionTurn) × (turns_to s o replies t text ≡ starts_by s o replies ++ rest)
  begins_to s None replies t text = ([], refl)
  begins_to s (Some line) replies t text = (turns_by (target_of s (is_event line) replies.first) line replies t text, refl)

  begins_so : (s : State) (turn : Turn) (t : State) (text : List ℕ) → (rest : List SessionTurn) × (turn_on_sessions s turn t text ≡ starts_on s turn ++ rest)
  unfolding turn_on_sessions starts_on
  begins_so s turn t text = begins_to s (line_of turn.line) turn.replies t text

  pub rise_at : (before : List SessionTurn) (s : State) (turn : Turn) (t : State) (text : List ℕ) (more : List SessionTurn) → BootsRise 0 (before ++ (turn_on_sessions s turn t text ++ more)) → BootsRise 0 (before ++ starts_on s turn)
  rise_at before s turn t text more rise =
      let its = begins_so s turn t text in
      let starts : List SessionTurn = starts_on s turn in
      let one : before ++ (turn_on_sessions s turn t text ++ more) ≡ before ++ ((starts ++ its.0) ++ more) = ap (λ (xs : List SessionTurn). before ++ (xs ++ more)) its.1 in
      let two : before ++ ((starts ++ its.0) ++ more) ≡ (before ++ starts) ++ (its.0 ++ more) = ap (λ (xs : List SessionTurn). before ++ xs) (append_assoc starts its.0 more) ∙ sym (append_assoc before starts (its.0 ++ more)) in
      rise_first (before ++ starts) (its.0 ++ more) 0 (subst (BootsRise 0) (one ∙ two) rise)

  -- the story goes on by what a turn reaches

  later_by : (before turns : List SessionTurn) (r q : RunningState) → Story L before r → Lead r.sessions turns q.sessions → (later : LanesState) → q.sessions.store ≡ Some later → L later
  later_by before turns r q story lead later at =
      let old = lead_bricks r.sessions q.sessions turns later lead at in
      kept.goes old.0 later (sessions_laws.events story.setup 0 before turns r.sessions q.sessions old.0 later story.lead lead old.1 at) (story.later old.0 old.1)

  pub goes_on_story : (s t : State) (before turns : List SessionTurn) → StoryOf L before s → Reaches s turns t → StoryOf L (before ++ turns) t
  goes_on_story (Heading head) t before turns (none, counts, later) (inl (next, is, nothing, keeps)) =
      subst (StoryOf L (before ++ turns)) (sym is) (ap (λ (xs : List SessionTurn). xs ++ turns) none ∙ nothing, keeps counts, later)
  goes_on_story (Heading head) t before turns (none, counts, later) (inr (q, is, lead, drew)) =
      subst (StoryOf L (before ++ turns)) (sym is) (record {
        setup = head.setup;
        counts = counts;
        lead = subst (λ (xs : List SessionTurn). Lead (set_up head.setup 0) (xs ++ turns) q.sessions) (sym none) lead;
        drew = drew;
        later = λ st at. later st;
      })
  goes_on_story (Running r) t before turns story (q, is, lead, drew) =
      subst (StoryOf L (before ++ turns)) (sym is) (record {
        setup = story.setup;
        counts = story.counts;
        lead = lead_on (set_up story.setup 0) r.sessions q.sessions before turns story.lead lead;
        drew = drew;
        later = later_by before turns r q story lead;
      })

  pub drawn_in : (s : State) (before : List SessionTurn) → StoryOf L before s → StateHasDrawn s
  drawn_in (Heading head) before story = tt
  drawn_in (Running r) before story = story.drew

  pub later_in : (s : State) (before : List SessionTurn) → StoryOf L before s → LaterAt L s
  later_in (Heading head) before story = tt
  later_in (Running r) before story = story.later

  pub later_to : (s : State) (turn : Turn) (before : List SessionTurn) (o : Outcome) → StoryOf L before s → LeadsTo s (starts_on s turn) (turn_on_sessions s turn) o → LeavesTo (LaterAt L) o
  later_to s turn before (RefusedIn t) story leads = later_in t (before ++ starts_on s turn) (goes_on_story s t before (starts_on s turn) story leads)
  later_to s turn before (DoneTo t text) story leads = later_in t (before ++ turn_on_sessions s turn t text) (goes_on_story s t before (turn_on_sessions s turn t text) story leads)
  later_to s turn before (UnstartedIn t refusal) story leads = later_in t (before ++ starts_on s turn) (goes_on_story s t before (starts_on s turn) story leads)
  later_to s turn before (UnderWayIn t) story leads = later_in t (before ++ turn_on_sessions s turn t []) (goes_on_story s t before (turn_on_sessions s turn t []) story leads)
