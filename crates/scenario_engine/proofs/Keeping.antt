-- What each line keeps, all turns keep, and so do the boots that they end.
use Rattle.std.proofs.Common.{◌≡◌, ℕ, ◌+◌, Bool, true, false, if◌then◌else◌, List, [], ◌∷◌, ◌++◌, length, Option, Some, None, refl, arith}
use Rattle.std.specs.Prelude.{All, nat_lt}
use Rattle.std.proofs.lemmas.List.Elements.{All-nil, All-cons, All-append}
use Rattle.boot_core.specs.declared.boot.Start.{Start}
use Rattle.boot_core.specs.Boot.{BootValue}
use Rattle.scenario_text.specs.declared.line.Line.{Line}
use Rattle.scenario_text.specs.declared.line.Line.TheVariants as lines
use Rattle.scenario_text.specs.declared.line.TheConstants.{MAX_LINE_BYTES}
use Rattle.scenario_text.specs.Line.{is_event}
use Rattle.scenario_text.specs.Reading.{line_of}
use Rattle.scenario_text.specs.Spelling.{IsInRange, IsCallInRange}
use Rattle.scenario_text.specs.declared.boot_line.BootLine.{BootLine}
use Rattle.scenario_text.specs.declared.session_line.SessionLine.{SessionLine}
use Rattle.scenario_text.specs.declared.call_line.CallLine.{CallLine}
use Rattle.scenario_text.specs.declared.call_line.CallLine.TheVariants as calls
use Rattle.line_steps.proofs.Stepping.{IsShortCall}
use Rattle.scenario_text.proofs.Spelled.{line_in_range}
use Rattle.line_steps.specs.declared.head.Head.{Head}
use Rattle.scenario_text.specs.Answer.{Answer, Refused, Done, within}
use Rattle.line_steps.specs.Callers.{call_step}
use Rattle.line_steps.specs.Head.{head_line}
use Rattle.scenario_text.proofs.Leaving.{Leaves}
use Rattle.scenario_engine.specs.Engine.{Replies, first_keeps, Target, TheHead, TheBoot, TheUnstarted, opened_target, target_of, in_head, next_opening, reopens, line_over, line_on, step, ended_by, ends_over, ends_on, ended_boots}
use Rattle.scenario_engine.specs.Seats.{in_boot, seat_over}
use Rattle.scenario_text.specs.declared.seat_line.SeatLine.{SeatLine}
use Rattle.seat_lines.specs.Site.{no_seats}
use Rattle.scenario_engine.specs.Opening.{StartReplies, Opening, Opened, UnstartedBoot, opening}
use Rattle.session_steps.specs.Sessions.{session_line}
use Rattle.session_steps.specs.Setup.{set_up}
use Rattle.scenario_engine.specs.Running.{started, reopened_over, with_called, with_sessions, commit_step, boot_line}
use Rattle.scenario_engine.specs.State.{RunningState, State, Heading, Running, Outcome, RefusedIn, DoneTo, UnstartedIn, UnderWayIn}
use Rattle.scenario_engine.specs.Transcript.{Turn, answer_to, turn_outcome, ends_to, turn_ends, boots_in, boots_from, end_from, last_state, RefusedAt, TooLong, Unstarted, UnderWay}

-- what an outcome leaves is so
abbrev pub LeavesTo : (State → Type 0) → Outcome → Type 0
LeavesTo P (RefusedIn s) = P s
LeavesTo P (DoneTo s text) = P s
LeavesTo P (UnstartedIn s refusal) = P s
LeavesTo P (UnderWayIn s) = P s

-- a put of a whole line
abbrev pub IsShortLine : Line → Type 0
IsShortLine (lines.Call c line) = IsShortCall line
IsShortLine _ = Unit {0}

short_call : (line : CallLine) → IsCallInRange line → IsShortCall line
short_call (calls.Enter name) range = tt
short_call calls.Exit range = tt
short_call (calls.Read table key) range = tt
short_call (calls.List table) range = tt
short_call (calls.Put table key bytes) range = omega (arith, range.2.0)

-- a line in its ranges is short
short_line : (line : Line) → IsInRange line → IsShortLine line
short_line (lines.Call c line) range = short_call line range.1
short_line _ range = tt

-- it holds of the head or the boot of a state
abbrev pub HoldsIn : (Head → Type 0) → (RunningState → Type 0) → State → Type 0
HoldsIn H R (Heading head) = H head
HoldsIn H R (Running r) = R r

-- Each line keeps what holds of a head, and of a boot with its callers; and a boot that starts has it.
pub record Keeps (H : Head → Type 0) (R : RunningState → Type 0) : Type 0 where
  pub heads : (head : Head) (line : Line) → H head → Leaves H (head_line head line)
  pub opens : (head : Head) (replies : StartReplies) (start : Start) → H head → opening head.parts head.plans head.limits replies ≡ Opened start → R (started (set_up head.setup 0) (no_seats head.parts) head.site start)
  pub reopens : (r : RunningState) (replies : StartReplies) (start : Start) → R r → next_opening r replies ≡ Opened start → R (reopened_over r start)
  pub commits : (r : RunningState) (n : ℕ) (keeps : Bool) → R r → Leaves R (commit_step r n keeps)
  pub calls : (r : RunningState) (n : ℕ) (line : CallLine) → IsShortCall line → R r → Leaves R (within (with_called r) (call_step r.boot r.callers n line))
  pub boots : (r : RunningState) (line : BootLine) → R r → Leaves R (boot_line r line)
  pub sessions : (r : RunningState) (line : SessionLine) → R r → Leaves R (within (with_sessions r) (session_line r.sessions line))
  pub seats : (r : RunningState) (line : SeatLine) (replies : List Bool) → R r → LeavesTo (HoldsIn H R) (seat_over r line replies)

-- it holds of what a line is done to
abbrev HoldsOf : (Head → Type 0) → (RunningState → Type 0) → Target → Type 0
HoldsOf H R (TheHead head) = H head
HoldsOf H R (TheBoot r) = R r
HoldsOf H R (TheUnstarted head refusal) = H head

module _ (H : Head → Type 0) (R : RunningState → Type 0) (B : BootValue → Type 0) (keeps : Keeps H R) (of_boot : (r : RunningState) → R r → B r.boot) where
  kept_opened : (head : Head) (replies : StartReplies) (how : Opening) → opening head.parts head.plans head.limits replies ≡ how → H head → HoldsOf H R (opened_target head how)
  kept_opened head replies (Opened start) opens holds = keeps.opens head replies start holds opens
  kept_opened head replies (UnstartedBoot refusal) opens holds = holds

  kept_target : (s : State) (event : Bool) (replies : StartReplies) → HoldsIn H R s → HoldsOf H R (target_of s event replies)
  kept_target (Running r) event replies holds = holds
  kept_target (Heading head) false replies holds = holds
  kept_target (Heading head) true replies holds = kept_opened head replies (opening head.parts head.plans head.limits replies) refl holds

  kept_in_head : (head : Head) (a : Answer Head) → H head → Leaves H a → LeavesTo (HoldsIn H R) (in_head head a)
  kept_in_head head Refused holds left = holds
  kept_in_head head (Done next text) holds left = left

  kept_in_boot : (r : RunningState) (a : Answer RunningState) → R r → Leaves R a → LeavesTo (HoldsIn H R) (in_boot r a)
  kept_in_boot r Refused holds left = holds
  kept_in_boot r (Done next text) holds left = left

  kept_reopens : (r : RunningState) (replies : StartReplies) (how : Opening) → next_opening r replies ≡ how → R r → LeavesTo (HoldsIn H R) (reopens r how)
  kept_reopens r replies (Opened start) opens holds = keeps.reopens r replies start holds opens
  kept_reopens r replies (UnstartedBoot refusal) opens holds = holds

  kept_line_over : (r : RunningState) (line : Line) (replies : Replies) → IsShortLine line → R r → LeavesTo (HoldsIn H R) (line_over r line replies)
  kept_line_over r lines.Pass replies short holds = holds
  kept_line_over r (lines.Head line) replies short holds = holds
  kept_line_over r (lines.Call n line) replies short holds =
      kept_in_boot r (within (with_called r) (call_step r.boot r.callers n line)) holds (keeps.calls r n line short holds)
  kept_line_over r (lines.Commit n) replies short holds =
      kept_in_boot r (commit_step r n (first_keeps replies.keeps)) holds (keeps.commits r n (first_keeps replies.keeps) holds)
  kept_line_over r (lines.Boot line) replies short holds = kept_in_boot r (boot_line r line) holds (keeps.boots r line holds)
  kept_line_over r lines.Reopen replies short holds =
      kept_reopens r replies.again (next_opening r replies.again) refl holds
  kept_line_over r (lines.Session line) replies short holds =
      kept_in_boot r (within (with_sessions r) (session_line r.sessions line)) holds (keeps.sessions r line holds)
  kept_line_over r (lines.Seat line) replies short holds = keeps.seats r line replies.keeps holds

  kept_line_on : (target : Target) (line : Line) (replies : Replies) → IsShortLine line → HoldsOf H R target → LeavesTo (HoldsIn H R) (line_on target line replies)
  kept_line_on (TheHead head) line replies short holds = kept_in_head head (head_line head line) holds (keeps.heads head line holds)
  kept_line_on (TheBoot r) line replies short holds = kept_line_over r line replies short holds
  kept_line_on (TheUnstarted head refusal) line replies short holds = holds

  kept_step : (s : State) (line : Line) (replies : Replies) → IsShortLine line → HoldsIn H R s → LeavesTo (HoldsIn H R) (step s line replies)
  unfolding step
  kept_step s line replies short holds =
      kept_line_on (target_of s (is_event line) replies.first) line replies short (kept_target s (is_event line) replies.first holds)

  kept_answer : (s : State) (o : Option Line) (replies : Replies) → ((line : Line) → o ≡ Some line → IsShortLine line) → HoldsIn H R s → LeavesTo (HoldsIn H R) (answer_to s o replies)
  kept_answer s None replies short holds = holds
  kept_answer s (Some line) replies short holds = kept_step s line replies (short line refl) holds

  kept_turn : (s : State) (turn : Turn) → HoldsIn H R s → LeavesTo (HoldsIn H R) (turn_outcome s turn)
  unfolding turn_outcome
  kept_turn s turn holds =
      kept_answer s (line_of turn.line) turn.replies (λ line is. short_line line (line_in_range turn.line line is)) holds

  -- the boots that lines end

  kept_ended_by : (r : RunningState) (how : Opening) → R r → All B (ended_by r how)
  kept_ended_by r (Opened start) holds = All-cons B r.boot [] (of_boot r holds) (All-nil B)
  kept_ended_by r (UnstartedBoot refusal) holds = All-nil B

  kept_ends_over : (r : RunningState) (line : Line) (replies : Replies) → R r → All B (ends_over r line replies)
  kept_ends_over r lines.Pass replies holds = All-nil B
  kept_ends_over r (lines.Head line) replies holds = All-nil B
  kept_ends_over r (lines.Call n line) replies holds = All-nil B
  kept_ends_over r (lines.Commit n) replies holds = All-nil B
  kept_ends_over r (lines.Boot line) replies holds = All-nil B
  kept_ends_over r lines.Reopen replies holds = kept_ended_by r (next_opening r replies.again) holds
  kept_ends_over r (lines.Session line) replies holds = All-nil B
  kept_ends_over r (lines.Seat line) replies holds = All-nil B

  kept_ends_on : (target : Target) (line : Line) (replies : Replies) → HoldsOf H R target → All B (ends_on target line replies)
  kept_ends_on (TheHead head) line replies holds = All-nil B
  kept_ends_on (TheBoot r) line replies holds = kept_ends_over r line replies holds
  kept_ends_on (TheUnstarted head refusal) line replies holds = All-nil B

  kept_ended_boots : (s : State) (line : Line) (replies : Replies) → HoldsIn H R s → All B (ended_boots s line replies)
  unfolding ended_boots
  kept_ended_boots s line replies holds =
      kept_ends_on (target_of s (is_event line) replies.first) line replies (kept_target s (is_event line) replies.first holds)

  kept_ends_to : (s : State) (o : Option Line) (replies : Replies) → HoldsIn H R s → All B (ends_to s o replies)
  kept_ends_to s None replies holds = All-nil B
  kept_ends_to s (Some line) replies holds = kept_ended_boots s line replies holds

  kept_turn_ends : (s : State) (turn : Turn) → HoldsIn H R s → All B (turn_ends s turn)
  unfolding turn_ends
  kept_turn_ends s turn holds = kept_ends_to s (line_of turn.line) turn.replies holds

  -- all turns

  kept_boots_in : (s : State) → HoldsIn H R s → All B (boots_in s)
  kept_boots_in (Heading head) holds = All-nil B
  kept_boots_in (Running r) holds = All-cons B r.boot [] (of_boot r holds) (All-nil B)

  pub kept_ending : (s : State) (n : ℕ) (turns : List Turn) → HoldsIn H R s → HoldsIn H R (last_state (end_from s n turns))
  kept_ending s n [] holds = holds
  kept_ending s n (turn ∷ turns) holds =
      go (nat_lt MAX_LINE_BYTES (length turn.line)) (turn_outcome s turn) (kept_turn s turn holds) (λ t later. kept_ending t (n + 1) turns later)
    where
      go : (long : Bool) (o : Outcome) → LeavesTo (HoldsIn H R) o → ((t : State) → HoldsIn H R t → HoldsIn H R (last_state (end_from t (n + 1) turns))) → HoldsIn H R (last_state (if long then TooLong s n else (elim o [
        | RefusedIn t ↦ RefusedAt t n
        | DoneTo t text ↦ end_from t (n + 1) turns
        | UnstartedIn t refusal ↦ Unstarted t refusal
        | UnderWayIn t ↦ UnderWay t n
      ])))
      go true o left later = holds
      go false (RefusedIn t) left later = left
      go false (DoneTo t text) left later = later t left
      go false (UnstartedIn t refusal) left later = left
      go false (UnderWayIn t) left later = left

  pub kept_boots : (s : State) (turns : List Turn) → HoldsIn H R s → All B (boots_from s turns)
  kept_boots s [] holds = kept_boots_in s holds
  kept_boots s (turn ∷ turns) holds =
      go (nat_lt MAX_LINE_BYTES (length turn.line)) (turn_outcome s turn) (kept_turn s turn holds) (λ t later. kept_boots t turns later)
    where
      ends : (bs : List BootValue) → All B bs → All B (turn_ends s turn ++ bs)
      ends bs more = All-append B (turn_ends s turn) bs (kept_turn_ends s turn holds) more

      go : (long : Bool) (o : Outcome) → LeavesTo (HoldsIn H R) o → ((t : State) → HoldsIn H R t → All B (boots_from t turns)) → All B (if long then boots_in s else (turn_ends s turn ++ (elim o [
        | RefusedIn t ↦ boots_in t
        | DoneTo t text ↦ boots_from t turns
        | UnstartedIn t refusal ↦ boots_in t
        | UnderWayIn t ↦ boots_in t
      ])))
      go true o left later = kept_boots_in s holds
      go false (RefusedIn t) left later = ends (boots_in t) (kept_boots_in t left)
      go false (DoneTo t text) left later = ends (boots_from t turns) (later t left)
      go false (UnstartedIn t refusal) left later = ends (boots_in t) (kept_boots_in t left)
      go false (UnderWayIn t) left later = ends (boots_in t) (kept_boots_in t left)

  pub kept_at_end : (s : State) (n : ℕ) (turns : List Turn) → HoldsIn H R s → All B (boots_in (last_state (end_from s n turns)))
  kept_at_end s n turns holds = kept_boots_in (last_state (end_from s n turns)) (kept_ending s n turns holds)
