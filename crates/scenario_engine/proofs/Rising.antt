-- The boots that a scenario starts rise, over a keeper that tells.
use Rattle.std.proofs.Common.{◌≡◌, ℕ, ◌+◌, ◌<◌, Bool, true, false, if◌then◌else◌, List, [], ◌∷◌, ◌++◌, length, Option, Some, None, refl, sym, ap, ◌∙◌, subst, append_assoc, append-nil, arith}
use Rattle.std.specs.Prelude.{nat_lt}
use Rattle.boot_core.specs.Boot.{BootValue}
use Rattle.boot_core.specs.declared.boot.Start.{Start}
use Rattle.boot_core.specs.declared.refusals.CommitRefusal.{CommitRefusal}
use Rattle.call_ticket.specs.Ticket.{TicketValue}
use Rattle.container_core.specs.Start.{last_boot}
use Rattle.crash_base.specs.declared.rows.RowWrite.{RowWrite}
use Rattle.line_steps.specs.Callers.{caller_at, call_step}
use Rattle.line_steps.specs.Head.{head_line, head_step}
use Rattle.line_steps.specs.declared.callers.Caller.{Caller}
use Rattle.line_steps.specs.declared.callers.Caller.TheVariants.{Absent, Live}
use Rattle.line_steps.specs.declared.head.Head.{Head}
use Rattle.scenario_text.specs.Answer.{Answer, Refused, Done, within}
use Rattle.scenario_text.specs.Line.{is_event}
use Rattle.scenario_text.specs.Reading.{line_of}
use Rattle.scenario_text.specs.declared.line.Line.{Line}
use Rattle.scenario_text.specs.declared.line.Line.TheVariants as lines
use Rattle.scenario_text.specs.declared.line.TheConstants.{MAX_LINE_BYTES}
use Rattle.scenario_text.proofs.Leaving.{Leaves, leaves-weaker}
use Rattle.outside.specs.Keeper.{KeeperTold}
use Rattle.session_steps.specs.Promise.{SessionTurn, Does, Boots, Lends, BootsRise}
use Rattle.session_steps.specs.Lent.{LentStep}
use Rattle.session_steps.specs.Sessions.{session_line}
use Rattle.session_steps.specs.Setup.{set_up}
use Rattle.scenario_engine.specs.Engine.{Replies, first_keeps, target_of, opened_target, in_head, next_opening, reopens, line_over, line_on, step, ended_by, ends_over, ends_on, ended_boots}
use Rattle.scenario_engine.specs.Seats.{in_boot, seat_over}
use Rattle.scenario_text.specs.declared.seat_line.SeatLine.{SeatLine}
use Rattle.scenario_text.specs.declared.seat_line.SeatLine.TheVariants as seats
use Rattle.scenario_engine.specs.Lending.{give_lends, line_lends}
use Rattle.seat_lines.specs.Site.{no_seats}
use Rattle.scenario_engine.proofs.Keeping.{LeavesTo}
use Rattle.scenario_engine.proofs.SeatRows.{BootIn, kept_seat, start_changed}
use Rattle.scenario_engine.specs.Opening.{Opening, Opened, UnstartedBoot, opening}
use Rattle.scenario_engine.specs.Running.{started, reopened_over, commit_ends, with_keeper, boot_refusal, caller_commits, with_called, with_sessions, commit_step, boot_line}
use Rattle.scenario_engine.specs.Sessions.{lent_if_any, lent_in, seat_turns, start_turns, turns_over, turns_by, first_start, starts_by, starts_on, turns_to, turn_on_sessions, session_turns}
use Rattle.scenario_engine.specs.State.{RunningState, State, Heading, Running, Outcome, RefusedIn, DoneTo, UnstartedIn, UnderWayIn, site_of}
use Rattle.scenario_engine.specs.Told.{IsOver, Follows, AreChained, Tells}
use Rattle.scenario_engine.specs.Transcript.{Turn, first, answer_to, turn_outcome, ends_to, turn_ends, boots_in, boots_from}
use Rattle.scenario_engine.proofs.Telling.{HasSameRows, rows_entered, rows_boot, rows_session}

-- numbers of boots: those that start in turns of sessions, and those of boots

abbrev pub started_in : List SessionTurn → List ℕ
started_in [] = []
started_in (Does line text ∷ turns) = started_in turns
started_in (Boots n ∷ turns) = n ∷ started_in turns
started_in (Lends steps serial ∷ turns) = started_in turns

abbrev pub numbers_of : List BootValue → List ℕ
numbers_of [] = []
numbers_of (b ∷ bs) = b.start.boot ∷ numbers_of bs

started-append : (turns more : List SessionTurn) → started_in (turns ++ more) ≡ started_in turns ++ started_in more
started-append [] more = refl
started-append (Does line text ∷ turns) more = started-append turns more
started-append (Boots n ∷ turns) more = ap (λ ns. n ∷ ns) (started-append turns more)
started-append (Lends steps serial ∷ turns) more = started-append turns more

numbers-append : (bs cs : List BootValue) → numbers_of (bs ++ cs) ≡ numbers_of bs ++ numbers_of cs
numbers-append [] cs = refl
numbers-append (b ∷ bs) cs = ap (λ ns. b.start.boot ∷ ns) (numbers-append bs cs)

-- a line leaves the start of the boot that it does not end

abbrev HasSameStart : RunningState → RunningState → Type 0
HasSameStart old new = new.boot.start ≡ old.boot.start

start_kept : (r : RunningState) (a : Answer RunningState) → Leaves (HasSameRows r) a → Leaves (HasSameStart r) a
start_kept r a same = leaves-weaker (HasSameRows r) (HasSameStart r) a (λ q same. same.0) same

start_committed : (r : RunningState) (n : ℕ) (ticket : TicketValue) (refusal : Option CommitRefusal) → Leaves (HasSameStart r) (commit_ends r n ticket refusal)
start_committed r n ticket None = refl
start_committed r n ticket (Some refusal) = refl

start_commit : (r : RunningState) (n : ℕ) (keeps : Bool) → Leaves (HasSameStart r) (commit_step r n keeps)
unfolding commit_step
start_commit r n keeps = go (caller_at r.callers n)
  where
    go : (caller : Caller) → Leaves (HasSameStart r) (caller_commits r n keeps caller)
    go Absent = tt
    go (Live ticket) = start_committed r n ticket (with_keeper (boot_refusal r ticket) ticket.call.writes keeps)

-- The boots that a line ends, and the one after it, have the numbers of the one before it and of those that it started.
abbrev Counts : State → List BootValue → List SessionTurn → (State → List ℕ → List SessionTurn) → Outcome → Type 0
Counts s ends starts turns (RefusedIn t) = numbers_of ends ++ numbers_of (boots_in t) ≡ numbers_of (boots_in s) ++ started_in starts
Counts s ends starts turns (DoneTo t text) = numbers_of ends ++ numbers_of (boots_in t) ≡ numbers_of (boots_in s) ++ started_in (turns t text)
Counts s ends starts turns (UnstartedIn t refusal) = numbers_of ends ++ numbers_of (boots_in t) ≡ numbers_of (boots_in s) ++ started_in starts
Counts s ends starts turns (UnderWayIn t) = numbers_of ends ++ numbers_of (boots_in t) ≡ numbers_of (boots_in s) ++ started_in (turns t [])

counts_same : (r : RunningState) (line : Line) (replies : Replies) (a : Answer RunningState) → ((t : State) (text : List ℕ) → started_in (turns_over r line replies t text) ≡ []) → Leaves (HasSameStart r) a → Counts (Running r) [] [] (turns_over r line replies) (in_boot r a)
counts_same r line replies Refused none same = refl
counts_same r line replies (Done q text) none same =
    ap (λ (s : Start). s.boot ∷ []) same ∙ ap (λ ns. r.boot.start.boot ∷ ns) (sym (none (Running q) text))

-- what connections do starts no boot

started_if_any : (steps : List LentStep) (serial : ℕ) (more : List SessionTurn) → started_in (lent_if_any steps serial ++ more) ≡ started_in more
started_if_any [] serial more = refl
started_if_any (step ∷ steps) serial more = refl

started_lent : (steps : List LentStep) (t : State) → started_in (lent_in steps t) ≡ []
started_lent steps (Heading head) = refl
started_lent steps (Running r) = refl

started_seat : (r : RunningState) (line : SeatLine) (replies : List Bool) (t : State) → started_in (seat_turns r line replies t) ≡ []
started_seat r (seats.Conn n) replies t = refl
started_seat r (seats.Bytes n bytes) replies t = refl
started_seat r (seats.End n) replies t = refl
started_seat r (seats.Step n) replies t = started_lent (line_lends (site_of r) (seats.Step n) replies) t
started_seat r (seats.Run n) replies t = started_lent (line_lends (site_of r) (seats.Run n) replies) t

-- a line about connections leaves a boot of the same start

abbrev HasStart : RunningState → BootValue → Type 0
HasStart r b = b.start ≡ r.boot.start

one_boot : (r : RunningState) (t : State) → BootIn (HasStart r) t → numbers_of (boots_in t) ≡ r.boot.start.boot ∷ []
one_boot r (Heading head) so = absurd so
one_boot r (Running q) so = ap (λ (s : Start). s.boot ∷ []) so

counts_seat : (r : RunningState) (line : SeatLine) (replies : Replies) (o : Outcome) → LeavesTo (BootIn (HasStart r)) o → Counts (Running r) [] [] (turns_over r (lines.Seat line) replies) o
counts_seat r line replies (RefusedIn t) leaves = one_boot r t leaves
counts_seat r line replies (DoneTo t text) leaves = one_boot r t leaves ∙ ap (λ ns. r.boot.start.boot ∷ ns) (sym (started_seat r line replies.keeps t))
counts_seat r line replies (UnstartedIn t refusal) leaves = one_boot r t leaves
counts_seat r line replies (UnderWayIn t) leaves = one_boot r t leaves ∙ ap (λ ns. r.boot.start.boot ∷ ns) (sym (started_seat r line replies.keeps t))

counts_reopen : (r : RunningState) (replies : Replies) (how : Opening) → Counts (Running r) (ended_by r how) [] (turns_over r lines.Reopen replies) (reopens r how)
counts_reopen r replies (Opened start) =
    let t : State = Running (reopened_over r start) in
    ap (λ ns. r.boot.start.boot ∷ ns) (sym (started_if_any (give_lends r.seats.seats) r.sessions.serial (start_turns t)))
counts_reopen r replies (UnstartedBoot refusal) = refl

counts_over : (r : RunningState) (line : Line) (replies : Replies) → Counts (Running r) (ends_over r line replies) [] (turns_over r line replies) (line_over r line replies)
counts_over r lines.Pass replies = refl
counts_over r (lines.Head line) replies = refl
counts_over r (lines.Call c line) replies =
    let a : Answer RunningState = within (with_called r) (call_step r.boot r.callers c line) in
    counts_same r (lines.Call c line) replies a (λ t text. refl) (start_kept r a (rows_entered r c line))
counts_over r (lines.Commit c) replies = counts_same r (lines.Commit c) replies (commit_step r c (first_keeps replies.keeps)) (λ t text. refl) (start_commit r c (first_keeps replies.keeps))
counts_over r (lines.Boot line) replies =
    counts_same r (lines.Boot line) replies (boot_line r line) (λ t text. refl) (start_kept r (boot_line r line) (rows_boot r line))
counts_over r lines.Reopen replies = counts_reopen r replies (next_opening r replies.again)
counts_over r (lines.Session line) replies =
    let a : Answer RunningState = within (with_sessions r) (session_line r.sessions line) in
    counts_same r (lines.Session line) replies a (λ t text. refl) (start_kept r a (rows_session r (session_line r.sessions line)))
counts_over r (lines.Seat line) replies =
    counts_seat r line replies (seat_over r line replies.keeps) (kept_seat (HasStart r) (λ old new writes keeps change is. start_changed r.boot old new writes keeps change is) r line replies.keeps refl)

counts_in_head : (head : Head) (line : Line) → Counts (Heading head) [] [] (λ t text. []) (in_head head (head_line head line))
counts_in_head head lines.Pass = refl
counts_in_head head (lines.Head line) = go (head_step head line)
  where
    go : (a : Answer Head) → Counts (Heading head) [] [] (λ t text. []) (in_head head a)
    go Refused = refl
    go (Done next text) = refl
counts_in_head head (lines.Call c line) = refl
counts_in_head head (lines.Commit c) = refl
counts_in_head head (lines.Boot line) = refl
counts_in_head head lines.Reopen = refl
counts_in_head head (lines.Session line) = refl
counts_in_head head (lines.Seat line) = refl

-- a line that starts the first boot before it is done
counts_first : (head : Head) (start : Start) (turns : State → List ℕ → List SessionTurn) (ends : List BootValue) (o : Outcome) → Counts (Running (started (set_up head.setup 0) (no_seats head.parts) head.site start)) ends [] turns o
    → Counts (Heading head) ends (Boots start.boot ∷ []) (λ t text. Boots start.boot ∷ turns t text) o
counts_first head start turns ends (RefusedIn t) counts = counts
counts_first head start turns ends (DoneTo t text) counts = counts
counts_first head start turns ends (UnstartedIn t refusal) counts = counts
counts_first head start turns ends (UnderWayIn t) counts = counts

counts_opened : (head : Head) (how : Opening) (line : Line) (replies : Replies)
    → Counts (Heading head) (ends_on (opened_target head how) line replies) (first_start (Heading head) (opened_target head how)) (λ t text. first_start (Heading head) (opened_target head how) ++ turns_by (opened_target head how) line replies t text) (line_on (opened_target head how) line replies)
counts_opened head (Opened start) line replies =
    let r : RunningState = started (set_up head.setup 0) (no_seats head.parts) head.site start in
    counts_first head start (turns_over r line replies) (ends_over r line replies) (line_over r line replies) (counts_over r line replies)
counts_opened head (UnstartedBoot refusal) line replies = refl

counts_step : (s : State) (line : Line) (replies : Replies)
    → Counts s (ended_boots s line replies) (first_start s (target_of s (is_event line) replies.first)) (λ t text. first_start s (target_of s (is_event line) replies.first) ++ turns_by (target_of s (is_event line) replies.first) line replies t text) (step s line replies)
unfolding step ended_boots
counts_step (Running r) line replies = counts_over r line replies
counts_step (Heading head) line replies = go (is_event line)
  where
    go : (event : Bool) → Counts (Heading head) (ends_on (target_of (Heading head) event replies.first) line replies) (first_start (Heading head) (target_of (Heading head) event replies.first)) (λ t text. first_start (Heading head) (target_of (Heading head) event replies.first) ++ turns_by (target_of (Heading head) event replies.first) line replies t text) (line_on (target_of (Heading head) event replies.first) line replies)
    go false = counts_in_head head line
    go true = counts_opened head (opening head.parts head.plans head.limits replies.first) line replies

counts_answer : (s : State) (o : Option Line) (replies : Replies) → Counts s (ends_to s o replies) (starts_by s o replies) (turns_to s o replies) (answer_to s o replies)
counts_answer s None replies = sym (append-nil (numbers_of (boots_in s)))
counts_answer s (Some line) replies = counts_step s line replies

counts_turn : (s : State) (turn : Turn) → Counts s (turn_ends s turn) (starts_on s turn) (turn_on_sessions s turn) (turn_outcome s turn)
unfolding turn_outcome turn_on_sessions starts_on turn_ends
counts_turn s turn = counts_answer s (line_of turn.line) turn.replies

-- over all turns

counts_more : (s t : State) (ends later : List BootValue) (starts more : List SessionTurn) → numbers_of ends ++ numbers_of (boots_in t) ≡ numbers_of (boots_in s) ++ started_in starts → numbers_of later ≡ numbers_of (boots_in t) ++ started_in more
    → numbers_of (ends ++ later) ≡ numbers_of (boots_in s) ++ started_in (starts ++ more)
counts_more s t ends later starts more here rest =
    numbers-append ends later
    ∙ ap (λ ns. numbers_of ends ++ ns) rest
    ∙ sym (append_assoc (numbers_of ends) (numbers_of (boots_in t)) (started_in more))
    ∙ ap (λ ns. ns ++ started_in more) here
    ∙ append_assoc (numbers_of (boots_in s)) (started_in starts) (started_in more)
    ∙ ap (λ ns. numbers_of (boots_in s) ++ ns) (sym (started-append starts more))

pub counts_all : (s : State) (turns : List Turn) → numbers_of (boots_from s turns) ≡ numbers_of (boots_in s) ++ started_in (session_turns s turns)
counts_all s [] = sym (append-nil (numbers_of (boots_in s)))
counts_all s (turn ∷ turns) =
    go (nat_lt MAX_LINE_BYTES (length turn.line)) (turn_outcome s turn) (counts_turn s turn) (λ t. counts_all t turns)
  where
    go : (long : Bool) (o : Outcome) → Counts s (turn_ends s turn) (starts_on s turn) (turn_on_sessions s turn) o
        → ((t : State) → numbers_of (boots_from t turns) ≡ numbers_of (boots_in t) ++ started_in (session_turns t turns))
        → numbers_of (if long then boots_in s else (turn_ends s turn ++ (elim o [
          | RefusedIn t ↦ boots_in t
          | DoneTo t text ↦ boots_from t turns
          | UnstartedIn t refusal ↦ boots_in t
          | UnderWayIn t ↦ boots_in t
        ]))) ≡ numbers_of (boots_in s) ++ started_in (if long then [] else (elim o [
          | RefusedIn t ↦ starts_on s turn
          | DoneTo t text ↦ turn_on_sessions s turn t text ++ session_turns t turns
          | UnstartedIn t refusal ↦ starts_on s turn
          | UnderWayIn t ↦ turn_on_sessions s turn t []
        ]))
    go true o here later = sym (append-nil (numbers_of (boots_in s)))
    go false (RefusedIn t) here later = numbers-append (turn_ends s turn) (boots_in t) ∙ here
    go false (DoneTo t text) here later = counts_more s t (turn_ends s turn) (boots_from t turns) (turn_on_sessions s turn t text) (session_turns t turns) here (later t)
    go false (UnstartedIn t refusal) here later = numbers-append (turn_ends s turn) (boots_in t) ∙ here
    go false (UnderWayIn t) here later = numbers-append (turn_ends s turn) (boots_in t) ∙ here

-- each number is greater than the one before
abbrev pub Rise : ℕ → List ℕ → Type 0
Rise n [] = Unit {0}
Rise n (m ∷ ms) = (n < m) × Rise m ms

following_rise : (b : BootValue) (bs : List BootValue) → AreChained (Follows b) bs → Rise b.start.boot (numbers_of bs)
following_rise b [] chained = tt
following_rise b (next ∷ bs) (follows, chained) = (omega (arith, follows.number), following_rise next bs chained)

pub chained_rise : (rows : List RowWrite) (bs : List BootValue) → AreChained (IsOver rows) bs → Rise 0 (numbers_of bs)
chained_rise rows [] chained = tt
chained_rise rows (b ∷ bs) (over, chained) =
    let number : b.start.boot ≡ last_boot rows + 1 = ap (λ (s : Start). s.boot) over.over in
    (omega (arith, number), following_rise b bs chained)

pub boots_rise : (turns : List SessionTurn) (n : ℕ) → Rise n (started_in turns) → BootsRise n turns
boots_rise [] n rise = tt
boots_rise (Does line text ∷ turns) n rise = boots_rise turns n rise
boots_rise (Boots m ∷ turns) n (less, rise) = (less, boots_rise turns m rise)
boots_rise (Lends steps serial ∷ turns) n rise = boots_rise turns n rise

-- a keeper that tells is given boots that rise
pub rise_where_told : (turns : List Turn) (t u : KeeperTold) → Tells turns (Some t) (Some u) → BootsRise 0 (session_turns first turns)
rise_where_told turns t u tells =
    boots_rise (session_turns first turns) 0 (subst (Rise 0) (counts_all first turns) (chained_rise t.rows (boots_from first turns) tells.chained))
