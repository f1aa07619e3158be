-- What parts of a line show of the whole line.
use Rattle.std.proofs.Common.{◌≡◌, ◌⊎◌, ℕ, Bool, true, false, cond, inl, inr, List, [], ◌∷◌, Option, Some, None, Result, Ok, Err, IfOk, MatchResult, refl, sym, ap, ◌∙◌, subst, string_bytes}
use Rattle.std.specs.Prelude.{All}
use Rattle.std.proofs.lemmas.List.Elements.{All-nil}
use Rattle.crash_base.specs.declared.memory.OutOfMemory.{OutOfMemory}
use Rattle.boot_core.specs.declared.boot.Start.{Start}
use Rattle.scenario_text.specs.Answer.{Answer, KeepsRefused, answer_of}
use Rattle.line_steps.specs.Head.{head_line}
use Rattle.line_steps.specs.Texts.{boot_text}
use Rattle.scenario_text.specs.declared.answer.LineAnswer.{LineAnswer}
use Rattle.scenario_text.specs.declared.answer.LineAnswer.TheVariants as answers
use Rattle.line_steps.specs.declared.head.Head.{Head}
use Rattle.scenario_text.specs.declared.head_line.HeadLine.{HeadLine}
use Rattle.scenario_text.specs.declared.line.Line.{Line}
use Rattle.scenario_text.specs.declared.line.Line.TheVariants as lines
use Rattle.scenario_text.specs.Line.{is_event}
use Rattle.scenario_engine.specs.declared.failure.LineFailure.{LineFailure}
use Rattle.scenario_engine.specs.declared.failure.LineFailure.TheVariants as failures
use Rattle.scenario_engine.specs.Engine.{Replies, Target, TheHead, TheBoot, TheUnstarted, target_in, is_heading, opened_target, target_of, target_calls, in_head, reopens, line_over, line_on, calls_over, calls_on, step, line_calls, next_calls, with_reply}
use Rattle.scenario_engine.specs.Seats.{in_boot}
use Rattle.scenario_text.specs.declared.seat_line.SeatLine.{SeatLine}
use Rattle.scenario_text.specs.declared.seat_line.SeatLine.TheVariants as seats
use Rattle.seat_lines.specs.Making.{StepHearsSpelled, WasMade, line_makes}
use Rattle.seat_lines.specs.Site.{SiteState, no_seats}
use Rattle.scenario_engine.specs.Connections.{makes_on, makes_over, makes_to, seat_makes}
use Rattle.scenario_engine.specs.KeeperCalls.{KeeperSeen, AreMade, AreSomeMade, AreSomeAsked}
use Rattle.scenario_engine.specs.Opening.{StartReplies, Opened, start_calls}
use Rattle.session_steps.specs.Setup.{set_up}
use Rattle.scenario_engine.specs.Running.{started, reopened_over}
use Rattle.scenario_engine.specs.Transcript.{calls_to}
use Rattle.scenario_engine.specs.State.{RunningState, RunningValue, EngineValue, State, Heading, Running, Outcome, RefusedIn, DoneTo, UnstartedIn, site_of}
use Rattle.scenario_engine.specs.Telling.{Opens, FailsToOpen, Commits, CommitsPartly, AnswersSeat, BreaksSeat, EndsSeat, Reaches, FailsToReach, DoesOn, DoesPartlyOn, BreaksOffOn, AnswersOn, EndsOn, Does, DoesPartly, BreaksOff, Answers, Ends, WereMade}
use Rattle.scenario_engine.proofs.Calls.{none_made, none_of, all_made, then_made, then_some, some_first}
use Rattle.component_pool.specs.Plans.{left_by_process}

-- replies that nobody asks for
abbrev no_start : StartReplies
no_start = record { rows = None; keeps = true }

abbrev no_replies : Replies
no_replies = record { first = no_start; again = no_start; keeps = [] }

-- no step is made
pub no_steps : WereMade []
no_steps = record { spelled = All-nil StepHearsSpelled; made = All-nil WasMade }

-- a state that has a boot, or whose line is no event line, needs no start
pub reached : (s : State) (k : KeeperSeen) → Reaches s false (target_in s) k k
reached (Heading head) k = record { replies = no_start; is = refl; made = none_made k }
reached (Running r) k = record { replies = no_start; is = refl; made = none_made k }

pub reached_running : (r : RunningState) (k : KeeperSeen) → Reaches (Running r) true (TheBoot r) k k
reached_running r k = record { replies = no_start; is = refl; made = none_made k }

pub reached_opened : (head : Head) (start : Start) (old new : KeeperSeen) → Opens head.parts head.plans head.limits (Opened start) old new → Reaches (Heading head) true (TheBoot (started (set_up head.setup 0) (no_seats head.parts) head.site start)) old new
reached_opened head start old new h = record {
  replies = h.replies;
  is = ap (λ o. opened_target head o) h.opens;
  made = h.made;
}

pub fails_to_reach : (head : Head) (failure : LineFailure) (old new : KeeperSeen) → FailsToOpen failure head.parts head.plans head.limits old new → FailsToReach failure (Heading head) true old new
fails_to_reach head (failures.Unstarted cause) old new h = (
  head,
  record {
    replies = h.replies;
    is = ap (λ o. opened_target head o) h.opens;
    made = h.made;
  },
)
fails_to_reach head failures.OutOfMemory old new h = record { replies = h.replies; made = h.made }

-- a line of the head
pub in_the_head : (a : LineAnswer) (line : Line) (head next : Head) (k : KeeperSeen) → answer_of a next ≡ head_line head line → KeepsRefused a head next → AnswersOn a (Heading next) (TheHead head) line k k
in_the_head answers.Refused line head next k is kept = record { replies = no_replies; answers = ap (λ h. RefusedIn (Heading h)) kept ∙ ap (in_head head) is; made = none_made k; steps = no_steps }
in_the_head answers.Done line head next k is kept = record { replies = no_replies; answers = ap (in_head head) is; made = none_made k; steps = no_steps }
in_the_head (answers.Wrote text) line head next k is kept = record { replies = no_replies; answers = ap (in_head head) is; made = none_made k; steps = no_steps }

-- a boot that is started needs no start
pub reached_run : (s : State) (event : Bool) (k : KeeperSeen) → is_heading s ≡ false → Reaches s event (target_in s) k k
reached_run (Running r) event k is = record { replies = no_start; is = refl; made = none_made k }
reached_run (Heading head) event k is = absurd (cc)

-- a line over a boot, by the answer of its part
over_boot : (a : LineAnswer) (line : Line) (r next : RunningState) (replies : Replies) (answer : Answer RunningState) (old new : KeeperSeen) → in_boot r answer ≡ line_on (TheBoot r) line replies → AreMade (calls_on (TheBoot r) line replies) old new → WereMade (makes_over r line replies) → answer_of a next ≡ answer → KeepsRefused a r next → AnswersOn a (Running next) (TheBoot r) line old new
over_boot answers.Refused line r next replies answer old new whole made steps is kept = record { replies = replies; answers = ap (λ s. RefusedIn (Running s)) kept ∙ (ap (in_boot r) is ∙ whole); made = made; steps = steps }
over_boot answers.Done line r next replies answer old new whole made steps is kept = record { replies = replies; answers = ap (in_boot r) is ∙ whole; made = made; steps = steps }
over_boot (answers.Wrote text) line r next replies answer old new whole made steps is kept = record { replies = replies; answers = ap (in_boot r) is ∙ whole; made = made; steps = steps }

-- a line of the head that is passed over or refused, over a boot
pub passed : (r : RunningState) (k : KeeperSeen) → AnswersOn answers.Done (Running r) (TheBoot r) lines.Pass k k
passed r k = record { replies = no_replies; answers = refl; made = none_made k; steps = no_steps }

pub head_refused : (r : RunningState) (line : HeadLine) (k : KeeperSeen) → AnswersOn answers.Refused (Running r) (TheBoot r) (lines.Head line) k k
head_refused r line k = record { replies = no_replies; answers = refl; made = none_made k; steps = no_steps }

-- replies to a commit
abbrev to_commit : Bool → Replies
to_commit keeps = record { first = no_start; again = no_start; keeps = keeps ∷ [] }

pub committed : (a : LineAnswer) (r next : RunningState) (caller : ℕ) (old new : KeeperSeen) → Commits r caller (answer_of a next) old new → KeepsRefused a r next → AnswersOn a (Running next) (TheBoot r) (lines.Commit caller) old new
committed a r next caller old new h kept = over_boot a (lines.Commit caller) r next (to_commit h.keeps) _ old new refl h.made no_steps h.answers kept

pub commit_partly : (r : RunningState) (caller : ℕ) (old new : KeeperSeen) → CommitsPartly r caller old new → DoesPartlyOn (TheBoot r) (lines.Commit caller) old new
commit_partly r caller old new h = record { replies = no_replies; unkept = refl; made = h }

-- replies to a `reopen`
abbrev to_reopen : StartReplies → Replies
to_reopen again = record { first = no_start; again = again; keeps = [] }

pub reopened : (r next : RunningState) (start : Start) (text : List ℕ) (old new : KeeperSeen) → next ≡ reopened_over r start → Opens r.boot.start.deployment (left_by_process r.boot.start.plans) r.boot.start.limits (Opened start) old new → text ≡ boot_text next.boot.start.boot → DoesOn (TheBoot r) lines.Reopen (DoneTo (Running next) text) old new
reopened r next start text old new is h wrote =
    let P : RunningState → Type 0 = λ n. text ≡ boot_text n.boot.start.boot → DoesOn (TheBoot r) lines.Reopen (DoneTo (Running n) text) old new in
    subst P (sym is) (λ w. record {
      replies = to_reopen h.replies;
      answers = ap (DoneTo (Running (reopened_over r start))) w ∙ ap (reopens r) h.opens;
      made = h.made;
      steps = no_steps;
    }) wrote

pub reopened_partly : (r : RunningState) (start : Start) (old new : KeeperSeen) → Opens r.boot.start.deployment (left_by_process r.boot.start.plans) r.boot.start.limits (Opened start) old new → DoesPartlyOn (TheBoot r) lines.Reopen old new
reopened_partly r start old new h =
    record { replies = to_reopen h.replies; unkept = refl; made = all_made (start_calls h.replies) old new h.made }

pub reopen_ends : (r : RunningState) (failure : LineFailure) (old new : KeeperSeen) → FailsToOpen failure r.boot.start.deployment (left_by_process r.boot.start.plans) r.boot.start.limits old new → EndsOn failure (TheBoot r) lines.Reopen old new
reopen_ends r (failures.Unstarted cause) old new h =
    (Running r, record { replies = to_reopen h.replies; answers = ap (reopens r) h.opens; made = h.made; steps = no_steps })
reopen_ends r failures.OutOfMemory old new h =
    inl (record { replies = to_reopen h.replies; unkept = refl; made = h.made })

-- the replies to a line, by those to its start and those to the rest
abbrev both : StartReplies → Replies → Replies
both first rest = record { first = first; again = rest.again; keeps = rest.keeps }

same_line : (target : Target) (line : Line) (first : StartReplies) (rest : Replies) → line_on target line rest ≡ line_on target line (both first rest)
same_line (TheHead head) line first rest = refl
same_line (TheUnstarted head cause) line first rest = refl
same_line (TheBoot r) line first rest = go line
  where
    go : (line : Line) → line_over r line rest ≡ line_over r line (both first rest)
    go lines.Pass = refl
    go (lines.Head line) = refl
    go (lines.Call caller line) = refl
    go (lines.Commit caller) = refl
    go (lines.Boot line) = refl
    go lines.Reopen = refl
    go (lines.Session line) = refl
    go (lines.Seat line) = refl

same_calls : (target : Target) (line : Line) (first : StartReplies) (rest : Replies) → calls_on target line rest ≡ calls_on target line (both first rest)
same_calls (TheHead head) line first rest = refl
same_calls (TheUnstarted head cause) line first rest = refl
same_calls (TheBoot r) line first rest = go line
  where
    go : (line : Line) → calls_over r line rest ≡ calls_over r line (both first rest)
    go lines.Pass = refl
    go (lines.Head line) = refl
    go (lines.Call caller line) = refl
    go (lines.Commit caller) = refl
    go (lines.Boot line) = refl
    go lines.Reopen = refl
    go (lines.Session line) = refl
    go (lines.Seat line) = refl

same_makes : (target : Target) (line : Line) (first : StartReplies) (rest : Replies) → makes_on target line rest ≡ makes_on target line (both first rest)
same_makes (TheHead head) line first rest = refl
same_makes (TheUnstarted head cause) line first rest = refl
same_makes (TheBoot r) line first rest = go line
  where
    go : (line : Line) → makes_over r line rest ≡ makes_over r line (both first rest)
    go lines.Pass = refl
    go (lines.Head line) = refl
    go (lines.Call caller line) = refl
    go (lines.Commit caller) = refl
    go (lines.Boot line) = refl
    go lines.Reopen = refl
    go (lines.Session line) = refl
    go (lines.Seat line) = refl

-- where no step is replied to, none is made
none_replied : (s : SiteState) (line : SeatLine) → line_makes s line [] ≡ []
none_replied s (seats.Conn n) = refl
none_replied s (seats.Bytes n bytes) = refl
none_replied s (seats.End n) = refl
none_replied s (seats.Step n) = refl
none_replied s (seats.Run n) = refl

none_in_boot : (r : RunningState) (line : SeatLine) → seat_makes r line [] ≡ []
none_in_boot r line = go r.site
  where
    go : (site : Bool) → cond site (line_makes (site_of r) line []) [] ≡ []
    go true = none_replied (site_of r) line
    go false = refl

unreplied : (r : RunningState) (line : Line) → WereMade (makes_over r line no_replies)
unreplied r lines.Pass = no_steps
unreplied r (lines.Head line) = no_steps
unreplied r (lines.Call caller line) = no_steps
unreplied r (lines.Commit caller) = no_steps
unreplied r (lines.Boot line) = no_steps
unreplied r lines.Reopen = no_steps
unreplied r (lines.Session line) = no_steps
unreplied r (lines.Seat line) = subst WereMade (sym (none_in_boot r line)) no_steps

-- a line, by what it is done to
does : (s : State) (line : Line) (target : Target) (outcome : Outcome) (old between new : KeeperSeen) → Reaches s (is_event line) target old between → DoesOn target line outcome between new → Does s (Some line) outcome old new
unfolding step line_calls
does s line target outcome old between new reach h =
    let replies : Replies = both reach.replies h.replies in
    let first = target_calls s (is_event line) reach.replies in
    let calls : calls_on target line h.replies ≡ calls_on (target_of s (is_event line) reach.replies) line replies = same_calls target line reach.replies h.replies ∙ ap (λ t. calls_on t line replies) reach.is in
    let makes : makes_on target line h.replies ≡ makes_on (target_of s (is_event line) reach.replies) line replies = same_makes target line reach.replies h.replies ∙ ap (λ t. makes_on t line replies) reach.is in
    record {
      replies = replies;
      answers = h.answers ∙ same_line target line reach.replies h.replies ∙ ap (λ t. line_on t line replies) reach.is;
      made = then_made first _ old between new reach.made (subst (λ cs. AreMade cs between new) calls h.made);
      steps = subst WereMade makes h.steps;
    }

does_partly : (s : State) (line : Line) (target : Target) (old between new : KeeperSeen) → Reaches s (is_event line) target old between → DoesPartlyOn target line between new → DoesPartly s (Some line) old new
unfolding line_calls
does_partly s line target old between new reach h =
    let replies : Replies = both reach.replies h.replies in
    let first = target_calls s (is_event line) reach.replies in
    let calls : calls_on target line h.replies ≡ calls_on (target_of s (is_event line) reach.replies) line replies = same_calls target line reach.replies h.replies ∙ ap (λ t. calls_on t line replies) reach.is in
    record {
      replies = replies;
      unkept = h.unkept;
      made = then_some first _ old between new reach.made (subst (λ cs. AreSomeMade cs between new) calls h.made);
    }

does_break : (s : State) (line : Line) (target : Target) (old between new : KeeperSeen) → Reaches s (is_event line) target old between → BreaksOffOn target line between new → BreaksOff s (Some line) old new
unfolding step line_calls
does_break s line target old between new reach h =
    let replies : Replies = both reach.replies h.replies in
    let first = target_calls s (is_event line) reach.replies in
    let calls : calls_on target line h.replies ≡ calls_on (target_of s (is_event line) reach.replies) line replies = same_calls target line reach.replies h.replies ∙ ap (λ t. calls_on t line replies) reach.is in
    let makes : makes_on target line h.replies ≡ makes_on (target_of s (is_event line) reach.replies) line replies = same_makes target line reach.replies h.replies ∙ ap (λ t. makes_on t line replies) reach.is in
    record {
      replies = replies;
      mid = h.mid;
      comes = sym (same_line target line reach.replies h.replies ∙ ap (λ t. line_on t line replies) reach.is) ∙ h.comes;
      between = h.between;
      whole = then_made first _ old between h.between reach.made (subst (λ cs. AreMade cs between h.between) calls h.whole);
      next = h.next;
      last = h.last;
      steps = subst WereMade makes h.steps;
      last_heard = by h.last_heard;
    }
  where
    rest : Replies
    rest = with_reply h.replies h.next

    makes_last : makes_on target line rest ≡ makes_to s (Some line) (both reach.replies rest)
    makes_last = same_makes target line reach.replies rest ∙ ap (λ t. makes_on t line (both reach.replies rest)) reach.is

    by : AreSomeAsked [] h.between new ⊎ All StepHearsSpelled (makes_on target line rest) → AreSomeAsked [] h.between new ⊎ All StepHearsSpelled (makes_to s (Some line) (both reach.replies rest))
    by (inl none) = inl none
    by (inr heard) = inr (subst (All StepHearsSpelled) makes_last heard)

pub does_line : (a : LineAnswer) (s after : State) (line : Line) (target : Target) (old between new : KeeperSeen) → Reaches s (is_event line) target old between → AnswersOn a after target line between new → Answers a after s (Some line) old new
does_line answers.Refused s after line target old between new reach h = does s line target (RefusedIn after) old between new reach h
does_line answers.Done s after line target old between new reach h = does s line target (DoneTo after []) old between new reach h
does_line (answers.Wrote text) s after line target old between new reach h = does s line target (DoneTo after (string_bytes text)) old between new reach h

pub ends_line : (failure : LineFailure) (s : State) (line : Line) (target : Target) (old between new : KeeperSeen) → Reaches s (is_event line) target old between → EndsOn failure target line between new → Ends failure s (Some line) old new
ends_line (failures.Unstarted cause) s line target old between new reach (state, h) = (state, does s line target (UnstartedIn state cause) old between new reach h)
ends_line failures.OutOfMemory s line target old between new reach (inl h) = inl (does_partly s line target old between new reach h)
ends_line failures.OutOfMemory s line target old between new reach (inr h) = inr (does_break s line target old between new reach h)

-- a line that has nothing to be done to
pub ends_before : (failure : LineFailure) (s : State) (line : Line) (old new : KeeperSeen) → FailsToReach failure s (is_event line) old new → Ends failure s (Some line) old new
unfolding line_calls
ends_before (failures.Unstarted cause) s line old new (head, h) =
    (Heading head, does s line (TheUnstarted head cause) (UnstartedIn (Heading head) cause) old new new h (record { replies = no_replies; answers = refl; made = none_made new; steps = no_steps }))
ends_before failures.OutOfMemory s line old new h =
    let replies : Replies = both h.replies no_replies in
    inl (record { replies = replies; unkept = refl; made = some_first (target_calls s (is_event line) h.replies) _ old new h.made })

-- a head over a keeper, and a boot with its keeper

abbrev pub heading : Head → KeeperSeen → EngineValue
heading head k = record { state = Heading head; keeper = k }

abbrev pub in_run : RunningValue → EngineValue
in_run r = record { state = Running r.running; keeper = r.keeper }

-- how a line on the target of a state ended
abbrev pub LineEnded : Result LineAnswer LineFailure → EngineValue → EngineValue → Line → Type 0
LineEnded result after v line = MatchResult result (λ a. AnswersOn a after.state (target_in v.state) line v.keeper after.keeper) (λ failure. EndsOn failure (target_in v.state) line v.keeper after.keeper)

-- the same, of a value and a line that are the same
pub placed : (result : Result LineAnswer LineFailure) (after v w : EngineValue) (line line' : Line) → LineEnded result after w line' → w ≡ v → line ≡ line' → LineEnded result after v line
placed result after v w line line' h t l = subst (λ v. LineEnded result after v line) t (subst (λ l. LineEnded result after w l) (sym l) h)

pub moved : (result result' : Result LineAnswer LineFailure) (after v w : EngineValue) (line : Line) → LineEnded result' after w line → result ≡ result' → w ≡ v → LineEnded result after v line
moved result result' after v w line h r t = subst (λ r. LineEnded r after v line) (sym r) (subst (λ v. LineEnded result' after v line) t h)

pub line_done : (result : Result LineAnswer LineFailure) (v w after : EngineValue) (line : Line) → Reaches v.state (is_event line) (target_in w.state) v.keeper w.keeper → LineEnded result after w line → MatchResult result (λ a. Answers a after.state v.state (Some line) v.keeper after.keeper) (λ failure. Ends failure v.state (Some line) v.keeper after.keeper)
line_done (Ok a) v w after line reach h = does_line a v.state after.state line (target_in w.state) v.keeper w.keeper after.keeper reach h
line_done (Err failure) v w after line reach h = ends_line failure v.state line (target_in w.state) v.keeper w.keeper after.keeper reach h

-- a boot that was started, or not

pub started_so : (v : EngineValue) (head : Head) (k : KeeperSeen) (r : RunningValue) (start : Start) → heading head k ≡ v → r.running ≡ started (set_up head.setup 0) (no_seats head.parts) head.site start → Opens head.parts head.plans head.limits (Opened start) k r.keeper → Reaches v.state true (TheBoot r.running) v.keeper r.keeper
started_so v head k r start is so opens =
    let P : EngineValue → Type 0 = λ v. Reaches v.state true (TheBoot r.running) v.keeper r.keeper in
    let Q : RunningState → Type 0 = λ s. Reaches (Heading head) true (TheBoot s) k r.keeper in
    subst P is (subst Q (sym so) (reached_opened head start k r.keeper opens))

pub not_started_so : (v : EngineValue) (head : Head) (k new : KeeperSeen) (failure : LineFailure) → heading head k ≡ v → FailsToOpen failure head.parts head.plans head.limits k new → FailsToReach failure v.state true v.keeper new
not_started_so v head k new failure is fails =
    let P : EngineValue → Type 0 = λ v. FailsToReach failure v.state true v.keeper new in
    subst P is (fails_to_reach head failure k new fails)

pub started_already : (v : EngineValue) (r : RunningValue) → in_run r ≡ v → Reaches v.state true (TheBoot r.running) v.keeper r.keeper
started_already v r is =
    let P : EngineValue → Type 0 = λ v. Reaches v.state true (TheBoot r.running) v.keeper r.keeper in
    subst P is (reached_running r.running r.keeper)

-- a text for which memory ran out before it was read
pub unread : (s : State) (line : Option Line) (k : KeeperSeen) → Ends failures.OutOfMemory s line k k
unread s line k = inl (record { replies = no_replies; unkept = refl; made = none_of (calls_to s line no_replies) k })

-- a line for which memory ran out before the keeper was called
pub uncalled : (target : Target) (line : Line) (k : KeeperSeen) → DoesPartlyOn target line k k
uncalled target line k = record { replies = no_replies; unkept = refl; made = none_of (calls_on target line no_replies) k }

-- a text that spells no line
pub spells_none : (s : State) (line : Option Line) (k : KeeperSeen) → line ≡ None → Answers answers.Refused s s line k k
spells_none s line k none = subst (λ o. Answers answers.Refused s s o k k) (sym none) (record { replies = no_replies; answers = refl; made = none_made k; steps = no_steps })

-- how a part of a line ended, for which memory may have run out
abbrev pub PartEnded : Result LineAnswer OutOfMemory → EngineValue → EngineValue → Line → Type 0
PartEnded part after v line = MatchResult part (λ a. AnswersOn a after.state (target_in v.state) line v.keeper after.keeper) (λ none. DoesPartlyOn (target_in v.state) line v.keeper after.keeper)

pub part_ended : (part : Result LineAnswer OutOfMemory) (result : Result LineAnswer LineFailure) (after v : EngineValue) (line : Line) → MatchResult part (λ a. result ≡ Ok a) (λ none. result ≡ Err failures.OutOfMemory) → PartEnded part after v line → LineEnded result after v line
part_ended (Ok a) result after v line is h = subst (λ r. LineEnded r after v line) (sym is) h
part_ended (Err e) result after v line is h = subst (λ r. LineEnded r after v line) (sym is) (inl h)

-- how a line about connections ended
abbrev pub SeatEnded : Result LineAnswer OutOfMemory → RunningValue → RunningValue → SeatLine → Type 0
SeatEnded part next r line = MatchResult part (λ a. AnswersSeat r.running line (answer_of a next.running) r.keeper next.keeper) (λ none. EndsSeat r.running line r.keeper next.keeper)

-- replies to the steps of a connection
abbrev to_seat : List Bool → Replies
to_seat keeps = record { first = no_start; again = no_start; keeps = keeps }

seat_done : (a : LineAnswer) (line : SeatLine) (r next : RunningState) (old new : KeeperSeen) → AnswersSeat r line (answer_of a next) old new → KeepsRefused a r next → AnswersOn a (Running next) (TheBoot r) (lines.Seat line) old new
seat_done answers.Refused line r next old new h kept = record { replies = to_seat h.keeps; answers = ap (λ s. RefusedIn (Running s)) kept ∙ h.answers; made = h.made; steps = h.steps }
seat_done answers.Done line r next old new h kept = record { replies = to_seat h.keeps; answers = h.answers; made = h.made; steps = h.steps }
seat_done (answers.Wrote text) line r next old new h kept = record { replies = to_seat h.keeps; answers = h.answers; made = h.made; steps = h.steps }

-- memory ran out and nothing was handed to the keeper
nothing_made : (target : Target) (line : Line) (old new : KeeperSeen) → AreMade [] old new → DoesPartlyOn target line old new
nothing_made target line old new h = record {
  replies = no_replies;
  unkept = refl;
  made = record {
    made = [];
    more = calls_on target line no_replies;
    begins = refl;
    between = new.told;
    told = h.told;
    last = inl refl;
    counted = h.counted;
  };
}

broken_seat : (line : SeatLine) (r : RunningState) (old new : KeeperSeen) → BreaksSeat r line old new → BreaksOffOn (TheBoot r) (lines.Seat line) old new
unfolding next_calls
broken_seat line r old new h = record { replies = to_seat h.keeps; mid = Running h.mid; comes = h.comes; between = h.between; whole = h.whole; next = h.next; last = h.last; steps = h.steps; last_heard = h.last_heard }

seat_broken : (line : SeatLine) (r : RunningState) (old new : KeeperSeen) → EndsSeat r line old new → EndsOn failures.OutOfMemory (TheBoot r) (lines.Seat line) old new
seat_broken line r old new (inl none) = inl (nothing_made (TheBoot r) (lines.Seat line) old new none)
seat_broken line r old new (inr h) = inr (broken_seat line r old new h)

pub seat_ended : (part : Result LineAnswer OutOfMemory) (result : Result LineAnswer LineFailure) (next r : RunningValue) (line : SeatLine) → MatchResult part (λ a. result ≡ Ok a) (λ none. result ≡ Err failures.OutOfMemory) → SeatEnded part next r line → IfOk part (λ a. KeepsRefused a r.running next.running) → LineEnded result (in_run next) (in_run r) (lines.Seat line)
seat_ended (Ok a) result next r line is h kept = subst (λ o. LineEnded o (in_run next) (in_run r) (lines.Seat line)) (sym is) (seat_done a line r.running next.running r.keeper next.keeper h kept)
seat_ended (Err e) result next r line is h kept = subst (λ o. LineEnded o (in_run next) (in_run r) (lines.Seat line)) (sym is) (seat_broken line r.running r.keeper next.keeper h)

pub head_ended : (part : Result LineAnswer OutOfMemory) (line : Line) (head next : Head) (k : KeeperSeen) → IfOk part (λ a. answer_of a next ≡ head_line head line) → IfOk part (λ a. KeepsRefused a head next) → PartEnded part (heading next k) (heading head k) line
head_ended (Ok a) line head next k is kept = in_the_head a line head next k is kept
head_ended (Err e) line head next k is kept = uncalled (TheHead head) line k

-- a line over a boot that calls no keeper
pub uncalled_ended : (part : Result LineAnswer OutOfMemory) (line : Line) (r next : RunningValue) (answer : Answer RunningState) → in_boot r.running answer ≡ line_on (TheBoot r.running) line no_replies → calls_on (TheBoot r.running) line no_replies ≡ [] → IfOk part (λ a. answer_of a next.running ≡ answer) → IfOk part (λ a. KeepsRefused a r.running next.running) → next.keeper ≡ r.keeper → PartEnded part (in_run next) (in_run r) line
uncalled_ended part line r next answer whole none is kept same =
    let P : KeeperSeen → Type 0 = λ k. PartEnded part (record { state = Running next.running; keeper = k }) (in_run r) line in
    subst P (sym same) (go part is kept)
  where
    go : (part : Result LineAnswer OutOfMemory) → IfOk part (λ a. answer_of a next.running ≡ answer) → IfOk part (λ a. KeepsRefused a r.running next.running) → PartEnded part (record { state = Running next.running; keeper = r.keeper }) (in_run r) line
    go (Ok a) is kept = over_boot a line r.running next.running no_replies answer r.keeper r.keeper whole (subst (λ cs. AreMade cs r.keeper r.keeper) (sym none) (none_made r.keeper)) (unreplied r.running line) is kept
    go (Err e) is kept = uncalled (TheBoot r.running) line r.keeper

pub commit_ended : (part : Result LineAnswer OutOfMemory) (r next : RunningValue) (caller : ℕ) → MatchResult part (λ a. Commits r.running caller (answer_of a next.running) r.keeper next.keeper) (λ none. CommitsPartly r.running caller r.keeper next.keeper) → IfOk part (λ a. KeepsRefused a r.running next.running) → PartEnded part (in_run next) (in_run r) (lines.Commit caller)
commit_ended (Ok a) r next caller h kept = committed a r.running next.running caller r.keeper next.keeper h kept
commit_ended (Err e) r next caller h kept = commit_partly r.running caller r.keeper next.keeper h
