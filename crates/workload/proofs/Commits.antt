-- The calls that are counted as committed are the commits of the journal.
use Rattle.std.proofs.Common.{◌≡◌, ℕ, ◌+◌, Bool, true, false, cond, List, [], ◌∷◌, ◌++◌, length, Option, Some, None, codes, nat_lt, refl, sym, ap, ◌∙◌, append_assoc, arith}
use Rattle.std.specs.Fmt.{decimal}
use Rattle.std.specs.List.{fold}
use Rattle.std.proofs.lemmas.List.Sums.{sum_by-append}
use Rattle.crash_base.specs.declared.numbers.ComponentNo.{ComponentNo}
use Rattle.crash_base.specs.declared.scope.Scope.{Scope}
use Rattle.deployment.specs.Groups.{group_of}
use Rattle.journal_model.specs.declared.entry.Entry.{Entry}
use Rattle.journal_model.specs.declared.entry.Entry.TheVariants.{Commit, Down, Up}
use Rattle.journal_model.specs.Calls.{entry_of}
use Rattle.call_ticket.specs.Ticket.{TicketValue, ticket_kept}
use Rattle.deployment.specs.Parts.{component_no}
use Rattle.boot_core.specs.Boot.{BootValue, new_boot}
use Rattle.boot_core.specs.Refusals.{enter_refusal, read_refusal, list_refusal, put_refusal, commit_refusal, reboot_refusal}
use Rattle.boot_core.specs.Steps.{ticket_entered, ticket_has_read, ticket_has_listed}
use Rattle.boot_core.specs.declared.boot.Start.{Start}
use Rattle.boot_core.specs.declared.refusals.CallRefusal.{CallRefusal}
use Rattle.boot_core.specs.declared.refusals.CallRefusal.TheVariants as calls
use Rattle.boot_core.specs.declared.refusals.CommitRefusal.{CommitRefusal}
use Rattle.boot_core.specs.declared.refusals.CommitRefusal.TheVariants as commits
use Rattle.boot_core.specs.declared.refusals.RebootRefusal.{RebootRefusal}
use Rattle.line_steps.specs.Callers.{caller_at}
use Rattle.line_steps.specs.CallLines.{rows_then}
use Rattle.line_steps.specs.Texts.{table_text}
use Rattle.line_steps.specs.declared.callers.Caller.{Caller}
use Rattle.line_steps.specs.declared.callers.Caller.TheVariants.{Absent, Live}
use Rattle.workload.specs.Choices.{chosen, next_number}
use Rattle.workload.specs.Summary.{call_lines, commit_count, commits_line, digest_line, is_commit, lines_of, refusal_lines, row_count, row_lines, rows_now, summary, summary_of}
use Rattle.workload.specs.Tally.{counted_if}
use Rattle.workload.specs.Turns.{TurnLeft, Work, begin_left, caller_left, commit_ends, commit_left, commit_outcome, deed_left, enter_ends, entered_by, first_work, list_left, new_ticket, own_row, own_table, own_write, put_left, read_left, reboot_by_key, reboot_ends, reboot_left, scope_of, step_left, step_outcome, turn, with_reply, worked}
use Rattle.workload.specs.declared.choices.Choice.{Choice}
use Rattle.workload.specs.declared.choices.Deed.{Deed}
use Rattle.workload.specs.declared.choices.Deed.TheVariants as deeds
use Rattle.workload.specs.declared.deploying.TheConstants.{A, C}
use Rattle.workload.specs.declared.tally.Outcome.{Outcome}
use Rattle.workload.specs.declared.tally.Outcome.TheVariants as outcomes
use Rattle.workload.specs.declared.tally.Tally.{Tally}

-- how many commits an answer is
abbrev committed : Option Outcome → ℕ
committed None = 0
committed (Some outcomes.Committed) = 1
committed (Some outcomes.Revoked) = 0
committed (Some outcomes.Conflict) = 0
committed (Some outcomes.Refused) = 0

-- a journal with one entry more
count_push : (es : List Entry) (e : Entry) → commit_count (es ++ e ∷ []) ≡ commit_count es + cond (is_commit e) 1 0
count_push es e = sum_by-append (λ (x : Entry). cond (is_commit x) 1 0) es (e ∷ []) ∙ ap (λ (n : ℕ). commit_count es + n) (one e)
  where
    one : (x : Entry) → commit_count (x ∷ []) ≡ cond (is_commit x) 1 0
    one (Commit call) = refl
    one (Down s) = refl
    one (Up s) = refl

-- What a turn leaves of a boot has as many commits more as it answers.
abbrev Counts : BootValue → TurnLeft → Type 0
Counts b left = commit_count left.boot.entries ≡ commit_count b.entries + committed left.outcome

no_more : (n m : ℕ) → m ≡ 0 → n ≡ n + m
no_more n m none = omega (arith, none)

step_uncommitted : (refusal : CallRefusal) → committed (Some (step_outcome refusal)) ≡ 0
step_uncommitted (calls.Revoked stale) = refl
step_uncommitted calls.Depth = refl
step_uncommitted calls.Steps = refl
step_uncommitted calls.Reads = refl
step_uncommitted calls.Writes = refl
step_uncommitted (calls.Sentinel group down) = refl
step_uncommitted (calls.Hung component fault) = refl
step_uncommitted (calls.Raised component fault) = refl
step_uncommitted calls.OutOfMemory = refl

commit_uncommitted : (refusal : CommitRefusal) → committed (Some (commit_outcome refusal)) ≡ 0
commit_uncommitted (commits.Already place) = refl
commit_uncommitted (commits.Revoked stale) = refl
commit_uncommitted (commits.Conflict conflict) = refl
commit_uncommitted (commits.JournalFull full) = refl
commit_uncommitted commits.OutOfMemory = refl
commit_uncommitted commits.KeeperFailed = refl

step_counts : (b : BootValue) (next : TicketValue) (refusal : Option CallRefusal) → Counts b (step_left b next refusal)
step_counts b next None = no_more (commit_count b.entries) 0 refl
step_counts b next (Some refusal) = no_more (commit_count b.entries) (committed (Some (step_outcome refusal))) (step_uncommitted refusal)

enter_counts : (b : BootValue) (c : ComponentNo) (next : TicketValue) (refusal : Option CallRefusal) → Counts b (enter_ends b c next refusal)
enter_counts b c next None = no_more (commit_count b.entries) 0 refl
enter_counts b c next (Some refusal) = no_more (commit_count b.entries) (committed (Some (step_outcome refusal))) (step_uncommitted refusal)

begin_counts : (b : BootValue) (caller k key : ℕ) → Counts b (begin_left b caller k key)
unfolding begin_left
begin_counts b caller k key =
    let c : ComponentNo = entered_by key in
    let ticket : TicketValue = new_ticket b caller k in
    enter_counts b c (ticket_entered b.entries (group_of b.start.deployment c.0) c ticket) (enter_refusal b ticket.call c)

put_counts : (b : BootValue) (ticket : TicketValue) (k key : ℕ) → Counts b (put_left b ticket k key)
unfolding put_left
put_counts b ticket k key =
    step_counts b (ticket_kept (own_write b.start.deployment ticket.call k key) ticket) (put_refusal b.entries ticket.call (own_row b.start.deployment ticket.call key))

read_counts : (b : BootValue) (ticket : TicketValue) (key : ℕ) → Counts b (read_left b ticket key)
unfolding read_left
read_counts b ticket key =
    step_counts b (ticket_has_read (rows_then b ticket) (own_row b.start.deployment ticket.call key) ticket) (read_refusal b.entries ticket.call (own_row b.start.deployment ticket.call key))

list_counts : (b : BootValue) (ticket : TicketValue) → Counts b (list_left b ticket)
unfolding list_left
list_counts b ticket =
    step_counts b (ticket_has_listed (own_table b.start.deployment ticket.call) ticket) (list_refusal b.entries ticket.call (own_table b.start.deployment ticket.call))

ends_counts : (b : BootValue) (ticket : TicketValue) (refusal : Option CommitRefusal) → Counts b (commit_ends b ticket refusal)
ends_counts b ticket None = count_push b.entries (Commit (entry_of ticket.call None))
ends_counts b ticket (Some refusal) = no_more (commit_count b.entries) (committed (Some (commit_outcome refusal))) (commit_uncommitted refusal)

commit_counts : (b : BootValue) (ticket : TicketValue) (keeps : Bool) → Counts b (commit_left b ticket keeps)
unfolding commit_left
commit_counts b ticket keeps =
    ends_counts b ticket (with_reply (commit_refusal b.start.limits b.entries ticket.call None) ticket.call.writes keeps)

reboot_ends_counts : (b : BootValue) (ticket : TicketValue) (s : Scope) (refusal : Option RebootRefusal) → Counts b (reboot_ends b ticket s refusal)
reboot_ends_counts b ticket s None =
    let down : commit_count (b.entries ++ Down s ∷ []) ≡ commit_count b.entries + 0 = count_push b.entries (Down s) in
    let up : commit_count ((b.entries ++ Down s ∷ []) ++ Up s ∷ []) ≡ commit_count (b.entries ++ Down s ∷ []) + 0 = count_push (b.entries ++ Down s ∷ []) (Up s) in
    omega (arith, down, up)
reboot_ends_counts b ticket s (Some refusal) = no_more (commit_count b.entries) 0 refl

reboot_counts : (b : BootValue) (ticket : TicketValue) (c : ComponentNo) → Counts b (reboot_left b ticket c)
unfolding reboot_left
reboot_counts b ticket c =
    reboot_ends_counts b ticket (scope_of b c) (reboot_refusal b.start.limits b.entries (scope_of b c))

key_counts : (b : BootValue) (ticket : TicketValue) (key : ℕ) → Counts b (reboot_by_key b ticket key)
key_counts b ticket key = first (nat_lt key 4) (nat_lt key 8) where
  first : (p q : Bool) → Counts b (cond p (reboot_left b ticket (component_no A)) (cond q (reboot_left b ticket (component_no C)) (record { boot = b; ticket = None; outcome = None })))
  first true q = reboot_counts b ticket (component_no A)
  first false true = reboot_counts b ticket (component_no C)
  first false false = no_more (commit_count b.entries) 0 refl

deed_counts : (b : BootValue) (ticket : TicketValue) (k key : ℕ) (keeps : Bool) (deed : Deed) → Counts b (deed_left b ticket k key keeps deed)
deed_counts b ticket k key keeps deeds.Put = put_counts b ticket k key
deed_counts b ticket k key keeps deeds.Read = read_counts b ticket key
deed_counts b ticket k key keeps deeds.List = list_counts b ticket
deed_counts b ticket k key keeps deeds.Commit = commit_counts b ticket keeps
deed_counts b ticket k key keeps deeds.Reboot = key_counts b ticket key

caller_counts : (b : BootValue) (k : ℕ) (choice : Choice) (keeps : Bool) (caller : Caller) → Counts b (caller_left b k choice keeps caller)
caller_counts b k choice keeps Absent = begin_counts b choice.caller k choice.key
caller_counts b k choice keeps (Live ticket) = deed_counts b ticket k choice.key keeps choice.deed

-- a tally counts an answer as a commit where it is one
tally_counts : (outcome : Option Outcome) (t : Tally) → (counted_if outcome t).commits ≡ t.commits + committed outcome
tally_counts None t = omega arith
tally_counts (Some outcomes.Committed) t = omega arith
tally_counts (Some outcomes.Revoked) t = omega arith
tally_counts (Some outcomes.Conflict) t = omega arith
tally_counts (Some outcomes.Refused) t = omega arith

-- a turn adds as many commits to the tally as to the journal
turn_counts : (w : Work) (keeps : Bool) → commit_count (turn w keeps).boot.entries + w.tally.commits ≡ commit_count w.boot.entries + (turn w keeps).tally.commits
unfolding turn
turn_counts w keeps =
    let choice : Choice = chosen (next_number w.number) in
    let left : TurnLeft = caller_left w.boot w.turns choice keeps (caller_at w.callers choice.caller) in
    let journal : Counts w.boot left = caller_counts w.boot w.turns choice keeps (caller_at w.callers choice.caller) in
    let tally : (counted_if left.outcome w.tally).commits ≡ w.tally.commits + committed left.outcome = tally_counts left.outcome w.tally in
    omega (arith, journal, tally)

turns_count : (w : Work) (replies : List Bool) → commit_count (fold turn w replies).boot.entries + w.tally.commits ≡ commit_count w.boot.entries + (fold turn w replies).tally.commits
turns_count w [] = refl
turns_count w (r ∷ rs) =
    let rest : commit_count (fold turn (turn w r) rs).boot.entries + (turn w r).tally.commits ≡ commit_count (turn w r).boot.entries + (fold turn (turn w r) rs).tally.commits = turns_count (turn w r) rs in
    let one : commit_count (turn w r).boot.entries + w.tally.commits ≡ commit_count w.boot.entries + (turn w r).tally.commits = turn_counts w r in
    omega (arith, rest, one)

pub commits_counted : (number : ℕ) (b : BootValue) (replies : List Bool) → commit_count (worked number b replies).boot.entries ≡ commit_count b.entries + (worked number b replies).tally.commits
commits_counted number b replies =
    let all : commit_count (worked number b replies).boot.entries + 0 ≡ commit_count b.entries + (worked number b replies).tally.commits = turns_count (first_work number b) replies in
    omega (arith, all)

-- the first line of a summary
first_line : (t : Tally) (b : BootValue) → (rest : List ℕ) × (summary_of t b ≡ commits_line t.commits ++ rest)
unfolding lines_of call_lines
first_line t b =
    let feed : List ℕ = codes "\n" in
    let next : List ℕ = codes "revoked " in
    let number : List ℕ = decimal t.revoked in
    let line : List ℕ = commits_line t.commits in
    let before : List ℕ = codes "commits " ++ decimal t.commits in
    let more : List ℕ = next ++ (number ++ feed) in
    let later : List ℕ = refusal_lines t ++ (row_lines (length b.entries) (row_count (rows_now b)) ++ digest_line (table_text (rows_now b))) in
    let first : ((before ++ (feed ++ next)) ++ number) ++ feed ≡ ((line ++ next) ++ number) ++ feed = ap (λ (xs : List ℕ). (xs ++ number) ++ feed) (sym (append_assoc before feed next)) in
    let split : ((before ++ (feed ++ next)) ++ number) ++ feed ≡ line ++ more = first ∙ append_assoc (line ++ next) number feed ∙ append_assoc line next (number ++ feed) in
    (more ++ later, ap (λ (xs : List ℕ). xs ++ later) split ∙ append_assoc line more later)

pub commits_written : (number : ℕ) (start : Start) (replies : List Bool) → (rest : List ℕ) × (summary (worked number (new_boot start) replies) ≡ commits_line (commit_count (worked number (new_boot start) replies).boot.entries) ++ rest)
commits_written number start replies =
    let w : Work = worked number (new_boot start) replies in
    let none : commit_count (new_boot start).entries ≡ 0 = refl in
    let sum : commit_count w.boot.entries ≡ commit_count (new_boot start).entries + w.tally.commits = commits_counted number (new_boot start) replies in
    let all : commit_count w.boot.entries ≡ w.tally.commits = omega (arith, none, sum) in
    let (rest, line) = first_line w.tally w.boot in
    (rest, line ∙ ap (λ (n : ℕ). commits_line n ++ rest) (sym all))
