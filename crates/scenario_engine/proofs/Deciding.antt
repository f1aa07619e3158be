-- The lines of turns, the keeper's rows and which of its calls fail decide all that the turns do.
use Rattle.std.proofs.Common.{◌≡◌, ℕ, ◌+◌, ◌-◌, ◌^◌, ◌<◌, ◌≤◌, Bool, true, false, cond, if◌then◌else◌, inl, inr, ◌⊎◌, is_some, List, [], ◌∷◌, ◌++◌, length, Option, Some, None, All, refl, sym, ap, ◌∙◌, subst, arith, append_assoc, append-nil}
use Rattle.std.specs.Prelude.{nat_lt}
use Rattle.std.proofs.lemmas.List.{append_cancel_left}
use Rattle.std.proofs.lemmas.List.Elements.{All-nil, All-cons, All-head, All-append, All-weaker}
use Rattle.crash_base.specs.declared.row_id.RowId.{RowId}
use Rattle.crash_base.specs.declared.rows.RowWrite.{RowWrite}
use Rattle.deployment.specs.declared.parts.Parts.{Parts}
use Rattle.journal_model.specs.declared.limits.JournalLimits.{JournalLimits}
use Rattle.outside.specs.declared.keeper.KeeperFault.TheVariants as faults
use Rattle.outside.specs.Faults.{counted}
use Rattle.outside.specs.Keeper.{KeeperTold, after_call, after_writes, after_fault}
use Rattle.boot_core.specs.declared.refusals.CommitRefusal.{CommitRefusal}
use Rattle.boot_core.specs.declared.refusals.CommitRefusal.TheVariants as commits
use Rattle.scenario_engine.specs.declared.failure.UnstartedCause.TheVariants as causes
use Rattle.container_core.specs.Start.{first_bad, last_boot, boot_row, start_over}
use Rattle.scenario_text.specs.Answer.{Answer, Refused, Done, within}
use Rattle.scenario_text.specs.declared.line.Line.{Line}
use Rattle.scenario_text.specs.declared.line.Line.TheVariants as lines
use Rattle.scenario_text.specs.declared.line.TheConstants.{MAX_LINE_BYTES}
use Rattle.scenario_text.specs.Line.{is_event}
use Rattle.scenario_text.specs.Reading.{line_of}
use Rattle.line_steps.specs.declared.callers.Caller.{Caller}
use Rattle.line_steps.specs.declared.callers.Caller.TheVariants.{Absent, Live}
use Rattle.line_steps.specs.Callers.{caller_at, call_step}
use Rattle.line_steps.specs.Head.{head_line}
use Rattle.session_steps.specs.Sessions.{session_line}
use Rattle.scenario_engine.specs.Engine.{Replies, first_keeps, Target, TheHead, TheBoot, TheUnstarted, opened_target, target_of, target_calls, in_head, next_opening, reopens, line_over, line_on, step, calls_over, calls_on, line_calls}
use Rattle.scenario_engine.specs.Seats.{in_boot, by_replies, seat_over, handed_calls, seat_calls}
use Rattle.scenario_text.specs.declared.seat_line.SeatLine.{SeatLine}
use Rattle.scenario_text.specs.declared.seat_line.SeatLine.TheVariants as seats
use Rattle.scenario_text.proofs.Leaving.{Leaves}
use Rattle.seat_lines.specs.Handing.{Handed, handed_first, line_hands, run_hands, writes_by}
use Rattle.seat_lines.specs.Lines.{is_beyond, step_line}
use Rattle.seat_lines.specs.Runs.{can_run, rests, run_from, run_line, seat_line}
use Rattle.seat_lines.specs.Site.{SiteState, seat_at}
use Rattle.scenario_engine.proofs.SeatChanges.{HasStep, ReplyLaw, changed_step, unasked_step}
use Rattle.scenario_engine.proofs.SeatRows.{is_done, hands_on, first_calls, step_done, there_where, no_hands, near_of, bricks_of, done_alike}
use Rattle.scenario_engine.specs.KeeperCalls.{KeeperCall, Gave, Kept, Failed, apply_calls, TellsCalls}
use Rattle.scenario_engine.specs.Opening.{StartReplies, Opened, UnstartedBoot, is_spent, opening, opening_of, opening_over, calls_over_rows, start_calls, start_calls_of}
use Rattle.scenario_engine.specs.Running.{commit_ends, with_keeper, boot_refusal, keep_calls, caller_commits, caller_calls, commit_step, with_called, with_sessions, commit_calls, boot_line}
use Rattle.scenario_engine.specs.State.{RunningState, State, Heading, Running, Outcome, RefusedIn, DoneTo, UnstartedIn, UnderWayIn, site_of}
use Rattle.scenario_engine.specs.Transcript.{Turn, lines_in, first, answer_to, turn_outcome, calls_to, turn_calls, calls_from, transcript, End, end_from, Ended, RefusedAt, TooLong, Unstarted, UnderWay, IsAnswered}
use Rattle.scenario_engine.proofs.TellingCalls.{none_after}
use Rattle.crash_base.specs.declared.fault_plans.FaultPlan.{FaultPlan}
use Rattle.component_pool.specs.Plans.{left_by_process}

-- the last value of a count of calls
abbrev pub LAST_COUNT : ℕ
LAST_COUNT = 2 ^ 64 - 1

-- what a keeper that goes on telling tells after a call
abbrev after : KeeperCall → KeeperTold → KeeperTold
after (Gave rows) v = after_call v
after (Kept writes) v = after_writes writes v
after Failed v = after_fault faults.Failed v

after_first : (call : KeeperCall) (more : List KeeperCall) (v a : KeeperTold) → TellsCalls (call ∷ more) (Some v) (Some a) → TellsCalls more (Some (after call v)) (Some a)
after_first (Gave rows) more v a (between, (given, is), rest) =
    let P : Option KeeperTold → Type 0 = λ o. TellsCalls more o (Some a) in subst P is rest
after_first (Kept writes) more v a (between, is, rest) =
    let P : Option KeeperTold → Type 0 = λ o. TellsCalls more o (Some a) in subst P is rest
after_first Failed more v a (between, inl is, rest) =
    let P : Option KeeperTold → Type 0 = λ o. TellsCalls more o (Some a) in subst P is rest
after_first Failed more v a (between, inr is, rest) =
    let P : Option KeeperTold → Type 0 = λ o. TellsCalls more o (Some a) in
    absurd (cc (none_after more (Some a) (subst P is rest)))

-- the numbers of calls

after_counts : (call : KeeperCall) (v : KeeperTold) → (after call v).calls ≡ counted v.calls
after_counts (Gave rows) v = refl
after_counts (Kept writes) v = refl
after_counts Failed v = refl

abbrev told_of : Option KeeperTold → KeeperTold → KeeperTold
told_of None v = v
told_of (Some t) v = t

none_made : (v a : KeeperTold) → TellsCalls [] (Some v) (Some a) → a ≡ v
none_made v a told = ap (λ o. told_of o v) told

-- the count of calls does not fall, where it was in its range
counts_up : (calls : List KeeperCall) (v a : KeeperTold) → v.calls ≤ LAST_COUNT → TellsCalls calls (Some v) (Some a) → v.calls ≤ a.calls
counts_up [] v a low told = omega (arith, ap (λ (t : KeeperTold). t.calls) (none_made v a told))
counts_up (call ∷ calls) v a low told =
    let one : (after call v).calls ≡ counted v.calls = after_counts call v in
    let small : (after call v).calls ≤ LAST_COUNT = omega (arith, one) in
    let later : (after call v).calls ≤ a.calls = counts_up calls (after call v) a small (after_first call calls v a told) in
    omega (arith, one, later, low)

-- a keeper that goes on has failed at calls of greater numbers than this, and else at those before
record HasFailed (n : ℕ) (v a : KeeperTold) : Type 0 where
  numbers : List ℕ
  is : a.failed ≡ v.failed ++ numbers
  later : All (λ k. n < k) numbers

failed_more : (call : KeeperCall) (n : ℕ) (v a : KeeperTold) → n < counted v.calls → HasFailed n (after call v) a → HasFailed n v a
failed_more (Gave rows) n v a low rest = record { numbers = rest.numbers; is = rest.is; later = rest.later }
failed_more (Kept writes) n v a low rest = record { numbers = rest.numbers; is = rest.is; later = rest.later }
failed_more Failed n v a low rest = record {
  numbers = counted v.calls ∷ rest.numbers;
  is = rest.is ∙ append_assoc v.failed (counted v.calls ∷ []) rest.numbers;
  later = All-cons (λ k. n < k) (counted v.calls) rest.numbers low rest.later;
}

has_failed : (calls : List KeeperCall) (n : ℕ) (v a : KeeperTold) → n < counted v.calls → TellsCalls calls (Some v) (Some a) → HasFailed n v a
has_failed [] n v a low told = record {
  numbers = [];
  is = ap (λ (t : KeeperTold). t.failed) (none_made v a told) ∙ sym (append-nil v.failed);
  later = All-nil (λ k. n < k);
}
has_failed (call ∷ calls) n v a low told =
    let one : (after call v).calls ≡ counted v.calls = after_counts call v in
    let next : n < counted (after call v).calls = omega (arith, one, low) in
    failed_more call n v a low (has_failed calls n (after call v) a next (after_first call calls v a told))

-- One keeper failed at the calls at which the other did, and then at calls of greater numbers than the other has made.
pub record FailsAlike (a b : KeeperTold) : Type 0 where
  pub more : List ℕ
  pub is : a.failed ≡ b.failed ++ more
  pub later : All (λ k. b.calls < k) more

fails_same : (a b : KeeperTold) → a.failed ≡ b.failed → FailsAlike a b
fails_same a b same = record { more = []; is = same ∙ sym (append-nil b.failed); later = All-nil (λ k. b.calls < k) }

-- a call that failed for one keeper, and not for the other, tells them apart
clash : (k : ℕ) (before ones twos : List ℕ) → before ++ k ∷ ones ≡ before ++ twos → All (λ j. k < j) twos → ⊥
clash k before ones twos whole later =
    let ends : k ∷ ones ≡ twos = append_cancel_left before (k ∷ ones) twos whole in
    let P : List ℕ → Type 0 = λ xs. All (λ j. k < j) xs in
    let below : k < k = All-head (λ j. k < j) k ones (subst P (sym ends) later) in
    omega (arith, below)

clash_left : (v w a b : KeeperTold) (calls others : List KeeperCall) → w.failed ≡ v.failed → w.calls ≡ counted v.calls → counted v.calls < LAST_COUNT
    → TellsCalls calls (Some (after Failed v)) (Some a) → TellsCalls others (Some w) (Some b) → FailsAlike a b → ⊥
clash_left v w a b calls others left number few one two alike =
    let k : ℕ = counted v.calls in
    let next : k < counted w.calls = omega (arith, number, few) in
    let low : w.calls ≤ LAST_COUNT = omega (arith, number, few) in
    let count : w.calls ≤ b.calls = counts_up others w b low two in
    let least : k ≤ b.calls = omega (arith, number, count) in
    let ones : HasFailed 0 (after Failed v) a = has_failed calls 0 (after Failed v) a (omega arith) one in
    let twos : HasFailed k w b = has_failed others k w b next two in
    let whole : v.failed ++ k ∷ ones.numbers ≡ v.failed ++ (twos.numbers ++ alike.more) =
    sym (append_assoc v.failed (k ∷ []) ones.numbers) ∙ sym ones.is ∙ alike.is ∙ ap (λ xs. xs ++ alike.more) (twos.is ∙ ap (λ xs. xs ++ twos.numbers) left) ∙ append_assoc v.failed twos.numbers alike.more in
    let past : All (λ j. k < j) alike.more = All-weaker (λ j. b.calls < j) (λ j. k < j) (λ j less. omega (arith, less, least)) alike.more alike.later in
    clash k v.failed ones.numbers (twos.numbers ++ alike.more) whole (All-append (λ j. k < j) twos.numbers alike.more twos.later past)

clash_right : (v w a b : KeeperTold) (calls others : List KeeperCall) → w.failed ≡ v.failed → w.calls ≡ counted v.calls → counted v.calls < LAST_COUNT
    → TellsCalls calls (Some w) (Some a) → TellsCalls others (Some (after Failed v)) (Some b) → FailsAlike a b → ⊥
clash_right v w a b calls others left number few two one alike =
    let k : ℕ = counted v.calls in
    let next : k < counted w.calls = omega (arith, number, few) in
    let ones : HasFailed 0 (after Failed v) b = has_failed others 0 (after Failed v) b (omega arith) one in
    let twos : HasFailed k w a = has_failed calls k w a next two in
    let rest : List ℕ = ones.numbers ++ alike.more in
    let whole : v.failed ++ k ∷ rest ≡ v.failed ++ twos.numbers =
    sym (append_assoc v.failed (k ∷ []) rest) ∙ sym (append_assoc (v.failed ++ k ∷ []) ones.numbers alike.more) ∙ ap (λ xs. xs ++ alike.more) (sym ones.is) ∙ sym alike.is ∙ twos.is ∙ ap (λ xs. xs ++ twos.numbers) left in
    clash k v.failed rest twos.numbers whole twos.later

-- calls of two keepers that tell the same before, and the same failed calls after, of which one may have made more
pub record Twins (calls others : List KeeperCall) (v a b : KeeperTold) : Type 0 where
  pub left : TellsCalls calls (Some v) (Some a)
  pub right : TellsCalls others (Some v) (Some b)
  pub failed : FailsAlike a b
  pub few : a.calls < LAST_COUNT

few_calls : (call : KeeperCall) (calls others : List KeeperCall) (v a b : KeeperTold) → Twins (call ∷ calls) others v a b → counted v.calls < LAST_COUNT
few_calls call calls others v a b twins =
    let one : (after call v).calls ≡ counted v.calls = after_counts call v in
    let small : (after call v).calls ≤ LAST_COUNT = omega (arith, one) in
    let later : (after call v).calls ≤ a.calls = counts_up calls (after call v) a small (after_first call calls v a twins.left) in
    omega (arith, one, later, twins.few)

abbrev has_lost : KeeperCall → Bool
has_lost (Gave rows) = false
has_lost (Kept writes) = false
has_lost Failed = true

lost_left : (call : KeeperCall) (calls others : List KeeperCall) (v a b : KeeperTold) → Twins (Failed ∷ calls) (call ∷ others) v a b → has_lost call ≡ true
lost_left (Gave rows) calls others v a b twins =
    absurd (clash_left v (after (Gave rows) v) a b calls others refl refl (few_calls Failed calls (Gave rows ∷ others) v a b twins) (after_first Failed calls v a twins.left) (after_first (Gave rows) others v b twins.right) twins.failed)
lost_left (Kept ws) calls others v a b twins =
    absurd (clash_left v (after (Kept ws) v) a b calls others refl refl (few_calls Failed calls (Kept ws ∷ others) v a b twins) (after_first Failed calls v a twins.left) (after_first (Kept ws) others v b twins.right) twins.failed)
lost_left Failed calls others v a b twins = refl

lost_right : (call : KeeperCall) (calls others : List KeeperCall) (v a b : KeeperTold) → Twins (call ∷ calls) (Failed ∷ others) v a b → has_lost call ≡ true
lost_right (Gave rows) calls others v a b twins =
    absurd (clash_right v (after (Gave rows) v) a b calls others refl refl (few_calls (Gave rows) calls (Failed ∷ others) v a b twins) (after_first (Gave rows) calls v a twins.left) (after_first Failed others v b twins.right) twins.failed)
lost_right (Kept ws) calls others v a b twins =
    absurd (clash_right v (after (Kept ws) v) a b calls others refl refl (few_calls (Kept ws) calls (Failed ∷ others) v a b twins) (after_first (Kept ws) calls v a twins.left) (after_first Failed others v b twins.right) twins.failed)
lost_right Failed calls others v a b twins = refl

twins_next : (call : KeeperCall) (calls others : List KeeperCall) (v a b : KeeperTold) → Twins (call ∷ calls) (call ∷ others) v a b → Twins calls others (after call v) a b
twins_next call calls others v a b twins = record {
  left = after_first call calls v a twins.left;
  right = after_first call others v b twins.right;
  failed = twins.failed;
  few = twins.few;
}

-- what two keepers make of the same is the same, and they go on as twins
pub record Decided {X : Type 0} (x y : X) (calls others : List KeeperCall) (a b : KeeperTold) : Type 0 where
  pub same : x ≡ y
  pub told : KeeperTold
  pub twins : Twins calls others told a b

decided_as : {X Y : Type 0} (f : X → Y) (x y : X) (calls others : List KeeperCall) (a b : KeeperTold) → Decided x y calls others a b → Decided (f x) (f y) calls others a b
decided_as f x y calls others a b decided = record { same = ap f decided.same; told = decided.told; twins = decided.twins }

undecided : {X : Type 0} (x : X) (calls others : List KeeperCall) (v a b : KeeperTold) → Twins calls others v a b → Decided x x calls others a b
undecided x calls others v a b twins = record { same = refl; told = v; twins = twins }

-- whether writes are kept

apply_decided : (ws : List RowWrite) (keeps other : Bool) (calls others : List KeeperCall) (v a b : KeeperTold)
    → Twins (apply_calls ws keeps ++ calls) (apply_calls ws other ++ others) v a b → Decided keeps other calls others a b
apply_decided ws true true calls others v a b twins =
    record { same = refl; told = after (Kept ws) v; twins = twins_next (Kept ws) calls others v a b twins }
apply_decided ws false false calls others v a b twins =
    record { same = refl; told = after Failed v; twins = twins_next Failed calls others v a b twins }
apply_decided ws true false calls others v a b twins = absurd (cc (lost_right (Kept ws) calls others v a b twins))
apply_decided ws false true calls others v a b twins = absurd (cc (lost_left (Kept ws) calls others v a b twins))

-- how a boot opens

unspent_decided : (parts : Parts) (plans : List FaultPlan) (limits : JournalLimits) (rows : List RowWrite) (spent keeps other : Bool) (calls others : List KeeperCall) (v a b : KeeperTold)
    → Twins ((if spent then [] else apply_calls (boot_row (last_boot rows + 1) ∷ []) keeps) ++ calls) ((if spent then [] else apply_calls (boot_row (last_boot rows + 1) ∷ []) other) ++ others) v a b
    → Decided (if spent then UnstartedBoot causes.BootsSpent else (if keeps then Opened (start_over parts plans limits rows) else UnstartedBoot causes.KeeperFailed)) (if spent then UnstartedBoot causes.BootsSpent else (if other then Opened (start_over parts plans limits rows) else UnstartedBoot causes.KeeperFailed)) calls others a b
unspent_decided parts plans limits rows true keeps other calls others v a b twins = undecided (UnstartedBoot causes.BootsSpent) calls others v a b twins
unspent_decided parts plans limits rows false keeps other calls others v a b twins =
    decided_as (λ (keeps : Bool). if keeps then Opened (start_over parts plans limits rows) else UnstartedBoot causes.KeeperFailed) keeps other calls others a b
    (apply_decided (boot_row (last_boot rows + 1) ∷ []) keeps other calls others v a b twins)

over_decided : (parts : Parts) (plans : List FaultPlan) (limits : JournalLimits) (rows : List RowWrite) (bad : Option RowId) (keeps other : Bool) (calls others : List KeeperCall) (v a b : KeeperTold)
    → Twins (calls_over_rows rows keeps bad ++ calls) (calls_over_rows rows other bad ++ others) v a b
    → Decided (opening_over parts plans limits rows keeps bad) (opening_over parts plans limits rows other bad) calls others a b
over_decided parts plans limits rows (Some id) keeps other calls others v a b twins = undecided (UnstartedBoot (causes.BadRow id)) calls others v a b twins
over_decided parts plans limits rows None keeps other calls others v a b twins =
    unspent_decided parts plans limits rows (is_spent rows) keeps other calls others v a b twins

given_decided : (parts : Parts) (plans : List FaultPlan) (limits : JournalLimits) (rows more : List RowWrite) (keeps other : Bool) (calls others : List KeeperCall) (v a b : KeeperTold)
    → Twins (Gave rows ∷ calls_over_rows rows keeps (first_bad rows) ++ calls) (Gave more ∷ calls_over_rows more other (first_bad more) ++ others) v a b
    → Decided (opening_over parts plans limits rows keeps (first_bad rows)) (opening_over parts plans limits more other (first_bad more)) calls others a b
given_decided parts plans limits rows more keeps other calls others v a b twins =
    let P : List RowWrite → Type 0 = λ given. Twins (Gave rows ∷ calls_over_rows rows keeps (first_bad rows) ++ calls) (Gave given ∷ calls_over_rows given other (first_bad given) ++ others) v a b
    → Decided (opening_over parts plans limits rows keeps (first_bad rows)) (opening_over parts plans limits given other (first_bad given)) calls others a b in
    let same : rows ≡ more = twins.left.1.0.0 ∙ sym twins.right.1.0.0 in
    let here : P rows = λ both.
    over_decided parts plans limits rows (first_bad rows) keeps other calls others (after (Gave rows) v) a b
    (twins_next (Gave rows) (calls_over_rows rows keeps (first_bad rows) ++ calls) (calls_over_rows rows other (first_bad rows) ++ others) v a b both) in
    subst P same here twins

replied_decided : (parts : Parts) (plans : List FaultPlan) (limits : JournalLimits) (given more : Option (List RowWrite)) (keeps other : Bool) (calls others : List KeeperCall) (v a b : KeeperTold)
    → Twins (start_calls_of given keeps ++ calls) (start_calls_of more other ++ others) v a b
    → Decided (opening_of parts plans limits given keeps) (opening_of parts plans limits more other) calls others a b
replied_decided parts plans limits None None keeps other calls others v a b twins =
    record { same = refl; told = after Failed v; twins = twins_next Failed calls others v a b twins }
replied_decided parts plans limits None (Some more) keeps other calls others v a b twins =
    absurd (cc (lost_left (Gave more) calls (calls_over_rows more other (first_bad more) ++ others) v a b twins))
replied_decided parts plans limits (Some rows) None keeps other calls others v a b twins =
    absurd (cc (lost_right (Gave rows) (calls_over_rows rows keeps (first_bad rows) ++ calls) others v a b twins))
replied_decided parts plans limits (Some rows) (Some more) keeps other calls others v a b twins =
    given_decided parts plans limits rows more keeps other calls others v a b twins

start_decided : (parts : Parts) (plans : List FaultPlan) (limits : JournalLimits) (replies other : StartReplies) (calls others : List KeeperCall) (v a b : KeeperTold)
    → Twins (start_calls replies ++ calls) (start_calls other ++ others) v a b
    → Decided (opening parts plans limits replies) (opening parts plans limits other) calls others a b
start_decided parts plans limits replies other calls others v a b twins =
    replied_decided parts plans limits replies.rows other.rows replies.keeps other.keeps calls others v a b twins

target_decided : (s : State) (event : Bool) (replies other : StartReplies) (calls others : List KeeperCall) (v a b : KeeperTold)
    → Twins (target_calls s event replies ++ calls) (target_calls s event other ++ others) v a b
    → Decided (target_of s event replies) (target_of s event other) calls others a b
target_decided (Running r) event replies other calls others v a b twins = undecided (TheBoot r) calls others v a b twins
target_decided (Heading head) false replies other calls others v a b twins = undecided (TheHead head) calls others v a b twins
target_decided (Heading head) true replies other calls others v a b twins =
    decided_as (opened_target head) (opening head.parts head.plans head.limits replies) (opening head.parts head.plans head.limits other) calls others a b
    (start_decided head.parts head.plans head.limits replies other calls others v a b twins)

-- a commit

keeper_decided : (refusal : Option CommitRefusal) (writes : List RowWrite) (keeps other : Bool) (calls others : List KeeperCall) (v a b : KeeperTold)
    → Twins (keep_calls refusal writes keeps ++ calls) (keep_calls refusal writes other ++ others) v a b
    → Decided (with_keeper refusal writes keeps) (with_keeper refusal writes other) calls others a b
keeper_decided (Some refusal) writes keeps other calls others v a b twins = undecided (Some refusal) calls others v a b twins
keeper_decided None [] keeps other calls others v a b twins = undecided None calls others v a b twins
keeper_decided None (w ∷ ws) keeps other calls others v a b twins =
    decided_as (λ (keeps : Bool). if keeps then None else Some commits.KeeperFailed) keeps other calls others a b
    (apply_decided (w ∷ ws) keeps other calls others v a b twins)

caller_decided : (r : RunningState) (n : ℕ) (keeps other : Bool) (caller : Caller) (calls others : List KeeperCall) (v a b : KeeperTold)
    → Twins (caller_calls r keeps caller ++ calls) (caller_calls r other caller ++ others) v a b
    → Decided (caller_commits r n keeps caller) (caller_commits r n other caller) calls others a b
caller_decided r n keeps other Absent calls others v a b twins = undecided (caller_commits r n keeps Absent) calls others v a b twins
caller_decided r n keeps other (Live ticket) calls others v a b twins =
    let writes = ticket.call.writes in
    let refusal = boot_refusal r ticket in
    decided_as (commit_ends r n ticket) (with_keeper refusal writes keeps) (with_keeper refusal writes other) calls others a b
    (keeper_decided refusal writes keeps other calls others v a b twins)

commit_decided : (r : RunningState) (n : ℕ) (keeps other : Bool) (calls others : List KeeperCall) (v a b : KeeperTold)
    → Twins (commit_calls r n keeps ++ calls) (commit_calls r n other ++ others) v a b
    → Decided (commit_step r n keeps) (commit_step r n other) calls others a b
unfolding commit_calls commit_step
commit_decided r n keeps other calls others v a b twins = caller_decided r n keeps other (caller_at r.callers n) calls others v a b twins

-- calls in three parts

joined_twins : (xs ys zs us vs ws : List KeeperCall) (v a b : KeeperTold) → Twins ((xs ++ ys) ++ zs) ((us ++ vs) ++ ws) v a b → Twins (xs ++ (ys ++ zs)) (us ++ (vs ++ ws)) v a b
joined_twins xs ys zs us vs ws v a b twins =
    let P : List KeeperCall → Type 0 = λ calls. TellsCalls calls (Some v) (Some a) in
    let Q : List KeeperCall → Type 0 = λ calls. TellsCalls calls (Some v) (Some b) in
    record {
      left = subst P (append_assoc xs ys zs) twins.left;
      right = subst Q (append_assoc us vs ws) twins.right;
      failed = twins.failed;
      few = twins.few;
    }

-- a line about connections

-- an outcome is none of a line under way
abbrev pub IsThere : Outcome → Type 0
IsThere (RefusedIn t) = Unit {0}
IsThere (DoneTo t text) = Unit {0}
IsThere (UnstartedIn t cause) = Unit {0}
IsThere (UnderWayIn t) = ⊥

-- what two keepers reply that are handed the same: the same, where something is handed
record Handled (writes : List RowWrite) (keeps other : Bool) (calls others : List KeeperCall) (a b : KeeperTold) : Type 0 where
  same : (writes ≡ []) ⊎ (keeps ≡ other)
  told : KeeperTold
  twins : Twins calls others told a b

handed_decided : (ws : List RowWrite) (keeps other : Bool) (calls others : List KeeperCall) (v a b : KeeperTold)
    → Twins (keep_calls None ws keeps ++ calls) (keep_calls None ws other ++ others) v a b → Handled ws keeps other calls others a b
handed_decided [] keeps other calls others v a b twins = record { same = inl refl; told = v; twins = twins }
handed_decided (w ∷ ws) keeps other calls others v a b twins =
    let d = apply_decided (w ∷ ws) keeps other calls others v a b twins in record { same = inr d.same; told = d.told; twins = d.twins }

first_decided : (ws : List RowWrite) (keeps other : Bool) (hs ks : List Handed) (calls others : List KeeperCall) (v a b : KeeperTold)
    → Twins (handed_calls (handed_first ws keeps hs) ++ calls) (handed_calls (handed_first ws other ks) ++ others) v a b → Handled ws keeps other (handed_calls hs ++ calls) (handed_calls ks ++ others) a b
first_decided ws keeps other hs ks calls others v a b twins =
    let P : List KeeperCall → Type 0 = λ cs. Twins (cs ++ calls) (handed_calls (handed_first ws other ks) ++ others) v a b in
    let Q : List KeeperCall → Type 0 = λ cs. Twins ((keep_calls None ws keeps ++ handed_calls hs) ++ calls) (cs ++ others) v a b in
    handed_decided ws keeps other (handed_calls hs ++ calls) (handed_calls ks ++ others) v a b
    (joined_twins (keep_calls None ws keeps) (handed_calls hs) calls (keep_calls None ws other) (handed_calls ks) others v a b (subst Q (first_calls ws other ks) (subst P (first_calls ws keeps hs) twins)))

abbrev hands_of : SiteState → ℕ → Bool → Answer SiteState → List Handed
hands_of s n keeps x = elim x [ Refused ↦ [] | Done t out ↦ handed_first (writes_by (seat_at s.seats.seats n) s.boot) keeps [] ]

abbrev runs_on : List ℕ → ℕ → List Bool → Answer SiteState → Option (Answer SiteState)
runs_on text n more x = elim x [ Refused ↦ Some Refused | Done t out ↦ run_from t (text ++ out) n more ]

abbrev more_hands : ℕ → List Bool → Answer SiteState → List Handed
more_hands n more x = elim x [ Refused ↦ [] | Done t out ↦ run_hands t n more ]

-- the same line, with other replies
abbrev pub replied : Turn → Replies → Turn
replied turn other = record { line = turn.line; replies = other }

-- two lists of turns have written the same, and ended the same, and so have their keepers
record AreAlike (text written : List ℕ) (end ending : End) (a b : KeeperTold) : Type 0 where
  pub texts : text ≡ written
  pub ends : end ≡ ending
  pub told : a ≡ b

abbrev Alike : State → ℕ → List Turn → List Turn → KeeperTold → KeeperTold → Type 0
Alike s n turns others a b = AreAlike (transcript s turns) (transcript s others) (end_from s n turns) (end_from s n others) a b

module _ (unasked : ReplyLaw) where
  same_step : (s : SiteState) (n : ℕ) (keeps other : Bool) → (writes_by (seat_at s.seats.seats n) s.boot ≡ []) ⊎ (keeps ≡ other) → step_line s n keeps ≡ step_line s n other
  same_step s n keeps other (inl none) = unasked_step unasked s n keeps other none
  same_step s n keeps other (inr is) = ap (λ (k : Bool). step_line s n k) is

  -- what a step hands by its answer, and what a run comes to and hands behind it

  -- one step

  step_decided_by : (s : SiteState) (n : ℕ) (keeps other : Bool) (x y : Answer SiteState) → step_line s n keeps ≡ x → step_line s n other ≡ y → (calls others : List KeeperCall) (v a b : KeeperTold)
      → Twins (handed_calls (hands_of s n keeps x) ++ calls) (handed_calls (hands_of s n other y) ++ others) v a b → Decided x y calls others a b
  step_decided_by s n keeps other Refused Refused ix iy calls others v a b twins = undecided Refused calls others v a b twins
  step_decided_by s n keeps other Refused (Done u out) ix iy calls others v a b twins =
      let one : is_done (step_line s n keeps) ≡ false = ap is_done ix in
      let two : is_done (step_line s n other) ≡ true = ap is_done iy in
      let both : is_done (step_line s n keeps) ≡ is_done (step_line s n other) = done_alike s n keeps other in absurd (cc)
  step_decided_by s n keeps other (Done t out) Refused ix iy calls others v a b twins =
      let one : is_done (step_line s n keeps) ≡ true = ap is_done ix in
      let two : is_done (step_line s n other) ≡ false = ap is_done iy in
      let both : is_done (step_line s n keeps) ≡ is_done (step_line s n other) = done_alike s n keeps other in absurd (cc)
  step_decided_by s n keeps other (Done t out) (Done u text) ix iy calls others v a b twins =
      let ws = writes_by (seat_at s.seats.seats n) s.boot in
      let d = first_decided ws keeps other [] [] calls others v a b twins in
      record { same = sym ix ∙ same_step s n keeps other d.same ∙ iy; told = d.told; twins = d.twins }

  -- a run

  run_decided : (s : SiteState) (text : List ℕ) (n : ℕ) (replies other : List Bool) (calls others : List KeeperCall) (v a b : KeeperTold) → is_beyond n ≡ false → is_some s.sessions.store ≡ true
      → is_some (run_from s text n replies) ≡ true → is_some (run_from s text n other) ≡ true
      → Twins (handed_calls (run_hands s n replies) ++ calls) (handed_calls (run_hands s n other) ++ others) v a b → Decided (run_from s text n replies) (run_from s text n other) calls others a b
  run_decided s text n [] [] calls others v a b near bricks hx hy twins = undecided (run_from s text n []) calls others v a b twins
  run_decided s text n [] (o ∷ rest) calls others v a b near bricks hx hy twins = go (rests (seat_at s.seats.seats n)) hx twins
    where
      go : (r : Bool) → is_some (cond r (Some (Done s text)) None) ≡ true → Twins calls (handed_calls (hands_on s n o rest r (step_line s n o)) ++ others) v a b
          → Decided (cond r (Some (Done s text)) None) (cond r (Some (Done s text)) (runs_on text n rest (step_line s n o))) calls others a b
      go true hx twins = undecided (Some (Done s text)) calls others v a b twins
      go false hx twins = absurd (cc)
  run_decided s text n (k ∷ more) [] calls others v a b near bricks hx hy twins = go (rests (seat_at s.seats.seats n)) hy twins
    where
      go : (r : Bool) → is_some (cond r (Some (Done s text)) None) ≡ true → Twins (handed_calls (hands_on s n k more r (step_line s n k)) ++ calls) others v a b
          → Decided (cond r (Some (Done s text)) (runs_on text n more (step_line s n k))) (cond r (Some (Done s text)) None) calls others a b
      go true hy twins = undecided (Some (Done s text)) calls others v a b twins
      go false hy twins = absurd (cc)
  run_decided s text n (k ∷ more) (o ∷ rest) calls others v a b near bricks hx hy twins =
      go (λ t out w. run_decided t (text ++ out) n more rest calls others w a b near) (rests (seat_at s.seats.seats n)) refl (step_line s n k) refl (step_line s n o) refl (changed_step s n k) hx hy twins
    where
      Later : Type 0
      Later = (t : SiteState) (out : List ℕ) (w : KeeperTold) → is_some t.sessions.store ≡ true → is_some (run_from t (text ++ out) n more) ≡ true → is_some (run_from t (text ++ out) n rest) ≡ true
          → Twins (handed_calls (run_hands t n more) ++ calls) (handed_calls (run_hands t n rest) ++ others) w a b → Decided (run_from t (text ++ out) n more) (run_from t (text ++ out) n rest) calls others a b

      never : (keeps : Bool) → rests (seat_at s.seats.seats n) ≡ false → step_line s n keeps ≡ Refused → ⊥
      never keeps here is =
          let done : is_done (step_line s n keeps) ≡ true = step_done s n keeps near bricks (there_where (seat_at s.seats.seats n) here) in
          let none : is_done (step_line s n keeps) ≡ false = ap is_done is in absurd (cc)

      go : Later → (r : Bool) → rests (seat_at s.seats.seats n) ≡ r → (x : Answer SiteState) → step_line s n k ≡ x → (y : Answer SiteState) → step_line s n o ≡ y → Leaves (HasStep s n k) x
          → is_some (cond r (Some (Done s text)) (runs_on text n more x)) ≡ true → is_some (cond r (Some (Done s text)) (runs_on text n rest y)) ≡ true
          → Twins (handed_calls (hands_on s n k more r x) ++ calls) (handed_calls (hands_on s n o rest r y) ++ others) v a b
          → Decided (cond r (Some (Done s text)) (runs_on text n more x)) (cond r (Some (Done s text)) (runs_on text n rest y)) calls others a b
      go later true here x ix y iy h hx hy twins = undecided (Some (Done s text)) calls others v a b twins
      go later false here Refused ix y iy h hx hy twins = absurd (never k here ix)
      go later false here (Done t out) ix Refused iy h hx hy twins = absurd (never o here iy)
      go later false here (Done t out) ix (Done u wrote) iy h hx hy twins =
          let ws = writes_by (seat_at s.seats.seats n) s.boot in
          let d = first_decided ws k o (run_hands t n more) (run_hands u n rest) calls others v a b twins in
          let same : Done t out ≡ Done u wrote = sym ix ∙ same_step s n k o d.same ∙ iy in
          let P : Answer SiteState → Type 0 = λ y. is_some (runs_on text n rest y) ≡ true → Twins (handed_calls (run_hands t n more) ++ calls) (handed_calls (more_hands n rest y) ++ others) d.told a b
          → Decided (run_from t (text ++ out) n more) (runs_on text n rest y) calls others a b in
          let here_too : P (Done t out) = λ hy tw. later t out d.told h.bricks hx hy tw in
          subst P same here_too hy d.twins

  run_line_decided : (s : SiteState) (n : ℕ) (replies other : List Bool) (calls others : List KeeperCall) (v a b : KeeperTold) → is_some (run_line s n replies) ≡ true → is_some (run_line s n other) ≡ true
      → Twins (handed_calls (run_hands s n replies) ++ calls) (handed_calls (run_hands s n other) ++ others) v a b → Decided (run_line s n replies) (run_line s n other) calls others a b
  unfolding run_line
  run_line_decided s n replies other calls others v a b hx hy twins = go (can_run s n) refl hx hy
    where
      go : (can : Bool) → can_run s n ≡ can → is_some (cond can (run_from s [] n replies) (Some Refused)) ≡ true → is_some (cond can (run_from s [] n other) (Some Refused)) ≡ true
          → Decided (cond can (run_from s [] n replies) (Some Refused)) (cond can (run_from s [] n other) (Some Refused)) calls others a b
      go true can hx hy =
          run_decided s [] n replies other calls others v a b (near_of (is_beyond n) (is_some s.sessions.store) (is_some (seat_at s.seats.seats n)) can)
          (bricks_of (is_beyond n) (is_some s.sessions.store) (is_some (seat_at s.seats.seats n)) can) hx hy twins
      go false none hx hy =
          let P : List Handed → Type 0 = λ hs. Twins (handed_calls hs ++ calls) (handed_calls (run_hands s n other) ++ others) v a b in
          let Q : List Handed → Type 0 = λ hs. Twins calls (handed_calls hs ++ others) v a b in
          undecided (Some Refused) calls others v a b (subst Q (no_hands s n other none) (subst P (no_hands s n replies none) twins))

  -- a line about connections over a boot

  there_of : (r : RunningState) (line : SeatLine) (replies : List Bool) (o : Option (Answer SiteState)) → IsThere (by_replies r line replies o) → is_some o ≡ true
  there_of r line replies None there = absurd there
  there_of r line replies (Some x) there = refl

  -- one that is answered is by its answer alone
  by_answer : (r : RunningState) (line : SeatLine) (replies other : List Bool) (o : Option (Answer SiteState)) → is_some o ≡ true → by_replies r line replies o ≡ by_replies r line other o
  by_answer r line replies other None there = absurd (cc)
  by_answer r line replies other (Some x) there = refl

  line_decided_by : (r : RunningState) (line : SeatLine) (replies other : List Bool) (calls others : List KeeperCall) (v a b : KeeperTold)
      → is_some (seat_line (site_of r) line replies) ≡ true → is_some (seat_line (site_of r) line other) ≡ true
      → Twins (handed_calls (line_hands (site_of r) line replies) ++ calls) (handed_calls (line_hands (site_of r) line other) ++ others) v a b
      → Decided (seat_line (site_of r) line replies) (seat_line (site_of r) line other) calls others a b
  line_decided_by r (seats.Conn n) replies other calls others v a b hx hy twins = undecided _ calls others v a b twins
  line_decided_by r (seats.Bytes n bytes) replies other calls others v a b hx hy twins = undecided _ calls others v a b twins
  line_decided_by r (seats.End n) replies other calls others v a b hx hy twins = undecided _ calls others v a b twins
  line_decided_by r (seats.Step n) [] other calls others v a b hx hy twins = absurd (cc)
  line_decided_by r (seats.Step n) (k ∷ more) [] calls others v a b hx hy twins = absurd (cc)
  line_decided_by r (seats.Step n) (k ∷ more) (o ∷ rest) calls others v a b hx hy twins =
      decided_as (λ (x : Answer SiteState). Some x) (step_line (site_of r) n k) (step_line (site_of r) n o) calls others a b
      (step_decided_by (site_of r) n k o (step_line (site_of r) n k) (step_line (site_of r) n o) refl refl calls others v a b twins)
  line_decided_by r (seats.Run n) replies other calls others v a b hx hy twins = run_line_decided (site_of r) n replies other calls others v a b hx hy twins

  seat_decided : (r : RunningState) (line : SeatLine) (replies other : List Bool) (calls others : List KeeperCall) (v a b : KeeperTold) → IsThere (seat_over r line replies) → IsThere (seat_over r line other)
      → Twins (seat_calls r line replies ++ calls) (seat_calls r line other ++ others) v a b → Decided (seat_over r line replies) (seat_over r line other) calls others a b
  unfolding seat_over seat_calls
  seat_decided r line replies other calls others v a b hx hy twins = go r.site hx hy twins
    where
      go : (site : Bool) → IsThere (cond site (by_replies r line replies (seat_line (site_of r) line replies)) (RefusedIn (Running r))) → IsThere (cond site (by_replies r line other (seat_line (site_of r) line other)) (RefusedIn (Running r)))
          → Twins (cond site (handed_calls (line_hands (site_of r) line replies)) [] ++ calls) (cond site (handed_calls (line_hands (site_of r) line other)) [] ++ others) v a b
          → Decided (cond site (by_replies r line replies (seat_line (site_of r) line replies)) (RefusedIn (Running r))) (cond site (by_replies r line other (seat_line (site_of r) line other)) (RefusedIn (Running r))) calls others a b
      go false hx hy twins = undecided (RefusedIn (Running r)) calls others v a b twins
      go true hx hy twins =
          let x : is_some (seat_line (site_of r) line replies) ≡ true = there_of r line replies (seat_line (site_of r) line replies) hx in
          let y : is_some (seat_line (site_of r) line other) ≡ true = there_of r line other (seat_line (site_of r) line other) hy in
          let d = line_decided_by r line replies other calls others v a b x y twins in
          record {
            same = ap (λ (o : Option (Answer SiteState)). by_replies r line replies o) d.same ∙ by_answer r line replies other (seat_line (site_of r) line other) y;
            told = d.told;
            twins = d.twins;
          }

  -- a turn

  boot_decided : (r : RunningState) (line : Line) (replies other : Replies) (calls others : List KeeperCall) (v a b : KeeperTold)
      → IsThere (line_over r line replies) → IsThere (line_over r line other) → Twins (calls_over r line replies ++ calls) (calls_over r line other ++ others) v a b
      → Decided (line_over r line replies) (line_over r line other) calls others a b
  boot_decided r lines.Pass replies other calls others v a b hx hy twins = undecided (DoneTo (Running r) []) calls others v a b twins
  boot_decided r (lines.Head line) replies other calls others v a b hx hy twins = undecided (RefusedIn (Running r)) calls others v a b twins
  boot_decided r (lines.Call n line) replies other calls others v a b hx hy twins =
      undecided (in_boot r (within (with_called r) (call_step r.boot r.callers n line))) calls others v a b twins
  boot_decided r (lines.Boot line) replies other calls others v a b hx hy twins =
      undecided (in_boot r (boot_line r line)) calls others v a b twins
  boot_decided r (lines.Session line) replies other calls others v a b hx hy twins =
      undecided (in_boot r (within (with_sessions r) (session_line r.sessions line))) calls others v a b twins
  boot_decided r (lines.Commit n) replies other calls others v a b hx hy twins =
      decided_as (in_boot r) (commit_step r n (first_keeps replies.keeps)) (commit_step r n (first_keeps other.keeps)) calls others a b
      (commit_decided r n (first_keeps replies.keeps) (first_keeps other.keeps) calls others v a b twins)
  boot_decided r (lines.Seat line) replies other calls others v a b hx hy twins = seat_decided r line replies.keeps other.keeps calls others v a b hx hy twins
  boot_decided r lines.Reopen replies other calls others v a b hx hy twins =
      decided_as (reopens r) (next_opening r replies.again) (next_opening r other.again) calls others a b
      (start_decided r.boot.start.deployment (left_by_process r.boot.start.plans) r.boot.start.limits replies.again other.again calls others v a b twins)

  line_decided : (target : Target) (line : Line) (replies other : Replies) (calls others : List KeeperCall) (v a b : KeeperTold)
      → IsThere (line_on target line replies) → IsThere (line_on target line other) → Twins (calls_on target line replies ++ calls) (calls_on target line other ++ others) v a b
      → Decided (line_on target line replies) (line_on target line other) calls others a b
  line_decided (TheHead head) line replies other calls others v a b hx hy twins =
      undecided (in_head head (head_line head line)) calls others v a b twins
  line_decided (TheBoot r) line replies other calls others v a b hx hy twins = boot_decided r line replies other calls others v a b hx hy twins
  line_decided (TheUnstarted head refusal) line replies other calls others v a b hx hy twins =
      undecided (UnstartedIn (Heading head) refusal) calls others v a b twins

  -- on the targets that were reached
  reached_decided : (target reached : Target) (line : Line) (replies other : Replies) (calls others : List KeeperCall) (a b : KeeperTold)
      → IsThere (line_on target line replies) → IsThere (line_on reached line other) → Decided target reached (calls_on target line replies ++ calls) (calls_on reached line other ++ others) a b
      → Decided (line_on target line replies) (line_on reached line other) calls others a b
  reached_decided target reached line replies other calls others a b hx hy decided =
      let P : Target → Type 0 = λ there. IsThere (line_on there line other) → Twins (calls_on target line replies ++ calls) (calls_on there line other ++ others) decided.told a b
      → Decided (line_on target line replies) (line_on there line other) calls others a b in
      let here : P target = λ hy. line_decided target line replies other calls others decided.told a b hx hy in
      subst P decided.same here hy decided.twins

  step_decided : (s : State) (line : Line) (replies other : Replies) (calls others : List KeeperCall) (v a b : KeeperTold)
      → IsThere (step s line replies) → IsThere (step s line other) → Twins (line_calls s line replies ++ calls) (line_calls s line other ++ others) v a b
      → Decided (step s line replies) (step s line other) calls others a b
  unfolding line_calls step
  step_decided s line replies other calls others v a b hx hy twins =
      let event = is_event line in
      let target : Target = target_of s event replies.first in
      let reached : Target = target_of s event other.first in
      reached_decided target reached line replies other calls others a b hx hy
      (target_decided s event replies.first other.first (calls_on target line replies ++ calls) (calls_on reached line other ++ others) v a b
      (joined_twins (target_calls s event replies.first) (calls_on target line replies) calls (target_calls s event other.first) (calls_on reached line other) others v a b twins))

  answer_decided : (s : State) (o : Option Line) (replies other : Replies) (calls others : List KeeperCall) (v a b : KeeperTold)
      → IsThere (answer_to s o replies) → IsThere (answer_to s o other) → Twins (calls_to s o replies ++ calls) (calls_to s o other ++ others) v a b
      → Decided (answer_to s o replies) (answer_to s o other) calls others a b
  answer_decided s None replies other calls others v a b hx hy twins = undecided (RefusedIn s) calls others v a b twins
  answer_decided s (Some line) replies other calls others v a b hx hy twins = step_decided s line replies other calls others v a b hx hy twins

  pub turn_decided : (s : State) (turn : Turn) (other : Replies) (calls others : List KeeperCall) (v a b : KeeperTold)
      → IsThere (turn_outcome s turn) → IsThere (turn_outcome s (replied turn other)) → Twins (turn_calls s turn ++ calls) (turn_calls s (replied turn other) ++ others) v a b
      → Decided (turn_outcome s turn) (turn_outcome s (replied turn other)) calls others a b
  unfolding turn_calls turn_outcome
  turn_decided s turn other calls others v a b hx hy twins = answer_decided s (line_of turn.line) turn.replies other calls others v a b hx hy twins

  -- all turns

  -- a line that is too long spells none
  long_spells_none : (text : List ℕ) → nat_lt MAX_LINE_BYTES (length text) ≡ true → line_of text ≡ None
  unfolding line_of
  long_spells_none text long = rw long refl

  pub long_outcome : (s : State) (turn : Turn) → nat_lt MAX_LINE_BYTES (length turn.line) ≡ true → turn_outcome s turn ≡ RefusedIn s
  unfolding turn_outcome
  long_outcome s turn long = ap (λ o. answer_to s o turn.replies) (long_spells_none turn.line long)

  ended_alike : (text : List ℕ) (end : End) (v a b : KeeperTold) → Twins [] [] v a b → AreAlike text text end end a b
  ended_alike text end v a b twins = record {
    texts = refl;
    ends = refl;
    told = none_made v a twins.left ∙ sym (none_made v b twins.right);
  }

  -- after the first turn of each list, both of which are of the same line
  next_alike : (s : State) (n : ℕ) (turn : Turn) (other : Replies) (turns others : List Turn) (v a b : KeeperTold)
      → ((t : State) (w : KeeperTold) → IsAnswered (end_from t (n + 1) turns) → IsAnswered (end_from t (n + 1) others) → Twins (calls_from t turns) (calls_from t others) w a b → Alike t (n + 1) turns others a b)
      → IsAnswered (end_from s n (turn ∷ turns)) → IsAnswered (end_from s n (replied turn other ∷ others)) → Twins (calls_from s (turn ∷ turns)) (calls_from s (replied turn other ∷ others)) v a b → Alike s n (turn ∷ turns) (replied turn other ∷ others) a b
  next_alike s n turn other turns others v a b later hx hy twins =
      go (nat_lt MAX_LINE_BYTES (length turn.line)) refl hx hy twins
    where
      calls_after : List Turn → Outcome → List KeeperCall
      calls_after more outcome = elim outcome [
        | RefusedIn t ↦ []
        | DoneTo t text ↦ calls_from t more
        | UnstartedIn t refusal ↦ []
        | UnderWayIn t ↦ []
      ]

      text_after : List Turn → Outcome → List ℕ
      text_after more outcome = elim outcome [
        | RefusedIn t ↦ []
        | DoneTo t text ↦ text ++ transcript t more
        | UnstartedIn t refusal ↦ []
        | UnderWayIn t ↦ []
      ]

      end_after : List Turn → Outcome → End
      end_after more outcome = elim outcome [
        | RefusedIn t ↦ RefusedAt t n
        | DoneTo t text ↦ end_from t (n + 1) more
        | UnstartedIn t refusal ↦ Unstarted t refusal
        | UnderWayIn t ↦ UnderWay t n
      ]

      short : (outcome : Outcome) (w : KeeperTold) → IsAnswered (end_after turns outcome) → IsAnswered (end_after others outcome) → Twins (calls_after turns outcome) (calls_after others outcome) w a b
          → AreAlike (text_after turns outcome) (text_after others outcome) (end_after turns outcome) (end_after others outcome) a b
      short (RefusedIn t) w hx hy both = ended_alike [] (RefusedAt t n) w a b both
      short (DoneTo t text) w hx hy both =
          let rest : Alike t (n + 1) turns others a b = later t w hx hy both in
          record { texts = ap (λ more. text ++ more) rest.texts; ends = rest.ends; told = rest.told }
      short (UnstartedIn t refusal) w hx hy both = ended_alike [] (Unstarted t refusal) w a b both
      short (UnderWayIn t) w hx hy both = absurd hx

      is_there : (more : List Turn) (outcome : Outcome) → IsAnswered (end_after more outcome) → IsThere outcome
      is_there more (RefusedIn t) h = tt
      is_there more (DoneTo t text) h = tt
      is_there more (UnstartedIn t refusal) h = tt
      is_there more (UnderWayIn t) h = h

      reached : (one two : Outcome) → IsAnswered (end_after turns one) → IsAnswered (end_after others two) → Decided one two (calls_after turns one) (calls_after others two) a b
          → AreAlike (text_after turns one) (text_after others two) (end_after turns one) (end_after others two) a b
      reached one two hx hy decided =
          let P : Outcome → Type 0 = λ o. IsAnswered (end_after others o) → Twins (calls_after turns one) (calls_after others o) decided.told a b
          → AreAlike (text_after turns one) (text_after others o) (end_after turns one) (end_after others o) a b in
          let here : P one = λ hy. short one decided.told hx hy in
          subst P decided.same here hy decided.twins

      go : (long : Bool) → nat_lt MAX_LINE_BYTES (length turn.line) ≡ long
          → IsAnswered (if long then TooLong s n else end_after turns (turn_outcome s turn)) → IsAnswered (if long then TooLong s n else end_after others (turn_outcome s (replied turn other)))
          → Twins (if long then [] else (turn_calls s turn ++ calls_after turns (turn_outcome s turn))) (if long then [] else (turn_calls s (replied turn other) ++ calls_after others (turn_outcome s (replied turn other)))) v a b
          → AreAlike (text_after turns (turn_outcome s turn)) (text_after others (turn_outcome s (replied turn other)))
          (if long then TooLong s n else end_after turns (turn_outcome s turn)) (if long then TooLong s n else end_after others (turn_outcome s (replied turn other))) a b
      go true is hx hy both =
          let one : turn_outcome s turn ≡ RefusedIn s = long_outcome s turn is in
          let two : turn_outcome s (replied turn other) ≡ RefusedIn s = long_outcome s (replied turn other) is in
          rw (one, two) (ended_alike [] (TooLong s n) v a b both)
      go false is hx hy both =
          reached (turn_outcome s turn) (turn_outcome s (replied turn other)) hx hy
          (turn_decided s turn other (calls_after turns (turn_outcome s turn)) (calls_after others (turn_outcome s (replied turn other))) v a b (is_there turns (turn_outcome s turn) hx) (is_there others (turn_outcome s (replied turn other)) hy) both)

  pub heads_same : (x y : List ℕ) (xs ys : List (List ℕ)) → x ∷ xs ≡ y ∷ ys → x ≡ y
  heads_same x y xs ys same = cc

  pub tails_same : (x y : List ℕ) (xs ys : List (List ℕ)) → x ∷ xs ≡ y ∷ ys → xs ≡ ys
  tails_same x y xs ys same = cc

  alike : (s : State) (n : ℕ) (turns others : List Turn) (v a b : KeeperTold) → lines_in turns ≡ lines_in others
      → IsAnswered (end_from s n turns) → IsAnswered (end_from s n others) → Twins (calls_from s turns) (calls_from s others) v a b → Alike s n turns others a b
  alike s n [] [] v a b same hx hy twins = ended_alike [] (Ended s) v a b twins
  alike s n [] (other ∷ others) v a b same hx hy twins = absurd (cc)
  alike s n (turn ∷ turns) [] v a b same hx hy twins = absurd (cc)
  alike s n (turn ∷ turns) (other ∷ others) v a b same hx hy twins =
      let P : List ℕ → Type 0 = λ line. IsAnswered (end_from s n (record { line = line; replies = other.replies } ∷ others)) → Twins (calls_from s (turn ∷ turns)) (calls_from s (record { line = line; replies = other.replies } ∷ others)) v a b
      → Alike s n (turn ∷ turns) (record { line = line; replies = other.replies } ∷ others) a b in
      let line : turn.line ≡ other.line = heads_same turn.line other.line (lines_in turns) (lines_in others) same in
      let rest : lines_in turns ≡ lines_in others = tails_same turn.line other.line (lines_in turns) (lines_in others) same in
      let here : P turn.line = next_alike s n turn other.replies turns others v a b (λ t w hx hy both. alike t (n + 1) turns others w a b rest hx hy both) hx in
      subst P line here hy twins

  pub turns_decide : (turns others : List Turn) (t a b : KeeperTold) → lines_in turns ≡ lines_in others → IsAnswered (end_from first 1 turns) → IsAnswered (end_from first 1 others)
      → TellsCalls (calls_from first turns) (Some t) (Some a) → TellsCalls (calls_from first others) (Some t) (Some b)
      → a.failed ≡ b.failed → a.calls < 2 ^ 64 - 1
      → (transcript first turns ≡ transcript first others) × (end_from first 1 turns ≡ end_from first 1 others) × (a ≡ b)
  turns_decide turns others t a b same hx hy left right failed few =
      let both : Alike first 1 turns others a b =
      alike first 1 turns others t a b same hx hy (record { left = left; right = right; failed = fails_same a b failed; few = few }) in
      (both.texts, both.ends, both.told)
