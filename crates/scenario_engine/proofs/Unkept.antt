-- Which rows a line changes for which memory runs out.
use Rattle.std.proofs.Common.{◌≡◌, ◌≢◌, ℕ, ◌+◌, Bool, true, false, cond, inl, inr, ◌⊎◌, List, [], ◌∷◌, ◌++◌, map, Option, Some, None, refl, sym, ap, ◌∙◌, subst}
use Rattle.std.specs.Prelude.{IfSome}
use Rattle.crash_base.specs.declared.row_id.RowId.{RowId}
use Rattle.crash_base.specs.declared.rows.RowWrite.{RowWrite}
use Rattle.crash_base.specs.Rows.{put_all}
use Rattle.outside.specs.declared.keeper.KeeperFault.TheVariants as faults
use Rattle.outside.specs.Keeper.{KeeperTold, after_call, after_writes, after_fault, TellsRefusal}
use Rattle.boot_core.specs.declared.refusals.CommitRefusal.{CommitRefusal}
use Rattle.container_core.specs.Start.{boot_row, first_bad, last_boot}
use Rattle.line_steps.specs.Callers.{caller_at}
use Rattle.line_steps.specs.declared.callers.Caller.{Caller}
use Rattle.line_steps.specs.declared.callers.Caller.TheVariants.{Live, Absent}
use Rattle.scenario_text.specs.declared.line.Line.{Line}
use Rattle.scenario_text.specs.declared.seat_line.SeatLine.{SeatLine}
use Rattle.scenario_text.specs.declared.seat_line.SeatLine.TheVariants as seats
use Rattle.seat_lines.specs.Handing.{line_hands}
use Rattle.scenario_text.specs.Line.{is_event}
use Rattle.scenario_text.specs.declared.line.Line.TheVariants as lines
use Rattle.scenario_engine.specs.Engine.{Replies, first_keeps, Target, TheHead, TheBoot, TheUnstarted, target_of, target_calls, calls_over, calls_on, line_calls}
use Rattle.scenario_engine.specs.KeeperCalls.{KeeperCall, Gave, Kept, Failed, KeeperSeen, TellsCalls, apply_calls}
use Rattle.scenario_engine.specs.Opening.{StartReplies, is_spent, start_calls_of}
use Rattle.scenario_engine.specs.Opening as opening
use Rattle.scenario_engine.specs.Running.{keep_calls, caller_calls, boot_refusal, commit_calls}
use Rattle.scenario_engine.specs.State.{RunningState, State, Heading, Running, site_of}
use Rattle.scenario_engine.specs.Seats.{handed_calls, seat_calls}
use Rattle.scenario_engine.specs.Telling.{DoesPartly, HoldsRowsButNumber}
use Rattle.scenario_engine.specs.Transcript.{calls_to}

-- a call that keeps the number of a boot, or nothing
abbrev IsOfNumber : KeeperCall → Type 0
IsOfNumber (Gave rows) = Unit {0}
IsOfNumber (Kept writes) = (n : ℕ) × (writes ≡ boot_row n ∷ [])
IsOfNumber Failed = Unit {0}

abbrev AreOfNumber : List KeeperCall → Type 0
AreOfNumber [] = Unit {0}
AreOfNumber (call ∷ calls) = IsOfNumber call × AreOfNumber calls

of_both : (calls more : List KeeperCall) → AreOfNumber calls → AreOfNumber more → AreOfNumber (calls ++ more)
of_both [] more a b = b
of_both (call ∷ calls) more (a, b) c = (a, of_both calls more b c)

of_first : (calls more : List KeeperCall) → AreOfNumber (calls ++ more) → AreOfNumber calls
of_first [] more a = tt
of_first (call ∷ calls) more (a, b) = (a, of_first calls more b)

number_handed : (n : ℕ) (keeps : Bool) → AreOfNumber (apply_calls (boot_row n ∷ []) keeps)
number_handed n true = ((n, refl), tt)
number_handed n false = (tt, tt)

start_over_rows : (rows : List RowWrite) (keeps : Bool) (bad : Option RowId) → AreOfNumber (opening.calls_over_rows rows keeps bad)
start_over_rows rows keeps (Some id) = tt
start_over_rows rows keeps None = go (is_spent rows)
  where
    go : (spent : Bool) → AreOfNumber (cond spent [] (apply_calls (boot_row (last_boot rows + 1) ∷ []) keeps))
    go true = tt
    go false = number_handed (last_boot rows + 1) keeps

start_of : (rows : Option (List RowWrite)) (keeps : Bool) → AreOfNumber (start_calls_of rows keeps)
start_of None keeps = (tt, tt)
start_of (Some rows) keeps = (tt, start_over_rows rows keeps (first_bad rows))

-- a commit whose writes the keeper does not keep
commit_unkept : (r : RunningState) (caller : ℕ) → AreOfNumber (commit_calls r caller false)
unfolding commit_calls
commit_unkept r caller = go (caller_at r.callers caller)
  where
    keep : (refusal : Option CommitRefusal) (writes : List RowWrite) → AreOfNumber (keep_calls refusal writes false)
    keep (Some refusal) writes = tt
    keep None [] = tt
    keep None (w ∷ ws) = (tt, tt)

    go : (a : Caller) → AreOfNumber (caller_calls r false a)
    go Absent = tt
    go (Live ticket) = keep (boot_refusal r ticket) ticket.call.writes

-- a line about connections, without replies
seat_unkept : (r : RunningState) (line : SeatLine) → AreOfNumber (seat_calls r line [])
unfolding seat_calls
seat_unkept r line = go r.site line
  where
    go : (site : Bool) (line : SeatLine) → AreOfNumber (cond site (handed_calls (line_hands (site_of r) line [])) [])
    go false line = tt
    go true (seats.Conn n) = tt
    go true (seats.Bytes n bytes) = tt
    go true (seats.End n) = tt
    go true (seats.Step n) = tt
    go true (seats.Run n) = tt

over_boot : (r : RunningState) (line : Line) (replies : Replies) → replies.keeps ≡ [] → AreOfNumber (calls_over r line replies)
over_boot r lines.Pass replies unkept = tt
over_boot r (lines.Head line) replies unkept = tt
over_boot r (lines.Call caller line) replies unkept = tt
over_boot r (lines.Boot line) replies unkept = tt
over_boot r (lines.Session line) replies unkept = tt
over_boot r (lines.Commit caller) replies unkept = subst (λ (keeps : List Bool). AreOfNumber (commit_calls r caller (first_keeps keeps))) (sym unkept) (commit_unkept r caller)
over_boot r (lines.Seat line) replies unkept = subst (λ (keeps : List Bool). AreOfNumber (seat_calls r line keeps)) (sym unkept) (seat_unkept r line)
over_boot r lines.Reopen replies unkept = start_of replies.again.rows replies.again.keeps

on_target : (target : Target) (line : Line) (replies : Replies) → replies.keeps ≡ [] → AreOfNumber (calls_on target line replies)
on_target (TheHead head) line replies unkept = tt
on_target (TheBoot r) line replies unkept = over_boot r line replies unkept
on_target (TheUnstarted head refusal) line replies unkept = tt

until_target : (s : State) (event : Bool) (replies : StartReplies) → AreOfNumber (target_calls s event replies)
until_target (Running r) event replies = tt
until_target (Heading head) false replies = tt
until_target (Heading head) true replies = start_of replies.rows replies.keeps

of_line : (s : State) (o : Option Line) (replies : Replies) → replies.keeps ≡ [] → AreOfNumber (calls_to s o replies)
unfolding line_calls
of_line s None replies unkept = tt
of_line s (Some line) replies unkept = of_both (target_calls s (is_event line) replies.first) _ (until_target s (is_event line) replies.first) (on_target (target_of s (is_event line) replies.first) line replies unkept)

-- a keeper that tells nothing never tells again
silent : (calls : List KeeperCall) (new : Option KeeperTold) → TellsCalls calls None new → new ≡ None
silent [] new told = told
silent (Gave rows ∷ calls) new (between, (given, is), told) = silent calls new (subst (λ b. TellsCalls calls b new) is told)
silent (Kept writes ∷ calls) new (between, is, told) = silent calls new (subst (λ b. TellsCalls calls b new) is told)
silent (Failed ∷ calls) new (between, (inl is), told) = silent calls new (subst (λ b. TellsCalls calls b new) is told)
silent (Failed ∷ calls) new (between, (inr is), told) = silent calls new (subst (λ b. TellsCalls calls b new) is told)

-- the number of a boot was handed over before the others
one_more : (n : ℕ) (writes : List RowWrite) (o : KeeperTold) (new : Option KeeperTold) → writes ≡ boot_row n ∷ [] → IfSome new (λ m. (numbers : List ℕ) × (m.rows ≡ put_all (map boot_row numbers) (put_all writes o.rows))) → IfSome new (λ m. (numbers : List ℕ) × (m.rows ≡ put_all (map boot_row numbers) o.rows))
one_more n writes o None is h = tt
one_more n writes o (Some m) is (numbers, rows) = (n ∷ numbers, rows ∙ ap (λ ws. put_all (map boot_row numbers) (put_all ws o.rows)) is)

-- what the keeper holds after calls that hand over numbers alone
numbered : (calls : List KeeperCall) (o : KeeperTold) (new : Option KeeperTold) → AreOfNumber calls → TellsCalls calls (Some o) new → IfSome new (λ n. (numbers : List ℕ) × (n.rows ≡ put_all (map boot_row numbers) o.rows))
numbered [] o None of told = tt
numbered [] o (Some n) of told = ([], (let same : n ≡ o = cc in ap (λ (t : KeeperTold). t.rows) same))
numbered (Gave rows ∷ calls) o new of (between, (given, is), told) =
    numbered calls (after_call o) new of.1 (subst (λ b. TellsCalls calls b new) is told)
numbered (Kept writes ∷ calls) o new ((n, is_number), of) (between, is, told) =
    let later = numbered calls (after_writes writes o) new of (subst (λ b. TellsCalls calls b new) is told) in
    one_more n writes o new is_number later
numbered (Failed ∷ calls) o new of (between, (inl is), told) =
    numbered calls (after_fault faults.Failed o) new of.1 (subst (λ b. TellsCalls calls b new) is told)
numbered (Failed ∷ calls) o new of (between, (inr is), told) =
    let none : new ≡ None = silent calls new (subst (λ b. TellsCalls calls b new) is told) in
    subst (λ m. IfSome m (λ n. (numbers : List ℕ) × (n.rows ≡ put_all (map boot_row numbers) o.rows))) (sym none) tt

-- calls that were made, and maybe one for which the keeper had no memory
with_last : (o : KeeperTold) (more : List KeeperCall) (between new : Option KeeperTold) → IfSome between (λ n. (numbers : List ℕ) × (n.rows ≡ put_all (map boot_row numbers) o.rows)) → ((new ≡ between) ⊎ ((more ≢ []) × TellsRefusal faults.OutOfMemory between new)) → IfSome new (λ n. (numbers : List ℕ) × (n.rows ≡ put_all (map boot_row numbers) o.rows))
with_last o more between new h (inl is) = subst (λ m. IfSome m (λ n. (numbers : List ℕ) × (n.rows ≡ put_all (map boot_row numbers) o.rows))) (sym is) h
with_last o more None new h (inr (some, (inl is))) = subst (λ m. IfSome m (λ n. (numbers : List ℕ) × (n.rows ≡ put_all (map boot_row numbers) o.rows))) (sym is) tt
with_last o more (Some n) new h (inr (some, (inl is))) = subst (λ m. IfSome m (λ n. (numbers : List ℕ) × (n.rows ≡ put_all (map boot_row numbers) o.rows))) (sym is) h
with_last o more between new h (inr (some, (inr is))) = subst (λ m. IfSome m (λ n. (numbers : List ℕ) × (n.rows ≡ put_all (map boot_row numbers) o.rows))) (sym is) tt

-- the same, where the keeper told at first
numbered_some : (s : State) (o : Option Line) (t : KeeperTold) (old new : KeeperSeen) → old.told ≡ Some t → DoesPartly s o old new → HoldsRowsButNumber (Some t) new.told
numbered_some s o t old new tells h =
    let some = h.made in
    let of : AreOfNumber (some.made ++ some.more) = subst AreOfNumber some.begins (of_line s o h.replies h.unkept) in
    let told : TellsCalls some.made (Some t) some.between = subst (λ o. TellsCalls some.made o some.between) tells some.told in
    with_last t some.more some.between new.told (numbered some.made t some.between (of_first some.made some.more of) told) some.last

pub numbers_alone : (s : State) (o : Option Line) (old new : KeeperSeen) → DoesPartly s o old new → HoldsRowsButNumber old.told new.told
numbers_alone s o old new h = go old.told refl
  where
    go : (told : Option KeeperTold) → old.told ≡ told → HoldsRowsButNumber told new.told
    go None is = tt
    go (Some t) is = numbered_some s o t old new is h
