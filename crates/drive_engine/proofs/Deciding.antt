-- A run that ends by its text and its keeper ends with the status that these call for.
use Rattle.std.proofs.Common.{◌≡◌, ◌≢◌, inl, inr, ◌⊎◌, ℕ, ◌+◌, ◌-◌, ◌<◌, ◌≤◌, nat_lt, Bool, true, false, cond, List, [], ◌∷◌, ◌++◌, length, length-append, take, Option, Some, None, All, refl, ap, sym, subst, ◌∙◌, append_assoc, append-nil, arith}
use Rattle.std.specs.Prelude.{IfSome}
use Rattle.std.proofs.lemmas.Bool.{cases_lt}
use Rattle.std.proofs.lemmas.Bool.Decides.{nat_tests}
use Rattle.std.proofs.Math.Seq.{take-append-add, take-append_seam}
use Rattle.scenario_engine.specs.declared.failure.UnstartedCause.{UnstartedCause}
use Rattle.scenario_engine.specs.declared.failure.UnstartedCause.TheVariants as causes
use Rattle.outside.specs.Keeper.{KeeperTold}
use Rattle.outside.specs.Source.{prepended}
use Rattle.scenario_text.specs.Cutting.{lines_of, text_of_lines, IsOneLine, IsCut}
use Rattle.scenario_text.specs.declared.line.TheConstants.{MAX_LINE_BYTES}
use Rattle.scenario_text.proofs.Cuts.{lines_fed, line_unfed}
use Rattle.scenario_text.proofs.EndedLines.{cut_of, cut_before, cut_after, lines_cut, FirstHas}
use Rattle.scenario_engine.specs.KeeperCalls.{KeeperCall, TellsCalls, seen}
use Rattle.scenario_engine.specs.Opening.{StartReplies, Opening}
use Rattle.scenario_engine.proofs.Starting.{opened}
use Rattle.boot_core.specs.Boot.{BootValue}
use Rattle.container_core.specs.Container.{HoldsRows}
use Rattle.workload.specs.Parts.{work_parts}
use Rattle.workload.specs.Turns.{worked}
use Rattle.workload.specs.Working.{work_limits}
use Rattle.scenario_engine.specs.State.{State}
use Rattle.scenario_engine.specs.Transcript.{Turn, lines_in, first, End, Ended, RefusedAt, TooLong, Unstarted, UnderWay, end_from, calls_from}
use Rattle.scenario_engine.proofs.Turns.{lines_in-push, no_replies, turns_of, lines_in-more, end_from-more, calls_from-more, Stops, end_from-stopped, calls_from-stopped, end_from-refused, end_from-unstarted, end_from-long, calls_from-long}
use Rattle.drive_engine.specs.declared.drive.TheConstants.{MAX_SCENARIO_BYTES}
use Rattle.drive_engine.specs.declared.groups.TheConstants.{MAX_DESCRIPTOR_BYTES}
use Rattle.drive_engine.specs.declared.words.Command.{Command}
use Rattle.drive_engine.specs.declared.words.Command.TheVariants.{Drive, Groups, Workload}
use Rattle.drive_engine.specs.declared.ending.Ending.{Ending}
use Rattle.drive_engine.specs.declared.ending.Ending.TheVariants as endings
use Rattle.drive_engine.specs.Command.{DescriptorsCallFor, IsCalledFor, Runs, Ends, asks_keeper, status_of_opening, status_of_unstarted, status_of_end, status_past_limit}
use Rattle.drive_engine.specs.Drive.{AreRead, HasDone, ScenarioStands, StopsAtLine, StopsUnstarted, StopsAtLongLine, StopsPastLimit, WritesTranscript}
use Rattle.drive_engine.specs.Ending.{status, IsReported}
use Rattle.drive_engine.specs.Exchange.{Exchange, IsRead}
use Rattle.drive_engine.specs.Groups.{IsDeployment, IsRefused}
use Rattle.drive_engine.specs.Work.{WritesSummary, WorksUnstarted, TellsTurns}

-- a text that was read, before what is left, where the source tells
told : (taken text : List ℕ) (before now : Option (List ℕ)) → before ≡ prepended taken now → before ≡ Some text → (more : List ℕ) × (now ≡ Some more) × (text ≡ taken ++ more)
told taken text before None h is = cc
told taken text before (Some more) h is = (more, refl, cc)

-- and all of it, where nothing is left
told_whole : (x : Exchange) (limit : ℕ) (text taken : List ℕ) → x.left_before ≡ Some text → IsRead limit x taken → text ≡ taken
told_whole x limit text taken is h =
    let t = told taken text x.left_before x.left_after h.taken is in
    let none : t.0 ≡ [] = subst (λ (o : Option (List ℕ)). IfSome o (λ bytes. bytes ≡ [])) t.1 h.ended in
    t.2 ∙ ap (λ more. taken ++ more) none ∙ append-nil taken

-- an end before the limit calls for its status, whatever comes after it
same_status : (e : End) (bytes : ℕ) → Stops e → status_past_limit e bytes ≡ status_of_end e
same_status (Ended s) bytes h = absurd h
same_status (RefusedAt s n) bytes h = refl
same_status (TooLong s n) bytes h = refl
same_status (Unstarted s r) bytes h = refl
same_status (UnderWay s n) bytes h = refl

-- calls that are the same tell the same
tells_same : (calls others : List KeeperCall) (old new : Option KeeperTold) → others ≡ calls → TellsCalls calls old new → TellsCalls others old new
tells_same calls others old new same tells = let P : List KeeperCall → Type 0 = λ cs. TellsCalls cs old new in subst P (sym same) tells

-- Turns whose lines are within the limit stop a scenario, whatever comes after them.
called_by_turns : (text tail : List ℕ) (turns : List Turn) (old new : Option KeeperTold) → text ≡ text_of_lines (lines_in turns) ++ tail → All IsOneLine (lines_in turns) → length (text_of_lines (lines_in turns)) ≤ MAX_SCENARIO_BYTES → Stops (end_from first 1 turns) → TellsCalls (calls_from first turns) old new → (n : ℕ) → Some n ≡ status_of_end (end_from first 1 turns) → IsCalledFor Drive text old new n
called_by_turns text tail turns old new is plain within stops tells n calls = elim (cases_lt MAX_SCENARIO_BYTES (length text)) [
  | inr short ↦ (
      let more = turns_of (lines_of tail) in
      record {
        turns = turns ++ more;
        calls = inl (record {
          short = short;
          lines = lines_in-more turns (lines_of tail) ∙ sym (ap lines_of is ∙ lines_fed (lines_in turns) tail plain);
          called = calls ∙ ap status_of_end (sym (end_from-stopped first 1 turns more stops));
        });
        told = tells_same (calls_from first turns) (calls_from first (turns ++ more)) old new (calls_from-stopped first 1 turns more stops) tells;
      })
  | inl long ↦ (
      let fed = text_of_lines (lines_in turns) in
      let room : ℕ = MAX_SCENARIO_BYTES - length fed in
      let h = cut_of (take room tail) in
      let more = turns_of h.0 in
      let size : length fed + room ≡ MAX_SCENARIO_BYTES = omega arith in
      let head : take MAX_SCENARIO_BYTES text ≡ fed ++ take room tail = ap (λ n. take n text) (sym size) ∙ ap (λ t. take (length fed + room) t) is ∙ take-append-add fed tail room in
      record {
        turns = turns ++ more;
        calls = inr (record {
          long = long;
          part = h.1;
          cut = subst (λ ls. IsCut (take MAX_SCENARIO_BYTES text) ls h.1) (sym (lines_in-more turns h.0)) (subst (λ t. IsCut t (lines_in turns ++ h.0) h.1) (sym head) (cut_before (lines_in turns) h.0 (take room tail) h.1 plain h.2));
          called = calls ∙ sym (ap (λ e. status_past_limit e (length h.1)) (end_from-stopped first 1 turns more stops) ∙ same_status (end_from first 1 turns) (length h.1) stops);
        });
        told = tells_same (calls_from first turns) (calls_from first (turns ++ more)) old new (calls_from-stopped first 1 turns more stops) tells;
      })
]

-- turns whose lines were read stop a scenario
decided_at_turns : (x : Exchange) (text : List ℕ) (turns : List Turn) → x.left_before ≡ Some text → AreRead x (lines_in turns) → Stops (end_from first 1 turns) → TellsCalls (calls_from first turns) x.keeper_before.told x.keeper_after.told → (n : ℕ) → Some n ≡ status_of_end (end_from first 1 turns) → IsCalledFor Drive text x.keeper_before.told x.keeper_after.told n
decided_at_turns x text turns is read stops tells n calls = go read
  where
    go : AreRead x (lines_in turns) → IsCalledFor Drive text x.keeper_before.told x.keeper_after.told n
    go (inl r) =
        let fed = text_of_lines (lines_in turns) in
        let t = told (fed ++ r.rest) text x.left_before x.left_after r.taken is in
        called_by_turns text (r.rest ++ t.0) turns x.keeper_before.told x.keeper_after.told (t.2 ∙ append_assoc fed r.rest t.0) r.plain r.within stops tells n calls
    go (inr r) =
        let whole = told_whole x MAX_SCENARIO_BYTES text r.text is r.read in
        record {
          turns = turns;
          calls = inl (record { short = omega (arith, r.read.short, ap length whole); lines = r.cut ∙ ap lines_of (sym whole); called = calls });
          told = tells;
        }

-- a turn after turns that were done stops a scenario
decided_at_turn : (x : Exchange) (text : List ℕ) (before : List Turn) (turn : Turn) (s : State) (e : End) → x.left_before ≡ Some text → AreRead x (lines_in before ++ turn.line ∷ []) → HasDone x before s → end_from s (1 + length before) (turn ∷ []) ≡ e → Stops e → ScenarioStands (before ++ turn ∷ []) x.keeper_before x.keeper_after → (n : ℕ) → Some n ≡ status_of_end e → IsCalledFor Drive text x.keeper_before.told x.keeper_after.told n
decided_at_turn x text before turn s e is read done ends stops keeper n calls =
    let all = before ++ turn ∷ [] in
    let whole : end_from first 1 all ≡ e = end_from-more first s 1 before (turn ∷ []) done.done ∙ ends in
    decided_at_turns x text all is (subst (λ ls. AreRead x ls) (sym (lines_in-push before turn)) read) (subst Stops (sym whole) stops) keeper.did.calls n (calls ∙ ap status_of_end (sym whole))

-- a line was refused
decided_at_line : (x : Exchange) (text : List ℕ) (n : ℕ) → x.left_before ≡ Some text → StopsAtLine n x → IsCalledFor Drive text x.keeper_before.told x.keeper_after.told 3
decided_at_line x text n is h = decided_at_turn x text h.before h.turn h.state (RefusedAt h.after (1 + length h.before)) is h.read h.done (end_from-refused h.state h.after (1 + length h.before) h.turn h.short h.refused) tt h.stands 3 refl

-- a boot was not started
decided_at_start : (x : Exchange) (text : List ℕ) (r : UnstartedCause) → x.left_before ≡ Some text → StopsUnstarted r x → IsCalledFor Drive text x.keeper_before.told x.keeper_after.told (status_of_unstarted r)
decided_at_start x text r is h = decided_at_turn x text h.before h.turn h.state (Unstarted h.after r) is h.read h.done (end_from-unstarted h.state h.after (1 + length h.before) h.turn r h.short h.unstarted) tt h.stands (status_of_unstarted r) refl

-- lines whose first, or else what follows them, is too long
long_within : (s : State) (n k : ℕ) (lines : List (List ℕ)) (part : List ℕ) → MAX_LINE_BYTES < k → IsOneLine part → FirstHas k lines part → (status_of_end (end_from s n (turns_of (lines ++ lines_of part))) ≡ Some 8) × (calls_from s (turns_of (lines ++ lines_of part)) ≡ [])
long_within s n k [] part long one has =
    let some : part ≢ [] = λ none. let empty : length part ≡ 0 = ap length none in absurd (omega (arith, has)) in
    let alone = line_unfed part one some in
    let turns : Turn = record { line = part; replies = no_replies } in (
      ap (λ ls. status_of_end (end_from s n (turns_of ls))) alone ∙ ap status_of_end (end_from-long s n turns [] (omega (arith, has))),
      ap (λ ls. calls_from s (turns_of ls)) alone ∙ calls_from-long s turns [] (omega (arith, has)),
    )
long_within s n k (line ∷ lines) part long one has =
    let turn : Turn = record { line = line; replies = no_replies } in
    let more = turns_of (lines ++ lines_of part) in
    (ap status_of_end (end_from-long s n turn more (omega (arith, has))), calls_from-long s turn more (omega (arith, has)))

long_past : (s : State) (n k : ℕ) (lines : List (List ℕ)) (part : List ℕ) → MAX_LINE_BYTES < k → FirstHas k lines part → (status_past_limit (end_from s n (turns_of lines)) (length part) ≡ Some 8) × (calls_from s (turns_of lines) ≡ [])
long_past s n k [] part long has = let test : nat_lt MAX_LINE_BYTES (length part) ≡ true = grind (arith, nat_tests, has) in (ap (λ b. cond b (Some 8) (Some 12)) test, refl)
long_past s n k (line ∷ lines) part long has =
    let turn : Turn = record { line = line; replies = no_replies } in
    (ap (λ e. status_past_limit e (length part)) (end_from-long s n turn (turns_of lines) (omega (arith, has))), calls_from-long s turn (turns_of lines) (omega (arith, has)))

-- turns that ask the keeper for nothing more
unasked_more : (s : State) (before more : List Turn) (old new : Option KeeperTold) → end_from first 1 before ≡ Ended s → calls_from s more ≡ [] → TellsCalls (calls_from first before) old new → TellsCalls (calls_from first (before ++ more)) old new
unasked_more s before more old new done none tells = tells_same (calls_from first before) (calls_from first (before ++ more)) old new (calls_from-more first s 1 before more done ∙ ap (λ cs. calls_from first before ++ cs) none ∙ append-nil (calls_from first before)) tells

-- a line was too long in a text within the limit
long_line_within : (x : Exchange) (text : List ℕ) (n : ℕ) (tail : List ℕ) (h : StopsAtLongLine n x) → text ≡ text_of_lines (lines_in h.before) ++ (h.line ++ tail) → length text ≤ MAX_SCENARIO_BYTES → IsCalledFor Drive text x.keeper_before.told x.keeper_after.told 8
long_line_within x text n tail h whole short =
    let before = lines_in h.before in
    let a = cut_after h.line tail h.one in
    let lines : lines_of text ≡ before ++ (a.0 ++ lines_of a.1) = ap lines_of whole ∙ lines_fed before (h.line ++ tail) h.plain ∙ ap (λ ls. before ++ ls) (lines_cut (h.line ++ tail) a.0 a.1 a.2) in
    let more = turns_of (a.0 ++ lines_of a.1) in
    let long = long_within h.state (1 + length h.before) (length h.line) a.0 a.1 h.long a.2.one a.3 in
    record {
      turns = h.before ++ more;
      calls = inl (record { short = short; lines = lines_in-more h.before (a.0 ++ lines_of a.1) ∙ sym lines; called = sym (ap status_of_end (end_from-more first h.state 1 h.before more h.done.done) ∙ long.0) });
      told = unasked_more h.state h.before more x.keeper_before.told x.keeper_after.told h.done.done long.1 h.stands.did.calls;
    }

-- and in one that goes on past it
long_line_past : (x : Exchange) (text : List ℕ) (n : ℕ) (tail : List ℕ) (h : StopsAtLongLine n x) → text ≡ text_of_lines (lines_in h.before) ++ (h.line ++ tail) → MAX_SCENARIO_BYTES < length text → IsCalledFor Drive text x.keeper_before.told x.keeper_after.told 8
long_line_past x text n tail h whole long =
    let before = lines_in h.before in
    let fed = text_of_lines before in
    let room : ℕ = MAX_SCENARIO_BYTES - length (fed ++ h.line) in
    let size : length (fed ++ h.line) + room ≡ MAX_SCENARIO_BYTES = omega (arith, h.within) in
    let a = cut_after h.line (take room tail) h.one in
    let split : text ≡ (fed ++ h.line) ++ tail = whole ∙ sym (append_assoc fed h.line tail) in
    let head : take MAX_SCENARIO_BYTES text ≡ fed ++ (h.line ++ take room tail) = ap (λ n. take n text) (sym size) ∙ ap (λ t. take (length (fed ++ h.line) + room) t) split ∙ take-append-add (fed ++ h.line) tail room ∙ append_assoc fed h.line (take room tail) in
    let cut : IsCut (take MAX_SCENARIO_BYTES text) (before ++ a.0) a.1 = subst (λ t. IsCut t (before ++ a.0) a.1) (sym head) (cut_before before a.0 (h.line ++ take room tail) a.1 h.plain a.2) in
    let more = turns_of a.0 in
    let past = long_past h.state (1 + length h.before) (length h.line) a.0 a.1 h.long a.3 in
    record {
      turns = h.before ++ more;
      calls = inr (record {
        long = long;
        part = a.1;
        cut = subst (λ ls. IsCut (take MAX_SCENARIO_BYTES text) ls a.1) (sym (lines_in-more h.before a.0)) cut;
        called = sym (ap (λ e. status_past_limit e (length a.1)) (end_from-more first h.state 1 h.before more h.done.done) ∙ past.0);
      });
      told = unasked_more h.state h.before more x.keeper_before.told x.keeper_after.told h.done.done past.1 h.stands.did.calls;
    }

-- a line was too long
decided_at_long_line : (x : Exchange) (text : List ℕ) (n : ℕ) → x.left_before ≡ Some text → StopsAtLongLine n x → IsCalledFor Drive text x.keeper_before.told x.keeper_after.told 8
decided_at_long_line x text n is h =
    let fed = text_of_lines (lines_in h.before) in
    let t = told (fed ++ (h.line ++ h.rest)) text x.left_before x.left_after h.taken is in
    let tail = h.rest ++ t.0 in
    let whole : text ≡ fed ++ (h.line ++ tail) = t.2 ∙ append_assoc fed (h.line ++ h.rest) t.0 ∙ ap (λ r. fed ++ r) (append_assoc h.line h.rest t.0) in
    elim (cases_lt MAX_SCENARIO_BYTES (length text)) [
      | inr short ↦ long_line_within x text n tail h whole short
      | inl long ↦ long_line_past x text n tail h whole long
    ]

-- the limit was passed
decided_past_limit : (x : Exchange) (text : List ℕ) → x.left_before ≡ Some text → StopsPastLimit x → IsCalledFor Drive text x.keeper_before.told x.keeper_after.told 12
decided_past_limit x text is h =
    let t = told (h.text ++ h.more) text x.left_before x.left_after h.taken is in
    let whole : text ≡ h.text ++ (h.more ++ t.0) = t.2 ∙ append_assoc h.text h.more t.0 in
    let head : take MAX_SCENARIO_BYTES text ≡ h.text = ap (λ n. take n text) (sym h.whole) ∙ ap (λ t. take (length h.text) t) whole ∙ take-append_seam h.text (h.more ++ t.0) in
    let test : nat_lt MAX_LINE_BYTES (length h.part) ≡ false = grind (arith, nat_tests, h.short) in
    let size : length text ≡ length h.text + (length h.more + length t.0) = ap length whole ∙ length-append h.text (h.more ++ t.0) ∙ ap (λ n. length h.text + n) (length-append h.more t.0) in
    record {
      turns = h.turns;
      calls = inr (record {
        long = more_than h.more h.past (length text) (length t.0) (size ∙ ap (λ n. n + (length h.more + length t.0)) h.whole);
        part = h.part;
        cut = subst (λ t. IsCut t (lines_in h.turns) h.part) (sym head) h.cut;
        called = sym (ap (λ e. status_past_limit e (length h.part)) h.done.done ∙ ap (λ b. cond b (Some 8) (Some 12)) test);
      });
      told = h.stands.did.calls;
    }
  where
    more_than : (more : List ℕ) → more ≢ [] → (n k : ℕ) → n ≡ MAX_SCENARIO_BYTES + (length more + k) → MAX_SCENARIO_BYTES < n
    more_than [] some n k e = absurd (some refl)
    more_than (b ∷ bs) some n k e = omega arith

-- all was done
decided_at_end : (x : Exchange) (text : List ℕ) → x.left_before ≡ Some text → WritesTranscript x → IsCalledFor Drive text x.keeper_before.told x.keeper_after.told 0
decided_at_end x text is h =
    let whole = told_whole x MAX_SCENARIO_BYTES text h.text is h.read in
    record {
      turns = h.turns;
      calls = inl (record { short = omega (arith, h.read.short, ap length whole); lines = h.lines ∙ ap lines_of (sym whole); called = sym (ap status_of_end h.done.done) });
      told = h.stands.did.calls;
    }

-- descriptors, which leave the keeper as it was
decided_for_groups : (x : Exchange) (text : List ℕ) (n : ℕ) → x.keeper_after.told ≡ x.keeper_before.told → DescriptorsCallFor text n → IsCalledFor Groups text x.keeper_before.told x.keeper_after.told n
decided_for_groups x text n unasked called = record { turns = []; calls = (refl, called); told = unasked }

-- the turn of a workload, where the keeper replies so
abbrev pub one_turn : StartReplies → List Bool → List Turn
one_turn replies keeps = record { line = []; replies = record { first = replies; again = replies; keeps = keeps } } ∷ []

-- a workload ran to its end
decided_for_work : (number count : ℕ) (x : Exchange) (text : List ℕ) → WritesSummary number count x → IsCalledFor (Workload number count) text x.keeper_before.told x.keeper_after.told 0
decided_for_work number count x text h =
    let works = h.works in
    let o = opened work_parts [] work_limits (seen x.keeper_before.told 0) (seen works.first 0) works.opened works.opens (omega arith) in
    let opens = o.2 in
    let Rows : BootValue → Type 0 = λ b. HoldsRows x.keeper_after.told (worked number b works.replies).boot in
    let Told : Opening → Type 0 = λ how. TellsTurns number count works.replies how works.first x.keeper_after.told in
    record {
      turns = one_turn opens.replies works.replies;
      calls = (refl, ap status_of_opening opens.opens);
      told = record {
        between = works.first;
        start = opens.made.told;
        turns = subst Told opens.opens (works.turns, subst Rows o.1 works.rows);
      };
    }

-- the boot of a workload was left unstarted
decided_without_work : (number count : ℕ) (x : Exchange) (text : List ℕ) (cause : UnstartedCause) → WorksUnstarted cause x → IsCalledFor (Workload number count) text x.keeper_before.told x.keeper_after.told (status_of_unstarted cause)
decided_without_work number count x text cause h =
    let Told : Opening → Type 0 = λ how. TellsTurns number count [] how x.keeper_after.told x.keeper_after.told in
    record {
      turns = one_turn h.opens.replies [];
      calls = (refl, ap status_of_opening h.opens.opens);
      told = record {
        between = x.keeper_after.told;
        start = h.opens.made.told;
        turns = subst Told h.opens.opens refl;
      };
    }

-- a command that asks its keeper for nothing leaves it as it was
abbrev pub LeavesKeeper : Command → Exchange → Type 0
LeavesKeeper Drive x = Unit {0}
LeavesKeeper Groups x = x.keeper_after.told ≡ x.keeper_before.told
LeavesKeeper (Workload number count) x = Unit {0}

-- Where the input tells its text, the status is what text and keeper call for, but for out of memory and for faults.
decided : (command : Command) (e : Ending) (x : Exchange) (text : List ℕ) → x.left_before ≡ Some text → LeavesKeeper command x → Runs command e x → IsCalledFor command text x.keeper_before.told x.keeper_after.told (status e) ⊎ ((status e ≡ 9) ⊎ ((status e ≡ 4) ⊎ (status e ≡ 5)))
decided Drive endings.Done x text is unasked h = inl (decided_at_end x text is h)
decided Groups endings.Done x text is unasked h =
    let whole = told_whole x MAX_DESCRIPTOR_BYTES text h.text is h.read in
    inl (decided_for_groups x text 0 unasked (inr (inl (refl, (omega (arith, h.read.short, ap length whole), (h.parts, subst (λ t. IsDeployment t h.parts) (sym whole) h.deployment))))))
decided (Workload number count) endings.Done x text is unasked h =
    inl (decided_for_work number count x text h)
decided command endings.UnknownCommand x text is unasked h = absurd h
decided Drive (endings.LineRefused n) x text is unasked h = inl (decided_at_line x text n is h.1)
decided Groups (endings.LineRefused n) x text is unasked h = cc
decided (Workload number count) (endings.LineRefused n) x text is unasked h = cc
decided command endings.ReadFailed x text is unasked h = inr (inr (inl refl))
decided command endings.WriteFailed x text is unasked h = inr (inr (inr refl))
decided Drive endings.KeeperFailed x text is unasked h = inl (decided_at_start x text causes.KeeperFailed is h)
decided Groups endings.KeeperFailed x text is unasked h = absurd h
decided (Workload number count) endings.KeeperFailed x text is unasked h =
    inl (decided_without_work number count x text causes.KeeperFailed h)
decided Drive (endings.BadRow id) x text is unasked h = inl (decided_at_start x text (causes.BadRow id) is h)
decided Groups (endings.BadRow id) x text is unasked h = absurd h
decided (Workload number count) (endings.BadRow id) x text is unasked h =
    inl (decided_without_work number count x text (causes.BadRow id) h)
decided Drive (endings.LineTooLong n) x text is unasked h = inl (decided_at_long_line x text n is h)
decided Groups (endings.LineTooLong n) x text is unasked h = inl (decided_for_groups x text 8 unasked (inl (refl, subst (λ (o : Option (List ℕ)). IfSome o (λ text. MAX_DESCRIPTOR_BYTES < length text)) is h.1.long)))
decided (Workload number count) (endings.LineTooLong n) x text is unasked h = absurd h
decided command endings.OutOfMemory x text is unasked h = inr (inl refl)
decided Drive endings.DescriptorsRefused x text is unasked h = cc
decided Groups endings.DescriptorsRefused x text is unasked h =
    let whole = told_whole x MAX_DESCRIPTOR_BYTES text h.1.text is h.1.read in
    inl (decided_for_groups x text 10 unasked (inr (inr (refl, (omega (arith, h.1.read.short, ap length whole), subst IsRefused (sym whole) h.1.refused)))))
decided (Workload number count) endings.DescriptorsRefused x text is unasked h = cc
decided Drive endings.BootsSpent x text is unasked h = inl (decided_at_start x text causes.BootsSpent is h)
decided Groups endings.BootsSpent x text is unasked h = absurd h
decided (Workload number count) endings.BootsSpent x text is unasked h =
    inl (decided_without_work number count x text causes.BootsSpent h)
decided Drive endings.ScenarioTooLong x text is unasked h = inl (decided_past_limit x text is h.1)
decided Groups endings.ScenarioTooLong x text is unasked h = cc
decided (Workload number count) endings.ScenarioTooLong x text is unasked h = cc

-- the status that is answered
pub decided_status : (words : Option Command) (e r : Ending) (x : Exchange) (n : ℕ) → (asks_keeper words ≡ false → x.keeper_after.told ≡ x.keeper_before.told) → Ends words e x → IsReported e r → n ≡ status r → IfSome x.left_before (λ text. IfSome words (λ command. IsCalledFor command text x.keeper_before.told x.keeper_after.told n ⊎ ((n ≡ 9) ⊎ ((n ≡ 4) ⊎ (n ≡ 5)))))
decided_status words e r x n unasked ends reported is = told_or_not x.left_before refl
  where
    leaves : (command : Command) → words ≡ Some command → LeavesKeeper command x
    leaves Drive so = tt
    leaves Groups so = unasked (ap asks_keeper so)
    leaves (Workload number count) so = tt

    by_command : (w : Option Command) (text : List ℕ) → words ≡ w → x.left_before ≡ Some text → Ends w e x → IfSome w (λ command. IsCalledFor command text x.keeper_before.told x.keeper_after.told n ⊎ ((n ≡ 9) ⊎ ((n ≡ 4) ⊎ (n ≡ 5))))
    by_command None text which so h = tt
    by_command (Some command) text which so h = go reported
      where
        go : IsReported e r → IsCalledFor command text x.keeper_before.told x.keeper_after.told n ⊎ ((n ≡ 9) ⊎ ((n ≡ 4) ⊎ (n ≡ 5)))
        go (inl same) = subst (λ m. IsCalledFor command text x.keeper_before.told x.keeper_after.told m ⊎ ((m ≡ 9) ⊎ ((m ≡ 4) ⊎ (m ≡ 5)))) (ap status (sym same) ∙ sym is) (decided command e x text so (leaves command which) h)
        go (inr (out, why)) = inr (inl (is ∙ ap status out))

    told_or_not : (o : Option (List ℕ)) → x.left_before ≡ o → IfSome o (λ text. IfSome words (λ command. IsCalledFor command text x.keeper_before.told x.keeper_after.told n ⊎ ((n ≡ 9) ⊎ ((n ≡ 4) ⊎ (n ≡ 5)))))
    told_or_not None so = tt
    told_or_not (Some text) so = by_command words text refl so ends
