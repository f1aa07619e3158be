-- How far a scenario has come, one line or one piece further on.
use Rattle.std.proofs.Common.{◌≡◌, ◌≢◌, ℕ, ◌+◌, ◌-◌, ◌<◌, ◌≤◌, ◌⊎◌, inl, inr, Bool, List, [], ◌∷◌, ◌++◌, length, length-append, take, drop, All, Option, Some, None, refl, ap, sym, subst, ◌∙◌, append_assoc, append-nil, arith}
use Rattle.std.proofs.Math.Seq.{take-add}
use Rattle.std.proofs.lemmas.List.{length-take-le}
use Rattle.std.proofs.lemmas.List.Elements.{All-nil, All-cons, All-append}
use Rattle.scenario_engine.specs.declared.failure.UnstartedCause.{UnstartedCause}
use Rattle.scenario_engine.specs.declared.failure.UnstartedCause.TheVariants as causes
use Rattle.outside.specs.Sink.{appended}
use Rattle.outside.specs.Source.{prepended, HasEnded}
use Rattle.outside.proofs.Prefixes.{appended_more, appended_none, prepended_more, prepended_none}
use Rattle.scenario_text.specs.Cutting.{lines_of, text_of_lines, IsOneLine}
use Rattle.scenario_text.specs.Reading.{line_of}
use Rattle.scenario_text.specs.declared.line.TheConstants.{MAX_LINE_BYTES}
use Rattle.scenario_text.proofs.Cuts.{lines_fed, line_unfed, all_left}
use Rattle.scenario_text.proofs.EndedLines.{text_of_lines-push, lines_before}
use Rattle.seat_lines.specs.Making.{StepHearsSpelled, WasMade}
use Rattle.scenario_engine.specs.Connections.{makes_to, turn_makes}
use Rattle.scenario_engine.specs.Engine.{next_calls, with_reply}
use Rattle.scenario_engine.specs.KeeperCalls.{KeeperSeen, AreMade, AreSomeAsked}
use Rattle.scenario_engine.specs.State.{State, Outcome, RefusedIn, DoneTo, UnstartedIn, UnderWayIn}
use Rattle.scenario_engine.specs.Telling.{Does, DoesPartly, BreaksOff, WereMade}
use Rattle.scenario_engine.specs.Transcript.{Turn, lines_in, first, turn_outcome, transcript, end_from, Ended}
use Rattle.scenario_engine.proofs.Calls.{none_made}
use Rattle.scenario_engine.proofs.StepsMade.{all-push}
use Rattle.scenario_engine.proofs.Unkept.{numbers_alone}
use Rattle.scenario_engine.proofs.Turns.{lines_in-push, end_from-push, transcript-push, turn_done, turn_steps, made-push}
use Rattle.scenario_engine.proofs.UnderWay.{next_whole}
use Rattle.drive_engine.specs.declared.drive.TheConstants.{MAX_SCENARIO_BYTES}
use Rattle.drive_engine.specs.declared.ending.Ending.{Ending}
use Rattle.drive_engine.specs.declared.ending.Ending.TheVariants as endings
use Rattle.drive_engine.specs.declared.words.Command.TheVariants.{Drive}
use Rattle.drive_engine.specs.Command.{Runs}
use Rattle.drive_engine.specs.Drive.{AreRead, AreReadWithFeeds, HasDone, ScenarioStands, WritesTranscript, StopsUnstarted, StopsAtLongLine, StopsAtFailedRead, StopsOutOfMemory, StopsPastLimit, RunsOutAtLine, StandsOneMore, one_more, TurnsStand, WereAsked, WereAskedWhole, BreaksOffAtLine}
use Rattle.drive_engine.specs.Exchange.{Exchange, exchange, IsRead}
use Rattle.drive_engine.specs.Play.{PlayState, first_play, DoesLine, WritesNoText, EndsAtLine, HasCome}
use Rattle.drive_engine.proofs.Breaking.{done_one_more}

-- what turns did that were done stands
abbrev pub ScenariosDoStand : Type 0
ScenariosDoStand = (turns : List Turn) (old new : KeeperSeen) → WereAskedWhole turns old new → ScenarioStands turns old new

abbrev pub TurnsDoStand : Type 0
TurnsDoStand = (turns : List Turn) (old new : KeeperSeen) → WereAsked turns old new → TurnsStand turns old new

-- turns that were done, and a text after them
done-push : (s : State) (turns : List Turn) (line : List ℕ) (o : Outcome) (old between new : KeeperSeen) → end_from first 1 turns ≡ Ended s → length line ≤ MAX_LINE_BYTES → WereAskedWhole turns old between → (d : Does s (line_of line) o between new) → WereAskedWhole (turns ++ record { line = line; replies = d.replies } ∷ []) old new
done-push s turns line o old between new h short whole d =
    let turn : Turn = record { line = line; replies = d.replies } in
    let steps : WereMade (turn_makes s turn) = turn_steps s line o between new d in
    record {
      done = record {
        made = made-push s turns line o old between new h short whole.done.made d;
        spelled = all-push StepHearsSpelled s turns turn h short whole.done.spelled steps.spelled;
      };
      steps = all-push WasMade s turns turn h short whole.steps steps.made;
    }

none_done : (k : KeeperSeen) → WereAskedWhole [] k k
none_done k = record { done = record { made = none_made k; spelled = All-nil StepHearsSpelled }; steps = All-nil WasMade }

-- the part that was kept and the one that ends the line are that line
line_joined : (lines : List (List ℕ)) (kept none part rest past : List ℕ) → none ≡ [] → text_of_lines lines ++ (kept ++ ((part ++ 10 ∷ rest) ++ past)) ≡ text_of_lines (lines ++ (kept ++ part) ∷ []) ++ (none ++ (rest ++ past))
line_joined lines kept none part rest past e =
    let same : kept ++ ((part ++ 10 ∷ rest) ++ past) ≡ (kept ++ part) ++ 10 ∷ (rest ++ past) = simp append_assoc in
    ap (λ t. text_of_lines lines ++ t) same ∙ sym (text_of_lines-push lines (kept ++ part) (rest ++ past)) ∙ ap (λ t. text_of_lines (lines ++ (kept ++ part) ∷ []) ++ (t ++ (rest ++ past))) (sym e)

-- its text, without what is past the piece
line_joined_alone : (lines : List (List ℕ)) (kept none part rest : List ℕ) → none ≡ [] → text_of_lines lines ++ (kept ++ (part ++ 10 ∷ rest)) ≡ text_of_lines (lines ++ (kept ++ part) ∷ []) ++ (none ++ rest)
line_joined_alone lines kept none part rest e =
    let same : kept ++ (part ++ 10 ∷ rest) ≡ (kept ++ part) ++ 10 ∷ rest = simp append_assoc in
    ap (λ t. text_of_lines lines ++ t) same ∙ sym (text_of_lines-push lines (kept ++ part) rest) ∙ ap (λ t. text_of_lines (lines ++ (kept ++ part) ∷ []) ++ (t ++ rest)) (sym e)

-- a line that ends in a piece is done
pub comes_line : (left left_now written old new : Option (List ℕ)) (held before after : KeeperSeen) (more : ℕ) (past : List ℕ) (p q : PlayState) (part rest : List ℕ) → IsOneLine part → DoesLine p.state q.state (p.part ++ part) old new before after → q.part ≡ [] → q.number ≡ p.number + 1 → HasCome (exchange left left_now written old held before) more (part ++ 10 ∷ rest) past p → HasCome (exchange left left_now written new held after) more rest past q
comes_line left left_now written old new held before after more past p q part rest one does none next h =
    let line = p.part ++ part in
    let lines = lines_in h.turns in
    let turn : Turn = record { line = line; replies = does.done.replies } in
    let done = turn_done p.state line (DoneTo q.state does.text) before after does.done in
    let pushed : lines_in (h.turns ++ turn ∷ []) ≡ lines ++ line ∷ [] = lines_in-push h.turns turn in
    let empty : length q.part ≡ 0 = ap length none in
    record {
      turns = h.turns ++ turn ∷ [];
      taken = h.taken ∙ ap (λ t. prepended t left_now) (line_joined lines p.part q.part part rest past none) ∙ ap (λ ls. prepended (text_of_lines ls ++ (q.part ++ (rest ++ past))) left_now) (sym pushed);
      plain = subst (λ ls. All IsOneLine ls) (sym pushed) (All-append IsOneLine lines (line ∷ []) h.plain (All-cons IsOneLine line [] (All-append (λ b. b ≢ 10) p.part part h.one one) (All-nil IsOneLine)));
      one = subst IsOneLine (sym none) (All-nil (λ b. b ≢ 10));
      short = omega arith;
      within = ap (λ ls. length (text_of_lines ls ++ (q.part ++ rest)) + more) pushed ∙ ap (λ t. length t + more) (sym (line_joined_alone lines p.part q.part part rest none)) ∙ h.within;
      number = omega (arith, next, h.number, length-append h.turns (turn ∷ []));
      done = end_from-push p.state q.state h.turns turn does.text h.done does.short done;
      written = does.written ∙ ap (λ o. appended o does.text) h.written ∙ appended_more written (transcript first h.turns) does.text ∙ ap (appended written) (sym (transcript-push p.state q.state h.turns turn does.text h.done done));
      asked = done-push p.state h.turns line (DoneTo q.state does.text) held before after h.done does.short h.asked does.done;
    }

-- the beginning of a line is kept
pub comes_kept : (left left_now written old : Option (List ℕ)) (held before : KeeperSeen) (more : ℕ) (past : List ℕ) (p q : PlayState) (rest : List ℕ) → IsOneLine rest → q ≡ record p { part = p.part ++ rest } → length (p.part ++ rest) ≤ MAX_LINE_BYTES → HasCome (exchange left left_now written old held before) more rest past p → HasCome (exchange left left_now written old held before) more [] past q
comes_kept left left_now written old held before more past p q rest one is short h =
    let P : PlayState → Type 0 = λ r. HasCome (exchange left left_now written old held before) more [] past r in
    let text = text_of_lines (lines_in h.turns) in
    subst P (sym is) (record {
      turns = h.turns;
      taken = h.taken ∙ ap (λ t. prepended (text ++ t) left_now) (sym (append_assoc p.part rest past));
      plain = h.plain;
      one = All-append (λ b. b ≢ 10) p.part rest h.one one;
      short = short;
      within = ap (λ t. length (text ++ t) + more) (append-nil (p.part ++ rest)) ∙ h.within;
      number = h.number;
      done = h.done;
      written = h.written;
      asked = h.asked;
    })

-- what was read of a line that is too long
pub ends_long : (left left_now written old : Option (List ℕ)) (held before : KeeperSeen) (more : ℕ) (past : List ℕ) (p : PlayState) (rest : List ℕ) → ScenariosDoStand → IsOneLine rest → MAX_LINE_BYTES < length (p.part ++ rest) → HasCome (exchange left left_now written old held before) more rest past p → StopsAtLongLine p.number (exchange left left_now written old held before)
ends_long left left_now written old held before more past p rest law one long h = record {
  before = h.turns;
  line = p.part ++ rest;
  rest = past;
  state = p.state;
  taken = h.taken ∙ ap (λ t. prepended (text_of_lines (lines_in h.turns) ++ t) left_now) (sym (append_assoc p.part rest past));
  plain = h.plain;
  one = All-append (λ b. b ≢ 10) p.part rest h.one one;
  within = omega (arith, h.within);
  number = h.number;
  done = record { done = h.done; written = h.written };
  long = long;
  stands = law h.turns held before h.asked;
}

-- A line was read after lines that were done.
record HasLine (x : Exchange) (lines : List (List ℕ)) (line : List ℕ) : Type 0 where
  pub rest : List ℕ
  pub taken : x.left_before ≡ prepended (text_of_lines lines ++ (line ++ rest)) x.left_after
  pub plain : All IsOneLine lines
  pub one : IsOneLine line
  pub within : length (text_of_lines lines ++ line) ≤ MAX_SCENARIO_BYTES
  pub read : AreRead x (lines ++ line ∷ [])

-- the turns before were done, and nothing more was written
has_done : (left left_now written old new : Option (List ℕ)) (held after : KeeperSeen) (turns : List Turn) (s : State) → end_from first 1 turns ≡ Ended s → old ≡ appended written (transcript first turns) → new ≡ old → HasDone (exchange left left_now written new held after) turns s
has_done left left_now written old new held after turns s done so_far same = record { done = done; written = same ∙ so_far }

-- a boot that it needs was not started
ends_at_start : (r : UnstartedCause) (left left_now written old new : Option (List ℕ)) (held before after : KeeperSeen) (turns : List Turn) (s t : State) (line : List ℕ) → ScenariosDoStand → end_from first 1 turns ≡ Ended s → old ≡ appended written (transcript first turns) → WereAskedWhole turns held before → HasLine (exchange left left_now written new held after) (lines_in turns) line → WritesNoText line old new → Does s (line_of line) (UnstartedIn t r) before after → StopsUnstarted r (exchange left left_now written new held after)
ends_at_start r left left_now written old new held before after turns s t line law done so_far tells h (short, same) d = record {
  before = turns;
  turn = record { line = line; replies = d.replies };
  state = s;
  after = t;
  read = h.read;
  done = has_done left left_now written old new held after turns s done so_far same;
  short = short;
  unstarted = turn_done s line (UnstartedIn t r) before after d;
  stands = law (turns ++ record { line = line; replies = d.replies } ∷ []) held after (done-push s turns line (UnstartedIn t r) held before after done short tells d);
}

-- of the step that broke off nothing was asked, or what was done stands with it
last_stands : (x : Exchange) (s mid : State) (turns : List Turn) (turn : Turn) (keeps : Bool) (at between : KeeperSeen) → TurnsDoStand → end_from first 1 turns ≡ Ended s → length turn.line ≤ MAX_LINE_BYTES → turn_outcome s turn ≡ UnderWayIn mid → WereAsked turns x.keeper_before at → WereAsked (turns ++ turn ∷ []) x.keeper_before between → AreSomeAsked [] between x.keeper_after ⊎ AreMade (next_calls mid (line_of turn.line) keeps) between x.keeper_after → AreSomeAsked [] between x.keeper_after ⊎ All StepHearsSpelled (makes_to s (line_of turn.line) (with_reply turn.replies keeps)) → AreSomeAsked [] between x.keeper_after ⊎ StandsOneMore x turns turn
last_stands x s mid turns turn keeps at between law done short way tells whole (inl asked) heard = inl asked
last_stands x s mid turns turn keeps at between law done short way tells whole (inr made) (inl asked) = inl asked
last_stands x s mid turns turn keeps at between law done short way tells whole (inr made) (inr heard) = inr (record {
  keeps = keeps;
  stands = law (turns ++ one_more turn keeps ∷ []) x.keeper_before x.keeper_after (done_one_more s mid turns turn keeps x.keeper_before at between x.keeper_after done short way tells whole made heard);
})

-- memory ran out in a step of a connection
broken_off : (left left_now written new : Option (List ℕ)) (held before after : KeeperSeen) (turns : List Turn) (s : State) (line : List ℕ) → ScenariosDoStand → TurnsDoStand → end_from first 1 turns ≡ Ended s → WereAskedWhole turns held before → AreRead (exchange left left_now written new held after) (lines_in turns ++ line ∷ []) → length line ≤ MAX_LINE_BYTES → BreaksOff s (line_of line) before after → BreaksOffAtLine (exchange left left_now written new held after) turns s
broken_off left left_now written new held before after turns s line law stand done tells read short b =
    let turn : Turn = record { line = line; replies = b.replies } in
    let d : Does s (line_of line) (UnderWayIn b.mid) before b.between = record { replies = b.replies; answers = sym b.comes; made = b.whole; steps = b.steps } in
    let way : turn_outcome s turn ≡ UnderWayIn b.mid = turn_done s line (UnderWayIn b.mid) before b.between d in
    let whole : WereAskedWhole (turns ++ turn ∷ []) held b.between = done-push s turns line (UnderWayIn b.mid) held before b.between done short tells d in
    record {
      turn = turn;
      mid = b.mid;
      between = b.between;
      read = read;
      short = short;
      under_way = way;
      stands = law (turns ++ turn ∷ []) held b.between whole;
      last = last_stands (exchange left left_now written new held after) s b.mid turns turn b.next before b.between stand done short way tells.done whole.done (next_whole b.mid (line_of line) b.next b.between after b.last) b.last_heard;
    }

-- it ends the scenario
ends_at_line : (e : Ending) (left left_now written old new : Option (List ℕ)) (held before after : KeeperSeen) (turns : List Turn) (s : State) (number : ℕ) (line : List ℕ) → ScenariosDoStand → TurnsDoStand → end_from first 1 turns ≡ Ended s → number ≡ length turns + 1 → old ≡ appended written (transcript first turns) → WereAskedWhole turns held before → HasLine (exchange left left_now written new held after) (lines_in turns) line → EndsAtLine e number s line old new before after → Runs Drive e (exchange left left_now written new held after)
ends_at_line endings.Done left left_now written old new held before after turns s number line law stand done next so_far tells h ends = absurd ends
ends_at_line endings.UnknownCommand left left_now written old new held before after turns s number line law stand done next so_far tells h ends = absurd ends
ends_at_line (endings.LineRefused n) left left_now written old new held before after turns s number line law stand done next so_far tells h (is, (short, same), (t, d)) = (
  refl,
  record {
    before = turns;
    turn = record { line = line; replies = d.replies };
    state = s;
    after = t;
    read = h.read;
    number = is ∙ next;
    done = has_done left left_now written old new held after turns s done so_far same;
    short = short;
    refused = turn_done s line (RefusedIn t) before after d;
    stands = law (turns ++ record { line = line; replies = d.replies } ∷ []) held after (done-push s turns line (RefusedIn t) held before after done short tells d);
  },
)
ends_at_line endings.ReadFailed left left_now written old new held before after turns s number line law stand done next so_far tells h ends = absurd ends
ends_at_line endings.WriteFailed left left_now written old new held before after turns s number line law stand done next so_far tells h (t, wrote, short, d, (prefix, is, begins)) = record {
  before = turns;
  turn = record { line = line; replies = d.replies };
  state = s;
  after = t;
  wrote = wrote;
  prefix = prefix;
  read = h.read;
  done = done;
  short = short;
  answer = turn_done s line (DoneTo t wrote) before after d;
  begins = begins;
  written = is ∙ ap (λ o. appended o prefix) so_far ∙ appended_more written (transcript first turns) prefix;
  stands = law (turns ++ record { line = line; replies = d.replies } ∷ []) held after (done-push s turns line (DoneTo t wrote) held before after done short tells d);
}
ends_at_line endings.KeeperFailed left left_now written old new held before after turns s number line law stand done next so_far tells h (none, (t, d)) = ends_at_start causes.KeeperFailed left left_now written old new held before after turns s t line law done so_far tells h none d
ends_at_line (endings.BadRow id) left left_now written old new held before after turns s number line law stand done next so_far tells h (none, (t, d)) = ends_at_start (causes.BadRow id) left left_now written old new held before after turns s t line law done so_far tells h none d
ends_at_line (endings.LineTooLong n) left left_now written old new held before after turns s number line law stand done next so_far tells h (is, long, same, unasked) = record {
  before = turns;
  line = line;
  rest = h.rest;
  state = s;
  taken = h.taken;
  plain = h.plain;
  one = h.one;
  within = h.within;
  number = is ∙ next;
  done = has_done left left_now written old new held after turns s done so_far same;
  long = long;
  stands = law turns held after (subst (λ (o : KeeperSeen). WereAskedWhole turns held o) (sym unasked) tells);
}
ends_at_line endings.OutOfMemory left left_now written old new held before after turns s number line law stand done next so_far tells h ((short, same), ends) = record {
  before = turns;
  state = s;
  between = before;
  read = record { rest = line ++ h.rest; taken = h.taken; plain = h.plain; within = omega (arith, h.within, length-append (text_of_lines (lines_in turns)) line) };
  done = has_done left left_now written old new held after turns s done so_far same;
  stands = law turns held before tells;
  last = inr (last_of ends);
}
  where
    x : Exchange
    x = exchange left left_now written new held after

    last_of : DoesPartly s (line_of line) before after ⊎ BreaksOff s (line_of line) before after → RunsOutAtLine x (lines_in turns) s before ⊎ BreaksOffAtLine x turns s
    last_of (inl partly) = inl (record { line = line; read = h.read; short = short; partly = partly; rows = numbers_alone s (line_of line) before after partly })
    last_of (inr broken) = inr (broken_off left left_now written new held before after turns s line law stand done tells h.read short broken)
ends_at_line endings.DescriptorsRefused left left_now written old new held before after turns s number line law stand done next so_far tells h ends = absurd ends
ends_at_line endings.BootsSpent left left_now written old new held before after turns s number line law stand done next so_far tells h (none, (t, d)) = ends_at_start causes.BootsSpent left left_now written old new held before after turns s t line law done so_far tells h none d
ends_at_line endings.ScenarioTooLong left left_now written old new held before after turns s number line law stand done next so_far tells h ends = absurd ends

-- a line that ends in a piece ends the scenario
pub ends_in_piece : (e : Ending) (left left_now written old new : Option (List ℕ)) (held before after : KeeperSeen) (more : ℕ) (past : List ℕ) (p : PlayState) (part rest : List ℕ) → ScenariosDoStand → TurnsDoStand → IsOneLine part → EndsAtLine e p.number p.state (p.part ++ part) old new before after → HasCome (exchange left left_now written old held before) more (part ++ 10 ∷ rest) past p → Runs Drive e (exchange left left_now written new held after)
ends_in_piece e left left_now written old new held before after more past p part rest law stand one ends h =
    let line = p.part ++ part in
    let lines = lines_in h.turns in
    let whole : IsOneLine line = All-append (λ b. b ≢ 10) p.part part h.one one in
    let joined = line_joined lines p.part [] part rest past refl in
    let alone : text_of_lines lines ++ (p.part ++ (part ++ 10 ∷ rest)) ≡ text_of_lines (lines ++ line ∷ []) ++ rest = line_joined_alone lines p.part [] part rest refl in
    let fits : length (text_of_lines (lines ++ line ∷ [])) ≤ MAX_SCENARIO_BYTES = omega (arith, h.within, ap length alone, length-append (text_of_lines (lines ++ line ∷ [])) rest) in
    let taken : left ≡ prepended (text_of_lines (lines ++ line ∷ []) ++ (rest ++ past)) left_now = h.taken ∙ ap (λ t. prepended t left_now) joined in
    let has : HasLine (exchange left left_now written new held after) lines line = record {
      rest = 10 ∷ (rest ++ past);
      taken = taken ∙ ap (λ t. prepended t left_now) (text_of_lines-push lines line (rest ++ past));
      plain = h.plain;
      one = whole;
      within = omega (arith, h.within, length-append (text_of_lines lines) (p.part ++ (part ++ 10 ∷ rest)), length-append p.part (part ++ 10 ∷ rest), length-append part (10 ∷ rest), length-append (text_of_lines lines) line, length-append p.part part);
      read = inl (record {
        rest = rest ++ past;
        taken = taken;
        plain = All-append IsOneLine lines (line ∷ []) h.plain (All-cons IsOneLine line [] whole (All-nil IsOneLine));
        within = fits;
      });
    } in
    ends_at_line e left left_now written old new held before after h.turns p.state p.number line law stand h.done h.number h.written h.asked has ends

-- the whole text of a scenario, once the input has ended
read_whole : (left left_now written old new : Option (List ℕ)) (held before after : KeeperSeen) (more : ℕ) (p : PlayState) → HasEnded left_now → (h : HasCome (exchange left left_now written old held before) more [] [] p) → IsRead MAX_SCENARIO_BYTES (exchange left left_now written new held after) (text_of_lines (lines_in h.turns) ++ p.part)
read_whole left left_now written old new held before after more p ended h =
    let text = text_of_lines (lines_in h.turns) in
    let whole : p.part ++ [] ≡ p.part = append-nil p.part in
    let size : length (text ++ p.part) + more ≡ MAX_SCENARIO_BYTES = ap (λ t. length (text ++ t) + more) (sym whole) ∙ h.within in
    record { taken = h.taken ∙ ap (λ t. prepended (text ++ t) left_now) whole; ended = ended; short = omega arith }

lines_whole : (lines : List (List ℕ)) (part : List ℕ) → All IsOneLine lines → IsOneLine part → part ≢ [] → lines_of (text_of_lines lines ++ part) ≡ lines ++ part ∷ []
lines_whole lines part plain one some = lines_fed lines part plain ∙ ap (λ ls. lines ++ ls) (line_unfed part one some)

-- the last line, which has no line feed, ends the scenario
pub ends_at_end : (e : Ending) (left left_now written old new : Option (List ℕ)) (held before after : KeeperSeen) (more : ℕ) (p : PlayState) → ScenariosDoStand → TurnsDoStand → p.part ≢ [] → EndsAtLine e p.number p.state p.part old new before after → HasEnded left_now → HasCome (exchange left left_now written old held before) more [] [] p → Runs Drive e (exchange left left_now written new held after)
ends_at_end e left left_now written old new held before after more p law stand some ends ended h =
    let lines = lines_in h.turns in
    let read = read_whole left left_now written old new held before after more p ended h in
    let has : HasLine (exchange left left_now written new held after) lines p.part = record {
      rest = [];
      taken = h.taken;
      plain = h.plain;
      one = h.one;
      within = read.short;
      read = inr (record { text = text_of_lines lines ++ p.part; read = read; cut = sym (lines_whole lines p.part h.plain h.one some) });
    } in
    ends_at_line e left left_now written old new held before after h.turns p.state p.number p.part law stand h.done h.number h.written h.asked has ends

-- all lines were done, and the last one ended with its line feed
pub ends_with_feed : (left left_now written old : Option (List ℕ)) (held before : KeeperSeen) (more : ℕ) (p : PlayState) → ScenariosDoStand → p.part ≡ [] → HasEnded left_now → HasCome (exchange left left_now written old held before) more [] [] p → WritesTranscript (exchange left left_now written old held before)
ends_with_feed left left_now written old held before more p law none ended h =
    let lines = lines_in h.turns in
    let cut : lines_of (text_of_lines lines ++ p.part) ≡ lines = lines_fed lines p.part h.plain ∙ ap (λ t. lines ++ lines_of t) none ∙ append-nil lines in
    record {
      text = text_of_lines lines ++ p.part;
      read = read_whole left left_now written old old held before before more p ended h;
      turns = h.turns;
      lines = sym cut;
      state = p.state;
      done = record { done = h.done; written = h.written };
      stands = law h.turns held before h.asked;
    }

-- and the last one has none
pub ends_without_feed : (left left_now written old new : Option (List ℕ)) (held before after : KeeperSeen) (more : ℕ) (p : PlayState) (t : State) → ScenariosDoStand → p.part ≢ [] → DoesLine p.state t p.part old new before after → HasEnded left_now → HasCome (exchange left left_now written old held before) more [] [] p → WritesTranscript (exchange left left_now written new held after)
ends_without_feed left left_now written old new held before after more p t law some does ended h =
    let lines = lines_in h.turns in
    let turn : Turn = record { line = p.part; replies = does.done.replies } in
    let done = turn_done p.state p.part (DoneTo t does.text) before after does.done in
    record {
      text = text_of_lines lines ++ p.part;
      read = read_whole left left_now written old new held before after more p ended h;
      turns = h.turns ++ turn ∷ [];
      lines = lines_in-push h.turns turn ∙ sym (lines_whole lines p.part h.plain h.one some);
      state = t;
      done = record {
        done = end_from-push p.state t h.turns turn does.text h.done does.short done;
        written = does.written ∙ ap (λ o. appended o does.text) h.written ∙ appended_more written (transcript first h.turns) does.text ∙ ap (appended written) (sym (transcript-push p.state t h.turns turn does.text h.done done));
      };
      stands = law (h.turns ++ turn ∷ []) held after (done-push p.state h.turns p.part (DoneTo t does.text) held before after h.done does.short h.asked does.done);
    }

-- bytes were read, of which a part is the next piece
pub comes_read : (left before now written old : Option (List ℕ)) (held asked : KeeperSeen) (more rest n k : ℕ) (room : List ℕ) (p : PlayState) → k ≤ n → n ≤ length room → k + rest ≡ more → before ≡ prepended (take n room) now → HasCome (exchange left before written old held asked) more [] [] p → HasCome (exchange left now written old held asked) rest (take k room) (take (n - k) (drop k room)) p
comes_read left before now written old held asked more rest n k room p part fits size read h =
    let fed = text_of_lines (lines_in h.turns) in
    let piece = take k room in
    let past = take (n - k) (drop k room) in
    let parts : k + (n - k) ≡ n = omega arith in
    let bytes : take n room ≡ piece ++ past = ap (λ m. take m room) (sym parts) ∙ take-add k (n - k) room in
    let text : (fed ++ (p.part ++ [])) ++ (piece ++ past) ≡ fed ++ (p.part ++ (piece ++ past)) = simp (append_assoc, append-nil) in
    record {
      turns = h.turns;
      taken = h.taken ∙ ap (λ b. prepended (fed ++ (p.part ++ [])) b) read ∙ prepended_more (fed ++ (p.part ++ [])) (take n room) now ∙ ap (λ t. prepended t now) (ap (λ b. (fed ++ (p.part ++ [])) ++ b) bytes ∙ text);
      plain = h.plain;
      one = h.one;
      short = h.short;
      within = omega (arith, h.within, length-append fed (p.part ++ []), length-append p.part [], length-append fed (p.part ++ piece), length-append p.part piece, length-take-le k room (omega arith));
      number = h.number;
      done = h.done;
      written = h.written;
      asked = h.asked;
    }

-- the text that was read and done
text_read : (lines : List (List ℕ)) (part past : List ℕ) → text_of_lines lines ++ (part ++ ([] ++ past)) ≡ (text_of_lines lines ++ part) ++ past
text_read lines part past = simp append_assoc

-- a read failed
pub stops_at_failed_read : (left before now written old : Option (List ℕ)) (held asked : KeeperSeen) (more : ℕ) (p : PlayState) → ScenariosDoStand → now ≡ before → HasCome (exchange left before written old held asked) more [] [] p → StopsAtFailedRead (exchange left now written old held asked)
stops_at_failed_read left before now written old held asked more p law same h =
    let lines = lines_in h.turns in
    record {
      text = text_of_lines lines ++ p.part;
      turns = h.turns;
      part = p.part;
      state = p.state;
      taken = h.taken ∙ ap (λ t. prepended t before) (text_read lines p.part [] ∙ append-nil (text_of_lines lines ++ p.part)) ∙ ap (λ b. prepended (text_of_lines lines ++ p.part) b) (sym same);
      cut = record { whole = refl; plain = h.plain; one = h.one };
      within = omega (arith, h.within, length-append (text_of_lines lines) (p.part ++ []), length-append p.part [], length-append (text_of_lines lines) p.part);
      short = h.short;
      done = record { done = h.done; written = h.written };
      stands = law h.turns held asked h.asked;
    }

-- bytes were read past the limit
pub stops_past_limit : (left now written old : Option (List ℕ)) (held asked : KeeperSeen) (past : List ℕ) (p : PlayState) → ScenariosDoStand → past ≢ [] → HasCome (exchange left now written old held asked) 0 [] past p → StopsPastLimit (exchange left now written old held asked)
stops_past_limit left now written old held asked past p law some h =
    let lines = lines_in h.turns in
    record {
      text = text_of_lines lines ++ p.part;
      more = past;
      turns = h.turns;
      part = p.part;
      state = p.state;
      taken = h.taken ∙ ap (λ t. prepended t now) (text_read lines p.part past);
      past = some;
      whole = omega (arith, h.within, ap (λ t. length (text_of_lines lines ++ t)) (append-nil p.part));
      cut = record { whole = refl; plain = h.plain; one = h.one };
      short = h.short;
      done = record { done = h.done; written = h.written };
      stands = law h.turns held asked h.asked;
    }

-- nothing was read yet
pub comes_first : (left written : Option (List ℕ)) (held : KeeperSeen) → HasCome (exchange left left written written held held) MAX_SCENARIO_BYTES [] [] (first_play held)
comes_first left written held = record {
  turns = [];
  taken = sym (prepended_none left);
  plain = All-nil IsOneLine;
  one = All-nil (λ b. b ≢ 10);
  short = omega arith;
  within = omega arith;
  number = refl;
  done = refl;
  written = sym (appended_none written);
  asked = none_done held;
}

-- and there is no memory to read any
pub stops_at_first : (left written : Option (List ℕ)) (held : KeeperSeen) → ScenariosDoStand → StopsOutOfMemory (exchange left left written written held held)
stops_at_first left written held law = record {
  before = [];
  state = first;
  between = held;
  read = record { rest = []; taken = sym (prepended_none left); plain = All-nil IsOneLine; within = omega arith };
  done = record { done = refl; written = sym (appended_none written) };
  stands = law [] held held (none_done held);
  last = inl refl;
}

-- the lines before the last one that was read
read_before : (x : Exchange) (before : List (List ℕ)) (line : List ℕ) → AreRead x (before ++ line ∷ []) → AreReadWithFeeds x before
read_before x before line (inl r) =
    let pushed : text_of_lines (before ++ line ∷ []) ++ r.rest ≡ text_of_lines before ++ (line ++ 10 ∷ r.rest) = text_of_lines-push before line r.rest in
    let alone = text_of_lines-push before line [] in
    record {
      rest = line ++ 10 ∷ r.rest;
      taken = r.taken ∙ ap (λ t. prepended t x.left_after) pushed;
      plain = all_left IsOneLine before (line ∷ []) r.plain;
      within = omega (arith, r.within, ap length alone, length-append (text_of_lines (before ++ line ∷ [])) [], length-append (text_of_lines before) (line ++ 10 ∷ []));
    }
read_before x before line (inr r) =
    let h = lines_before r.text before line (sym r.cut) in
    record {
      rest = h.0;
      taken = r.read.taken ∙ ap (λ t. prepended t x.left_after) h.1;
      plain = h.2;
      within = omega (arith, r.read.short, ap length h.1, length-append (text_of_lines before) h.0);
    }
