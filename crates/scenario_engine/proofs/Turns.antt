-- Turns that were done, and more.
use Rattle.std.proofs.Common.{◌≡◌, ℕ, suc, ◌+◌, ◌<◌, ◌≤◌, Bool, true, false, cond, nat_lt, List, [], ◌∷◌, ◌++◌, length, None, refl, ap, sym, subst, ◌∙◌, append_assoc, append-nil, arith}
use Rattle.std.proofs.lemmas.Bool.Decides.{nat_tests}
use Rattle.std.proofs.lemmas.List.{map-append}
use Rattle.scenario_engine.specs.declared.failure.UnstartedCause.{UnstartedCause}
use Rattle.scenario_text.specs.Reading.{line_of}
use Rattle.scenario_text.specs.declared.line.TheConstants.{MAX_LINE_BYTES}
use Rattle.scenario_engine.specs.Connections.{turn_makes}
use Rattle.scenario_engine.specs.Engine.{Replies}
use Rattle.scenario_engine.specs.KeeperCalls.{KeeperCall, KeeperSeen, AreMade}
use Rattle.scenario_engine.specs.State.{State, Outcome, RefusedIn, DoneTo, UnstartedIn, UnderWayIn}
use Rattle.scenario_engine.specs.Telling.{Does, WereMade}
use Rattle.scenario_engine.specs.Transcript.{Turn, lines_in, first, turn_outcome, turn_calls, transcript, End, Ended, RefusedAt, TooLong, Unstarted, UnderWay, end_from, calls_from}
use Rattle.scenario_engine.proofs.Calls.{then_made}

-- the lines of turns, and of one more
pub lines_in-push : (turns : List Turn) (turn : Turn) → lines_in (turns ++ turn ∷ []) ≡ lines_in turns ++ turn.line ∷ []
lines_in-push turns turn = map-append (λ (t : Turn). t.line) turns (turn ∷ [])

-- a keeper that gives no rows and keeps no writes
abbrev pub no_replies : Replies
no_replies = record { first = record { rows = None; keeps = false }; again = record { rows = None; keeps = false }; keeps = [] }

-- turns of these lines, over such a keeper
abbrev pub turns_of : List (List ℕ) → List Turn
turns_of [] = []
turns_of (line ∷ lines) = record { line = line; replies = no_replies } ∷ turns_of lines

pub lines_in-turns_of : (lines : List (List ℕ)) → lines_in (turns_of lines) ≡ lines
lines_in-turns_of [] = refl
lines_in-turns_of (line ∷ lines) = ap (λ ls. line ∷ ls) (lines_in-turns_of lines)

-- the lines of turns, and further lines
pub lines_in-more : (turns : List Turn) (lines : List (List ℕ)) → lines_in (turns ++ turns_of lines) ≡ lines_in turns ++ lines
lines_in-more turns lines = map-append (λ (t : Turn). t.line) turns (turns_of lines) ∙ ap (λ ls. lines_in turns ++ ls) (lines_in-turns_of lines)

-- how turns end that come after turns that were done
pub end_from-more : (s t : State) (n : ℕ) (turns more : List Turn) → end_from s n turns ≡ Ended t → end_from s n (turns ++ more) ≡ end_from t (n + length turns) more
end_from-more s t n [] more h =
    let same : s ≡ t = cc in
    let none : n ≡ n + 0 = omega arith in
    ap (λ u. end_from u n more) same ∙ ap (λ m. end_from t m more) none
end_from-more s t n (turn ∷ turns) more h = go (nat_lt MAX_LINE_BYTES (length turn.line)) (turn_outcome s turn) (λ u k. end_from-more u t (n + 1) turns more k) h
  where
    go : (long : Bool) (o : Outcome) → ((u : State) → end_from u (n + 1) turns ≡ Ended t → end_from u (n + 1) (turns ++ more) ≡ end_from t (n + 1 + length turns) more) → cond long (TooLong s n) (elim o [ RefusedIn u ↦ RefusedAt u n | DoneTo u text ↦ end_from u (n + 1) turns | UnstartedIn u r ↦ Unstarted u r | UnderWayIn u ↦ UnderWay u n ]) ≡ Ended t → cond long (TooLong s n) (elim o [ RefusedIn u ↦ RefusedAt u n | DoneTo u text ↦ end_from u (n + 1) (turns ++ more) | UnstartedIn u r ↦ Unstarted u r | UnderWayIn u ↦ UnderWay u n ]) ≡ end_from t (n + suc (length turns)) more
    go true o later k = cc
    go false (RefusedIn u) later k = cc
    go false (DoneTo u text) later k = let next : n + 1 + length turns ≡ n + suc (length turns) = omega arith in later u k ∙ ap (λ m. end_from t m more) next
    go false (UnstartedIn u r) later k = cc
    go false (UnderWayIn u) later k = cc

-- what they write
pub transcript-more : (s t : State) (n : ℕ) (turns more : List Turn) → end_from s n turns ≡ Ended t → transcript s (turns ++ more) ≡ transcript s turns ++ transcript t more
transcript-more s t n [] more h = let same : s ≡ t = cc in ap (λ u. transcript u more) same
transcript-more s t n (turn ∷ turns) more h = go (nat_lt MAX_LINE_BYTES (length turn.line)) (turn_outcome s turn) (λ u k. transcript-more u t (n + 1) turns more k) h
  where
    go : (long : Bool) (o : Outcome) → ((u : State) → end_from u (n + 1) turns ≡ Ended t → transcript u (turns ++ more) ≡ transcript u turns ++ transcript t more) → cond long (TooLong s n) (elim o [ RefusedIn u ↦ RefusedAt u n | DoneTo u text ↦ end_from u (n + 1) turns | UnstartedIn u r ↦ Unstarted u r | UnderWayIn u ↦ UnderWay u n ]) ≡ Ended t → elim o [ RefusedIn u ↦ [] | DoneTo u text ↦ text ++ transcript u (turns ++ more) | UnstartedIn u r ↦ [] | UnderWayIn u ↦ [] ] ≡ elim o [ RefusedIn u ↦ [] | DoneTo u text ↦ text ++ transcript u turns | UnstartedIn u r ↦ [] | UnderWayIn u ↦ [] ] ++ transcript t more
    go true o later k = cc
    go false (RefusedIn u) later k = cc
    go false (DoneTo u text) later k = ap (λ r. text ++ r) (later u k) ∙ sym (append_assoc text (transcript u turns) (transcript t more))
    go false (UnstartedIn u r) later k = cc
    go false (UnderWayIn u) later k = cc

-- and their calls of the keeper
pub calls_from-more : (s t : State) (n : ℕ) (turns more : List Turn) → end_from s n turns ≡ Ended t → calls_from s (turns ++ more) ≡ calls_from s turns ++ calls_from t more
calls_from-more s t n [] more h = let same : s ≡ t = cc in ap (λ u. calls_from u more) same
calls_from-more s t n (turn ∷ turns) more h = go (nat_lt MAX_LINE_BYTES (length turn.line)) (turn_outcome s turn) (λ u k. calls_from-more u t (n + 1) turns more k) h
  where
    go : (long : Bool) (o : Outcome) → ((u : State) → end_from u (n + 1) turns ≡ Ended t → calls_from u (turns ++ more) ≡ calls_from u turns ++ calls_from t more) → cond long (TooLong s n) (elim o [ RefusedIn u ↦ RefusedAt u n | DoneTo u text ↦ end_from u (n + 1) turns | UnstartedIn u r ↦ Unstarted u r | UnderWayIn u ↦ UnderWay u n ]) ≡ Ended t → cond long [] (turn_calls s turn ++ elim o [ RefusedIn u ↦ [] | DoneTo u text ↦ calls_from u (turns ++ more) | UnstartedIn u r ↦ [] | UnderWayIn u ↦ [] ]) ≡ cond long [] (turn_calls s turn ++ elim o [ RefusedIn u ↦ [] | DoneTo u text ↦ calls_from u turns | UnstartedIn u r ↦ [] | UnderWayIn u ↦ [] ]) ++ calls_from t more
    go true o later k = cc
    go false (RefusedIn u) later k = cc
    go false (DoneTo u text) later k = ap (λ r. turn_calls s turn ++ r) (later u k) ∙ sym (append_assoc (turn_calls s turn) (calls_from u turns) (calls_from t more))
    go false (UnstartedIn u r) later k = cc
    go false (UnderWayIn u) later k = cc

-- a scenario has ended before all turns were done, or at the last one
abbrev pub Stops : End → Type 0
Stops (Ended s) = ⊥
Stops (RefusedAt s n) = Unit {0}
Stops (TooLong s n) = Unit {0}
Stops (Unstarted s r) = Unit {0}
Stops (UnderWay s n) = Unit {0}

-- then further turns change nothing: not how it ends
pub end_from-stopped : (s : State) (n : ℕ) (turns more : List Turn) → Stops (end_from s n turns) → end_from s n (turns ++ more) ≡ end_from s n turns
end_from-stopped s n [] more h = absurd h
end_from-stopped s n (turn ∷ turns) more h = go (nat_lt MAX_LINE_BYTES (length turn.line)) (turn_outcome s turn) (λ u k. end_from-stopped u (n + 1) turns more k) h
  where
    go : (long : Bool) (o : Outcome) → ((u : State) → Stops (end_from u (n + 1) turns) → end_from u (n + 1) (turns ++ more) ≡ end_from u (n + 1) turns) → Stops (cond long (TooLong s n) (elim o [ RefusedIn u ↦ RefusedAt u n | DoneTo u text ↦ end_from u (n + 1) turns | UnstartedIn u r ↦ Unstarted u r | UnderWayIn u ↦ UnderWay u n ])) → cond long (TooLong s n) (elim o [ RefusedIn u ↦ RefusedAt u n | DoneTo u text ↦ end_from u (n + 1) (turns ++ more) | UnstartedIn u r ↦ Unstarted u r | UnderWayIn u ↦ UnderWay u n ]) ≡ cond long (TooLong s n) (elim o [ RefusedIn u ↦ RefusedAt u n | DoneTo u text ↦ end_from u (n + 1) turns | UnstartedIn u r ↦ Unstarted u r | UnderWayIn u ↦ UnderWay u n ])
    go true o later k = refl
    go false (RefusedIn u) later k = refl
    go false (DoneTo u text) later k = later u k
    go false (UnstartedIn u r) later k = refl
    go false (UnderWayIn u) later k = refl

-- and not what it asks of the keeper
pub calls_from-stopped : (s : State) (n : ℕ) (turns more : List Turn) → Stops (end_from s n turns) → calls_from s (turns ++ more) ≡ calls_from s turns
calls_from-stopped s n [] more h = absurd h
calls_from-stopped s n (turn ∷ turns) more h = go (nat_lt MAX_LINE_BYTES (length turn.line)) (turn_outcome s turn) (λ u k. calls_from-stopped u (n + 1) turns more k) h
  where
    go : (long : Bool) (o : Outcome) → ((u : State) → Stops (end_from u (n + 1) turns) → calls_from u (turns ++ more) ≡ calls_from u turns) → Stops (cond long (TooLong s n) (elim o [ RefusedIn u ↦ RefusedAt u n | DoneTo u text ↦ end_from u (n + 1) turns | UnstartedIn u r ↦ Unstarted u r | UnderWayIn u ↦ UnderWay u n ])) → cond long [] (turn_calls s turn ++ elim o [ RefusedIn u ↦ [] | DoneTo u text ↦ calls_from u (turns ++ more) | UnstartedIn u r ↦ [] | UnderWayIn u ↦ [] ]) ≡ cond long [] (turn_calls s turn ++ elim o [ RefusedIn u ↦ [] | DoneTo u text ↦ calls_from u turns | UnstartedIn u r ↦ [] | UnderWayIn u ↦ [] ])
    go true o later k = refl
    go false (RefusedIn u) later k = refl
    go false (DoneTo u text) later k = ap (λ r. turn_calls s turn ++ r) (later u k)
    go false (UnstartedIn u r) later k = refl
    go false (UnderWayIn u) later k = refl

short_test : (line : List ℕ) → length line ≤ MAX_LINE_BYTES → nat_lt MAX_LINE_BYTES (length line) ≡ false
short_test line short = grind (arith, nat_tests)

long_test : (line : List ℕ) → MAX_LINE_BYTES < length line → nat_lt MAX_LINE_BYTES (length line) ≡ true
long_test line long = grind (arith, nat_tests)

-- a turn that is done
pub end_from-done : (s t : State) (n : ℕ) (turn : Turn) (text : List ℕ) → length turn.line ≤ MAX_LINE_BYTES → turn_outcome s turn ≡ DoneTo t text → end_from s n (turn ∷ []) ≡ Ended t
end_from-done s t n turn text short done = rw (short_test turn.line short, done) refl

pub transcript-done : (s t : State) (turn : Turn) (text : List ℕ) → turn_outcome s turn ≡ DoneTo t text → transcript s (turn ∷ []) ≡ text
transcript-done s t turn text done = ap (λ (o : Outcome). elim o [ RefusedIn u ↦ [] | DoneTo u w ↦ w ++ [] | UnstartedIn u r ↦ [] | UnderWayIn u ↦ [] ]) done ∙ append-nil text

-- a turn that is refused
pub end_from-refused : (s t : State) (n : ℕ) (turn : Turn) → length turn.line ≤ MAX_LINE_BYTES → turn_outcome s turn ≡ RefusedIn t → end_from s n (turn ∷ []) ≡ RefusedAt t n
end_from-refused s t n turn short refused = rw (short_test turn.line short, refused) refl

-- a turn that needs a boot which was not started
pub end_from-unstarted : (s t : State) (n : ℕ) (turn : Turn) (r : UnstartedCause) → length turn.line ≤ MAX_LINE_BYTES → turn_outcome s turn ≡ UnstartedIn t r → end_from s n (turn ∷ []) ≡ Unstarted t r
end_from-unstarted s t n turn r short refused = rw (short_test turn.line short, refused) refl

-- a turn that is under way
pub end_from-under_way : (s t : State) (n : ℕ) (turn : Turn) → length turn.line ≤ MAX_LINE_BYTES → turn_outcome s turn ≡ UnderWayIn t → end_from s n (turn ∷ []) ≡ UnderWay t n
end_from-under_way s t n turn short under = rw (short_test turn.line short, under) refl

-- a turn whose line is too long
pub end_from-long : (s : State) (n : ℕ) (turn : Turn) (more : List Turn) → MAX_LINE_BYTES < length turn.line → end_from s n (turn ∷ more) ≡ TooLong s n
end_from-long s n turn more long = rw (long_test turn.line long) refl

pub calls_from-long : (s : State) (turn : Turn) (more : List Turn) → MAX_LINE_BYTES < length turn.line → calls_from s (turn ∷ more) ≡ []
calls_from-long s turn more long = rw (long_test turn.line long) refl

-- the calls of the keeper that one turn makes, however it ends
pub calls_from-turn : (s : State) (turn : Turn) → length turn.line ≤ MAX_LINE_BYTES → calls_from s (turn ∷ []) ≡ turn_calls s turn
calls_from-turn s turn short = ap (λ b. cond b [] (turn_calls s turn ++ elim (turn_outcome s turn) [ RefusedIn u ↦ [] | DoneTo u w ↦ [] | UnstartedIn u r ↦ [] | UnderWayIn u ↦ [] ])) (short_test turn.line short) ∙ go (turn_outcome s turn)
  where
    go : (o : Outcome) → turn_calls s turn ++ elim o [ RefusedIn u ↦ [] | DoneTo u w ↦ [] | UnstartedIn u r ↦ [] | UnderWayIn u ↦ [] ] ≡ turn_calls s turn
    go (RefusedIn u) = append-nil (turn_calls s turn)
    go (DoneTo u w) = append-nil (turn_calls s turn)
    go (UnstartedIn u r) = append-nil (turn_calls s turn)
    go (UnderWayIn u) = append-nil (turn_calls s turn)

-- turns that were done, and one more that is done
pub end_from-push : (s t : State) (turns : List Turn) (turn : Turn) (text : List ℕ) → end_from first 1 turns ≡ Ended s → length turn.line ≤ MAX_LINE_BYTES → turn_outcome s turn ≡ DoneTo t text → end_from first 1 (turns ++ turn ∷ []) ≡ Ended t
end_from-push s t turns turn text h short done = end_from-more first s 1 turns (turn ∷ []) h ∙ end_from-done s t (1 + length turns) turn text short done

pub transcript-push : (s t : State) (turns : List Turn) (turn : Turn) (text : List ℕ) → end_from first 1 turns ≡ Ended s → turn_outcome s turn ≡ DoneTo t text → transcript first (turns ++ turn ∷ []) ≡ transcript first turns ++ text
transcript-push s t turns turn text h done = transcript-more first s 1 turns (turn ∷ []) h ∙ ap (λ r. transcript first turns ++ r) (transcript-done s t turn text done)

-- their calls of the keeper, however the last one ends
pub calls_from-push : (s : State) (turns : List Turn) (turn : Turn) → end_from first 1 turns ≡ Ended s → length turn.line ≤ MAX_LINE_BYTES → calls_from first (turns ++ turn ∷ []) ≡ calls_from first turns ++ turn_calls s turn
calls_from-push s turns turn h short = calls_from-more first s 1 turns (turn ∷ []) h ∙ ap (λ cs. calls_from first turns ++ cs) (calls_from-turn s turn short)

-- a text that was done is a turn
pub turn_done : (s : State) (line : List ℕ) (o : Outcome) (old new : KeeperSeen) (d : Does s (line_of line) o old new) → turn_outcome s (record { line = line; replies = d.replies }) ≡ o
unfolding turn_outcome
turn_done s line o old new d = sym d.answers

-- the steps of connections by it
pub turn_steps : (s : State) (line : List ℕ) (o : Outcome) (old new : KeeperSeen) (d : Does s (line_of line) o old new) → WereMade (turn_makes s (record { line = line; replies = d.replies }))
unfolding turn_makes
turn_steps s line o old new d = d.steps

-- calls that were made as turns say, and for a text that was done after them
pub made-push : (s : State) (turns : List Turn) (line : List ℕ) (o : Outcome) (old between new : KeeperSeen) → end_from first 1 turns ≡ Ended s → length line ≤ MAX_LINE_BYTES → AreMade (calls_from first turns) old between → (d : Does s (line_of line) o between new) → AreMade (calls_from first (turns ++ record { line = line; replies = d.replies } ∷ [])) old new
unfolding turn_calls
made-push s turns line o old between new h short made d =
    let turn : Turn = record { line = line; replies = d.replies } in
    let P : List KeeperCall → Type 0 = λ cs. AreMade cs old new in
    subst P (sym (calls_from-push s turns turn h short)) (then_made (calls_from first turns) (turn_calls s turn) old between new made d.made)
