-- What stands where memory ran out in a step of a connection to which the keeper had replied.
use Rattle.std.proofs.Common.{◌≡◌, ◌≤◌, Bool, List, [], ◌∷◌, ◌++◌, length, ap, sym, subst, ◌∙◌, append_assoc}
use Rattle.std.specs.Prelude.{All}
use Rattle.scenario_text.specs.Reading.{line_of}
use Rattle.scenario_text.specs.declared.line.TheConstants.{MAX_LINE_BYTES}
use Rattle.seat_lines.specs.Making.{StepHearsSpelled}
use Rattle.scenario_engine.specs.Connections.{makes_to, turn_makes}
use Rattle.scenario_engine.specs.Engine.{next_calls, with_reply}
use Rattle.scenario_engine.specs.KeeperCalls.{KeeperCall, KeeperSeen, AreMade}
use Rattle.scenario_engine.specs.State.{State, UnderWayIn}
use Rattle.scenario_engine.specs.Transcript.{Turn, first, Ended, end_from, turn_outcome, turn_calls, calls_from}
use Rattle.scenario_engine.proofs.Calls.{then_made}
use Rattle.scenario_engine.proofs.StepsMade.{all-push}
use Rattle.scenario_engine.proofs.Turns.{calls_from-push}
use Rattle.scenario_engine.proofs.UnderWay.{calls_more}
use Rattle.drive_engine.specs.Drive.{WereAsked, one_more}

-- the calls of the keeper by a turn, where it replied to one step more
turn_calls_more : (s mid : State) (turn : Turn) (keeps : Bool) → turn_outcome s turn ≡ UnderWayIn mid → turn_calls s (one_more turn keeps) ≡ turn_calls s turn ++ next_calls mid (line_of turn.line) keeps
unfolding turn_outcome turn_calls
turn_calls_more s mid turn keeps way = calls_more s mid (line_of turn.line) turn.replies keeps way

-- turns with one step more of the last, to which the keeper replied, made their calls
made_one_more : (s mid : State) (turns : List Turn) (turn : Turn) (keeps : Bool) (old between new : KeeperSeen) → end_from first 1 turns ≡ Ended s → length turn.line ≤ MAX_LINE_BYTES → turn_outcome s turn ≡ UnderWayIn mid → AreMade (calls_from first (turns ++ turn ∷ [])) old between → AreMade (next_calls mid (line_of turn.line) keeps) between new → AreMade (calls_from first (turns ++ one_more turn keeps ∷ [])) old new
made_one_more s mid turns turn keeps old between new done short way whole last =
    let before = calls_from first turns in
    let next = next_calls mid (line_of turn.line) keeps in
    let calls : calls_from first (turns ++ one_more turn keeps ∷ []) ≡ calls_from first (turns ++ turn ∷ []) ++ next =
    calls_from-push s turns (one_more turn keeps) done short
    ∙ ap (λ cs. before ++ cs) (turn_calls_more s mid turn keeps way)
    ∙ sym (append_assoc before (turn_calls s turn) next)
    ∙ ap (λ cs. cs ++ next) (sym (calls_from-push s turns turn done short)) in
    let P : List KeeperCall → Type 0 = λ cs. AreMade cs old new in
    subst P (sym calls) (then_made (calls_from first (turns ++ turn ∷ [])) next old between new whole last)

-- what connections heard in one step more
more_heard : (s : State) (turn : Turn) (keeps : Bool) → All StepHearsSpelled (makes_to s (line_of turn.line) (with_reply turn.replies keeps)) → All StepHearsSpelled (turn_makes s (one_more turn keeps))
unfolding turn_makes
more_heard s turn keeps heard = heard

-- turns were done with one step more of the last
pub done_one_more : (s mid : State) (turns : List Turn) (turn : Turn) (keeps : Bool) (old at between new : KeeperSeen) → end_from first 1 turns ≡ Ended s → length turn.line ≤ MAX_LINE_BYTES → turn_outcome s turn ≡ UnderWayIn mid → WereAsked turns old at → WereAsked (turns ++ turn ∷ []) old between → AreMade (next_calls mid (line_of turn.line) keeps) between new → All StepHearsSpelled (makes_to s (line_of turn.line) (with_reply turn.replies keeps)) → WereAsked (turns ++ one_more turn keeps ∷ []) old new
done_one_more s mid turns turn keeps old at between new done short way first_done whole last heard = record {
  made = made_one_more s mid turns turn keeps old between new done short way whole.made last;
  spelled = all-push StepHearsSpelled s turns (one_more turn keeps) done short first_done.spelled (more_heard s turn keeps heard);
}
