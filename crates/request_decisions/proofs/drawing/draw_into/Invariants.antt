use Rattle.std.proofs.Common.{◌≡◌, ◌+◌, ◌≤◌, ◌++◌, length}
use Rattle.std.specs.Prelude.{vec_capacity, vec_len}
use Rattle.request_decisions.specs.Drawing.{HasDrawn}
use Rattle.request_decisions.specs.Draws.{kinds_of}
use Rattle.request_decisions.proofs.drawing.draw_into.Given as goal

abbrev pub invariant-loop-rest : goal.invariant-loop-rest
invariant-loop-rest g l =
    (kinds_of l.drawn.items ++ l.rest ≡ l.kinds)
    × HasDrawn g.S.Serials.looks g.R.Random.gives l.fn.serials l.fn.random l.drawn.items l.serials l.random
    × (vec_len l.drawn + length l.rest ≤ vec_capacity l.drawn)

abbrev pub decreases-loop-rest : goal.decreases-loop-rest
decreases-loop-rest g l = length l.rest
