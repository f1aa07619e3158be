use Rattle.std.proofs.Common.{◌≡◌, ◌+◌, ◌++◌, take, drop}
use Rattle.session_cookie.proofs.tokens.put.Given as goal

abbrev pub invariant-loop-i : goal.invariant-loop-i
invariant-loop-i l = (l.block ≡ take l.at l.initial.block ++ (take l.i l.fn.piece ++ drop (l.at + l.i) l.initial.block))
