use Rattle.std.proofs.Common.{◌≡◌, ◌+◌, ◌-◌, vec_len}
use Rattle.session_steps.specs.Sessions.{padded}
use Rattle.session_steps.proofs.writing.pad.Given as goal

abbrev pub invariant-loop-cookies : goal.invariant-loop-cookies
invariant-loop-cookies l = padded l.cookies.items l.key ≡ padded l.initial.cookies.items l.key

abbrev pub decreases-loop-cookies : goal.decreases-loop-cookies
decreases-loop-cookies l = l.key + 1 - vec_len l.cookies
