use Rattle.std.proofs.Common.{◌+◌, ◌-◌, ◌≤◌, length, take, drop, arith, length-drop, ap}
use Rattle.std.specs.Prelude.{vec_capacity, vec_len}
use Rattle.std.proofs.lemmas.List.{take_rest}
use Rattle.request_decisions.proofs.Drawn.{step}
use Rattle.request_decisions.proofs.drawing.draw_into.Goals as goal

pub loop-rest-preserved : goal.loop-rest-preserved
loop-rest-preserved g c =
    let rest = c.loop-rest.rest.now in
    let some : 1 ≤ length rest = c.in-len1-up.len_at_least in
    let left = ap length (take_rest rest 1) in
    let count = length-drop 1 rest in
    let room : vec_len c.push_reserved.new.self + length (take (length rest - 1) (drop 1 rest)) ≤ vec_capacity c.push_reserved.new.self =
    omega (arith, c.push_reserved.ensures.len, c.push_reserved.ensures.capacity, c.loop-rest.invariant.2, some, left, count) in
    let drawn = step g.S.Serials.looks g.R.Random.gives c.args.serials.now c.args.random.now c.args.kinds.now rest c.loop-rest.drawn.items c.push_reserved.new.self.items _ c.in-Ok.number
    c.loop-rest.serials c.loop-rest.random c.draw_one.new.serials c.draw_one.new.random some
    c.loop-rest.invariant.0 c.loop-rest.invariant.1 c.in-Ok.ensures.drawn c.push_reserved.ensures.items in
    (drawn.0, drawn.1, room)
