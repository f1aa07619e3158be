use Rattle.std.proofs.Common.{◌≡◌, ◌<◌, length, get_or, ap, arith}
use Rattle.std.proofs.lemmas.List.{get_or_default}
use Rattle.std.proofs.lemmas.List.Edits.{map_over_more}
use Rattle.send_windows.specs.declared.fact.WindowFact.{WindowFact}
use Rattle.send_windows.specs.Facts.{spent}
use Rattle.send_windows.proofs.facts.spend_one.Goals as goal

pub loop-fact-preserved : goal.loop-fact-preserved
loop-fact-preserved c =
    let xs = c.args.facts.now.items in
    let ys = c.loop-fact.fact-items in
    let i = c.loop-fact.fact-index in
    let none : WindowFact = record { brick = record { 0 = 0 }; window = 0; in_flight = 0 } in
    let same : length c.deref_mut-fact-items.result.now ≡ length xs = ap length c.deref_mut-fact-items.ensures.value in
    let within : i < length xs = omega arith in
    let in_items : i < length ys = omega arith in
    rw c.spent.ensures (map_over_more (spent c.args.pass) xs ys i (get_or ys i none) within c.loop-fact.invariant (get_or_default ys i none (get_or ys i none) in_items))
