use Rattle.std.proofs.Common.{◌≡◌, ◌<◌, length, get_or, ap, arith}
use Rattle.std.proofs.lemmas.List.{get_or_default}
use Rattle.std.proofs.lemmas.List.Edits.{map_over_more}
use Rattle.send_windows.specs.declared.pass.Pass.{Pass}
use Rattle.send_windows.specs.declared.pass.PassMark.TheVariants.{Unheard}
use Rattle.send_windows.specs.Passes.{hushed}
use Rattle.send_windows.proofs.pass_list.hush_all.Goals as goal

pub loop-pass-preserved : goal.loop-pass-preserved
loop-pass-preserved c =
    let xs = c.args.passes.now.items in
    let ys = c.loop-pass.pass-items in
    let i = c.loop-pass.pass-index in
    let none : Pass = record { brick = record { 0 = 0 }; mark = Unheard } in
    let same : length c.deref_mut-pass-items.result.now ≡ length xs = ap length c.deref_mut-pass-items.ensures.value in
    let within : i < length xs = omega arith in
    let in_items : i < length ys = omega arith in
    rw c.hushed.ensures (map_over_more hushed xs ys i (get_or ys i none) within c.loop-pass.invariant (get_or_default ys i none (get_or ys i none) in_items))
