use Rattle.std.proofs.Common.{arith, ◌≡◌, ◌∙◌, ◌<◌, ◌≤◌, ap, sym, subst, List, length, take, get_or}
use Rattle.std.proofs.lemmas.List.{length-map, take_all}
use Rattle.crash_base.specs.declared.numbers.BrickNo.{BrickNo}
use Rattle.send_windows.specs.Passes.{AreHeard}
use Rattle.ssm_stub.proofs.AllHeard.{all_heard}
use Rattle.ssm_stub.specs.Ends.{SettledAs}
use Rattle.send_windows.specs.declared.pass.Pass.{Pass}
use Rattle.send_windows.specs.declared.pass.PassMark.TheVariants.{Unheard}
use Rattle.ssm_stub.specs.Writes.{put_lawful}
use Rattle.ssm_stub.proofs.PassByPass.{Kept, one_settled}
use Rattle.ssm_stub.proofs.settling.settle.Goals as goal

pub loop-at-preserved : goal.loop-at-preserved
loop-at-preserved g c =
    let none : Pass = record { brick = record { 0 = 0 }; mark = Unheard } in
    let before = c.args.passes.now in
    let passes = c.loop-at.passes in
    let at = c.loop-at.at in
    let within : at < length before = rw (sym c.len-at-end.ensures) c.loop-at-test.true in
    let inv = c.loop-at.invariant in
    let kept : Kept g.L.Link.makes (put_lawful c.args.nonce c.args.key) c.args.link.now before passes at c.loop-at.link = record { settled = inv.settled; rest = inv.rest; same_bricks = inv.same_bricks } in
    let P : List Pass → Type 0 = λ ps. SettledAs g.L.Link.makes (put_lawful c.args.nonce c.args.key) (get_or ps at none).brick (get_or ps at none).mark c.loop-at.link c.settle_one-mark.new.link c.settle_one-mark.result in
    let one = one_settled g.L.Link.makes (put_lawful c.args.nonce c.args.key) c.args.link.now before passes at c.loop-at.link none c.settle_one-mark.result c.settle_one-mark.new.link within kept (subst P c.as_slice.ensures c.settle_one-mark.ensures) in
    rw c.mark.ensures (record { settled = one.settled; rest = one.rest; same_bricks = one.same_bricks })

pub returns-clause-heard : goal.returns-clause-heard
returns-clause-heard g c =
    let brick_of : Pass → BrickNo = λ p. p.brick in
    let before = c.args.passes.now in
    let passes = c.loop-at.passes in
    let inv = c.loop-at.invariant in
    let long : length passes ≡ length before = sym (length-map passes brick_of) ∙ (ap length inv.same_bricks ∙ length-map before brick_of) in
    let past : length before ≤ c.loop-at.at = rw (sym c.len-at-end.ensures) c.loop-at-test.false in
    let whole : take c.loop-at.at passes ≡ passes = take_all c.loop-at.at passes (omega arith) in
    subst AreHeard whole (all_heard g.L.Link.makes (put_lawful c.args.nonce c.args.key) (take c.loop-at.at before) (take c.loop-at.at passes) c.args.link.now c.loop-at.link inv.settled)
