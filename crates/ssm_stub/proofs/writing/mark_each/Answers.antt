use Rattle.std.proofs.Common.{◌≡◌, ◌∙◌, ap, arith, get_or}
use Rattle.std.proofs.lemmas.Option.{slice_get-get_or}
use Rattle.crash_base.specs.declared.numbers.BrickNo.{BrickNo}
use Rattle.ssm_stub.specs.declared.ear.Stage.TheVariants.{Unasked}
use Rattle.ssm_stub.specs.declared.ear.Ear.TheVariants.{Open}
use Rattle.ssm_stub.specs.declared.ask.Ask.{Ask}
use Rattle.ssm_stub.specs.declared.reply.WriteReply.{WriteReply}
use Rattle.send_windows.specs.Passes.{marked}
use Rattle.ssm_stub.specs.Writes.{mark_by}
use Rattle.ssm_stub.proofs.Marking.{marks_more, same_length}
use Rattle.ssm_stub.proofs.writing.mark_each.Goals as goal

pub mark-requires : goal.mark-requires
mark-requires c =
    let same = same_length c.loop-at.passes c.args.asks.now c.loop-at.invariant.same_bricks in
    omega arith

pub loop-at-preserved : goal.loop-at-preserved
loop-at-preserved c =
    let none : Ask BrickNo WriteReply = record { who = record { 0 = 0 }; ear = Open Unasked } in
    let ask = get_or c.args.asks.now c.loop-at.at none in
    let new : c.mark.new.self ≡ marked c.loop-at.passes c.loop-at.at (mark_by ask.ear) = c.mark.ensures ∙ ap (marked c.loop-at.passes c.loop-at.at) c.mark_by.ensures in
    let more = marks_more c.loop-at.passes c.args.asks.now c.loop-at.at ask c.loop-at.invariant.same_bricks c.loop-at.invariant.marked_so_far (slice_get-get_or c.args.asks.now c.loop-at.at none c.loop-at-test.true) in
    record { same_bricks = rw new more.bricks; marked_so_far = rw new more.so_far }
