use Rattle.std.proofs.Common.{◌≡◌, ◌∙◌, ◌<◌, ap, sym, length, get_or, List, Some, slice_get}
use Rattle.std.proofs.lemmas.List.{length-set}
use Rattle.std.proofs.lemmas.List.Edits.{map_over_more}
use Rattle.std.proofs.lemmas.Option.{slice_get-get_or, get_or_from_slice_get}
use Rattle.std.specs.Prelude.{slice_set}
use Rattle.send_windows.specs.declared.pass.Pass.{Pass}
use Rattle.send_windows.specs.declared.pass.PassMark.TheVariants.{Unheard}
use Rattle.send_windows.specs.Passes.{with_mark, marked, marked_at}
use Rattle.ssm_stub.specs.Writes.{mark_in}
use Rattle.ssm_stub.proofs.writing.mark_passes.Goals as goal

pub loop-at-preserved : goal.loop-at-preserved
loop-at-preserved c =
    let none : Pass = record { brick = record { 0 = 0 }; mark = Unheard } in
    let asks = c.args.write.now.asks in
    let f : Pass → Pass = λ pass. with_mark pass (mark_in asks pass.brick) in
    let xs : List Pass = c.args.passes.now in
    let ys : List Pass = c.loop-at.passes in
    let i = c.loop-at.at in
    let within : i < length xs = rw (sym c.len-at-end.ensures) c.loop-at-test.true in
    let inside : i < length ys = rw c.loop-at.invariant.as_many within in
    let x : Pass = get_or ys i none in
    let there : slice_get ys i ≡ Some x = slice_get-get_or ys i none inside in
    let marks : c.mark-in-loop-at.new.self ≡ slice_set ys i (f x) = c.mark-in-loop-at.ensures ∙ (ap (marked ys i) (c.mark.ensures ∙ ap (λ (ps : List Pass). mark_in asks (get_or ps i none).brick) c.as_slice.ensures) ∙ ap (marked_at ys i (mark_in asks x.brick)) there) in
    record {
      as_many = ap length marks ∙ (length-set ys i (f x) ∙ c.loop-at.invariant.as_many);
      so_far = marks ∙ map_over_more f xs ys i x within c.loop-at.invariant.so_far (sym (get_or_from_slice_get ys i x x there));
    }
