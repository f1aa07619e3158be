use Rattle.std.proofs.Common.{◌≡◌, ◌∙◌, ◌+◌, ◌∷◌, ◌++◌, [], List, length, length-append, ap, sym, subst, arith}
use Rattle.ssm_world.specs.Logged.{LoggedValue, histories_of, AreNumbered}
use Rattle.ssm_world.proofs.Numbering.{numbered_push, blank_push}
use Rattle.ssm_world.proofs.logged_bricks.LoggedBricks.new.Goals as goal

pub loop-i-preserved : goal.loop-i-preserved
loop-i-preserved c =
    let bricks : List LoggedValue = c.loop-i.all.items in
    let b : LoggedValue = c.new.result in
    let pushed : c.push.new.self.items ≡ bricks ++ b ∷ [] = c.in_ok-push.ensures.items in
    let number : b.number.0 ≡ length bricks + 1 = ap (λ (s : LoggedValue). s.number.0) c.new.ensures ∙ ap (λ k. k + 1) (sym c.loop-i.invariant.count) in
    let P : List LoggedValue → Type 0 = λ l. AreNumbered l in
    record {
      numbered = subst P (sym pushed) (numbered_push bricks b c.loop-i.invariant.numbered number (omega (arith, c.loop-i.invariant.count)));
      blank = ap histories_of pushed ∙ blank_push bricks b c.loop-i.i c.loop-i.invariant.blank (ap (λ (s : LoggedValue). s.history) c.new.ensures);
      count = ap length pushed ∙ length-append bricks (b ∷ []) ∙ ap (λ k. k + 1) c.loop-i.invariant.count;
    }
