use Rattle.std.proofs.Common.{◌+◌, ◌++◌, [], ◌∷◌, ◌∙◌, ap, sym, arith}
use Rattle.std.proofs.lemmas.List.FromFn.{map-range_with_len_more}
use Rattle.send_windows.specs.Facts.{first_fact}
use Rattle.send_windows.proofs.facts.first_facts.Goals as goal

pub loop-before-preserved : goal.loop-before-preserved
loop-before-preserved c =
    let i = c.loop-before.before in
    let more = map-range_with_len_more first_fact 1 i (i + 1) (omega arith) in
    c.in_ok-push.ensures.items ∙ (ap (λ facts. facts ++ first_fact (i + 1) ∷ []) c.loop-before.invariant ∙ sym more)
