use Rattle.std.proofs.Common.{◌∙◌, nat_lt, List, ap, rules}
use Rattle.std.proofs.lemmas.Fn.{filter_same}
use Rattle.crash_base.specs.declared.numbers.ComponentNo.{ComponentNo}
use Rattle.recovery_manager.specs.Kept.{known_path}
use Rattle.recovery_manager.proofs.paths.known_path.Goals as goal

pub returns : goal.returns
returns c =
    c.from_vec.ensures
    ∙ filter_same _ (λ (d : ComponentNo). nat_lt d.0 c.args.count) _ (λ d below f' t. search rules) c.into_vec-components.result.items c.retain.new.self.items c.retain.ensures.filtered
    ∙ ap (λ (path : List ComponentNo). known_path c.args.count path) c.into_vec-components.ensures
