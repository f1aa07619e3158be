use Rattle.std.proofs.Common.{rules}
use Rattle.std.proofs.lemmas.Fn.{filter_same}
use Rattle.recovery_manager.specs.Levels.{is_recent}
use Rattle.recovery_manager.proofs.acts.forget.Goals as goal

pub returns : goal.returns
returns c = filter_same _ (is_recent c.args.now) _ (λ act recent f' t. search rules) c.args.acts.now.items c.retain.new.self.items c.retain.ensures.filtered
