use Rattle.std.proofs.Common.{sym, subst}
use Rattle.memory_site.specs.Going.{IsAccepted}
use Rattle.auction_site.specs.Actions.{steps_of}
use Rattle.link_memory.specs.Script.{ScriptMakes}
use Rattle.shepherd.specs.Going.{GoesOn}
use Rattle.memory_site.proofs.surroundings.Surroundings.connect.Goals as goal

pub returns-clause-goes : goal.returns-clause-goes
returns-clause-goes c = record { goes_on = subst (GoesOn IsAccepted steps_of ScriptMakes c.args.self.now.container) (sym c.new.ensures) (c.connections_go_on.ensures.begins c.args.self.now.container) }
