use Rattle.std.proofs.Common.{refl, inl, inr, [], ◌∷◌}
use Rattle.outside.specs.declared.link.LinkEvent.TheVariants.{WantsToSend}
use Rattle.ssm_stub.proofs.exchange.send_ask.Goals as goal

pub returns-in-OutOfMemory-clause-want : goal.returns-in-OutOfMemory-clause-want
returns-in-OutOfMemory-clause-want g c =
    record {
      last = WantsToSend c.args.brick c.args.ask.now ∷ [];
      at_most_one = inr (inl refl);
      made = (c.send.new.self, c.in-OutOfMemory.ensures, refl);
    }
