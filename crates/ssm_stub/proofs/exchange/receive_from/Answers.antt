use Rattle.std.proofs.Common.{◌≡◌, ◌∙◌, ap, refl, subst, inl, inr, ℕ, IsTrue, List}
use Rattle.outside.specs.declared.link.LinkEvent.TheVariants.{Gets, WantsToReceive}
use Rattle.ssm_frames.specs.Reading.{decode_of, takes_memory}
use Rattle.ssm_stub.specs.declared.event.StubEvent.TheVariants.{Frame}
use Rattle.ssm_stub.specs.declared.event.Told.TheVariants.{Came}
use Rattle.ssm_stub.proofs.exchange.receive_from.Goals as goal

pub returns-in-Ok-clause-told : goal.returns-in-Ok-clause-told
returns-in-Ok-clause-told g c =
    let is : c.in-Ok.frame ≡ decode_of c.receive.new.into = c.in-Ok.ensures.value ∙ ap decode_of c.as_slice.ensures in
    (Frame c.receive.new.into, ap Came is, refl, λ ask. (c.receive.new.self, c.in-Got.ensures, refl))

pub returns-in-Err-clause-want : goal.returns-in-Err-clause-want
returns-in-Err-clause-want g c =
    let Takes : List ℕ → Type 0 = λ bytes. IsTrue (takes_memory bytes) in
    record {
      call = Gets c.args.brick c.receive.new.into;
      wanted = inr (c.receive.new.into, subst Takes c.as_slice.ensures c.in-Err.ensures.memory, refl);
      made = c.in-Got.ensures;
    }

pub returns-in-OutOfMemory-clause-want : goal.returns-in-OutOfMemory-clause-want
returns-in-OutOfMemory-clause-want g c = record {
  call = WantsToReceive c.args.brick;
  wanted = inl refl;
  made = c.in-OutOfMemory.ensures;
}
