use Rattle.container_core.proofs.container.Container.enter.Goals as goal

pub returns-clause-answer : goal.returns-clause-answer
returns-clause-answer g c =
    rw (← c.self.view_is, ← c.deref_mut.ensures.value) c.enter.ensures.answer
