use Rattle.shepherd_steps.proofs.Telling.{event-told, kept-all, kept-none, step-told}
use Rattle.shepherd_steps.specs.Events.{handed_at_step}
use Rattle.shepherd_steps.specs.Stepping.{world_of}
use Rattle.shepherd_steps.proofs.events.what_keepers_tell_is_fixed.Goals as goal

pub returns-clause-event : goal.returns-clause-event
returns-clause-event g c = λ given drawn old mid bytes calls.
    event-told g.L.Link.makes g.M.ProgramMaker.makes g.C.Clock.told g.R.Random.gives g.S.Serials.looks given drawn old mid bytes calls

pub returns-clause-step : goal.returns-clause-step
returns-clause-step g c = λ given maker drawn old new bytes items made.
    step-told g.L.Link.makes g.M.ProgramMaker.makes g.C.Clock.told g.R.Random.gives g.S.Serials.looks given maker drawn old new bytes items made

pub returns-clause-kept : goal.returns-clause-kept
returns-clause-kept g c = λ given maker drawn old new bytes items made keeps.
    kept-all (handed_at_step given (world_of old drawn)) given.keeps old.container.told new.container.told
    (step-told g.L.Link.makes g.M.ProgramMaker.makes g.C.Clock.told g.R.Random.gives g.S.Serials.looks given maker drawn old new bytes items made) keeps

pub returns-clause-uncalled : goal.returns-clause-uncalled
returns-clause-uncalled g c = λ given maker drawn old new bytes items made none.
    kept-none (handed_at_step given (world_of old drawn)) given.keeps old.container.told new.container.told
    (step-told g.L.Link.makes g.M.ProgramMaker.makes g.C.Clock.told g.R.Random.gives g.S.Serials.looks given maker drawn old new bytes items made) none
