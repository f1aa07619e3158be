use Rattle.std.proofs.Common.{◌∙◌, ap, subst, IsTrue, []}
use Rattle.ssm_stub.specs.declared.ear.Stage.TheVariants.{Asked}
use Rattle.ssm_stub.specs.declared.event.StubNext.TheVariants.{Receive}
use Rattle.ssm_stub.specs.declared.event.Told.{Told}
use Rattle.ssm_stub.specs.Ears.{heard}
use Rattle.ssm_stub.specs.Runs.{fits}
use Rattle.ssm_stub.specs.Writes.{put_lawful}
use Rattle.ssm_stub.proofs.settling.hear_next.Goals as goal

pub returns-clause-ok : goal.returns-clause-ok
returns-clause-ok g c =
    let (event, tells, fitting, made) = c.in_ok-told.ensures.told in
    let FitsIt : Told → Type 0 = λ told. IsTrue (fits (Receive c.args.brick) told) in
    (event, subst FitsIt tells fitting, c.put_heard.ensures ∙ ap (heard (put_lawful c.args.nonce c.args.key c.args.brick) (Asked c.args.strays)) tells, made [])
