use Rattle.std.proofs.Common.{List, [], ◌+◌, ◌-◌}
use Rattle.ssm_stub.specs.declared.ear.Stage.TheVariants.{Asked}
use Rattle.ssm_stub.specs.declared.ear.Ear.TheVariants.{Open}
use Rattle.ssm_stub.specs.declared.event.StubEvent.{StubEvent}
use Rattle.ssm_stub.specs.Hearing.{ear_machine}
use Rattle.ssm_stub.specs.Runs.{Ran}
use Rattle.ssm_stub.specs.Writes.{put_lawful}
use Rattle.ssm_stub.proofs.settling.hear_out.Given as goal

abbrev pub invariant-frames : goal.invariant-frames
invariant-frames g l = (events : List StubEvent) × Ran (ear_machine l.brick (put_lawful l.nonce l.key l.brick)) g.L.Link.makes [] (Open (Asked 0)) l.fn.link events (Open (Asked l.strays)) l.link

abbrev pub decreases-frames : goal.decreases-frames
decreases-frames g l = 1 + (64 - l.strays)
