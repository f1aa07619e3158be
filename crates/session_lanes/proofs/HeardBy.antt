-- Passes by what a call heard.
use Rattle.std.proofs.Common.{◌≡◌, ◌≢◌, refl, ap, List, map, Option, Some, None}
use Rattle.send_windows.specs.Passes.{hushed}
use Rattle.send_windows.specs.declared.pass.Pass.{Pass}
use Rattle.ssm_stub.specs.Writes.{WriteState, heard_passes}
use Rattle.ssm_world.specs.declared.call.Call.{Call}
use Rattle.ssm_world.specs.declared.call.Call.TheVariants as call
use Rattle.session_lanes.specs.Lanes.{heard_by}

pub heard_by_write : (o : Option Call) (write : WriteState) (passes : List Pass) → o ≡ Some (call.Write write) → heard_by o passes ≡ map hushed (heard_passes write passes)
heard_by_write o write passes is = ap (λ x. heard_by x passes) is

pub heard_by_none : (o : Option Call) (passes : List Pass) → ((s : WriteState) → o ≢ Some (call.Write s)) → heard_by o passes ≡ map hushed passes
heard_by_none None passes other = refl
heard_by_none (Some (call.Write s)) passes other = absurd (other s refl)
heard_by_none (Some (call.Read s)) passes other = refl
