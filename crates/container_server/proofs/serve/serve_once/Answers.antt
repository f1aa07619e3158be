use Rattle.std.proofs.Common.{◌≡◌, IfErr, IfOk, inl, sym, subst}
use Rattle.container_core.specs.Container.{ContainerValue, HasGrownBy}
use Rattle.container_server.specs.Running.{seen}
use Rattle.container_server.proofs.Running.{behind, ends_behind, grown_none, seen_same}
use Rattle.container_server.proofs.Telling.{told_boot}
use Rattle.service_log.specs.Logging.{log_of}
use Rattle.service_log.specs.declared.ending.ServiceEnd.TheVariants.{OutOfMemory}
use Rattle.container_server.proofs.serve.serve_once.Goals as goal

pub returns-in-Ok-clause-on : goal.returns-in-Ok-clause-on
returns-in-Ok-clause-on g c plans before s =
    let grown = subst (λ r. IfOk r (λ served. HasGrownBy c.args.container served.0)) c.in-Ok.is c.serve_boot-served.ensures.grown in
    let first = log_of (g.E.Sink.written c.args.desk.errors.now) (g.E.Sink.faults c.args.desk.errors.now) in
    let next = log_of (g.E.Sink.written c.log_start.new.errors) (g.E.Sink.faults c.log_start.new.errors) in
    let last = log_of (g.E.Sink.written c.serve_boot-served.result.1.errors.now) (g.E.Sink.faults c.serve_boot-served.result.1.errors.now) in
    let told = told_boot c.args.container first next last c.log_start.ensures.told c.serve_boot-served.ensures.told in
    behind (λ again. again.0) (λ ended. ended.end) (λ ended. seen (g.K.Keeper.told ended.keeper) (g.K.Keeper.faults ended.keeper)) plans before c.args.container c.in-Ok.container first last s grown c.containers_are_sound.ensures.sound told c.go_on.result c.go_on.ensures.again c.go_on.ensures.ended

pub returns-in-Err-clause-on : goal.returns-in-Err-clause-on
returns-in-Err-clause-on g c plans before s =
    let back = subst (λ r. IfErr r (λ given. given ≡ c.args.container)) c.in-Err.is c.serve_boot-served.ensures.back in
    let grown = subst (λ (x : ContainerValue). HasGrownBy c.args.container x) (sym back) (grown_none c.args.container) in
    let first = log_of (g.E.Sink.written c.args.desk.errors.now) (g.E.Sink.faults c.args.desk.errors.now) in
    let next = log_of (g.E.Sink.written c.log_start.new.errors) (g.E.Sink.faults c.log_start.new.errors) in
    let last = log_of (g.E.Sink.written c.serve_boot-served.result.1.errors.now) (g.E.Sink.faults c.serve_boot-served.result.1.errors.now) in
    let told = told_boot c.args.container first next last c.log_start.ensures.told c.serve_boot-served.ensures.told in
    let kept = c.into_keeper-keeper.ensures in
    ends_behind plans before c.args.container c.in-Err.container first last OutOfMemory (seen (g.K.Keeper.told c.into_keeper-keeper.result) (g.K.Keeper.faults c.into_keeper-keeper.result)) s grown c.containers_are_sound-in-Err.ensures.sound told
    (inl (seen_same c.in-Err.container.told (g.K.Keeper.told c.into_keeper-keeper.result) c.in-Err.container.faults (g.K.Keeper.faults c.into_keeper-keeper.result) kept.told kept.faults))
