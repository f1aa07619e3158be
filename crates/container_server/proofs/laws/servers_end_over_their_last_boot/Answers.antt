use Rattle.std.proofs.Common.{subst}
use Rattle.service_log.specs.Ending.{end_line}
use Rattle.service_log.specs.Logging.{Log, WritesLine}
use Rattle.service_log.specs.declared.ending.ServiceEnd.{ServiceEnd}
use Rattle.container_server.specs.Running.{EndedOver}
use Rattle.container_server.proofs.laws.servers_end_over_their_last_boot.Goals as goal

pub returns : goal.returns
returns g c gate end before after over =
    let ran = over.ran in
    let last = ran.last in
    let line = subst (λ (log : Log). WritesLine (end_line end) log after.log) ran.untold over.reported in
    let Over : ServiceEnd → Type 0 = λ e. EndedOver e last.keeper after.keeper in (
      over.plans,
      ran.boots,
      last,
      ran.ran,
      over.given,
      λ closed. (ran.once closed, subst Over closed ran.ended),
      λ failed. subst Over failed ran.ended,
      λ id bad. subst Over bad ran.ended,
      λ spent. subst Over spent ran.ended,
      λ wanted. subst Over wanted ran.ended,
      line,
    )
