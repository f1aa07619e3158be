use Rattle.std.proofs.Common.{◌≡◌, ◌∙◌, ℕ, false, true≢false, ap, sym}
use Rattle.std.proofs.lemmas.List.Elements.{All-weaker}
use Rattle.container_server.specs.Telling.{is_start}
use Rattle.service_log.specs.declared.event.ServiceEvent.{ServiceEvent}
use Rattle.service_log.specs.declared.event.ServiceEvent.TheVariants.{Started}
use Rattle.container_server.proofs.laws.boots_follow_each_other.Goals as goal

-- what is told as no start is none
no_start : (event : ServiceEvent) → is_start event ≡ false → (boot rows : ℕ) → event ≡ Started boot rows → ⊥
no_start event none boot rows is = true≢false (sym (ap is_start is) ∙ none)

pub returns-clause-last : goal.returns-clause-last
returns-clause-last c plans boots before after ran =
    let boot = ran.2 in
    let sound = boot.sound in (
      ran.0,
      boot.started,
      boot.ended,
      ran.1,
      boot.is_started,
      boot.grown,
      sound.boot.legal,
      sound.boot.within,
      sound.boot.owned,
      sound.journal,
      sound.history.starts,
      sound.history.stops,
      boot.left,
      sound.rows,
      (
        boot.told.events,
        boot.told.told,
        All-weaker (λ (event : ServiceEvent). is_start event ≡ false) (λ (event : ServiceEvent). (boot rows : ℕ) → event ≡ Started boot rows → ⊥) no_start boot.told.events boot.told.no_start,
      ),
    )
