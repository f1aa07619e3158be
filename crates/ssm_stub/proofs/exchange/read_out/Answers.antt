use Rattle.std.proofs.Common.{ap, sym, [], ◌∷◌, ◌++◌, IsTrue}
use Rattle.outside.specs.Link.{Made}
use Rattle.ssm_stub.specs.Runs.{told_of, fits, call_of}
use Rattle.ssm_stub.specs.Reads.{read_machine}
use Rattle.ssm_stub.proofs.Running.{ran_more}
use Rattle.ssm_stub.proofs.Weights.{weight, read_falls}
use Rattle.ssm_stub.proofs.exchange.read_out.Goals as goal

pub steps-smaller : goal.steps-smaller
steps-smaller g c =
    let (event, fits_next, hears, made) = c.in_ok-read_once.ensures.ok in
    let fitting : IsTrue (fits (read_machine.next c.steps.call) (told_of event)) = rw (sym c.next-next.ensures) fits_next in
    rw (ap (λ s. weight s.asks) hears) (read_falls c.steps.call (told_of event) fitting)

pub steps-preserved : goal.steps-preserved
steps-preserved g c =
    let (event, fits_next, hears, made) = c.in_ok-read_once.ensures.ok in
    let wanted = c.next-next.ensures in
    let fitting : IsTrue (fits (read_machine.next c.steps.call) (told_of event)) = rw (sym wanted) fits_next in
    let made_so : Made g.L.Link.makes c.steps.link (call_of c.args.ask.now (read_machine.next c.steps.call) event) c.read_once.new.link = rw (sym wanted) made in
    let (events, ran) = c.steps.invariant in (
      events ++ event ∷ [],
      ran_more read_machine g.L.Link.makes c.args.ask.now c.args.call.now c.args.link.now events c.steps.call c.steps.link event c.read_once.new.call c.read_once.new.link ran fitting made_so hears,
    )
