use Rattle.std.proofs.Common.{◌≡◌, ◌∙◌, ap, sym, [], ◌∷◌, ◌++◌}
use Rattle.std.proofs.lemmas.Result.{err_from_is_err_and}
use Rattle.ssm_stub.specs.declared.ear.Stage.TheVariants.{Asked}
use Rattle.ssm_stub.specs.declared.ear.Ear.TheVariants.{Open, Heard}
use Rattle.ssm_stub.specs.Hearing.{ear_machine}
use Rattle.ssm_stub.specs.Writes.{put_lawful}
use Rattle.ssm_stub.proofs.Running.{ran_more}
use Rattle.ssm_stub.proofs.settling.hear_out.Goals as goal

pub returns-in-Heard-clause-ok : goal.returns-in-Heard-clause-ok
returns-in-Heard-clause-ok g c =
    let (event, fitting, ends, made) = c.in_ok-outcome.ensures.ok in
    let (events, ran) = c.frames.invariant in
    let m = ear_machine c.args.brick (put_lawful c.args.nonce c.args.key c.args.brick) in (
      events ++ event ∷ [],
      ran_more m g.L.Link.makes [] (Open (Asked 0)) c.args.link.now events (Open (Asked c.frames.strays)) c.frames.link event (Heard c.in-Heard.outcome) c.hear_next.new.link ran fitting made (sym c.in-Heard.is ∙ ends),
    )

pub returns-in_err-outcome-clause-err : goal.returns-in_err-outcome-clause-err
returns-in_err-outcome-clause-err g c =
    let p = err_from_is_err_and c.from_residual.result c.from_residual.ensures.1 in
    let (events, ran) = c.frames.invariant in
    rw p.1 (record {
      events = events;
      strays = c.frames.strays;
      reached = c.frames.link;
      ran = ran;
      fails = c.in_err-outcome.ensures.want;
    })

pub frames-preserved : goal.frames-preserved
frames-preserved g c =
    let (event, fitting, ends, made) = c.in_ok-outcome.ensures.ok in
    let (events, ran) = c.frames.invariant in
    let more = c.in-Open-Asked.more in
    let m = ear_machine c.args.brick (put_lawful c.args.nonce c.args.key c.args.brick) in
    let still : c.in_ok-outcome.field-0 ≡ Open (Asked more) = c.in-Open-Asked.is ∙ ap (λ stage. Open stage) c.in-Open-Asked.field-0-is in
    rw c.in-Open-Asked.more-is (
      events ++ event ∷ [],
      ran_more m g.L.Link.makes [] (Open (Asked 0)) c.args.link.now events (Open (Asked c.frames.strays)) c.frames.link event (Open (Asked more)) c.hear_next.new.link ran fitting made (sym still ∙ ends),
    )
