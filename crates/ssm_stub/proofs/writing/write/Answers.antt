use Rattle.std.proofs.Common.{◌∙◌, ap, sym, map, []}
use Rattle.send_windows.specs.Passes.{hushed}
use Rattle.ssm_frames.specs.Spelling.{encode_of}
use Rattle.ssm_stub.specs.Ends.{bricks_of}
use Rattle.ssm_stub.specs.Turns.{none_asked}
use Rattle.ssm_stub.specs.Writes.{write_start, write_until}
use Rattle.ssm_stub.proofs.Running.{ran_nothing, stopped_by, broke_before}
use Rattle.ssm_stub.proofs.Concluding.{ran-keeps, unheard-passes}
use Rattle.ssm_stub.proofs.writing.write.Goals as goal

pub returns-in-Err-clause-stops : goal.returns-in-Err-clause-stops
returns-in-Err-clause-stops g c =
    let start = write_start (bricks_of c.args.passes.now) c.args.least c.args.nonce c.args.key c.args.value.now c.args.expiry in
    λ _. record {
      end = start;
      stopped = stopped_by write_until g.L.Link.makes (encode_of start.ask) start c.args.link.now [] start c.args.link.now c.args.link.now (ran_nothing write_until g.L.Link.makes (encode_of start.ask) start c.args.link.now) (broke_before g.L.Link.makes (encode_of start.ask) (write_until.next start) c.args.link.now);
      marks = c.stop.ensures.marks ∙ ap (map hushed) (unheard-passes c.args.passes.now c.requires.unheard);
    }

pub mark_each-requires : goal.mark_each-requires
mark_each-requires g c =
    let told = c.in-Ok-write_out.ensures.ok in
    sym (ap (map (λ ask. ask.who)) c.asks.ensures ∙ ran-keeps g.L.Link.makes _ (bricks_of c.args.passes.now) _ _ told.0 _ _ told.1 (ap (λ s. s.asks) c.in-Ok.ensures.call ∙ ap (λ passes. none_asked (bricks_of passes)) c.as_slice.ensures))

pub mark_each-requires-in-Err-write_out : goal.mark_each-requires-in-Err-write_out
mark_each-requires-in-Err-write_out g c =
    let told = c.in-Err-write_out.ensures.err in
    sym (ap (map (λ ask. ask.who)) c.asks-in-Err-write_out.ensures ∙ ran-keeps g.L.Link.makes _ (bricks_of c.args.passes.now) _ _ told.events _ _ told.ran (ap (λ s. s.asks) c.in-Ok.ensures.call ∙ ap (λ passes. none_asked (bricks_of passes)) c.as_slice.ensures))
