use Rattle.std.proofs.Common.{◌∙◌, ap, sym}
use Rattle.http_wire.proofs.Looking.{next_scan, and_byte}
use Rattle.http_wire.proofs.extent.HeadScan.and.Goals as goal

pub returns : goal.returns
returns c = λ front is. rw c.one_if.ensures (ap (λ s. and_byte s c.args.byte) is ∙ sym (next_scan front c.args.byte))
