use Rattle.std.proofs.Common.{◌∙◌, sym}
use Rattle.session_lanes.proofs.SpentPasses.{spent_as_many}
use Rattle.session_lanes.proofs.lanes.Lanes.spend.Goals as goal

pub invariant_of-self : goal.invariant_of-self
invariant_of-self c = rw c.spend.ensures.after (record {
  each = c.self.invariant.each ∙ sym (spent_as_many c.args.passes c.self.inside.windows.facts);
  few = c.self.invariant.few;
  holds = c.self.invariant.holds;
})
