use Rattle.lane_link.proofs.Beginning.{reads_right}
use Rattle.lane_link.proofs.laws.ways_read_what_was_written.Goals as goal

pub returns : goal.returns
returns c = reads_right c.reads_answer_what_was_written.ensures.right c.acknowledged_cookies_may_be_read.ensures.holders
