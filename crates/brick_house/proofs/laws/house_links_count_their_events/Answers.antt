use Rattle.brick_house.proofs.Counting.{hushed_counts, got_counts, brick_counts}
use Rattle.brick_house.proofs.laws.house_links_count_their_events.Goals as goal

pub returns : goal.returns
returns c = record { hushed = hushed_counts; got = got_counts; brick = brick_counts }
