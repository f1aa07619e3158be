use Rattle.std.proofs.Common.{ap}
use Rattle.served_connections.proofs.Resting.{all_left, bytes_remember, is_output, is_rest, item_rests, left_dropped, left_if_open, left_out, rest_dropped, rest_kept, rests_at, rests_back}
use Rattle.served_connections.proofs.telling.connections_come_to_rest.Goals as goal

pub returns-clause-bytes : goal.returns-clause-bytes
returns-clause-bytes g c = λ s is. all_left s.stage (rests_at s (bytes_remember s is) (ap is_rest is))

pub returns-clause-ended : goal.returns-clause-ended
returns-clause-ended g c = λ s end is remembers. all_left s.stage (rests_at s remembers (ap is_rest is))

pub returns-clause-out : goal.returns-clause-out
returns-clause-out g c = λ bytes s after is puts. left_out bytes s after (ap is_output is) puts

pub returns-clause-item : goal.returns-clause-item
returns-clause-item g c = λ i stage after takes. all_left after (item_rests i stage after takes)

pub returns-clause-dropped : goal.returns-clause-dropped
returns-clause-dropped g c = λ stage left. left_dropped stage left

pub returns-clause-left : goal.returns-clause-left
returns-clause-left g c = λ stage left. left_if_open stage left

pub returns-clause-back : goal.returns-clause-back
returns-clause-back g c = λ stage behind windows after left back none. rests_back stage behind windows after left back none

pub returns-clause-rests : goal.returns-clause-rests
returns-clause-rests g c = λ i stage after takes. item_rests i stage after takes

pub returns-clause-rests_at_bytes : goal.returns-clause-rests_at_bytes
returns-clause-rests_at_bytes g c = λ s is. rests_at s (bytes_remember s is) (ap is_rest is)

pub returns-clause-rests_at_end : goal.returns-clause-rests_at_end
returns-clause-rests_at_end g c = λ s end is remembers. rests_at s remembers (ap is_rest is)

pub returns-clause-still : goal.returns-clause-still
returns-clause-still g c = λ stage rests. rest_dropped stage rests

pub returns-clause-kept : goal.returns-clause-kept
returns-clause-kept g c = λ stage behind windows after rests back. rest_kept stage behind windows after rests back
