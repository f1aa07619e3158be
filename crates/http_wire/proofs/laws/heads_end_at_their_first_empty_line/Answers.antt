use Rattle.std.proofs.Common.{ap, unwrap_or}
use Rattle.http_wire.specs.Extent.{ends_head, is_full, searched}
use Rattle.http_wire.proofs.FirstEnds.{all_searched, ends_there, found_shortest, full_is, is_full_by, shortest_found, there_ends}
use Rattle.http_wire.proofs.laws.heads_end_at_their_first_empty_line.Goals as goal

pub returns-clause-ends : goal.returns-clause-ends
returns-clause-ends c = λ bytes. (ends_there bytes, there_ends bytes)

pub returns-clause-first : goal.returns-clause-first
returns-clause-first c = λ bytes part. (found_shortest ends_head (searched bytes) part, shortest_found ends_head (searched bytes) part)

pub returns-clause-within : goal.returns-clause-within
returns-clause-within c = λ bytes part h. ap (λ found. unwrap_or found bytes) (shortest_found is_full bytes part h)

pub returns-clause-whole : goal.returns-clause-whole
returns-clause-whole c = all_searched

pub returns-clause-full : goal.returns-clause-full
returns-clause-full c = λ bytes. (full_is bytes, is_full_by bytes)
