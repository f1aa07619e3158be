use Rattle.shepherd.proofs.Ending.{has_call, has_moment, item_next, last_leaves, serves_all, serves_first, takes_first}
use Rattle.shepherd.proofs.laws.items_are_for_requests_in_order.Goals as goal

pub returns-clause-first : goal.returns-clause-first
returns-clause-first g c = λ bytes more heads written items s h. serves_first bytes more heads written items s h

pub returns-clause-all : goal.returns-clause-all
returns-clause-all g c = λ bytes heads written items s end turned memory h.
    serves_all bytes heads written items s end c.requests_compose.ensures.rest turned memory h

pub returns-clause-asked : goal.returns-clause-asked
returns-clause-asked g c = λ bytes heads written items s turned h. has_call bytes heads written items s turned h

pub returns-clause-moment : goal.returns-clause-moment
returns-clause-moment g c = λ bytes heads written items s turned h. has_moment bytes heads written items s turned h

pub returns-clause-item : goal.returns-clause-item
returns-clause-item g c = λ s turned. item_next s turned

pub returns-clause-taken : goal.returns-clause-taken
returns-clause-taken g c = λ bytes more heads written items s h. takes_first bytes more heads written items s h

pub returns-clause-last : goal.returns-clause-last
returns-clause-last g c = λ bytes heads written items s why over h. last_leaves bytes heads written items s why over h
