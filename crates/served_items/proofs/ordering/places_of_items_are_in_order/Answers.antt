use Rattle.served_items.proofs.Shown.{first_kept, follows, kept}
use Rattle.served_items.proofs.ordering.places_of_items_are_in_order.Goals as goal

pub returns-clause-follows : goal.returns-clause-follows
returns-clause-follows c = follows

pub returns-clause-kept : goal.returns-clause-kept
returns-clause-kept c = kept

pub returns-clause-first_kept : goal.returns-clause-first_kept
returns-clause-first_kept c = first_kept
