use Rattle.auction_site.proofs.Journals.{none_meant, down_meant, up_meant, plain_meant, made_meant, followed_meant, held_stays}
use Rattle.auction_site.proofs.laws.journals_stay_meant.Goals as goal

pub returns-clause-empty : goal.returns-clause-empty
returns-clause-empty c = none_meant

pub returns-clause-down : goal.returns-clause-down
returns-clause-down c = down_meant

pub returns-clause-up : goal.returns-clause-up
returns-clause-up c = up_meant

pub returns-clause-plain : goal.returns-clause-plain
returns-clause-plain c = plain_meant

pub returns-clause-made : goal.returns-clause-made
returns-clause-made c = made_meant

pub returns-clause-followed : goal.returns-clause-followed
returns-clause-followed c = followed_meant c.calls_follow.ensures.done

pub returns-clause-held : goal.returns-clause-held
returns-clause-held c = held_stays c.snapshots_stay.ensures.stays
