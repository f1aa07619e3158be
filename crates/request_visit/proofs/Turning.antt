-- Whose turn it is, by what a session wants.
use Rattle.std.proofs.Common.{◌≡◌, refl}
use Rattle.session_way.specs.declared.way.Wants.{Wants}
use Rattle.session_way.specs.declared.way.Wants.TheVariants as wanted
use Rattle.request_visit.specs.Visits.{or_over, or_own, turn_by}
use Rattle.request_visit.specs.declared.visit.Turn.TheVariants as turns
use Rattle.request_visit.specs.declared.visit.Work.{Work}
use Rattle.request_visit.specs.declared.visit.Work.TheVariants.{Reading, Opening, Serving, Committed, Decided, Answered, Left}

own_outside : (w : Wants) → or_own w ≡ turns.Outside → w ≡ wanted.Outside
own_outside wanted.Nothing e = absurd (cc)
own_outside wanted.Outside e = refl
own_outside wanted.Windows e = absurd (cc)

over_outside : (w : Wants) → or_over w ≡ turns.Outside → w ≡ wanted.Outside
over_outside wanted.Nothing e = absurd (cc)
over_outside wanted.Outside e = refl
over_outside wanted.Windows e = absurd (cc)

pub own_windows : (w : Wants) → or_own w ≡ turns.Windows → w ≡ wanted.Windows
own_windows wanted.Nothing e = absurd (cc)
own_windows wanted.Outside e = absurd (cc)
own_windows wanted.Windows e = refl

pub over_windows : (w : Wants) → or_over w ≡ turns.Windows → w ≡ wanted.Windows
over_windows wanted.Nothing e = absurd (cc)
over_windows wanted.Outside e = absurd (cc)
over_windows wanted.Windows e = refl

pub own_nothing : (w : Wants) → or_own w ≡ turns.Own → w ≡ wanted.Nothing
own_nothing wanted.Nothing e = refl
own_nothing wanted.Outside e = absurd (cc)
own_nothing wanted.Windows e = absurd (cc)

-- the session wants the outside where it is the outside's turn
pub outside_wanted : {P : Type 0} (work : Work P) (w : Wants) → turn_by work w ≡ turns.Outside → w ≡ wanted.Outside
outside_wanted Reading w e = own_outside w e
outside_wanted Opening w e = absurd (cc)
outside_wanted (Serving tries program) w e = absurd (cc)
outside_wanted (Committed place again shown) w e = own_outside w e
outside_wanted (Decided became) w e = absurd (cc)
outside_wanted (Answered fate bytes) w e = absurd (cc)
outside_wanted (Left fate) w e = over_outside w e

-- and the windows where it is theirs
pub windows_wanted : {P : Type 0} (work : Work P) (w : Wants) → turn_by work w ≡ turns.Windows → w ≡ wanted.Windows
windows_wanted Reading w e = own_windows w e
windows_wanted Opening w e = absurd (cc)
windows_wanted (Serving tries program) w e = absurd (cc)
windows_wanted (Committed place again shown) w e = own_windows w e
windows_wanted (Decided became) w e = absurd (cc)
windows_wanted (Answered fate bytes) w e = absurd (cc)
windows_wanted (Left fate) w e = over_windows w e
