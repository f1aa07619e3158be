-- The calls of a link that a connection made.
use Rattle.std.specs.Prelude.{◌≡◌, List, ◌∷◌, ◌++◌, All}
use Rattle.outside.specs.declared.link.LinkEvent.{LinkEvent}
use Rattle.request_visit.specs.Sessions.{MakesAmong}

-- A call is one of these. Between which states of the link it was made is left out.
abbrev pub HeardIn : List LinkEvent → Unit {0} → LinkEvent → Unit {0} → Type 0
HeardIn heard old call new = (before : List LinkEvent) × (behind : List LinkEvent) × (heard ≡ before ++ call ∷ behind)

-- each of these is a call that the link makes, from some state of it to some other
abbrev pub AreCallsOf : {L : Type 0} → (L → LinkEvent → L → Type 0) → List LinkEvent → Type 0
AreCallsOf calls heard = All (λ (call : LinkEvent). MakesAmong calls tt call tt) heard
