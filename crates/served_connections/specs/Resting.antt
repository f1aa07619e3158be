-- A connection that comes to rest.
use Rattle.std.specs.Prelude.{◌≡◌, ℕ, true, List, []}
use Rattle.shepherd.specs.Standing.{has_left, last_of}
use Rattle.shepherd.specs.declared.shepherd.Stage.{Stage}
use Rattle.shepherd.specs.declared.shepherd.Stage.TheVariants.{Resting, Serving, Refusing, Over}

-- no request is open, and nothing is to leave
abbrev pub Rests : {P : Type 0} → Stage P → Type 0
Rests Resting = Unit {0}
Rests (Serving v call) = ⊥
Rests (Refusing why bytes) = ⊥
Rests (Over end) = Unit {0}

-- the response of the request that is open has left, if one is open, and nothing else is to leave
abbrev pub HasLeftAll : {P : Type 0} → Stage P → Type 0
HasLeftAll Resting = Unit {0}
HasLeftAll (Serving v call) = has_left v.work ≡ true
HasLeftAll (Refusing why bytes) = ⊥
HasLeftAll (Over end) = Unit {0}

-- the last bytes that a connection has put out at its end: none where it has not ended
abbrev pub last_at : {P : Type 0} → Stage P → List ℕ
last_at Resting = []
last_at (Serving v call) = []
last_at (Refusing why bytes) = []
last_at (Over end) = last_of end
