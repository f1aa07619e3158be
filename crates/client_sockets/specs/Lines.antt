-- What one wait for a client gave.
use Rattle.std.specs.Prelude.{◌<◌, ◌≤◌, ℕ, ⊤}
use Rattle.client_sockets.specs.declared.line.Got.{Got}
use Rattle.client_sockets.specs.declared.line.Put.{Put}

-- No more bytes came than there is room for.
abbrev pub GotWithin : ℕ → Got → Type 0
GotWithin room (Got.Bytes count) = count ≤ room
GotWithin room Got.Nothing = ⊤
GotWithin room Got.Failed = ⊤

-- Where some bytes were taken, these are no more than were given.
abbrev pub PutSome : ℕ → Put → Type 0
PutSome given (Put.Bytes count) = (0 < count) × (count ≤ given)
PutSome given Put.Nothing = ⊤
PutSome given Put.Failed = ⊤
