-- How long a session lasts, and when it is written anew.
use Rattle.std.specs.Prelude.{ℕ, ◌+◌, ◌-◌, nat_lt, Bool, true, false, if◌then◌else◌, List, Option, Some, None}
use Rattle.crash_base.specs.declared.numbers.Moment.{Moment}
use Rattle.session_way.specs.declared.lease.SessionLease.{SessionLease}
use Rattle.session_way.specs.declared.lease.TheConstants.{LEASE, RENEWAL}

-- the expiry of a cookie whose value is written for a request of this moment
abbrev pub expiry_at : Moment → Moment
expiry_at now = record { 0 = now.0 + LEASE }

-- whether less than RENEWAL is left of a lease at a moment
abbrev pub is_due : Moment → Moment → Bool
is_due now expiry = nat_lt (expiry.0 - now.0) RENEWAL

-- Whether a session is written after an action at a moment: where the action sets a value; and where it sets none, but
-- the session was read and its lease is due.
abbrev pub wants_write : Option (List ℕ) → Moment → Option SessionLease → Bool
wants_write (Some value) now lease = true
wants_write None now None = false
wants_write None now (Some lease) = is_due now lease.expiry

-- The value that is written after an action at a moment, if one is: the value that the action sets, and else the one
-- that was read.
abbrev pub value_to_write : Option (List ℕ) → Moment → Option SessionLease → Option (List ℕ)
value_to_write (Some value) now lease = Some value
value_to_write None now None = None
value_to_write None now (Some lease) = if is_due now lease.expiry then Some lease.value else None
