-- What was written to a log.
use Rattle.std.specs.Prelude.{◌≡◌, ◌⊎◌, ◌≤◌, ℕ, List, [], ◌∷◌, Option}
use Rattle.deployment.specs.declared.parts.Parts.{Parts}
use Rattle.outside.specs.Sink.{AppendsOrFails}
use Rattle.service_log.specs.Lines.{line_of}
use Rattle.service_log.specs.declared.event.ServiceEvent.{ServiceEvent}

-- What was written so far, where the sink tells, and how often it has failed.
pub record Log : Type 0 where
  pub written : Option (List ℕ)
  pub faults : ℕ

-- the log of these
abbrev pub log_of : Option (List ℕ) → ℕ → Log
log_of written faults = record { written = written; faults = faults }

-- A line was written: whole, or a part of it and then a fault was counted. The count never falls.
abbrev pub WritesLine : List ℕ → Log → Log → Type 0
WritesLine line old new = AppendsOrFails old.written new.written old.faults new.faults line × (old.faults ≤ new.faults)

-- The line of an event was written, or nothing where there was no memory for it.
abbrev pub LogsEvent : Parts → ServiceEvent → Log → Log → Type 0
LogsEvent parts event old new = (new ≡ old) ⊎ WritesLine (line_of parts event) old new

-- These events were told, one after another.
abbrev pub LogsEvents : Parts → List ServiceEvent → Log → Log → Type 0
LogsEvents parts [] old new = new ≡ old
LogsEvents parts (event ∷ events) old new =
    (between : Log) × LogsEvent parts event old between × LogsEvents parts events between new
