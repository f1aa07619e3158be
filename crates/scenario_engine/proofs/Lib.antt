pub mod Entered
pub mod BricksKept
pub mod Calls
pub mod Committing
mod Continuing
pub mod Deciding
pub mod Giving
pub mod Going
pub mod Handing
mod HeardAll
mod HeardSteps
mod HeardTurns
pub mod Keeping
mod Followed
mod Leading
pub mod Meant
pub mod Numbering
pub mod OfSite
mod Onward
mod Pausing
pub mod Rebooting
mod ReportLines
mod Reported
pub mod Requesting
pub mod SeatChanges
pub mod SeatRows
pub mod SeatsFit
mod SeatsHold
pub mod SeatsLead
pub mod SeatsStand
mod ServedLines
mod ServedSteps
mod ServedTurns
pub mod SessionSerials
pub mod Soundness
mod Standing
pub mod Starting
pub mod Stepping
mod StepReports
pub mod StepsMade
pub mod Telling
pub mod TellingCalls
pub mod Turns
pub mod Unkept
mod RunsCounted
mod RunsLeft
mod Writing
pub mod Rising
pub mod UnderWay
pub mod Unhanded
pub mod Beginning
