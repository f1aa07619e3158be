mod BehindEvents
pub mod Begins
mod GoneAlone
mod EventCalls
mod Faults
pub mod Functions
mod Gone
mod Sounding
mod Stepping
mod Windows
mod AnswerStays
mod AnsweringSteps
mod GoneSaid
mod InsideSaid
mod OwnSaid
mod PassesSaid
mod RequestSaid
mod Visiting
mod MadeSteps
