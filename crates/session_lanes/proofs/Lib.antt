pub mod Beginning
pub mod CallsEnd
pub mod Counting
pub mod Ending
mod Going
pub mod HeardBy
pub mod Histories
pub mod Keeping
pub mod LaneLists
pub mod LanesStay
pub mod SpentPasses
mod StayingNew
pub mod StepCases
pub mod Storing
pub mod Turning
