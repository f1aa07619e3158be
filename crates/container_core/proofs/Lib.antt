pub mod Laid
pub mod Kept
pub mod Raising
pub mod Opening
pub mod GoodRows
pub mod Starting
pub mod Prefixes
pub mod Loadable
