pub mod Cures
pub mod Plans
pub mod Instances
pub mod Chains
pub mod Pool
pub mod Journal
