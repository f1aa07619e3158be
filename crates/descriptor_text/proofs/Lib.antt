pub mod Gathering
pub mod Exactness
pub mod Firsts
