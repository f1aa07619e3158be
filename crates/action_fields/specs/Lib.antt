pub mod Asked
pub mod Names
pub mod Reading
pub mod Said
pub mod Table
