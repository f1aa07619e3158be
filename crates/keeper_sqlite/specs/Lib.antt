pub mod Faults
pub mod RowsTable
