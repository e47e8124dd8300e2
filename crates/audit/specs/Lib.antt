pub mod Rows
pub mod Sweep
