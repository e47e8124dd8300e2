-- The table as text.
pub mod Line
pub mod Table
pub mod Writing
