pub mod Marked
pub mod Ready
