pub mod Counting
pub mod Totalling
