pub mod Fielding
pub mod Whole
