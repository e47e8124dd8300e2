pub mod Ordering
pub mod Merging
pub mod One
