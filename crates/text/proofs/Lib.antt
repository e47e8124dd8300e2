pub mod Policies
pub mod Saying
pub mod Whole
