pub mod Flushing
pub mod Ending
pub mod Finishing
pub mod Leaving
