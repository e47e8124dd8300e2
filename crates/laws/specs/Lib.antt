-- What contracts and other definitions say of traces, runs and records beside model's own words.
pub mod Times
pub mod Recorded
pub mod WellFormed
pub mod MostQueue
pub mod AtOnce
pub mod Accepted
