-- Laws on plain values, for the proofs of this crate.
pub mod Fates
pub mod UpTo
pub mod Counts
pub mod Held
pub mod Faults
pub mod Kept
pub mod Turn
pub mod Answer
