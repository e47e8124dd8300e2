-- Laws on plain values, for the proofs of this crate and of those that write by it.
pub mod Writing
pub mod Said
pub mod Putting
