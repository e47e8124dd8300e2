-- Laws on plain values, for the proofs of this crate and of lab.
pub mod Chain
pub mod Tables
pub mod Spoken
pub mod Pairs
