-- Laws on plain values, for the proofs of this crate.
pub mod Audits
pub mod Hearing
pub mod Answering
pub mod Telling
pub mod Reading
