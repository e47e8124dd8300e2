-- Laws on plain values, for the proofs of this crate.
pub mod Wording
pub mod Asking
pub mod Listing
pub mod Shapes
