-- Laws on plain values, for the proofs of this crate and of those that go on after the test.
pub mod Laws
pub mod Fitting
