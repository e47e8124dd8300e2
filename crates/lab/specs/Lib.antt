-- The lab program: what it says of a job and its input.
pub mod Audit
pub mod Heard
pub mod Answer
pub mod Told
