-- What the arguments of the lab program ask for.
pub mod Words
pub mod Jobs
