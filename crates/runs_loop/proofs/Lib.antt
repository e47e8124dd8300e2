pub mod Going
pub mod Lists
pub mod Queueing
