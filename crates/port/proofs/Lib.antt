pub mod Padded
pub mod Holding
pub mod Whole
pub mod Parts
pub mod Calls
pub mod Choices
pub mod Queues
