pub mod Window
pub mod Step
pub mod Guarded
pub mod Lent
pub mod Places
pub mod Run
pub mod Calls
