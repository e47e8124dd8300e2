pub mod Empty
pub mod Ready
