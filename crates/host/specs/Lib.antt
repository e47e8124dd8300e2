pub mod Said
pub mod Live
