pub mod Guarding
pub mod Arriving
pub mod Placing
pub mod Deciding
pub mod Keeping
pub mod Lending
