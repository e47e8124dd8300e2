pub mod Search
pub mod Loser
pub mod Choose
pub mod Told
pub mod Moving
pub mod Packets
