pub mod Naming
pub mod Parsing
pub mod Lining
pub mod Tabling
pub mod Telling
pub mod Turning
pub mod Finishing
pub mod Whole
