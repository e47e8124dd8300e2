-- One run as text; and 01, 'The bench program'.
pub mod Run
pub mod Bench
pub mod Says
pub mod Whole
