-- 01, 'The bench program': lines of numbers under a header.
pub mod Lines
pub mod Input
pub mod Table
pub mod Reading
pub mod Whole
