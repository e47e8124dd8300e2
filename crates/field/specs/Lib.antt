-- 01, 'The bench program': a field.
pub mod Fields
pub mod Reading
pub mod Whole
