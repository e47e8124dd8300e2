pub mod Choose
pub mod Slide
