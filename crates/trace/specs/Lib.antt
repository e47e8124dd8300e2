pub mod Checked
pub mod Fitting
