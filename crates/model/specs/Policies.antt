-- 01, 'The policies'.
pub mod Greedy
pub mod PG
pub mod Rule
pub mod MF
pub mod Plan
