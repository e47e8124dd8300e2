-- What our programs write: the text of an answer, and what a function that writes leaves in the list lent to it.
pub mod Output
pub mod Said
pub mod Writing
