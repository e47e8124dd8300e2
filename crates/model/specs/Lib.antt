-- What a reader must believe: the definitions of 01, a file to a section.
pub mod Numbers
pub mod Limits
pub mod Packets
pub mod Record
pub mod Lent
pub mod Course
pub mod Policies
pub mod Rules
pub mod Totals
pub mod Refusals
pub mod Answers
pub mod Port
pub mod Calls
pub mod ByHand
pub mod Idle
