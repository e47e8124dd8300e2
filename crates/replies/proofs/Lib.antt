-- Laws on plain values of what an answer says.
pub mod Replies
