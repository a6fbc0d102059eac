pub mod Paper
pub mod Entries
pub mod Promises
pub mod Inner
