pub mod Ordering
pub mod Closed
pub mod Demands
pub mod Paper
pub mod Answers
pub mod Promises
pub mod Inner
