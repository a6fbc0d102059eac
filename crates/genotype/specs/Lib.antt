pub mod Paper
pub mod Answers
pub mod Promises
pub mod Inner
pub mod Demands
