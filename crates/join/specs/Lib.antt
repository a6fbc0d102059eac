pub mod Paper
pub mod Join
pub mod Inner
pub mod Promises
pub mod Demands
