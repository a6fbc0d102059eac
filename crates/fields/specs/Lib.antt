pub mod Pos
pub mod Fields
pub mod Paper
pub mod Promises
pub mod Demands
