pub mod Form
pub mod Paper
pub mod Promises
pub mod Inner
pub mod Demands
