pub mod Samples
pub mod Keys
pub mod Paper
pub mod Promises
pub mod Inner
pub mod Demands
