pub mod Info
pub mod Find
pub mod Value
pub mod Paper
pub mod Told
pub mod Promises
pub mod Inner
pub mod Demands
