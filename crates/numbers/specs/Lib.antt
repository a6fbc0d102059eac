pub mod Paper
pub mod Table
pub mod Ask
pub mod Promises
pub mod Demands
pub mod Inner
