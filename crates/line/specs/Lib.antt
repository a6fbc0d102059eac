pub mod Line
pub mod Paper
pub mod Promises
pub mod Inner
pub mod Demands
pub mod Scan
