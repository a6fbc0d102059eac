pub mod Layout
pub mod Paper
pub mod Reading
pub mod Writing
pub mod Inner
pub mod Promises
pub mod Demands
pub mod EndToEnd
