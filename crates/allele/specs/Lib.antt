pub mod Reading
pub mod Row
pub mod Slices
pub mod Paper
pub mod Promises
pub mod Means
pub mod Demands
