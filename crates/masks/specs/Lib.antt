pub mod Mask
pub mod Promises
pub mod Inner
