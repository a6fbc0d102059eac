pub mod Read
pub mod Write
pub mod Promises
pub mod Demands
pub mod EndToEnd
