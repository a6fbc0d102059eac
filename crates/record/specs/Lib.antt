pub mod Ending
pub mod Place
pub mod Paper
pub mod Promises
pub mod Demands
