pub mod Word
pub mod Promises
