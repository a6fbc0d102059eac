pub mod Told
pub mod Places
pub mod Promises
