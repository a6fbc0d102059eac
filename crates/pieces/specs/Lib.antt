pub mod Paper
pub mod Pieces
pub mod Before
pub mod Nth
pub mod Promises
pub mod Inner
pub mod Demands
