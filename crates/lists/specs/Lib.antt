pub mod Kind
pub mod AlternateBases
pub mod Judge
pub mod Paper
pub mod Write
pub mod Promises
pub mod Inner
pub mod Demands
