pub mod Paper
pub mod Decimal
pub mod Shortest
pub mod Promises
pub mod Inner
pub mod Demands
