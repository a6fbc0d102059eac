pub mod RowLaws
pub mod AskLaws
pub mod Asked
pub mod Lines
pub mod Determined
pub mod Demands
