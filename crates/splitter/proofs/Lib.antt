pub mod EndLaws
pub mod TabLaws
pub mod ColumnLaws
pub mod PlaceLaws
pub mod JudgeLaws
pub mod SplitLaws
pub mod Determined
pub mod Demands
