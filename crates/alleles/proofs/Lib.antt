pub mod FillLaws
pub mod Demands
pub mod RowLoops
pub mod WriteLaws
pub mod EndToEnd
pub mod Determined
