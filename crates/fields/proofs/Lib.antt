pub mod PosLaws
pub mod FieldLaws
pub mod Determined
pub mod RecordLaws
pub mod CaseLaws
pub mod Demands
pub mod AltCount
pub mod PosDemands
