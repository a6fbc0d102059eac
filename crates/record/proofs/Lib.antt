pub mod EndingLaws
pub mod NumberLaws
pub mod SpanLaws
pub mod FieldLaws
pub mod Determined
pub mod Size
