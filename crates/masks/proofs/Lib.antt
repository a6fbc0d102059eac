pub mod BitLaws
pub mod MaskLaws
pub mod WeightLaws
pub mod Determined
