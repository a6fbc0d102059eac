pub mod SampleLaws
pub mod KeyLaws
pub mod Demands
pub mod Impostors
pub mod Determined
pub mod CaseLaws
