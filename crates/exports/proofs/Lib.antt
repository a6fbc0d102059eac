pub mod TellLaws
pub mod ToldLaws
pub mod KnownLaws
pub mod NameLaws
pub mod FormLaws
pub mod NumberLaws
pub mod Determined
