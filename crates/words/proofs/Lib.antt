pub mod WordLaws
pub mod FindLaws
pub mod Determined
