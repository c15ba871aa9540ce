pub mod ErrorTexts
pub mod Addressed
pub mod BusCalls
pub mod Texts
