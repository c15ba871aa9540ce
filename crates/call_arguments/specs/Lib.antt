pub mod Arguments
pub mod Fronts
