pub mod Heads
pub mod Readings
pub mod Cuts
pub mod Fronts
pub mod Exact
pub mod Ends
pub mod Layouts
pub mod HeaderLemmas
