pub mod Clock
pub mod Links
pub mod Plan
pub mod Sink
pub mod Source
