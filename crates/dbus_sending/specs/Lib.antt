pub mod Sent
pub mod HeaderViews
