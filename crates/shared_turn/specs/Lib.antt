pub mod Passes
pub mod Places
pub mod Rule
pub mod Seats
pub mod Shares
pub mod Steps
