pub use Rattle.secret_calls
pub mod Boxes
pub mod Outboxes
pub mod Sent
