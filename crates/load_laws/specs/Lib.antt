pub use Rattle.client_core
pub mod Made
pub mod Requests
pub mod Outputs
