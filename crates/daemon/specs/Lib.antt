pub use Rattle.connection_worker.specs.call_wire
pub use Rattle.connection_worker
pub mod Accepts
pub mod Hubs
pub mod Jobs
pub mod Spawners
