pub use Rattle.service_desk.specs.collection_table
pub use Rattle.service_desk.specs.folder_store
pub use Rattle.service_desk.specs.secret_calls
pub use Rattle.service_desk
pub use Rattle.service_desk.specs.service_events
pub use Rattle.service_history
pub use Rattle.service_desk.specs.service_tables
pub mod Lone
