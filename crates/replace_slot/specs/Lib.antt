pub mod Cell
pub mod Found
