pub mod Announcing
pub mod Asks
pub mod Completions
pub mod Delivery
pub mod Secrets
