pub mod Clear
pub mod Conversations
pub mod Lookup
pub mod Matches
pub mod Ready
pub mod Store
