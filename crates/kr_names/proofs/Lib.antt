pub mod TextLemmas
pub mod EscapeLemmas
pub mod NumberLemmas
pub mod PathLemmas
pub mod NameLemmas
mod NamingLemmas
