pub mod Laws
pub mod ListLaws
pub mod FieldLaws
pub mod TextLemmas
pub mod Loops
pub mod SeenLemmas
