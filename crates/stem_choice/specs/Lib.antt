pub mod UsedStems
pub mod Choice
