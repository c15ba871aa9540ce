pub mod AnswerLemmas
pub mod ChangingLemmas
pub mod DerivedLemmas
pub mod FollowedLemmas
pub mod NewLemmas
