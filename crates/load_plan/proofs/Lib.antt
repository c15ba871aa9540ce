pub mod PartLemmas
pub mod PlanLemmas
pub mod SendingLemmas
mod AnsweredLemmas
