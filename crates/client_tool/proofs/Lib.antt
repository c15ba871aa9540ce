pub mod TookLemmas
pub mod LineLemmas
pub mod SecretLemmas
pub mod GreetingLemmas
pub mod TalkingLemmas
pub mod RunningLemmas
