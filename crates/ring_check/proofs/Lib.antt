pub mod JudgeLemmas
pub mod LineLemmas
pub mod TimeLemmas
pub mod LookLemmas
pub mod BatchLemmas
pub mod FindsLemmas
pub mod WalkLemmas
pub mod EndLemmas
