pub mod AliasLemmas
pub mod EffectLemmas
pub mod LeadsLemmas
pub mod LockLemmas
pub mod PassLemmas
pub mod SaidLemmas
pub mod SessionLemmas
