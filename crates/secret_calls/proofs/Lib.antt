mod AliasLemmas
pub mod LengthLemmas
pub mod PathLemmas
pub mod SecretLemmas
pub mod SerialLemmas
pub mod SignalLemmas
pub mod SizeLemmas
