pub mod FaultLemmas
pub mod MomentLemmas
pub mod RenameDiskLemmas
pub mod WrittenLemmas
