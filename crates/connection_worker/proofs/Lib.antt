pub mod AnswerLemmas
mod BesideLemmas
mod CallLemmas
pub mod DeliveryLemmas
mod FitLemmas
mod GiveLemmas
mod HandshakeLemmas
mod KeyLemmas
mod LineLemmas
mod MessageLemmas
mod ReaderLemmas
mod RecordLemmas
mod ReplyLemmas
mod SendingLemmas
mod SentLemmas
mod ServeLemmas
mod ServingLemmas
mod SideLemmas
mod SingleLemmas
mod SizeLemmas
mod StreamLemmas
mod TakenLemmas
pub mod WholeLemmas
mod WriterLemmas
