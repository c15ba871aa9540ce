mod TextLemmas
mod FitLemmas
mod SentLemmas
mod ReadLemmas
mod ReplyLemmas
mod AnswerLemmas
mod AskableLemmas
mod SignalLemmas
