mod ListLemmas
mod FileLemmas
pub mod TurnLemmas
mod SizeLemmas
mod OpeningLemmas
mod RowLemmas
mod CreateLemmas
mod SearchLemmas
mod ReadLemmas
mod CountLemmas
mod WholeLemmas
mod FitLemmas
mod StreamLemmas
mod AskedLemmas
pub mod SendLemmas
mod LawLemmas
