mod KeyLemmas
mod RowLemmas
