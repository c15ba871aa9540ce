pub mod CommandLemmas
pub mod CutLemmas
pub mod HandshakeLemmas
pub mod HexTexts
pub mod RunLemmas
pub mod StandardFacts
pub mod TableLemmas
