pub mod KdfLemmas
