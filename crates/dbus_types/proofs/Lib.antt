pub mod Views
pub mod ValueViews
pub mod SignatureLaws
pub mod SignatureReading
pub mod KnownLemmas
