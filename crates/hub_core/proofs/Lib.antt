pub mod ReportLemmas
pub mod StateLemmas
