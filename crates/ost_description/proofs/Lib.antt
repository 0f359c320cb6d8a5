mod Examples
pub mod PartLemmas
pub mod LineLemmas
pub mod Headings
pub mod Judging
pub mod Cuts
pub mod PartTexts
pub mod ReadBack
