pub mod Splits
pub mod Spelling
pub mod Verdicts
pub mod Answering
pub mod OneCut
pub mod Showing
