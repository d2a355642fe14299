pub mod JumpLemmas
pub mod LegalLemmas
pub mod PinLemmas
pub mod LineLemmas
