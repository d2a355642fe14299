pub mod ChipState
pub mod FlagWord
pub mod FlagStep
