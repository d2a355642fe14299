pub mod Alphabet
pub mod Faults
pub mod Runs
pub mod Tokens
pub mod Names
pub mod Reading
pub mod Lines
pub mod LineSpans
