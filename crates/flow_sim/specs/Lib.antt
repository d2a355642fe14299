pub mod Machine
pub mod Flow
pub mod TraceText
pub mod Runs
