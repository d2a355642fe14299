pub mod DigitValues
pub mod LineCuts
pub mod NamedRuns
pub mod Scan
pub mod Steps
