pub mod Status
pub mod Texts
pub mod KindTexts
pub mod Ending
pub mod FileStep
pub mod SourceStep
pub mod ScriptStep
