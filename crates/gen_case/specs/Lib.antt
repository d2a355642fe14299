pub mod Draws
pub mod Choices
pub mod Labels
pub mod SourceText
pub mod ScriptText
pub mod CaseProgram
pub mod CaseScript
pub mod FlowSum
