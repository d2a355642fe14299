pub mod FewInstrs
pub mod LabelLemmas
pub mod OperationLemmas
pub mod ProgramLemmas
pub mod SettingLemmas
pub mod SoundLemmas
pub mod SourceLaw
