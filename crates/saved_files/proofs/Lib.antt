pub mod OneFileLemmas
pub mod SavingLemmas
pub mod OneFileIsSaved
pub mod ComposingStates
pub mod FileNameLemmas
pub mod StandingFiles
