pub mod SavedFile
pub mod FileNames
pub mod FilesOfAnswers
pub mod OneFile
pub mod Saving
pub mod Unsaved
