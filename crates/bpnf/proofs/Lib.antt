pub mod GrammarLaws
pub mod LetterLaws
pub mod ImageLength
pub mod NothingElseIsAllowed
pub mod PrintedLaws
pub mod ReadLaws
pub mod ReadingIsAllowed
