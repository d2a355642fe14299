pub mod TextLemmas
pub mod LinesText
pub mod WordLemmas
pub mod MarkLemmas
pub mod RightLemmas
pub mod PieceLaws
pub mod NumeralLemmas
pub mod PrintedLemmas
