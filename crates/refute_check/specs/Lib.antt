pub mod Held
pub mod Kept
pub mod Hints
pub mod Known
pub mod Check
pub mod Cost
pub mod Judging
pub mod Taken
