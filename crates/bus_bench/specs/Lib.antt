pub mod Chip
pub mod Matches
pub mod BadShift
pub mod Law
