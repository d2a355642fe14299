pub mod Assignment
pub mod Kept
