pub mod Codes
pub mod Parts
pub mod Microword
pub mod Images
pub mod SavedBits
pub mod Joining
