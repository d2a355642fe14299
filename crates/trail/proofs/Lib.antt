pub mod Signs
pub mod Order
pub mod Levels
pub mod Changes
pub mod Ends
