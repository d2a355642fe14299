pub mod RunOrder
pub mod Running
pub mod PlacedFiles
pub mod ReadingBack
pub mod Placed
