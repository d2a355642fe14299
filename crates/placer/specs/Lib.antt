pub mod Learning
pub mod FirstPoint
pub mod Marking
pub mod Ready
pub mod Answer
pub mod Progress
pub mod Placing
