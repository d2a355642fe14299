pub mod Upto
pub mod Number
pub mod Shape
pub mod FirstLabel
pub mod Reaching
pub mod Clauses
pub mod PinCells
pub mod Meaning
