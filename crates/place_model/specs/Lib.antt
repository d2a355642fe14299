pub mod Cells
pub mod Legal
pub mod Faults
pub mod Pinned
pub mod MapText
