pub mod Canonical
pub mod FirstFault
pub mod Frames
pub mod Image
pub mod Reading
