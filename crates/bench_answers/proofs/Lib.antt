mod Streaming
mod Replying
mod OtherFiles
pub mod ReadBack
