pub mod Position
pub mod JumpWord
pub mod Readings
pub mod CodeName
pub mod NextAddress
pub mod Landing
pub mod OneJump
