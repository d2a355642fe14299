pub mod Targets
pub mod Labels
pub mod Valid
pub mod Microwords
pub mod Graph
pub mod Order
