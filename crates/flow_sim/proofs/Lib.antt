pub mod FlagBits
pub mod OrderFits
pub mod TextSteps
pub mod StartFits
