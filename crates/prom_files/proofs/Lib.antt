pub mod ImageSteps
pub mod JoinSteps
