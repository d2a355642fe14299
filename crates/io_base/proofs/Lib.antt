pub mod LoadSteps
pub mod SinkSteps
