pub mod Registers
pub mod FunctionCode
pub mod WordStep
pub mod Table
