pub mod Words
pub mod Settings
pub mod SettingSteps
pub mod Script
pub mod ScriptView
pub mod ScriptFits
pub mod ScriptSteps
pub mod TraceLine
