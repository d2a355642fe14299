pub mod ScriptLaw
pub mod SettingLists
pub mod GivenSettings
pub mod WordLimit
pub mod TraceDigits
pub mod ScriptFits
