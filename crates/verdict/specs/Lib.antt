pub mod Examples
pub mod Rules
pub mod Stations
pub mod Theorems
pub mod Verdict
