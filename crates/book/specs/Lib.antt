pub mod BoardLines
pub mod Faults
pub mod Letters
pub mod Lines
pub mod Readings
pub mod Reports
pub mod Steps
pub mod Tags
