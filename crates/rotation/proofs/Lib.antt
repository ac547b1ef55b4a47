pub mod Changes
pub mod Fairness
pub mod InRow
