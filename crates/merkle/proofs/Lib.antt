pub mod Leaves
pub mod Growing
pub mod Folds
pub mod Checks
pub mod Inner
pub mod Steps
pub mod Walks
