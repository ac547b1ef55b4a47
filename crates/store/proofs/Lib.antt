pub mod Form
pub mod Writing
