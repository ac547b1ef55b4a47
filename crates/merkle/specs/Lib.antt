pub mod Lengths
pub mod Nodes
pub mod Paths
pub mod Decisions
pub mod Files
pub mod Wholes
