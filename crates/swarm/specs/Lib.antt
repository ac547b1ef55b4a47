pub mod Faults
pub mod Tree
pub mod Turns
pub mod Swarm
pub mod Promise
pub mod Code
pub mod Levels
pub mod Honest
