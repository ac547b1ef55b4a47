pub mod Halves
pub mod Trees
pub mod Files
pub mod Digests
pub mod Collisions
