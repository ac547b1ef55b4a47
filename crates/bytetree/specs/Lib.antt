pub mod Pieces
pub mod ByteTree
pub mod Collision
pub mod Image
