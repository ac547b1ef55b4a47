pub mod Bytes
pub mod Formats
pub mod Laws
pub mod Hex
pub mod Words
