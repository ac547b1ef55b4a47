pub mod Laws
pub mod Messages
pub mod Sheets
pub mod Sound
pub mod Statements
pub mod Words
