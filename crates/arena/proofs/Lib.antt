pub mod Due
pub mod InPlace
pub mod Staying
pub mod Willing
