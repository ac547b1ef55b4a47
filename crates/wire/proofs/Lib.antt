pub mod DescriptionForm
pub mod NumberBytes
pub mod Reading
pub mod SettingsForm
pub mod Sums
pub mod Writing
