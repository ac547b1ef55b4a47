pub mod Fairness
pub mod Seats
