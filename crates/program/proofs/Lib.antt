mod Fills
mod Names
mod Taking
