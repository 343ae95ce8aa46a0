mod Taking
mod Found
mod Alike
mod Counts
mod Moves
