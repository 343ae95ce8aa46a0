mod After
mod Merging
mod Recovering
mod Learning
mod Stepping
mod Whole
mod Restored
