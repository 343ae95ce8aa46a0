mod Listing
mod Learning
mod Faithful
