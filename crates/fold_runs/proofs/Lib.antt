mod Repeats
mod Disks
mod Placed
