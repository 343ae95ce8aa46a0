pub mod Scheduled
