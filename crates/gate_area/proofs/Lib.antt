pub mod Heads
pub mod Moments
pub mod Pages
pub mod Pairs
pub mod Phases
pub mod Placing
pub mod Renewals
pub mod Surveys
