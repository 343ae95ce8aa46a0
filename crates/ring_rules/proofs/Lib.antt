pub mod Coordinating
pub mod Starting
pub mod Others
pub mod Rounds
pub mod Ruling
pub mod Apart
pub mod Rules
