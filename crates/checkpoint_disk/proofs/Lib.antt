pub mod Damages
pub mod Found
pub mod Fronts
pub mod Opening
pub mod Going
pub mod Wholeness
