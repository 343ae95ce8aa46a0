pub mod Inverse
pub mod Laws
pub mod Numbers
pub mod Places
pub mod WordsWere
pub mod WordLaws
pub mod Digits
