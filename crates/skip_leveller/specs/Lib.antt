pub mod Levelling
