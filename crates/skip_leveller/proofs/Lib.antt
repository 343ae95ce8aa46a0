pub mod LevellingLemmas
mod LevellingRows
