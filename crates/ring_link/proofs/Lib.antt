pub mod SilenceLemmas
mod SilenceRows
