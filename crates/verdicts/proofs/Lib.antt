mod AskedLine
mod Cuts
