-- The way of a block that is written: its magnitudes in slices, the words of a bit-plane out of
-- slices, what words show at a moment, and decisions in bytes. The definition of what is written is
-- `BlockWritten`, beside this wing.
pub mod Slices
pub mod Viewed
pub mod Reached
pub mod Sheets
