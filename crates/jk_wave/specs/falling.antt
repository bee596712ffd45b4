-- The way of a level that falls row by row: rows of samples are held (Held), rows of its four parts
-- are made, so far as it was given rows (Intervals), and levels stand one under another (Stack).
pub mod Intervals
pub mod Held
pub mod Stack
