-- The way of a level that falls row by row: a row is lifted between two (Lowered), its parts are
-- handed out (Giving), so far as rows were given (Making), others are held (Standing), rows are cut
-- out of a list (Taken), a rectangle has no columns (Thin), all levels stand one under another
-- (Stacked), and depend on what they were given alone (Alone).
pub mod Lowered
pub mod Giving
pub mod Making
pub mod Standing
pub mod Taken
pub mod Stacked
pub mod Thin
pub mod Alone
