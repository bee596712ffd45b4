-- The way of a level that climbs row by row: two rows are held (Held), and further ones are woven
-- of rows of its four parts (PartRows); it takes so many for so many samples (Intervals), stands in
-- order between two steps (Standing), and levels stand one over another (Stack).
pub mod Intervals
pub mod Held
pub mod PartRows
pub mod Standing
pub mod Stack
