-- The way of a level that climbs row by row: a row is lifted between two (LiftedRows), what is
-- given is put together (Given), a row is woven (WovenParts), so many rows are taken (Taking), a
-- level steps (Steps), and all levels do (Stacking).
pub mod LiftedRows
pub mod Given
pub mod WovenParts
pub mod Taking
pub mod Steps
pub mod Stacking
