-- The way of a tile that is read: its packets are gathered by precinct, their bodies by code-block
-- (Gathered), each code-block has its coefficients, and a part of a component the values of these
-- (TileReading: what is answered; TileSources, Source: what stands in memory on the way).
pub mod Gathered
pub mod TileReading
pub mod Source
pub mod Decoded
pub mod TileSources
pub mod Strips
