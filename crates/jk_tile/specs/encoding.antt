-- The way of a tile that is written: samples become coefficients (Forward), these have exponents
-- (Needs) and code-blocks with their tables (TileWritten), and the packets are made of the tables
-- in their order (PacketsWritten; TileWriters: what is kept on the way). Fronts: what the first
-- layers of it mean. Strips: code-blocks that are coded as the rows of their sub-band come, Layered:
-- these before exponents are known, and Ahead: these where workers code them side by side before.
pub mod Forward
pub mod Needs
pub mod TileWritten
pub mod PacketsWritten
pub mod TileWriters
pub mod Fronts
pub mod Layered
pub mod Ahead
pub mod Strips
pub mod LateTables
pub mod FallenComponents
pub mod FallingComponents
pub mod TilesFrom
pub mod FallenTiles
pub mod FallingTiles
pub mod Sinks
