-- The way of a tile that is written: its samples are cut out (Copying, TileAreas) and become
-- coefficients (Forwards) with exponents (Needing); code-blocks are coded (WrittenBlocks) and have
-- tables by layer (LayerTables) and by precinct (TileLists, TileIndex, Firsts), of which the packets
-- are made in their order (PacketsFew, WritingTile, EncodingTile). What is read of them again:
-- packets (PacketsTold), code-blocks (BlocksMeant), samples (WrittenTile, SamplesMeant), and the
-- first layers (FrontsMeant).
pub mod Copying
pub mod Forwards
pub mod WrittenRows
pub mod Needing
pub mod WrittenBlocks
pub mod LayerTables
pub mod PacketsTold
pub mod BlocksMeant
pub mod TileAreas
pub mod WrittenTile
pub mod SamplesMeant
pub mod TileLists
pub mod TileIndex
pub mod Firsts
pub mod WritingTile
pub mod PacketsFew
pub mod EncodingTile
pub mod FrontsMeant
mod BlockRows
mod StripBlocks
mod AheadLaws
mod ListsKept
mod Waiting
mod TablesLate
mod ComponentFalls
mod ComponentDone
mod TileFalls
mod MeasuredRows
pub mod TilesLate
mod Passing
