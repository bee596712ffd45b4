-- The way of a tile that is read: packets are gathered by precinct along chains (Chaining) and
-- bodies by code-block (Gathering); a code-block is read (Blocks) where a part meets it (MetBlocks).
-- A part of a tile depends on these alone (LocalTiles, PartLaws), and the whole tile is one (WholeTile);
-- it is decoded where parts that have all of it are (Covered). Code-blocks that workers decoded are
-- those of the codestream (Decoding).
pub mod Gathering
pub mod Filled
pub mod Unread
pub mod Chaining
pub mod Full
pub mod Blocks
pub mod WholeTile
pub mod LocalTiles
pub mod MetBlocks
pub mod PartLaws
pub mod Covered
pub mod StripLaws
pub mod Judged
pub mod Decoding
