-- The way of a block that is read: bytes give decisions, decisions the bits of a sketch, place by
-- place, and the sketch the block. Here stands what a sketch shows of it. The definition of what is
-- read is `Reading`, beside this wing.
pub mod BlockStates
pub mod Sights
pub mod Eights
pub mod Laid
