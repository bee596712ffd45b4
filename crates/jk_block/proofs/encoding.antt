-- The way of a block that is written: its planes (Slicing, Negatives), the moment of each bit of a
-- word (Timing), what is listed of a word (Coming, Remaining) in significance propagation
-- (Foreseen), magnitude refinement (Refined) and cleanup (Turned, Columned), and one pass and plane
-- after another (Planes, Written).
pub mod Behind
pub mod Columned
pub mod Coming
pub mod Each
pub mod Emptied
pub mod Foreseen
pub mod Lengths
pub mod Lighting
pub mod Listed
pub mod Negatives
pub mod Older
pub mod Planes
pub mod Propagated
pub mod Reaching
pub mod Refined
pub mod Remaining
pub mod Sheeted
pub mod Slicing
pub mod Spelled
pub mod Testing
pub mod Timing
pub mod Turned
pub mod Written
