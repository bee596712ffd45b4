-- The way of a block that is read: a pass is stripes and a stripe is words (Stripes, Rests), and of
-- a word so much is read (Going) by significance propagation (Spreading), magnitude refinement
-- (Refining) and cleanup (Leaving, Cleaning). Each call takes a step of the definition (Taking).
pub mod Aging
pub mod Cleaning
pub mod Eights
pub mod Freshness
pub mod ReadSoFar
pub mod Leaving
pub mod Holding
pub mod Listing
pub mod Numbers
pub mod Sighting
pub mod Refining
pub mod Rests
pub mod Spreading
pub mod Stripes
pub mod Taking
pub mod WordSteps
pub mod Writing
