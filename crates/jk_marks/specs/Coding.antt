-- How a component of a tile is coded (T.800 A.6.1, tables A.15 and A.21).
use Rattle.std.specs.Prelude.{◌≡◌, ℕ, ◌+◌, ◌<◌, ◌≤◌, length, slice_index_or}
use Rattle.jk_marks.specs.declared.coding.Coding.{Coding}

-- the exponents PPx and PPy of the precincts of resolution r
abbrev pub precinct_size : Coding → ℕ → ℕ × ℕ
precinct_size k r = slice_index_or k.precincts r (0, 0)

-- What T.800 and the profile ask of a coding: a precinct size for each resolution, with 0 only at
-- the lowest.
pub record IsCoding (k : Coding) : Type 0 where
  pub levels : k.levels ≤ 10
  pub narrow : 2 ≤ k.xcb
  pub wide : k.xcb ≤ 10
  pub low : 2 ≤ k.ycb
  pub high : k.ycb ≤ 10
  pub area : k.xcb + k.ycb ≤ 12
  pub count : length k.precincts ≡ k.levels + 1
  pub small : (r : ℕ) → r ≤ k.levels → ((precinct_size k r).0 < 16) × ((precinct_size k r).1 < 16)
  pub whole : (r : ℕ) → 0 < r → r ≤ k.levels → (0 < (precinct_size k r).0) × (0 < (precinct_size k r).1)
