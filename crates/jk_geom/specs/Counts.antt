-- How many packets a tile has (T.800 B.6, B.9).
use Rattle.std.specs.Prelude.{ℕ, zero, suc, ◌+◌, ◌*◌, List, sum_by}
use Rattle.jk_math.specs.declared.rect.Rect.{Rect}
use Rattle.jk_marks.specs.declared.coding.Coding.{Coding}
use Rattle.jk_geom.specs.TileShapes.{coding_of}
use Rattle.jk_geom.specs.Precincts.{precinct_number}

-- how many precincts the resolutions below r have
unfoldable pub precincts_below : Rect → Coding → ℕ → ℕ
precincts_below a k zero = 0
precincts_below a k (suc r) = precincts_below a k r + precinct_number a k r

-- how many precincts the components before c have
unfoldable pub precincts_before : Rect → List Coding → ℕ → ℕ
precincts_before a codings zero = 0
precincts_before a codings (suc c) = precincts_before a codings c
    + precincts_below a (coding_of codings c) ((coding_of codings c).levels + 1)

-- one packet for each layer of each precinct of each component
unfoldable pub packet_number : Rect → (layers : ℕ) → List Coding → ℕ
packet_number a layers codings = layers * sum_by (λ (k : Coding). precincts_below a k (k.levels + 1)) codings
