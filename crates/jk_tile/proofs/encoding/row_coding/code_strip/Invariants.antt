use Rattle.std.proofs.Common.{◌≡◌, ◌<◌, ◌≤◌, ◌⊎◌, ◌++◌, ℕ, length}
use Rattle.jk_math.specs.Lists.{list_at}
use Rattle.jk_math.specs.Raster.{plane_at}
use Rattle.jk_tile.specs.encoding.Strips.{layered_between}
use Rattle.jk_tile.specs.encoding.Ahead.{IsCodedAhead}
use Rattle.jk_tile.proofs.encoding.row_coding.code_strip.Given as goal

-- the precincts from the first one of the row up to this one are done
abbrev pub invariant-loop-n : goal.invariant-loop-n
invariant-loop-n l = record {
  count : length l.coded.items ≡ length l.fn.coded.items;
  done : (m : ℕ) → l.first ≤ m → m < l.n → list_at l.coded.items m
      ≡ list_at l.fn.coded.items m ++ layered_between l.source (λ _. plane_at l.fn.strip.area l.fn.strip.values.now) l.fn.strip.resolution m l.fn.strip.band l.fn.strip.area.y0 l.fn.strip.area.y1;
  ahead : IsCodedAhead l.ahead;
  rest : (m : ℕ) → (m < l.first) ⊎ (l.n ≤ m) → list_at l.coded.items m ≡ list_at l.fn.coded.items m;
}
