use Rattle.std.proofs.Common.{◌≡◌, ℕ, ◌+◌, ◌-◌, ◌<◌, ◌≤◌, ◌++◌, drop, length, map}
use Rattle.jk_math.specs.Lists.{list_at}
use Rattle.jk_tile.specs.encoding.Layered.{table_with}
use Rattle.jk_tile.proofs.encoding.late.add_band.Given as goal

-- those of the precincts before are appended
abbrev pub invariant-loop-own : goal.invariant-loop-own
invariant-loop-own l = record {
  from : l.first ≤ l.at;
  few : l.at ≤ l.first + length l.fn.blocks.items;
  rest : l.own-iterator.rest.items ≡ drop (l.at - l.first) l.fn.blocks.items;
  count : length l.tables.items ≡ length l.fn.tables.items;
  front : (m : ℕ) → m < l.first → list_at l.tables.items m ≡ list_at l.fn.tables.items m;
  done : (n : ℕ) → l.first + n < l.at → list_at l.tables.items (l.first + n) ≡ list_at l.fn.tables.items (l.first + n) ++ map (table_with l.planes) (list_at l.fn.blocks.items n);
  behind : (m : ℕ) → l.at ≤ m → list_at l.tables.items m ≡ list_at l.fn.tables.items m;
}
