use Rattle.std.proofs.Common.{◌≡◌, ◌<◌, ◌≤◌, ℕ, drop, get_or, length}
use Rattle.std.specs.Global.{Vec}
use Rattle.jk_math.specs.Lists.{lists_of}
use Rattle.jk_math.specs.Picture.{Picture}
use Rattle.jk_packet.specs.Written.{Table}
use Rattle.jk_code.specs.ComingRows.{tiles_coming, AreCoded, lists_coming}
use Rattle.jk_code.proofs.tabled.all_tables.Given as goal

-- the tables of the tiles before
abbrev pub invariant-loop-tile : goal.invariant-loop-tile
invariant-loop-tile l = record {
  few : length l.tables.items ≤ length l.fn.tiles.items;
  left : l.tile-iterator.rest.items ≡ drop (length l.tables.items) l.fn.tiles.items;
  tables : (p : Picture) → AreCoded l.coming (tiles_coming l.coming) p l.fn.tiles.items → (t : ℕ) (other : Vec (Vec Table)) → t < length l.tables.items
      → lists_of (get_or l.tables.items t other).items ≡ lists_coming l.coming l.coding p t;
}
