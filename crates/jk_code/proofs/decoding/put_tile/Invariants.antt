use Rattle.jk_code.specs.Tiles.{ArePlanes, KeepsSamples, ShowsTileAt}
use Rattle.jk_code.proofs.decoding.put_tile.Given as goal

abbrev pub invariant-loop-c : goal.invariant-loop-c
invariant-loop-c l = record {
  planes : ArePlanes l.tile.headers l.area l.planes.items;
  keeps : KeepsSamples l.tile.bytes l.tile.headers l.tile.reduce l.area l.fn.planes.items l.planes.items;
  shows : ShowsTileAt l.tile.bytes l.tile.headers l.tile.reduce l.area l.tile.number l.c l.planes.items;
}
