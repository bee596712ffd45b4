-- The packets of a tile of whose precincts the first layers are kept are packets of the tile again.
use Rattle.std.proofs.Common.{ℕ, Bool, List, map, sym, ap, ◌∙◌, subst}
use Rattle.jk_geom.specs.declared.shape.TileShape.{TileShape}
use Rattle.jk_order.specs.PacketOrder.{IsPacketOrder}
use Rattle.jk_walk.specs.TilePackets.{Packet, IsTile}
use Rattle.jk_window.specs.Emptied.{kept_packet, emptied_run, run_text, of_fronts}
use Rattle.jk_window.proofs.EmptiedLaws.{tile_bits}
use Rattle.jk_window.proofs.KeptPackets.{names_kept, texts_kept, runs_kept, texts_of}
use Rattle.jk_window.proofs.PrecinctAgain.{front_told}

pub tile_again : (s : TileShape) (sop eph : Bool) (packets : List Packet) (parts : List (List ℕ)) (fronts : ℕ → ℕ → ℕ → ℕ) (tile : IsTile s sop eph packets parts)
    → IsTile s sop eph (emptied_run (of_fronts fronts) sop eph packets) (map (λ run. run_text (emptied_run (of_fronts fronts) sop eph run)) tile.runs)
tile_again s sop eph packets parts fronts tile =
    let f = kept_packet (of_fronts fronts) sop eph in
    record {
      order = subst (IsPacketOrder s) (sym (names_kept (of_fronts fronts) sop eph packets)) tile.order;
      texts = texts_kept (of_fronts fronts) sop eph packets tile.texts (tile_bits s sop eph packets parts tile);
      told = λ c r k is. front_told s sop eph packets fronts c r k _ tile.order is (tile.told c r k is);
      runs = map (map f) tile.runs;
      whole = runs_kept f tile.runs ∙ ap (map f) tile.whole;
      cut = texts_of f tile.runs;
    }
