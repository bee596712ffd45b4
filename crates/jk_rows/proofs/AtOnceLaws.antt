-- A tile that is made at once: its samples, and some rows of them.
use Rattle.std.proofs.Common.{◌≡◌, ℕ, ◌-◌, ◌*◌, ◌≤◌, ◌<◌, ℤ, List, [], length, map, take, drop, sym, ◌∙◌, Ok, arith}
use Rattle.std.specs.List.{range_with_len}
use Rattle.std.specs.Global.{Vec}
use Rattle.std.proofs.lemmas.List.{ext_get_or}
use Rattle.std.proofs.lemmas.List.FromFn.{length-map-range_with_len, get_or-map-range_with_len}
use Rattle.jk_math.specs.Lists.{lists_of, list_at}
use Rattle.jk_math.specs.Raster.{raster, columns_of}
use Rattle.jk_math.specs.declared.rect.Rect.{Rect}
use Rattle.jk_wave.specs.climbing.Held.{rows_between}
use Rattle.jk_wave.proofs.Laws.{cut_rows}
use Rattle.jk_tile.specs.decoding.TileReading.{tile_planes_at}
use Rattle.jk_tile.specs.decoding.TileSources.{TileSource}
use Rattle.jk_tile.proofs.Laws.{rasters, lists_count, list_is, tile_tested, tested_ok}
use Rattle.jk_rows.specs.Tiles.{AreTilePlanes}

-- what is decoded are its samples
pub tile_planes : (t : TileSource) (v : List (Vec ℤ)) → tile_planes_at t.bytes t.headers t.number t.reduce t.packets ≡ Ok (lists_of v) → AreTilePlanes t v
tile_planes t v is = record {
  samples = (tile_tested t.bytes t.headers t.number t.reduce t.packets (lists_of v) is).1;
  fine = tested_ok (tile_planes_at t.bytes t.headers t.number t.reduce t.packets) (lists_of v) is;
}

-- rows that were cut out of each plane
pub rows_cut : (a : Rect) (p q front count n : ℕ) (f : ℕ → ℕ → ℕ → ℤ) (planes : List (Vec ℤ)) → a.y0 ≤ p → p ≤ q → q ≤ a.y1 → front ≡ (p - a.y0) * columns_of a → count ≡ (q - p) * columns_of a → lists_of planes ≡ rasters a f n
    → map (λ c. take count (drop front (list_at planes c))) (range_with_len 0 (length planes)) ≡ map (λ c. raster (rows_between a p q) (f c)) (range_with_len 0 n)
rows_cut a p q front count n f planes low order high front_is count_is are =
    let g : ℕ → List ℤ = λ c. take count (drop front (list_at planes c)) in
    let h : ℕ → List ℤ = λ c. raster (rows_between a p q) (f c) in
    let few = lists_count a f n planes are in
    let long : length (map g (range_with_len 0 (length planes))) ≡ length (map h (range_with_len 0 n)) = length-map-range_with_len g 0 (length planes) ∙ few ∙ sym (length-map-range_with_len h 0 n) in
    ext_get_or [] (map g (range_with_len 0 (length planes))) (map h (range_with_len 0 n)) long (λ c lt.
    let less : c < length planes = omega (arith, lt, length-map-range_with_len g 0 (length planes)) in
    let below : c < n = omega (arith, less, few) in
    get_or-map-range_with_len g 0 (length planes) c c [] less (omega arith)
    ∙ cut_rows a p q front count (f c) (list_at planes c) low order high (list_is a f n c planes are below) front_is count_is
    ∙ sym (get_or-map-range_with_len h 0 n c c [] below (omega arith)))
