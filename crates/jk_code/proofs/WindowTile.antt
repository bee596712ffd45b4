-- A tile of the file of a window: it is decoded where the stored tile is, to the same samples in the window.
use Rattle.std.proofs.Common.{◌≡◌, ℕ, ◌+◌, ◌<◌, ◌≤◌, Bool, true, false, cond, List, [], length, Option, Some, None, ℤ, refl, sym, ap, ◌∙◌, subst, arith}
use Rattle.std.specs.List.{AllByRecursion}
use Rattle.jk_math.specs.Steps.{ok_is}
use Rattle.jk_math.specs.declared.rect.Rect.{Rect}
use Rattle.jk_marks.specs.declared.coding.Coding.{Coding}
use Rattle.jk_marks.specs.Siz.{tile_count}
use Rattle.jk_geom.specs.Rectangles.{IsWithin, tile_area}
use Rattle.jk_geom.specs.Precincts.{precinct_number}
use Rattle.jk_geom.specs.Partitions.{block_number}
use Rattle.jk_geom.specs.TileShapes.{coding_of}
use Rattle.jk_params.specs.Headers.{Headers, tile_in, AreHeaders}
use Rattle.jk_walk.specs.declared.places.PacketPlace.{PacketPlace}
use Rattle.jk_walk.specs.TilePackets.{shape_in, Body, Packet, orientations, of_precinct}
use Rattle.jk_walk.specs.WalkReading.{AreTilePackets}
use Rattle.jk_walk.proofs.Laws.{packets_only}
use Rattle.jk_tile.specs.TileBlocks.{grid_at}
use Rattle.jk_tile.specs.TileMeaning.{shown_area, values_of, IsBlockAt, DecodesLayers, DecodesTile}
use Rattle.jk_tile.specs.decoding.TileReading.{bodies_of, coefficient_at}
use Rattle.jk_tile.specs.Pixels.{tile_sample}
use Rattle.jk_tile.proofs.Laws.{one_front, bodies_are, pixel_same, levels_read, IsMeant, meant_at, none_meant, gathered}
use Rattle.jk_window.specs.Indexing.{joined_runs, HasRuns}
use Rattle.jk_window.specs.Views.{layers_in}
use Rattle.jk_window.specs.Cutting.{needed_by}
use Rattle.jk_window.proofs.Laws.{kept_bodies, all_layers}
use Rattle.jk_window.specs.Again.{front_runs, AreAlike}
use Rattle.jk_code.proofs.EmptiedTiles.{left_of, left_tile, decodes_alike, seen_fronts, bodies_below, first_kept}
use Rattle.jk_code.proofs.WindowBands.{seen, values_agree}

-- ---- bodies

-- The packets of a tile have the same bodies, however they are read.
one_reading : (bytes : List ℕ) (h : Headers) (t : ℕ) (packets others : List Packet) → AreHeaders (length bytes) h → t < tile_count h.siz → AreTilePackets bytes h t packets → AreTilePackets bytes h t others
    → (c r n : ℕ) → bodies_below None packets c r n ≡ bodies_below None others c r n
one_reading bytes h t packets others are lt first second c r n =
    let a = packets_only bytes h t packets are lt first in
    let b = packets_only bytes h t others are lt second in
    let same : a.0 ≡ b.0 = ok_is a.0 b.0 (sym a.1 ∙ b.1) in
    bodies_are bytes packets a.0 c r n a.2 ∙ ap (λ (ws : List PacketPlace). bodies_of bytes ws c r n) same ∙ sym (bodies_are bytes others b.0 c r n b.2)

-- the same of their first layers
one_below : (bytes : List ℕ) (h : Headers) (t : ℕ) (layers : Option ℕ) (packets others : List Packet) → AreHeaders (length bytes) h → t < tile_count h.siz → AreTilePackets bytes h t packets → AreTilePackets bytes h t others
    → (c r n : ℕ) → bodies_below layers packets c r n ≡ bodies_below layers others c r n
one_below bytes h t None packets others are lt first second = one_reading bytes h t packets others are lt first second
one_below bytes h t (Some l) packets others are lt first second = one_front bytes h t l packets others are lt first second

-- each code-block still means something
kept_meant : (a : Rect) (k : Coding) (b : Bool) (bodies : List Body) (r n i j : ℕ) → IsMeant a k bodies r n i j → IsMeant a k (cond b bodies []) r n i j
kept_meant a k true bodies r n i j meant = meant
kept_meant a k false bodies r n i j meant = none_meant a k r n i j

-- ---- the tile

-- A tile of a window's codestream, of headers g: it decodes to the samples in the window, which are those of the layers that are kept.
pub record IsTileSeen (new : List ℕ) (g : Headers) (area : Rect) (t d : ℕ) (w : Rect) (components : ℕ) (samples : ℕ → ℕ → ℕ → ℤ) : Type 0 where
  pub shown : ℕ → ℕ → ℕ → ℤ
  pub decoded : DecodesTile new g (tile_in g.tiles t) t d shown
  pub same : (c x y : ℕ) → c < components → IsWithin (seen area w d) x y → shown c x y ≡ samples c x y

pub tile_seen : (bytes new : List ℕ) (h g : Headers) (t d : ℕ) (w : Rect) (layers : Option ℕ) (runs : ℕ → List (List Packet)) (samples : ℕ → ℕ → ℕ → ℤ) → AreHeaders (length bytes) h → AreAlike g h → t < tile_count h.siz
    → AllByRecursion (λ (k : Coding). d ≤ k.levels) (tile_in h.tiles t).codings → HasRuns bytes h t (runs t) → HasRuns new g t (front_runs h (seen_fronts h w d layers) runs t) → DecodesLayers bytes h (tile_in h.tiles t) t d layers samples
    → IsTileSeen new g (tile_area h.siz t) t d w h.siz.components samples
tile_seen bytes new h g t d w layers runs samples are alike lt levels has again is =
    let f = tile_in h.tiles t in
    let a = tile_area h.siz t in
    let keep = needed_by h w d t in
    let fields = are.each t lt in
    let packets = joined_runs (runs t) in
    let left = left_of h (seen_fronts h w d layers) runs t in
    let mine : ℕ → ℕ → ℕ → List Body = λ c r n. bodies_below layers is.packets c r n in
    let read : (c r n : ℕ) → mine c r n ≡ bodies_below layers packets c r n = one_below bytes h t layers is.packets packets are lt is.tile has.packets in
    let theirs : ℕ → ℕ → ℕ → List Body = λ c r n. bodies_below None left c r n in
    let coding : ℕ → Coding = λ c. coding_of f.codings c in
    let kept : (c r n : ℕ) → c < length f.codings → r + d ≤ (coding c).levels → n < precinct_number a (coding c) r → theirs c r n ≡ cond (keep c r n) (bodies_below layers packets c r n) [] =
    λ c r n some low precinct.
    kept_bodies (shape_in h.siz f t) keep (layers_in layers f.cod.layers) f.cod.sop f.cod.eph packets c r n has.packets.order (record { component = some; resolution = omega (arith, low); precinct = precinct })
    ∙ first_kept (keep c r n) layers f.cod.layers (of_precinct c r n packets) (all_layers (shape_in h.siz f t) packets c r n has.packets.order (record { component = some; resolution = omega (arith, low); precinct = precinct })) in
    let few : (c : ℕ) → c < h.siz.components → c < length f.codings = λ c less. omega (arith, less, fields.all) in
    let first : (c : ℕ) → c < length f.codings → (r n i j : ℕ) → r + d ≤ (coding c).levels → n < precinct_number a (coding c) r → i < length (orientations r) → j < block_number (grid_at a (coding c) r n i)
    → IsBlockAt a (coding c) (mine c r n) (is.coefficients c) r n i j =
    λ c some r n i j low precinct band block. is.blocks c r n i j (record { component = some; resolution = omega (arith, low); precinct = precinct }) low band block in
    let second : (c : ℕ) → c < length f.codings → (r n i j : ℕ) → r + d ≤ (coding c).levels → n < precinct_number a (coding c) r → i < length (orientations r) → j < block_number (grid_at a (coding c) r n i)
    → IsBlockAt a (coding c) (theirs c r n) (coefficient_at a (coding c) (theirs c)) r n i j =
    λ c some. gathered a (coding c) d (theirs c) (fields.codings.each c some)
    (λ r n i j low precinct band block.
    subst (λ (bs : List Body). IsMeant a (coding c) bs r n i j) (sym (kept c r n some low precinct))
    (kept_meant a (coding c) (keep c r n) (bodies_below layers packets c r n) r n i j
    (subst (λ (bs : List Body). IsMeant a (coding c) bs r n i j) (read c r n) (meant_at a (coding c) (mine c r n) (is.coefficients c) r n i j (first c some r n i j low precinct band block))))) in
    let values : (c x y : ℕ) → ℤ = λ c x y. values_of a (coding c) d (coefficient_at a (coding c) (theirs c)) x y in
    let shown : ℕ → ℕ → ℕ → ℤ = λ c x y. tile_sample f.cod h.siz (λ i. values i x y) c in
    record {
      shown = shown;
      decoded = decodes_alike new g h t d shown alike lt (record {
        packets = left;
        tile = left_tile new g h t (seen_fronts h w d layers) runs alike lt again;
        coefficients = λ c. coefficient_at a (coding c) (theirs c);
        blocks = λ c r n i j precinct low band block. second c precinct.component r n i j low precinct.precinct band block;
        shown = λ c x y some within. refl;
      });
      same = λ c x y less within.
          (let l = within.left in let m = within.right in let e = within.upper in let b = within.lower in
          let inside : IsWithin (shown_area h.siz t d) x y = record { left = omega (arith, l); right = omega (arith, m); upper = omega (arith, e); lower = omega (arith, b) } in
          pixel_same f.cod h.siz (λ i. values i x y) (λ i. values_of a (coding i) d (is.coefficients i) x y) h.siz.components c fields.colour less
          (λ i some.
          let there = few i some in
          sym (values_agree a f.codings w d i (mine i) (theirs i) (is.coefficients i) (coefficient_at a (coding i) (theirs i)) x y
          (record {
            coding = fields.codings.each i there;
            levels = levels_read f.codings i d (coding i) levels there refl;
            first = first i there;
            second = second i there;
            same = λ r n low precinct needed. read i r n ∙ sym (kept i r n there low precinct ∙ ap (λ b. cond b (bodies_below layers packets i r n) []) needed);
          })
          within))
          ∙ sym (is.shown c x y less inside));
    }
