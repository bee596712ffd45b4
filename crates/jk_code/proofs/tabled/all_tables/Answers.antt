use Rattle.std.proofs.Common.{◌≡◌, ◌<◌, ◌+◌, ℕ, [], ◌∷◌, length, drop, refl, sym, ap, subst, ◌∙◌, arith}
use Rattle.std.specs.Global.{Vec}
use Rattle.std.specs.List.{flat_map, range_with_len}
use Rattle.std.proofs.lemmas.List.{length-append}
use Rattle.jk_math.specs.Lists.{lists_of}
use Rattle.jk_packet.specs.Written.{Table}
use Rattle.jk_tile.specs.encoding.Forward.{tile_value}
use Rattle.jk_tile.specs.encoding.TileWriters.{component_lists}
use Rattle.jk_tile.specs.encoding.Strips.{ComponentFrame}
use Rattle.jk_tile.specs.encoding.LateTables.{bands_from}
use Rattle.jk_walk.specs.TilePackets.{planes_of}
use Rattle.jk_tile.specs.encoding.FallenTiles.{fallen_in, IsFallenTile, IsCodedTile, HasTileRoom}
use Rattle.jk_tile.specs.declared.encoding.fallen_tile.FallenTile.{FallenTile}
use Rattle.jk_code.specs.ComingRows.{component_of, tiles_coming, IsTileFallen, lists_coming}
use Rattle.jk_code.proofs.EntriesKept.{pushed, taken}
use Rattle.jk_code.proofs.tabled.all_tables.Goals as goal

pub tables-requires-clause-fallen : goal.tables-requires-clause-fallen
tables-requires-clause-fallen c =
    let s = c.args.coming.now in
    let m : ℕ = length c.loop-tile.tables.items in
    let x = c.in-Some.tile in
    let is = taken c.args.tiles.items m x c.loop-tile.tile-iterator.rest.items c.next.new.self.rest.items c.loop-tile.invariant.left c.in-Some.ensures.steps.0 in
    let number : c.len.result ≡ m = omega (arith, c.len.ensures) in
    let source : c.component_at-source.result ≡ component_of s m = c.component_at-source.ensures ∙ ap (λ t. component_of s t) number in
    let many = c.requires.tiles.count in
    let inside = is.inside in
    let was : IsTileFallen s m x = subst (IsTileFallen s m) (is.here x) (c.requires.tiles.each m x (omega (arith, inside, many))) in
    subst (λ (g : ComponentFrame). IsFallenTile g x) (sym source) was.fallen

pub tables-requires-clause-room : goal.tables-requires-clause-room
tables-requires-clause-room c =
    let s = c.args.coming.now in
    let m : ℕ = length c.loop-tile.tables.items in
    let x = c.in-Some.tile in
    let is = taken c.args.tiles.items m x c.loop-tile.tile-iterator.rest.items c.next.new.self.rest.items c.loop-tile.invariant.left c.in-Some.ensures.steps.0 in
    let number : c.len.result ≡ m = omega (arith, c.len.ensures) in
    let source : c.component_at-source.result ≡ component_of s m = c.component_at-source.ensures ∙ ap (λ t. component_of s t) number in
    let many = c.requires.tiles.count in
    let inside = is.inside in
    let planes = planes_of c.args.coding.now in
    let was : HasTileRoom (component_of s m) planes x =
    subst (λ (y : FallenTile). HasTileRoom (component_of s m) planes y) (is.here x) (c.requires.room m x (omega (arith, inside, many))) in
    subst (λ (g : ComponentFrame). HasTileRoom g planes x) (sym source) was

pub loop-tile-preserved : goal.loop-tile-preserved
loop-tile-preserved c =
    let s = c.args.coming.now in
    let all = c.args.tiles.items in
    let old = c.loop-tile.tables.items in
    let m : ℕ = length old in
    let x = c.in-Some.tile in
    let now = c.loop-tile.invariant in
    let is = taken all m x c.loop-tile.tile-iterator.rest.items c.next.new.self.rest.items now.left c.in-Some.ensures.steps.0 in
    let number : c.len.result ≡ m = omega (arith, c.len.ensures) in
    let source : c.component_at-source.result ≡ component_of s m = c.component_at-source.ensures ∙ ap (λ t. component_of s t) number in
    let many = c.requires.tiles.count in
    let inside = is.inside in
    let tile : m < tiles_coming s = omega (arith, inside, many) in
    let was : IsTileFallen s m x = subst (IsTileFallen s m) (is.here x) (c.requires.tiles.each m x tile) in
    let kept = c.in_ok-tables.field-0 in
    let long = ap (λ l. length l) c.in_ok-push.ensures.items ∙ length-append old (kept ∷ []) in
    let next : m + 1 ≡ length c.push.new.self.items = omega (arith, long) in
    record {
      few = omega (arith, long, inside);
      left = is.left ∙ ap (λ j. drop j all) next;
      tables = λ p coded t other lt.
          (let f = tile_value p s.parameters.now.colour in
          let here : IsCodedTile c.component_at-source.result f x = subst (λ (g : ComponentFrame). IsCodedTile g f x) (sym source) (subst (IsCodedTile (component_of s m) f) (is.here x) (coded m x tile)) in
          let own : lists_of kept.items ≡ lists_coming s c.args.coding.now p m =
          c.in_ok-tables.ensures.tables f here ∙ ap (λ (g : ComponentFrame). flat_map (λ k. component_lists (bands_from g c.args.coding.now (f k))) (range_with_len 0 (fallen_in x))) source
          ∙ ap (λ n. flat_map (λ k. component_lists (bands_from (component_of s m) c.args.coding.now (f k))) (range_with_len 0 n)) was.components in
          pushed (λ u (v : Vec (Vec Table)). lists_of v.items ≡ lists_coming s c.args.coding.now p u) old c.push.new.self.items m kept refl c.in_ok-push.ensures.items (now.tables p coded) own t other (omega (arith, lt, long)));
    }
