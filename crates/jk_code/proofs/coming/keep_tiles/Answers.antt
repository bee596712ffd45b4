use Rattle.std.proofs.Common.{◌≡◌, ◌+◌, ◌-◌, ℕ, List, [], ◌∷◌, length, drop, refl, sym, ap, subst, ◌∙◌, arith}
use Rattle.std.proofs.lemmas.List.{length-append}
use Rattle.jk_tile.specs.encoding.Forward.{tile_value}
use Rattle.jk_tile.specs.encoding.Strips.{ComponentFrame}
use Rattle.jk_tile.specs.encoding.FallingTiles.{IsStandingTile, HasTileSamples}
use Rattle.jk_tile.specs.encoding.FallenTiles.{IsFallenTile, IsCodedTile}
use Rattle.jk_tile.specs.declared.encoding.fallen_tile.FallenTile.{FallenTile}
use Rattle.jk_code.specs.ComingRows.{component_of, area_of_coming, IsFallingTile, IsTileFallen, AreFallen, AreCoded}
use Rattle.jk_code.proofs.EntriesKept.{pushed, taken, taken_all}
use Rattle.jk_code.proofs.coming.keep_tiles.Goals as goal

pub loop-tile-init : goal.loop-tile-init
loop-tile-init c =
    let n : ℕ = length c.args.fallen.now.items in
    let none : n - n ≡ 0 = omega arith in
    record {
      more = omega arith;
      few = omega arith;
      left = c.into_iter-tile-iterator.ensures.into_iter_gives.0 ∙ sym (ap (λ k. drop k c.args.tiles.items) none);
      fallen = c.requires.before;
      rows = λ p has coded. coded;
    }

pub finish-requires : goal.finish-requires
finish-requires c =
    let s = c.args.coming.now in
    let all = c.args.tiles.items in
    let old = c.loop-tile.fallen.items in
    let m : ℕ = length old in
    let n : ℕ = length c.args.fallen.now.items in
    let k : ℕ = m - n in
    let x = c.in-Some.tile in
    let now = c.loop-tile.invariant in
    let from = now.more in
    let is = taken all k x c.loop-tile.tile-iterator.rest.items c.next.new.self.rest.items now.left c.in-Some.ensures.steps.0 in
    let here : n + k ≡ m = omega (arith, from) in
    let was : IsFallingTile s m (area_of_coming s m).y1 x = subst (λ t. IsFallingTile s t (area_of_coming s t).y1 x) here (subst (IsFallingTile s (n + k) (area_of_coming s (n + k)).y1) (is.here x) (c.requires.tiles k x is.inside)) in
    let number : c.len.result ≡ m = omega (arith, c.len.ensures) in
    let source : c.component_at-source.result ≡ component_of s m = c.component_at-source.ensures ∙ ap (λ t. component_of s t) number in
    record {
      standing = subst (λ (f : ComponentFrame). IsStandingTile f x) (sym source) was.standing;
      last = was.next ∙ sym (ap (λ (f : ComponentFrame). f.rect.y1) source);
    }

pub loop-tile-preserved : goal.loop-tile-preserved
loop-tile-preserved c =
    let s = c.args.coming.now in
    let all = c.args.tiles.items in
    let old = c.loop-tile.fallen.items in
    let m : ℕ = length old in
    let n : ℕ = length c.args.fallen.now.items in
    let k : ℕ = m - n in
    let x = c.in-Some.tile in
    let now = c.loop-tile.invariant in
    let from = now.more in
    let is = taken all k x c.loop-tile.tile-iterator.rest.items c.next.new.self.rest.items now.left c.in-Some.ensures.steps.0 in
    let here : n + k ≡ m = omega (arith, from) in
    let was : IsFallingTile s m (area_of_coming s m).y1 x = subst (λ t. IsFallingTile s t (area_of_coming s t).y1 x) here (subst (IsFallingTile s (n + k) (area_of_coming s (n + k)).y1) (is.here x) (c.requires.tiles k x is.inside)) in
    let number : c.len.result ≡ m = omega (arith, c.len.ensures) in
    let source : c.component_at-source.result ≡ component_of s m = c.component_at-source.ensures ∙ ap (λ t. component_of s t) number in
    let new = c.push.new.self.items in
    let kept = c.in_ok-finish.field-0 in
    let own = c.in_ok-finish.ensures in
    let inside = is.inside in
    let long = ap (λ (l : List FallenTile). length l) c.in_ok-push.ensures.items ∙ length-append old (kept ∷ []) in
    let next : k + 1 ≡ length new - n = omega (arith, long, from) in
    record {
      more = omega (arith, long, from);
      few = omega (arith, long, inside, from);
      left = is.left ∙ ap (λ j. drop j all) next;
      fallen = record {
        count = refl;
        each = λ t other lt. pushed (λ t y. IsTileFallen s t y) old new m kept refl c.in_ok-push.ensures.items now.fallen.each
            (record { fallen = subst (λ (f : ComponentFrame). IsFallenTile f kept) source own.fallen; components = own.count ∙ was.components }) t other (omega (arith, lt, long));
      };
      rows = λ p has coded t other lt.
          (let f = tile_value p s.parameters.now.colour in
          let samples : HasTileSamples (component_of s m) f x = subst (λ t. HasTileSamples (component_of s t) f x) here (subst (HasTileSamples (component_of s (n + k)) f) (is.here x) (has k x inside)) in
          pushed (λ t y. IsCodedTile (component_of s t) f y) old new m kept refl c.in_ok-push.ensures.items (now.rows p has coded)
          (subst (λ (g : ComponentFrame). IsCodedTile g f kept) source (own.rows f (subst (λ (g : ComponentFrame). HasTileSamples g f x) (sym source) samples))) t other (omega (arith, lt, long)));
    }

-- behind the last one
pub returns-clause-fallen : goal.returns-clause-fallen
returns-clause-fallen c =
    let few = c.loop-tile.invariant.few in
    let from = c.loop-tile.invariant.more in
    let rest = c.loop-tile.tile-iterator.rest in
    let none : length rest.items ≡ 0 = omega (arith, c.in-None.ensures.steps.0, rest.ok.0) in
    let all = taken_all c.args.tiles.items (length c.loop-tile.fallen.items - length c.args.fallen.now.items) rest.items c.loop-tile.invariant.left none in
    let last : length c.loop-tile.fallen.items ≡ length c.args.fallen.now.items + length c.args.tiles.items = omega (arith, few, from, all) in
    subst (λ n. AreFallen c.args.coming.now n c.loop-tile.fallen.items) last c.loop-tile.invariant.fallen

pub returns-clause-rows : goal.returns-clause-rows
returns-clause-rows c p has coded =
    let few = c.loop-tile.invariant.few in
    let from = c.loop-tile.invariant.more in
    let rest = c.loop-tile.tile-iterator.rest in
    let none : length rest.items ≡ 0 = omega (arith, c.in-None.ensures.steps.0, rest.ok.0) in
    let all = taken_all c.args.tiles.items (length c.loop-tile.fallen.items - length c.args.fallen.now.items) rest.items c.loop-tile.invariant.left none in
    let last : length c.loop-tile.fallen.items ≡ length c.args.fallen.now.items + length c.args.tiles.items = omega (arith, few, from, all) in
    subst (λ n. AreCoded c.args.coming.now n p c.loop-tile.fallen.items) last (c.loop-tile.invariant.rows p has coded)
