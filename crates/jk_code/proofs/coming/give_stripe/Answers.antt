use Rattle.std.proofs.Common.{◌≡◌, ◌≢◌, ◌<◌, ◌+◌, ℕ, length, get_or, sym, ap, subst, ◌∙◌, arith}
use Rattle.std.proofs.lemmas.List.{get_or-set_other, length-set}
use Rattle.jk_tile.specs.encoding.Forward.{tile_value}
use Rattle.jk_params.specs.declared.picture_frame.PictureFrame.{PictureFrame}
use Rattle.jk_tile.specs.encoding.Strips.{ComponentFrame}
use Rattle.jk_tile.specs.encoding.FallingTiles.{IsStandingTile, HasTileSamples, HasRowsFor, GivesTile, AreTileSixteen}
use Rattle.jk_code.specs.ComingRows.{component_of, tiles_coming, IsFallingTile}
use Rattle.jk_code.proofs.EntriesKept.{replaced}
use Rattle.jk_code.proofs.ComingLaws.{stripe_of_tile, stripe_gives, coming_sixteen}
use Rattle.jk_code.proofs.coming.give_stripe.Goals as goal

pub give-requires-clause-standing : goal.give-requires-clause-standing
give-requires-clause-standing c =
    let k : ℕ = c.loop-k.k in
    let all = c.args.tiles.now.items in
    let x = c.index_mut.result.now in
    let lt : k < length all = omega (arith, c.loop-k-test.true, c.len-k-end.ensures) in
    let first : x ≡ get_or all k x = c.index_mut.ensures.value ∙ c.loop-k.invariant.left k x (omega arith) in
    let was : IsFallingTile c.args.coming.now (c.args.first + k) c.args.stripe.now.y0 x = subst (IsFallingTile c.args.coming.now (c.args.first + k) c.args.stripe.now.y0) (sym first) (c.requires.tiles k x lt) in
    subst (λ (f : ComponentFrame). IsStandingTile f x) (sym c.component_at-source.ensures) was.standing

pub give-requires-clause-count : goal.give-requires-clause-count
give-requires-clause-count c =
    let k : ℕ = c.loop-k.k in
    let all = c.args.tiles.now.items in
    let x = c.index_mut.result.now in
    let lt : k < length all = omega (arith, c.loop-k-test.true, c.len-k-end.ensures) in
    let first : x ≡ get_or all k x = c.index_mut.ensures.value ∙ c.loop-k.invariant.left k x (omega arith) in
    let was : IsFallingTile c.args.coming.now (c.args.first + k) c.args.stripe.now.y0 x = subst (IsFallingTile c.args.coming.now (c.args.first + k) c.args.stripe.now.y0) (sym first) (c.requires.tiles k x lt) in
    let many : length c.args.stripe.now.planes ≡ c.args.coming.now.frame.components = ap (λ (f : PictureFrame). f.components) c.requires.stripe in
    was.components ∙ sym many

pub give-requires-clause-colours : goal.give-requires-clause-colours
give-requires-clause-colours c colour =
    let three = c.requires.coming.written.cod.colour colour in
    let many : length c.args.stripe.now.planes ≡ c.args.coming.now.frame.components = ap (λ (f : PictureFrame). f.components) c.requires.stripe in
    omega (arith, three, many)

pub give-requires-clause-rows : goal.give-requires-clause-rows
give-requires-clause-rows c =
    let k : ℕ = c.loop-k.k in
    let all = c.args.tiles.now.items in
    let x = c.index_mut.result.now in
    let lt : k < length all = omega (arith, c.loop-k-test.true, c.len-k-end.ensures) in
    let first : x ≡ get_or all k x = c.index_mut.ensures.value ∙ c.loop-k.invariant.left k x (omega arith) in
    let was : IsFallingTile c.args.coming.now (c.args.first + k) c.args.stripe.now.y0 x = subst (IsFallingTile c.args.coming.now (c.args.first + k) c.args.stripe.now.y0) (sym first) (c.requires.tiles k x lt) in
    let v = c.args.stripe.now in
    let end : c.y0.result + c.height.result ≡ v.y0 + v.height = omega (arith, c.y0.ensures, c.height.ensures) in
    let lower = c.requires.lower k lt in
    subst (λ (f : ComponentFrame). HasRowsFor f x.y (c.y0.result + c.height.result) v) (sym c.component_at-source.ensures)
    (stripe_of_tile c.args.coming.now (c.args.first + k) x.y (c.y0.result + c.height.result) v c.requires.stripe (sym was.next) end (omega (arith, end, lower)))

pub give-requires-clause-given : goal.give-requires-clause-given
give-requires-clause-given c =
    let s = c.args.coming.now in
    let v = c.args.stripe.now in
    let k : ℕ = c.loop-k.k in
    let all = c.args.tiles.now.items in
    let x = c.index_mut.result.now in
    let lt : k < length all = omega (arith, c.loop-k-test.true, c.len-k-end.ensures) in
    let first : x ≡ get_or all k x = c.index_mut.ensures.value ∙ c.loop-k.invariant.left k x (omega arith) in
    let was : IsFallingTile s (c.args.first + k) v.y0 x = subst (IsFallingTile s (c.args.first + k) v.y0) (sym first) (c.requires.tiles k x lt) in
    let end : c.y0.result + c.height.result ≡ v.y0 + v.height = omega (arith, c.y0.ensures, c.height.ensures) in
    let p = c.requires.given.0 in
    let f = tile_value p s.parameters.now.colour in
    let whole = c.requires.whole in
    let tile : c.args.first + k < tiles_coming s = omega (arith, whole, lt) in
    let many : length v.planes ≡ s.frame.components = ap (λ (g : PictureFrame). g.components) c.requires.stripe in
    let own : length p.planes ≡ s.frame.components = ap (λ (g : PictureFrame). g.components) c.requires.given.2 in
    let source = sym c.component_at-source.ensures in (
      f,
      subst (λ (g : ComponentFrame). AreTileSixteen g (length v.planes) f) source (coming_sixteen s (c.args.first + k) (length v.planes) p c.requires.coming c.requires.given.1 c.requires.given.2 tile (many ∙ sym own)),
      subst (λ (g : ComponentFrame). HasTileSamples g f x) source (subst (HasTileSamples (component_of s (c.args.first + k)) f) (sym first) (c.requires.given.4 k x lt)),
      subst (λ (g : ComponentFrame). GivesTile g s.parameters.now.colour v x.y (c.y0.result + c.height.result) f) source (stripe_gives s (c.args.first + k) x.y (c.y0.result + c.height.result) p v c.requires.coming c.requires.given.2 c.requires.stripe c.requires.given.3 (sym was.next) end),
    )

pub loop-k-preserved : goal.loop-k-preserved
loop-k-preserved c =
    let s = c.args.coming.now in
    let v = c.args.stripe.now in
    let k : ℕ = c.loop-k.k in
    let now = c.loop-k.invariant in
    let all = c.args.tiles.now.items in
    let held = c.loop-k.tiles.items in
    let x = c.index_mut.result.now in
    let new = c.give.new.self in
    let done = c.in_ok-give.ensures in
    let count = now.count in
    let lt : k < length all = omega (arith, c.loop-k-test.true, c.len-k-end.ensures) in
    let here : k < length held = omega (arith, lt, count) in
    let first : x ≡ get_or all k x = c.index_mut.ensures.value ∙ now.left k x (omega arith) in
    let was : IsFallingTile s (c.args.first + k) v.y0 x = subst (IsFallingTile s (c.args.first + k) v.y0) (sym first) (c.requires.tiles k x lt) in
    let source = c.component_at-source.ensures in
    let end : c.y0.result + c.height.result ≡ v.y0 + v.height = omega (arith, c.y0.ensures, c.height.ensures) in
    record {
      count = length-set held k new ∙ count;
      done = replaced (λ j y. IsFallingTile s (c.args.first + j) (v.y0 + v.height) y) held k new here now.done
          (record { standing = subst (λ (f : ComponentFrame). IsStandingTile f new) source done.standing; components = done.count ∙ was.components; next = done.next ∙ end });
      left = λ j other from. get_or-set_other held k j new other (let ne : j ≢ k = omega (arith, from) in ne) ∙ now.left j other (omega (arith, from));
      rows = λ p same rows has. replaced (λ j y. HasTileSamples (component_of s (c.args.first + j)) (tile_value p s.parameters.now.colour) y) held k new here (now.rows p same rows has)
          (subst (λ (f : ComponentFrame). HasTileSamples f (tile_value p s.parameters.now.colour) new) source
          (done.rows (tile_value p s.parameters.now.colour)
          (subst (λ (f : ComponentFrame). HasTileSamples f (tile_value p s.parameters.now.colour) x) (sym source) (subst (HasTileSamples (component_of s (c.args.first + k)) (tile_value p s.parameters.now.colour)) (sym first) (has k x lt)))
          (subst (λ (f : ComponentFrame). GivesTile f s.parameters.now.colour v x.y (c.y0.result + c.height.result) (tile_value p s.parameters.now.colour)) (sym source) (stripe_gives s (c.args.first + k) x.y (c.y0.result + c.height.result) p v c.requires.coming same c.requires.stripe rows (sym was.next) end))));
    }

pub returns-clause-tiles : goal.returns-clause-tiles
returns-clause-tiles c k other lt =
    let count = c.loop-k.invariant.count in
    c.loop-k.invariant.done k other (omega (arith, lt, count, c.loop-k-test.false, c.len-k-end.ensures))

pub returns-clause-rows : goal.returns-clause-rows
returns-clause-rows c p same rows has k other lt =
    let count = c.loop-k.invariant.count in
    c.loop-k.invariant.rows p same rows has k other (omega (arith, lt, count, c.loop-k-test.false, c.len-k-end.ensures))
