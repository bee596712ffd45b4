use Rattle.std.proofs.Common.{◌≡◌, ◌<◌, ◌^◌, ℕ, ℤ, List, length, map, All, ◌∙◌, ap, sym, subst, arith}
use Rattle.jk_math.specs.Lists.{lists_of, list_at}
use Rattle.jk_math.specs.Signed.{IsBelow}
use Rattle.jk_math.specs.declared.rect.Rect.{Rect}
use Rattle.jk_marks.specs.declared.siz.Siz.{Siz}
use Rattle.jk_marks.specs.declared.segments.Cod.{Cod}
use Rattle.jk_tile.specs.Samples.{sample_of}
use Rattle.jk_tile.specs.decoding.TileReading.{component_values, component_samples}
use Rattle.jk_tile.specs.decoding.TileSources.{TileSource}
use Rattle.jk_tile.proofs.Laws.{rasters, lists_count, list_long, lists_uncoloured, uncoloured_small, wider, samples_coloured, samples_plain}
use Rattle.jk_rows.proofs.climbing.finish.Goals.{then-cod, else-cod}
use Rattle.jk_rows.proofs.climbing.finish.Goals as goal

-- the lists of a tile's values
abbrev AreLists : TileSource → List (List ℤ) → Type 0
AreLists s lists = (a : Rect) × (lists ≡ rasters a (component_values s.bytes s.headers s.number s.reduce s.packets) s.headers.siz.components)

pub uncolour-requires-clause-three : goal.uncolour-requires-clause-three
uncolour-requires-clause-three c =
    let i = c.coded.inside in
    let h = i.headers.now in
    let g = subst (λ (s : TileSource). AreLists s (lists_of c.args.values.now.items)) (sym c.coded.view_is) c.requires.values in
    let three = (c.coded.invariant.sound.each i.number c.coded.invariant.is_tile).colour (ap (λ (k : Cod). k.colour) (sym c.cod.ensures) ∙ c.if-cod.true) in
    omega (arith, three, lists_count g.0 (component_values i.bytes.now h i.number i.reduce i.packets.now) h.siz.components c.args.values.now.items g.1)

pub uncolour-requires-clause-same_b : goal.uncolour-requires-clause-same_b
uncolour-requires-clause-same_b c =
    let i = c.coded.inside in
    let h = i.headers.now in
    let v = component_values i.bytes.now h i.number i.reduce i.packets.now in
    let g = subst (λ (s : TileSource). AreLists s (lists_of c.args.values.now.items)) (sym c.coded.view_is) c.requires.values in
    let three = (c.coded.invariant.sound.each i.number c.coded.invariant.is_tile).colour (ap (λ (k : Cod). k.colour) (sym c.cod.ensures) ∙ c.if-cod.true) in
    list_long g.0 v h.siz.components 1 c.args.values.now.items g.1 (omega (arith, three)) ∙ sym (list_long g.0 v h.siz.components 0 c.args.values.now.items g.1 (omega (arith, three)))

pub uncolour-requires-clause-same_c : goal.uncolour-requires-clause-same_c
uncolour-requires-clause-same_c c =
    let i = c.coded.inside in
    let h = i.headers.now in
    let v = component_values i.bytes.now h i.number i.reduce i.packets.now in
    let g = subst (λ (s : TileSource). AreLists s (lists_of c.args.values.now.items)) (sym c.coded.view_is) c.requires.values in
    let three = (c.coded.invariant.sound.each i.number c.coded.invariant.is_tile).colour (ap (λ (k : Cod). k.colour) (sym c.cod.ensures) ∙ c.if-cod.true) in
    list_long g.0 v h.siz.components 2 c.args.values.now.items g.1 (omega (arith, three)) ∙ sym (list_long g.0 v h.siz.components 0 c.args.values.now.items g.1 (omega (arith, three)))

pub all_to_samples-requires-clause-small : goal.all_to_samples-requires-clause-small
all_to_samples-requires-clause-small c = elim c.if-cod.branch [
  | then-cod w ↦
      let i = c.coded.inside in
      let h = i.headers.now in
      let v = component_values i.bytes.now h i.number i.reduce i.packets.now in
      let old = c.args.values.now.items in
      let g = subst (λ (s : TileSource). AreLists s (lists_of old)) (sym c.coded.view_is) c.requires.values in
      let three = (c.coded.invariant.sound.each i.number c.coded.invariant.is_tile).colour (ap (λ (k : Cod). k.colour) (sym c.cod.ensures) ∙ w.if-cod.true) in
      let long : (n : ℕ) → n < 3 → length (list_at old n) ≡ length (list_at old 0) = λ n lt.
      list_long g.0 v h.siz.components n old g.1 (omega (arith, three, lt)) ∙ sym (list_long g.0 v h.siz.components 0 old g.1 (omega (arith, three))) in
      subst (λ vs. (n : ℕ) → All (IsBelow (2 ^ 30)) (list_at vs.items n)) (sym w.values-is)
      (uncoloured_small old w.uncolour.new.values.items (long 1 (omega arith)) (long 2 (omega arith)) w.uncolour.ensures.long w.uncolour.ensures.i0 w.uncolour.ensures.i1 w.uncolour.ensures.i2 w.uncolour.ensures.others c.requires.small)
  | else-cod w ↦ subst (λ vs. (n : ℕ) → All (IsBelow (2 ^ 30)) (list_at vs.items n)) (sym w.values-is) (λ n. wider (list_at c.args.values.now.items n) (c.requires.small n))
]

pub returns : goal.returns
returns c = λ a are.
    let i = c.coded.inside in
    let bytes = i.bytes.now in
    let h = i.headers.now in
    let t = i.number in
    let places = i.packets.now in
    let v = component_values bytes h t i.reduce places in
    let old = c.args.values.now.items in
    let is = subst (λ (s : TileSource). lists_of old ≡ rasters a (component_values s.bytes s.headers s.number s.reduce s.packets) s.headers.siz.components) (sym c.coded.view_is) are in
    let colour = ap (λ (k : Cod). k.colour) (sym c.cod.ensures) in
    let siz = ap (λ (s : Siz). map (map (sample_of s)) (lists_of c.if-cod.values.items)) c.siz.ensures in
    let made : map (map (sample_of h.siz)) (lists_of c.if-cod.values.items) ≡ rasters a (component_samples bytes h t i.reduce places) h.siz.components = elim c.if-cod.branch [
      | then-cod w ↦
          let three = (c.coded.invariant.sound.each t c.coded.invariant.is_tile).colour (colour ∙ w.if-cod.true) in
          let uncoloured = lists_uncoloured a v h.siz.components old w.uncolour.new.values.items three is w.uncolour.ensures.count w.uncolour.ensures.long w.uncolour.ensures.i0 w.uncolour.ensures.i1 w.uncolour.ensures.i2 w.uncolour.ensures.others in
          samples_coloured bytes h t i.reduce h.siz.components a places (lists_of c.if-cod.values.items) (colour ∙ w.if-cod.true) (ap (λ vs. lists_of vs.items) w.values-is ∙ uncoloured)
      | else-cod w ↦ samples_plain bytes h t i.reduce h.siz.components a places (lists_of c.if-cod.values.items) (colour ∙ w.if-cod.false) (ap (λ vs. lists_of vs.items) w.values-is ∙ is)
    ] in
    subst (λ (s : TileSource). lists_of c.all_to_samples.new.values.items ≡ rasters a (component_samples s.bytes s.headers s.number s.reduce s.packets) s.headers.siz.components) c.coded.view_is (c.all_to_samples.ensures ∙ siz ∙ made)
