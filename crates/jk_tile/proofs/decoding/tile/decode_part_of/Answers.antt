use Rattle.std.proofs.Common.{◌≡◌, ◌<◌, ◌^◌, ℕ, ℤ, List, length, map, All, Ok, ◌∙◌, ap, sym, subst, arith}
use Rattle.std.proofs.lemmas.Result.{err_from_is_err_and}
use Rattle.jk_math.specs.Lists.{lists_of, list_at}
use Rattle.jk_math.specs.Signed.{IsBelow}
use Rattle.jk_math.specs.declared.rect.Rect.{Rect}
use Rattle.jk_marks.specs.declared.siz.Siz.{Siz}
use Rattle.jk_marks.specs.declared.segments.Cod.{Cod}
use Rattle.jk_tile.specs.Samples.{sample_of}
use Rattle.jk_tile.specs.decoding.TileReading.{component_values, component_samples, part_values_at, part_planes_at}
use Rattle.jk_tile.specs.decoding.TileSources.{TileSource}
use Rattle.jk_tile.proofs.Steps.{refuses_on}
use Rattle.jk_tile.proofs.Colours.{rasters, count_is, list_long, lists_uncoloured, uncoloured_small, wider, planes_fine, planes_err, samples_coloured, samples_plain}
use Rattle.jk_tile.proofs.decoding.tile.decode_part_of.Goals.{then-cod, else-cod}
use Rattle.jk_tile.proofs.decoding.tile.decode_part_of.Goals as goal

-- what is read, of the tile's fields
exact_of : {s t : TileSource} (a : Rect) {values : List (List ℤ)} → s ≡ t → part_values_at t.bytes t.headers t.number t.reduce a t.packets ≡ Ok values → part_values_at s.bytes s.headers s.number s.reduce a s.packets ≡ Ok values
exact_of a {values} e is = subst (λ (s : TileSource). part_values_at s.bytes s.headers s.number s.reduce a s.packets ≡ Ok values) (sym e) is

pub returns-in_err-values : goal.returns-in_err-values
returns-in_err-values c =
    let s = c.args.coded.now in
    let e = c.in_err-values.field-0.0 in
    let q = err_from_is_err_and c.from_residual.result c.from_residual.ensures.1 in
    record {
      exact = rw (q.1, q.2) (refuses_on e (part_values_at s.bytes s.headers s.number s.reduce c.args.area.now s.packets) _ c.in_err-values.ensures.exact
          (λ is. planes_err s.bytes s.headers s.number s.reduce c.args.area.now s.packets e is));
    }

pub uncolour-requires-clause-three : goal.uncolour-requires-clause-three
uncolour-requires-clause-three c =
    let h = c.coded.inside.headers.now in
    let t = c.coded.inside.number in
    let places = c.coded.inside.packets.now in
    let fine = planes_fine c.coded.inside.bytes.now h t c.coded.inside.reduce c.args.area.now places (lists_of c.in_ok-values.values.items) (exact_of c.args.area.now c.coded.view_is c.in_ok-values.ensures.exact) in
    let three = (c.coded.invariant.sound.each t c.coded.invariant.is_tile).colour (ap (λ (k : Cod). k.colour) (sym c.cod.ensures) ∙ c.if-cod.true) in
    omega (arith, three, count_is c.args.area.now (component_values c.coded.inside.bytes.now h t c.coded.inside.reduce places) h.siz.components c.in_ok-values.values.items fine.0)

pub uncolour-requires-clause-same_b : goal.uncolour-requires-clause-same_b
uncolour-requires-clause-same_b c =
    let h = c.coded.inside.headers.now in
    let t = c.coded.inside.number in
    let places = c.coded.inside.packets.now in
    let v = component_values c.coded.inside.bytes.now h t c.coded.inside.reduce places in
    let fine = planes_fine c.coded.inside.bytes.now h t c.coded.inside.reduce c.args.area.now places (lists_of c.in_ok-values.values.items) (exact_of c.args.area.now c.coded.view_is c.in_ok-values.ensures.exact) in
    let three = (c.coded.invariant.sound.each t c.coded.invariant.is_tile).colour (ap (λ (k : Cod). k.colour) (sym c.cod.ensures) ∙ c.if-cod.true) in
    list_long c.args.area.now v h.siz.components 1 c.in_ok-values.values.items fine.0 (omega (arith, three)) ∙ sym (list_long c.args.area.now v h.siz.components 0 c.in_ok-values.values.items fine.0 (omega (arith, three)))

pub uncolour-requires-clause-same_c : goal.uncolour-requires-clause-same_c
uncolour-requires-clause-same_c c =
    let h = c.coded.inside.headers.now in
    let t = c.coded.inside.number in
    let places = c.coded.inside.packets.now in
    let v = component_values c.coded.inside.bytes.now h t c.coded.inside.reduce places in
    let fine = planes_fine c.coded.inside.bytes.now h t c.coded.inside.reduce c.args.area.now places (lists_of c.in_ok-values.values.items) (exact_of c.args.area.now c.coded.view_is c.in_ok-values.ensures.exact) in
    let three = (c.coded.invariant.sound.each t c.coded.invariant.is_tile).colour (ap (λ (k : Cod). k.colour) (sym c.cod.ensures) ∙ c.if-cod.true) in
    list_long c.args.area.now v h.siz.components 2 c.in_ok-values.values.items fine.0 (omega (arith, three)) ∙ sym (list_long c.args.area.now v h.siz.components 0 c.in_ok-values.values.items fine.0 (omega (arith, three)))

pub all_to_samples-requires-clause-small : goal.all_to_samples-requires-clause-small
all_to_samples-requires-clause-small c = elim c.if-cod.branch [
  | then-cod w ↦
      let h = c.coded.inside.headers.now in
      let t = c.coded.inside.number in
      let places = c.coded.inside.packets.now in
      let v = component_values c.coded.inside.bytes.now h t c.coded.inside.reduce places in
      let old = c.in_ok-values.values.items in
      let fine = planes_fine c.coded.inside.bytes.now h t c.coded.inside.reduce c.args.area.now places (lists_of old) (exact_of c.args.area.now c.coded.view_is c.in_ok-values.ensures.exact) in
      let three = (c.coded.invariant.sound.each t c.coded.invariant.is_tile).colour (ap (λ (k : Cod). k.colour) (sym c.cod.ensures) ∙ w.if-cod.true) in
      let long : (i : ℕ) → i < 3 → length (list_at old i) ≡ length (list_at old 0) = λ i lt.
      list_long c.args.area.now v h.siz.components i old fine.0 (omega (arith, three, lt)) ∙ sym (list_long c.args.area.now v h.siz.components 0 old fine.0 (omega (arith, three))) in
      subst (λ vs. (i : ℕ) → All (IsBelow (2 ^ 30)) (list_at vs.items i)) (sym w.values-is)
      (uncoloured_small old w.uncolour.new.values.items (long 1 (omega arith)) (long 2 (omega arith)) w.uncolour.ensures.long w.uncolour.ensures.i0 w.uncolour.ensures.i1 w.uncolour.ensures.i2 w.uncolour.ensures.others c.in_ok-values.ensures.small)
  | else-cod w ↦ subst (λ vs. (i : ℕ) → All (IsBelow (2 ^ 30)) (list_at vs.items i)) (sym w.values-is) (λ i. wider (list_at c.in_ok-values.values.items i) (c.in_ok-values.ensures.small i))
]

pub returns : goal.returns
returns c =
    let bytes = c.coded.inside.bytes.now in
    let h = c.coded.inside.headers.now in
    let t = c.coded.inside.number in
    let places = c.coded.inside.packets.now in
    let v = component_values bytes h t c.coded.inside.reduce places in
    let old = c.in_ok-values.values.items in
    let fine = planes_fine bytes h t c.coded.inside.reduce c.args.area.now places (lists_of old) (exact_of c.args.area.now c.coded.view_is c.in_ok-values.ensures.exact) in
    let there = fine.1 in
    let colour = ap (λ (k : Cod). k.colour) (sym c.cod.ensures) in
    let siz = ap (λ (s : Siz). map (map (sample_of s)) (lists_of c.if-cod.values.items)) c.siz.ensures in
    let made : map (map (sample_of h.siz)) (lists_of c.if-cod.values.items) ≡ rasters c.args.area.now (component_samples bytes h t c.coded.inside.reduce places) h.siz.components = elim c.if-cod.branch [
      | then-cod w ↦
          let three = (c.coded.invariant.sound.each t c.coded.invariant.is_tile).colour (colour ∙ w.if-cod.true) in
          let is = lists_uncoloured c.args.area.now v h.siz.components old w.uncolour.new.values.items three fine.0 w.uncolour.ensures.count w.uncolour.ensures.long w.uncolour.ensures.i0 w.uncolour.ensures.i1 w.uncolour.ensures.i2 w.uncolour.ensures.others in
          samples_coloured bytes h t c.coded.inside.reduce h.siz.components c.args.area.now places (lists_of c.if-cod.values.items) (colour ∙ w.if-cod.true) (ap (λ vs. lists_of vs.items) w.values-is ∙ is)
      | else-cod w ↦ samples_plain bytes h t c.coded.inside.reduce h.siz.components c.args.area.now places (lists_of c.if-cod.values.items) (colour ∙ w.if-cod.false) (ap (λ vs. lists_of vs.items) w.values-is ∙ fine.0)
    ] in
    record {
      exact = subst (λ (s : TileSource). part_planes_at s.bytes s.headers s.number s.reduce c.args.area.now s.packets ≡ Ok (lists_of c.all_to_samples.new.values.items)) c.coded.view_is
          (there ∙ ap Ok (sym (c.all_to_samples.ensures ∙ siz ∙ made)));
    }
