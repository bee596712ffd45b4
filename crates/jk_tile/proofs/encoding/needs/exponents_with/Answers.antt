use Rattle.std.proofs.Common.{◌≡◌, ◌+◌, ◌-◌, ◌<◌, length, ◌∷◌, [], ◌++◌, List, ℕ, max, map, ap, sym, ◌∙◌, arith}
use Rattle.std.specs.List.{range_with_len}
use Rattle.std.specs.Prelude.{slice_index}
use Rattle.std.proofs.lemmas.List.{take_more_set, length-set}
use Rattle.std.proofs.lemmas.List.FromFn.{map-range_with_len_more}
use Rattle.jk_tile.specs.encoding.Needs.{gain}
use Rattle.jk_tile.proofs.encoding.needs.exponents_with.Goals as goal

pub loop-band-preserved : goal.loop-band-preserved
loop-band-preserved c =
    let depth : ℕ = c.args.depth in
    let es = c.loop-band.exponents in
    let b = c.loop-band.band in
    let f : ℕ → ℕ = λ k. max (depth + gain k) (slice_index c.args.needs.now k - 1) in
    let v = c.max.result in
    let test = c.loop-band-test.true in
    let levels = c.requires.levels in
    let long = c.loop-band.invariant.0 in
    let inside : b < length es = omega (arith, test, levels, long) in
    let is : v ≡ f b = c.max.ensures ∙ ap (λ n. max (depth + n) c.saturating_sub.result) c.gain.ensures.value ∙ ap (max (depth + gain b)) c.saturating_sub.ensures in (
      length-set es b v ∙ long,
      take_more_set es b v inside ∙ ap (λ (xs : List ℕ). xs ++ v ∷ []) c.loop-band.invariant.1 ∙ ap (λ (k : ℕ). map f (range_with_len 0 b) ++ k ∷ []) is
          ∙ sym (map-range_with_len_more f 0 b b (omega arith)),
    )
