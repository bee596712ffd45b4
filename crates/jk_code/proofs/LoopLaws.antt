-- One step of the loop over tiles.
use Rattle.std.proofs.Common.{◌≡◌, ◌⊎◌, ℕ, ◌+◌, ◌<◌, false, List, [], ◌∷◌, ◌++◌, map, inl, inr, ap, ◌∙◌, arith}
use Rattle.std.specs.List.{flat_map, range_with_len}
use Rattle.std.proofs.lemmas.List.{append-nil}
use Rattle.std.proofs.lemmas.List.FromFn.{map-range_with_len_more}
use Rattle.std.proofs.lemmas.Grind.{flat_map-append}
use Rattle.jk_math.specs.Memory.{IsMemory}
use Rattle.jk_math.specs.Picture.{Picture}
use Rattle.jk_math.specs.declared.fault.Fault.{Fault}
use Rattle.jk_math.specs.declared.fault.Fault.TheVariants.{Limit}
use Rattle.jk_marks.specs.Siz.{tile_count}
use Rattle.jk_marks.specs.Codestream.{CodestreamPart, part_text}
use Rattle.jk_params.specs.declared.parameters.Parameters.{Parameters}
use Rattle.jk_params.specs.Profile.{siz_of}
use Rattle.jk_window.proofs.Laws.{below_fails}
use Rattle.jk_code.specs.Written.{part_fits, parts_fit}

-- one part more
pub parts_more : (f : ℕ → CodestreamPart) (t : ℕ) → flat_map part_text (map f (range_with_len 0 (t + 1))) ≡ flat_map part_text (map f (range_with_len 0 t)) ++ part_text (f t)
parts_more f t =
    let same : 0 + t ≡ t = omega arith in
    let before = map f (range_with_len 0 t) in
    ap (flat_map part_text) (map-range_with_len_more f 0 t t same) ∙ flat_map-append part_text before (f t ∷ []) ∙ ap (λ (x : List ℕ). flat_map part_text before ++ x) (append-nil (part_text (f t)))

-- a part that doesn't fit
pub refused : (p : Picture) (q : Parameters) (t : ℕ) (e : Fault) → t < tile_count (siz_of p q) → IsMemory e ⊎ ((e ≡ Limit) × (part_fits p q t ≡ false)) → IsMemory e ⊎ ((e ≡ Limit) × (parts_fit p q ≡ false))
refused p q t e lt why = elim why [
  | inl memory ↦ inl memory
  | inr limit ↦ inr (limit.0, below_fails (part_fits p q) (tile_count (siz_of p q)) t lt limit.1)
]
