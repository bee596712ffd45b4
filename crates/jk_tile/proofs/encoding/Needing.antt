-- How many bit-planes the sub-bands of an image need.
use Rattle.std.proofs.Common.{◌≡◌, ℕ, ◌+◌, ◌*◌, ◌^◌, ◌<◌, List, [], length, map, get_or, All, ℤ, unsigned_abs, sym, ap, subst, ◌∙◌, arith}
use Rattle.std.specs.List.{range_with_len}
use Rattle.std.proofs.lemmas.List.FromFn.{get_or-map-range_with_len, length-map-range_with_len}
use Rattle.jk_math.specs.declared.rect.Rect.{Rect}
use Rattle.jk_math.specs.Picture.{Picture, IsPicture}
use Rattle.jk_marks.specs.Siz.{tile_count}
use Rattle.jk_params.specs.declared.parameters.Parameters.{Parameters}
use Rattle.jk_params.specs.Profile.{siz_of, IsWrittenBy}
use Rattle.jk_wave.specs.Analysis.{analysed_bands}
use Rattle.jk_tile.specs.Filling.{IsPartOf}
use Rattle.jk_tile.specs.encoding.Forward.{picture_area, tile_value}
use Rattle.jk_tile.specs.encoding.Needs.{most, tile_need, need}
use Rattle.jk_tile.proofs.encoding.Forwards.{bands_few}

-- the sub-bands of a component of a tile
abbrev pub bands_for : Picture → Parameters → Rect → ℕ → List (List ℤ)
bands_for p q a c = analysed_bands a q.levels (tile_value p q.colour c)

abbrev pub all_bands : Picture → Parameters → Rect → List (List (List ℤ))
all_bands p q a = map (bands_for p q a) (range_with_len 0 (length p.planes))

pub bands_at : (p : Picture) (q : Parameters) (a : Rect) (all : List (List (List ℤ))) (c : ℕ) → all ≡ all_bands p q a → c < length p.planes → get_or all c [] ≡ bands_for p q a c
bands_at p q a all c e lt = ap (λ (ls : List (List (List ℤ))). get_or ls c []) e ∙ get_or-map-range_with_len (bands_for p q a) 0 (length p.planes) c c [] lt (omega arith)

pub bands_count : (p : Picture) (q : Parameters) (a : Rect) (all : List (List (List ℤ))) → all ≡ all_bands p q a → length all ≡ length p.planes
bands_count p q a all e = ap (λ (ls : List (List (List ℤ))). length ls) e ∙ length-map-range_with_len (bands_for p q a) 0 (length p.planes)

pub bands_small : (p : Picture) (q : Parameters) (a : Rect) (c : ℕ) (bands : List (List ℤ)) → IsPicture p → IsWrittenBy q p → IsPartOf a (picture_area p) → c < length p.planes → bands ≡ bands_for p q a c
    → (b : ℕ) → All (λ v. unsigned_abs v < 2 ^ 23) (get_or bands b [])
bands_small p q a c bands is by part lt e b = subst (λ (ls : List (List ℤ)). All (λ v. unsigned_abs v < 2 ^ 23) (get_or ls b [])) (sym e) (bands_few p q.colour c q.levels a is (by.cod).colour lt part by.levels b)

pub need_is : (p : Picture) (q : Parameters) (b n : ℕ) → n ≡ tile_count (siz_of p q) → most (λ t. tile_need p q t b) n ≡ need p q b
unfolding need
need_is p q b n e = ap (most (λ t. tile_need p q t b)) e
