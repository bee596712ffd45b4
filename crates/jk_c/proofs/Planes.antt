-- Planes of samples that lie pixel by pixel, one sample and one component after another.
use Rattle.std.specs.Global.{Vec}
use Rattle.std.specs.List.{range_with_len}
use Rattle.std.proofs.lemmas.List.{map-append}
use Rattle.std.proofs.lemmas.List.FromFn.{map-range_with_len_more}
use Rattle.std.proofs.Common.{◌≡◌, ℕ, ℤ, List, [], ◌∷◌, ◌++◌, ◌+◌, ◌*◌, pos, map, get_or, sym, ap, ◌∙◌, arith}
use Rattle.jk_math.specs.Lists.{lists_of}
use Rattle.jk_c.specs.Signed.{signed_plane_in}

-- one more sample
sample_more : (sample : ℕ → ℤ) (i : ℕ) (z : ℤ) (old new : List ℤ) → z ≡ sample i → old ≡ map sample (range_with_len 0 i)
    → new ≡ old ++ (z ∷ []) → new ≡ map sample (range_with_len 0 (i + 1))
sample_more sample i z old new is before pushed =
    pushed
    ∙ ap (λ (z : ℤ). old ++ (z ∷ [])) is
    ∙ ap (λ (zs : List ℤ). zs ++ (sample i ∷ [])) before
    ∙ sym (map-range_with_len_more sample 0 i i (omega arith))

pub plane_more : (samples : List ℤ) (i k c : ℕ) (z : ℤ) (old new : List ℤ) → z ≡ get_or samples (i * k + c) (pos 0) → old ≡ signed_plane_in samples i k c
    → new ≡ old ++ (z ∷ []) → new ≡ signed_plane_in samples (i + 1) k c
plane_more samples i k c z old new is before pushed = sample_more (λ j. get_or samples (j * k + c) (pos 0)) i z old new is before pushed

-- one more component
pub planes_more : (plane_of : ℕ → List ℤ) (i : ℕ) (old new : List (Vec ℤ)) (plane : Vec ℤ) → lists_of old ≡ map plane_of (range_with_len 0 i)
    → new ≡ old ++ (plane ∷ []) → plane.items ≡ plane_of i → lists_of new ≡ map plane_of (range_with_len 0 (i + 1))
planes_more plane_of i old new plane before pushed is =
    ap (λ (ps : List (Vec ℤ)). lists_of ps) pushed
    ∙ map-append (λ (p : Vec ℤ). p.items) old (plane ∷ [])
    ∙ ap (λ (x : List ℤ). lists_of old ++ (x ∷ [])) is
    ∙ ap (λ (xs : List (List ℤ)). xs ++ (plane_of i ∷ [])) before
    ∙ sym (map-range_with_len_more plane_of 0 i i (omega arith))
