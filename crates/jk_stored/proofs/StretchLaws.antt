-- A stretch that is put piece by piece.
use Rattle.std.proofs.Common.{◌≡◌, ◌⊎◌, ℕ, ◌+◌, ◌≤◌, inl, inr, List, ◌++◌, length, sym, ap, ◌∙◌, arith, append_assoc, append-nil}
use Rattle.jk_walk.specs.TilePackets.{slice_of}
use Rattle.jk_walk.proofs.Slices.{slice_join, slice_none}

pub stretch_none : (c old : List ℕ) (start : ℕ) → old ≡ old ++ slice_of c (start, start)
stretch_none c old start = sym (append-nil old) ∙ ap (λ (xs : List ℕ). old ++ xs) (sym (slice_none c start start (omega arith)))

pub stretch_more : (c old out new bytes : List ℕ) (start at : ℕ) → start ≤ at → out ≡ old ++ slice_of c (start, at) → bytes ≡ slice_of c (at, at + length bytes) → new ≡ out ++ bytes → new ≡ old ++ slice_of c (start, at + length bytes)
stretch_more c old out new bytes start at le so is more =
    more ∙ ap (λ (xs : List ℕ). xs ++ bytes) so ∙ append_assoc old (slice_of c (start, at)) bytes
    ∙ ap (λ (xs : List ℕ). old ++ xs) (ap (λ (xs : List ℕ). slice_of c (start, at) ++ xs) is ∙ sym (slice_join c start at (at + length bytes) le (omega arith)))

pub stretch_done : (c old out : List ℕ) (start at end : ℕ) → end ≤ at → (at ≤ end) ⊎ (at ≡ start) → out ≡ old ++ slice_of c (start, at) → out ≡ old ++ slice_of c (start, end)
stretch_done c old out start at end over (inl le) so = so ∙ ap (λ k. old ++ slice_of c (start, k)) (let e : at ≡ end = omega (arith, over, le) in e)
stretch_done c old out start at end over (inr none) so =
    so ∙ ap (λ (xs : List ℕ). old ++ xs) (slice_none c start at (omega (arith, none)) ∙ sym (slice_none c start end (omega (arith, none, over))))
