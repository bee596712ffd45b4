-- Planes as they lie in memory, and as lists.
use Rattle.std.proofs.Common.{◌≡◌, ◌↔◌, ◌&&◌, IsTrue, Bool, true, false, ℕ, ◌+◌, ◌<◌, ◌≤◌, List, [], ◌∷◌, length, get_or, All, ℤ, pos, refl, subst, arith, inl, inr}
use Rattle.std.proofs.lemmas.Bool.{cases_lt}
use Rattle.std.proofs.lemmas.List.{get_or_default}
use Rattle.std.specs.Global.{Vec}
use Rattle.std.proofs.lemmas.List.Elements.{All-map, All-head, All-tail, All-cons, All-nil}
use Rattle.std.proofs.lemmas.List.{length-map}
use Rattle.jk_math.specs.Lists.{lists_of}

pub all_lists_of : (P : List ℤ → Type 0) (planes : List (Vec ℤ)) → All (λ plane. P plane.items) planes → All P (lists_of planes)
all_lists_of P planes h = All-map P (λ plane. plane.items) planes h

pub all_from_lists_of : (P : List ℤ → Type 0) (planes : List (Vec ℤ)) → All P (lists_of planes) → All (λ plane. P plane.items) planes
all_from_lists_of P [] h = All-nil (λ plane. P plane.items)
all_from_lists_of P (plane ∷ planes) h =
    All-cons (λ plane. P plane.items) plane planes (All-head P plane.items (lists_of planes) h) (all_from_lists_of P planes (All-tail P plane.items (lists_of planes) h))

pub length_lists_of : (planes : List (Vec ℤ)) → length (lists_of planes) ≡ length planes
length_lists_of planes = simp length-map

-- whether all samples up to a place are in a range, from one sample to the next
pub all_upto_more : (P : ℤ → Type 0) (s : List ℤ) (i : ℕ) (w b : Bool) → (IsTrue w ↔ ((k : ℕ) → k < i → P (get_or s k (pos 0)))) → (IsTrue b ↔ P (get_or s i (pos 0)))
    → IsTrue (w && b) ↔ ((k : ℕ) → k < i + 1 → P (get_or s k (pos 0)))
all_upto_more P s i true true before one =
    (λ _ k lt. elim (cases_lt k i) [ inl less ↦ before.0 refl k less | inr past ↦ subst (λ j. P (get_or s j (pos 0))) (let same : i ≡ k = omega arith in same) (one.0 refl) ], λ _. refl)
all_upto_more P s i true false before one = (λ h. absurd (let g : false ≡ true = h in cc), λ h. one.1 (h i (omega arith)))
all_upto_more P s i false b before one = (λ h. absurd (let g : false ≡ true = h in cc), λ h. before.1 (λ k lt. h k (omega arith)))

-- all samples are those up to the last
pub all_upto_last : (P : ℤ → Type 0) (s : List ℤ) (i : ℕ) (w : Bool) → length s ≤ i → (IsTrue w ↔ ((k : ℕ) → k < i → P (get_or s k (pos 0)))) → i ≤ length s → IsTrue w ↔ All P s
all_upto_last P s i w all before few =
    (λ t k d lt. subst P (get_or_default s k (pos 0) d lt) (before.0 t k (omega arith)), λ h. before.1 (λ k lt. h k (pos 0) (omega arith)))
