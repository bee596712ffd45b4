-- One step of each loop over the segments of a header, and its end.
use Rattle.std.proofs.Common.{◌≡◌, ℕ, zero, suc, ◌+◌, ◌-◌, ◌<◌, ◌≤◌, cond, eqb, true, false, List, [], ◌++◌, take, drop, refl, sym, ap, ◌∙◌, arith}
use Rattle.std.proofs.lemmas.Bool.{eq-eqb, ne_eqb}
use Rattle.std.proofs.lemmas.List.{drop-drop}
use Rattle.byteorder.specs.Endian.{big_number}
use Rattle.jk_marks.specs.Copying.{segment_size, kept_front, kept_at, size_at}

pub kept-suc : (n last out : ℕ) (bytes : List ℕ)
    → kept_at (suc n) last out bytes
    ≡ cond (eqb (segment_size last bytes) 0) [] (kept_front (segment_size last bytes) out bytes ++ kept_at n last out (drop (segment_size last bytes) bytes))
unfolding kept_at
kept-suc n last out bytes = refl

pub kept_stop : (n last out : ℕ) (bytes : List ℕ) → segment_size last bytes ≡ 0 → kept_at n last out bytes ≡ []
unfolding kept_at
kept_stop zero last out bytes e = refl
kept_stop (suc n) last out bytes e = let none : eqb (segment_size last bytes) 0 ≡ true = eq-eqb _ _ e in rw none refl

pub kept_end : (n i last out : ℕ) (bytes : List ℕ) → n ≤ i → kept_at (n - i) last out bytes ≡ []
unfolding kept_at
kept_end n i last out bytes le =
    let m : n - i ≡ 0 = omega arith in
    ap (λ k. kept_at k last out bytes) m ∙ refl

pub kept_more : (n i last out at size : ℕ) (bytes : List ℕ) → i < n → size ≡ segment_size last (drop at bytes) → 0 < size
    → kept_at (n - i) last out (drop at bytes) ≡ kept_front size out (drop at bytes) ++ kept_at (n - (i + 1)) last out (drop (at + size) bytes)
kept_more n i last out at size bytes lt e some =
    let m : n - i ≡ suc (n - (i + 1)) = omega arith in
    let rest = drop at bytes in
    let not_none : eqb (segment_size last rest) 0 ≡ false = ne_eqb _ _ (λ z. omega (arith, z, e, some)) in
    ap (λ k. kept_at k last out rest) m
    ∙ kept-suc (n - (i + 1)) last out rest
    ∙ ap (λ b. cond b [] (kept_front (segment_size last rest) out rest ++ kept_at (n - (i + 1)) last out (drop (segment_size last rest) rest))) not_none
    ∙ ap (λ s. kept_front s out rest ++ kept_at (n - (i + 1)) last out (drop s rest)) (sym e)
    ∙ ap (λ (xs : List ℕ). kept_front size out rest ++ kept_at (n - (i + 1)) last out xs) (drop-drop size at bytes)

pub front_left_out : (size out : ℕ) (bytes : List ℕ) → big_number 2 bytes ≡ out → kept_front size out bytes ≡ []
front_left_out size out bytes e = let same : eqb (big_number 2 bytes) out ≡ true = eq-eqb _ _ e in rw same refl

pub front_taken : (size out at : ℕ) (bytes : List ℕ) → (big_number 2 bytes ≡ out → ⊥) → kept_front size out bytes ≡ take size bytes
front_taken size out at bytes e = let other : eqb (big_number 2 bytes) out ≡ false = ne_eqb _ _ e in rw other refl

pub size-suc : (n last : ℕ) (bytes : List ℕ) → size_at (suc n) last bytes ≡ cond (eqb (segment_size last bytes) 0) 0 (segment_size last bytes + size_at n last (drop (segment_size last bytes) bytes))
unfolding size_at
size-suc n last bytes = refl

pub size_stop : (n last : ℕ) (bytes : List ℕ) → segment_size last bytes ≡ 0 → size_at n last bytes ≡ 0
unfolding size_at
size_stop zero last bytes e = refl
size_stop (suc n) last bytes e = let none : eqb (segment_size last bytes) 0 ≡ true = eq-eqb _ _ e in rw none refl

pub size_end : (n i last : ℕ) (bytes : List ℕ) → n ≤ i → size_at (n - i) last bytes ≡ 0
unfolding size_at
size_end n i last bytes le =
    let m : n - i ≡ 0 = omega arith in
    ap (λ k. size_at k last bytes) m ∙ refl

pub size_more : (n i last at size : ℕ) (bytes : List ℕ) → i < n → size ≡ segment_size last (drop at bytes) → 0 < size
    → size_at (n - i) last (drop at bytes) ≡ size + size_at (n - (i + 1)) last (drop (at + size) bytes)
size_more n i last at size bytes lt e some =
    let m : n - i ≡ suc (n - (i + 1)) = omega arith in
    let rest = drop at bytes in
    let not_none : eqb (segment_size last rest) 0 ≡ false = ne_eqb _ _ (λ z. omega (arith, z, e, some)) in
    ap (λ k. size_at k last rest) m
    ∙ size-suc (n - (i + 1)) last rest
    ∙ ap (λ b. cond b 0 (segment_size last rest + size_at (n - (i + 1)) last (drop (segment_size last rest) rest))) not_none
    ∙ ap (λ s. s + size_at (n - (i + 1)) last (drop s rest)) (sym e)
    ∙ ap (λ (xs : List ℕ). size + size_at (n - (i + 1)) last xs) (drop-drop size at bytes)
