-- The blocks of empty packets.
use Rattle.std.proofs.Common.{◌≡◌, ℕ, zero, suc, ◌+◌, ◌-◌, ◌*◌, ◌≤◌, true, false, List, ◌∷◌, ◌++◌, length, take, replicate, refl, sym, ap, ◌∙◌, arith}
use Rattle.std.proofs.Math.Seq.{take-append_seam}
use Rattle.std.proofs.lemmas.List.{take-replicate}
use Rattle.jk_window.specs.declared.emptying.TheConstants.{EMPTIED, EMPTIED_WITH_EPH}
use Rattle.jk_window.specs.Emptying.{emptied_texts}
use Rattle.jk_window.proofs.NumberedPlans.{texts_none, texts_more, texts_both, texts_length}

-- one byte for each
texts_zeros : (n : ℕ) → emptied_texts false n ≡ replicate n 0
texts_zeros zero = texts_none false
texts_zeros (suc n) = texts_more false n ∙ ap (λ (xs : List ℕ). 0 ∷ xs) (texts_zeros n)

all_zeros : EMPTIED ≡ replicate 1024 0
all_zeros = refl

all_with_eph : EMPTIED_WITH_EPH ≡ emptied_texts true 64
unfolding emptied_texts
all_with_eph = refl

pub some_zeros : (n : ℕ) → n ≤ 1024 → take n EMPTIED ≡ emptied_texts false n
some_zeros n le = ap (take n) all_zeros ∙ take-replicate n 1024 0 le ∙ sym (texts_zeros n)

pub some_with_eph : (n : ℕ) → n ≤ 64 → take (3 * n) EMPTIED_WITH_EPH ≡ emptied_texts true n
some_with_eph n le =
    let sum : 64 ≡ n + (64 - n) = omega (arith, le) in
    let size : length (emptied_texts true n) ≡ 3 * n = texts_length true n ∙ (let is : n * 3 ≡ 3 * n = omega arith in is) in
    ap (take (3 * n)) (all_with_eph ∙ ap (emptied_texts true) sum ∙ texts_both true n (64 - n))
    ∙ ap (λ k. take k (emptied_texts true n ++ emptied_texts true (64 - n))) (sym size)
    ∙ take-append_seam (emptied_texts true n) (emptied_texts true (64 - n))
