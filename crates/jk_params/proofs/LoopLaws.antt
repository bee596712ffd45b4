-- One step of each loop over components and tiles, and its end.
use Rattle.std.proofs.Common.{◌≡◌, ℕ, suc, ◌+◌, ◌-◌, ◌<◌, ◌≤◌, min, List, [], ◌∷◌, ◌++◌, Some, Ok, refl, ap, ◌∙◌, add-one, arith}
use Rattle.jk_math.specs.Answer.{◌>>=◌}
use Rattle.jk_marks.specs.declared.coding.Coding.{Coding}
use Rattle.jk_marks.specs.declared.head.TileHead.{TileHead}
use Rattle.jk_marks.specs.declared.main_header.Main.{Main}
use Rattle.jk_params.specs.CodingReading.{coding_at, codings_from}
use Rattle.jk_params.specs.Headers.{total}

pub codings_more : (main : Main) (head : TileHead) (n c : ℕ) (done : List Coding) → c < n → codings_from main head (n - c) c done ≡ (coding_at main (Some head) c >>= λ k. codings_from main head (n - (c + 1)) (c + 1) (done ++ k ∷ []))
unfolding codings_from
codings_more main head n c done lt =
    let m : n - c ≡ suc (n - (c + 1)) = omega (arith, lt) in
    ap (λ m. codings_from main head m c done) m ∙ refl

pub codings_end : (main : Main) (head : TileHead) (n c : ℕ) (done : List Coding) → n ≤ c → codings_from main head (n - c) c done ≡ Ok done
unfolding codings_from
codings_end main head n c done le =
    let m : n - c ≡ 0 = omega (arith, le) in
    ap (λ m. codings_from main head m c done) m ∙ refl

total_next : (f : ℕ → ℕ) (n : ℕ) → total f (suc n) ≡ total f n + f n
unfolding total
total_next f n = refl

pub total_more : (f : ℕ → ℕ) (n : ℕ) → total f (n + 1) ≡ total f n + f n
total_more f n = rw add-one (total_next f n)

pub total_none : (f : ℕ → ℕ) → total f 0 ≡ 0
unfolding total
total_none f = refl

-- a sum that is cut at m
pub cut_none : (f : ℕ → ℕ) (m : ℕ) → 0 ≡ min (total f 0) m
cut_none f m = let none = total_none f in omega (arith, none)

pub cut_more : (f : ℕ → ℕ) (n m count more : ℕ) → count ≡ min (total f n) m → more ≡ min (f n) m → min (count + more) m ≡ min (total f (n + 1)) m
cut_more f n m count more e g = let next = total_more f n in omega (arith, next, e, g)

pub cut_end : (f : ℕ → ℕ) (n i m count : ℕ) → i ≤ n → n ≤ i → count ≡ min (total f i) m → count ≡ min (total f n) m
cut_end f n i m count le ge e = let same : i ≡ n = omega (arith, le, ge) in e ∙ ap (λ k. min (total f k) m) same
