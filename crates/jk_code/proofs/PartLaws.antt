-- The tile-parts that are written: one for each tile.
use Rattle.std.proofs.Common.{◌≡◌, ◌≢◌, ℕ, zero, suc, ◌+◌, ◌^◌, ◌<◌, ◌≤◌, ◌⊎◌, inl, inr, Bool, true, false, eqb, List, [], ◌∷◌, length, map, refl, ap, sym, ◌∙◌, subst, arith, lit<, lit≤}
use Rattle.std.specs.List.{range_with_len, AllByRecursion}
use Rattle.std.proofs.lemmas.Bool.{cases_lt, ltb-true, eqb-true, eqb-false, ne_eqb}
use Rattle.jk_math.specs.Picture.{Picture}
use Rattle.jk_marks.specs.Siz.{tile_count}
use Rattle.jk_marks.specs.Codestream.{CodestreamPart, of_tile, only_part_of, IsPart, AreParts, AreClosedBeforeLast}
use Rattle.jk_geom.proofs.Laws.{some_tile}
use Rattle.jk_params.specs.declared.parameters.Parameters.{Parameters}
use Rattle.jk_params.specs.Headers.{total}
use Rattle.jk_params.specs.Profile.{siz_of, IsWrittenBy}
use Rattle.jk_params.proofs.Laws.{put}
use Rattle.jk_tile.specs.encoding.PacketsWritten.{tile_text}
use Rattle.jk_code.specs.Written.{part_for, part_fits, parts_fit}
use Rattle.jk_window.proofs.Laws.{below_at}

-- the parts that are written
abbrev pub parts_for : Picture → Parameters → List CodestreamPart
parts_for p q = map (part_for p q) (range_with_len 0 (tile_count (siz_of p q)))

-- sums over the numbers below n
pub total_below : (f g : ℕ → ℕ) (n : ℕ) → ((t : ℕ) → t < n → f t ≡ g t) → total f n ≡ total g n
unfolding total
total_below f g zero same = refl
total_below f g (suc n) same =
    ap (λ x. x + f n) (total_below f g n (λ t lt. same t (omega (arith, lt)))) ∙ ap (λ x. total g n + x) (same n (omega arith))

-- the parts of a tile among those of the tiles from a on
abbrev run : (ℕ → List ℕ) → ℕ → ℕ → List CodestreamPart
run f a n = map (λ i. only_part_of i (f i)) (range_with_len a n)

no_part : (f : ℕ → List ℕ) (a n t : ℕ) → ((i : ℕ) → a ≤ i → i < a + n → i ≢ t) → of_tile t (run f a n) ≡ []
no_part f a zero t apart = refl
no_part f a (suc n) t apart =
    let rest = of_tile t (run f (a + 1) n) in
    let differs : eqb a t ≡ false = ne_eqb a t (apart a (omega arith) (omega arith)) in
    ap (λ b. put b (only_part_of a (f a)) rest) differs ∙ no_part f (a + 1) n t (λ i le lt. apart i (omega (arith, le)) (omega (arith, lt)))

one_part : (f : ℕ → List ℕ) (a n t : ℕ) → a ≤ t → t < a + n → of_tile t (run f a n) ≡ only_part_of t (f t) ∷ []
one_part f a zero t le lt = absurd (omega (arith, le, lt))
one_part f a (suc n) t le lt = by (eqb a t) refl (one_part f (a + 1) n t)
  where
    rest : List CodestreamPart
    rest = of_tile t (run f (a + 1) n)

    by : (b : Bool) → eqb a t ≡ b → (a + 1 ≤ t → t < a + 1 + n → rest ≡ only_part_of t (f t) ∷ []) → of_tile t (run f a (suc n)) ≡ only_part_of t (f t) ∷ []
    by true e later =
        let same = eqb-true a t e in
        ap (λ b. put b (only_part_of a (f a)) rest) e
        ∙ ap (λ (ps : List CodestreamPart). only_part_of a (f a) ∷ ps) (no_part f (a + 1) n t (λ i low high is. omega (arith, low, is, same)))
        ∙ ap (λ k. only_part_of k (f k) ∷ []) same
    by false e later =
        let differs = eqb-false a t e in
        ap (λ b. put b (only_part_of a (f a)) rest) e ∙ later (omega (arith, le, differs)) (omega (arith, lt))

-- the only part of a tile
pub part_said : (p : Picture) (q : Parameters) (t : ℕ) → t < tile_count (siz_of p q) → of_tile t (parts_for p q) ≡ part_for p q t ∷ []
part_said p q t lt = one_part (tile_text p q) 0 (tile_count (siz_of p q)) t (omega arith) (omega (arith, lt))

all_run : {X : Type 0} (P : X → Type 0) (g : ℕ → X) (a n : ℕ) → ((t : ℕ) → t < a + n → P (g t)) → AllByRecursion P (map g (range_with_len a n))
all_run P g a zero h = tt
all_run P g a (suc n) h = (h a (omega arith), all_run P g (a + 1) n (λ t lt. h t (omega (arith, lt))))

closed_run : (f : ℕ → List ℕ) (a n : ℕ) → AreClosedBeforeLast (run f a n)
closed_run f a zero = tt
closed_run f a (suc zero) = tt
closed_run f a (suc (suc n)) = (refl, closed_run f (a + 1) (suc n))

part_is : (p : Picture) (q : Parameters) → IsWrittenBy q p → parts_fit p q ≡ true → (t : ℕ) → t < tile_count (siz_of p q) → IsPart (siz_of p q) (part_for p q t)
part_is p q by fit t lt =
    let tiles = by.siz.tiles in
    let short : 14 + length (tile_text p q t) < 2 ^ 32 = ltb-true (14 + length (tile_text p q t)) (2 ^ 32) (below_at (part_fits p q) (tile_count (siz_of p q)) t fit lt) in
    record {
      tile = lt;
      narrow = omega (arith, lt, tiles);
      number = lit≤ tt;
      total = lit< tt;
      fits = omega (arith, short);
      well_formed = record { each = tt; one_coding = lit≤ tt; one_quantisation = lit≤ tt; one_style = λ i. lit≤ tt; one_steps = λ i. lit≤ tt };
    }

-- one part or more, as T.800 asks of them
pub parts_are : (p : Picture) (q : Parameters) → IsWrittenBy q p → parts_fit p q ≡ true → AreParts (siz_of p q) (parts_for p q)
parts_are p q by fit = record {
  some = some (tile_count (siz_of p q)) (some_tile (siz_of p q) by.siz);
  each = all_run (IsPart (siz_of p q)) (part_for p q) 0 (tile_count (siz_of p q)) (λ t lt. part_is p q by fit t (omega (arith, lt)));
  closed = closed_run (tile_text p q) 0 (tile_count (siz_of p q));
  numbered = λ t. numbered t (cases_lt t (tile_count (siz_of p q)));
}
  where
    some : (n : ℕ) → 0 < n → 0 < length (map (part_for p q) (range_with_len 0 n))
    some zero lt = absurd (omega (arith, lt))
    some (suc n) lt = omega arith

    IsNumbered : List CodestreamPart → Type 0
    IsNumbered ps = map (λ (x : CodestreamPart). x.number) ps ≡ range_with_len 0 (length ps)

    numbered : (t : ℕ) → (t < tile_count (siz_of p q)) ⊎ (tile_count (siz_of p q) ≤ t) → IsNumbered (of_tile t (parts_for p q))
    numbered t (inl lt) = subst IsNumbered (sym (part_said p q t lt)) refl
    numbered t (inr ge) =
        let none : of_tile t (parts_for p q) ≡ [] = no_part (tile_text p q) 0 (tile_count (siz_of p q)) t (λ i le lt is. omega (arith, lt, ge, is)) in
        subst IsNumbered (sym none) refl
