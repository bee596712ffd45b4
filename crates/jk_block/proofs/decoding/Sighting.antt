-- What is seen of a word where one of its places becomes significant.
use Rattle.std.proofs.Common.{◌≡◌, ℕ, ◌+◌, ◌-◌, ◌*◌, ◌/◌, ◌%◌, ◌^◌, ◌<◌, ◌≤◌, Bool, true, false, not, cond, refl, sym, ap, ◌∙◌, subst, arith}
use Rattle.std.specs.Prelude.{◌&&◌, ◌||◌, nat_eq, nat_le}
use Rattle.std.specs.Int.RustNames.{bit_or}
use Rattle.std.proofs.lemmas.Bool.Decides.{nat_tests}
use Rattle.std.proofs.lemmas.Nat.{pow_pos}
use Rattle.jk_scan.specs.declared.around.Around.{Around}
use Rattle.jk_scan.specs.Words.{Truths, of_rows, of_gathered, bordered}
use Rattle.jk_scan.specs.WordPlaces.{column, row}
use Rattle.jk_scan.specs.Surroundings.{IsAround}
use Rattle.jk_scan.specs.declared.shape.BlockShape.{BlockShape}
use Rattle.jk_scan.specs.Neighbours.{seen_from}
use Rattle.jk_scan.proofs.Laws.{same_field, seen_is, row_stripe, rows_between, IsPut}
use Rattle.jk_block.specs.declared.word_place.WordPlace.{WordPlace}
use Rattle.jk_block.specs.declared.decoding.sight.Sight.{Sight}
use Rattle.jk_block.specs.Meaning.{above}
use Rattle.jk_block.specs.Reading.{put}
use Rattle.jk_block.specs.Steps.{IsBitPlace}
use Rattle.jk_block.specs.decoding.BlockStates.{Draft, significant_in, coded_in}
use Rattle.jk_block.specs.decoding.Sights.{Sees}
use Rattle.jk_block.proofs.Drawing.{significant_put}
use Rattle.jk_block.proofs.WordBits.{around_also}

-- a place has another value
put_seen : (f : Truths) (j i z new : ℕ) (bit : Bool) (seen : Around) → z < 64 → of_rows (z % 8) ≡ true → IsPut seen.centre new z bit → IsAround (bordered f) j i seen
    → IsAround (bordered (put f (column j z) (row i z) bit)) j i record { centre = new; west = seen.west; east = seen.east }
put_seen f j i z new bit seen lim on_row is_put h =
    let between = rows_between (z % 8) on_row in
    record {
      centre = λ c b p q. is_put (8 * c + b) (omega arith) ∙ ap (λ v. cond (nat_eq (8 * c + b) z) bit v) (h.centre c b p q)
          ∙ here (of_gathered b) (nat_le 8 (8 * (j + 1) + c)) (nat_le 4 (4 * (i + 1) + b - 1)) (f (8 * (j + 1) + c - 8) (4 * (i + 1) + b - 1 - 4)) (nat_eq (8 * c + b) z)
          (nat_eq (8 * (j + 1) + c - 8) (column j z) && nat_eq (4 * (i + 1) + b - 1 - 4) (row i z))
          (λ e. own c b p q between.0 between.1 e) (same c b p q between.0 between.1);
      west = λ c b p q. h.west c b p q ∙ away (of_gathered b) (nat_le 8 (8 * j + c)) (nat_le 4 (4 * (i + 1) + b - 1)) (f (8 * j + c - 8) (4 * (i + 1) + b - 1 - 4)) (nat_eq (8 * j + c - 8) (column j z)) (nat_eq (4 * (i + 1) + b - 1 - 4) (row i z))
          (λ e. grind (arith, nat_tests));
      east = λ c b p q. h.east c b p q ∙ away (of_gathered b) (nat_le 8 (8 * (j + 2) + c)) (nat_le 4 (4 * (i + 1) + b - 1)) (f (8 * (j + 2) + c - 8) (4 * (i + 1) + b - 1 - 4)) (nat_eq (8 * (j + 2) + c - 8) (column j z)) (nat_eq (4 * (i + 1) + b - 1 - 4) (row i z))
          (λ e. grind (arith, nat_tests));
    }
  where
    away : (g u v w p q : Bool) → (u ≡ true → p ≡ false) → (g && (u && (v && w))) ≡ (g && (u && (v && cond (p && q) bit w)))
    away g true v w p q e = let e0 = e refl in ap (λ p. g && (v && cond (p && q) bit w)) (sym e0)
    away true false v w p q e = refl
    away false false v w p q e = refl

    own : (c b : ℕ) → c < 8 → b < 8 → 1 ≤ z % 8 → z % 8 < 5 → nat_eq (8 * c + b) z ≡ true → (of_gathered b ≡ true) × (nat_le 8 (8 * (j + 1) + c) ≡ true) × (nat_le 4 (4 * (i + 1) + b - 1) ≡ true)
    own c b p q k0 k1 e = (grind (arith, nat_tests), grind (arith, nat_tests), grind (arith, nat_tests))

    same : (c b : ℕ) → c < 8 → b < 8 → 1 ≤ z % 8 → z % 8 < 5 → of_gathered b ≡ true → nat_le 8 (8 * (j + 1) + c) ≡ true → nat_le 4 (4 * (i + 1) + b - 1) ≡ true
        → nat_eq (8 * c + b) z ≡ (nat_eq (8 * (j + 1) + c - 8) (8 * j + z / 8) && nat_eq (4 * (i + 1) + b - 1 - 4) (4 * i + z % 8 - 1))
    same c b p q k0 k1 e g k = grind (arith, nat_tests)

    here : (g u v w e place : Bool) → (e ≡ true → (g ≡ true) × (u ≡ true) × (v ≡ true)) → (g ≡ true → u ≡ true → v ≡ true → e ≡ place) → cond e bit (g && (u && (v && w))) ≡ (g && (u && (v && cond place bit w)))
    here true true true w e place a d = ap (λ e. cond e bit w) (d refl refl refl)
    here g u v w true place a d =
        let t = a refl in let t0 = t.0 in let t1 = t.1 in let t2 = t.2 in
        let d0 = d t0 t1 t2 in
        sym (ap (λ g. g && (u && (v && cond place bit w))) t0 ∙ ap (λ u. u && (v && cond place bit w)) t1 ∙ ap (λ v. v && cond place bit w) t2 ∙ ap (λ p. cond p bit w) (sym d0))
    here false u v w false place a d = refl
    here true false v w false place a d = refl
    here true true false w false place a d = refl

-- a stripe sees a value that is put into one of its own places
seen_put : (s : BlockShape) (f : Truths) (j i z : ℕ) (bit : Bool) → of_rows (z % 8) ≡ true → (x y : ℕ) → seen_from s i (put f (column j z) (row i z) bit) x y ≡ put (seen_from s i f) (column j z) (row i z) bit x y
seen_put s f j i z bit on_row x y =
    let own = row_stripe i z on_row in
    seen_is s i (put f (column j z) (row i z) bit) x y
    ∙ gate (nat_eq x (column j z)) (nat_eq y (row i z)) (f x y) (not s.style.causal) (nat_le (y / 4) i) (λ e. within own (same y (row i z) e))
    ∙ ap (λ v. cond (nat_eq x (column j z) && nat_eq y (row i z)) bit v) (sym (seen_is s i f x y))
  where
    same : (a b : ℕ) → nat_eq a b ≡ true → a ≡ b
    same a b e = grind (arith, nat_tests)

    within : row i z / 4 ≡ i → y ≡ row i z → nat_le (y / 4) i ≡ true
    within own e = let g : y / 4 ≡ i = ap (λ n. n / 4) e ∙ own in grind (arith, nat_tests)

    seen_whole : (b c v : Bool) → v ≡ true → (b && (c || v)) ≡ b
    seen_whole b c v e = grind (arith, nat_tests)

    gate : (p q a c v : Bool) → (q ≡ true → v ≡ true) → (cond (p && q) bit a && (c || v)) ≡ cond (p && q) bit (a && (c || v))
    gate true true a c v h = seen_whole bit c v (h refl)
    gate true false a c v h = refl
    gate false q a c v h = refl

around_put : (s : BlockShape) (f : Truths) (j i z new : ℕ) (bit : Bool) (seen : Around) → z < 64 → of_rows (z % 8) ≡ true → IsPut seen.centre new z bit → IsAround (bordered (seen_from s i f)) j i seen
    → IsAround (bordered (seen_from s i (put f (column j z) (row i z) bit))) j i record { centre = new; west = seen.west; east = seen.east }
around_put s f j i z new bit seen lim on_row is_put h =
    subst (λ (g : Truths). IsAround (bordered g) j i record { centre = new; west = seen.west; east = seen.east })
    (sym (same_field (seen_from s i (put f (column j z) (row i z) bit)) (put (seen_from s i f) (column j z) (row i z) bit) (seen_put s f j i z bit on_row)))
    (put_seen (seen_from s i f) j i z new bit seen lim on_row is_put h)

-- the place becomes significant, with its sign
pub sees_significant : (at : WordPlace) (d : Draft) (sight : Sight) (k new : ℕ) (negative : Bool) → IsBitPlace d.shape at k → IsPut sight.negative.centre new k negative → Sees at d sight
    → Sees at (coded_in at.plane (column at.word k) (row at.stripe k) true negative d)
    record { significant = record { centre = bit_or sight.significant.centre (1 * 2 ^ k % 2 ^ 64); west = sight.significant.west; east = sight.significant.east }; negative = record { centre = new; west = sight.negative.west; east = sight.negative.east } }
sees_significant at d sight k new negative place is_put s =
    let x = column at.word k in
    let y = row at.stripe k in
    let d' = coded_in at.plane x y true negative d in
    record {
      significant = around_also d.shape (significant_in d) (significant_in d') at.word at.stripe k sight.significant place.within place.on_row
          (λ u v. significant_put d.shape d.magnitude x y (above (at.plane + 1) (d.magnitude x y) + 2 ^ at.plane) place.inside (let p = pow_pos at.plane in omega (arith, p)) u v) s.significant;
      negative = around_put d.shape d.negative at.word at.stripe k new negative sight.negative place.within place.on_row is_put s.negative;
    }
