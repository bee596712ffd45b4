-- Words of negative places.
use Rattle.std.proofs.Common.{◌≡◌, ℕ, ◌+◌, ◌*◌, ◌/◌, ◌%◌, ◌<◌, ◌≤◌, Bool, true, false, ℤ, List, length, set, replicate, refl, sym, ap, ◌∙◌, subst, arith}
use Rattle.std.specs.Prelude.{◌&&◌, nat_lt}
use Rattle.std.specs.Int.{is_negative}
use Rattle.std.proofs.lemmas.Bool.{and_parts}
use Rattle.std.proofs.lemmas.Bool.Decides.{nat_tests}
use Rattle.std.proofs.lemmas.Nat.{same_from_place, mul-add-lt}
use Rattle.jk_scan.specs.declared.shape.BlockShape.{BlockShape}
use Rattle.jk_scan.specs.declared.around.Around.{Around}
use Rattle.jk_scan.specs.Bits.{on}
use Rattle.jk_scan.specs.Neighbours.{Field, is_inside, seen_from}
use Rattle.jk_scan.specs.Moments.{stripes}
use Rattle.jk_scan.specs.Surroundings.{IsAround}
use Rattle.jk_scan.specs.Words.{of_rows, of_gathered, bordered}
use Rattle.jk_scan.specs.WordPlaces.{column, row}
use Rattle.jk_scan.specs.Flags.{IsSized, IsDrawn, across, word_at}
use Rattle.jk_scan.proofs.Laws.{seen_own, row_stripe, drawn_same, drawn_none, inside_parts, rows_between}
use Rattle.jk_block.specs.Meaning.{plane_at, value_in}
use Rattle.jk_block.specs.Steps.{IsBitPlace}
use Rattle.jk_block.specs.declared.encoding.plane.BlockPlane.{BlockPlane}
use Rattle.jk_block.specs.declared.word_place.WordPlace.{WordPlace}
use Rattle.jk_block.specs.Fields.{words_of}
use Rattle.jk_block.specs.encoding.Viewed.{seen, negative_in}
use Rattle.jk_block.specs.encoding.Slices.{signed, bit_in, negative_of, negative_to, IsShort, IsPlaneWord}
use Rattle.jk_block.proofs.encoding.Slicing.{on_sign}
use Rattle.jk_block.proofs.WordBits.{bordered_at, place_shifted}
use Rattle.jk_block.proofs.WordDrawing.{word_drawn}

-- The next word is written.
pub negative_more : (s : BlockShape) (q : Field ℤ) (words : List ℕ) (j i p w : ℕ) → IsSized s → words_of s ≤ length words → j < across s → i < stripes s → p ≡ word_at s (j + 1) (i + 1) → IsShort s q → IsPlaneWord s 31 q j i w
    → IsDrawn s (negative_to s q (i * across s + j)) words → IsDrawn s (negative_to s q (i * across s + (j + 1))) (set words p w)
negative_more s q words j i p w z len hj hi ep short shows drawn =
    subst (λ p. IsDrawn s (negative_to s q (i * across s + (j + 1))) (set words p w)) (sym ep)
    (word_drawn s (negative_to s q (i * across s + j)) (negative_to s q (i * across s + (j + 1))) words j i w z len hj hi drawn
    (λ m l. shows m l ∙ at_bit m (of_rows (m % 8)) refl l)
    (λ x y away. other x y away (negative_of s q x y) refl))
  where
    n : ℕ
    n = i * across s + (j + 1)

    both : (x y : ℕ) (k : Bool) → is_inside s x y ≡ k → bit_in s 31 q x y ≡ negative_of s q x y
    both x y false e = ap (λ b. b && on (signed (q x y)) 31) e ∙ sym (ap (λ b. b && is_negative (q x y)) e)
    both x y true e = ap (λ b. is_inside s x y && b) (on_sign (q x y) (short x y e))

    turned : (b : Bool) → b ≡ (b && true)
    turned b = grind (arith, nat_tests)

    at_bit : (m : ℕ) (r : Bool) → of_rows (m % 8) ≡ r → m < 64 → (of_rows (m % 8) && bit_in s 31 q (column j m) (row i m)) ≡ (of_rows (m % 8) && negative_to s q n (column j m) (row i m))
    at_bit m false e l = ap (λ r. r && bit_in s 31 q (column j m) (row i m)) e ∙ sym (ap (λ r. r && negative_to s q n (column j m) (row i m)) e)
    at_bit m true e l =
        let between = rows_between (m % 8) e in
        let first : row i m / 4 ≡ i = omega (arith, between) in
        let second : column j m / 8 ≡ j = omega (arith, l) in
        let less : nat_lt (i * across s + j) n ≡ true = grind (arith, nat_tests) in
        let sooner : true ≡ nat_lt (row i m / 4 * across s + column j m / 8) n = sym (ap (λ y. nat_lt (y * across s + column j m / 8) n) first ∙ ap (λ x. nat_lt (i * across s + x) n) second ∙ less) in
        ap (λ b. of_rows (m % 8) && b) (both (column j m) (row i m) (is_inside s (column j m) (row i m)) refl ∙ turned (negative_of s q (column j m) (row i m)) ∙ ap (λ b. negative_of s q (column j m) (row i m) && b) sooner)

    apart : (a b : ℕ) → (a ≡ b → ⊥) → nat_lt a (b + 1) ≡ nat_lt a b
    apart a b h = grind (arith, nat_tests)

    other : (x y : ℕ) → (x / 8 ≡ j → y / 4 ≡ i → ⊥) → (b : Bool) → negative_of s q x y ≡ b → negative_to s q n x y ≡ negative_to s q (i * across s + j) x y
    other x y away false e = ap (λ b. b && nat_lt (y / 4 * across s + x / 8) n) e ∙ sym (ap (λ b. b && nat_lt (y / 4 * across s + x / 8) (i * across s + j)) e)
    other x y away true e =
        let parts = inside_parts s x y (and_parts (is_inside s x y) (is_negative (q x y)) e).0 in
        let p0 = parts.0 in
        ap (λ b. negative_of s q x y && b)
        (ap (nat_lt (y / 4 * across s + x / 8)) (let e : n ≡ i * across s + j + 1 = omega arith in e)
        ∙ apart (y / 4 * across s + x / 8) (i * across s + j) (λ g. let one = same_from_place (y / 4) (x / 8) i j (across s) (omega (arith, p0)) hj g in away one.1 one.0))

pub negative_none : (s : BlockShape) (q : Field ℤ) (size : ℕ) → IsDrawn s (negative_to s q 0) (replicate size 0)
negative_none s q size = drawn_none s (negative_to s q 0) size (λ x y. gate (negative_of s q x y) (y / 4 * across s + x / 8))
  where
    gate : (b : Bool) (n : ℕ) → (b && nat_lt n 0) ≡ false
    gate b n = grind (arith, nat_tests)

pub negative_all : (s : BlockShape) (q : Field ℤ) (n : ℕ) (words : List ℕ) → n ≡ stripes s * across s → IsDrawn s (negative_to s q n) words → IsDrawn s (negative_of s q) words
negative_all s q n words e = drawn_same s (negative_to s q n) (negative_of s q) words (λ x y. by x y (negative_of s q x y) refl)
  where
    by : (x y : ℕ) (b : Bool) → negative_of s q x y ≡ b → (negative_of s q x y && nat_lt (y / 4 * across s + x / 8) n) ≡ negative_of s q x y
    by x y false h = ap (λ b. b && nat_lt (y / 4 * across s + x / 8) n) h ∙ sym h
    by x y true h =
        let parts = inside_parts s x y (and_parts (is_inside s x y) (is_negative (q x y)) h).0 in
        let p0 = parts.0 in let p1 = parts.1 in
        let m = mul-add-lt (y / 4) (across s) (x / 8) (stripes s) (omega (arith, p1)) (omega (arith, p0)) in
        let l : nat_lt (y / 4 * across s + x / 8) n ≡ true = grind (arith, nat_tests, m, e) in
        ap (λ b. negative_of s q x y && b) l ∙ turned (negative_of s q x y)
      where
        turned : (b : Bool) → (b && true) ≡ b
        turned b = grind (arith, nat_tests)

-- the sign of a place
pub sign_bit : (v : BlockPlane) (at : WordPlace) (k : ℕ) (signs : Around) → IsBitPlace v.shape at k → IsAround (bordered (seen_from v.shape at.stripe (negative_in v))) at.word at.stripe signs → on signs.centre k ≡ (seen v).negative (column at.word k) (row at.stripe k)
unfolding plane_at
sign_bit v at k signs place h =
    let shifted = place_shifted at.word at.stripe k place.on_row in
    let between = rows_between (k % 8) place.on_row in
    ap (on signs.centre) (let e : k ≡ 8 * (k / 8) + k % 8 = omega arith in e)
    ∙ h.centre (k / 8) (k % 8) (let w = place.within in omega (arith, w)) (omega arith)
    ∙ ap (λ g. g && bordered (seen_from v.shape at.stripe (negative_in v)) (column (at.word + 1) k) (row (at.stripe + 1) k)) (gathered between.1)
    ∙ ap (λ x. bordered (seen_from v.shape at.stripe (negative_in v)) x (row (at.stripe + 1) k)) shifted.0 ∙ ap (λ y. bordered (seen_from v.shape at.stripe (negative_in v)) (column at.word k + 8) y) shifted.1
    ∙ bordered_at (seen_from v.shape at.stripe (negative_in v)) (column at.word k) (row at.stripe k)
    ∙ seen_own v.shape at.stripe (negative_in v) (column at.word k) (row at.stripe k) (let own = row_stripe at.stripe k place.on_row in omega (arith, own))
    ∙ ap (λ b. b && is_negative (value_in v.shape v.values.now (column at.word k) (row at.stripe k))) place.inside
  where
    gathered : {b : ℕ} → b < 5 → of_gathered b ≡ true
    gathered l = grind (arith, nat_tests)
