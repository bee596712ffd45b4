-- What a sketch shows once the words of a spot are put back.
use Rattle.std.proofs.Common.{◌≡◌, ℕ, ◌+◌, ◌*◌, ◌/◌, ◌%◌, ◌^◌, ◌<◌, ◌≤◌, Bool, true, false, not, cond, List, length, get_or, set, refl, sym, ap, ◌∙◌, subst, inl, inr, arith}
use Rattle.std.specs.Prelude.{◌&&◌, ◌||◌, nat_eq, nat_lt}
use Rattle.std.specs.Int.{bit_not, w64}
use Rattle.std.specs.Int.RustNames.{bit_or, bit_and}
use Rattle.std.proofs.lemmas.Bool.{and_parts}
use Rattle.std.proofs.lemmas.Bool.Decides.{nat_tests}
use Rattle.std.proofs.lemmas.Nat.{pow_pos}
use Rattle.jk_scan.specs.declared.shape.BlockShape.{BlockShape}
use Rattle.jk_scan.specs.Bits.{on}
use Rattle.jk_scan.specs.Neighbours.{Field, is_inside, seen_from}
use Rattle.jk_scan.specs.Moments.{stripes}
use Rattle.jk_scan.specs.Words.{Truths, of_rows, of_gathered, Shows, bordered}
use Rattle.jk_scan.specs.WordPlaces.{column, row}
use Rattle.jk_scan.specs.Flags.{IsDrawn, across, word_at, flag_at}
use Rattle.jk_scan.proofs.Laws.{same_field, on_or, on_and, on_not, seen_own, row_stripe}
use Rattle.jk_block.specs.declared.word_place.WordPlace.{WordPlace}
use Rattle.jk_block.specs.declared.decoding.sight.Sight.{Sight}
use Rattle.jk_block.specs.declared.decoding.block_state.BlockState.{BlockState}
use Rattle.jk_block.specs.Fields.{significant_of, flagged, is_in_word, own_bit, with_word, words_of, plane_bit, number_from, magnitude_of}
use Rattle.jk_block.specs.Meaning.{above}
use Rattle.jk_block.specs.decoding.BlockStates.{Draft, draft_of, significant_in}
use Rattle.jk_block.specs.decoding.Sights.{Held, IsRefined, refined_in}
use Rattle.jk_block.proofs.Drawing.{stays_large}
use Rattle.jk_block.proofs.WordBits.{place_shifted, bordered_at, drawn_bit, limit_bit}
use Rattle.jk_block.proofs.WordDrawing.{word_drawn, bit_place, bit_within, bit_on_row, index_of, flag_word, plane_word}
use Rattle.jk_block.proofs.decoding.Numbers.{number_same, number_put}

-- ---- the bits of words

same_or : {R : Type 0} (b : Bool) → (b ≡ true → R) → (b ≡ false → R) → R
same_or true f g = f refl
same_or false f g = g refl

-- the own places of a gathered word
own_bits : (s r : BlockShape) (f : Truths) (j i word limits m : ℕ) → Shows of_gathered (bordered (seen_from r i f)) (j + 1) (i + 1) word → Shows of_rows (bordered (is_inside s)) (j + 1) (i + 1) limits → m < 64
    → on (bit_and word limits) m ≡ (of_rows (m % 8) && (is_inside s (column j m) (row i m) && f (column j m) (row i m)))
own_bits s r f j i word limits m shows lim l =
    on_and word limits m ∙ ap (λ b. on word m && b) (limit_bit s j i m limits lim l)
    ∙ same_or (of_rows (m % 8))
    (λ e. ap (λ b. b && (of_rows (m % 8) && is_inside s (column j m) (row i m))) (own e) ∙ turned (of_rows (m % 8)) (is_inside s (column j m) (row i m)) (f (column j m) (row i m)) e)
    (λ e. off (on word m) (of_rows (m % 8)) (is_inside s (column j m) (row i m)) (f (column j m) (row i m)) e)
  where
    turned : (r a b : Bool) → r ≡ true → (b && (r && a)) ≡ (r && (a && b))
    turned r a b e = grind (arith, nat_tests)

    off : (w r a b : Bool) → r ≡ false → (w && (r && a)) ≡ (r && (a && b))
    off w r a b e = grind (arith, nat_tests)

    gathered : (b : ℕ) → of_rows b ≡ true → of_gathered b ≡ true
    gathered b e = grind (arith, nat_tests)

    own : of_rows (m % 8) ≡ true → on word m ≡ f (column j m) (row i m)
    own e =
        let shifted = place_shifted j i m e in
        ap (on word) (let g : m ≡ 8 * (m / 8) + m % 8 = omega arith in g) ∙ shows (m / 8) (m % 8) (omega arith) (omega arith)
        ∙ ap (λ b. b && bordered (seen_from r i f) (column (j + 1) m) (row (i + 1) m)) (gathered (m % 8) e)
        ∙ ap (λ c. bordered (seen_from r i f) c (row (i + 1) m)) shifted.0 ∙ ap (λ y. bordered (seen_from r i f) (column j m + 8) y) shifted.1 ∙ bordered_at (seen_from r i f) (column j m) (row i m)
        ∙ seen_own r i f (column j m) (row i m) (let own = row_stripe i m e in omega (arith, own))

own_place : (s r : BlockShape) (f : Truths) (j i word limits x y : ℕ) → Shows of_gathered (bordered (seen_from r i f)) (j + 1) (i + 1) word → Shows of_rows (bordered (is_inside s)) (j + 1) (i + 1) limits → is_in_word j i x y ≡ true
    → on (bit_and word limits) (own_bit x y) ≡ (is_inside s x y && f x y)
own_place s r f j i word limits x y shows lim w =
    let b = bit_place j i x y w in
    own_bits s r f j i word limits (own_bit x y) shows lim (bit_within x y) ∙ ap (λ r. r && (is_inside s (column j (own_bit x y)) (row i (own_bit x y)) && f (column j (own_bit x y)) (row i (own_bit x y)))) (bit_on_row x y)
    ∙ ap (λ u. is_inside s u (row i (own_bit x y)) && f u (row i (own_bit x y))) b.0 ∙ ap (λ v. is_inside s x v && f x v) b.1

drawn_place : (s : BlockShape) (f : Truths) (words : List ℕ) (j i x y : ℕ) → IsDrawn s f words → j < across s → i < stripes s → is_in_word j i x y ≡ true → on (get_or words (word_at s (j + 1) (i + 1)) 0) (own_bit x y) ≡ f x y
drawn_place s f words j i x y drawn hj hi w =
    let b = bit_place j i x y w in
    drawn_bit s f words j i (own_bit x y) drawn hj hi (bit_within x y) ∙ ap (λ r. r && f (column j (own_bit x y)) (row i (own_bit x y))) (bit_on_row x y)
    ∙ ap (λ u. f u (row i (own_bit x y))) b.0 ∙ ap (f x) b.1

-- a place in the word of its plane
plane_here : (s : BlockShape) (bits : List ℕ) (b j i x y : ℕ) → is_in_word j i x y ≡ true → on (get_or bits (b * words_of s + word_at s (j + 1) (i + 1)) 0) (own_bit x y) ≡ plane_bit s bits b x y
plane_here s bits b j i x y w =
    let p = and_parts (nat_eq (x / 8) j) (nat_eq (y / 4) i) w in
    let p0 = p.0 in let p1 = p.1 in
    let ex : j ≡ x / 8 = grind (arith, nat_tests) in
    let ey : i ≡ y / 4 = grind (arith, nat_tests) in
    ap (λ u. on (get_or bits (b * words_of s + word_at s (u + 1) (i + 1)) 0) (own_bit x y)) ex ∙ ap (λ v. on (get_or bits (b * words_of s + word_at s (x / 8 + 1) (v + 1)) 0) (own_bit x y)) ey

equal_true : (a b : ℕ) → nat_eq a b ≡ true → a ≡ b
equal_true a b e = grind (arith, nat_tests)

equal_false : (a b : ℕ) → (a ≡ b → ⊥) → nat_eq a b ≡ false
equal_false a b e = grind (arith, nat_tests)

equal_self : (a : ℕ) → nat_eq a a ≡ true
equal_self a = grind (arith, nat_tests)

-- ---- places that have become significant

-- What is known where words are put back.
pub record Puts (at : WordPlace) (w : BlockState) (p q : ℕ) : Type 0 where
  pub word : at.word < across w.shape
  pub stripe : at.stripe < stripes w.shape
  pub plane : at.plane < w.planes
  pub place : p ≡ word_at w.shape (at.word + 1) (at.stripe + 1)
  pub plane_place : q ≡ at.plane * words_of w.shape + p

abbrev pub significant_word : (sight : Sight) (limits : ℕ) → ℕ
significant_word sight limits = bit_and sight.significant.centre limits

abbrev pub new_word : (w : BlockState) (sight : Sight) (limits p : ℕ) → ℕ
new_word w sight limits p = bit_and (significant_word sight limits) (bit_not w64 (get_or w.significant.now p 0))

abbrev pub significant_bits : (w : BlockState) (sight : Sight) (limits p q : ℕ) → List ℕ
significant_bits w sight limits p q = set w.bits.items q (bit_or (get_or w.bits.items q 0) (new_word w sight limits p))

plane_index : (at : WordPlace) (w : BlockState) (p q : ℕ) → Puts at w p q → q ≡ at.plane * words_of w.shape + word_at w.shape (at.word + 1) (at.stripe + 1)
plane_index at w p q a = a.plane_place ∙ ap (λ p. at.plane * words_of w.shape + p) a.place

pub plane_room : (at : WordPlace) (w : BlockState) (p q : ℕ) → Puts at w p q → q < length w.bits.items
plane_room at w p q a = let i = index_of w.shape w.planes at.plane (at.word + 1) (at.stripe + 1) a.plane (let h = a.word in omega (arith, h)) (let h = a.stripe in omega (arith, h)) in let e = plane_index at w p q a in let r = w.room in omega (arith, i, e, r)

absorbed : (a b : Bool) → (a && (a && b)) ≡ (a && b)
absorbed true b = refl
absorbed false b = refl

module_lit : (at : WordPlace) (w : BlockState) (d : Draft) → d.shape ≡ w.shape → (x y : ℕ) → significant_in d x y ≡ significant_of w.shape d.magnitude x y
module_lit at w d e x y = ap (λ (s : BlockShape). significant_of s d.magnitude x y) e

-- which places of the word are new
new_bit : (at : WordPlace) (w : BlockState) (sight : Sight) (d : Draft) (limits p q x y : ℕ) → Puts at w p q → Shows of_rows (bordered (is_inside w.shape)) (at.word + 1) (at.stripe + 1) limits → Held at (draft_of w) sight d → get_or w.significant.now p 0 < 2 ^ 64
    → is_in_word at.word at.stripe x y ≡ true → on (new_word w sight limits p) (own_bit x y) ≡ (significant_of w.shape d.magnitude x y && not (significant_in (draft_of w) x y))
new_bit at w sight d limits p q x y a lim h room word =
    on_and (significant_word sight limits) (bit_not w64 (get_or w.significant.now p 0)) (own_bit x y)
    ∙ ap (λ b. b && on (bit_not w64 (get_or w.significant.now p 0)) (own_bit x y))
    (own_place w.shape d.shape (significant_in d) at.word at.stripe sight.significant.centre limits x y h.sees.significant.centre lim word ∙ ap (λ b. is_inside w.shape x y && b) (module_lit at w d h.shape x y) ∙ absorbed (is_inside w.shape x y) (nat_lt 0 (d.magnitude x y)))
    ∙ ap (λ b. significant_of w.shape d.magnitude x y && b) (on_not w64 (get_or w.significant.now p 0) (own_bit x y) room (bit_within x y) ∙ ap (λ p. not (on (get_or w.significant.now p 0) (own_bit x y))) a.place
    ∙ ap not (drawn_place w.shape (significant_in (draft_of w)) w.significant.now at.word at.stripe x y w.known_significant a.word a.stripe word))

-- which bits a plane has behind it
significant_bit : (at : WordPlace) (w : BlockState) (sight : Sight) (limits p q c x y : ℕ) → Puts at w p q → is_inside w.shape x y ≡ true
    → plane_bit w.shape (significant_bits w sight limits p q) c x y ≡ (plane_bit w.shape w.bits.items c x y || ((nat_eq c at.plane && is_in_word at.word at.stripe x y) && on (new_word w sight limits p) (own_bit x y)))
significant_bit at w sight limits p q c x y a inside =
    let new = new_word w sight limits p in
    let bits = w.bits.items in
    plane_word w.shape bits w.planes at.plane at.word at.stripe q (bit_or (get_or bits q 0) new) c x y w.room a.plane a.word a.stripe (plane_index at w p q a) inside
    ∙ same_or (nat_eq c at.plane && is_in_word at.word at.stripe x y)
    (λ e. let both = and_parts (nat_eq c at.plane) (is_in_word at.word at.stripe x y) e in
    ap (λ t. cond t (on (bit_or (get_or bits q 0) new) (own_bit x y)) (plane_bit w.shape bits c x y)) e
    ∙ on_or (get_or bits q 0) new (own_bit x y)
    ∙ ap (λ b. b || on new (own_bit x y)) (ap (λ q. on (get_or bits q 0) (own_bit x y)) (plane_index at w p q a) ∙ plane_here w.shape bits at.plane at.word at.stripe x y both.1 ∙ ap (λ b. plane_bit w.shape bits b x y) (sym (equal_true c at.plane both.0)))
    ∙ sym (ap (λ t. plane_bit w.shape bits c x y || (t && on new (own_bit x y))) e))
    (λ e. ap (λ t. cond t (on (bit_or (get_or bits q 0) new) (own_bit x y)) (plane_bit w.shape bits c x y)) e
    ∙ sym (ap (λ t. plane_bit w.shape bits c x y || (t && on new (own_bit x y))) e ∙ or_false (plane_bit w.shape bits c x y)))
  where
    or_false : (b : Bool) → (b || false) ≡ b
    or_false true = refl
    or_false false = refl

pub significant_magnitude : (at : WordPlace) (w : BlockState) (sight : Sight) (d : Draft) (limits p q : ℕ) → Puts at w p q → Shows of_rows (bordered (is_inside w.shape)) (at.word + 1) (at.stripe + 1) limits → Held at (draft_of w) sight d → get_or w.significant.now p 0 < 2 ^ 64
    → magnitude_of w.shape w.planes (significant_bits w sight limits p q) ≡ d.magnitude
significant_magnitude at w sight d limits p q a lim h room = same_field (magnitude_of w.shape w.planes (significant_bits w sight limits p q)) d.magnitude (λ x y. same_or (is_inside w.shape x y) (inside x y) (outside x y))
  where
    outside : (x y : ℕ) → is_inside w.shape x y ≡ false → magnitude_of w.shape w.planes (significant_bits w sight limits p q) x y ≡ d.magnitude x y
    outside x y e = elim (h.changed x y) [
      | inl same ↦
          ap (λ b. cond b (number_from (λ b. plane_bit w.shape (significant_bits w sight limits p q) b x y) 0 w.planes) 0) e
          ∙ sym (same.magnitude ∙ ap (λ b. cond b (number_from (λ b. plane_bit w.shape w.bits.items b x y) 0 w.planes) 0) e)
      | inr new ↦ absurd (let i : is_inside w.shape x y ≡ true = ap (λ (s : BlockShape). is_inside s x y) (sym h.shape) ∙ new.inside in let c : true ≡ false = sym i ∙ e in cc)
    ]

    as_before : (x y c : ℕ) → is_inside w.shape x y ≡ true → ((nat_eq c at.plane && is_in_word at.word at.stripe x y) && on (new_word w sight limits p) (own_bit x y)) ≡ false
        → plane_bit w.shape (significant_bits w sight limits p q) c x y ≡ plane_bit w.shape w.bits.items c x y
    as_before x y c i off = significant_bit at w sight limits p q c x y a i ∙ ap (λ t. plane_bit w.shape w.bits.items c x y || t) off ∙ or_false (plane_bit w.shape w.bits.items c x y)
      where
        or_false : (b : Bool) → (b || false) ≡ b
        or_false true = refl
        or_false false = refl

    neither : (b : Bool) → (b && not b) ≡ false
    neither true = refl
    neither false = refl

    no_new : (a b c : Bool) → (b ≡ true → c ≡ false) → ((a && b) && c) ≡ false
    no_new true true c f = f refl
    no_new true false c f = refl
    no_new false b c f = refl

    other_plane : (a b c : Bool) → a ≡ false → ((a && b) && c) ≡ false
    other_plane a b c e = ap (λ a. (a && b) && c) e

    dark_zero : (m : ℕ) → m ≡ 0 → nat_lt 0 m ≡ false
    dark_zero m e = grind (arith, nat_tests)

    significant_pow : (b m : ℕ) → m ≡ 2 ^ b → nat_lt 0 m ≡ true
    significant_pow b m e = let q = pow_pos b in let r : 0 < m = omega (arith, q, e) in pos m r
      where
        pos : (m : ℕ) → 0 < m → nat_lt 0 m ≡ true
        pos m r = grind (arith, nat_tests)

    zero_above : (b m : ℕ) → m ≡ 0 → above b m ≡ 0
    zero_above b m e = ap (above b) e ∙ (ap (λ q. q * 2 ^ b) (zero_div (2 ^ b)) ∙ (let g : 0 * 2 ^ b ≡ 0 = omega arith in g))
      where
        zero_div : (p : ℕ) → 0 / p ≡ 0
        zero_div p = omega arith

    inside : (x y : ℕ) → is_inside w.shape x y ≡ true → magnitude_of w.shape w.planes (significant_bits w sight limits p q) x y ≡ d.magnitude x y
    inside x y i = elim (h.changed x y) [
      | inl same ↦
          let significant_same : significant_of w.shape d.magnitude x y ≡ significant_in (draft_of w) x y = ap (λ m. is_inside w.shape x y && nat_lt 0 m) same.magnitude in
          ap (λ b. cond b (number_from (λ b. plane_bit w.shape (significant_bits w sight limits p q) b x y) 0 w.planes) 0) i
          ∙ number_same (λ b. plane_bit w.shape (significant_bits w sight limits p q) b x y) (λ b. plane_bit w.shape w.bits.items b x y) 0 w.planes
          (λ c l m. as_before x y c i (no_new (nat_eq c at.plane) (is_in_word at.word at.stripe x y) (on (new_word w sight limits p) (own_bit x y))
          (λ word. new_bit at w sight d limits p q x y a lim h room word ∙ ap (λ b. b && not (significant_in (draft_of w) x y)) significant_same ∙ neither (significant_in (draft_of w) x y))))
          ∙ sym (same.magnitude ∙ ap (λ b. cond b (number_from (λ b. plane_bit w.shape w.bits.items b x y) 0 w.planes) 0) i)
      | inr new ↦
          let f : ℕ → Bool = λ b. plane_bit w.shape w.bits.items b x y in
          let g : ℕ → Bool = λ b. plane_bit w.shape (significant_bits w sight limits p q) b x y in
          let none : number_from f 0 w.planes ≡ 0 = ap (λ b. cond b (number_from f 0 w.planes) 0) (sym i) ∙ new.before in
          let bit_new : on (new_word w sight limits p) (own_bit x y) ≡ true =
          new_bit at w sight d limits p q x y a lim h room new.word
          ∙ ap (λ b. (b && nat_lt 0 (d.magnitude x y)) && not (significant_in (draft_of w) x y)) i ∙ ap (λ b. b && not (significant_in (draft_of w) x y)) (significant_pow at.plane (d.magnitude x y) new.now)
          ∙ ap (λ b. not (b && nat_lt 0 (cond (is_inside w.shape x y) (number_from f 0 w.planes) 0))) i ∙ ap not (dark_zero (cond (is_inside w.shape x y) (number_from f 0 w.planes) 0) new.before) in
          let here : g at.plane ≡ true =
          significant_bit at w sight limits p q at.plane x y a i ∙ ap (λ t. f at.plane || ((t && is_in_word at.word at.stripe x y) && on (new_word w sight limits p) (own_bit x y))) (equal_self at.plane)
          ∙ ap (λ t. f at.plane || (t && on (new_word w sight limits p) (own_bit x y))) new.word ∙ ap (λ t. f at.plane || t) bit_new ∙ or_true (f at.plane) in
          ap (λ b. cond b (number_from g 0 w.planes) 0) i
          ∙ number_put f g at.plane w.planes a.plane (λ c l other. as_before x y c i (other_plane (nat_eq c at.plane) (is_in_word at.word at.stripe x y) (on (new_word w sight limits p) (own_bit x y)) (equal_false c at.plane other)))
          (zero_above at.plane (number_from f 0 w.planes) none ∙ sym none)
          ∙ ap (λ t. above (at.plane + 1) (number_from f 0 w.planes) + cond t (2 ^ at.plane) 0) here
          ∙ ap (λ m. m + 2 ^ at.plane) (zero_above (at.plane + 1) (number_from f 0 w.planes) none) ∙ (let e : 0 + 2 ^ at.plane ≡ 2 ^ at.plane = omega arith in e) ∙ sym new.now
    ]
      where
        or_true : (b : Bool) → (b || true) ≡ true
        or_true true = refl
        or_true false = refl

-- the signs
abbrev pub sign_words : (w : BlockState) (sight : Sight) (limits p : ℕ) → List ℕ
sign_words w sight limits p = set w.negative.now p (bit_and sight.negative.centre limits)

-- nothing outside is negative
sign_inside : (at : WordPlace) (w : BlockState) (sight : Sight) (d : Draft) → Held at (draft_of w) sight d → (x y : ℕ) → (is_inside w.shape x y && d.negative x y) ≡ d.negative x y
sign_inside at w sight d h x y = same_or (is_inside w.shape x y)
    (λ i. ap (λ b. b && d.negative x y) i)
    (λ o. ap (λ b. b && d.negative x y) o ∙ elim (h.changed x y) [
      | inl same ↦ sym (same.negative ∙ ap (λ b. b && flag_at w.shape w.negative.now x y) o)
      | inr new ↦ absurd (let i : is_inside w.shape x y ≡ true = ap (λ (s : BlockShape). is_inside s x y) (sym h.shape) ∙ new.inside in let c : true ≡ false = sym i ∙ o in cc)
    ])

pub significant_signs : (at : WordPlace) (w : BlockState) (sight : Sight) (d : Draft) (limits p q : ℕ) → Puts at w p q → words_of w.shape ≤ length w.negative.now → Shows of_rows (bordered (is_inside w.shape)) (at.word + 1) (at.stripe + 1) limits → Held at (draft_of w) sight d
    → flagged w.shape (sign_words w sight limits p) ≡ d.negative
significant_signs at w sight d limits p q a len lim h = same_field (flagged w.shape (sign_words w sight limits p)) d.negative (λ x y. same_or (is_inside w.shape x y) (inside x y)
    (λ o. ap (λ b. b && flag_at w.shape (sign_words w sight limits p) x y) o ∙ sym (sym (sign_inside at w sight d h x y) ∙ ap (λ b. b && d.negative x y) o)))
  where
    inside : (x y : ℕ) → is_inside w.shape x y ≡ true → flagged w.shape (sign_words w sight limits p) x y ≡ d.negative x y
    inside x y i =
        ap (λ b. b && flag_at w.shape (sign_words w sight limits p) x y) i
        ∙ flag_word w.shape w.negative.now at.word at.stripe p (bit_and sight.negative.centre limits) x y w.sized len a.word a.stripe a.place i
        ∙ same_or (is_in_word at.word at.stripe x y)
        (λ word. ap (λ t. cond t (on (bit_and sight.negative.centre limits) (own_bit x y)) (flag_at w.shape w.negative.now x y)) word
        ∙ own_place w.shape d.shape d.negative at.word at.stripe sight.negative.centre limits x y h.sees.negative.centre lim word ∙ sign_inside at w sight d h x y)
        (λ away. ap (λ t. cond t (on (bit_and sight.negative.centre limits) (own_bit x y)) (flag_at w.shape w.negative.now x y)) away
        ∙ elim (h.changed x y) [
          | inl same ↦ sym (same.negative ∙ ap (λ b. b && flag_at w.shape w.negative.now x y) i)
          | inr new ↦ absurd (let word = new.word in let c : true ≡ false = sym word ∙ away in cc)
        ])

apart_word : (j i x y : ℕ) → (x / 8 ≡ j → y / 4 ≡ i → ⊥) → is_in_word j i x y ≡ true → ⊥
apart_word j i x y away word =
    let p = and_parts (nat_eq (x / 8) j) (nat_eq (y / 4) i) word in away (equal_true (x / 8) j p.0) (equal_true (y / 4) i p.1)

pub signs_drawn : (at : WordPlace) (w : BlockState) (sight : Sight) (d : Draft) (limits p q : ℕ) → Puts at w p q → words_of w.shape ≤ length w.negative.now → Shows of_rows (bordered (is_inside w.shape)) (at.word + 1) (at.stripe + 1) limits → Held at (draft_of w) sight d
    → IsDrawn w.shape (flagged w.shape (sign_words w sight limits p)) (sign_words w sight limits p)
signs_drawn at w sight d limits p q a len lim h =
    subst (λ (f : Truths). IsDrawn w.shape f (sign_words w sight limits p)) (sym (significant_signs at w sight d limits p q a len lim h))
    (subst (λ p. IsDrawn w.shape d.negative (set w.negative.now p (bit_and sight.negative.centre limits))) (sym a.place)
    (word_drawn w.shape (flagged w.shape w.negative.now) d.negative w.negative.now at.word at.stripe (bit_and sight.negative.centre limits) w.sized len a.word a.stripe w.signs
    (λ m l. own_bits w.shape d.shape d.negative at.word at.stripe sight.negative.centre limits m h.sees.negative.centre lim l ∙ ap (λ b. of_rows (m % 8) && b) (sign_inside at w sight d h (column at.word m) (row at.stripe m)))
    (λ x y away. elim (h.changed x y) [ inl same ↦ same.negative | inr new ↦ absurd (apart_word at.word at.stripe x y away new.word) ])))

pub significant_drawn : (at : WordPlace) (w : BlockState) (sight : Sight) (d : Draft) (limits p q : ℕ) → Puts at w p q → words_of w.shape ≤ length w.significant.now → Shows of_rows (bordered (is_inside w.shape)) (at.word + 1) (at.stripe + 1) limits → Held at (draft_of w) sight d → get_or w.significant.now p 0 < 2 ^ 64
    → IsDrawn w.shape (significant_of w.shape (magnitude_of w.shape w.planes (significant_bits w sight limits p q))) (set w.significant.now p (significant_word sight limits))
significant_drawn at w sight d limits p q a len lim h room =
    subst (λ (m : Field ℕ). IsDrawn w.shape (significant_of w.shape m) (set w.significant.now p (significant_word sight limits))) (sym (significant_magnitude at w sight d limits p q a lim h room))
    (subst (λ p. IsDrawn w.shape (significant_of w.shape d.magnitude) (set w.significant.now p (significant_word sight limits))) (sym a.place)
    (word_drawn w.shape (significant_in (draft_of w)) (significant_of w.shape d.magnitude) w.significant.now at.word at.stripe (significant_word sight limits) w.sized len a.word a.stripe w.known_significant
    (λ m l. own_bits w.shape d.shape (significant_in d) at.word at.stripe sight.significant.centre limits m h.sees.significant.centre lim l
    ∙ ap (λ b. of_rows (m % 8) && b) (ap (λ b. is_inside w.shape (column at.word m) (row at.stripe m) && b) (module_lit at w d h.shape (column at.word m) (row at.stripe m)) ∙ absorbed (is_inside w.shape (column at.word m) (row at.stripe m)) (nat_lt 0 (d.magnitude (column at.word m) (row at.stripe m)))))
    (λ x y away. elim (h.changed x y) [ inl same ↦ ap (λ m. is_inside w.shape x y && nat_lt 0 m) same.magnitude | inr new ↦ absurd (apart_word at.word at.stripe x y away new.word) ])))

-- ---- places that were significant before

abbrev pub refined_bits : (w : BlockState) (places ones q : ℕ) → List ℕ
refined_bits w places ones q = set w.bits.items q (bit_or (bit_and (get_or w.bits.items q 0) (bit_not w64 places)) ones)

refined_bit : (at : WordPlace) (w : BlockState) (places ones p q c x y : ℕ) → Puts at w p q → places < 2 ^ 64 → is_inside w.shape x y ≡ true
    → plane_bit w.shape (refined_bits w places ones q) c x y ≡ cond (nat_eq c at.plane && is_in_word at.word at.stripe x y) ((plane_bit w.shape w.bits.items c x y && not (on places (own_bit x y))) || on ones (own_bit x y)) (plane_bit w.shape w.bits.items c x y)
refined_bit at w places ones p q c x y a lim inside =
    let bits = w.bits.items in
    let new = bit_or (bit_and (get_or bits q 0) (bit_not w64 places)) ones in
    plane_word w.shape bits w.planes at.plane at.word at.stripe q new c x y w.room a.plane a.word a.stripe (plane_index at w p q a) inside
    ∙ same_or (nat_eq c at.plane && is_in_word at.word at.stripe x y)
    (λ e. let both = and_parts (nat_eq c at.plane) (is_in_word at.word at.stripe x y) e in
    ap (λ t. cond t (on new (own_bit x y)) (plane_bit w.shape bits c x y)) e
    ∙ on_or (bit_and (get_or bits q 0) (bit_not w64 places)) ones (own_bit x y)
    ∙ ap (λ b. b || on ones (own_bit x y)) (on_and (get_or bits q 0) (bit_not w64 places) (own_bit x y) ∙ ap (λ b. on (get_or bits q 0) (own_bit x y) && b) (on_not w64 places (own_bit x y) lim (bit_within x y))
    ∙ ap (λ b. b && not (on places (own_bit x y))) (ap (λ q. on (get_or bits q 0) (own_bit x y)) (plane_index at w p q a) ∙ plane_here w.shape bits at.plane at.word at.stripe x y both.1 ∙ ap (λ b. plane_bit w.shape bits b x y) (sym (equal_true c at.plane both.0))))
    ∙ sym (ap (λ t. cond t ((plane_bit w.shape bits c x y && not (on places (own_bit x y))) || on ones (own_bit x y)) (plane_bit w.shape bits c x y)) e))
    (λ e. ap (λ t. cond t (on new (own_bit x y)) (plane_bit w.shape bits c x y)) e
    ∙ sym (ap (λ t. cond t ((plane_bit w.shape bits c x y && not (on places (own_bit x y))) || on ones (own_bit x y)) (plane_bit w.shape bits c x y)) e))

pub refined_magnitude : (at : WordPlace) (w : BlockState) (places ones p q : ℕ) → Puts at w p q → places < 2 ^ 64 → IsRefined at places ones (draft_of w) → magnitude_of w.shape w.planes (refined_bits w places ones q) ≡ (refined_in at places ones (draft_of w)).magnitude
refined_magnitude at w places ones p q a lim r = same_field (magnitude_of w.shape w.planes (refined_bits w places ones q)) (refined_in at places ones (draft_of w)).magnitude (λ x y. same_or (is_inside w.shape x y) (inside x y) (outside x y))
  where
    outside : (x y : ℕ) → is_inside w.shape x y ≡ false → magnitude_of w.shape w.planes (refined_bits w places ones q) x y ≡ (refined_in at places ones (draft_of w)).magnitude x y
    outside x y o =
        let m = (draft_of w).magnitude x y in
        ap (λ b. cond b (number_from (λ b. plane_bit w.shape (refined_bits w places ones q) b x y) 0 w.planes) 0) o
        ∙ sym (same_or (is_in_word at.word at.stripe x y && on places (own_bit x y))
        (λ e. let both = and_parts (is_in_word at.word at.stripe x y) (on places (own_bit x y)) e in
        absurd (let i = (r.large x y both.0 both.1).0 in let c : true ≡ false = sym i ∙ o in cc))
        (λ e. ap (λ t. cond t (above (at.plane + 1) m + cond (on ones (own_bit x y)) (2 ^ at.plane) 0) m) e ∙ ap (λ b. cond b (number_from (λ b. plane_bit w.shape w.bits.items b x y) 0 w.planes) 0) o))

    none : (b o p : Bool) → (o ≡ true → p ≡ true) → p ≡ false → ((b && not p) || o) ≡ b
    none b true p f e = absurd (let f0 = f refl in let c : true ≡ false = sym f0 ∙ e in cc)
    none true false p f e = ap (λ p. (not p) || false) e
    none false false p f e = refl

    only_ones : (b o p : Bool) → p ≡ true → ((b && not p) || o) ≡ o
    only_ones true o p e = ap (λ p. not p || o) e
    only_ones false o p e = refl

    inside : (x y : ℕ) → is_inside w.shape x y ≡ true → magnitude_of w.shape w.planes (refined_bits w places ones q) x y ≡ (refined_in at places ones (draft_of w)).magnitude x y
    inside x y i =
        let f : ℕ → Bool = λ b. plane_bit w.shape w.bits.items b x y in
        let g : ℕ → Bool = λ b. plane_bit w.shape (refined_bits w places ones q) b x y in
        let m = (draft_of w).magnitude x y in
        let held : m ≡ number_from f 0 w.planes = ap (λ b. cond b (number_from f 0 w.planes) 0) i in
        ap (λ b. cond b (number_from g 0 w.planes) 0) i
        ∙ same_or (is_in_word at.word at.stripe x y && on places (own_bit x y))
        (λ e. let both = and_parts (is_in_word at.word at.stripe x y) (on places (own_bit x y)) e in
        let here : g at.plane ≡ on ones (own_bit x y) =
        refined_bit at w places ones p q at.plane x y a lim i ∙ ap (λ t. cond (t && is_in_word at.word at.stripe x y) ((f at.plane && not (on places (own_bit x y))) || on ones (own_bit x y)) (f at.plane)) (equal_self at.plane)
        ∙ ap (λ t. cond t ((f at.plane && not (on places (own_bit x y))) || on ones (own_bit x y)) (f at.plane)) both.0 ∙ only_ones (f at.plane) (on ones (own_bit x y)) (on places (own_bit x y)) both.1 in
        number_put f g at.plane w.planes a.plane
        (λ c l other. refined_bit at w places ones p q c x y a lim i ∙ ap (λ t. cond (t && is_in_word at.word at.stripe x y) ((f c && not (on places (own_bit x y))) || on ones (own_bit x y)) (f c)) (equal_false c at.plane other))
        (ap (above at.plane) (sym held) ∙ r.whole x y i ∙ held)
        ∙ ap (λ t. above (at.plane + 1) (number_from f 0 w.planes) + cond t (2 ^ at.plane) 0) here
        ∙ ap (λ n. above (at.plane + 1) n + cond (on ones (own_bit x y)) (2 ^ at.plane) 0) (sym held)
        ∙ sym (ap (λ t. cond t (above (at.plane + 1) m + cond (on ones (own_bit x y)) (2 ^ at.plane) 0) m) e))
        (λ e. number_same g f 0 w.planes (λ c l n. refined_bit at w places ones p q c x y a lim i ∙ kept c x y e) ∙ sym held
        ∙ sym (ap (λ t. cond t (above (at.plane + 1) m + cond (on ones (own_bit x y)) (2 ^ at.plane) 0) m) e))
      where
        kept : (c x y : ℕ) → (is_in_word at.word at.stripe x y && on places (own_bit x y)) ≡ false
            → cond (nat_eq c at.plane && is_in_word at.word at.stripe x y) ((plane_bit w.shape w.bits.items c x y && not (on places (own_bit x y))) || on ones (own_bit x y)) (plane_bit w.shape w.bits.items c x y) ≡ plane_bit w.shape w.bits.items c x y
        kept c x y e = by (nat_eq c at.plane) (is_in_word at.word at.stripe x y) (on places (own_bit x y)) (plane_bit w.shape w.bits.items c x y) e (r.only (own_bit x y) (bit_within x y))
          where
            by : (n t p b : Bool) → (t && p) ≡ false → (on ones (own_bit x y) ≡ true → p ≡ true) → cond (n && t) ((b && not p) || on ones (own_bit x y)) b ≡ b
            by true true p b e f = none b (on ones (own_bit x y)) p f e
            by true false p b e f = refl
            by false t p b e f = refl

-- what is significant stays so
pub refined_drawn : (at : WordPlace) (w : BlockState) (places ones p q : ℕ) → Puts at w p q → places < 2 ^ 64 → IsRefined at places ones (draft_of w) → IsDrawn w.shape (significant_of w.shape (magnitude_of w.shape w.planes (refined_bits w places ones q))) w.significant.now
refined_drawn at w places ones p q a lim r =
    subst (λ (m : Field ℕ). IsDrawn w.shape (significant_of w.shape m) w.significant.now) (sym (refined_magnitude at w places ones p q a lim r))
    (subst (λ (f : Truths). IsDrawn w.shape f w.significant.now) (same_field (significant_in (draft_of w)) (significant_of w.shape (refined_in at places ones (draft_of w)).magnitude) same) w.known_significant)
  where
    pos : (m : ℕ) → 0 < m → nat_lt 0 m ≡ true
    pos m r = grind (arith, nat_tests)

    large : (b m : ℕ) → 2 ^ (b + 1) ≤ m → nat_lt 0 m ≡ true
    large b m h = pos m (let p = pow_pos (b + 1) in omega (arith, p, h))

    same : (x y : ℕ) → significant_in (draft_of w) x y ≡ significant_of w.shape (refined_in at places ones (draft_of w)).magnitude x y
    same x y =
        let m = (draft_of w).magnitude x y in
        ap (λ b. is_inside w.shape x y && b)
        (same_or (is_in_word at.word at.stripe x y && on places (own_bit x y))
        (λ e. let both = and_parts (is_in_word at.word at.stripe x y) (on places (own_bit x y)) e in
        let big = (r.large x y both.0 both.1).1 in
        large at.plane m big ∙ sym (ap (λ t. nat_lt 0 (cond t (above (at.plane + 1) m + cond (on ones (own_bit x y)) (2 ^ at.plane) 0) m)) e ∙ large at.plane (above (at.plane + 1) m + cond (on ones (own_bit x y)) (2 ^ at.plane) 0) (stays_large m at.plane (on ones (own_bit x y)) big)))
        (λ e. sym (ap (λ t. nat_lt 0 (cond t (above (at.plane + 1) m + cond (on ones (own_bit x y)) (2 ^ at.plane) 0) m)) e)))

-- ---- places that were coded in the significance propagation pass

pub marked_words : (at : WordPlace) (w : BlockState) (places p q : ℕ) → at.word < across w.shape → at.stripe < stripes w.shape → p ≡ word_at w.shape (at.word + 1) (at.stripe + 1) → words_of w.shape ≤ length w.visited.now
    → ((m : ℕ) → m < 64 → on places m ≡ true → (of_rows (m % 8) && is_inside w.shape (column at.word m) (row at.stripe m)) ≡ true)
    → flagged w.shape (set w.visited.now p (bit_or (get_or w.visited.now p 0) places)) ≡ with_word (flagged w.shape w.visited.now) at.word at.stripe places
marked_words at w places p q hj hi place len within = same_field (flagged w.shape (set w.visited.now p (bit_or (get_or w.visited.now p 0) places))) (with_word (flagged w.shape w.visited.now) at.word at.stripe places) (λ x y. same_or (is_inside w.shape x y) (inside x y) (outside x y))
  where
    or_false : (b : Bool) → (b || false) ≡ b
    or_false true = refl
    or_false false = refl

    inside : (x y : ℕ) → is_inside w.shape x y ≡ true → flagged w.shape (set w.visited.now p (bit_or (get_or w.visited.now p 0) places)) x y ≡ with_word (flagged w.shape w.visited.now) at.word at.stripe places x y
    inside x y i =
        ap (λ b. b && flag_at w.shape (set w.visited.now p (bit_or (get_or w.visited.now p 0) places)) x y) i
        ∙ flag_word w.shape w.visited.now at.word at.stripe p (bit_or (get_or w.visited.now p 0) places) x y w.sized len hj hi place i
        ∙ same_or (is_in_word at.word at.stripe x y)
        (λ word. ap (λ t. cond t (on (bit_or (get_or w.visited.now p 0) places) (own_bit x y)) (flag_at w.shape w.visited.now x y)) word ∙ on_or (get_or w.visited.now p 0) places (own_bit x y)
        ∙ ap (λ b. b || on places (own_bit x y)) (ap (λ p. on (get_or w.visited.now p 0) (own_bit x y)) place ∙ flag_here x y word)
        ∙ sym (ap (λ b. (b && flag_at w.shape w.visited.now x y) || (is_in_word at.word at.stripe x y && on places (own_bit x y))) i ∙ ap (λ t. flag_at w.shape w.visited.now x y || (t && on places (own_bit x y))) word))
        (λ away. ap (λ t. cond t (on (bit_or (get_or w.visited.now p 0) places) (own_bit x y)) (flag_at w.shape w.visited.now x y)) away
        ∙ sym (ap (λ b. (b && flag_at w.shape w.visited.now x y) || (is_in_word at.word at.stripe x y && on places (own_bit x y))) i ∙ ap (λ t. flag_at w.shape w.visited.now x y || (t && on places (own_bit x y))) away ∙ or_false (flag_at w.shape w.visited.now x y)))
      where
        flag_here : (x y : ℕ) → is_in_word at.word at.stripe x y ≡ true → on (get_or w.visited.now (word_at w.shape (at.word + 1) (at.stripe + 1)) 0) (own_bit x y) ≡ flag_at w.shape w.visited.now x y
        flag_here x y word =
            let p = and_parts (nat_eq (x / 8) at.word) (nat_eq (y / 4) at.stripe) word in
            ap (λ u. on (get_or w.visited.now (word_at w.shape (u + 1) (at.stripe + 1)) 0) (own_bit x y)) (sym (equal_true (x / 8) at.word p.0)) ∙ ap (λ v. on (get_or w.visited.now (word_at w.shape (x / 8 + 1) (v + 1)) 0) (own_bit x y)) (sym (equal_true (y / 4) at.stripe p.1))

    outside : (x y : ℕ) → is_inside w.shape x y ≡ false → flagged w.shape (set w.visited.now p (bit_or (get_or w.visited.now p 0) places)) x y ≡ with_word (flagged w.shape w.visited.now) at.word at.stripe places x y
    outside x y o =
        ap (λ b. b && flag_at w.shape (set w.visited.now p (bit_or (get_or w.visited.now p 0) places)) x y) o
        ∙ sym (ap (λ b. (b && flag_at w.shape w.visited.now x y) || (is_in_word at.word at.stripe x y && on places (own_bit x y))) o
        ∙ same_or (is_in_word at.word at.stripe x y && on places (own_bit x y))
        (λ e. let both = and_parts (is_in_word at.word at.stripe x y) (on places (own_bit x y)) e in
        absurd (let b = bit_place at.word at.stripe x y both.0 in
        let i = and_parts (of_rows (own_bit x y % 8)) (is_inside w.shape (column at.word (own_bit x y)) (row at.stripe (own_bit x y))) (within (own_bit x y) (bit_within x y) both.1) in
        let there : is_inside w.shape x y ≡ true = ap (λ u. is_inside w.shape u y) (sym b.0) ∙ ap (λ v. is_inside w.shape (column at.word (own_bit x y)) v) (sym b.1) ∙ i.1 in
        let c : true ≡ false = sym there ∙ o in cc))
        (λ e. e))
