-- A word of 32 places written whole.
use Rattle.std.proofs.Common.{◌≡◌, ℕ, ◌+◌, ◌-◌, ◌*◌, ◌/◌, ◌%◌, ◌<◌, ◌≤◌, Bool, true, false, cond, List, [], length, get_or, set, refl, sym, ap, ◌∙◌, subst, inl, inr, arith}
use Rattle.std.specs.Prelude.{◌&&◌, ◌||◌, nat_eq, nat_le}
use Rattle.std.specs.Int.RustNames.{bit_or}
use Rattle.std.proofs.lemmas.Bool.{and_parts, cases_lt}
use Rattle.std.proofs.lemmas.Bool.Decides.{nat_tests}
use Rattle.std.proofs.lemmas.List.{get_or-set_same, get_or-set_other}
use Rattle.std.proofs.lemmas.Nat.{same_from_place, mul-add-lt}
use Rattle.std.proofs.Math.Nat.{mul_comm}
use Rattle.jk_scan.specs.declared.shape.BlockShape.{BlockShape}
use Rattle.jk_scan.specs.Bits.{on}
use Rattle.jk_scan.specs.Neighbours.{Field, is_inside}
use Rattle.jk_scan.specs.Moments.{stripes}
use Rattle.jk_scan.specs.Words.{Truths, of_rows, bordered}
use Rattle.jk_scan.specs.WordPlaces.{column, row}
use Rattle.jk_scan.specs.Flags.{IsSized, IsDrawn, across, word_at, flag_at}
use Rattle.jk_scan.proofs.Laws.{inside_parts, rows_between, word_within, on_or, on_zero, drawn_none, same_field}
use Rattle.jk_block.specs.Fields.{flagged, is_in_word, own_bit, with_word, words_of, AreSameWords, plane_bit}
use Rattle.jk_block.proofs.WordBits.{bordered_at, drawn_bit}

-- a word is written
pub word_drawn : (s : BlockShape) (g h : Truths) (words : List ℕ) (j i new : ℕ) → IsSized s → words_of s ≤ length words → j < across s → i < stripes s → IsDrawn s g words
    → ((m : ℕ) → m < 64 → on new m ≡ (of_rows (m % 8) && h (column j m) (row i m))) → ((x y : ℕ) → (x / 8 ≡ j → y / 4 ≡ i → ⊥) → h x y ≡ g x y) → IsDrawn s h (set words (word_at s (j + 1) (i + 1)) new)
unfolding word_at
word_drawn s g h words j i new z len hj hi drawn own other j' i' hj' hi' c b p q = elim (cases_lt j' (j + 1)) [
  | inl left ↦ apart (λ e. omega (arith, e, left))
  | inr not_left ↦ elim (cases_lt (j + 1) j') [
    | inl right ↦ apart (λ e. omega (arith, e, right))
    | inr not_right ↦ elim (cases_lt i' (i + 1)) [
      | inl above ↦ apart_row (λ e. omega (arith, e, above))
      | inr not_above ↦ elim (cases_lt (i + 1) i') [
        | inl below ↦ apart_row (λ e. omega (arith, e, below))
        | inr not_below ↦ here (omega arith) (omega arith)
      ]
    ]
  ]
]
  where
    place : ℕ
    place = (i + 1) * (across s + 2) + (j + 1)

    room : place < length words
    room = let f = word_within s (j + 1) (i + 1) (omega arith) (omega arith) in omega (arith, f, len)

    kept : (j' ≡ j + 1 → i' ≡ i + 1 → ⊥) → on (get_or (set words place new) (i' * (across s + 2) + j') 0) (8 * c + b) ≡ (of_rows b && bordered g (8 * j' + c) (4 * i' + b - 1))
    kept away =
        ap (λ w. on w (8 * c + b)) (get_or-set_other words place (i' * (across s + 2) + j') new 0
        (λ e. let one = same_from_place i' j' (i + 1) (j + 1) (across s + 2) hj' (omega arith) e in away one.1 one.0))
        ∙ drawn j' i' hj' hi' c b p q

    same : (j' ≡ j + 1 → i' ≡ i + 1 → ⊥) → (r : Bool) → of_rows b ≡ r → (of_rows b && bordered g (8 * j' + c) (4 * i' + b - 1)) ≡ (of_rows b && bordered h (8 * j' + c) (4 * i' + b - 1))
    same away false e = ap (λ r. r && bordered g (8 * j' + c) (4 * i' + b - 1)) e ∙ sym (ap (λ r. r && bordered h (8 * j' + c) (4 * i' + b - 1)) e)
    same away true e =
        let between = rows_between b e in
        ap (λ r. of_rows b && r) (inner (nat_le 8 (8 * j' + c)) refl (nat_le 4 (4 * i' + b - 1)) refl between.0 between.1)
      where
        inner : (u : Bool) → nat_le 8 (8 * j' + c) ≡ u → (v : Bool) → nat_le 4 (4 * i' + b - 1) ≡ v → 1 ≤ b → b < 5 → bordered g (8 * j' + c) (4 * i' + b - 1) ≡ bordered h (8 * j' + c) (4 * i' + b - 1)
        inner false eu v ev lo hi = ap (λ u. u && (nat_le 4 (4 * i' + b - 1) && g (8 * j' + c - 8) (4 * i' + b - 1 - 4))) eu ∙ sym (ap (λ u. u && (nat_le 4 (4 * i' + b - 1) && h (8 * j' + c - 8) (4 * i' + b - 1 - 4))) eu)
        inner true eu false ev lo hi =
            ap (λ v. nat_le 8 (8 * j' + c) && (v && g (8 * j' + c - 8) (4 * i' + b - 1 - 4))) ev ∙ sym (ap (λ v. nat_le 8 (8 * j' + c) && (v && h (8 * j' + c - 8) (4 * i' + b - 1 - 4))) ev)
        inner true eu true ev lo hi =
            let wide : 8 ≤ 8 * j' + c = grind (arith, nat_tests) in
            let high : 4 ≤ 4 * i' + b - 1 = grind (arith, nat_tests) in
            ap (λ v. nat_le 8 (8 * j' + c) && (nat_le 4 (4 * i' + b - 1) && v))
            (sym (other (8 * j' + c - 8) (4 * i' + b - 1 - 4) (λ ex ey. away (omega (arith, ex, wide)) (omega (arith, ey, high, lo, hi)))))

    apart : (j' ≡ j + 1 → ⊥) → on (get_or (set words place new) (i' * (across s + 2) + j') 0) (8 * c + b) ≡ (of_rows b && bordered h (8 * j' + c) (4 * i' + b - 1))
    apart away = kept (λ e _. away e) ∙ same (λ e _. away e) (of_rows b) refl

    apart_row : (i' ≡ i + 1 → ⊥) → on (get_or (set words place new) (i' * (across s + 2) + j') 0) (8 * c + b) ≡ (of_rows b && bordered h (8 * j' + c) (4 * i' + b - 1))
    apart_row away = kept (λ _ e. away e) ∙ same (λ _ e. away e) (of_rows b) refl

    here : j' ≡ j + 1 → i' ≡ i + 1 → on (get_or (set words place new) (i' * (across s + 2) + j') 0) (8 * c + b) ≡ (of_rows b && bordered h (8 * j' + c) (4 * i' + b - 1))
    here ej ei =
        ap (λ i. on (get_or (set words place new) (i * (across s + 2) + j') 0) (8 * c + b)) ei ∙ ap (λ j. on (get_or (set words place new) ((i + 1) * (across s + 2) + j) 0) (8 * c + b)) ej
        ∙ ap (λ w. on w (8 * c + b)) (get_or-set_same words place new 0 room)
        ∙ own (8 * c + b) (omega arith)
        ∙ ap (λ k. of_rows k && h (column j (8 * c + b)) (row i (8 * c + b))) (let e : (8 * c + b) % 8 ≡ b = omega arith in e)
        ∙ inside (of_rows b) refl
      where
        inside : (r : Bool) → of_rows b ≡ r → (of_rows b && h (column j (8 * c + b)) (row i (8 * c + b))) ≡ (of_rows b && bordered h (8 * j' + c) (4 * i' + b - 1))
        inside false e = ap (λ r. r && h (column j (8 * c + b)) (row i (8 * c + b))) e ∙ sym (ap (λ r. r && bordered h (8 * j' + c) (4 * i' + b - 1)) e)
        inside true e =
            let between = rows_between b e in
            ap (λ r. of_rows b && r)
            (sym (ap (λ x. bordered h x (4 * i' + b - 1)) (let e : 8 * j' + c ≡ column j (8 * c + b) + 8 = omega (arith, ej) in e)
            ∙ ap (λ y. bordered h (column j (8 * c + b) + 8) y) (let e : 4 * i' + b - 1 ≡ row i (8 * c + b) + 4 = omega (arith, ei, between) in e)
            ∙ bordered_at h (column j (8 * c + b)) (row i (8 * c + b))))

-- places of a word written at once
pub word_significant : (s : BlockShape) (f : Field Bool) (words : List ℕ) (j i places p : ℕ) → IsSized s → words_of s ≤ length words → j < across s → i < stripes s → p ≡ word_at s (j + 1) (i + 1)
    → ((m : ℕ) → m < 64 → on places m ≡ true → of_rows (m % 8) ≡ true) → IsDrawn s f words → IsDrawn s (with_word f j i places) (set words p (bit_or (get_or words p 0) places))
word_significant s f words j i places p z len hj hi ep rows drawn =
    subst (λ p. IsDrawn s (with_word f j i places) (set words p (bit_or (get_or words p 0) places))) (sym ep)
    (word_drawn s f (with_word f j i places) words j i (bit_or (get_or words (word_at s (j + 1) (i + 1)) 0) places) z len hj hi drawn own
    (λ x y away. off (f x y) (nat_eq (x / 8) j) (nat_eq (y / 4) i) (on places (8 * (x % 8) + (y % 4 + 1))) (λ a b. away (same (x / 8) j a) (same (y / 4) i b))))
  where
    same : (a b : ℕ) → nat_eq a b ≡ true → a ≡ b
    same a b e = grind (arith, nat_tests)

    off : (f a b o : Bool) → (a ≡ true → b ≡ true → ⊥) → (f || ((a && b) && o)) ≡ f
    off f true true o h = absurd (h refl refl)
    off f true false o h = grind (arith, nat_tests)
    off f false b o h = grind (arith, nat_tests)

    gate : (r v a b o o' : Bool) → (o ≡ true → r ≡ true) → (r ≡ true → a ≡ true) → (r ≡ true → b ≡ true) → (r ≡ true → o' ≡ o) → ((r && v) || o) ≡ (r && (v || ((a && b) && o')))
    gate true v a b o o' h e g k = let e0 = e refl in let g0 = g refl in let k0 = k refl in grind (arith, nat_tests)
    gate false v a b true o' h e g k = let h0 = h refl in absurd cc
    gate false v a b false o' h e g k = refl

    own : (m : ℕ) → m < 64 → on (bit_or (get_or words (word_at s (j + 1) (i + 1)) 0) places) m ≡ (of_rows (m % 8) && with_word f j i places (column j m) (row i m))
    own m l =
        on_or (get_or words (word_at s (j + 1) (i + 1)) 0) places m ∙ ap (λ b. b || on places m) (drawn_bit s f words j i m drawn hj hi l)
        ∙ gate (of_rows (m % 8)) (f (column j m) (row i m)) (nat_eq (column j m / 8) j) (nat_eq (row i m / 4) i) (on places m) (on places (8 * (column j m % 8) + (row i m % 4 + 1))) (rows m l)
        (λ r. grind (arith, nat_tests, l)) (λ r. let b = rows_between (m % 8) r in let b0 = b.0 in let b1 = b.1 in grind (arith, nat_tests, b0, b1))
        (λ r. let b = rows_between (m % 8) r in ap (on places) (let e : 8 * (column j m % 8) + (row i m % 4 + 1) ≡ m = omega (arith, l, b) in e))

-- ---- places of a word

-- the bit of a place is its place
pub bit_place : (j i x y : ℕ) → is_in_word j i x y ≡ true → (column j (own_bit x y) ≡ x) × (row i (own_bit x y) ≡ y)
bit_place j i x y e =
    let p = and_parts (nat_eq (x / 8) j) (nat_eq (y / 4) i) e in
    let p0 = p.0 in let p1 = p.1 in
    let ex : x / 8 ≡ j = grind (arith, nat_tests) in
    let ey : y / 4 ≡ i = grind (arith, nat_tests) in
    (omega (arith, ex), omega (arith, ey))

pub bit_within : (x y : ℕ) → own_bit x y < 64
bit_within x y = omega arith

pub bit_on_row : (x y : ℕ) → of_rows (own_bit x y % 8) ≡ true
bit_on_row x y = let e : own_bit x y % 8 ≡ y % 4 + 1 = omega arith in ap of_rows e ∙ by (y % 4) (omega arith)
  where
    by : (r : ℕ) → r < 4 → of_rows (r + 1) ≡ true
    by r h = grind (arith, nat_tests)

-- the place of a bit lies in the word, and the bit is its bit
pub place_bit : (j i m : ℕ) → m < 64 → of_rows (m % 8) ≡ true → (is_in_word j i (column j m) (row i m) ≡ true) × (own_bit (column j m) (row i m) ≡ m)
place_bit j i m l on_row =
    let b = rows_between (m % 8) on_row in
    let a : (8 * j + m / 8) / 8 ≡ j = omega arith in
    let d : (4 * i + m % 8 - 1) / 4 ≡ i = omega (arith, b) in
    (both ((8 * j + m / 8) / 8) j ((4 * i + m % 8 - 1) / 4) i a d, omega (arith, l, b))
  where
    both : (a b d e : ℕ) → a ≡ b → d ≡ e → (nat_eq a b && nat_eq d e) ≡ true
    both a b d e h g = grind (arith, nat_tests)

-- another place of the word has another bit
pub same_place : (j i x y m : ℕ) → is_in_word j i x y ≡ true → own_bit x y ≡ m → (x ≡ column j m) × (y ≡ row i m)
same_place j i x y m e h =
    let p = bit_place j i x y e in
    (sym p.0 ∙ ap (column j) h, sym p.1 ∙ ap (row i) h)

-- ---- words in lists

pub word_room : (s : BlockShape) (j i : ℕ) → j < across s + 2 → i < stripes s + 2 → word_at s j i < words_of s
unfolding word_at
word_room s j i hj hi = let h = mul-add-lt i (across s + 2) j (stripes s + 2) hi hj in h

-- words that are the same where they show a block
pub drawn_alike : (s : BlockShape) (f : Field Bool) (a b : List ℕ) → AreSameWords s a b → IsDrawn s f a → IsDrawn s f b
drawn_alike s f a b e h j i hj hi c r p q = ap (λ w. on w (8 * c + r)) (sym (e (word_at s j i) (word_room s j i hj hi))) ∙ h j i hj hi c r p q

-- words of which none has a bit where they show a block
pub drawn_dark : (s : BlockShape) (f : Field Bool) (words : List ℕ) → ((k : ℕ) → k < words_of s → get_or words k 0 ≡ 0) → ((x y : ℕ) → f x y ≡ false) → IsDrawn s f words
drawn_dark s f words h dark = drawn_alike s f [] words (λ k l. sym (h k l)) (drawn_none s f 0 dark)

pub index_of : (s : BlockShape) (n b j i : ℕ) → b < n → j < across s + 2 → i < stripes s + 2 → b * words_of s + word_at s j i < n * words_of s
index_of s n b j i h hj hi = let m = mul-add-lt b (words_of s) (word_at s j i) n h (word_room s j i hj hi) in let c = mul_comm (words_of s) n in omega (arith, m, c)

one_word : (s : BlockShape) (j i j' i' : ℕ) → j < across s + 2 → j' < across s + 2 → word_at s j i ≡ word_at s j' i' → (i ≡ i') × (j ≡ j')
unfolding word_at
one_word s j i j' i' h h' e = same_from_place i j i' j' (across s + 2) h h' e

-- a place of a block in its word
inside_word : (s : BlockShape) (x y : ℕ) → is_inside s x y ≡ true → (x / 8 < across s) × (y / 4 < stripes s)
inside_word s x y h = let p = inside_parts s x y h in let p0 = p.0 in let p1 = p.1 in (omega arith, omega arith)

-- such words flag no place
pub flagged_dark : (s : BlockShape) (words : List ℕ) → ((k : ℕ) → k < words_of s → get_or words k 0 ≡ 0) → flagged s words ≡ (λ _ _. false)
flagged_dark s words h = same_field (flagged s words) (λ _ _. false) (λ x y. at x y (is_inside s x y) refl)
  where
    at : (x y : ℕ) (b : Bool) → is_inside s x y ≡ b → (b && flag_at s words x y) ≡ false
    at x y true e =
        let w = inside_word s x y e in
        ap (λ n. on n (own_bit x y)) (h (word_at s (x / 8 + 1) (y / 4 + 1)) (word_room s (x / 8 + 1) (y / 4 + 1) (let a = w.0 in omega (arith, a)) (let b = w.1 in omega (arith, b)))) ∙ on_zero (own_bit x y)
    at x y false e = refl

by_word : {R : Type 0} (j i x y : ℕ) → (is_in_word j i x y ≡ true → x / 8 ≡ j → y / 4 ≡ i → R) → (is_in_word j i x y ≡ false → (x / 8 ≡ j → y / 4 ≡ i → ⊥) → R) → R
by_word {R} j i x y f g = by (is_in_word j i x y) refl
  where
    same : (a b d e : ℕ) → a ≡ b → d ≡ e → (nat_eq a b && nat_eq d e) ≡ true
    same a b d e h k = grind (arith, nat_tests)

    by : (b : Bool) → is_in_word j i x y ≡ b → R
    by true e = let p = and_parts (nat_eq (x / 8) j) (nat_eq (y / 4) i) e in let p0 = p.0 in let p1 = p.1 in f e (grind (arith, nat_tests)) (grind (arith, nat_tests))
    by false e = g e (λ ex ey. let both : is_in_word j i x y ≡ true = same (x / 8) j (y / 4) i ex ey in let c : true ≡ false = sym both ∙ e in absurd cc)

-- the truth value of a place where a word was written
pub flag_word : (s : BlockShape) (words : List ℕ) (j i p new x y : ℕ) → IsSized s → words_of s ≤ length words → j < across s → i < stripes s → p ≡ word_at s (j + 1) (i + 1) → is_inside s x y ≡ true
    → flag_at s (set words p new) x y ≡ cond (is_in_word j i x y) (on new (own_bit x y)) (flag_at s words x y)
flag_word s words j i p new x y z len hj hi ep inside =
    let w = inside_word s x y inside in
    let w0 = w.0 in
    ap (λ p. flag_at s (set words p new) x y) ep
    ∙ by_word j i x y
    (λ e ex ey. ap (λ q. on (get_or (set words (word_at s (j + 1) (i + 1)) new) q 0) (own_bit x y)) (ap (λ a. word_at s (a + 1) (y / 4 + 1)) ex ∙ ap (λ a. word_at s (j + 1) (a + 1)) ey)
    ∙ ap (λ w. on w (own_bit x y)) (get_or-set_same words (word_at s (j + 1) (i + 1)) new 0 (let f = word_within s (j + 1) (i + 1) (omega arith) (omega arith) in omega (arith, f, len)))
    ∙ sym (ap (λ b. cond b (on new (own_bit x y)) (flag_at s words x y)) e))
    (λ e away. ap (λ w. on w (own_bit x y)) (get_or-set_other words (word_at s (j + 1) (i + 1)) (word_at s (x / 8 + 1) (y / 4 + 1)) new 0
    (λ g. let o = one_word s (x / 8 + 1) (y / 4 + 1) (j + 1) (i + 1) (omega (arith, w0)) (omega arith) g in let o0 = o.0 in let o1 = o.1 in away (omega (arith, o1)) (omega (arith, o0))))
    ∙ sym (ap (λ b. cond b (on new (own_bit x y)) (flag_at s words x y)) e))

-- the same in the words of a bit-plane
pub plane_word : (s : BlockShape) (words : List ℕ) (n b j i p new c x y : ℕ) → length words ≡ n * words_of s → b < n → j < across s → i < stripes s → p ≡ b * words_of s + word_at s (j + 1) (i + 1) → is_inside s x y ≡ true
    → plane_bit s (set words p new) c x y ≡ cond (nat_eq c b && is_in_word j i x y) (on new (own_bit x y)) (plane_bit s words c x y)
plane_word s words n b j i p new c x y len hb hj hi ep inside =
    let w = inside_word s x y inside in
    let w0 = w.0 in
    let w1 = w.1 in
    let place = b * words_of s + word_at s (j + 1) (i + 1) in
    let here = c * words_of s + word_at s (x / 8 + 1) (y / 4 + 1) in
    ap (λ p. plane_bit s (set words p new) c x y) ep
    ∙ by_plane (nat_eq c b) refl
    (λ ec. by_word j i x y
    (λ e ex ey. ap (λ q. on (get_or (set words place new) q 0) (own_bit x y)) (ap (λ a. a * words_of s + word_at s (x / 8 + 1) (y / 4 + 1)) ec ∙ ap (λ a. b * words_of s + word_at s (a + 1) (y / 4 + 1)) ex ∙ ap (λ a. b * words_of s + word_at s (j + 1) (a + 1)) ey)
    ∙ ap (λ w. on w (own_bit x y)) (get_or-set_same words place new 0 (let f = index_of s n b (j + 1) (i + 1) hb (omega arith) (omega arith) in omega (arith, f, len)))
    ∙ sym (ap (λ q. cond (q && is_in_word j i x y) (on new (own_bit x y)) (plane_bit s words c x y)) (same c b ec) ∙ ap (λ q. cond q (on new (own_bit x y)) (plane_bit s words c x y)) e))
    (λ e away. other (λ g. let o = same_from_place c (word_at s (x / 8 + 1) (y / 4 + 1)) b (word_at s (j + 1) (i + 1)) (words_of s) (word_room s (x / 8 + 1) (y / 4 + 1) (omega (arith, w0)) (omega (arith, w1))) (word_room s (j + 1) (i + 1) (omega arith) (omega arith)) g in
    let t = one_word s (x / 8 + 1) (y / 4 + 1) (j + 1) (i + 1) (omega (arith, w0)) (omega arith) o.1 in let t0 = t.0 in let t1 = t.1 in away (omega (arith, t1)) (omega (arith, t0)))
    ∙ sym (ap (λ q. cond (nat_eq c b && q) (on new (own_bit x y)) (plane_bit s words c x y)) e ∙ none (nat_eq c b))))
    (λ e ne. other (λ g. let o = same_from_place c (word_at s (x / 8 + 1) (y / 4 + 1)) b (word_at s (j + 1) (i + 1)) (words_of s) (word_room s (x / 8 + 1) (y / 4 + 1) (omega (arith, w0)) (omega (arith, w1))) (word_room s (j + 1) (i + 1) (omega arith) (omega arith)) g in ne o.0)
    ∙ sym (ap (λ q. cond (q && is_in_word j i x y) (on new (own_bit x y)) (plane_bit s words c x y)) e))
  where
    same : (a b : ℕ) → a ≡ b → nat_eq a b ≡ true
    same a b e = grind (arith, nat_tests)

    by_plane : {R : Type 0} (q : Bool) → nat_eq c b ≡ q → (c ≡ b → R) → (nat_eq c b ≡ false → (c ≡ b → ⊥) → R) → R
    by_plane true e f g = f (equal c b e)
      where
        equal : (a b : ℕ) → nat_eq a b ≡ true → a ≡ b
        equal a b e = grind (arith, nat_tests)
    by_plane false e f g = g e (λ h. let d : true ≡ false = sym (same c b h) ∙ e in absurd cc)

    none : (q : Bool) → cond (q && false) (on new (own_bit x y)) (plane_bit s words c x y) ≡ plane_bit s words c x y
    none true = refl
    none false = refl

    other : (c * words_of s + word_at s (x / 8 + 1) (y / 4 + 1) ≡ b * words_of s + word_at s (j + 1) (i + 1) → ⊥)
        → on (get_or (set words (b * words_of s + word_at s (j + 1) (i + 1)) new) (c * words_of s + word_at s (x / 8 + 1) (y / 4 + 1)) 0) (own_bit x y) ≡ plane_bit s words c x y
    other away = ap (λ w. on w (own_bit x y)) (get_or-set_other words (b * words_of s + word_at s (j + 1) (i + 1)) (c * words_of s + word_at s (x / 8 + 1) (y / 4 + 1)) new 0 away)
