-- When a pass comes to the bits of a word, and what changes then.
use Rattle.std.proofs.Common.{◌≡◌, ℕ, zero, suc, ◌+◌, ◌-◌, ◌*◌, ◌/◌, ◌%◌, ◌<◌, ◌≤◌, Bool, true, false, refl, sym, ap, ◌∙◌, subst, inl, inr, arith}
use Rattle.std.specs.Prelude.{◌&&◌, ◌||◌, nat_eq, nat_lt, nat_le}
use Rattle.std.proofs.lemmas.Bool.{cases_lt}
use Rattle.std.proofs.lemmas.Bool.Decides.{nat_tests}
use Rattle.std.proofs.Math.Nat.{mul-le-mul_left}
use Rattle.jk_scan.specs.declared.shape.BlockShape.{BlockShape}
use Rattle.jk_scan.specs.Neighbours.{Field, is_inside}
use Rattle.jk_scan.specs.Moments.{number, stripes, visits, spread, pass_of, moment, significant}
use Rattle.jk_scan.specs.Words.{of_rows}
use Rattle.jk_scan.specs.WordPlaces.{column, row}
use Rattle.jk_scan.proofs.Laws.{rows_between, number_row, number_room, number_below, moment_is, cases_of, place_any}
use Rattle.jk_block.specs.encoding.Viewed.{number_by, moment_at}
use Rattle.jk_block.proofs.Changes.{at_place}
use Rattle.jk_block.proofs.Seeing.{is_due}

pub by_test : {R : Type 0} (b : Bool) → (b ≡ true → R) → (b ≡ false → R) → R
by_test true f g = f refl
by_test false f g = g refl

pub visits_is : (s : BlockShape) → visits s ≡ 4 * (s.width * stripes s)
unfolding visits
visits_is s = refl

pub visits_small : (s : BlockShape) → s.width ≤ 1024 → s.width * s.height ≤ 4096 → visits s ≤ 7168
visits_small s narrow area =
    let r : 4 * ((s.height + 3) / 4) ≤ s.height + 3 = omega arith in
    let m = mul-le-mul_left s.width r in
    let e = visits_is s in
    omega (arith, m, e)

-- the numbers of bits

by_first : (w p c : ℕ) → number_by w p c 1 ≡ number_by w p c 0
unfolding number_by
by_first w p c = grind (arith, nat_tests)

by_more : (w p c r : ℕ) → c < w → 1 ≤ r → r < 5 → number_by w p c (r + 1) ≡ number_by w p c r + 1
unfolding number_by
by_more w p c r h a b = grind (arith, nat_tests)

by_behind : (w p c r : ℕ) → 5 ≤ r → number_by w p c (r + 1) ≡ number_by w p c r
unfolding number_by
by_behind w p c r h = grind (arith, nat_tests)

by_next : (w p c : ℕ) → number_by w p (c + 1) 0 ≡ number_by w p c 7
unfolding number_by
by_next w p c = grind (arith, nat_tests)

by_past : (w p c r : ℕ) → w ≤ c → number_by w p c r ≡ 4 * (p + w)
unfolding number_by
by_past w p c r h = grind (arith, nat_tests)

by_within : (w p c r : ℕ) → c < w → r < 5 → number_by w p c r ≡ 4 * (p + c) + (r - 1)
unfolding number_by
by_within w p c r h l = grind (arith, nat_tests)

moment_is_by : (s : BlockShape) (pass j i k : ℕ) → moment_at s pass j i k ≡ pass * visits s + number_by s.width (s.width * i) (8 * j + k / 8) (k % 8)
unfolding moment_at
moment_is_by s pass j i k = refl

moment_by : (s : BlockShape) (pass j i k c r : ℕ) → 8 * j + k / 8 ≡ c → k % 8 ≡ r → moment_at s pass j i k ≡ pass * visits s + number_by s.width (s.width * i) c r
moment_by s pass j i k c r e g = moment_is_by s pass j i k ∙ ap (λ c. pass * visits s + number_by s.width (s.width * i) c (k % 8)) e ∙ ap (λ r. pass * visits s + number_by s.width (s.width * i) c r) g

-- a bit of a place comes at the moment of its place
pub moment_place : (s : BlockShape) (pass j i k : ℕ) → of_rows (k % 8) ≡ true → column j k < s.width → moment_at s pass j i k ≡ pass * visits s + number s.width (column j k) (row i k)
moment_place s pass j i k e h =
    let between = rows_between (k % 8) e in
    let r = number_row s.width (column j k) i (k % 8 - 1) (omega (arith, between)) in
    let y : number s.width (column j k) (4 * i + (k % 8 - 1)) ≡ number s.width (column j k) (row i k) = ap (number s.width (column j k)) (omega (arith, between)) in
    let n = by_within s.width (s.width * i) (8 * j + k / 8) (k % 8) h between.1 in
    moment_is_by s pass j i k ∙ ap (λ n. pass * visits s + n) (n ∙ sym r ∙ y)

pub moment_more : (s : BlockShape) (pass j i k : ℕ) → of_rows (k % 8) ≡ true → column j k < s.width → moment_at s pass j i (k + 1) ≡ moment_at s pass j i k + 1
moment_more s pass j i k e h =
    let between = rows_between (k % 8) e in
    let b0 = between.0 in
    let b1 = between.1 in
    let n = by_more s.width (s.width * i) (8 * j + k / 8) (k % 8) h b0 b1 in
    moment_by s pass j i (k + 1) (8 * j + k / 8) (k % 8 + 1) (omega (arith, b0, b1)) (omega (arith, b0, b1)) ∙ ap (λ n. pass * visits s + n) n
    ∙ more (pass * visits s) (number_by s.width (s.width * i) (8 * j + k / 8) (k % 8)) ∙ ap (λ n. n + 1) (sym (moment_is_by s pass j i k))
  where
    more : (a b : ℕ) → a + (b + 1) ≡ a + b + 1
    more a b = omega arith

-- other bits take no time
pub moment_gap : (s : BlockShape) (pass j i k : ℕ) → of_rows (k % 8) ≡ false → moment_at s pass j i (k + 1) ≡ moment_at s pass j i k
moment_gap s pass j i k e = by (k % 8) refl (gap (k % 8) e (omega arith))
  where
    gap : (r : ℕ) → of_rows r ≡ false → r < 8 → (nat_eq r 0 || (nat_eq r 7 || nat_le 5 r && nat_lt r 7)) ≡ true
    gap r e h = grind (arith, nat_tests)

    at : (c r : ℕ) → 8 * j + (k + 1) / 8 ≡ c → (k + 1) % 8 ≡ r → number_by s.width (s.width * i) c r ≡ number_by s.width (s.width * i) (8 * j + k / 8) (k % 8) → moment_at s pass j i (k + 1) ≡ moment_at s pass j i k
    at c r ec er n = moment_by s pass j i (k + 1) c r ec er ∙ ap (λ n. pass * visits s + n) n ∙ sym (moment_is_by s pass j i k)

    by : (r : ℕ) → k % 8 ≡ r → (nat_eq r 0 || (nat_eq r 7 || nat_le 5 r && nat_lt r 7)) ≡ true → moment_at s pass j i (k + 1) ≡ moment_at s pass j i k
    by r er h = by_test (nat_eq r 0)
        (λ z. let e : k % 8 ≡ 0 = grind (arith, nat_tests) in
        at (8 * j + k / 8) 1 (omega (arith, e)) (omega (arith, e)) (by_first s.width (s.width * i) (8 * j + k / 8) ∙ ap (number_by s.width (s.width * i) (8 * j + k / 8)) (sym e)))
        (λ z. by_test (nat_eq r 7)
        (λ l. let e : k % 8 ≡ 7 = grind (arith, nat_tests) in
        at (8 * j + k / 8 + 1) 0 (omega (arith, e)) (omega (arith, e)) (by_next s.width (s.width * i) (8 * j + k / 8) ∙ ap (number_by s.width (s.width * i) (8 * j + k / 8)) (sym e)))
        (λ l. let a : 5 ≤ k % 8 = grind (arith, nat_tests) in let b : k % 8 < 7 = grind (arith, nat_tests) in
        at (8 * j + k / 8) (k % 8 + 1) (omega (arith, a, b)) (omega (arith, a, b)) (by_behind s.width (s.width * i) (8 * j + k / 8) (k % 8) a)))

pub moment_past : (s : BlockShape) (pass j i k : ℕ) → s.width ≤ column j k → moment_at s pass j i (k + 1) ≡ moment_at s pass j i k
moment_past s pass j i k h =
    moment_is_by s pass j i (k + 1) ∙ ap (λ n. pass * visits s + n) (by_past s.width (s.width * i) (8 * j + (k + 1) / 8) ((k + 1) % 8) (let l : 8 * j + k / 8 ≤ 8 * j + (k + 1) / 8 = omega arith in omega (arith, h, l)) ∙ sym (by_past s.width (s.width * i) (8 * j + k / 8) (k % 8) h))
    ∙ sym (moment_is_by s pass j i k)

-- the next word, the next stripe, and the next pass
pub moment_word : (s : BlockShape) (pass j i : ℕ) → moment_at s pass j i 64 ≡ moment_at s pass (j + 1) i 0
moment_word s pass j i = moment_by s pass j i 64 (8 * (j + 1) + 0 / 8) (0 % 8) (omega arith) refl ∙ sym (moment_is_by s pass (j + 1) i 0)

pub moment_stripe : (s : BlockShape) (pass i j : ℕ) → s.width ≤ 8 * j → 1 ≤ s.width → moment_at s pass j i 0 ≡ moment_at s pass 0 (i + 1) 0
moment_stripe s pass i j h some =
    moment_by s pass j i 0 (8 * j) 0 (omega arith) refl ∙ ap (λ n. pass * visits s + n) (by_past s.width (s.width * i) (8 * j) 0 h ∙ same ∙ sym (by_within s.width (s.width * (i + 1)) 0 0 some (omega arith)))
    ∙ sym (moment_by s pass 0 (i + 1) 0 0 0 (omega arith) refl)
  where
    same : 4 * (s.width * i + s.width) ≡ 4 * (s.width * (i + 1) + 0) + (0 - 1)
    same = omega arith

pub moment_first : (s : BlockShape) (pass : ℕ) → 1 ≤ s.width → moment_at s pass 0 0 0 ≡ pass * visits s
moment_first s pass some = moment_by s pass 0 0 0 0 0 (omega arith) refl ∙ ap (λ n. pass * visits s + n) (by_within s.width (s.width * 0) 0 0 some (omega arith)) ∙ (let e : pass * visits s + (4 * (s.width * 0 + 0) + (0 - 1)) ≡ pass * visits s = omega arith in e)

pub moment_last : (s : BlockShape) (pass : ℕ) → 1 ≤ s.width → moment_at s pass 0 (stripes s) 0 ≡ (pass + 1) * visits s
moment_last s pass some =
    moment_by s pass 0 (stripes s) 0 0 0 (omega arith) refl ∙ ap (λ n. pass * visits s + n) (by_within s.width (s.width * stripes s) 0 0 some (omega arith))
    ∙ (let v = visits_is s in let e : pass * visits s + (4 * (s.width * stripes s + 0) + (0 - 1)) ≡ (pass + 1) * visits s = omega (arith, v) in e)

-- a column that begins
pub moment_column : (s : BlockShape) (pass j i c : ℕ) → 8 * j + c < s.width → moment_at s pass j i (8 * c) ≡ pass * visits s + 4 * (s.width * i + (8 * j + c))
moment_column s pass j i c h =
    moment_by s pass j i (8 * c) (8 * j + c) 0 (omega arith) (omega arith) ∙ ap (λ n. pass * visits s + n) (by_within s.width (s.width * i) (8 * j + c) 0 h (omega arith))
    ∙ (let e : pass * visits s + (4 * (s.width * i + (8 * j + c)) + (0 - 1)) ≡ pass * visits s + 4 * (s.width * i + (8 * j + c)) = omega arith in e)

-- What changes at the moment of a place.

unfoldable pub here : (x y u w : ℕ) → Bool
here x y u w = nat_eq u x && nat_eq w y

not_now : (m t : ℕ) → (m ≡ t → ⊥) → nat_lt m (t + 1) ≡ nat_lt m t
not_now m t h = grind (arith, nat_tests)

-- no other place comes at this moment
other_place : (s : BlockShape) (p q x y u w : ℕ) → is_inside s u w ≡ true → x < s.width → number s.width x y < visits s → here x y u w ≡ false → p * visits s + number s.width u w ≡ q * visits s + number s.width x y → ⊥
unfolding here
other_place s p q x y u w i narrow room apart e =
    let one = place_any s p q u w x y i narrow room e in
    let o1 = one.1 in let o2 = one.2 in
    let same : (nat_eq u x && nat_eq w y) ≡ true = grind (arith, nat_tests) in
    let c : true ≡ false = sym same ∙ apart in absurd cc

same_place : (x y : ℕ) → here x y x y ≡ true
unfolding here
same_place x y = grind (arith, nat_tests)

-- The place becomes significant where its bit is 1 and it is coded in this pass.
pub significant_next : (s : BlockShape) (a : Field ℕ) (pass x y t : ℕ) → ((x y : ℕ) → is_inside s x y ≡ false → a x y ≡ 0) → x < s.width → number s.width x y < visits s → t ≡ pass * visits s + number s.width x y
    → (u w : ℕ) → significant s a (t + 1) u w ≡ (significant s a t u w || ((is_due s a pass x y && nat_eq (a x y) 1) && here x y u w))
unfolding here is_due significant
significant_next s a pass x y t none narrow room now u w =
    at_place (λ u w. significant s a (t + 1) u w ≡ (significant s a t u w || ((is_due s a pass x y && nat_eq (a x y) 1) && here x y u w))) x y u w
    (by_test (is_inside s x y)
    (λ i. by_test (nat_eq (pass_of s a x y) pass)
    (λ p. at_now (a x y) (moment s a x y) (is_inside s x y) (nat_eq (pass_of s a x y) pass) (here x y x y) (moment_is s a x y ∙ ap (λ p. p * visits s + number s.width x y) (same_number (pass_of s a x y) pass p) ∙ sym now) i p (same_place x y))
    (λ p. at_other (a x y) (moment s a x y) (is_inside s x y) (nat_eq (pass_of s a x y) pass) (here x y x y) p
    (λ e. let one = place_any s (pass_of s a x y) pass x y x y i narrow room (sym (moment_is s a x y) ∙ e ∙ now) in let o = one.0 in let c : nat_eq (pass_of s a x y) pass ≡ true = grind (arith, nat_tests) in let d : true ≡ false = sym c ∙ p in absurd cc)))
    (λ i. at_none (a x y) (moment s a x y) (is_inside s x y && nat_eq (pass_of s a x y) pass) (nat_eq (a x y) 1) (here x y x y) (none x y i) (none x y i)))
    (λ apart. by_test (is_inside s u w)
    (λ i. apart_is (a u w) (moment s a u w) (is_due s a pass x y && nat_eq (a x y) 1) (here x y u w) apart (λ e. other_place s (pass_of s a u w) pass x y u w i narrow room apart (sym (moment_is s a u w) ∙ e ∙ now)))
    (λ i. none_is (a u w) (moment s a u w) (is_due s a pass x y && nat_eq (a x y) 1) (here x y u w) (none u w i) apart))
  where
    same_number : (p q : ℕ) → nat_eq p q ≡ true → p ≡ q
    same_number p q e = grind (arith, nat_tests)

    at_now : (m q : ℕ) (i p h : Bool) → q ≡ t → i ≡ true → p ≡ true → h ≡ true → (nat_le 2 m || (nat_eq m 1 && nat_lt q (t + 1))) ≡ ((nat_le 2 m || (nat_eq m 1 && nat_lt q t)) || (((i && p) && nat_eq m 1) && h))
    at_now m q i p h e f g k = grind (arith, nat_tests)

    at_other : (m q : ℕ) (i p h : Bool) → p ≡ false → (q ≡ t → ⊥) → (nat_le 2 m || (nat_eq m 1 && nat_lt q (t + 1))) ≡ ((nat_le 2 m || (nat_eq m 1 && nat_lt q t)) || (((i && p) && nat_eq m 1) && h))
    at_other m q i p h f g = grind (arith, nat_tests)

    at_none : (m q : ℕ) (d e h : Bool) → m ≡ 0 → m ≡ 0 → (nat_le 2 m || (nat_eq m 1 && nat_lt q (t + 1))) ≡ ((nat_le 2 m || (nat_eq m 1 && nat_lt q t)) || ((d && nat_eq m 1) && h))
    at_none m q d e h f g = grind (arith, nat_tests)

    apart_is : (m q : ℕ) (d h : Bool) → h ≡ false → (q ≡ t → ⊥) → (nat_le 2 m || (nat_eq m 1 && nat_lt q (t + 1))) ≡ ((nat_le 2 m || (nat_eq m 1 && nat_lt q t)) || (d && h))
    apart_is m q d h e g = grind (arith, nat_tests)

    none_is : (m q : ℕ) (d h : Bool) → m ≡ 0 → h ≡ false → (nat_le 2 m || (nat_eq m 1 && nat_lt q (t + 1))) ≡ ((nat_le 2 m || (nat_eq m 1 && nat_lt q t)) || (d && h))
    none_is m q d h e g = grind (arith, nat_tests)

spread_pass : (s : BlockShape) (a : Field ℕ) (x y : ℕ) → spread s a x y ≡ nat_eq (pass_of s a x y) 0
spread_pass s a x y = cases_of s a x y (λ w. w.spread_is ∙ ap (λ n. nat_eq n 0) (sym w.pass_is)) (λ w. w.spread_is ∙ ap (λ n. nat_eq n 0) (sym w.pass_is)) (λ w. w.spread_is ∙ ap (λ n. nat_eq n 0) (sym w.pass_is))

-- coded by the significance propagation pass before a moment
abbrev pub spread_before : BlockShape → Field ℕ → ℕ → Field Bool
spread_before s a t x y = is_inside s x y && (spread s a x y && nat_lt (number s.width x y) t)

-- The place is coded by the significance propagation pass where this is that pass.
pub spread_next : (s : BlockShape) (a : Field ℕ) (pass x y t : ℕ) → x < s.width → number s.width x y < visits s → t ≡ pass * visits s + number s.width x y
    → (u w : ℕ) → spread_before s a (t + 1) u w ≡ (spread_before s a t u w || ((is_due s a pass x y && nat_eq pass 0) && here x y u w))
unfolding here is_due
spread_next s a zero x y t narrow room now u w =
    at_place (λ u w. spread_before s a (t + 1) u w ≡ (spread_before s a t u w || ((is_due s a 0 x y && nat_eq 0 0) && here x y u w))) x y u w
    (at_now (is_inside s x y) (spread s a x y) (nat_eq (pass_of s a x y) 0) (here x y x y) (number s.width x y) (spread_pass s a x y) (same_place x y) (let e : t ≡ number s.width x y = omega (arith, now) in e))
    (λ apart. by_test (is_inside s u w)
    (λ i. apart_is (is_inside s u w) (spread s a u w) (is_due s a 0 x y && nat_eq 0 0) (here x y u w) (number s.width u w) apart
    (λ e. other_place s 0 0 x y u w i narrow room apart (let f : 0 * visits s + number s.width u w ≡ 0 * visits s + number s.width x y = omega (arith, e, now) in f)))
    (λ i. outside (is_inside s u w) (spread s a u w) (is_due s a 0 x y && nat_eq 0 0) (here x y u w) (number s.width u w) i apart))
  where
    at_now : (i p q h : Bool) (n : ℕ) → p ≡ q → h ≡ true → t ≡ n → (i && (p && nat_lt n (t + 1))) ≡ ((i && (p && nat_lt n t)) || (((i && q) && true) && h))
    at_now i p q h n e g k = grind (arith, nat_tests)

    apart_is : (i p d h : Bool) (n : ℕ) → h ≡ false → (n ≡ t → ⊥) → (i && (p && nat_lt n (t + 1))) ≡ ((i && (p && nat_lt n t)) || (d && h))
    apart_is i p d h n e g = grind (arith, nat_tests)

    outside : (i p d h : Bool) (n : ℕ) → i ≡ false → h ≡ false → (i && (p && nat_lt n (t + 1))) ≡ ((i && (p && nat_lt n t)) || (d && h))
    outside i p d h n e g = grind (arith, nat_tests)
spread_next s a (suc pass) x y t narrow room now u w = by_test (is_inside s u w)
    (λ i. let b = number_below s u w i in later (is_inside s u w) (spread s a u w) (is_due s a (suc pass) x y) (here x y u w) (number s.width u w) (early (visits s) (number s.width x y) (number s.width u w) now b))
    (λ i. outside (is_inside s u w) (spread s a u w) (is_due s a (suc pass) x y) (here x y u w) (number s.width u w) i)
  where
    early : (v m n : ℕ) → t ≡ suc pass * v + m → n < v → n < t
    early v m n e h = let g : suc pass * v ≡ pass * v + v = omega arith in omega (arith, e, h, g)

    none : nat_eq (suc pass) 0 ≡ false
    none = grind (arith, nat_tests)

    later : (i p d h : Bool) (n : ℕ) → n < t → (i && (p && nat_lt n (t + 1))) ≡ ((i && (p && nat_lt n t)) || ((d && nat_eq (suc pass) 0) && h))
    later i p d h n l = let z = none in grind (arith, nat_tests)

    outside : (i p d h : Bool) (n : ℕ) → i ≡ false → (i && (p && nat_lt n (t + 1))) ≡ ((i && (p && nat_lt n t)) || ((d && nat_eq (suc pass) 0) && h))
    outside i p d h n e = let z = none in grind (arith, nat_tests)

-- the place at a bit of a word is coded in this pass
abbrev pub codes : BlockShape → Field ℕ → (pass j i k : ℕ) → Bool
codes s a pass j i k = of_rows (k % 8) && is_due s a pass (column j k) (row i k)

outside_due : (s : BlockShape) (a : Field ℕ) (pass x y : ℕ) → s.width ≤ x → is_due s a pass x y ≡ false
unfolding is_due
outside_due s a pass x y h = gate (nat_lt x s.width) (nat_lt y s.height) (nat_eq (pass_of s a x y) pass) (grind (arith, nat_tests))
  where
    gate : (p q r : Bool) → p ≡ false → ((p && q) && r) ≡ false
    gate p q r e = grind (arith, nat_tests)

-- What changes at a bit is what changes at the moment of its place.
step_bit : (F : ℕ → Field Bool) (s : BlockShape) (a : Field ℕ) (pass j i k : ℕ) (own : Bool) → i < stripes s
    → (column j k < s.width → number s.width (column j k) (row i k) < visits s → moment_at s pass j i k ≡ pass * visits s + number s.width (column j k) (row i k)
    → (u w : ℕ) → F (moment_at s pass j i k + 1) u w ≡ (F (moment_at s pass j i k) u w || ((is_due s a pass (column j k) (row i k) && own) && here (column j k) (row i k) u w)))
    → (u w : ℕ) → F (moment_at s pass j i (k + 1)) u w ≡ (F (moment_at s pass j i k) u w || ((codes s a pass j i k && own) && here (column j k) (row i k) u w))
step_bit F s a pass j i k own stripe next u w = by_test (of_rows (k % 8))
    (λ e. elim (cases_lt (column j k) s.width) [
      | inl within ↦
          (let between = rows_between (k % 8) e in
          let room = number_room s (column j k) i (k % 8 - 1) within stripe (omega (arith, between)) in
          let y : number s.width (column j k) (4 * i + (k % 8 - 1)) ≡ number s.width (column j k) (row i k) = ap (number s.width (column j k)) (omega (arith, between)) in
          ap (λ t. F t u w) (moment_more s pass j i k e within) ∙ next within (subst (λ n. n < visits s) y room) (moment_place s pass j i k e within) u w
          ∙ ap (λ r. F (moment_at s pass j i k) u w || (((r && is_due s a pass (column j k) (row i k)) && own) && here (column j k) (row i k) u w)) (sym e))
      | inr past ↦
          ap (λ t. F t u w) (moment_past s pass j i k past)
          ∙ none (F (moment_at s pass j i k) u w) (of_rows (k % 8)) (is_due s a pass (column j k) (row i k)) own (here (column j k) (row i k) u w) (outside_due s a pass (column j k) (row i k) past)
    ])
    (λ e. ap (λ t. F t u w) (moment_gap s pass j i k e) ∙ gap (F (moment_at s pass j i k) u w) (of_rows (k % 8)) (is_due s a pass (column j k) (row i k)) own (here (column j k) (row i k) u w) e)
  where
    none : (f r d o h : Bool) → d ≡ false → f ≡ (f || (((r && d) && o) && h))
    none f r d o h e = grind (arith, nat_tests)

    gap : (f r d o h : Bool) → r ≡ false → f ≡ (f || (((r && d) && o) && h))
    gap f r d o h e = grind (arith, nat_tests)

pub significant_bit : (s : BlockShape) (a : Field ℕ) (pass j i k : ℕ) → ((x y : ℕ) → is_inside s x y ≡ false → a x y ≡ 0) → i < stripes s
    → (u w : ℕ) → significant s a (moment_at s pass j i (k + 1)) u w ≡ (significant s a (moment_at s pass j i k) u w || ((codes s a pass j i k && nat_eq (a (column j k) (row i k)) 1) && here (column j k) (row i k) u w))
significant_bit s a pass j i k none stripe = step_bit (λ t. significant s a t) s a pass j i k (nat_eq (a (column j k) (row i k)) 1) stripe
    (λ narrow room now. significant_next s a pass (column j k) (row i k) (moment_at s pass j i k) none narrow room now)

pub spread_bit : (s : BlockShape) (a : Field ℕ) (pass j i k : ℕ) → i < stripes s
    → (u w : ℕ) → spread_before s a (moment_at s pass j i (k + 1)) u w ≡ (spread_before s a (moment_at s pass j i k) u w || ((codes s a pass j i k && nat_eq pass 0) && here (column j k) (row i k) u w))
spread_bit s a pass j i k stripe = step_bit (λ t. spread_before s a t) s a pass j i k (nat_eq pass 0) stripe
    (λ narrow room now. spread_next s a pass (column j k) (row i k) (moment_at s pass j i k) narrow room now)

-- A pass comes to a place not before it comes to its word.
pub moment_bound : (s : BlockShape) (pass j i k : ℕ) → of_rows (k % 8) ≡ true → column j k < s.width → (pass * visits s ≤ moment_at s pass j i 0) × (moment_at s pass j i 0 ≤ pass * visits s + number s.width (column j k) (row i k))
moment_bound s pass j i k e h =
    let between = rows_between (k % 8) e in
    let r = number_row s.width (column j k) i (k % 8 - 1) (omega (arith, between)) in
    let y : number s.width (column j k) (4 * i + (k % 8 - 1)) ≡ number s.width (column j k) (row i k) = ap (number s.width (column j k)) (omega (arith, between)) in
    let m = moment_by s pass j i 0 (8 * j) 0 (omega arith) refl in
    let n = by_within s.width (s.width * i) (8 * j) 0 (omega (arith, h)) (omega arith) in
    let low : 8 * j ≤ column j k = omega arith in
    (omega (arith, m, n), bound (pass * visits s) (s.width * i) (8 * j) (column j k) (k % 8 - 1) (number s.width (column j k) (row i k)) (moment_at s pass j i 0) low (sym y ∙ r) (m ∙ ap (λ n. pass * visits s + n) n))
  where
    bound : (v p c d r n t : ℕ) → c ≤ d → n ≡ 4 * (p + d) + r → t ≡ v + (4 * (p + c) + (0 - 1)) → t ≤ v + n
    bound v p c d r n t h e g = omega (arith, h, e, g)

-- A pass comes to each word in its own time.
pub moment_range : (s : BlockShape) (pass j i : ℕ) → 8 * j < s.width → i < stripes s → (pass * visits s ≤ moment_at s pass j i 0) × (moment_at s pass j i 0 ≤ pass * visits s + visits s)
moment_range s pass j i h stripe =
    let m = moment_by s pass j i 0 (8 * j) 0 (omega arith) refl in
    let n = by_within s.width (s.width * i) (8 * j) 0 h (omega arith) in
    let r = number_row s.width (8 * j) i 0 (omega arith) in
    let room = number_room s (8 * j) i 0 h stripe (omega arith) in
    (omega (arith, m, n), omega (arith, m, n, r, room))
