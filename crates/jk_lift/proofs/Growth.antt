-- How much one level adds.
use Rattle.std.proofs.Common.{◌≡◌, ℕ, ℤ, ◌+◌, ◌-◌, ◌*◌, ◌/◌, ◌%◌, ◌^◌, ◌<◌, ◌≤◌, ◌⊎◌, pos, ◌+ℤ◌, ◌-ℤ◌, ◌≤ℤ◌, neg_ℤ, inl, inr, ◌∙◌, ap, subst, unsigned_abs, zero, suc, add-one, arith}
use Rattle.std.proofs.lemmas.Bool.{cases_eq, cases_lt}
use Rattle.std.proofs.lemmas.Int.{ints}
use Rattle.jk_math.specs.Division.{floor_of}
use Rattle.jk_lift.specs.Lifting.{before, after, lifted, even_at, unlifted}
use Rattle.jk_lift.specs.Planes.{unlifted_plane}
use Rattle.jk_lift.specs.Laws.{GrowsLine, GrowsPlane, BoundsPlane, BoundsTenLevels}
use Rattle.jk_lift.proofs.Neighbours.{before_inside, after_inside}
use Rattle.jk_math.proofs.Laws.{half_high, half_low, quarter_high, quarter_low}
use Rattle.jk_lift.proofs.Equations.{high_at_is, even_at_is, lifted_even, lifted_odd, lifted_one_even, lifted_one_odd, unlifted_even, unlifted_odd, unlifted_one_even, unlifted_one_odd}
use Rattle.jk_lift.proofs.Undoing.{IsNext, before_next, after_next, next_odd, next_even}

-- the growth of a high-pass and of a low-pass coefficient, over plain numbers
high_grows : (x a c : ℤ) (b : ℕ) → unsigned_abs x + 2 ≤ b → unsigned_abs a + 2 ≤ b → unsigned_abs c + 2 ≤ b →
    unsigned_abs (x -ℤ floor_of (a +ℤ c) 2) + 2 ≤ 2 * b
high_grows x a c b lx la lc =
    let h = half_high (a +ℤ c) in
    let l = half_low (a +ℤ c) in
    omega (arith, ints)

-- z is at most m, and at least its negative
abbrev Lies : ℕ → ℤ → Type 0
Lies m z = (neg_ℤ (pos m) ≤ℤ z) × (z ≤ℤ pos m)

lies : (m : ℕ) (z : ℤ) → unsigned_abs z ≤ m → Lies m z
lies m z h = (omega (arith, ints), omega (arith, ints))

low_above : (m : ℕ) (x a c o p h k q : ℤ) → x ≤ℤ pos m → neg_ℤ (pos m) ≤ℤ a → neg_ℤ (pos m) ≤ℤ c → o ≤ℤ pos m → p ≤ℤ pos m →
    (x +ℤ a) ≤ℤ (h +ℤ h +ℤ pos 1) → (x +ℤ c) ≤ℤ (k +ℤ k +ℤ pos 1) → (q +ℤ q +ℤ (q +ℤ q)) ≤ℤ ((o -ℤ h) +ℤ (p -ℤ k) +ℤ pos 2) →
    ((x +ℤ q) +ℤ (x +ℤ q)) ≤ℤ pos (3 * m + 1)
low_above m x a c o p h k q lx la lc lo lp lh lk lq = omega (arith, ints)

low_below : (m : ℕ) (x a c o p h k q : ℤ) → neg_ℤ (pos m) ≤ℤ x → a ≤ℤ pos m → c ≤ℤ pos m → neg_ℤ (pos m) ≤ℤ o → neg_ℤ (pos m) ≤ℤ p →
    (h +ℤ h) ≤ℤ (x +ℤ a) → (k +ℤ k) ≤ℤ (x +ℤ c) → ((o -ℤ h) +ℤ (p -ℤ k) +ℤ pos 2) ≤ℤ (q +ℤ q +ℤ (q +ℤ q) +ℤ pos 3) →
    neg_ℤ (pos (3 * m + 1)) ≤ℤ ((x +ℤ q) +ℤ (x +ℤ q))
low_below m x a c o p h k q lx la lc lo lp lh lk lq = omega (arith, ints)

abs_twice : (m : ℕ) (y : ℤ) → neg_ℤ (pos (3 * m + 1)) ≤ℤ (y +ℤ y) → (y +ℤ y) ≤ℤ pos (3 * m + 1) → 2 * (unsigned_abs y + 2) ≤ 3 * (m + 2)
abs_twice m y l h = omega (arith, ints)

low_grows : (x a c o p : ℤ) (b : ℕ) → unsigned_abs x + 2 ≤ b → unsigned_abs a + 2 ≤ b → unsigned_abs c + 2 ≤ b → unsigned_abs o + 2 ≤ b → unsigned_abs p + 2 ≤ b →
    2 * (unsigned_abs (x +ℤ floor_of ((o -ℤ floor_of (x +ℤ a) 2) +ℤ (p -ℤ floor_of (x +ℤ c) 2) +ℤ pos 2) 4) + 2) ≤ 3 * b
low_grows x a c o p b bx ba bc bo bp =
    let m : ℕ = b - 2 in
    let lx = lies m x (omega arith) in
    let la = lies m a (omega arith) in
    let lc = lies m c (omega arith) in
    let lo = lies m o (omega arith) in
    let lp = lies m p (omega arith) in
    let h : ℤ = floor_of (x +ℤ a) 2 in
    let k : ℤ = floor_of (x +ℤ c) 2 in
    let z : ℤ = (o -ℤ h) +ℤ (p -ℤ k) +ℤ pos 2 in
    let q : ℤ = floor_of z 4 in
    let bound = abs_twice m (x +ℤ q)
    (low_below m x a c o p h k q lx.0 la.1 lc.1 lo.0 lp.0 (half_high (x +ℤ a)) (half_high (x +ℤ c)) (quarter_low z))
    (low_above m x a c o p h k q lx.1 la.0 lc.0 lo.1 lp.1 (half_low (x +ℤ a)) (half_low (x +ℤ c)) (quarter_high z)) in
    let whole : m + 2 ≡ b = omega arith in
    subst (λ n. 2 * (unsigned_abs (x +ℤ q) + 2) ≤ 3 * n) whole bound

-- a place is a neighbour of each of its neighbours, and w is the other one
back_again : (i0 i1 i n : ℕ) (x : ℕ → ℤ) → i0 + 2 ≤ i1 → i0 ≤ i → i < i1 → IsNext i0 i1 i n →
    (w : ℕ) × (i0 ≤ w) × (w < i1) × (x (before i0 i1 n) +ℤ x (after i0 i1 n) ≡ x i +ℤ x w)
back_again i0 i1 i n x long from to h = elim h.near [
  | inl e ↦
      let next = after_next i0 i1 n long h.from h.to in
      let here : before i0 i1 n ≡ i = before_inside i0 i1 n long (omega arith) h.to ∙ omega arith in
      (after i0 i1 n, next.from, next.to, ap (λ k. x k +ℤ x (after i0 i1 n)) here)
  | inr e ↦
      let next = before_next i0 i1 n long h.from h.to in
      let here : after i0 i1 n ≡ i = after_inside i0 i1 n long h.from (omega arith) ∙ omega arith in
      (before i0 i1 n, next.from, next.to, ap (λ k. x (before i0 i1 n) +ℤ x k) here ∙ omega (arith, ints))
]

pub grows_line : GrowsLine
grows_line i0 i1 b x within i from to = elim (cases_lt (i0 + 1) i1) [
  | inl lt ↦
      let long : i0 + 2 ≤ i1 = omega arith in
      let left = before_next i0 i1 i long from to in
      let right = after_next i0 i1 i long from to in
      let here = within i from to in
      let at_left = within (before i0 i1 i) left.from left.to in
      let at_right = within (after i0 i1 i) right.from right.to in (
        λ odd. rw (lifted_odd i0 i1 x i long odd, high_at_is) (high_grows (x i) (x (before i0 i1 i)) (x (after i0 i1 i)) b here at_left at_right),
        λ even.
            let far_left = back_again i0 i1 i (before i0 i1 i) x long from to left in
            let far_right = back_again i0 i1 i (after i0 i1 i) x long from to right in
            rw (lifted_even i0 i1 x i long even, high_at_is i0 i1 x (before i0 i1 i), high_at_is i0 i1 x (after i0 i1 i), far_left.3, far_right.3)
            (low_grows (x i) (x far_left.0) (x far_right.0) (x (before i0 i1 i)) (x (after i0 i1 i)) b here (within far_left.0 far_left.1 far_left.2) (within far_right.0 far_right.1 far_right.2) at_left at_right),
      )
  | inr one ↦
      let here = within i from to in (
        λ odd. rw (lifted_one_odd i0 i1 x i (omega arith) odd) (omega (arith, ints)),
        λ even. rw (lifted_one_even i0 i1 x i (omega arith) even) (omega (arith, ints)),
      )
]

pub grows_plane : GrowsPlane
grows_plane x0 x1 y0 y1 b f within x y xf xt yf yt =
    let columns : (i : ℕ) → x0 ≤ i → i < x1 → (y % 2 ≡ 1 → unsigned_abs (lifted y0 y1 (f i) y) + 2 ≤ 2 * b) × (y % 2 ≡ 0 → 2 * (unsigned_abs (lifted y0 y1 (f i) y) + 2) ≤ 3 * b) =
    λ i if it. grows_line y0 y1 b (f i) (λ j jf jt. within i j if it jf jt) y yf yt in
    let row : ℕ → ℤ = λ i. lifted y0 y1 (f i) y in
    let odd_row = λ (odd : y % 2 ≡ 1). grows_line x0 x1 (2 * b) row (λ i if it. (columns i if it).0 odd) x xf xt in
    let even_row = λ (even : y % 2 ≡ 0). grows_line x0 x1 (3 * b / 2) row (λ i if it. let h = (columns i if it).1 even in omega arith) x xf xt in (
      λ ex ey. let h = (even_row ey).1 ex in omega arith,
      λ ox ey. let h = (even_row ey).0 ox in omega arith,
      λ ex oy. let h = (odd_row oy).1 ex in omega arith,
      λ ox oy. let h = (odd_row oy).0 ox in omega arith,
    )

-- one line backwards, with the even places within a and the odd ones within m
even_back : (y p q : ℤ) (a m : ℕ) → unsigned_abs y ≤ a → unsigned_abs p ≤ m → unsigned_abs q ≤ m →
    unsigned_abs (y -ℤ floor_of (p +ℤ q +ℤ pos 2) 4) ≤ a + (2 * m + 2) / 4
even_back y p q a m ly lp lq =
    let h = quarter_high (p +ℤ q +ℤ pos 2) in
    let l = quarter_low (p +ℤ q +ℤ pos 2) in
    omega (arith, ints, h, l)

odd_back : (y p q : ℤ) (m e : ℕ) → unsigned_abs y ≤ m → unsigned_abs p ≤ e → unsigned_abs q ≤ e → unsigned_abs (y +ℤ floor_of (p +ℤ q) 2) ≤ m + e
odd_back y p q m e ly lp lq =
    let h = half_high (p +ℤ q) in
    let l = half_low (p +ℤ q) in
    omega (arith, ints)

half_back : (y : ℤ) (m : ℕ) → unsigned_abs y ≤ m → unsigned_abs (floor_of y 2) ≤ m
half_back y m ly = let h = half_high y in let l = half_low y in omega (arith, ints)

even_line_back : (i0 i1 a m : ℕ) (y : ℕ → ℤ) →
    ((j : ℕ) → i0 ≤ j → j < i1 → j % 2 ≡ 0 → unsigned_abs (y j) ≤ a) → ((j : ℕ) → i0 ≤ j → j < i1 → j % 2 ≡ 1 → unsigned_abs (y j) ≤ m) →
    (i : ℕ) → i0 + 2 ≤ i1 → i0 ≤ i → i < i1 → i % 2 ≡ 0 → unsigned_abs (even_at i0 i1 y i) ≤ a + (2 * m + 2) / 4
even_line_back i0 i1 a m y evens odds i long from to even =
    let left = before_next i0 i1 i long from to in
    let right = after_next i0 i1 i long from to in
    rw even_at_is (even_back (y i) (y (before i0 i1 i)) (y (after i0 i1 i)) a m (evens i from to even)
    (odds (before i0 i1 i) left.from left.to (next_odd i0 i1 i (before i0 i1 i) left even))
    (odds (after i0 i1 i) right.from right.to (next_odd i0 i1 i (after i0 i1 i) right even)))

line_back : (i0 i1 a m : ℕ) (y : ℕ → ℤ) →
    ((j : ℕ) → i0 ≤ j → j < i1 → j % 2 ≡ 0 → unsigned_abs (y j) ≤ a) → ((j : ℕ) → i0 ≤ j → j < i1 → j % 2 ≡ 1 → unsigned_abs (y j) ≤ m) →
    (i : ℕ) → i0 ≤ i → i < i1 → unsigned_abs (unlifted i0 i1 y i) ≤ m + (a + (2 * m + 2) / 4)
line_back i0 i1 a m y evens odds i from to = elim (cases_lt (i0 + 1) i1) [
  | inl lt ↦
      let long : i0 + 2 ≤ i1 = omega arith in
      elim (cases_eq (i % 2) 0) [
        | inl even ↦
            let h = even_line_back i0 i1 a m y evens odds i long from to even in
            rw (unlifted_even i0 i1 y i long even) (omega arith)
        | inr ne ↦
            let odd : i % 2 ≡ 1 = omega arith in
            let left = before_next i0 i1 i long from to in
            let right = after_next i0 i1 i long from to in
            rw (unlifted_odd i0 i1 y i long odd)
            (odd_back (y i) (even_at i0 i1 y (before i0 i1 i)) (even_at i0 i1 y (after i0 i1 i)) m (a + (2 * m + 2) / 4) (odds i from to odd)
            (even_line_back i0 i1 a m y evens odds (before i0 i1 i) long left.from left.to (next_even i0 i1 i (before i0 i1 i) left odd))
            (even_line_back i0 i1 a m y evens odds (after i0 i1 i) long right.from right.to (next_even i0 i1 i (after i0 i1 i) right odd)))
      ]
  | inr one ↦ elim (cases_eq (i % 2) 0) [
    | inl even ↦ let h = evens i from to even in rw (unlifted_one_even i0 i1 y i (omega arith) even) (omega arith)
    | inr ne ↦
        let odd : i % 2 ≡ 1 = omega arith in
        let h = half_back (y i) m (odds i from to odd) in
        rw (unlifted_one_odd i0 i1 y i (omega arith) odd) (omega arith)
  ]
]

pub bounds_plane : BoundsPlane
bounds_plane x0 x1 y0 y1 b m c lows highs x y xf xt yf yt =
    let even_row : (j : ℕ) → y0 ≤ j → j < y1 → j % 2 ≡ 0 → unsigned_abs (unlifted x0 x1 (λ i. c i j) x) ≤ m + (b / 4 + (2 * m + 2) / 4) =
    λ j jf jt even. line_back x0 x1 (b / 4) m (λ i. c i j)
    (λ i if it e. let h = lows i j if it jf jt e even in omega arith) (λ i if it o. highs i j if it jf jt (inl o)) x xf xt in
    let odd_row : (j : ℕ) → y0 ≤ j → j < y1 → j % 2 ≡ 1 → unsigned_abs (unlifted x0 x1 (λ i. c i j) x) ≤ m + (m + (2 * m + 2) / 4) =
    λ j jf jt odd. line_back x0 x1 m m (λ i. c i j)
    (λ i if it e. highs i j if it jf jt (inr odd)) (λ i if it o. highs i j if it jf jt (inl o)) x xf xt in
    let whole = line_back y0 y1 (m + (b / 4 + (2 * m + 2) / 4)) (m + (m + (2 * m + 2) / 4)) (λ j. unlifted x0 x1 (λ i. c i j) x) even_row odd_row y yf yt in (
      elim (cases_eq (y % 2) 0) [
        | inl even ↦ let h = even_row y yf yt even in omega arith
        | inr ne ↦ let h = odd_row y yf yt (omega arith) in omega arith
      ],
      omega arith,
    )

-- the resolution r of a chain of levels, in quarters
abbrev Holds : (x0 x1 y0 y1 : ℕ → ℕ) → (ℕ → ℕ → ℕ → ℤ) → ℕ → Type 0
Holds x0 x1 y0 y1 s r = r ≤ 10 → (x y : ℕ) → x0 r ≤ x → x < x1 r → y0 r ≤ y → y < y1 r → 4 * unsigned_abs (s r x y) ≤ 2 ^ 25 + r * 176160775

bounds_ten_levels-step : (x0 x1 y0 y1 : ℕ → ℕ) (c s : ℕ → ℕ → ℕ → ℤ) (r : ℕ) → r < 10 → Holds x0 x1 y0 y1 s r →
    ((x y : ℕ) → x0 (r + 1) ≤ x → x < x1 (r + 1) → y0 (r + 1) ≤ y → y < y1 (r + 1) → x % 2 ≡ 0 → y % 2 ≡ 0 →
    (x0 r ≤ x / 2) × (x / 2 < x1 r) × (y0 r ≤ y / 2) × (y / 2 < y1 r) × (c (r + 1) x y ≡ s r (x / 2) (y / 2))) →
    ((x y : ℕ) → x0 (r + 1) ≤ x → x < x1 (r + 1) → y0 (r + 1) ≤ y → y < y1 (r + 1) → (x % 2 ≡ 1) ⊎ (y % 2 ≡ 1) → unsigned_abs (c (r + 1) x y) ≤ 2 ^ 23) →
    (x y : ℕ) → x0 (r + 1) ≤ x → x < x1 (r + 1) → y0 (r + 1) ≤ y → y < y1 (r + 1) →
    (4 * unsigned_abs (unlifted (x0 (r + 1)) (x1 (r + 1)) (λ i. c (r + 1) i y) x) ≤ 2 ^ 25 + (r + 1) * 176160775)
    × (4 * unsigned_abs (unlifted_plane (x0 (r + 1)) (x1 (r + 1)) (y0 (r + 1)) (y1 (r + 1)) (c (r + 1)) x y) ≤ 2 ^ 25 + (r + 1) * 176160775)
bounds_ten_levels-step x0 x1 y0 y1 c s r few below lows highs x y xf xt yf yt =
    let b : ℕ = 2 ^ 25 + r * 176160775 in
    let level = bounds_plane (x0 (r + 1)) (x1 (r + 1)) (y0 (r + 1)) (y1 (r + 1)) b (2 ^ 23) (c (r + 1))
    (λ i j if it jf jt ei ej.
    let h = lows i j if it jf jt ei ej in
    rw h.4 (below (omega arith) (i / 2) (j / 2) h.0 h.1 h.2 h.3))
    highs x y xf xt yf yt in
    (omega (arith, level.0), omega (arith, level.1))

pub bounds_ten_levels : BoundsTenLevels
bounds_ten_levels x0 x1 y0 y1 c s lowest each lows highs =
    let step = λ (r : ℕ) (few : r < 10) (below : Holds x0 x1 y0 y1 s r).
    bounds_ten_levels-step x0 x1 y0 y1 c s r few below (λ x y. lows r x y few) (λ x y. highs r x y few) in
    let all : (r : ℕ) → Holds x0 x1 y0 y1 s r = up x0 x1 y0 y1 s
    (λ few x y xf xt yf yt. let h = lowest x y xf xt yf yt in omega arith)
    (λ r below few x y xf xt yf yt. rw (each r x y (omega arith) xf xt yf yt) (step r (omega arith) below x y xf xt yf yt).1) in
    λ r x y few xf xt yf yt. (
      let h = all r few x y xf xt yf yt in omega arith,
      λ some.
          let p : ℕ = r - 1 in
          let e : p + 1 ≡ r = omega arith in
          let Q : ℕ → Type 0 = λ r. x0 r ≤ x → x < x1 r → y0 r ≤ y → y < y1 r → unsigned_abs (unlifted (x0 r) (x1 r) (λ i. c r i y) x) < 2 ^ 29 in
          subst Q e (λ a b d f. let h = (step p (omega arith) (all p) x y a b d f).0 in omega arith) xf xt yf yt,
    )
  where
    up : (x0 x1 y0 y1 : ℕ → ℕ) (s : ℕ → ℕ → ℕ → ℤ) → Holds x0 x1 y0 y1 s 0 → ((r : ℕ) → Holds x0 x1 y0 y1 s r → Holds x0 x1 y0 y1 s (r + 1)) → (r : ℕ) → Holds x0 x1 y0 y1 s r
    up x0 x1 y0 y1 s none more zero = none
    up x0 x1 y0 y1 s none more (suc r) = subst (Holds x0 x1 y0 y1 s) (add-one r) (more r (up x0 x1 y0 y1 s none more r))
