-- Pieces of lines and planes that are lifted by themselves.
use Rattle.std.proofs.Common.{◌≡◌, ℕ, ℤ, ◌+◌, ◌-◌, ◌%◌, ◌<◌, ◌≤◌, ◌⊎◌, min, max, inl, inr, sym, ◌∙◌, ap, arith}
use Rattle.std.proofs.lemmas.Bool.{cases_eq, cases_lt}
use Rattle.jk_math.specs.declared.rect.Rect.{Rect}
use Rattle.jk_lift.specs.Lifting.{before, after, even_at, unlifted}
use Rattle.jk_lift.proofs.Neighbours.{before_inside, before_first, after_inside, after_last}
use Rattle.jk_lift.proofs.Undoing.{before_next, after_next, unlifted_same, is_local_plane}
use Rattle.jk_lift.proofs.Equations.{even_at_is, unlifted_even, unlifted_odd}
use Rattle.jk_lift.specs.Pieces.{IsPieceOfLine, IsPieceOfPlane, near_area}

before_same : (i0 i1 p0 p1 i : ℕ) → i0 ≤ p0 → p1 ≤ i1 → p0 + 2 ≤ p1 → p0 ≤ i → i < p1 → (p0 ≡ i0) ⊎ (p0 < i) → before p0 p1 i ≡ before i0 i1 i
before_same i0 i1 p0 p1 i lo hi long from to ends = elim (cases_eq i p0) [
  | inl e ↦ elim ends [
    | inl same ↦
        let here : before p0 p1 i ≡ p0 + 1 = ap (before p0 p1) e ∙ before_first p0 p1 long in
        let there : before i0 i1 i ≡ i0 + 1 = ap (before i0 i1) (e ∙ same) ∙ before_first i0 i1 (omega arith) in
        omega arith
    | inr lt ↦ absurd (omega arith)
  ]
  | inr ne ↦
      let here : before p0 p1 i ≡ i - 1 = before_inside p0 p1 i long (omega arith) to in
      let there : before i0 i1 i ≡ i - 1 = before_inside i0 i1 i (omega arith) (omega arith) (omega arith) in
      omega arith
]

after_same : (i0 i1 p0 p1 i : ℕ) → i0 ≤ p0 → p1 ≤ i1 → p0 + 2 ≤ p1 → p0 ≤ i → i < p1 → (p1 ≡ i1) ⊎ (i + 1 < p1) → after p0 p1 i ≡ after i0 i1 i
after_same i0 i1 p0 p1 i lo hi long from to ends = elim (cases_eq (i + 1) p1) [
  | inl e ↦ elim ends [
    | inl same ↦
        let here : after p0 p1 i ≡ i - 1 = after_last p0 p1 i long e in
        let there : after i0 i1 i ≡ i - 1 = after_last i0 i1 i (omega arith) (e ∙ same) in
        omega arith
    | inr lt ↦ absurd (omega arith)
  ]
  | inr ne ↦
      let here : after p0 p1 i ≡ i + 1 = after_inside p0 p1 i long from (omega arith) in
      let there : after i0 i1 i ≡ i + 1 = after_inside i0 i1 i (omega arith) (omega arith) (omega arith) in
      omega arith
]

even_same : (i0 i1 p0 p1 : ℕ) (y : ℕ → ℤ) (i : ℕ) → i0 ≤ p0 → p1 ≤ i1 → p0 + 2 ≤ p1 → p0 ≤ i → i < p1
    → (p0 ≡ i0) ⊎ (p0 < i) → (p1 ≡ i1) ⊎ (i + 1 < p1) → even_at p0 p1 y i ≡ even_at i0 i1 y i
even_same i0 i1 p0 p1 y i lo hi long from to left right =
    even_at_is p0 p1 y i
    ∙ rw (before_same i0 i1 p0 p1 i lo hi long from to left, after_same i0 i1 p0 p1 i lo hi long from to right) (sym (even_at_is i0 i1 y i))

-- the margin of a neighbour
left_of_next : (i0 p0 i n : ℕ) → (n ≡ i + 1) ⊎ (n + 1 ≡ i) → (p0 ≡ i0) ⊎ (p0 + 2 ≤ i) → (p0 ≡ i0) ⊎ (p0 < n)
left_of_next i0 p0 i n near left = elim left [
  | inl e ↦ inl e
  | inr lt ↦ elim near [ inl e ↦ inr (omega arith) | inr e ↦ inr (omega arith) ]
]

right_of_next : (i1 p1 i n : ℕ) → (n ≡ i + 1) ⊎ (n + 1 ≡ i) → (p1 ≡ i1) ⊎ (i + 2 < p1) → (p1 ≡ i1) ⊎ (n + 1 < p1)
right_of_next i1 p1 i n near right = elim right [
  | inl e ↦ inl e
  | inr lt ↦ elim near [ inl e ↦ inr (omega arith) | inr e ↦ inr (omega arith) ]
]

nearer : (i0 p0 i : ℕ) → (p0 ≡ i0) ⊎ (p0 + 2 ≤ i) → (p0 ≡ i0) ⊎ (p0 < i)
nearer i0 p0 i left = elim left [ inl e ↦ inl e | inr lt ↦ inr (omega arith) ]

nearer_end : (i1 p1 i : ℕ) → (p1 ≡ i1) ⊎ (i + 2 < p1) → (p1 ≡ i1) ⊎ (i + 1 < p1)
nearer_end i1 p1 i right = elim right [ inl e ↦ inl e | inr lt ↦ inr (omega arith) ]

long_piece : (i0 i1 p0 p1 : ℕ) (y : ℕ → ℤ) (i : ℕ) → i0 ≤ p0 → p1 ≤ i1 → p0 + 2 ≤ p1 → p0 ≤ i → i < p1
    → (p0 ≡ i0) ⊎ (p0 + 2 ≤ i) → (p1 ≡ i1) ⊎ (i + 2 < p1) → unlifted p0 p1 y i ≡ unlifted i0 i1 y i
long_piece i0 i1 p0 p1 y i lo hi long from to left right =
    let whole : i0 + 2 ≤ i1 = omega arith in
    elim (cases_eq (i % 2) 0) [
      | inl even ↦
          unlifted_even p0 p1 y i long even
          ∙ even_same i0 i1 p0 p1 y i lo hi long from to (nearer i0 p0 i left) (nearer_end i1 p1 i right)
          ∙ sym (unlifted_even i0 i1 y i whole even)
      | inr ne ↦
          let odd : i % 2 ≡ 1 = omega arith in
          let b = before_next p0 p1 i long from to in
          let a = after_next p0 p1 i long from to in
          let same_before = before_same i0 i1 p0 p1 i lo hi long from to (nearer i0 p0 i left) in
          let same_after = after_same i0 i1 p0 p1 i lo hi long from to (nearer_end i1 p1 i right) in
          let at_before = even_same i0 i1 p0 p1 y (before p0 p1 i) lo hi long b.from b.to
          (left_of_next i0 p0 i (before p0 p1 i) b.near left) (right_of_next i1 p1 i (before p0 p1 i) b.near right)
          ∙ ap (even_at i0 i1 y) same_before in
          let at_after = even_same i0 i1 p0 p1 y (after p0 p1 i) lo hi long a.from a.to
          (left_of_next i0 p0 i (after p0 p1 i) a.near left) (right_of_next i1 p1 i (after p0 p1 i) a.near right)
          ∙ ap (even_at i0 i1 y) same_after in
          unlifted_odd p0 p1 y i long odd ∙ rw (at_before, at_after) (sym (unlifted_odd i0 i1 y i whole odd))
    ]

-- a piece of one place is the line
one_piece : (i0 i1 p0 p1 i : ℕ) → i0 ≤ p0 → p1 ≤ i1 → p1 ≡ p0 + 1 → p0 ≤ i → i < p1
    → (p0 ≡ i0) ⊎ (p0 + 2 ≤ i) → (p1 ≡ i1) ⊎ (i + 2 < p1) → (p0 ≡ i0) × (p1 ≡ i1)
one_piece i0 i1 p0 p1 i lo hi one from to left right = elim left [
  | inl e ↦ elim right [ inl f ↦ (e, f) | inr lt ↦ absurd (omega arith) ]
  | inr lt ↦ absurd (omega arith)
]

pub is_piece_of_line : IsPieceOfLine
is_piece_of_line i0 i1 p0 p1 y lo hi i from to left right = elim (cases_lt (p0 + 1) p1) [
  | inl lt ↦ long_piece i0 i1 p0 p1 y i lo hi (omega arith) from to left right
  | inr ge ↦
      let same = one_piece i0 i1 p0 p1 i lo hi (omega arith) from to left right in
      ap (λ a. unlifted a p1 y i) same.0 ∙ ap (λ b. unlifted i0 b y i) same.1
]

left_margin : (a u x : ℕ) → u ≤ x → (max a (u - 2) ≡ a) ⊎ (max a (u - 2) + 2 ≤ x)
left_margin a u x h = elim (cases_lt a (u - 2)) [ inl lt ↦ inr (omega arith) | inr ge ↦ inl (omega arith) ]

right_margin : (b v x : ℕ) → x < v → (min b (v + 2) ≡ b) ⊎ (x + 2 < min b (v + 2))
right_margin b v x h = elim (cases_lt (v + 2) b) [ inl lt ↦ inr (omega arith) | inr ge ↦ inl (omega arith) ]

pub is_piece_of_plane : IsPieceOfPlane
is_piece_of_plane a u c d same x y ax xa ay ya ux xu uy yu =
    let e : Rect = near_area a u in
    let rows = is_piece_of_line a.y0 a.y1 e.y0 e.y1 (λ j. unlifted e.x0 e.x1 (λ i. c i j) x) (omega arith) (omega arith) y (omega arith) (omega arith)
    (left_margin a.y0 u.y0 y uy) (right_margin a.y1 u.y1 y yu) in
    let columns = unlifted_same a.y0 a.y1 (λ j. unlifted e.x0 e.x1 (λ i. c i j) x) (λ j. unlifted a.x0 a.x1 (λ i. c i j) x) y ay ya
    (λ j _ _. is_piece_of_line a.x0 a.x1 e.x0 e.x1 (λ i. c i j) (omega arith) (omega arith) x (omega arith) (omega arith)
    (left_margin a.x0 u.x0 x ux) (right_margin a.x1 u.x1 x xu)) in
    rows ∙ columns
    ∙ is_local_plane a.x0 a.x1 a.y0 a.y1 u.x0 u.x1 u.y0 u.y1 c d
    (λ i j ai ia aj ja ui iu uj ju. same i j (omega arith) (omega arith) (omega arith) (omega arith)) x y ax xa ay ya ux xu uy yu
