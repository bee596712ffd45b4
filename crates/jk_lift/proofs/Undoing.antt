-- Inverse lifting undoes forward lifting, and looks at most two places away.
use Rattle.std.proofs.Common.{◌≡◌, ℕ, ℤ, ◌+◌, ◌*◌, ◌/◌, ◌%◌, ◌<◌, ◌≤◌, ◌⊎◌, length, get_or, pos, ◌+ℤ◌, ◌-ℤ◌, inl, inr, sym, ◌∙◌, ap, arith}
use Rattle.std.proofs.lemmas.Bool.{cases_eq, cases_lt}
use Rattle.std.proofs.lemmas.Int.{ints}
use Rattle.std.proofs.lemmas.List.{ext_get_or}
use Rattle.jk_math.specs.Division.{floor_of}
use Rattle.jk_lift.specs.Lifting.{before, after, high_at, lifted, even_at, unlifted}
use Rattle.jk_lift.specs.Planes.{lifted_plane}
use Rattle.jk_lift.specs.Samples.{line_of, woven, column}
use Rattle.jk_lift.specs.Laws.{UndoesLine, UndoesPlane, UndoesLineOfSamples, UndoesRows, IsLocalLine, IsLocalPlane}
use Rattle.jk_lift.proofs.Neighbours.{before_inside, before_first, after_inside, after_last}
use Rattle.std.proofs.Math.Nat.{mod-lt, div-lt_iff_lt-mul}
use Rattle.std.proofs.lemmas.Nat.{div-add-mod'}
use Rattle.jk_lift.proofs.Columns.{column_at}
use Rattle.jk_math.proofs.Laws.{half_high, half_low}
use Rattle.jk_lift.proofs.Equations.{high_at_is, even_at_is, lifted_even, lifted_odd, lifted_one_even, lifted_one_odd, unlifted_even, unlifted_odd, unlifted_one_even, unlifted_one_odd, line_of_at}

-- the neighbours are on the line, one place away and of the other parity
pub record IsNext (i0 i1 i n : ℕ) : Type 0 where
  pub from : i0 ≤ n
  pub to : n < i1
  pub near : (n ≡ i + 1) ⊎ (n + 1 ≡ i)

pub before_next : (i0 i1 i : ℕ) → i0 + 2 ≤ i1 → i0 ≤ i → i < i1 → IsNext i0 i1 i (before i0 i1 i)
before_next i0 i1 i long from to = elim (cases_eq i i0) [
  | inl e ↦
      let first : before i0 i1 i ≡ i0 + 1 = ap (before i0 i1) e ∙ before_first i0 i1 long in
      record { from = omega arith; to = omega arith; near = inl (omega arith) }
  | inr ne ↦
      let inside = before_inside i0 i1 i long (omega arith) to in
      record { from = omega arith; to = omega arith; near = inr (omega arith) }
]

pub after_next : (i0 i1 i : ℕ) → i0 + 2 ≤ i1 → i0 ≤ i → i < i1 → IsNext i0 i1 i (after i0 i1 i)
after_next i0 i1 i long from to = elim (cases_eq (i + 1) i1) [
  | inl e ↦
      let last = after_last i0 i1 i long e in
      record { from = omega arith; to = omega arith; near = inr (omega arith) }
  | inr ne ↦
      let inside = after_inside i0 i1 i long from (omega arith) in
      record { from = omega arith; to = omega arith; near = inl (omega arith) }
]

pub next_odd : (i0 i1 i n : ℕ) → IsNext i0 i1 i n → i % 2 ≡ 0 → n % 2 ≡ 1
next_odd i0 i1 i n h even = elim h.near [ inl e ↦ omega arith | inr e ↦ omega arith ]

pub next_even : (i0 i1 i n : ℕ) → IsNext i0 i1 i n → i % 2 ≡ 1 → n % 2 ≡ 0
next_even i0 i1 i n h odd = elim h.near [ inl e ↦ omega arith | inr e ↦ omega arith ]

-- what is added is taken away again
plus_minus : (x q : ℤ) → x +ℤ q -ℤ q ≡ x
plus_minus x q = omega (arith, ints)

minus_plus : (x q : ℤ) → x -ℤ q +ℤ q ≡ x
minus_plus x q = omega (arith, ints)

half_double : (x : ℤ) → floor_of (x +ℤ x) 2 ≡ x
half_double x = let h = half_high (x +ℤ x) in let l = half_low (x +ℤ x) in omega (arith, ints)

-- the even places of the coefficients of a line give its samples
even_undone : (i0 i1 : ℕ) (x : ℕ → ℤ) (i : ℕ) → i0 + 2 ≤ i1 → i0 ≤ i → i < i1 → i % 2 ≡ 0 → even_at i0 i1 (lifted i0 i1 x) i ≡ x i
even_undone i0 i1 x i long from to even =
    let b = before_next i0 i1 i long from to in
    let a = after_next i0 i1 i long from to in
    rw (
      even_at_is,
      lifted_even i0 i1 x i long even,
      lifted_odd i0 i1 x (before i0 i1 i) long (next_odd i0 i1 i (before i0 i1 i) b even),
      lifted_odd i0 i1 x (after i0 i1 i) long (next_odd i0 i1 i (after i0 i1 i) a even),
    )
    (plus_minus (x i) (floor_of (high_at i0 i1 x (before i0 i1 i) +ℤ high_at i0 i1 x (after i0 i1 i) +ℤ pos 2) 4))

odd_undone : (i0 i1 : ℕ) (x : ℕ → ℤ) (i : ℕ) → i0 + 2 ≤ i1 → i0 ≤ i → i < i1 → i % 2 ≡ 1 → unlifted i0 i1 (lifted i0 i1 x) i ≡ x i
odd_undone i0 i1 x i long from to odd =
    let b = before_next i0 i1 i long from to in
    let a = after_next i0 i1 i long from to in
    rw (
      unlifted_odd i0 i1 (lifted i0 i1 x) i long odd,
      lifted_odd i0 i1 x i long odd,
      high_at_is,
      even_undone i0 i1 x (before i0 i1 i) long b.from b.to (next_even i0 i1 i (before i0 i1 i) b odd),
      even_undone i0 i1 x (after i0 i1 i) long a.from a.to (next_even i0 i1 i (after i0 i1 i) a odd),
    )
    (minus_plus (x i) (floor_of (x (before i0 i1 i) +ℤ x (after i0 i1 i)) 2))

pub undoes_line : UndoesLine
undoes_line i0 i1 x i from to = elim (cases_lt (i0 + 1) i1) [
  | inl lt ↦ elim (cases_eq (i % 2) 0) [
    | inl even ↦ unlifted_even i0 i1 (lifted i0 i1 x) i (omega arith) even ∙ even_undone i0 i1 x i (omega arith) from to even
    | inr odd ↦ odd_undone i0 i1 x i (omega arith) from to (omega arith)
  ]
  | inr one ↦ elim (cases_eq (i % 2) 0) [
    | inl even ↦ unlifted_one_even i0 i1 (lifted i0 i1 x) i (omega arith) even ∙ lifted_one_even i0 i1 x i (omega arith) even
    | inr odd ↦
        unlifted_one_odd i0 i1 (lifted i0 i1 x) i (omega arith) (omega arith)
        ∙ ap (λ z. floor_of z 2) (lifted_one_odd i0 i1 x i (omega arith) (omega arith)) ∙ half_double (x i)
  ]
]

-- a sample asks for coefficients two places away at most
even_near : (i0 i1 : ℕ) (y z : ℕ → ℤ) (i : ℕ) → i0 + 2 ≤ i1 → i0 ≤ i → i < i1 →
    ((j : ℕ) → i0 ≤ j → j < i1 → i ≤ j + 1 → j ≤ i + 1 → y j ≡ z j) → even_at i0 i1 y i ≡ even_at i0 i1 z i
even_near i0 i1 y z i long from to same =
    let b = before_next i0 i1 i long from to in
    let a = after_next i0 i1 i long from to in
    let at_before = same (before i0 i1 i) b.from b.to (elim b.near [ inl e ↦ omega arith | inr e ↦ omega arith ]) (elim b.near [ inl e ↦ omega arith | inr e ↦ omega arith ]) in
    let at_after = same (after i0 i1 i) a.from a.to (elim a.near [ inl e ↦ omega arith | inr e ↦ omega arith ]) (elim a.near [ inl e ↦ omega arith | inr e ↦ omega arith ]) in
    even_at_is i0 i1 y i ∙ rw (same i from to (omega arith) (omega arith), at_before, at_after) (sym (even_at_is i0 i1 z i))

sample_near : (i0 i1 : ℕ) (y z : ℕ → ℤ) (i : ℕ) → i0 ≤ i → i < i1 →
    ((j : ℕ) → i0 ≤ j → j < i1 → i ≤ j + 2 → j ≤ i + 2 → y j ≡ z j) → unlifted i0 i1 y i ≡ unlifted i0 i1 z i
sample_near i0 i1 y z i from to same = elim (cases_lt (i0 + 1) i1) [
  | inl lt ↦
      let long : i0 + 2 ≤ i1 = omega arith in
      elim (cases_eq (i % 2) 0) [
        | inl even ↦
            unlifted_even i0 i1 y i long even ∙ even_near i0 i1 y z i long from to (λ j f t l m. same j f t (omega arith) (omega arith))
            ∙ sym (unlifted_even i0 i1 z i long even)
        | inr ne ↦
            let odd : i % 2 ≡ 1 = omega arith in
            let b = before_next i0 i1 i long from to in
            let a = after_next i0 i1 i long from to in
            let at_before = even_near i0 i1 y z (before i0 i1 i) long b.from b.to
            (λ j f t l m. same j f t (elim b.near [ inl e ↦ omega arith | inr e ↦ omega arith ]) (elim b.near [ inl e ↦ omega arith | inr e ↦ omega arith ])) in
            let at_after = even_near i0 i1 y z (after i0 i1 i) long a.from a.to
            (λ j f t l m. same j f t (elim a.near [ inl e ↦ omega arith | inr e ↦ omega arith ]) (elim a.near [ inl e ↦ omega arith | inr e ↦ omega arith ])) in
            unlifted_odd i0 i1 y i long odd ∙ rw (same i from to (omega arith) (omega arith), at_before, at_after) (sym (unlifted_odd i0 i1 z i long odd))
      ]
  | inr one ↦
      let here = same i from to (omega arith) (omega arith) in
      elim (cases_eq (i % 2) 0) [
        | inl even ↦ unlifted_one_even i0 i1 y i (omega arith) even ∙ here ∙ sym (unlifted_one_even i0 i1 z i (omega arith) even)
        | inr odd ↦
            unlifted_one_odd i0 i1 y i (omega arith) (omega arith) ∙ ap (λ v. floor_of v 2) here ∙ sym (unlifted_one_odd i0 i1 z i (omega arith) (omega arith))
      ]
]

pub is_local_line : IsLocalLine
is_local_line i0 i1 u0 u1 y z same i from to inside before_end =
    sample_near i0 i1 y z i from to (λ j f t l m. same j f t (omega arith) (omega arith))

-- a result depends on the line alone
pub unlifted_same : (i0 i1 : ℕ) (y z : ℕ → ℤ) (i : ℕ) → i0 ≤ i → i < i1 → ((j : ℕ) → i0 ≤ j → j < i1 → y j ≡ z j) → unlifted i0 i1 y i ≡ unlifted i0 i1 z i
unlifted_same i0 i1 y z i from to same = sample_near i0 i1 y z i from to (λ j f t _ _. same j f t)

pub is_local_plane : IsLocalPlane
is_local_plane x0 x1 y0 y1 u0 u1 v0 v1 c d same x y xf xt yf yt ux xu vy yv =
    is_local_line y0 y1 v0 v1 (λ j. unlifted x0 x1 (λ i. c i j) x) (λ j. unlifted x0 x1 (λ i. d i j) x)
    (λ j jf jt vj jv. is_local_line x0 x1 u0 u1 (λ i. c i j) (λ i. d i j) (λ i if it ui iu. same i j if it jf jt ui iu vj jv) x xf xt ux xu)
    y yf yt vy yv

pub undoes_plane : UndoesPlane
undoes_plane x0 x1 y0 y1 f x y xf xt yf yt =
    unlifted_same y0 y1 (λ j. unlifted x0 x1 (λ i. lifted_plane x0 x1 y0 y1 f i j) x) (lifted y0 y1 (f x)) y yf yt
    (λ j jf jt. undoes_line x0 x1 (λ i. lifted y0 y1 (f i) j) x xf xt)
    ∙ undoes_line y0 y1 (f x) y yf yt

pub undoes_line_of_samples : UndoesLineOfSamples
undoes_line_of_samples start line low high back same analysed synthesised =
    ext_get_or (pos 0) back line same (λ j l.
    let n : ℕ = length line in
    let from : start ≤ start + j = omega arith in
    let to : start + j < start + length line = omega arith in
    let to_back : start + j < start + length back = omega arith in
    let ends : start + length back ≡ start + length line = omega arith in
    sym (line_of_at start back j) ∙ synthesised (start + j) from to_back
    ∙ ap (λ e. unlifted start e (woven start low high) (start + j)) ends
    ∙ unlifted_same start (start + n) (woven start low high) (lifted start (start + n) (line_of start line)) (start + j) from to analysed
    ∙ undoes_line start (start + n) (line_of start line) (start + j) from to ∙ line_of_at start line j)

pub undoes_rows : UndoesRows
undoes_rows start width height old coefficients back e f g analysed synthesised =
    ext_get_or (pos 0) back old (g ∙ sym e) (λ k l.
    let inside : k < height * width = omega arith in
    let wide : 0 < width = elim (cases_eq width 0) [ inl z ↦ absurd (omega (arith, ap (λ w. height * w) z)) | inr ne ↦ omega arith ] in
    let j : ℕ = k / width in
    let x : ℕ = k % width in
    let right : x < width = mod-lt k wide in
    let whole : j * width + x ≡ k = div-add-mod' k width in
    let row : j < height = (div-lt_iff_lt-mul wide).1 inside in
    let from : start ≤ start + j = omega arith in
    let to : start + j < start + height = omega arith in
    ap (λ k. get_or back k (pos 0)) (sym whole) ∙ sym (column_at start width x j back)
    ∙ synthesised height x (start + j) f right from to
    ∙ unlifted_same start (start + height) (column start width coefficients x) (lifted start (start + height) (column start width old x)) (start + j) from to
    (λ i a b. analysed height x i e right a b)
    ∙ undoes_line start (start + height) (column start width old x) (start + j) from to
    ∙ column_at start width x j old ∙ ap (λ k. get_or old k (pos 0)) whole)
