-- Laws of the formulas, for every start and length.
use Rattle.std.specs.Prelude.{◌≡◌, ℕ, ℤ, List, ◌+◌, ◌*◌, ◌/◌, ◌%◌, ◌^◌, ◌<◌, ◌≤◌, ◌⊎◌, length, unsigned_abs}
use Rattle.jk_lift.specs.Lifting.{lifted, unlifted}
use Rattle.jk_lift.specs.Planes.{lifted_plane, unlifted_plane}
use Rattle.jk_lift.specs.Samples.{AnalysesLine, SynthesisesLine, AnalysesRows, SynthesisesRows}

-- Inverse lifting undoes forward lifting, on a line and on a plane.
abbrev pub UndoesLine : Type 0
UndoesLine = (i0 i1 : ℕ) (x : ℕ → ℤ) (i : ℕ) → i0 ≤ i → i < i1 → unlifted i0 i1 (lifted i0 i1 x) i ≡ x i

abbrev pub UndoesPlane : Type 0
UndoesPlane = (x0 x1 y0 y1 : ℕ) (f : ℕ → ℕ → ℤ) (x y : ℕ) → x0 ≤ x → x < x1 → y0 ≤ y → y < y1 →
    unlifted_plane x0 x1 y0 y1 (lifted_plane x0 x1 y0 y1 f) x y ≡ f x y

-- The samples of the coefficients of a line are the line, and so for rows of columns.
abbrev pub UndoesLineOfSamples : Type 0
UndoesLineOfSamples = (start : ℕ) (line low high back : List ℤ) → length back ≡ length line →
    AnalysesLine start line low high → SynthesisesLine start low high back → back ≡ line

abbrev pub UndoesRows : Type 0
UndoesRows = (start width height : ℕ) (old coefficients back : List ℤ) →
    length old ≡ height * width → length coefficients ≡ height * width → length back ≡ height * width →
    AnalysesRows start width old coefficients → SynthesisesRows start width coefficients back → back ≡ old

-- A sample depends on the coefficients at most two places away alone, at the ends of the line too.
abbrev pub IsLocalLine : Type 0
IsLocalLine = (i0 i1 u0 u1 : ℕ) (y z : ℕ → ℤ) →
    ((j : ℕ) → i0 ≤ j → j < i1 → u0 ≤ j + 2 → j < u1 + 2 → y j ≡ z j) →
    (i : ℕ) → i0 ≤ i → i < i1 → u0 ≤ i → i < u1 → unlifted i0 i1 y i ≡ unlifted i0 i1 z i

abbrev pub IsLocalPlane : Type 0
IsLocalPlane = (x0 x1 y0 y1 u0 u1 v0 v1 : ℕ) (c d : ℕ → ℕ → ℤ) →
    ((i j : ℕ) → x0 ≤ i → i < x1 → y0 ≤ j → j < y1 → u0 ≤ i + 2 → i < u1 + 2 → v0 ≤ j + 2 → j < v1 + 2 → c i j ≡ d i j) →
    (x y : ℕ) → x0 ≤ x → x < x1 → y0 ≤ y → y < y1 → u0 ≤ x → x < u1 → v0 ≤ y → y < v1 →
    unlifted_plane x0 x1 y0 y1 c x y ≡ unlifted_plane x0 x1 y0 y1 d x y

-- One line forwards: a magnitude and 2 grow to at most twice as much in the high-pass part, and to
-- one and a half times as much in the low-pass part.
abbrev pub GrowsLine : Type 0
GrowsLine = (i0 i1 b : ℕ) (x : ℕ → ℤ) → ((j : ℕ) → i0 ≤ j → j < i1 → unsigned_abs (x j) + 2 ≤ b) →
    (i : ℕ) → i0 ≤ i → i < i1 →
    (i % 2 ≡ 1 → unsigned_abs (lifted i0 i1 x i) + 2 ≤ 2 * b) × (i % 2 ≡ 0 → 2 * (unsigned_abs (lifted i0 i1 x i) + 2) ≤ 3 * b)

-- One level forwards: the same in both directions.
abbrev pub GrowsPlane : Type 0
GrowsPlane = (x0 x1 y0 y1 b : ℕ) (f : ℕ → ℕ → ℤ) →
    ((i j : ℕ) → x0 ≤ i → i < x1 → y0 ≤ j → j < y1 → unsigned_abs (f i j) + 2 ≤ b) →
    (x y : ℕ) → x0 ≤ x → x < x1 → y0 ≤ y → y < y1 →
    (x % 2 ≡ 0 → y % 2 ≡ 0 → 4 * (unsigned_abs (lifted_plane x0 x1 y0 y1 f x y) + 2) ≤ 9 * b)
    × (x % 2 ≡ 1 → y % 2 ≡ 0 → unsigned_abs (lifted_plane x0 x1 y0 y1 f x y) + 2 ≤ 3 * b)
    × (x % 2 ≡ 0 → y % 2 ≡ 1 → unsigned_abs (lifted_plane x0 x1 y0 y1 f x y) + 2 ≤ 3 * b)
    × (x % 2 ≡ 1 → y % 2 ≡ 1 → unsigned_abs (lifted_plane x0 x1 y0 y1 f x y) + 2 ≤ 4 * b)

-- One level backwards. Where the lower resolution, which stands at the places even in both
-- directions, is within b / 4, and the other coefficients are within m, the rows' results and the
-- level's are within (b + 21 m + 7) / 4.
abbrev pub BoundsPlane : Type 0
BoundsPlane = (x0 x1 y0 y1 b m : ℕ) (c : ℕ → ℕ → ℤ) →
    ((i j : ℕ) → x0 ≤ i → i < x1 → y0 ≤ j → j < y1 → i % 2 ≡ 0 → j % 2 ≡ 0 → 4 * unsigned_abs (c i j) ≤ b) →
    ((i j : ℕ) → x0 ≤ i → i < x1 → y0 ≤ j → j < y1 → (i % 2 ≡ 1) ⊎ (j % 2 ≡ 1) → unsigned_abs (c i j) ≤ m) →
    (x y : ℕ) → x0 ≤ x → x < x1 → y0 ≤ y → y < y1 →
    (4 * unsigned_abs (unlifted x0 x1 (λ i. c i y) x) ≤ b + 21 * m + 7)
    × (4 * unsigned_abs (unlifted_plane x0 x1 y0 y1 c x y) ≤ b + 21 * m + 7)

-- The resolutions of a tile-component up to the tenth: each is one level back from the coefficients
-- c of its level, whose places even in both directions hold the resolution below. With all
-- coefficients within 2^23, each resolution, and what the rows of its level give, stays below 2^29.
abbrev pub BoundsTenLevels : Type 0
BoundsTenLevels = (x0 x1 y0 y1 : ℕ → ℕ) (c s : ℕ → ℕ → ℕ → ℤ) →
    ((x y : ℕ) → x0 0 ≤ x → x < x1 0 → y0 0 ≤ y → y < y1 0 → unsigned_abs (s 0 x y) ≤ 2 ^ 23) →
    ((r x y : ℕ) → r < 10 → x0 (r + 1) ≤ x → x < x1 (r + 1) → y0 (r + 1) ≤ y → y < y1 (r + 1) →
    s (r + 1) x y ≡ unlifted_plane (x0 (r + 1)) (x1 (r + 1)) (y0 (r + 1)) (y1 (r + 1)) (c (r + 1)) x y) →
    ((r x y : ℕ) → r < 10 → x0 (r + 1) ≤ x → x < x1 (r + 1) → y0 (r + 1) ≤ y → y < y1 (r + 1) → x % 2 ≡ 0 → y % 2 ≡ 0 →
    (x0 r ≤ x / 2) × (x / 2 < x1 r) × (y0 r ≤ y / 2) × (y / 2 < y1 r) × (c (r + 1) x y ≡ s r (x / 2) (y / 2))) →
    ((r x y : ℕ) → r < 10 → x0 (r + 1) ≤ x → x < x1 (r + 1) → y0 (r + 1) ≤ y → y < y1 (r + 1) →
    (x % 2 ≡ 1) ⊎ (y % 2 ≡ 1) → unsigned_abs (c (r + 1) x y) ≤ 2 ^ 23) →
    (r x y : ℕ) → r ≤ 10 → x0 r ≤ x → x < x1 r → y0 r ≤ y → y < y1 r →
    (unsigned_abs (s r x y) < 2 ^ 29) × (0 < r → unsigned_abs (unlifted (x0 r) (x1 r) (λ i. c r i y) x) < 2 ^ 29)
