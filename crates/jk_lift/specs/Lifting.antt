-- The reversible 5-3 wavelet transform of one line of samples, one sample at a time (T.800 Annex
-- F).
--
-- A line has a value at each place i with i0 ≤ i < i1, and a function x from places says which. A
-- place is an absolute coordinate, and its own parity says whether a low-pass or a high-pass
-- coefficient stands there.
use Rattle.std.specs.Prelude.{ℕ, ℤ, ◌-◌, ◌%◌, ◌==◌, if◌then◌else◌, pos, ◌+ℤ◌, ◌-ℤ◌}
use Rattle.jk_math.specs.Division.{floor_of, reflected}

-- The places that stand before and after place i in the extended signal (1D_EXTR, 1D_EXTD: T.800
-- F.3.7, F.4.7).
abbrev pub before : ℕ → ℕ → ℕ → ℕ
before i0 i1 i = reflected (pos i -ℤ pos 1) i0 i1

abbrev pub after : ℕ → ℕ → ℕ → ℕ
after i0 i1 i = reflected (pos i +ℤ pos 1) i0 i1

-- The high-pass coefficient of a sample x between the samples a and b (1D_FILTD, T.800 F.4.8).
abbrev pub high_pass : ℤ → ℤ → ℤ → ℤ
high_pass x a b = x -ℤ floor_of (a +ℤ b) 2

-- The low-pass coefficient of a sample x between the high-pass coefficients a and b.
abbrev pub low_pass : ℤ → ℤ → ℤ → ℤ
low_pass x a b = x +ℤ floor_of (a +ℤ b +ℤ pos 2) 4

-- The sample of a low-pass coefficient y between the high-pass coefficients a and b (1D_FILTR,
-- T.800 F.3.8).
abbrev pub even_sample : ℤ → ℤ → ℤ → ℤ
even_sample y a b = y -ℤ floor_of (a +ℤ b +ℤ pos 2) 4

-- The sample of a high-pass coefficient y between the samples a and b.
abbrev pub odd_sample : ℤ → ℤ → ℤ → ℤ
odd_sample y a b = y +ℤ floor_of (a +ℤ b) 2

-- The high-pass coefficient at place i of the line of samples x.
unfoldable pub high_at : ℕ → ℕ → (ℕ → ℤ) → ℕ → ℤ
high_at i0 i1 x i = high_pass (x i) (x (before i0 i1 i)) (x (after i0 i1 i))

-- The coefficient Y(i) of the line of samples x (1D_SD, T.800 F.4.6). A single sample is kept at an
-- even place and doubled at an odd one.
unfoldable pub lifted : ℕ → ℕ → (ℕ → ℤ) → ℕ → ℤ
lifted i0 i1 x i =
    if i1 - i0 == 1
    then (if i % 2 == 0 then x i else (x i +ℤ x i))
    else (if i % 2 == 0
    then low_pass (x i) (high_at i0 i1 x (before i0 i1 i)) (high_at i0 i1 x (after i0 i1 i))
    else high_at i0 i1 x i)

-- The sample at an even place i of the line of coefficients y.
unfoldable pub even_at : ℕ → ℕ → (ℕ → ℤ) → ℕ → ℤ
even_at i0 i1 y i = even_sample (y i) (y (before i0 i1 i)) (y (after i0 i1 i))

-- The sample X(i) of the line of coefficients y (1D_SR, T.800 F.3.6). A single coefficient is kept
-- at an even place and halved at an odd one, rounding down.
unfoldable pub unlifted : ℕ → ℕ → (ℕ → ℤ) → ℕ → ℤ
unlifted i0 i1 y i =
    if i1 - i0 == 1
    then (if i % 2 == 0 then y i else floor_of (y i) 2)
    else (if i % 2 == 0
    then even_at i0 i1 y i
    else odd_sample (y i) (even_at i0 i1 y (before i0 i1 i)) (even_at i0 i1 y (after i0 i1 i)))
