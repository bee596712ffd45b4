-- Rows numbered from 0, each lifted with the rows before and after it.
use Rattle.std.specs.Prelude.{ℕ, ℤ, ◌+◌, ◌-◌, ◌%◌, ◌==◌, if◌then◌else◌}

-- The row before row j, and the one after it of n rows; at an end the other neighbour stands for
-- it.
abbrev pub row_before : ℕ → ℕ
row_before j = if j == 0 then 1 else j - 1

abbrev pub row_after : ℕ → ℕ → ℕ
row_after n j = if j + 1 == n then j - 1 else j + 1

-- What the first step f makes of entry j of n.
abbrev pub first_step : (ℤ → ℤ → ℤ → ℤ) → ℕ → (ℕ → ℤ) → ℕ → ℤ
first_step f n x j = f (x j) (x (row_before j)) (x (row_after n j))

-- Entry j after both steps: f is for the entries whose parity isn't p, and g for the others,
-- between results of f.
abbrev pub both_steps : (ℤ → ℤ → ℤ → ℤ) → (ℤ → ℤ → ℤ → ℤ) → ℕ → ℕ → (ℕ → ℤ) → ℕ → ℤ
both_steps f g p n x j =
    if j % 2 == p then g (x j) (first_step f n x (row_before j)) (first_step f n x (row_after n j)) else first_step f n x j
