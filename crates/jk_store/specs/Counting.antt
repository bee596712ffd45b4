-- How the failures of a shelf are counted.
use Rattle.std.specs.Prelude.{◌≡◌, ℕ, ◌+◌, ◌<◌, min, ◌⊎◌, Result, Ok, Err}
use Rattle.jk_math.specs.declared.fault.Fault.{Fault}
use Rattle.jk_math.specs.declared.fault.Fault.TheVariants.{Shelf}
use Rattle.jk_math.specs.Memory.{IsMemory}

-- the greatest count
abbrev pub last_count : ℕ
last_count = 18446744073709551615

-- No failure is counted, which can't be at the greatest count.
abbrev pub Stays : ℕ → ℕ → Type 0
Stays before after = (after ≡ before) × (before < last_count)

-- The count before and after a call of a shelf: a failure is counted, up to the greatest count,
-- where every call is one.
abbrev pub Counts : {A : Type 0} → Result A Fault → ℕ → ℕ → Type 0
Counts (Ok _) before after = Stays before after
Counts (Err e) before after = (IsMemory e × Stays before after) ⊎ ((e ≡ Shelf) × (after ≡ min (before + 1) last_count))
