-- Looks at the published list, how many were made and how many were refused.
use Rattle.std.specs.Prelude.{◌≡◌, ℕ, ◌+◌, ◌<◌, ◌⊎◌, min, List, length}
use Rattle.jk_store.specs.Counting.{last_count}
use Rattle.jk_store.specs.declared.entry.Entry.{Entry}
use Rattle.jk_hall.specs.declared.looks.Looks.{Looks}

-- one more, up to the greatest count
abbrev pub once_more : ℕ → ℕ
once_more n = min (n + 1) last_count

-- Between the two a look was made, once.
abbrev pub IsLook : Looks → Looks → Type 0
IsLook old new = (new.made ≡ once_more old.made) × (new.refused ≡ old.refused)

-- Between the two a look was refused, once.
abbrev pub IsRefusedLook : Looks → Looks → Type 0
IsRefusedLook old new = (new.refused ≡ once_more old.refused) × (new.made ≡ old.made)

-- Between the two no list was seen that could be answered from: the look was refused, or what was
-- looked at is shorter than what was told.
abbrev pub IsInVain : Looks → List Entry → List Entry → Looks → Type 0
IsInVain old told seen new = IsRefusedLook old new ⊎ (IsLook old new × (length seen < length told))
