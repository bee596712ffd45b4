-- Bytes of a stored file that are at hand.
use Rattle.std.specs.Prelude.{◌≡◌, ℕ, ◌+◌, ◌≤◌, List, length, take, drop}
use Rattle.jk_stored.specs.declared.hand.Hand.{Hand}

-- They are those of the file.
abbrev pub IsHeld : List ℕ → Hand → Type 0
IsHeld f h = take h.count h.room.items ≡ take h.count (drop h.start f)

-- A place is at hand, or that behind the last byte.
pub record IsAt (h : Hand) (at : ℕ) : Type 0 where
  pub begun : h.start ≤ at
  pub within : at ≤ h.start + h.count
  pub fits : h.count ≤ length h.room.items
