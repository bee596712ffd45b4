-- A place in the bytes of a codestream.
use Rattle.std.specs.Prelude.{ℕ, ◌+◌, ◌-◌, List, length, drop}

-- the bytes from the place on, how many stand before it, and how many of them belong to the segment
-- that was entered
pub record ReadingPlace : Type 0 where
  pub rest : List ℕ
  pub at : ℕ
  pub room : ℕ

-- n bytes further
abbrev pub past : ℕ → ReadingPlace → ReadingPlace
past n p = record { rest = drop n p.rest; at = p.at + n; room = p.room - n }

-- the place after so many bytes, where no segment was entered
abbrev pub closed : List ℕ → ℕ → ReadingPlace
closed bytes at = record { rest = drop at bytes; at = at; room = length bytes - at }

-- the same place, with the segment left
abbrev pub outside : ReadingPlace → ReadingPlace
outside p = record { rest = p.rest; at = p.at; room = length p.rest }
