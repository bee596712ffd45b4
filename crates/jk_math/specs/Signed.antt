-- Numbers that may be negative, and lists of them.
use Rattle.std.specs.Prelude.{ℕ, ℤ, List, pos, neg_ℤ, ◌<ℤ◌, slice_index_or}

-- the magnitude of z is below m
abbrev pub IsBelow : ℕ → ℤ → Type 0
IsBelow m z = (neg_ℤ (pos m) <ℤ z) × (z <ℤ pos m)

-- number k of a list, and 0 past its end
abbrev pub signed_at : List ℤ → ℕ → ℤ
signed_at numbers k = slice_index_or numbers k (pos 0)
