-- The schedules of four blocks, with the words at one place beside each other.
use Rattle.std.specs.Prelude.{◌≡◌, ℕ, zero, suc, ◌+◌, ◌*◌, ◌<◌, List, take, drop, slice_index}
use Rattle.sha2.specs.Sha256.{schedule}

-- a block of a message (5.2.1)
abbrev pub message_block : List ℕ → ℕ → List ℕ
message_block p k = take 64 (drop (k * 64) p)

-- one of four lists, by its number
abbrev pub one_of : List ℕ → List ℕ → List ℕ → List ℕ → ℕ → List ℕ
one_of a b c d zero = a
one_of a b c d (suc zero) = b
one_of a b c d (suc (suc zero)) = c
one_of a b c d (suc (suc (suc k))) = d

-- the first n words of the schedules of four blocks
abbrev pub HasWords : (ℕ → List ℕ) → List ℕ → ℕ → Type 0
HasWords b words n = (t k : ℕ) → t < n → k < 4 → slice_index words (4 * t + k) ≡ slice_index (schedule (b k) 48) t

-- all words of the schedule of a block, which is the one at k
abbrev pub HasColumn : List ℕ → List ℕ → ℕ → Type 0
HasColumn b words k = (t : ℕ) → t < 64 → slice_index words (4 * t + k) ≡ slice_index (schedule b 48) t
