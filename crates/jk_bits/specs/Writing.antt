-- A writer of stuffed bits.
use Rattle.std.specs.Prelude.{◌≡◌, ℕ, ◌^◌, ◌<◌, Bool, true, false, List, [], ◌∷◌, ◌++◌, ◌==◌, drop}
use Rattle.jk_bits.specs.Stuffing.{room, number, spread}

-- the bits that were written, and whether memory was refused
pub record Written : Type 0 where
  pub bits : List Bool
  pub failed : Bool

-- The bytes are the text of the bits whose padding is 0.
unfoldable pub Stuffs : Bool → List Bool → List ℕ → Type 0
Stuffs after bits [] = (bits ≡ []) × (after ≡ false)
Stuffs after [] (b ∷ bytes) = (after ≡ true) × (b ≡ 0) × (bytes ≡ [])
Stuffs after (bit ∷ bits) (b ∷ bytes) = (b ≡ number (room after) (bit ∷ bits))
    × Stuffs (b == 255) (drop (room after) (bit ∷ bits)) bytes

-- The registers of a writer: whole bytes, and the first begun of many bits of the next.
pub record IsWriting (bytes : List ℕ) (byte begun many : ℕ) : Type 0 where
  pub after : Bool
  pub many_is : many ≡ room after
  pub less : begun < many
  pub fits : byte < 2 ^ begun
  pub bits_go_on : (more : List ℕ) → spread false (bytes ++ more) ≡ spread false bytes ++ spread after more
  pub text_goes_on : (bits : List Bool) (more : List ℕ) → Stuffs after bits more
      → Stuffs false (spread false bytes ++ bits) (bytes ++ more)
