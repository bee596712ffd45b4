-- What calls answer, where a picture, a list of bytes or a fault is due.
use Rattle.std.specs.Prelude.{◌≡◌, ◌⊎◌, ℕ, ◌<◌, List, length, take, drop, Result, Ok, Err}
use Rattle.std.specs.Global.{Vec}
use Rattle.jk_math.specs.declared.fault.Fault.{Fault}
use Rattle.jk_math.specs.Picture.{Picture}
use Rattle.jk_c.specs.Codes.{done_code, memory_code, short_code, misfit_code, code_of}
use Rattle.jk_c.specs.Pixels.{ArePixels, Fits}

-- A call that gives samples of at most so many bits: the number of the fault; the pixels of the
-- picture; or Misfit, where the list isn't for them. But for the pixels the list is as before.
abbrev pub GivesPixels : (bits : ℕ) → Result Picture Fault → (before : List ℕ) → (code : ℕ) → (after : List ℕ) → Type 0
GivesPixels bits (Err e) before code after = (code ≡ code_of e) × (after ≡ before)
GivesPixels bits (Ok p) before code after =
    ((code ≡ done_code) × Fits bits p (length before) × ArePixels p after)
    ⊎ ((code ≡ misfit_code) × (Fits bits p (length before) → ⊥) × (after ≡ before))

-- that, or Memory
abbrev pub GivesPixelsOrMemory : (bits : ℕ) → Result Picture Fault → (before : List ℕ) → (code : ℕ) → (after : List ℕ)
    → Type 0
GivesPixelsOrMemory bits due before code after =
    ((code ≡ memory_code) × (after ≡ before)) ⊎ GivesPixels bits due before code after

-- the caller's room, and the length that a call tells
pub record Room : Type 0 where
  pub bytes : List ℕ
  pub length : ℕ

-- A call that hands out bytes: the number of the fault, and the room is as before; or it tells how
-- many bytes they are, and they stand at the beginning of the room; or they are too many for it.
abbrev pub HandsOut : Result (List ℕ) Fault → (before : Room) → (code : ℕ) → (after : Room) → Type 0
HandsOut (Err e) before code after = (code ≡ code_of e) × (after ≡ before)
HandsOut (Ok file) before code after =
    (after.length ≡ length file)
    × (((code ≡ done_code) × (take (length file) after.bytes ≡ file)
    × (drop (length file) after.bytes ≡ drop (length file) before.bytes))
    ⊎ ((code ≡ short_code) × (length before.bytes < length file) × (after.bytes ≡ before.bytes)))

-- that, or Memory
abbrev pub HandsOutOrMemory : Result (List ℕ) Fault → (before : Room) → (code : ℕ) → (after : Room) → Type 0
HandsOutOrMemory due before code after = ((code ≡ memory_code) × (after ≡ before)) ⊎ HandsOut due before code after

-- the room of a list and a length
abbrev pub room : List ℕ → ℕ → Room
room bytes n = record { bytes = bytes; length = n }

-- the bytes of a vector, where there is one
abbrev pub bytes_of : Result (Vec ℕ) Fault → Result (List ℕ) Fault
bytes_of (Ok v) = Ok v.items
bytes_of (Err e) = Err e
