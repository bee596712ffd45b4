-- What a file is given beside the samples, by boxes one after another.
use Rattle.std.specs.Prelude.{◌≡◌, ◌⊎◌, ℕ, List, Result, Ok, Err}
use Rattle.jk_math.specs.declared.fault.Fault.{Fault}
use Rattle.jk_extras.specs.declared.values.Extras.{Extras}
use Rattle.jk_extras.specs.Boxed.{plain, extras_read}
use Rattle.jk_extras.specs.Placing.{with_extras_at}
use Rattle.jk_c.specs.Answers.{Room, HandsOut, HandsOutOrMemory}
use Rattle.jk_c.specs.Codes.{memory_code}
use Rattle.jk_math.specs.Answer.{Answers}
use Rattle.jk_math.specs.Memory.{IsMemory}
use Rattle.std.specs.Global.{Vec}

-- The boxes say what the file is to keep, and it is handed out with that.
pub record IsGiven (boxes file : List ℕ) (before : Room) (code : ℕ) (after : Room) : Type 0 where
  pub extras : Extras
  pub says : extras_read boxes ≡ Ok (plain extras)
  pub handed : HandsOutOrMemory (with_extras_at extras file) before code after

-- A call that gives a file what boxes say: the first fault of the boxes; or it hands out the file
-- with that; or Memory.
abbrev pub GivesKept : (boxes file : List ℕ) → (before : Room) → (code : ℕ) → (after : Room) → Type 0
GivesKept boxes file before code after =
    ((code ≡ memory_code) × (after ≡ before))
    ⊎ ((e : Fault) × (extras_read boxes ≡ Err e) × HandsOut (Err e) before code after)
    ⊎ IsGiven boxes file before code after

-- The file is the one with what the boxes say, or the first fault is answered.
abbrev pub IsFileGiven : (boxes file : List ℕ) → Result (Vec ℕ) Fault → Type 0
IsFileGiven boxes file made =
    ((e : Fault) × (made ≡ Err e) × IsMemory e)
    ⊎ ((e : Fault) × (made ≡ Err e) × (extras_read boxes ≡ Err e))
    ⊎ ((extras : Extras) × (extras_read boxes ≡ Ok (plain extras))
    × Answers (λ (v : Vec ℕ). v.items) made (with_extras_at extras file))
