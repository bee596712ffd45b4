-- What encoding a PGM or PPM file into a writer has written when it ends.
use Rattle.std.specs.Prelude.{◌≡◌, ℕ, ◌⊎◌, List, [], Result, Ok, Err, ⊤}
use Rattle.jk_math.specs.Memory.{IsMemory}
use Rattle.jk_math.specs.Picture.{Picture}
use Rattle.jk_math.specs.declared.fault.Fault.{Fault}
use Rattle.jk_pnm.specs.Reading.{pnm_at}
use Rattle.jk_code.specs.Beginnings.{IsLeft}
use Rattle.jk_options.specs.declared.plan.Plan.{Plan}
use Rattle.jk_options.specs.declared.plan.Placed.{Placed}
use Rattle.jk_options.specs.Plans.{placing}
use Rattle.jk_commands.specs.Commands.{encoded}

-- What was written: the whole file where it wasn't refused. Else nothing, where memory was refused,
-- or the file has no picture or the picture can't lie there; or what encoding the picture at its
-- place has left.
abbrev pub LeftOf : List ℕ → Plan → List ℕ → Result ⊤ Fault → Type 0
LeftOf bytes plan text (Ok done) = encoded bytes plan ≡ Ok text
LeftOf bytes plan text (Err e) =
    (IsMemory e × (text ≡ []))
    ⊎ ((encoded bytes plan ≡ Err e) × (text ≡ []))
    ⊎ ((p : Picture) × (x : Placed) × (pnm_at bytes ≡ Ok p) × (placing p plan ≡ Ok x)
    × IsLeft x.image x.parameters text e)
