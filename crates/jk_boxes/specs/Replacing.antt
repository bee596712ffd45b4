-- A codestream that is replaced, by places in the file, with the first fault that is met.
use Rattle.std.specs.Prelude.{ℕ, ◌+◌, ◌-◌, nat_eq, if◌then◌else◌, List, ◌++◌, length, take, drop, Result, Ok, Err}
use Rattle.std.specs.List.{starts_with}
use Rattle.jk_math.specs.Answer.{◌>>=◌}
use Rattle.jk_math.specs.declared.fault.Fault.{Fault}
use Rattle.jk_math.specs.declared.fault.Fault.TheVariants.{Limit}
use Rattle.jk_boxes.specs.declared.place.CodePlace.{CodePlace}
use Rattle.jk_boxes.specs.Boxes.{head_size, head_text, soc, code_kind}
use Rattle.jk_boxes.specs.Reading.{jp2_at}
use Rattle.jk_boxes.specs.Written.{fits_form}

-- the contents of the codestream box replaced, whose length keeps its form
unfoldable pub replaced_at : CodePlace → List ℕ → List ℕ → Result (List ℕ) Fault
replaced_at p file codestream =
    let size = head_size p.form + length codestream in
    if fits_form p.form size
    then Ok (take (p.start - head_size p.form) file
    ++ (head_text p.form code_kind size ++ (codestream ++ drop p.end file)))
    else Err Limit

unfoldable pub replaced : List ℕ → List ℕ → Result (List ℕ) Fault
replaced file codestream =
    if starts_with nat_eq file soc then Ok codestream
    else (jp2_at file >>= λ p. replaced_at p file codestream)
