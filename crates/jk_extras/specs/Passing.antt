-- Boxes that are passed one after another, from left to right.
use Rattle.std.specs.Prelude.{ℕ, zero, suc, ◌+◌, ◌==◌, Bool, if◌then◌else◌, List, length, drop, Result, Ok}
use Rattle.jk_math.specs.Answer.{◌>>=◌}
use Rattle.jk_math.specs.declared.fault.Fault.{Fault}
use Rattle.jk_boxes.specs.declared.boxes.BoxHead.{BoxHead}
use Rattle.jk_boxes.specs.Reading.{box_at}

-- What is known at the end of the boxes, of which there are n at most; `ends`: the file ends with
-- them.
unfoldable pub passed_by : {T : Type 0}
    → (T → ℕ → BoxHead → List ℕ → Result T Fault) → Bool → ℕ → T → ℕ → List ℕ → Result T Fault
passed_by step ends zero known at rest = Ok known
passed_by step ends (suc n) known at rest =
    if length rest == 0 then Ok known
    else (box_at ends rest >>= λ box. step known at box rest
    >>= λ next. passed_by step ends n next (at + box.size) (drop box.size rest))
