-- A bare codestream gets nothing.
use Rattle.std.proofs.Common.{◌≡◌, ℕ, List, Ok, inl, refl, sym, ◌∙◌}
use Rattle.jk_boxes.specs.Boxes.{IsBare, HoldsCodestream, bare_place}
use Rattle.jk_boxes.specs.Reading.{boxes_at}
use Rattle.jk_boxes.proofs.Laws.{place_again}
use Rattle.jk_math.specs.declared.fault.Fault.TheVariants.{BadParameters}
use Rattle.jk_extras.specs.declared.values.Extras.{Extras}
use Rattle.jk_extras.specs.Placing.{with_extras_at}
use Rattle.std.specs.Prelude.{Result, Err}
use Rattle.jk_math.specs.declared.fault.Fault.{Fault}

refused_at : (file codestream : List ℕ) (e : Extras) → IsBare file codestream → with_extras_at e file ≡ Err BadParameters
unfolding with_extras_at
refused_at file codestream e bare =
    let opened : boxes_at file ≡ Ok (bare_place file) = (place_again file codestream (bare_place file) (inl (bare, refl))).0 in
    rw opened refl

ok_or_err : (r : Result (List ℕ) Fault) (text : List ℕ) (d : Fault) → r ≡ Ok text → r ≡ Err d → ⊥
ok_or_err r text d e f = absurd (let same = sym e ∙ f in cc)

pub bare_undressed : (file codestream : List ℕ) (e : Extras) (text : List ℕ) → IsBare file codestream → with_extras_at e file ≡ Ok text → HoldsCodestream text codestream
bare_undressed file codestream e text bare due = absurd (ok_or_err (with_extras_at e file) text BadParameters due (refused_at file codestream e bare))
