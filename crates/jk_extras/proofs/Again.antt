-- A file with extras is told where the file was.
use Rattle.std.proofs.Common.{◌≡◌, ℕ, Bool, true, false, cond, List, length, Option, Some, None, Result, Ok, refl, sym, ap, ◌∙◌, arith}
use Rattle.std.specs.Prelude.{IfSome}
use Rattle.std.specs.List.{AllByRecursion}
use Rattle.jk_math.specs.Answer.{◌>>=◌}
use Rattle.jk_math.specs.Steps.{bind_then}
use Rattle.jk_math.specs.declared.fault.Fault.{Fault}
use Rattle.jk_boxes.specs.Boxes.{Box, IsJp2, IsInner, boxes_text, palette_kind}
use Rattle.jk_extras.specs.declared.grids.Grids.{Grids}
use Rattle.jk_extras.specs.declared.values.Extras.{Extras}
use Rattle.jk_extras.specs.declared.header.Met.{Met}
use Rattle.jk_extras.specs.declared.told.Told.{Told}
use Rattle.jk_extras.specs.Header.{met_passed, nothing_met}
use Rattle.jk_extras.specs.Reading.{extras_at, told_of}
use Rattle.jk_extras.specs.Passing.{passed_by}
use Rattle.jk_extras.specs.Extras.{has_grids}
use Rattle.jk_extras.specs.Dressed.{components_of, header_boxes, dressed}
use Rattle.jk_extras.specs.Said.{first_resolution, resolutions_said}
use Rattle.jk_extras.specs.Given.{FitsGrid, resolutions_given}
use Rattle.jk_extras.proofs.Saying.{resolution_from}
use Rattle.jk_extras.proofs.Holding.{dressed_is}
use Rattle.jk_extras.proofs.HeaderTold.{at, boxes, image_inner, extras_by, told_is}
use Rattle.jk_extras.proofs.ReadBack.{resolution_back, extras_judged, given_if_written}
use Rattle.jk_extras.proofs.Dues.{IsDue, colour_due, told_by_due, due_by_told, written_due}

from_said : (o : Option (List ℕ)) (g : Grids) → resolutions_said o ≡ Ok g → (r : Option Grids) × (resolution_from o ≡ Ok r)
from_said None g e = (None, refl)
from_said (Some contents) g e = (Some g, rw e refl)

given_told : (e : Extras) (others : List Box) (g : Grids) → resolutions_said (first_resolution others) ≡ Ok g → (h : Grids) × (resolutions_given e others ≡ Ok h)
given_told e others g said = by (has_grids e) refl
  where
    by : (b : Bool) → has_grids e ≡ b → (h : Grids) × (resolutions_given e others ≡ Ok h)
    by true is = (record { capture = e.capture; display = e.display }, rw is refl)
    by false is = (g, ap (λ (x : Bool). cond x (Ok (record { capture = e.capture; display = e.display })) (resolutions_said (first_resolution others))) is ∙ said)

pub told_again : (file codestream : List ℕ) (j : IsJp2 file codestream) (e : Extras) (text : List ℕ) (before : Told) → IfSome e.capture FitsGrid → IfSome e.display FitsGrid
    → dressed j e ≡ Ok text → extras_at file ≡ Ok before → (t : Told) × (extras_at text ≡ Ok t)
told_again file codestream j e text before fits_c fits_d due read =
    let n = components_of j.header_next.1.image in
    let others = j.header_next.1.others in
    let old = boxes file codestream j in
    let d = dressed_is file codestream j e text due in
    let k = d.is in
    let judged = extras_judged n e (given_if_written file codestream j e text due) in
    let new = boxes text codestream k in
    let plain_old : AllByRecursion (IsInner palette_kind) old = (image_inner j.header_next.1.image j.header_next.1.size, j.header_next.1.plain) in
    let plain_new : AllByRecursion (IsInner palette_kind) new = (image_inner k.header_next.1.image k.header_next.1.size, k.header_next.1.plain) in
    bind_then (passed_by met_passed false (length (boxes_text old)) nothing_met (at file codestream j) (boxes_text old)) _ before (sym (extras_by file codestream j) ∙ read) (λ met s f.
    let was = due_by_told old (length (boxes_text old)) (at file codestream j) nothing_met met plain_old (omega arith) s refl in
    let colour = written_due n e others was.0 judged.0 was.1 in
    let told = told_is file codestream j before read in
    let given = given_told e others (record { capture = before.capture; display = before.display }) told.resolutions_are in
    let said : resolutions_said (first_resolution (header_boxes n e others)) ≡ Ok given.0 = sym (resolution_back n e others fits_c fits_d judged.1 judged.2) ∙ given.1 in
    let resolution = from_said (first_resolution (header_boxes n e others)) given.0 said in
    let is : IsDue nothing_met new = record {
      colour_told = λ nothing. (colour.0, ap colour_due d.header_boxes_are ∙ colour.1);
      resolution_told = (resolution.0, ap (λ (x : List Box). resolution_from (first_resolution x)) d.header_boxes_are ∙ resolution.1);
    } in
    let last = told_by_due new (length (boxes_text new)) (at text codestream k) nothing_met plain_new (omega arith) is in
    let r : (t : Told) × (extras_at text ≡ Ok t) = (told_of last.0, extras_by text codestream k ∙ ap (λ (x : Result Met Fault). x >>= λ met. Ok (told_of met)) last.1) in
    r)
