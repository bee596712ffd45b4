-- What is told of a JP2 file is what the boxes of its first JP2 header box say.
use Rattle.std.proofs.Common.{lit<, ◌≡◌, ℕ, ◌+◌, ◌-◌, false, List, ◌∷◌, ◌++◌, length, take, drop, Option, Some, None, Ok, refl, sym, ap, subst, ◌∙◌, arith}
use Rattle.std.specs.List.{AllByRecursion}
use Rattle.std.proofs.lemmas.Bool.{eqb-false}
use Rattle.std.proofs.lemmas.List.{take_at}
use Rattle.jk_math.specs.Answer.{◌>>=◌}
use Rattle.jk_math.specs.Steps.{bind_then, ok_is}
use Rattle.jk_boxes.specs.Boxes.{Box, IsJp2, IsInner, boxes_text, box_size, head_size, palette_kind, image_header_kind}
use Rattle.jk_extras.specs.declared.grids.Grids.{Grids}
use Rattle.jk_extras.specs.declared.told.Told.{Told}
use Rattle.jk_extras.specs.Grids.{grids_at}
use Rattle.jk_extras.specs.Header.{met_passed, nothing_met}
use Rattle.jk_extras.specs.Finding.{header_found, span_of}
use Rattle.jk_extras.specs.Reading.{extras_at, told_of, grids_or_none}
use Rattle.jk_extras.specs.Passing.{passed_by}
use Rattle.jk_extras.specs.Said.{IsTold, first_resolution, resolutions_said}
use Rattle.jk_extras.proofs.Dressings.{image_box, last, head_at, header_there, header_seen, drop_first, opens}
use Rattle.jk_extras.proofs.Saying.{walked, resolution_from, contents_there}

grids_from : (o : Option (List ℕ)) (r : Option Grids) → resolution_from o ≡ Ok r → resolutions_said o ≡ Ok (grids_or_none r)
grids_from None r e = ap (λ (x : Option Grids). Ok (grids_or_none x)) (ok_is None r e)
grids_from (Some contents) r e = bind_then (grids_at contents) _ r e (λ g s f. s ∙ ap (λ (x : Option Grids). Ok (grids_or_none x)) (ok_is (Some g) r f))

pub image_inner : (image : List ℕ) → length image ≡ 14 → IsInner palette_kind (image_box image)
image_inner image long = record { box = record { kind = lit< tt; size = omega (arith, long) }; closed = refl; other = eqb-false image_header_kind palette_kind refl }

module _ (file codestream : List ℕ) (j : IsJp2 file codestream) where
  abbrev pub at : ℕ
  at = head_at file codestream j + head_size j.header.form

  abbrev post : List ℕ
  post = boxes_text j.middle ++ last file codestream j

  inside : drop at file ≡ j.header.contents ++ post
  inside = contents_there file j.header post (head_at file codestream j) (drop_first file codestream j)

  header_spanned : header_found file ≡ Ok (span_of (header_there file codestream j))
  unfolding header_found
  header_spanned = rw (header_seen file codestream j) refl

  pub contents_spanned : take ((head_at file codestream j + box_size j.header) - at) (drop at file) ≡ j.header.contents
  contents_spanned =
      let n = length j.header.contents in
      let wide : (head_at file codestream j + box_size j.header) - at ≡ n = omega arith in
      ap (λ k. take k (drop at file)) wide ∙ ap (take n) inside ∙ take_at j.header.contents post n refl

  abbrev pub boxes : List Box
  boxes = image_box j.header_next.1.image ∷ j.header_next.1.others

  -- the file is told by what is met of its header
  pub extras_by : extras_at file ≡ (passed_by met_passed false (length (boxes_text boxes)) nothing_met at (boxes_text boxes) >>= λ met. Ok (told_of met))
  unfolding extras_at
  extras_by =
      let o = opens file codestream j in
      let whole = contents_spanned ∙ j.header_next.1.text in
      rw (o.1, o.2, header_spanned, whole) refl

  pub told_is : (t : Told) → extras_at file ≡ Ok t → IsTold file t j.header_next.1.others
  told_is t e =
      bind_then (passed_by met_passed false (length (boxes_text boxes)) nothing_met at (boxes_text boxes)) _ t (sym extras_by ∙ e) (λ met s f.
      let there : drop at file ≡ boxes_text boxes ++ post = inside ∙ ap (λ (x : List ℕ). x ++ post) j.header_next.1.text in
      let plain : AllByRecursion (IsInner palette_kind) boxes = (image_inner j.header_next.1.image j.header_next.1.size, j.header_next.1.plain) in
      let w = walked file post boxes (length (boxes_text boxes)) at nothing_met met plain there (omega arith) s in
      let here : IsTold file (told_of met) j.header_next.1.others = record {
        colour_is = w.colour_is;
        resolutions_are = grids_from (first_resolution j.header_next.1.others) met.resolution w.resolution_is;
      } in
      subst (λ (x : Told). IsTold file x j.header_next.1.others) (ok_is (told_of met) t f) here)
