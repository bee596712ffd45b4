use Rattle.std.specs.Prelude.{codes, slice_range}
use Rattle.std.specs.List.{count_by}
use Rattle.std.specs.Fmt.{decimal}
use Rattle.std.specs.String.{string_bytes}
use Rattle.std.proofs.Common.{◌≤◌, ◌==◌, ℕ, List, ◌++◌, length, subst, sym, ap, ◌∙◌}
use Rattle.jk_marks.specs.Siz.{tile_count}
use Rattle.jk_marks.specs.Copying.{main_size_at}
use Rattle.jk_commands.specs.HeaderMarkers.{parts_in, markers_in}
use Rattle.jk_commands.specs.Lines.{line_of}
use Rattle.jk_commands.specs.Values.{value, labelled}
use Rattle.jk_commands.specs.AllLines.{box_values, boxes_in, passed_values, frame_values, coding_lines, lines_with}
use Rattle.jk_commands.proofs.AllLaws.{five_joined, least_few}
use Rattle.jk_commands.proofs.telling_all.lines.Goals as goal

pub frame_values-requires-clause-few : goal.frame_values-requires-clause-few
frame_values-requires-clause-few c =
    let h = c.args.index.now.headers in
    subst (λ n. n ≤ 10) (sym c.levels.ensures) (least_few h.tiles (tile_count h.siz))

pub returns : goal.returns
unfolding lines_with
returns c =
    let h = c.args.headers.now in
    let bytes = c.args.bytes.now in
    let place = c.args.place in
    let codestream = slice_range bytes place.start place.end in
    let put : List ℕ → List ℕ → List ℕ → List ℕ = λ text label values. text ++ labelled label values in
    let q = string_bytes c.put_line.new.line in
    let r = string_bytes c.put_line-2.new.line in
    let s = string_bytes c.put_coding.new.lines in
    let t = string_bytes c.put_line-3.new.line in
    let u = string_bytes c.put_line-4.new.line in
    let parts = length (parts_in codestream (main_size_at codestream)) in
    let count : ℕ → ℕ = λ m. count_by (λ k. k == m) (markers_in codestream (main_size_at codestream)) in
    let size = c.requires.size in
    let number = c.as_str-2.ensures.value ∙ c.in_ok-put_number.ensures ∙ ap (λ (x : List ℕ). x ++ value (decimal c.in_ok-carried.carried.parts)) c.new-parts.ensures.bytes
    ∙ ap (λ n. value (decimal n)) (c.in_ok-carried.ensures.count ∙ ap (λ n. length (parts_in codestream n)) size) in
    let markers = c.deref.ensures.value ∙ c.in_ok-carried.ensures.markers ∙ ap (markers_in codestream) size in
    let passed = c.as_str-3.ensures.value ∙ c.in_ok-passed.ensures ∙ ap (λ (ms : List ℕ). passed_values (λ m. count_by (λ k. k == m) ms)) markers in
    five_joined (labelled (codes "boxes") (box_values (boxes_in place bytes))) (labelled (codes "tile-parts") (value (decimal parts))) (coding_lines h)
    (labelled (codes "passed-over") (passed_values count)) (labelled (codes "sizes") (frame_values h))
    (line_of c.args.index.now) q r s t u
    (c.in_ok-put_line.ensures ∙ ap (λ (x : List ℕ). put x (codes "boxes") c.as_str.result.now) c.in_ok-lines.ensures ∙ ap (put (line_of c.args.index.now) (codes "boxes")) (c.as_str.ensures.value ∙ c.in_ok-boxes.ensures))
    (c.in_ok-put_line-2.ensures ∙ ap (put q (codes "tile-parts")) number)
    c.in_ok-put_coding.ensures
    (c.in_ok-put_line-3.ensures ∙ ap (put s (codes "passed-over")) passed)
    (c.in_ok-put_line-4.ensures ∙ ap (put t (codes "sizes")) (c.as_str-4.ensures.value ∙ c.in_ok-frames.ensures))
