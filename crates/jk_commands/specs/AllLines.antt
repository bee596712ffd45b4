-- The lines that `jk info --all` writes: that of `jk info`, and below it what decides how small
-- windows get, and what the file carries. Those of a JP2 file of 3 by 2 pixels in two tiles, with
-- SOP, EPH and precincts, are these: 3 2 3 8 1 1 LRCP 2 12 boxes: jP%20%20=12 ftyp=20 jp2h=45
-- jp2c=251 tile-parts: 2 code-blocks: 32x16 block-style: none precincts: 32x16 64x32 SOP: yes EPH: yes
-- colour-transform: reversible passed-over: none sizes: 3x2 2x1
use Rattle.std.specs.Prelude.{ℕ, ◌+◌, ◌-◌, ◌^◌, Bool, not, ◌&&◌, ◌||◌, ◌==◌, if◌then◌else◌, List, [], ◌++◌, length}
use Rattle.std.specs.Bool.{beq}
use Rattle.std.specs.Prelude.{slice_range, Result, Ok, codes}
use Rattle.std.specs.List.{flat_map, list_all, count_by}
use Rattle.std.specs.Fmt.{decimal}
use Rattle.std.specs.Cmp.Lexicographic.{pointwise}
use Rattle.jk_math.specs.Answer.{◌>>=◌}
use Rattle.jk_math.specs.declared.fault.Fault.{Fault}
use Rattle.jk_math.specs.declared.rect.Rect.{Rect}
use Rattle.jk_math.specs.declared.style.Style.{Style}
use Rattle.jk_marks.specs.declared.coding.Coding.{Coding}
use Rattle.jk_marks.specs.declared.segments.Cod.{Cod}
use Rattle.jk_marks.specs.Siz.{tile_count}
use Rattle.jk_marks.specs.Copying.{main_size_at}
use Rattle.jk_geom.specs.Rectangles.{is_empty}
use Rattle.jk_geom.specs.TileShapes.{coding_of}
use Rattle.jk_boxes.specs.declared.place.Boxed.{Boxed}
use Rattle.jk_params.specs.Headers.{Headers, tile_in}
use Rattle.jk_window.specs.Views.{frame_of, holds_below}
use Rattle.jk_window.specs.Indexing.{IndexFields, IsIndexOf, index_at}
use Rattle.jk_params.specs.Levels.{least_levels}
use Rattle.jk_commands.specs.declared.coding_values.Flag.{Flag}
use Rattle.jk_commands.specs.declared.coding_values.Flag.TheVariants.{Sop, Eph, Colour}
use Rattle.jk_commands.specs.BoxList.{listed, boxes_from}
use Rattle.jk_commands.specs.HeaderMarkers.{all_segments, is_passed_over, markers_in, parts_in, is_read}
use Rattle.jk_commands.specs.Lines.{line_of}
use Rattle.jk_commands.specs.Values.{value, size_value, pair_value, labelled, kind_text, marker_name, texts_below}

-- ---- the boxes

-- KIND=LENGTH for each box
unfoldable pub box_values : List (ℕ × ℕ) → List ℕ
box_values boxes = flat_map (λ b. pair_value (kind_text b.0) b.1) boxes

-- ---- the coding

-- whether a test holds of the coding of each component of each tile
abbrev pub hold_of_codings : (Coding → Bool) → Headers → Bool
hold_of_codings f h = holds_below (λ t. list_all f (tile_in h.tiles t).codings) (length h.tiles)

-- whether a test holds of the coding style of each tile
abbrev pub hold_of_styles : (Cod → Bool) → Headers → Bool
hold_of_styles f h = holds_below (λ t. f (tile_in h.tiles t).cod) (length h.tiles)

-- what stands where tiles or components aren't alike
abbrev pub differ : List ℕ
differ = value (codes "differ")

-- the coding of the first component of the first tile
abbrev pub first_coding : Headers → Coding
first_coding h = coding_of (tile_in h.tiles 0).codings 0

-- the size of the code-blocks (table A.18)
abbrev pub has_blocks : Coding → Coding → Bool
has_blocks k other = (other.xcb == k.xcb) && (other.ycb == k.ycb)

unfoldable pub block_values : Headers → List ℕ
block_values h =
    let k = first_coding h in
    if hold_of_codings (has_blocks k) h then size_value (2 ^ k.xcb) (2 ^ k.ycb) else differ

-- the style of the code-blocks (table A.19)
abbrev pub has_style : Style → Coding → Bool
has_style s k =
    beq k.style.reset s.reset && beq k.style.causal s.causal && beq k.style.segments s.segments

abbrev pub word_if : Bool → List ℕ → List ℕ
word_if has word = if has then value word else []

abbrev pub style_text : Style → List ℕ
style_text s =
    word_if s.reset (codes "reset") ++ (word_if s.causal (codes "causal") ++ word_if s.segments (codes "segments"))

unfoldable pub style_values : Headers → List ℕ
style_values h = let s = (first_coding h).style in if hold_of_codings (has_style s) h then style_text s else differ

-- the size of the precincts of each resolution, from the lowest on (table A.21)
abbrev pub are_alike : List (ℕ × ℕ) → List (ℕ × ℕ) → Bool
are_alike sizes others = pointwise (λ (p q : ℕ × ℕ). (p.0 == q.0) && (p.1 == q.1)) sizes others

abbrev pub has_precincts : Coding → Coding → Bool
has_precincts k other = are_alike other.precincts k.precincts

abbrev pub precincts_text : List (ℕ × ℕ) → List ℕ
precincts_text sizes = flat_map (λ p. size_value (2 ^ p.0) (2 ^ p.1)) sizes

unfoldable pub precinct_values : Headers → List ℕ
precinct_values h =
    let k = first_coding h in
    if hold_of_codings (has_precincts k) h then precincts_text k.precincts else differ

-- what a coding style says of SOP, EPH and the colour transform (tables A.13 and A.17)
abbrev pub flag_in : Flag → Cod → Bool
flag_in Sop c = c.sop
flag_in Eph c = c.eph
flag_in Colour c = c.colour

-- one text where each tile says so, another where none does
unfoldable pub flag_values : Flag → (each none : List ℕ) → Headers → List ℕ
flag_values f each none h =
    if hold_of_styles (flag_in f) h then value each
    else (if hold_of_styles (λ c. not (flag_in f c)) h then value none else differ)

-- ---- the marker segments that are passed over

abbrev pub marker_value : ℕ → ℕ → List ℕ
marker_value m n = if is_read m || (n == 0) then [] else pair_value (marker_name m) n

-- NAME=COUNT for each marker that is passed over, by the markers' numbers, from 0xFF00 to 0xFFFF
unfoldable pub passed_values : (ℕ → ℕ) → List ℕ
passed_values count = texts_below (λ k. marker_value (0xFF00 + k) (count (0xFF00 + k))) 256

-- ---- the sizes of the reduced images

abbrev pub frame_value : Rect → List ℕ
frame_value a = if is_empty a then [] else size_value (a.x1 - a.x0) (a.y1 - a.y0)

-- WIDTHxHEIGHT at each reduction that each component of each tile has and that leaves a sample
unfoldable pub frame_values : Headers → List ℕ
frame_values h = texts_below (λ d. frame_value (frame_of h d)) (least_levels h.tiles (tile_count h.siz) + 1)

-- ---- the lines

-- what decides the size of windows
unfoldable pub coding_lines : Headers → List ℕ
coding_lines h =
    labelled (codes "code-blocks") (block_values h)
    ++ (labelled (codes "block-style") (style_values h)
    ++ (labelled (codes "precincts") (precinct_values h)
    ++ (labelled (codes "SOP") (flag_values Sop (codes "yes") (codes "no") h)
    ++ (labelled (codes "EPH") (flag_values Eph (codes "yes") (codes "no") h)
    ++ labelled (codes "colour-transform") (flag_values Colour (codes "reversible") (codes "none") h)))))

-- the lines below the first: what the boxes are, how many tile-parts there are, how often each
-- marker is passed over, and what all headers say
unfoldable pub lines_with : List (ℕ × ℕ) → ℕ → (ℕ → ℕ) → Headers → List ℕ
lines_with boxes parts count h =
    labelled (codes "boxes") (box_values boxes)
    ++ (labelled (codes "tile-parts") (value (decimal parts))
    ++ (coding_lines h
    ++ (labelled (codes "passed-over") (passed_values count)
    ++ labelled (codes "sizes") (frame_values h))))

-- the lines of a file that has an index
abbrev pub lines_of : {bytes : List ℕ} {i : IndexFields} → IsIndexOf bytes i → List ℕ
lines_of {i = i} is =
    let tree = is.says.tree in
    let count : ℕ → ℕ = λ m. count_by (is_passed_over m) (all_segments tree) in
    line_of i ++ lines_with (listed is.holds) (length tree.parts) count i.headers

-- the same by places in the file
abbrev pub boxes_in : Boxed → List ℕ → List (ℕ × ℕ)
boxes_in place bytes = if place.jp2 then boxes_from (length bytes) bytes else []

abbrev pub lines_below : List ℕ → Boxed → Headers → List ℕ
lines_below bytes place h =
    let codestream = slice_range bytes place.start place.end in
    let size = main_size_at codestream in
    let count : ℕ → ℕ = λ m. count_by (λ k. k == m) (markers_in codestream size) in
    lines_with (boxes_in place bytes) (length (parts_in codestream size)) count h

-- the lines of a file, or the first fault, which is that of `jk info`
unfoldable pub all_at : List ℕ → Result (List ℕ) Fault
all_at bytes = do
  i ← index_at bytes
  Ok (line_of i ++ lines_below bytes i.place i.headers)
