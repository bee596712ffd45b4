-- Reading numbers and marker segments from left to right, with the first fault that is met.
use Rattle.std.specs.Prelude.{ℕ, zero, suc, ◌+◌, ◌-◌, ◌/◌, ◌%◌, List, [], ◌∷◌, ◌++◌, length, take, Bool, true, false}
use Rattle.std.specs.Prelude.{not, ◌&&◌, ◌||◌, ◌==◌, nat_lt, nat_le, Option, None, Some, is_some, if◌then◌else◌, Result}
use Rattle.std.specs.Prelude.{Ok, Err, slice_index_or, slice_set}
use Rattle.byteorder.specs.Endian.{big_number}
use Rattle.jk_math.specs.Answer.{◌>>=◌, refuse}
use Rattle.jk_math.specs.declared.fault.Fault.{Fault}
use Rattle.jk_math.specs.declared.style.Style.{Style}
use Rattle.jk_math.specs.declared.fault.Fault.TheVariants.{Truncated, BadMarker, BadLength, BadValue, Unsupported}
use Rattle.jk_math.specs.declared.fault.Fault.TheVariants.{Limit}
use Rattle.jk_marks.specs.declared.segments.CodingStyle.{CodingStyle}
use Rattle.jk_marks.specs.declared.segments.Cod.{Cod}
use Rattle.jk_marks.specs.declared.segments.Quantisation.{Quantisation}
use Rattle.jk_marks.specs.declared.head.Heading.{Heading}
use Rattle.jk_marks.specs.declared.head.TileHead.{TileHead}
use Rattle.jk_marks.specs.Markers.{cod, coc, qcd, qcc, is_left_out, is_listed, is_alone}
use Rattle.jk_marks.specs.Place.{ReadingPlace, past, outside}
use Rattle.jk_marks.specs.Segments.{is_coded, is_passed}
use Rattle.jk_marks.specs.Codestream.{head_of}
use Rattle.jk_marks.specs.Exponents.{exponents_of}
use Rattle.jk_marks.specs.BlockStyle.{style_byte, style_of}
use Rattle.jk_marks.specs.OrderCode.{order_with}

-- a number of n bytes
unfoldable pub number : ℕ → ReadingPlace → Result (ℕ × ReadingPlace) Fault
number n p =
    if nat_lt (length p.rest) n then Err Truncated
    else (if nat_lt p.room n then Err BadLength else Ok (big_number n p.rest, past n p))

-- the length of a segment, which is entered by it
unfoldable pub segment_length : ReadingPlace → Result (ℕ × ReadingPlace) Fault
segment_length p = do
  n ← number 2 p
  Ok (n.0, record n.1 { room = n.0 - 2 })

-- n bytes of the segment that was entered, which has them
unfoldable pub passing : ℕ → ReadingPlace → Result (List ℕ × ReadingPlace) Fault
passing n p = if nat_lt (length p.rest) n then Err Truncated else Ok (take n p.rest, past n p)

-- a precinct size (table A.21), of which only the first may have an exponent 0
unfoldable pub precinct_at : Bool → ReadingPlace → Result ((ℕ × ℕ) × ReadingPlace) Fault
precinct_at is_first p = do
  byte ← number 1 p
  _ ← refuse (not is_first && (nat_lt (byte.0 % 16) 1 || nat_lt (byte.0 / 16) 1)) BadValue
  Ok ((byte.0 % 16, byte.0 / 16), byte.1)

-- n precinct sizes after those that are done
unfoldable pub precincts_at : ℕ → List (ℕ × ℕ) → ReadingPlace → Result (List (ℕ × ℕ) × ReadingPlace) Fault
precincts_at zero done p = Ok (done, p)
precincts_at (suc n) done p = precinct_at (length done == 0) p >>= λ r. precincts_at n (done ++ r.0 ∷ []) r.1

-- the precinct sizes of n resolutions, where they are given
abbrev pub given_precincts_at : Bool → ℕ → ReadingPlace → Result (List (ℕ × ℕ) × ReadingPlace) Fault
given_precincts_at true n p = precincts_at n [] p
given_precincts_at false n p = Ok ([], p)

-- Number of decomposition levels in a segment of that length, which has `fixed` bytes beside the
-- precinct sizes.
unfoldable pub levels_at : (size fixed : ℕ) → Bool → ReadingPlace → Result (ℕ × ReadingPlace) Fault
levels_at size fixed given p = do
  levels ← number 1 p
  _ ← refuse (not (size == fixed + (if given then levels.0 + 1 else 0))) BadLength
  _ ← refuse (nat_lt 32 levels.0) BadValue
  _ ← refuse (nat_lt 10 levels.0) Limit
  Ok levels

-- the exponents of a code-block's width and height (table A.18)
unfoldable pub block_at : ReadingPlace → Result ((ℕ × ℕ) × ReadingPlace) Fault
block_at p = do
  xcb ← number 1 p
  _ ← refuse (nat_lt 8 xcb.0) BadValue
  ycb ← number 1 xcb.1
  _ ← refuse (nat_lt 8 ycb.0 || nat_lt 8 (xcb.0 + ycb.0)) BadValue
  Ok ((xcb.0 + 2, ycb.0 + 2), ycb.1)

-- the code-block style (table A.19)
unfoldable pub block_style_at : ReadingPlace → Result (Style × ReadingPlace) Fault
block_style_at p = do
  byte ← number 1 p
  _ ← refuse (nat_le 128 byte.0) BadValue
  _ ← refuse (not (style_byte (style_of byte.0) == byte.0)) Unsupported
  Ok (style_of byte.0, byte.1)

-- the transform, which is the reversible 5-3 filter (table A.20)
unfoldable pub transform_at : ReadingPlace → Result (Unit {0} × ReadingPlace) Fault
transform_at p = do
  transform ← number 1 p
  _ ← refuse (nat_lt 1 transform.0) BadValue
  _ ← refuse (nat_lt transform.0 1) Unsupported
  Ok (tt, transform.1)

-- SPcod or SPcoc (table A.15)
unfoldable pub style_at : (size fixed : ℕ) → Bool → ReadingPlace → Result (CodingStyle × ReadingPlace) Fault
style_at size fixed given p = do
  levels ← levels_at size fixed given p
  block ← block_at levels.1
  style ← block_style_at block.1
  transform ← transform_at style.1
  precincts ← given_precincts_at given (levels.0 + 1) transform.1
  Ok (
    record {
      levels = levels.0;
      xcb = block.0.0;
      ycb = block.0.1;
      style = style.0;
      precincts = precincts.0;
    },
    precincts.1,
  )

-- COD, from its length on (A.6.1), in a codestream of n components
unfoldable pub cod_at : ℕ → ReadingPlace → Result (Cod × ReadingPlace) Fault
cod_at n p = do
  size ← segment_length p
  flags ← number 1 size.1
  _ ← refuse (nat_lt 7 flags.0) BadValue
  order ← number 1 flags.1
  _ ← refuse (nat_lt 4 order.0) BadValue
  layers ← number 2 order.1
  _ ← refuse (layers.0 == 0) BadValue
  colour ← number 1 layers.1
  _ ← refuse (nat_lt 1 colour.0 || ((colour.0 == 1) && nat_lt n 3)) BadValue
  style ← style_at size.0 12 (flags.0 % 2 == 1) colour.1
  Ok (
    record {
      sop = flags.0 / 2 % 2 == 1;
      eph = flags.0 / 4 == 1;
      order = order_with order.0;
      layers = layers.0;
      colour = colour.0 == 1;
      style = style.0;
    },
    style.1,
  )

-- whether a component has a value in a list
abbrev pub has : {X : Type 0} → List (Option X) → ℕ → Bool
has xs i = is_some (slice_index_or xs i None)

-- the component that a segment is of, which no segment was of before
unfoldable pub component_at : {X : Type 0} → List (Option X) → ℕ → ReadingPlace → Result (ℕ × ReadingPlace) Fault
component_at others n p = do
  i ← number 1 p
  _ ← refuse (nat_le n i.0) BadValue
  _ ← refuse (has others i.0) BadMarker
  Ok i

-- COC, from its length on (A.6.2)
unfoldable pub coc_at : List (Option CodingStyle) → ℕ → ReadingPlace → Result ((ℕ × CodingStyle) × ReadingPlace) Fault
coc_at others n p = do
  size ← segment_length p
  i ← component_at others n size.1
  flags ← number 1 i.1
  _ ← refuse (nat_lt 1 flags.0) BadValue
  style ← style_at size.0 9 (flags.0 == 1) flags.1
  Ok ((i.0, style.0), style.1)

-- Sqcd or Sqcc, and a byte for each of n sub-bands (tables A.27 to A.29); of the styles only no
-- quantization is read
unfoldable pub steps_at : ℕ → ReadingPlace → Result (Quantisation × ReadingPlace) Fault
steps_at n p = do
  style ← number 1 p
  _ ← refuse ((style.0 % 32 == 1) || (style.0 % 32 == 2)) Unsupported
  _ ← refuse (nat_lt 2 (style.0 % 32)) BadValue
  bytes ← passing n style.1
  Ok (record { guard = style.0 / 32; exponents = exponents_of bytes.0 }, bytes.1)

-- QCD, from its length on (A.6.4)
unfoldable pub qcd_at : ReadingPlace → Result (Quantisation × ReadingPlace) Fault
qcd_at p = do
  size ← segment_length p
  _ ← refuse (nat_lt size.0 4) BadLength
  steps_at (size.0 - 3) size.1

-- QCC, from its length on (A.6.5)
unfoldable pub qcc_at : List (Option Quantisation) → ℕ → ReadingPlace → Result ((ℕ × Quantisation) × ReadingPlace) Fault
qcc_at others n p = do
  size ← segment_length p
  _ ← refuse (nat_lt size.0 5) BadLength
  i ← component_at others n size.1
  steps ← steps_at (size.0 - 4) i.1
  Ok ((i.0, steps.0), steps.1)

-- a segment that is passed over, from its length on
unfoldable pub passed_at : ReadingPlace → Result (List ℕ × ReadingPlace) Fault
passed_at p = do
  size ← segment_length p
  _ ← refuse (nat_lt size.0 2) BadLength
  passing (size.0 - 2) size.1

abbrev pub in_cod : TileHead → ℕ → ReadingPlace → Result (TileHead × ReadingPlace) Fault
in_cod head n p = refuse (is_some head.cod) BadMarker >>= λ _. cod_at n p
    >>= λ c. Ok (record head { cod = Some c.0 }, c.1)

abbrev pub in_qcd : TileHead → ReadingPlace → Result (TileHead × ReadingPlace) Fault
in_qcd head p = refuse (is_some head.qcd) BadMarker >>= λ _. qcd_at p >>= λ q. Ok (record head { qcd = Some q.0 }, q.1)

abbrev pub in_coc : TileHead → ℕ → ReadingPlace → Result (TileHead × ReadingPlace) Fault
in_coc head n p = coc_at head.coc n p >>= λ k. Ok (record head { coc = slice_set head.coc k.0.0 (Some k.0.1) }, k.1)

abbrev pub in_qcc : TileHead → ℕ → ReadingPlace → Result (TileHead × ReadingPlace) Fault
in_qcc head n p = qcc_at head.qcc n p >>= λ q. Ok (record head { qcc = slice_set head.qcc q.0.0 (Some q.0.1) }, q.1)

-- a segment without meaning for the coding, after its marker m
unfoldable pub other_at : Heading → TileHead → ℕ → ReadingPlace → Result (TileHead × ReadingPlace) Fault
other_at heading head m p =
    if is_passed heading m then (passed_at p >>= λ r. Ok (head, r.1))
    else (if is_left_out m then Err Unsupported
    else (if is_listed m || nat_lt m 0xFF00 then Err BadMarker
    else (if is_alone m then Ok (head, p)
    else (passed_at p >>= λ r. Ok (head, r.1)))))

-- a segment of a header after its marker m, and what the header has said with it
unfoldable pub segment_at : Heading → ℕ → TileHead → ℕ → ReadingPlace → Result (TileHead × ReadingPlace) Fault
segment_at heading n head m p =
    if is_coded heading && (m == cod) then in_cod head n p
    else (if is_coded heading && (m == qcd) then in_qcd head p
    else (if is_coded heading && (m == coc) then in_coc head n p
    else (if is_coded heading && (m == qcc) then in_qcc head n p
    else other_at heading head m p)))

-- the segments of a header, at most k of them, up to the marker that ends it; the place is after
-- that marker
unfoldable pub segments_at : ℕ → Heading → ℕ → (last : ℕ) → TileHead → ReadingPlace → Result (TileHead × ReadingPlace) Fault
segments_at zero heading n last head p = Err Truncated
segments_at (suc k) heading n last head p =
    number 2 p >>= λ m. if m.0 == last then Ok (head, m.1)
    else (segment_at heading n head m.0 m.1 >>= λ r. segments_at k heading n last r.0 (outside r.1))

-- the segments of a header, which say what it says
abbrev pub header_at : Heading → ℕ → (last : ℕ) → ReadingPlace → Result (TileHead × ReadingPlace) Fault
header_at heading n last p = segments_at (length p.rest) heading n last (head_of []) (outside p)
