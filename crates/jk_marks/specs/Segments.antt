-- The marker segments of headers (T.800 A.6, A.7, A.9), as they are spelled.
use Rattle.std.specs.Prelude.{ℕ, ◌+◌, ◌-◌, ◌*◌, ◌<◌, ◌≤◌, ◌^◌, ◌≡◌, ◌==◌, ◌&&◌, ◌||◌, not, List, [], ◌∷◌, ◌++◌, length}
use Rattle.std.specs.Prelude.{map, drop, Bool, true, false, All, if◌then◌else◌}
use Rattle.std.specs.List.{flat_map, AllByRecursion}
use Rattle.std.proofs.Common.{◌⊎◌}
use Rattle.byteorder.specs.Endian.{big_bytes}
use Rattle.jk_marks.specs.declared.segments.CodingStyle.{CodingStyle}
use Rattle.jk_marks.specs.declared.segments.Cod.{Cod}
use Rattle.jk_marks.specs.declared.segments.Quantisation.{Quantisation}
use Rattle.jk_marks.specs.declared.head.Heading.{Heading}
use Rattle.jk_marks.specs.declared.head.Heading.TheVariants.{MainHeader, FirstPart, LaterPart}
use Rattle.jk_marks.specs.OrderCode.{order_code}
use Rattle.jk_marks.specs.BlockStyle.{bit_of, style_byte}
use Rattle.jk_marks.specs.Precincts.{precinct_byte}
use Rattle.jk_marks.specs.Exponents.{exponents_of}
use Rattle.jk_marks.specs.Markers.{cod, coc, qcd, qcc, tlm, plt, crg, comment, marker_text, is_listed, is_alone}

-- a quantization segment as it stands: the guard bits, and a byte for each sub-band
pub record StepSizes : Type 0 where
  pub guard : ℕ
  pub bytes : List ℕ

-- A marker segment of a header. What is passed over keeps its marker and contents.
pub data Segment : Type 0 where
  CodSegment : Cod → Segment
  CocSegment : ℕ → CodingStyle → Segment
  QcdSegment : StepSizes → Segment
  QccSegment : ℕ → StepSizes → Segment
  Passed : ℕ → List ℕ → Segment
  Alone : ℕ → Segment

-- whether precinct sizes are given: Scoc (table A.23), and a bit of Scod
abbrev pub given_bit : List (ℕ × ℕ) → ℕ
given_bit [] = 0
given_bit (p ∷ ps) = 1

-- Scod (table A.13)
abbrev pub scod : Cod → ℕ
scod c = given_bit c.style.precincts + 2 * bit_of c.sop + 4 * bit_of c.eph

-- SPcod or SPcoc from the number of decomposition levels on (table A.15); the transform is the
-- reversible 5-3 filter
unfoldable pub style_text : CodingStyle → List ℕ
style_text k = k.levels ∷ (k.xcb - 2) ∷ (k.ycb - 2) ∷ style_byte k.style ∷ 1 ∷ map precinct_byte k.precincts

-- precinct sizes: none, or a pair for each resolution, with 0 only at the lowest
pub record ArePrecincts (levels : ℕ) (precincts : List (ℕ × ℕ)) : Type 0 where
  pub count : (precincts ≡ []) ⊎ (length precincts ≡ levels + 1)
  pub small : AllByRecursion (λ p. (p.0 < 16) × (p.1 < 16)) precincts
  pub whole : AllByRecursion (λ p. (0 < p.0) × (0 < p.1)) (drop 1 precincts)

-- what T.800 and the profile ask of a coding style
pub record IsStyle (k : CodingStyle) : Type 0 where
  pub levels : k.levels ≤ 10
  pub narrow : 2 ≤ k.xcb
  pub wide : k.xcb ≤ 10
  pub low : 2 ≤ k.ycb
  pub high : k.ycb ≤ 10
  pub area : k.xcb + k.ycb ≤ 12
  pub precincts : ArePrecincts k.levels k.precincts

-- the same of COD, with the number of components
pub record IsCod (components : ℕ) (c : Cod) : Type 0 where
  pub some_layers : 0 < c.layers
  pub few_layers : c.layers < 2 ^ 16
  pub colour : c.colour ≡ true → 3 ≤ components
  pub style : IsStyle c.style

-- A quantization segment has a byte for one sub-band at least. There may be more of them than
-- sub-bands.
pub record AreSteps (q : StepSizes) : Type 0 where
  pub guard : q.guard < 8
  pub some : 1 ≤ length q.bytes

-- what follows the length of a segment
unfoldable pub contents : Segment → List ℕ
contents (CodSegment c) = scod c ∷ order_code c.order ∷ (big_bytes 2 c.layers ++ (bit_of c.colour ∷ style_text c.style))
contents (CocSegment i k) = i ∷ given_bit k.precincts ∷ style_text k
contents (QcdSegment q) = 32 * q.guard ∷ q.bytes
contents (QccSegment i q) = i ∷ 32 * q.guard ∷ q.bytes
contents (Passed m bytes) = bytes
contents (Alone m) = []

-- the marker of a segment
abbrev pub marker_of : Segment → ℕ
marker_of (CodSegment c) = cod
marker_of (CocSegment i k) = coc
marker_of (QcdSegment q) = qcd
marker_of (QccSegment i q) = qcc
marker_of (Passed m bytes) = m
marker_of (Alone m) = m

-- what follows the marker: the length, which counts itself, and the contents (A.1.1)
unfoldable pub segment_body : Segment → List ℕ
segment_body (Alone m) = []
segment_body s = big_bytes 2 (2 + length (contents s)) ++ contents s

abbrev pub segment_text : Segment → List ℕ
segment_text s = marker_text (marker_of s) ++ segment_body s

-- whether segments of the coding may stand in a header: not in a later tile-part of a tile (A.6)
abbrev pub is_coded : Heading → Bool
is_coded MainHeader = true
is_coded FirstPart = true
is_coded LaterPart = false

-- the listed markers that a header may have and that are passed over
abbrev pub is_passed : Heading → ℕ → Bool
is_passed MainHeader m = (m == tlm) || ((m == crg) || (m == comment))
is_passed FirstPart m = (m == plt) || (m == comment)
is_passed LaterPart m = (m == plt) || (m == comment)

-- a marker of another standard, which has a length
abbrev pub is_foreign : ℕ → Bool
is_foreign m = not (is_listed m) && not (is_alone m)

-- a segment that may stand in a header of so many components
abbrev pub IsSegment : Heading → ℕ → Segment → Type 0
IsSegment heading n (CodSegment c) = (is_coded heading ≡ true) × IsCod n c
IsSegment heading n (CocSegment i k) = (is_coded heading ≡ true) × (i < n) × IsStyle k
IsSegment heading n (QcdSegment q) = (is_coded heading ≡ true) × AreSteps q × (3 + length q.bytes < 2 ^ 16)
IsSegment heading n (QccSegment i q) = (is_coded heading ≡ true) × (i < n) × AreSteps q × (4 + length q.bytes < 2 ^ 16)
IsSegment heading n (Passed m bytes) = (0xFF00 ≤ m) × (m < 2 ^ 16) × ((is_passed heading m || is_foreign m) ≡ true)
    × (2 + length bytes < 2 ^ 16)
IsSegment heading n (Alone m) = is_alone m ≡ true

abbrev pub quantisation_of : StepSizes → Quantisation
quantisation_of q = record { guard = q.guard; exponents = exponents_of q.bytes }

abbrev pub coding_in : Segment → List Cod
coding_in (CodSegment c) = c ∷ []
coding_in s = []

abbrev pub quantisation_in : Segment → List StepSizes
quantisation_in (QcdSegment q) = q ∷ []
quantisation_in s = []

abbrev pub style_in : ℕ → Segment → List CodingStyle
style_in i (CocSegment j k) = if i == j then k ∷ [] else []
style_in i s = []

abbrev pub steps_in : ℕ → Segment → List StepSizes
steps_in i (QccSegment j q) = if i == j then q ∷ [] else []
steps_in i s = []

-- The COD among segments, in order, and the QCD; the COC and QCC of a component.
abbrev pub cods : List Segment → List Cod
cods ss = flat_map coding_in ss

abbrev pub qcds : List Segment → List StepSizes
qcds ss = flat_map quantisation_in ss

abbrev pub cocs_of : ℕ → List Segment → List CodingStyle
cocs_of i ss = flat_map (style_in i) ss

abbrev pub qccs_of : ℕ → List Segment → List StepSizes
qccs_of i ss = flat_map (steps_in i) ss

-- The segments of a header, in any order, with at most one COD and QCD, and at most one COC and QCC
-- for a component.
pub record AreSegments (heading : Heading) (n : ℕ) (ss : List Segment) : Type 0 where
  pub each : AllByRecursion (IsSegment heading n) ss
  pub one_coding : length (cods ss) ≤ 1
  pub one_quantisation : length (qcds ss) ≤ 1
  pub one_style : (i : ℕ) → length (cocs_of i ss) ≤ 1
  pub one_steps : (i : ℕ) → length (qccs_of i ss) ≤ 1

-- a quantization as it is written
abbrev pub written_steps : Quantisation → StepSizes
written_steps q = record { guard = q.guard; bytes = map (λ e. 8 * e) q.exponents }

-- what a quantization segment can say: the exponent of one sub-band at least
pub record IsQuantisation (q : Quantisation) : Type 0 where
  pub guard : q.guard < 8
  pub some : 1 ≤ length q.exponents
  pub exponents : All (λ e. e < 32) q.exponents
  pub few : length q.exponents ≤ 31
