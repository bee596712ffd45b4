-- The codestream (T.800 A.3): a main header, tile-parts, and the end.
use Rattle.std.specs.Prelude.{ℕ, ◌+◌, ◌<◌, ◌≤◌, ◌^◌, ◌≡◌, List, [], ◌∷◌, ◌++◌, length, map, Bool, true, false, ◌==◌}
use Rattle.std.specs.Prelude.{filter, slice_index_or, Option, None, Some, if◌then◌else◌}
use Rattle.std.specs.List.{flat_map, AllByRecursion, range_with_len}
use Rattle.byteorder.specs.Endian.{big_bytes}
use Rattle.jk_marks.specs.declared.segments.Order.TheVariants.{Lrcp}
use Rattle.jk_math.specs.Styles.{plain_style}
use Rattle.jk_marks.specs.declared.segments.CodingStyle.{CodingStyle}
use Rattle.jk_marks.specs.declared.segments.Cod.{Cod}
use Rattle.jk_marks.specs.declared.segments.Quantisation.{Quantisation}
use Rattle.jk_marks.specs.declared.siz.Siz.{Siz}
use Rattle.jk_marks.specs.declared.head.Heading.{Heading}
use Rattle.jk_marks.specs.declared.head.Heading.TheVariants.{MainHeader, FirstPart, LaterPart}
use Rattle.jk_marks.specs.declared.head.TileHead.{TileHead}
use Rattle.jk_marks.specs.declared.main_header.Main.{Main}
use Rattle.jk_marks.specs.declared.tile_part.TilePart.{TilePart}
use Rattle.jk_marks.specs.Markers.{soc, sot, sod, eoc, marker_text}
use Rattle.jk_marks.specs.Siz.{siz_text, tile_count, IsSiz}
use Rattle.jk_marks.specs.Segments.{Segment, CodSegment, CocSegment, QcdSegment, QccSegment, segment_text, cods, qcds}
use Rattle.jk_marks.specs.Segments.{cocs_of, qccs_of, quantisation_of, written_steps, AreSegments, IsCod, IsStyle}
use Rattle.jk_marks.specs.Segments.{IsQuantisation}

-- A tile-part (A.4.2): the tile's number, whether its length is left open, its number within the
-- tile, how many parts it says that there are, the segments of its header, and its data.
pub record CodestreamPart : Type 0 where
  pub tile : ℕ
  pub is_open : Bool
  pub number : ℕ
  pub total : ℕ
  pub segments : List Segment
  pub content : List ℕ

-- what a codestream spells
pub record Tree : Type 0 where
  pub siz : Siz
  pub segments : List Segment
  pub parts : List CodestreamPart

unfoldable pub main_text : Siz → List Segment → List ℕ
main_text siz segments = marker_text soc ++ (siz_text siz ++ flat_map segment_text segments)

-- where the data of a part begin, counted from the first byte of SOT
abbrev pub data_start : CodestreamPart → ℕ
data_start p = 14 + length (flat_map segment_text p.segments)

-- where they end, and the part with them
abbrev pub part_length : CodestreamPart → ℕ
part_length p = data_start p + length p.content

-- Psot: the length, or 0 where it goes up to the end of the codestream
abbrev pub psot : CodestreamPart → ℕ
psot p = if p.is_open then 0 else part_length p

-- SOT and its segment (A.4.2): Isot, Psot, TPsot and TNsot
abbrev pub sot_text : (tile size number total : ℕ) → List ℕ
sot_text tile size number total = marker_text sot
    ++ (big_bytes 2 10 ++ (big_bytes 2 tile ++ (big_bytes 4 size ++ (big_bytes 1 number ++ big_bytes 1 total))))

unfoldable pub part_text : CodestreamPart → List ℕ
part_text p = sot_text p.tile (psot p) p.number p.total
    ++ (flat_map segment_text p.segments ++ (marker_text sod ++ p.content))

unfoldable pub codestream_text : Tree → List ℕ
codestream_text t = main_text t.siz t.segments ++ (flat_map part_text t.parts ++ marker_text eoc)

-- the first of a list, where there is one
abbrev pub first : {X : Type 0} → List X → Option X
first [] = None
first (x ∷ xs) = Some x

-- a list by component: of each of the four that there may be
abbrev pub by_component : {X : Type 0} → (ℕ → X) → List X
by_component f = f 0 ∷ f 1 ∷ f 2 ∷ f 3 ∷ []

-- what the program keeps of the segments of a header: each if it is given
abbrev pub head_of : List Segment → TileHead
head_of segments = record {
  cod = first (cods segments);
  qcd = first (map quantisation_of (qcds segments));
  coc = by_component (λ i. first (cocs_of i segments));
  qcc = by_component (λ i. first (map quantisation_of (qccs_of i segments)));
}

-- The main header (A.3): SOC, SIZ, and in any order COD, QCD and the others.
pub record IsMain (siz : Siz) (segments : List Segment) : Type 0 where
  pub size : IsSiz siz
  pub well_formed : AreSegments MainHeader siz.components segments
  pub one_coding : length (cods segments) ≡ 1
  pub one_quantisation : length (qcds segments) ≡ 1

-- the heading of a part: segments of the coding stand in the first part of a tile alone
abbrev pub heading_of : ℕ → Heading
heading_of number = if number == 0 then FirstPart else LaterPart

pub record IsPart (siz : Siz) (p : CodestreamPart) : Type 0 where
  pub tile : p.tile < tile_count siz
  pub narrow : p.tile < 2 ^ 16
  pub number : p.number ≤ 254
  pub total : p.total < 256
  pub fits : psot p < 2 ^ 32
  pub well_formed : AreSegments (heading_of p.number) siz.components p.segments

-- a coding style and a quantization that stand for none
abbrev pub no_coding : Cod
no_coding = record {
  sop = false;
  eph = false;
  order = Lrcp;
  layers = 1;
  colour = false;
  style = record { levels = 0; xcb = 6; ycb = 6; style = plain_style; precincts = [] };
}

abbrev pub no_quantisation : Quantisation
no_quantisation = record { guard = 0; exponents = [] }

-- the value, where there is one
abbrev pub or_else : {X : Type 0} → X → Option X → X
or_else d None = d
or_else d (Some x) = x

-- the first of a list, of which the earlier goes before the later
abbrev pub first_given : {X : Type 0} → X → List X → X
first_given d xs = or_else d (first xs)

-- what the program keeps of a main header, which has a COD and a QCD
abbrev pub main_with : Siz → TileHead → Main
main_with siz head =
    record {
      siz = siz;
      cod = or_else no_coding head.cod;
      qcd = or_else no_quantisation head.qcd;
      coc = head.coc;
      qcc = head.qcc;
    }

abbrev pub main_of : Siz → List Segment → Main
main_of siz segments = main_with siz (head_of segments)

-- The bytes begin with this main header, and the first tile-part follows it.
pub record BeginsMain (bytes : List ℕ) (siz : Siz) (segments : List Segment) : Type 0 where
  pub others : List ℕ
  pub text : bytes ≡ main_text siz segments ++ (marker_text sot ++ others)

-- what the program keeps of a part: where its data stand, counted from its first byte
abbrev pub place_of : CodestreamPart → TilePart
place_of p = record {
  tile = p.tile;
  part = p.number;
  head = head_of p.segments;
  start = data_start p;
  end = part_length p;
}

-- The bytes begin with this part. The end of the codestream follows a part that is left open.
pub record BeginsWith (bytes : List ℕ) (p : CodestreamPart) : Type 0 where
  pub others : List ℕ
  pub text : bytes ≡ part_text p ++ others
  pub last : p.is_open ≡ true → others ≡ marker_text eoc

-- the parts of a tile, in order
abbrev pub of_tile : ℕ → List CodestreamPart → List CodestreamPart
of_tile t parts = filter (λ p. p.tile == t) parts

-- none but the last is open
abbrev pub AreClosedBeforeLast : List CodestreamPart → Type 0
AreClosedBeforeLast [] = Unit {0}
AreClosedBeforeLast (p ∷ []) = Unit {0}
AreClosedBeforeLast (p ∷ q ∷ parts) = (p.is_open ≡ false) × AreClosedBeforeLast (q ∷ parts)

-- One part or more, in any order of the tiles, the parts of each tile numbered from 0 on.
pub record AreParts (siz : Siz) (parts : List CodestreamPart) : Type 0 where
  pub some : 0 < length parts
  pub each : AllByRecursion (IsPart siz) parts
  pub closed : AreClosedBeforeLast parts
  pub numbered : (t : ℕ) → map (λ p. p.number) (of_tile t parts) ≡ range_with_len 0 (length (of_tile t parts))

pub record IsCodestream (bytes : List ℕ) (t : Tree) : Type 0 where
  pub header : IsMain t.siz t.segments
  pub parts : AreParts t.siz t.parts
  pub text : bytes ≡ codestream_text t

-- the segment that is written for a component, if it has its own
abbrev pub own_style : ℕ → Option CodingStyle → List Segment
own_style i None = []
own_style i (Some k) = CocSegment i k ∷ []

abbrev pub own_steps : ℕ → Option Quantisation → List Segment
own_steps i None = []
own_steps i (Some q) = QccSegment i (written_steps q) ∷ []

-- what is given for a component
abbrev pub given_for : {X : Type 0} → List (Option X) → ℕ → Option X
given_for xs i = slice_index_or xs i None

-- the segments that are written for components
abbrev pub style_segments : Main → List Segment
style_segments m = own_style 0 (given_for m.coc 0)
    ++ (own_style 1 (given_for m.coc 1) ++ (own_style 2 (given_for m.coc 2) ++ own_style 3 (given_for m.coc 3)))

abbrev pub step_segments : Main → List Segment
step_segments m = own_steps 0 (given_for m.qcc 0)
    ++ (own_steps 1 (given_for m.qcc 1) ++ (own_steps 2 (given_for m.qcc 2) ++ own_steps 3 (given_for m.qcc 3)))

-- the segments that are written for a main header
abbrev pub segments_of : Main → List Segment
segments_of m = CodSegment m.cod ∷ QcdSegment (written_steps m.qcd) ∷ (style_segments m ++ step_segments m)

-- what stands for a component, if it has its own
abbrev pub ForGiven : {X : Type 0} → (X → Type 0) → Option X → Type 0
ForGiven P None = Unit {0}
ForGiven P (Some x) = P x

-- only components below n have their own
abbrev pub AreOfComponents : {X : Type 0} → ℕ → List (Option X) → Type 0
AreOfComponents n xs = (i : ℕ) → n ≤ i → given_for xs i ≡ None

-- A main header that can be written. There are four places for components.
pub record IsWritten (m : Main) : Type 0 where
  pub siz : IsSiz m.siz
  pub cod : IsCod m.siz.components m.cod
  pub qcd : IsQuantisation m.qcd
  pub coc_places : length m.coc ≡ 4
  pub coc : AllByRecursion (ForGiven IsStyle) m.coc
  pub coc_components : AreOfComponents m.siz.components m.coc
  pub qcc_places : length m.qcc ≡ 4
  pub qcc : AllByRecursion (ForGiven IsQuantisation) m.qcc
  pub qcc_components : AreOfComponents m.siz.components m.qcc

-- the part that is written for a tile: the only one, closed and without segments
abbrev pub only_part_of : ℕ → List ℕ → CodestreamPart
only_part_of tile content =
    record { tile = tile; is_open = false; number = 0; total = 1; segments = []; content = content }
