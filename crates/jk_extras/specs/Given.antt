-- What is read of a file with extras.
use Rattle.std.specs.Prelude.{◌≡◌, ℕ, ℤ, pos, negsuc, ◌-◌, ◌<◌, ◌^◌, if◌then◌else◌}
use Rattle.std.specs.Prelude.{List, [], ◌∷◌, ◌++◌, length, slice_range, IfSome, Some, Result, Ok}
use Rattle.std.specs.List.{AllByRecursion}
use Rattle.jk_math.specs.declared.fault.Fault.{Fault}
use Rattle.jk_boxes.specs.Boxes.{Box, IsJp2, boxes_text, signature}
use Rattle.jk_boxes.specs.Written.{colour_space, recoded}
use Rattle.jk_extras.specs.declared.grids.Ratio.{Ratio}
use Rattle.jk_extras.specs.declared.grids.Grid.{Grid}
use Rattle.jk_extras.specs.declared.grids.Grids.{Grids}
use Rattle.jk_extras.specs.declared.values.Colour.{Colour}
use Rattle.jk_extras.specs.declared.values.Colour.TheVariants.{AsItIs, Enumerated, Profile}
use Rattle.jk_extras.specs.declared.values.Extras.{Extras}
use Rattle.jk_extras.specs.declared.told.Told.{Told}
use Rattle.jk_extras.specs.declared.values.Other.{Other}
use Rattle.jk_extras.specs.declared.values.Other.TheVariants.{Xml, Uuid}
use Rattle.jk_extras.specs.declared.finding.ToldOther.{ToldOther}
use Rattle.jk_extras.specs.declared.finding.Kind.TheVariants.{Xml as XmlKind, Uuid as UuidKind}
use Rattle.jk_extras.specs.Finding.{other_at}
use Rattle.jk_extras.specs.Extras.{has_grids}
use Rattle.jk_extras.specs.Dressed.{components_of, dressed_header, dressed}
use Rattle.jk_extras.specs.Reading.{extras_at}
use Rattle.jk_extras.specs.Said.{SaidColour, Number, IccProfile}
use Rattle.jk_extras.specs.Said.{colour_told, first_colour, first_resolution, resolutions_said}

-- numbers of 16 bits, an exponent of 8 bits in two's complement
abbrev pub FitsByte : ℤ → Type 0
FitsByte (pos n) = n < 128
FitsByte (negsuc n) = n < 128

pub record FitsRatio (r : Ratio) : Type 0 where
  pub numerator_fits : r.numerator < 2 ^ 16
  pub denominator_fits : r.denominator < 2 ^ 16
  pub exponent_fits : FitsByte r.exponent

abbrev pub FitsGrid : Grid → Type 0
FitsGrid g = FitsRatio g.down × FitsRatio g.across

-- a colour that is given stands for what was said before
abbrev pub colour_given : ℕ → Colour → SaidColour → SaidColour
colour_given components AsItIs before = before
colour_given components Enumerated before = Number (colour_space components)
colour_given components (Profile p) before = IccProfile p.items

-- and so do resolutions
abbrev pub resolutions_given : Extras → List Box → Result Grids Fault
resolutions_given e before =
    if has_grids e then Ok (record { capture = e.capture; display = e.display })
    else resolutions_said (first_resolution before)

-- What is told is what was given, and where nothing was, what the boxes said before.
pub record IsReadBack (components : ℕ) (e : Extras) (before : List Box) (text : List ℕ) (t : Told) : Type 0 where
  pub colour_is : colour_told text t.colour ≡ colour_given components e.colour (first_colour before)
  pub resolutions_are : resolutions_given e before ≡ Ok (record { capture = t.capture; display = t.display })

-- what is written is read
abbrev pub WrittenIsRead : Type 0
WrittenIsRead = (file codestream : List ℕ) (j : IsJp2 file codestream) (e : Extras) (text : List ℕ) (t : Told)
    → IfSome e.capture FitsGrid → IfSome e.display FitsGrid → dressed j e ≡ Ok text → extras_at text ≡ Ok t
    → IsReadBack (components_of j.header_next.1.image) e j.header_next.1.others text t

-- a file is told once more where it was told before
abbrev pub IsToldAgain : Type 0
IsToldAgain = (file codestream : List ℕ) (j : IsJp2 file codestream) (e : Extras) (text : List ℕ) (before : Told)
    → IfSome e.capture FitsGrid → IfSome e.display FitsGrid → dressed j e ≡ Ok text → extras_at file ≡ Ok before
    → (t : Told) × (extras_at text ≡ Ok t)

-- with another codestream a file is told as before, by the same places
abbrev pub IsKeptByCuts : Type 0
IsKeptByCuts = (file old : List ℕ) (j : IsJp2 file old) (codestream text : List ℕ) → recoded j codestream ≡ Ok text
    → extras_at text ≡ extras_at file

-- a box of XML or under a UUID is told: the UUID stands in the 16 bytes before its contents
abbrev pub IsOther : List ℕ → ToldOther → Other → Type 0
IsOther text t (Xml x) = (t.kind ≡ XmlKind) × (slice_range text t.start t.end ≡ x.items)
IsOther text t (Uuid id x) =
    (t.kind ≡ UuidKind) × (slice_range text (t.start - 16) t.start ≡ id) × (slice_range text t.start t.end ≡ x.items)

-- these are told one after another: the first from a place on, each other from the end of the one
-- before
abbrev pub AreTold : List ℕ → ℕ → List Other → Type 0
AreTold text at [] = Unit {0}
AreTold text at (o ∷ os) = (t : ToldOther) × (other_at at text ≡ Ok (Some t)) × IsOther text t o × AreTold text t.end os

-- a UUID has 16 bytes
abbrev pub HasUuid : Other → Type 0
HasUuid (Xml x) = Unit {0}
HasUuid (Uuid id x) = length id ≡ 16

-- what is given holds numbers of their widths
pub record FitsExtras (e : Extras) : Type 0 where
  pub capture_fits : IfSome e.capture FitsGrid
  pub display_fits : IfSome e.display FitsGrid
  pub uuids_fit : AllByRecursion HasUuid e.others.items

-- boxes that are given are read, from the place behind all others that stand before the codestream
-- box
abbrev pub OthersAreRead : Type 0
OthersAreRead = (file codestream : List ℕ) (j : IsJp2 file codestream) (e : Extras) (text : List ℕ)
    → AllByRecursion HasUuid e.others.items
    → dressed j e ≡ Ok text
    → AreTold text (length (signature ++ boxes_text (j.file_type ∷ (j.early ++ (dressed_header j e ∷ j.middle)))))
    e.others.items
