-- What a file is to keep, as boxes one after another, with the first fault that is met.
use Rattle.std.specs.Prelude.{ℕ, ◌==◌, ◌||◌, not, nat_lt, Bool, true, false}
use Rattle.std.specs.Prelude.{if◌then◌else◌, List, [], ◌∷◌, ◌++◌, length, take, drop, map}
use Rattle.std.specs.Prelude.{slice_index, Option, None, is_some, Result, Ok, Err}
use Rattle.byteorder.specs.Endian.{big_number}
use Rattle.jk_math.specs.Answer.{◌>>=◌, refuse}
use Rattle.jk_math.specs.declared.fault.Fault.{Fault}
use Rattle.jk_math.specs.declared.fault.Fault.TheVariants.{BadBox, BadParameters}
use Rattle.jk_boxes.specs.declared.boxes.BoxHead.{BoxHead}
use Rattle.jk_boxes.specs.Boxes.{colour_kind}
use Rattle.jk_boxes.specs.Reading.{contents_of}
use Rattle.jk_extras.specs.declared.grids.Grid.{Grid}
use Rattle.jk_extras.specs.declared.values.Colour.{Colour}
use Rattle.jk_extras.specs.declared.values.Colour.TheVariants.{AsItIs, Enumerated, Profile}
use Rattle.jk_extras.specs.declared.values.Other.{Other}
use Rattle.jk_extras.specs.declared.values.Other.TheVariants.{Xml, Uuid}
use Rattle.jk_extras.specs.declared.values.Extras.{Extras}
use Rattle.jk_extras.specs.Finding.{xml_kind, uuid_kind}
use Rattle.jk_extras.specs.Grids.{grids_at}
use Rattle.jk_extras.specs.Header.{resolution_kind}
use Rattle.jk_extras.specs.Passing.{passed_by}

-- A colour, a box of XML or under a UUID, and what a file is to keep, without where they lie in
-- memory.
pub data PlainColour : Type 0 where
  Stays : PlainColour
  ByNumber : PlainColour
  ByProfile : List ℕ → PlainColour

pub data PlainOther : Type 0 where
  PlainXml : List ℕ → PlainOther
  PlainUuid : List ℕ → List ℕ → PlainOther

pub record Plain : Type 0 where
  pub colour : PlainColour
  pub capture : Option Grid
  pub display : Option Grid
  pub others : List PlainOther

abbrev pub plain_colour : Colour → PlainColour
plain_colour AsItIs = Stays
plain_colour Enumerated = ByNumber
plain_colour (Profile p) = ByProfile p.items

abbrev pub plain_other : Other → PlainOther
plain_other (Xml x) = PlainXml x.items
plain_other (Uuid id x) = PlainUuid id x.items

abbrev pub plain : Extras → Plain
plain e =
    record {
      colour = plain_colour e.colour;
      capture = e.capture;
      display = e.display;
      others = map plain_other e.others.items;
    }

abbrev pub stays : PlainColour → Bool
stays Stays = true
stays ByNumber = false
stays (ByProfile p) = false

-- METH 1 with the number 16 or 17, METH 2 (I.5.3.3)
unfoldable pub colour_read : List ℕ → Result PlainColour Fault
colour_read contents =
    if nat_lt (length contents) 3 then Err BadBox
    else (if slice_index contents 0 == 1
    then (if not (length contents == 7) then Err BadBox
    else (if (big_number 4 (drop 3 contents) == 16) || (big_number 4 (drop 3 contents) == 17)
    then Ok ByNumber else Err BadParameters))
    else (if slice_index contents 0 == 2
    then (if length contents == 3 then Err BadBox else Ok (ByProfile (drop 3 contents)))
    else Err BadParameters))

unfoldable pub other_read : ℕ → List ℕ → Result PlainOther Fault
other_read kind contents =
    if kind == xml_kind then Ok (PlainXml contents)
    else (if not (kind == uuid_kind) || nat_lt (length contents) 16 then Err BadBox
    else Ok (PlainUuid (take 16 contents) (drop 16 contents)))

-- what is known once a box was read: one colour and one resolution box at most
unfoldable pub read_step : Plain → BoxHead → List ℕ → Result Plain Fault
read_step known box rest =
    if box.kind == colour_kind
    then (refuse (not (stays known.colour)) BadBox >>= λ _. colour_read (contents_of box rest)
    >>= λ c. Ok (record { colour = c; capture = known.capture; display = known.display; others = known.others }))
    else (if box.kind == resolution_kind
    then (refuse (is_some known.capture || is_some known.display) BadBox >>= λ _. grids_at (contents_of box rest)
    >>= λ g. Ok (record { colour = known.colour; capture = g.capture; display = g.display; others = known.others }))
    else (other_read box.kind (contents_of box rest)
    >>= λ o. Ok (record {
      colour = known.colour;
      capture = known.capture;
      display = known.display;
      others = known.others ++ o ∷ [];
    })))

-- wherever the box stands
abbrev pub read_step_at : Plain → ℕ → BoxHead → List ℕ → Result Plain Fault
read_step_at known at box rest = read_step known box rest

abbrev pub nothing_read : Plain
nothing_read = record { colour = Stays; capture = None; display = None; others = [] }

abbrev pub extras_read : List ℕ → Result Plain Fault
extras_read boxes = passed_by read_step_at true (length boxes) nothing_read 0 boxes
