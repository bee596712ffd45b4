-- What is read of the text of what a file keeps.
use Rattle.std.specs.Prelude.{◌≡◌, ℕ, ◌<◌, ◌==◌, ◌||◌, if◌then◌else◌, List, take, drop, map, slice_index}
use Rattle.std.specs.Prelude.{slice_range, Result, Ok, Err}
use Rattle.std.specs.List.{filter}
use Rattle.jk_math.specs.Answer.{◌>>=◌}
use Rattle.jk_math.specs.declared.fault.Fault.{Fault}
use Rattle.jk_math.specs.declared.fault.Fault.TheVariants.{BadParameters}
use Rattle.jk_boxes.specs.Boxes.{Box, IsJp2}
use Rattle.jk_extras.specs.declared.header.ToldColour.{ToldColour}
use Rattle.jk_extras.specs.declared.header.ToldColour.TheVariants.{Nothing, Enumerated, Profile}
use Rattle.jk_extras.specs.declared.told.Told.{Told}
use Rattle.jk_extras.specs.declared.finding.Wanted.TheVariants.{Others}
use Rattle.jk_extras.specs.Finding.{xml_kind, is_wanted}
use Rattle.jk_extras.specs.Boxed.{Plain, PlainColour, Stays, ByNumber, ByProfile}
use Rattle.jk_extras.specs.Boxed.{PlainOther, PlainXml, PlainUuid, extras_read}
use Rattle.jk_extras.specs.Reading.{extras_at}
use Rattle.jk_extras.specs.Texts.{all_boxes, extras_text}

-- a box of XML, or of the 16 bytes of a UUID and what stands behind them (I.7.1, I.7.2)
abbrev pub other_of : Box → PlainOther
other_of b = if b.kind == xml_kind then PlainXml b.contents else PlainUuid (take 16 b.contents) (drop 16 b.contents)

-- a colour that a file tells, as what another is to keep: nothing; sRGB, 16, and greyscale, 17, of
-- the enumerated ones; a profile
abbrev pub colour_taken : List ℕ → ToldColour → Result PlainColour Fault
colour_taken file Nothing = Ok Stays
colour_taken file (Enumerated n) = if (n == 16) || (n == 17) then Ok ByNumber else Err BadParameters
colour_taken file (Profile start end) = Ok (ByProfile (slice_range file start end))

-- what a JP2 file keeps: a colour, the resolutions that are told of it, and its boxes of XML and
-- under UUIDs, in their order
abbrev pub kept_of : {bytes codestream : List ℕ} → IsJp2 bytes codestream → Told → PlainColour → Plain
kept_of j told colour =
    record {
      colour = colour;
      capture = told.capture;
      display = told.display;
      others = map other_of (filter (λ (b : Box). is_wanted Others b.kind) (all_boxes j));
    }

-- of the text of what a JP2 file keeps the same is read, or why its colour can't be given
abbrev pub TextIsRead : Type 0
TextIsRead = (file codestream : List ℕ) (j : IsJp2 file codestream) (told : Told) (text : List ℕ)
    → ((k : ℕ) → slice_index file k < 256) → extras_at file ≡ Ok told → extras_text file ≡ Ok text
    → extras_read text ≡ (colour_taken file told.colour >>= λ colour. Ok (kept_of j told colour))
