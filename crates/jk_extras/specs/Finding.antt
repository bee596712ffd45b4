-- Boxes of a file that are looked for.
use Rattle.std.specs.Prelude.{◌≡◌, ℕ, zero, suc, ◌+◌, ◌-◌, ◌==◌, ◌||◌, nat_lt}
use Rattle.std.specs.Prelude.{Bool, true, false, if◌then◌else◌, List, [], ◌∷◌, ◌++◌, length, drop}
use Rattle.std.specs.Prelude.{Option, Some, None, Result, Ok, Err}
use Rattle.jk_math.specs.Answer.{◌>>=◌}
use Rattle.jk_math.specs.declared.fault.Fault.{Fault}
use Rattle.jk_math.specs.declared.fault.Fault.TheVariants.{BadBox}
use Rattle.jk_boxes.specs.Boxes.{Box, AreBoxes, head_size, box_size, boxes_text, header_kind, code_kind}
use Rattle.std.specs.List.{AllByRecursion}
use Rattle.jk_boxes.specs.Reading.{box_at}
use Rattle.jk_extras.specs.declared.finding.Wanted.{Wanted}
use Rattle.jk_extras.specs.declared.finding.Wanted.TheVariants.{Header, Code, Others}
use Rattle.jk_extras.specs.declared.finding.Found.{Found}
use Rattle.jk_extras.specs.declared.finding.Kind.TheVariants.{Xml, Uuid}
use Rattle.jk_extras.specs.declared.finding.ToldOther.{ToldOther}

-- TBox of `xml ` and `uuid` (I.7.1, I.7.2)
abbrev pub xml_kind : ℕ
xml_kind = 0x786D6C20

abbrev pub uuid_kind : ℕ
uuid_kind = 0x75756964

abbrev pub is_wanted : Wanted → ℕ → Bool
is_wanted Header kind = kind == header_kind
is_wanted Code kind = kind == code_kind
is_wanted Others kind = (kind == xml_kind) || (kind == uuid_kind)

-- the first box that is looked for, of n at most up to the end of the file
unfoldable pub found_by : Wanted → ℕ → ℕ → List ℕ → Result (Option Found) Fault
found_by wanted zero at rest = Ok None
found_by wanted (suc n) at rest =
    if length rest == 0 then Ok None
    else (box_at true rest >>= λ box. if is_wanted wanted box.kind then Ok (Some (record { at = at; head = box }))
    else found_by wanted n (at + box.size) (drop box.size rest))

abbrev pub found_at : Wanted → ℕ → List ℕ → Result (Option Found) Fault
found_at wanted from file = found_by wanted (length file) from (drop from file)

-- the same where one must be
abbrev pub found_or_fault : Option Found → Result Found Fault
found_or_fault None = Err BadBox
found_or_fault (Some f) = Ok f

unfoldable pub one_found : Wanted → ℕ → List ℕ → Result Found Fault
one_found wanted from file = found_at wanted from file >>= λ f. found_or_fault f

-- the place of a box's contents, and that behind it
abbrev pub span_of : Found → ℕ × ℕ
span_of f = (f.at + head_size f.head.form, f.at + f.head.size)

abbrev pub span_or_fault : Option Found → Result (ℕ × ℕ) Fault
span_or_fault None = Err BadBox
span_or_fault (Some f) = Ok (span_of f)

-- that of the first JP2 header box behind the signature
unfoldable pub header_found : List ℕ → Result (ℕ × ℕ) Fault
header_found file = found_at Header 12 file >>= λ f. span_or_fault f

-- what a box holds; the first 16 bytes of contents are the UUID
unfoldable pub other_told : Found → Result ToldOther Fault
other_told f =
    if f.head.kind == xml_kind then Ok (record { kind = Xml; start = (span_of f).0; end = (span_of f).1 })
    else (if nat_lt ((span_of f).1 - (span_of f).0) 16 then Err BadBox
    else Ok (record { kind = Uuid; start = (span_of f).0 + 16; end = (span_of f).1 }))

abbrev pub told_or_none : Option Found → Result (Option ToldOther) Fault
told_or_none None = Ok None
told_or_none (Some f) = other_told f >>= λ t. Ok (Some t)

-- the first box of XML or under a UUID from a place on
unfoldable pub other_at : ℕ → List ℕ → Result (Option ToldOther) Fault
other_at from file = found_at Others from file >>= λ f. told_or_none f

-- a box at a place
abbrev pub placed_box : ℕ → Box → Found
placed_box at b = record { at = at; head = record { form = b.form; kind = b.kind; size = box_size b } }

-- Boxes stand from a place on, and none of those that are passed is of XML or under a UUID.
pub record ArePassed (from : ℕ) (file : List ℕ) (passed behind : List Box) : Type 0 where
  pub text : drop from file ≡ boxes_text (passed ++ behind)
  pub boxes : AreBoxes (passed ++ behind)
  pub others : AllByRecursion (λ (b : Box). is_wanted Others b.kind ≡ false) passed

-- the first box of XML or under a UUID is told, where it stands
abbrev pub TellsNext : ℕ → List ℕ → Result (Option ToldOther) Fault → Type 0
TellsNext from file told = (passed : List Box) (b : Box) (behind : List Box) → ArePassed from file passed (b ∷ behind)
    → is_wanted Others b.kind ≡ true
    → told ≡ (other_told (placed_box (from + length (boxes_text passed)) b) >>= λ t. Ok (Some t))

-- and nothing where there is none
abbrev pub TellsNone : ℕ → List ℕ → Result (Option ToldOther) Fault → Type 0
TellsNone from file told = (passed : List Box) → ArePassed from file passed [] → told ≡ Ok None
