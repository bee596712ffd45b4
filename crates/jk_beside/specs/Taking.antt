-- What is taken out of a file: its profile, XML, what stands under a UUID.
use Rattle.std.specs.Prelude.{◌≡◌, ℕ, ◌==◌, ◌||◌, ◌⊎◌, nat_lt, if◌then◌else◌}
use Rattle.std.specs.Prelude.{List, [], ◌∷◌, length, take, drop, slice_range, Option, Some, None, Result, Ok, Err}
use Rattle.std.specs.Str.{bytes_eq}
use Rattle.jk_math.specs.Answer.{◌>>=◌}
use Rattle.jk_math.specs.declared.fault.Fault.{Fault}
use Rattle.jk_math.specs.declared.fault.Fault.TheVariants.{BadBox}
use Rattle.jk_extras.specs.declared.header.ToldColour.{ToldColour}
use Rattle.jk_extras.specs.declared.header.ToldColour.TheVariants.{Nothing, Enumerated, Profile}
use Rattle.jk_extras.specs.declared.finding.Found.{Found}
use Rattle.jk_extras.specs.declared.told.Told.{Told}
use Rattle.jk_extras.specs.Finding.{xml_kind}
use Rattle.jk_extras.specs.Reading.{extras_at}
use Rattle.jk_beside.specs.Others.{AreOthers, AreBefore, AreBroken, held_bytes}
use Rattle.jk_beside.specs.declared.taking.Item.{Item}
use Rattle.jk_beside.specs.declared.taking.Item.TheVariants.{Xml, Uuid}

-- the bytes of a profile that is told
abbrev pub profile_told : List ℕ → ToldColour → Result (Option (List ℕ)) Fault
profile_told file Nothing = Ok None
profile_told file (Enumerated n) = Ok None
profile_told file (Profile start end) =
    if nat_lt end start || nat_lt (length file) end then Err BadBox
    else Ok (Some (slice_range file start end))

unfoldable pub profile_at : List ℕ → Result (Option (List ℕ)) Fault
profile_at file = extras_at file >>= λ told. profile_told file told.colour

-- what XML is for who asks for an item
abbrev pub of_xml : Item → List ℕ → Option (List ℕ)
of_xml Xml contents = Some contents
of_xml (Uuid id) contents = None

-- what a box under a UUID is, which stands in its first 16 bytes
abbrev pub of_uuid : Item → List ℕ → Option (List ℕ)
of_uuid Xml contents = None
of_uuid (Uuid id) contents = if bytes_eq (take 16 contents) id then Some (drop 16 contents) else None

unfoldable pub held_by : Item → ℕ → List ℕ → Result (Option (List ℕ)) Fault
held_by item kind contents =
    if kind == xml_kind then Ok (of_xml item contents)
    else (if nat_lt (length contents) 16 then Err BadBox else Ok (of_uuid item contents))

-- what one of the boxes of a file holds of an item
abbrev pub held_in : Item → List ℕ → Found → Result (Option (List ℕ)) Fault
held_in item file f = held_by item f.head.kind (held_bytes file f)

-- none of them holds it
abbrev pub HoldNone : Item → List ℕ → List Found → Type 0
HoldNone item file [] = Unit {0}
HoldNone item file (f ∷ fs) = (held_in item file f ≡ Ok None) × HoldNone item file fs

-- The first box from a place on that holds the item, and what it holds; or none does.
abbrev pub HasItem : Item → List ℕ → ℕ → Option (List ℕ) → Type 0
HasItem item file at None = (fs : List Found) × AreOthers file at fs × HoldNone item file fs
HasItem item file at (Some held) =
    (fs : List Found) × (f : Found) × AreBefore file at fs f × HoldNone item file fs × (held_in item file f ≡ Ok (Some held))

-- None of the boxes holds it up to one that can't be read, or of which it can't be said.
abbrev pub HasNoItem : Item → List ℕ → ℕ → Fault → Type 0
HasNoItem item file at e =
    ((fs : List Found) × AreBroken file at fs e × HoldNone item file fs)
    ⊎ ((fs : List Found) × (f : Found) × AreBefore file at fs f × HoldNone item file fs × (held_in item file f ≡ Err e))

-- the item of a file
abbrev pub IsItemOf : Item → List ℕ → Option (List ℕ) → Type 0
IsItemOf item file o = (told : Told) × (extras_at file ≡ Ok told) × HasItem item file told.others o

-- why it can't be taken
abbrev pub IsNotTaken : Item → List ℕ → Fault → Type 0
IsNotTaken item file e =
    (extras_at file ≡ Err e) ⊎ ((told : Told) × (extras_at file ≡ Ok told) × HasNoItem item file told.others e)
