-- What a file keeps, as boxes one after another, with the first fault that is met.
use Rattle.std.specs.Prelude.{◌≡◌, ℕ, zero, suc, ◌+◌, ◌^◌, ◌||◌}
use Rattle.std.specs.Prelude.{nat_lt, if◌then◌else◌, List, [], ◌∷◌, ◌++◌, length, slice_range}
use Rattle.std.specs.Prelude.{Option, Some, None, is_some, Result, Ok, Err}
use Rattle.jk_math.specs.Answer.{◌>>=◌}
use Rattle.jk_math.specs.declared.fault.Fault.{Fault}
use Rattle.jk_math.specs.declared.fault.Fault.TheVariants.{BadBox, Limit}
use Rattle.jk_boxes.specs.Boxes.{Box, IsJp2, boxes_text}
use Rattle.std.specs.List.{filter}
use Rattle.jk_extras.specs.declared.told.Told.{Told}
use Rattle.jk_extras.specs.declared.finding.Found.{Found}
use Rattle.jk_extras.specs.declared.finding.Wanted.TheVariants.{Others}
use Rattle.jk_extras.specs.declared.header.ToldColour.{ToldColour}
use Rattle.jk_extras.specs.declared.header.ToldColour.TheVariants.{Nothing, Enumerated, Profile}
use Rattle.jk_extras.specs.declared.grids.Grid.{Grid}
use Rattle.jk_extras.specs.Finding.{is_wanted, found_at, other_told}
use Rattle.jk_extras.specs.Reading.{extras_at}
use Rattle.jk_extras.specs.Extras.{space_box, profile_box, grids_box}

-- the colour specification box of what is told; a profile of a file lies in it
unfoldable pub colour_text : List ℕ → ToldColour → Result (List ℕ) Fault
colour_text file Nothing = Ok []
colour_text file (Enumerated n) = Ok (boxes_text (space_box n ∷ []))
colour_text file (Profile start end) =
    if nat_lt end start || nat_lt (length file) end then Err BadBox
    else (if nat_lt (2 ^ 24) (length (slice_range file start end)) then Err Limit
    else Ok (boxes_text (profile_box (slice_range file start end) ∷ [])))

-- the same behind what is known
abbrev pub colour_after : List ℕ → List ℕ → ToldColour → Result (List ℕ) Fault
colour_after known file colour = colour_text file colour >>= λ text. Ok (known ++ text)

-- the resolution box of what is told
abbrev pub resolution_text : Option Grid → Option Grid → List ℕ
resolution_text capture display =
    if is_some capture || is_some display
    then boxes_text (grids_box capture display ∷ [])
    else []

abbrev pub if_found : {A : Type 0} → Option Found → Result A Fault → (Found → Result A Fault) → Result A Fault
if_found None none some = none
if_found (Some f) none some = some f

-- what is known, and behind it the boxes of XML and under UUIDs from a place on, n at most
unfoldable pub others_from : ℕ → List ℕ → ℕ → List ℕ → Result (List ℕ) Fault
others_from zero known at file = Ok known
others_from (suc n) known at file = found_at Others at file
    >>= λ f. if_found f (Ok known) (λ g. other_told g
    >>= λ _. others_from n (known ++ slice_range file g.at (g.at + g.head.size)) (g.at + g.head.size) file)

-- the boxes of a JP2 file
abbrev pub all_boxes : {bytes codestream : List ℕ} → IsJp2 bytes codestream → List Box
all_boxes j = j.file_type ∷ (j.early ++ (j.header ∷ (j.middle ++ (j.code ∷ j.after))))

-- The text has the boxes of what is told, and all boxes of XML and under UUIDs of the file, in
-- their order.
pub record HasTold {bytes codestream : List ℕ} (j : IsJp2 bytes codestream) (written : List ℕ) : Type 0 where
  pub told : Told
  pub is : extras_at bytes ≡ Ok told
  pub colour : List ℕ
  pub colour_is : colour_text bytes told.colour ≡ Ok colour
  pub written_is : written ≡ colour
      ++ (resolution_text told.capture told.display
      ++ boxes_text (filter (λ (b : Box). is_wanted Others b.kind) (all_boxes j)))

unfoldable pub extras_text : List ℕ → Result (List ℕ) Fault
extras_text file = do
  told ← extras_at file
  colour ← colour_text file told.colour
  others_from (length file) (colour ++ resolution_text told.capture told.display) told.others file
