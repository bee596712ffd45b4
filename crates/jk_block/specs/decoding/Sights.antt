-- What words show of a draft while a word is read, and what they make of it behind the word.
use Rattle.std.specs.Prelude.{◌≡◌, ℕ, ◌+◌, ◌^◌, ◌<◌, ◌≤◌, Bool, true, ◌&&◌, ◌⊎◌, nat_lt, if◌then◌else◌}
use Rattle.jk_scan.specs.Bits.{on}
use Rattle.jk_scan.specs.Neighbours.{Field, is_inside, seen_from}
use Rattle.jk_scan.specs.Words.{bordered}
use Rattle.jk_scan.specs.WordPlaces.{column, row}
use Rattle.jk_scan.specs.Surroundings.{IsAround}
use Rattle.jk_block.specs.declared.word_place.WordPlace.{WordPlace}
use Rattle.jk_block.specs.declared.decoding.sight.Sight.{Sight}
use Rattle.jk_block.specs.Fields.{is_in_word, own_bit}
use Rattle.jk_block.specs.Meaning.{above}
use Rattle.jk_block.specs.decoding.BlockStates.{Draft, significant_in, coded_in}

-- the significant places, as a stripe sees them
abbrev pub seen_in : Draft → (stripe : ℕ) → Field Bool
seen_in d stripe = seen_from d.shape stripe (significant_in d)

-- The words show the significant places and the negative ones, in a word and around it, as the
-- word's stripe sees them.
pub record Sees (at : WordPlace) (d : Draft) (sight : Sight) : Type 0 where
  pub significant : IsAround (bordered (seen_in d at.stripe)) at.word at.stripe sight.significant
  pub negative : IsAround (bordered (seen_from d.shape at.stripe d.negative)) at.word at.stripe sight.negative

-- Two drafts have the same of a place.
pub record IsSame (k d : Draft) (x y : ℕ) : Type 0 where
  pub magnitude : d.magnitude x y ≡ k.magnitude x y
  pub negative : d.negative x y ≡ k.negative x y

-- A place of the word has become significant.
pub record IsNew (at : WordPlace) (k d : Draft) (x y : ℕ) : Type 0 where
  pub word : is_in_word at.word at.stripe x y ≡ true
  pub inside : is_inside d.shape x y ≡ true
  pub before : k.magnitude x y ≡ 0
  pub now : d.magnitude x y ≡ 2 ^ at.plane

-- What a draft has become where places of a word have become significant, as the words show it.
pub record Held (at : WordPlace) (k : Draft) (sight : Sight) (d : Draft) : Type 0 where
  pub shape : d.shape ≡ k.shape
  pub sees : Sees at d sight
  pub changed : (x y : ℕ) → IsSame k d x y ⊎ IsNew at k d x y

-- The words show what has become of a draft.
pub record IsHeld (at : WordPlace) (k : Draft) (sight : Sight) : Type 0 where
  pub draft : Draft
  pub held : Held at k sight draft

-- the places of a word have taken their bits of this plane
abbrev pub refined_in : (at : WordPlace) (places ones : ℕ) → Draft → Draft
refined_in at places ones d =
    record d {
      magnitude = λ x y.
          if is_in_word at.word at.stripe x y && on places (own_bit x y)
          then above (at.plane + 1) (d.magnitude x y) + (if on ones (own_bit x y) then 2 ^ at.plane else 0)
          else d.magnitude x y;
    }

-- Places of a word that are significant already, and no bit is held below this plane.
pub record IsRefined (at : WordPlace) (places ones : ℕ) (d : Draft) : Type 0 where
  pub whole : (x y : ℕ) → is_inside d.shape x y ≡ true → above at.plane (d.magnitude x y) ≡ d.magnitude x y
  pub only : (m : ℕ) → m < 64 → on ones m ≡ true → on places m ≡ true
  pub large : (x y : ℕ) → is_in_word at.word at.stripe x y ≡ true → on places (own_bit x y) ≡ true
      → (is_inside d.shape x y ≡ true) × (2 ^ (at.plane + 1) ≤ d.magnitude x y)

-- the sign that the words show of the place at a bit
abbrev pub sign_seen : Sight → ℕ → Bool
sign_seen sight k = on sight.negative.centre k

-- the place at a bit has become significant, with the sign that the words show
abbrev pub significant_at : (at : WordPlace) (k : ℕ) → Sight → Draft → Draft
significant_at at k sight d = coded_in at.plane (column at.word k) (row at.stripe k) true (sign_seen sight k) d

-- the same, where its bit is 1
abbrev pub new_in : (at : WordPlace) (k : ℕ) → Bool → Sight → Draft → Draft
new_in at k bit sight d = if bit then significant_at at k sight d else d

-- row f of a column, from the bit of its first row on, where it is one of the four
abbrev pub run_in : (at : WordPlace) (k f : ℕ) → Sight → Draft → Draft
run_in at k f sight d = if nat_lt f 4 then significant_at at (k + f) sight d else d
