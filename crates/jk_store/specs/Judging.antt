-- What the names of a shelf's files alone say of the name of an image that is to be added.
use Rattle.std.specs.Prelude.{◌≡◌, ℕ, ◌<◌, ◌≤◌, true, false, List, [], length}
use Rattle.jk_math.specs.Picture.{Picture}
use Rattle.jk_params.specs.declared.parameters.Parameters.{Parameters}
use Rattle.jk_store.specs.Files.{is_among}
use Rattle.jk_store.specs.Names.{is_good_name}
use Rattle.jk_store.specs.Catalogue.{most_entries}
use Rattle.jk_store.specs.Adding.{judged}
use Rattle.jk_store.specs.Opening.{AreNamesIn, Opened}
use Rattle.jk_store.specs.declared.entry.Entry.{Entry}
use Rattle.jk_store.specs.declared.skipped.Skipped.{Skipped}

-- The shelf listed these files, which are those of fewer images than an archive may have, and none
-- of them has the name.
pub record IsFree {S : Type 0} (lists : S → List (List ℕ) → S → Type 0) (old : S) (name : List ℕ)
    (new : S) : Type 0 where
  pub files : List (List ℕ)
  pub names : List (List ℕ)
  pub listed : lists old files new
  pub are : AreNamesIn files names
  pub few : length names < most_entries
  pub good : is_good_name name ≡ true
  pub free : is_among name names ≡ false

-- The shelf listed these files, which are those of fewer images than an archive may have.
pub record IsFew {S : Type 0} (lists : S → List (List ℕ) → S → Type 0) (old new : S) : Type 0 where
  pub files : List (List ℕ)
  pub names : List (List ℕ)
  pub listed : lists old files new
  pub are : AreNamesIn files names
  pub few : length names < most_entries

-- The shelf listed these files, which may be those of as many images as an archive may have.
pub record IsFull {S : Type 0} (lists : S → List (List ℕ) → S → Type 0) (old new : S) : Type 0 where
  pub files : List (List ℕ)
  pub names : List (List ℕ)
  pub listed : lists old files new
  pub are : AreNamesIn files names
  pub many : most_entries ≤ length names

-- Whatever is listed of the images of these names, an image is judged beside it as it is where
-- nothing is listed.
abbrev pub JudgedAlone : {S : Type 0} → (S → List ℕ → List ℕ → S → Type 0) → List (List ℕ) → List ℕ → Type 0
JudgedAlone {S} gave names name = (old new : S) (entries : List Entry) (skipped : List Skipped)
    → Opened gave names old entries skipped new
    → (p : Picture) (q : Parameters) → judged entries name p q ≡ judged [] name p q
