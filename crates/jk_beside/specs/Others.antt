-- The boxes of XML and under UUIDs of a file, in their order (T.800 I.7).
use Rattle.std.specs.Prelude.{◌≡◌, ℕ, ◌+◌, List, [], ◌∷◌, drop, Some, None, Ok, Err}
use Rattle.jk_math.specs.declared.fault.Fault.{Fault}
use Rattle.jk_boxes.specs.Reading.{contents_of}
use Rattle.jk_extras.specs.declared.finding.Found.{Found}
use Rattle.jk_extras.specs.declared.finding.Wanted.TheVariants.{Others}
use Rattle.jk_extras.specs.Finding.{found_at}

-- These boxes are the first ones from a place on, and the place behind the last one is `end`.
abbrev pub Reach : List ℕ → ℕ → List Found → ℕ → Type 0
Reach file at [] end = at ≡ end
Reach file at (f ∷ fs) end = (found_at Others at file ≡ Ok (Some f)) × Reach file (f.at + f.head.size) fs end

-- They are all.
pub record AreOthers (file : List ℕ) (at : ℕ) (fs : List Found) : Type 0 where
  pub end : ℕ
  pub reach : Reach file at fs end
  pub none : found_at Others end file ≡ Ok None

-- Behind them this one comes.
pub record AreBefore (file : List ℕ) (at : ℕ) (fs : List Found) (next : Found) : Type 0 where
  pub end : ℕ
  pub reach : Reach file at fs end
  pub found : found_at Others end file ≡ Ok (Some next)

-- Behind them no box can be read, for this fault.
pub record AreBroken (file : List ℕ) (at : ℕ) (fs : List Found) (e : Fault) : Type 0 where
  pub end : ℕ
  pub reach : Reach file at fs end
  pub fault : found_at Others end file ≡ Err e

-- what a box holds
abbrev pub held_bytes : List ℕ → Found → List ℕ
held_bytes file f = contents_of f.head (drop f.at file)
