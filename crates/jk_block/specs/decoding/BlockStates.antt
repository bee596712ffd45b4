-- What a sketch shows, the working state in which a block is read, and how a call on it and a
-- decoder goes on.
use Rattle.std.specs.Prelude.{◌≡◌, ℕ, ◌+◌, ◌^◌, ◌≤◌, Bool, true, false, nat_le, List, Result, Ok, Err, if◌then◌else◌}
use Rattle.jk_math.specs.declared.fault.Fault.{Fault}
use Rattle.jk_model.specs.Decisions.{State}
use Rattle.jk_mqdec.specs.Standing.{DecoderView, Stands}
use Rattle.jk_scan.specs.declared.shape.BlockShape.{BlockShape}
use Rattle.jk_scan.specs.Neighbours.{Field, is_inside}
use Rattle.jk_scan.specs.Flags.{flag_at}
use Rattle.jk_block.specs.declared.decoding.block_state.BlockState.{BlockState}
use Rattle.jk_block.specs.Fields.{significant_of, flagged, magnitude_of}
use Rattle.jk_block.specs.Meaning.{above}
use Rattle.jk_block.specs.Reading.{Progress, put}

-- A block as far as it is read, but for the state of the decoder.
pub record Draft : Type 0 where
  pub shape : BlockShape
  pub magnitude : Field ℕ
  pub negative : Field Bool
  pub visited : Field Bool

-- what a sketch shows
abbrev pub draft_of : BlockState → Draft
draft_of k = record {
  shape = k.shape;
  magnitude = magnitude_of k.shape k.planes k.bits.items;
  negative = flagged k.shape k.negative.now;
  visited = flagged k.shape k.visited.now;
}

-- with the state of the decoder
abbrev pub progress : Draft → State → Progress
progress d coder = record { magnitude = d.magnitude; negative = d.negative; visited = d.visited; coder = coder }

-- the significant places
abbrev pub significant_in : Draft → Field Bool
significant_in d = significant_of d.shape d.magnitude

-- a place has taken the bit of plane b, and its sign
abbrev pub coded_in : (b x y : ℕ) → (bit negative : Bool) → Draft → Draft
coded_in b x y bit negative d =
    record d {
      magnitude = put d.magnitude x y (above (b + 1) (d.magnitude x y) + (if bit then 2 ^ b else 0));
      negative = put d.negative x y negative;
    }

-- a place was coded in the significance propagation pass
abbrev pub visited_in : (x y : ℕ) → Draft → Draft
visited_in x y d = record d { visited = put d.visited x y true }

-- What is significant and isn't coded in this plane yet was so in a higher plane, no bit is held
-- below this plane, and words show what was significant already before the plane above began.
pub record IsFresh (plane : ℕ) (refined : List ℕ) (d : Draft) : Type 0 where
  pub higher : (x y : ℕ) → significant_in d x y ≡ true → d.visited x y ≡ false → 2 ^ (plane + 1) ≤ d.magnitude x y
  pub whole : (x y : ℕ) → is_inside d.shape x y ≡ true → above plane (d.magnitude x y) ≡ d.magnitude x y
  pub older : (x y : ℕ) → is_inside d.shape x y ≡ true
      → flag_at d.shape refined x y ≡ nat_le (2 ^ (plane + 2)) (d.magnitude x y)

-- The step goes on from a draft and a decoder's state to others.
pub record Advanced (step : Progress → Result Progress Fault) (old new : Draft) (after : DecoderView)
    (coder : State) : Type 0 where
  pub next : State
  pub stands : Stands after next
  pub is : step (progress old coder) ≡ Ok (progress new next)

-- A call takes a step of the definition to a draft that its value tells, or answers the step's
-- fault.
abbrev pub TakesTo : {A : Type 0} → (Progress → Result Progress Fault) → (old : Draft) → (new : A → Draft)
    → (before after : DecoderView) → Result A Fault → Type 0
TakesTo step old new before after (Ok u) =
    (coder : State) → Stands before coder → Advanced step old (new u) after coder
TakesTo step old new before after (Err e) = (coder : State) → Stands before coder → step (progress old coder) ≡ Err e

-- A call takes a step of the definition, or answers its fault.
abbrev pub TakesStep : {A : Type 0} → (Progress → Result Progress Fault) → (old new : Draft) → (before after : DecoderView)
    → Result A Fault → Type 0
TakesStep step old new before after result = TakesTo step old (λ _. new) before after result

-- The step is done but for a rest.
pub record Onward (step rest : Progress → Result Progress Fault) (old new : Draft) (after : DecoderView)
    (coder : State) : Type 0 where
  pub next : State
  pub stands : Stands after next
  pub is : step (progress old coder) ≡ rest (progress new next)

-- A call takes a step of the definition but for a rest, both that and the draft as its value tells,
-- or answers the step's fault.
abbrev pub TakesUpTo : {A : Type 0} → (Progress → Result Progress Fault) → (A → Progress → Result Progress Fault)
    → (old : Draft) → (new : A → Draft) → (before after : DecoderView) → Result A Fault → Type 0
TakesUpTo step rest old new before after (Ok u) =
    (coder : State) → Stands before coder → Onward step (rest u) old (new u) after coder
TakesUpTo step rest old new before after (Err e) =
    (coder : State) → Stands before coder → step (progress old coder) ≡ Err e
