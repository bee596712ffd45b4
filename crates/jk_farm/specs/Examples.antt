-- Examples: what segments mean one after another, and which of two faults is answered.
use Rattle.std.specs.Prelude.{◌≡◌, ℕ, [], ◌∷◌, refl, pos, Ok, Err}
use Rattle.std.specs.Global.{Vec}
use Rattle.jk_math.specs.declared.fault.Fault.TheVariants.{TooManyPasses, CodeOutOfInterval}
use Rattle.jk_math.specs.declared.orientation.Orientation.TheVariants.{LH}
use Rattle.jk_math.specs.Styles.{plain_style}
use Rattle.jk_block.specs.Meaning.{values_of}
use Rattle.jk_block.specs.Reading.{times, block_at}
use Rattle.jk_farm.specs.declared.segments.Segment.{Segment}
use Rattle.jk_farm.specs.Blocks.{segment_at, segments_at}

-- a code-block of one column and two rows
abbrev of_two : (planes passes : ℕ) → Vec ℕ → Segment
of_two planes passes bytes = record {
  bytes = bytes;
  shape = record { width = 1; height = 2; orientation = LH; style = plain_style };
  planes = planes;
  passes = passes;
}

none_at_all : segments_at [] ≡ Ok []
unfolding segments_at
none_at_all = refl

-- without a coding pass both coefficients are zero, whatever its bytes are
no_pass : (bytes : Vec ℕ) → segments_at (of_two 5 0 bytes ∷ []) ≡ Ok ((pos 0 ∷ pos 0 ∷ []) ∷ [])
unfolding segments_at values_of times block_at
no_pass bytes = refl

-- five bit-planes have 13 passes, and none has none
passes_past : (bytes : Vec ℕ) → segments_at (of_two 5 14 bytes ∷ []) ≡ Err TooManyPasses
unfolding segments_at block_at
passes_past bytes = refl

passes_of_no_plane : (bytes : Vec ℕ) → segments_at (of_two 0 1 bytes ∷ []) ≡ Err TooManyPasses
unfolding segments_at block_at
passes_of_no_plane bytes = refl

-- What segments mean stands in their order.
in_order : (s t : Segment) → segment_at s ≡ Ok (pos 1 ∷ []) → segment_at t ≡ Ok (pos 2 ∷ [])
    → segments_at (s ∷ t ∷ []) ≡ Ok ((pos 1 ∷ []) ∷ (pos 2 ∷ []) ∷ [])
unfolding segments_at
in_order s t first second = rw (first, second) refl

-- Of two faults that of the first segment is answered, and a segment that has none hides none.
first_fault : (s t : Segment) → segment_at s ≡ Err CodeOutOfInterval → segment_at t ≡ Err TooManyPasses
    → segments_at (s ∷ t ∷ []) ≡ Err CodeOutOfInterval
unfolding segments_at
first_fault s t first second = rw first refl

second_fault : (s t : Segment) → segment_at s ≡ Ok (pos 1 ∷ []) → segment_at t ≡ Err TooManyPasses
    → segments_at (s ∷ t ∷ []) ≡ Err TooManyPasses
unfolding segments_at
second_fault s t first second = rw (first, second) refl
