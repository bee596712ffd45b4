-- The contexts as tables, by the bits of what is seen around a place.
use Rattle.std.specs.Prelude.{ℕ, ◌+◌, ◌*◌, Bool, not, ◌&&◌, List, map, ◌++◌, if◌then◌else◌}
use Rattle.std.specs.List.{range_with_len}
use Rattle.jk_math.specs.declared.orientation.Orientation.{Orientation}
use Rattle.jk_math.specs.declared.orientation.Orientation.TheVariants.{LL, HL, LH, HH}
use Rattle.jk_scan.specs.declared.contexts.SignContext.{SignContext}
use Rattle.jk_scan.specs.Bits.{on}
use Rattle.jk_scan.specs.Contexts.{zero_context_of, contribution_of, sign_context_of}
use Rattle.jk_scan.specs.Neighbours.{count}

-- The context of a place that isn't significant, where bit 3a + t of nine is the place in the a-th
-- of three columns and the t-th of three rows around it.
unfoldable pub zero_context_by : Orientation → (nine : ℕ) → ℕ
zero_context_by orientation nine =
    zero_context_of orientation (count (on nine 1) (on nine 7)) (count (on nine 3) (on nine 5))
    (count (on nine 0) (on nine 6) + count (on nine 2) (on nine 8))

-- The context of a sign, where bits 0 to 3 are whether the places left, above, below and right are
-- significant, and bits 4 to 7 whether they are negative.
unfoldable pub sign_context_by : (eight : ℕ) → SignContext
sign_context_by eight =
    let plus : ℕ → Bool = λ b. on eight b && not (on eight (b + 4)) in
    let minus : ℕ → Bool = λ b. on eight b && on eight (b + 4) in
    sign_context_of (contribution_of (count (plus 0) (plus 3)) (count (minus 0) (minus 3)))
    (contribution_of (count (plus 1) (plus 2)) (count (minus 1) (minus 2)))

-- a context and its flip in one number
abbrev pub packed : SignContext → ℕ
packed c = 2 * c.context + (if c.flip then 1 else 0)

-- the tables
unfoldable pub contexts_by : Orientation → List ℕ
contexts_by orientation = map (zero_context_by orientation) (range_with_len 0 512)

-- those of LL and LH, of HL, and of HH
unfoldable pub zero_contexts : List ℕ
zero_contexts = contexts_by LL ++ (contexts_by HL ++ contexts_by HH)

-- where those of an orientation begin
abbrev pub first_of : Orientation → ℕ
first_of LL = 0
first_of HL = 512
first_of LH = 0
first_of HH = 1024

unfoldable pub sign_entries : List ℕ
sign_entries = map (λ i. packed (sign_context_by i)) (range_with_len 0 256)
