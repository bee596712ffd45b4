-- How slices stand for the lines of a plane.
use Rattle.std.specs.Prelude.{ℕ, ℤ, List, ◌+◌, ◌-◌, ◌*◌, ◌/◌, ◌%◌, ◌<◌, ◌≤◌, ◌≡◌, ◌==◌, if◌then◌else◌, length}
use Rattle.jk_math.specs.Signed.{signed_at}
use Rattle.jk_lift.specs.Lifting.{lifted, unlifted}

-- the line whose first place is start
abbrev pub line_of : ℕ → List ℤ → ℕ → ℤ
line_of start samples i = signed_at samples (i - start)

-- How many even and how many odd places the n places from start on have.
abbrev pub low_length : ℕ → ℕ → ℕ
low_length start n = (start + n + 1) / 2 - (start + 1) / 2

abbrev pub high_length : ℕ → ℕ → ℕ
high_length start n = (start + n) / 2 - start / 2

-- The line of coefficients from start on, whose low-pass part stands at the even places and whose
-- high-pass part at the odd ones (2D_INTERLEAVE in one direction, T.800 F.3.3). The coefficient u
-- of a part is at place 2u or 2u + 1.
abbrev pub woven : ℕ → List ℤ → List ℤ → ℕ → ℤ
woven start low high i = if i % 2 == 0 then signed_at low (i / 2 - (start + 1) / 2) else signed_at high (i / 2 - start / 2)

-- column x of rows of this width, the first of which is at place start
abbrev pub column : ℕ → ℕ → List ℤ → ℕ → ℕ → ℤ
column start width rows x i = signed_at rows ((i - start) * width + x)

-- low and high are the coefficients of the line
abbrev pub AnalysesLine : ℕ → List ℤ → List ℤ → List ℤ → Type 0
AnalysesLine start line low high = (i : ℕ) → start ≤ i → i < start + length line →
    woven start low high i ≡ lifted start (start + length line) (line_of start line) i

-- the line has the samples of the coefficients low and high
abbrev pub SynthesisesLine : ℕ → List ℤ → List ℤ → List ℤ → Type 0
SynthesisesLine start low high line = (i : ℕ) → start ≤ i → i < start + length line →
    line_of start line i ≡ unlifted start (start + length line) (woven start low high) i

-- each column of new has the coefficients of that column of old
abbrev pub AnalysesRows : ℕ → ℕ → List ℤ → List ℤ → Type 0
AnalysesRows start width old new = (height x i : ℕ) → length old ≡ height * width → x < width → start ≤ i → i < start + height →
    column start width new x i ≡ lifted start (start + height) (column start width old x) i

-- each column of new has the samples of that column of old
abbrev pub SynthesisesRows : ℕ → ℕ → List ℤ → List ℤ → Type 0
SynthesisesRows start width old new = (height x i : ℕ) → length old ≡ height * width → x < width → start ≤ i → i < start + height →
    column start width new x i ≡ unlifted start (start + height) (column start width old x) i
