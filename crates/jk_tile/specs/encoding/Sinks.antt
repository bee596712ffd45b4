-- What takes the text of packets, piece by piece.
use Rattle.std.specs.Prelude.{◌≡◌, ℕ, ◌+◌, ◌-◌, ◌^◌, ◌<◌, min, List, [], ◌++◌, length, Option, Result, Ok, Err, ⊤}
use Rattle.std.proofs.Common.{refl, sym, ap, ◌∙◌, append_assoc, arith}
use Rattle.std.proofs.KnownBytes.{Appends-nil, Appends-trans}
use Rattle.std.proofs.lemmas.List.{append-nil, length-append}
use Rattle.std.specs.Io.KnownBytes.{Appends}
use Rattle.jk_math.specs.Front.{IsFront}
use Rattle.jk_math.specs.declared.fault.Fault.{Fault}
use Rattle.jk_tile.specs.declared.encoding.sinks.TextWriter.{TextWriter}

-- What was taken of a text: all, or a beginning where this fault was told.
abbrev pub IsPassed : (Fault → Type 0) → (text part : List ℕ) → Result ⊤ Fault → Type 0
IsPassed tells text part (Ok done) = part ≡ text
IsPassed tells text part (Err e) = tells e × IsFront part text

-- ---- a list: a text stands behind what it had

abbrev pub IsBehind : List ℕ → List ℕ → List ℕ → Type 0
IsBehind old text new = new ≡ old ++ text

pub behind_none : (s : List ℕ) → IsBehind s [] s
behind_none s = sym (append-nil s)

pub behind_joined : (s t u x y : List ℕ) → IsBehind s x t → IsBehind t y u → IsBehind s (x ++ y) u
behind_joined s t u x y first second = second ∙ ap (λ (l : List ℕ). l ++ y) first ∙ append_assoc s x y

-- ---- a count of its bytes, which stops at the greatest number of 64 bits

abbrev pub IsCounted : ℕ → List ℕ → ℕ → Type 0
IsCounted old text new = old < 2 ^ 64 → new ≡ min (old + length text) (2 ^ 64 - 1)

pub counted_none : (s : ℕ) → IsCounted s [] s
counted_none s few = omega (arith, few)

pub counted_joined : (s t u : ℕ) (x y : List ℕ) → IsCounted s x t → IsCounted t y u → IsCounted s (x ++ y) u
counted_joined s t u x y first second few =
    let one = first few in
    let two = second (omega (arith, one)) in
    let long = length-append x y in
    omega (arith, one, two, long)

-- ---- a writer

-- It is the same writer, and the text is behind what it had.
pub record IsWrittenBehind {W : Type 0} (contents : W → Option (List ℕ)) (a : TextWriter W) (text : List ℕ) (b : TextWriter W) : Type 0 where
  pub same : b.writer.ghost_name ≡ a.writer.ghost_name
  pub behind : Appends (contents a.writer.now) (contents b.writer.now) text

pub written_none : {W : Type 0} (contents : W → Option (List ℕ)) (s : TextWriter W) → IsWrittenBehind contents s [] s
written_none contents s = record { same = refl; behind = Appends-nil (contents s.writer.now) }

pub written_joined : {W : Type 0} (contents : W → Option (List ℕ)) (s t u : TextWriter W) (x y : List ℕ) → IsWrittenBehind contents s x t → IsWrittenBehind contents t y u → IsWrittenBehind contents s (x ++ y) u
written_joined contents s t u x y first second = record {
  same = second.same ∙ first.same;
  behind = Appends-trans (contents s.writer.now) (contents t.writer.now) (contents u.writer.now) x y first.behind second.behind;
}
