-- Rows that were refused behind others that were taken.
use Rattle.std.proofs.Common.{◌≡◌, ℕ, ◌≤◌, ◌<◌, ◌⊎◌, inl, inr, List, [], ◌∷◌, arith}
use Rattle.jk_math.specs.Memory.{IsMemory}
use Rattle.jk_math.specs.Picture.{Picture}
use Rattle.jk_math.specs.declared.fault.Fault.{Fault}
use Rattle.jk_code.specs.Rows.{AreTaken, WereTaken, WereRefused, HasFaultAt}
use Rattle.jk_code.specs.Sources.{ImageSource}
use Rattle.jk_code.proofs.RowLaws.{refused_later}

-- rows are taken downwards
taken_down : {A : Type 0} (took : A → Picture → A → Type 0) (p : Picture) (y z : ℕ) (from : A) (stripes : List (ℕ × A)) (to : A) → AreTaken took p y z from stripes to → y ≤ z
taken_down took p y z from [] to h = let same = h.0 in omega (arith, same)
taken_down took p y z from (s ∷ stripes) to h = let more = h.0 in let rest = h.1 in omega (arith, more, rest)

-- What ended the giving behind other rows ended it from the first on.
pub cause_later : {A : Type 0} (took : A → Picture → A → Type 0) (refused : A → Picture → Fault → A → Type 0) (s : ImageSource) (p : Picture) (y x z : ℕ) (from mid to : A) (e : Fault) → WereTaken took p y x from mid
    → IsMemory e ⊎ WereRefused took refused p x z mid to e ⊎ HasFaultAt s e → IsMemory e ⊎ WereRefused took refused p y z from to e ⊎ HasFaultAt s e
cause_later took refused s p y x z from mid to e taken (inl memory) = inl memory
cause_later took refused s p y x z from mid to e taken (inr (inl why)) = inr (inl (refused_later took refused p y x z from mid to e (taken_down took p y x from taken.0 mid taken.1) taken why))
cause_later took refused s p y x z from mid to e taken (inr (inr has)) = inr (inr has)
