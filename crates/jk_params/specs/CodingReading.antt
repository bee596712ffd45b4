-- The coding of a tile-component by what the program keeps of the headers, and the first fault in
-- it.
use Rattle.std.specs.Prelude.{ℕ, zero, suc, ◌+◌, ◌||◌, nat_lt, List, [], ◌∷◌, ◌++◌, length, Option, Some, option_map}
use Rattle.std.specs.Prelude.{Result, Ok}
use Rattle.std.specs.List.{list_any, AllByRecursion}
use Rattle.jk_math.specs.Answer.{◌>>=◌, refuse}
use Rattle.jk_math.specs.declared.fault.Fault.{Fault}
use Rattle.jk_math.specs.declared.fault.Fault.TheVariants.{BadValue, Limit}
use Rattle.jk_marks.specs.declared.coding.Coding.{Coding}
use Rattle.jk_marks.specs.declared.segments.CodingStyle.{CodingStyle}
use Rattle.jk_marks.specs.declared.segments.Quantisation.{Quantisation}
use Rattle.jk_marks.specs.declared.head.TileHead.{TileHead}
use Rattle.jk_marks.specs.declared.main_header.Main.{Main}
use Rattle.jk_marks.specs.Segments.{IsStyle}
use Rattle.jk_marks.specs.Codestream.{head_of, given_for, or_else, ForGiven}
use Rattle.jk_params.specs.Coding.{band_count, coding_with}

-- the coding style and the quantization of component i
abbrev pub style_in : Main → TileHead → ℕ → CodingStyle
style_in main head i =
    or_else (or_else (or_else main.cod.style (given_for main.coc i)) (option_map (λ c. c.style) head.cod))
    (given_for head.coc i)

abbrev pub quantisation_in : Main → TileHead → ℕ → Quantisation
quantisation_in main head i =
    or_else (or_else (or_else main.qcd (given_for main.qcc i)) head.qcd) (given_for head.qcc i)

-- a coding, or why it can't be
unfoldable pub planes_at : Coding → Result Coding Fault
planes_at k = do
  _ ← refuse (nat_lt (length k.exponents) (band_count k.levels) || list_any (λ e. nat_lt (k.guard + e) 1) k.exponents)
      BadValue
  _ ← refuse (list_any (λ e. nat_lt 24 (k.guard + e)) k.exponents) Limit
  Ok k

-- no tile header says nothing
abbrev pub head_or_none : Option TileHead → TileHead
head_or_none head = or_else (head_of []) head

abbrev pub coding_at : Main → Option TileHead → ℕ → Result Coding Fault
coding_at main head i =
    planes_at (coding_with (style_in main (head_or_none head) i) (quantisation_in main (head_or_none head) i))

-- the codings of so many components more, the next of which is c, behind those that are done
unfoldable pub codings_from : Main → TileHead → (more c : ℕ) → List Coding → Result (List Coding) Fault
codings_from main head zero c done = Ok done
codings_from main head (suc more) c done = coding_at main (Some head) c
    >>= λ k. codings_from main head more (c + 1) (done ++ k ∷ [])

-- the codings of all components of a tile whose first header says this
abbrev pub codings_at : Main → TileHead → Result (List Coding) Fault
codings_at main head = codings_from main head main.siz.components 0 []

-- The coding styles of a main header and a tile's first header are such.
pub record HaveStyles (main : Main) (head : TileHead) : Type 0 where
  pub main_cod : IsStyle main.cod.style
  pub main_coc : AllByRecursion (ForGiven IsStyle) main.coc
  pub head_cod : ForGiven (λ c. IsStyle c.style) head.cod
  pub head_coc : AllByRecursion (ForGiven IsStyle) head.coc
