-- The main header that is written, and the codings that it gives.
use Rattle.std.proofs.Common.{◌≡◌, ℕ, zero, suc, ◌+◌, ◌<◌, Option, None, List, [], ◌∷◌, map, replicate, refl, ap, ◌∙◌, arith, lit<}
use Rattle.std.specs.Prelude.{All}
use Rattle.std.specs.List.{range_with_len, AllByRecursion}
use Rattle.std.proofs.lemmas.List.Elements.{All-nil, All-cons}
use Rattle.jk_math.specs.Picture.{Picture, IsPicture}
use Rattle.jk_marks.specs.declared.coding.Coding.{Coding}
use Rattle.jk_marks.specs.declared.segments.Quantisation.{Quantisation}
use Rattle.jk_marks.specs.Segments.{Segment}
use Rattle.jk_marks.specs.Codestream.{segments_of, by_component, given_for, IsMain, IsWritten}
use Rattle.jk_marks.proofs.Laws.{steps_back, main_written as is_main}
use Rattle.jk_params.specs.declared.parameters.Parameters.{Parameters}
use Rattle.jk_params.specs.Coding.{coding_with, coding_of, codings_of}
use Rattle.jk_params.specs.Profile.{siz_of, cod_of, IsWrittenBy}
use Rattle.jk_tile.specs.encoding.Needs.{exponents_for}
use Rattle.jk_tile.proofs.Laws.{IsSmall, exponents_long, exponents_small}
use Rattle.jk_code.specs.Written.{main_for}

-- the segments that are written
abbrev pub segments_for : Picture → Parameters → List Segment
segments_for p q = segments_of (main_for p q)

-- the quantization that is written
abbrev pub quantisation_for : Picture → Parameters → Quantisation
quantisation_for p q = record { guard = 2; exponents = exponents_for p q }

-- each component's coding
abbrev pub coding_in : Picture → Parameters → Coding
coding_in p q = coding_with (cod_of q).style (quantisation_for p q)

all_few : (es : List ℕ) → AllByRecursion IsSmall es → All (λ e. e < 32) es
all_few [] h = All-nil (λ e. e < 32)
all_few (e ∷ es) h = let few = h.0.1 in All-cons (λ e. e < 32) e es (omega (arith, few)) (all_few es h.1)

-- no component has its own
none_given : {X : Type 0} (i : ℕ) → given_for (by_component {X = Option X} (λ c. None)) i ≡ None
none_given zero = refl
none_given (suc zero) = refl
none_given (suc (suc zero)) = refl
none_given (suc (suc (suc zero))) = refl
none_given (suc (suc (suc (suc i)))) = refl

-- the main header can be written
pub main_written : (p : Picture) (q : Parameters) → IsPicture p → IsWrittenBy q p → IsWritten (main_for p q)
main_written p q is by =
    let five = by.levels in
    let count = exponents_long p q in
    record {
      siz = by.siz;
      cod = by.cod;
      qcd = record { guard = lit< tt; some = omega (arith, count); exponents = all_few (exponents_for p q) (exponents_small p q is by); few = omega (arith, five, count) };
      coc_places = refl;
      coc = (tt, (tt, (tt, (tt, tt))));
      coc_components = λ i le. none_given i;
      qcc_places = refl;
      qcc = (tt, (tt, (tt, (tt, tt))));
      qcc_components = λ i le. none_given i;
    }

-- and what is written is a main header
pub main_is : (p : Picture) (q : Parameters) → IsPicture p → IsWrittenBy q p → IsMain (siz_of p q) (segments_for p q)
main_is p q is by = is_main (main_for p q) (main_written p q is by)

-- the coding of each component
pub coding_said : (p : Picture) (q : Parameters) → IsWrittenBy q p → (c : ℕ) → coding_of (segments_for p q) [] c ≡ coding_in p q
coding_said p q by c =
    let five = by.levels in
    ap (λ (k : Quantisation). coding_with (cod_of q).style k) (steps_back (quantisation_for p q) (let count = exponents_long p q in omega (arith, five, count)))

same_from : (f : ℕ → Coding) (k : Coding) → ((c : ℕ) → f c ≡ k) → (a n : ℕ) → map f (range_with_len a n) ≡ replicate n k
same_from f k same a zero = refl
same_from f k same a (suc n) = ap (λ (x : Coding). x ∷ map f (range_with_len (a + 1) n)) (same a) ∙ ap (λ (xs : List Coding). k ∷ xs) (same_from f k same (a + 1) n)

pub codings_said : (p : Picture) (q : Parameters) → IsWrittenBy q p → (n : ℕ) → codings_of n (segments_for p q) [] ≡ replicate n (coding_in p q)
codings_said p q by n = same_from (coding_of (segments_for p q) []) (coding_in p q) (coding_said p q by) 0 n
