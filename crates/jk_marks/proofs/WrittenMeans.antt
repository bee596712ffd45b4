-- A main header that is written is one, and says what it was written from; so is a tile-part.
use Rattle.std.proofs.Common.{◌≡◌, ℕ, zero, suc, ◌+◌, ◌*◌, ◌/◌, ◌<◌, ◌≤◌, ◌^◌, Bool, true, false, cond, eqb, List, [], ◌∷◌, ◌++◌, length, map, get_or, Option, None, Some, option_map, append_assoc, refl, ap, sym, ◌∙◌, subst, arith, inl, inr, lit≤, lit<}
use Rattle.std.specs.List.{flat_map, AllByRecursion}
use Rattle.std.proofs.lemmas.Bool.{cases_lt, ne_eqb}
use Rattle.std.proofs.lemmas.List.{take_all, length-map, map-append, append-nil}
use Rattle.std.proofs.lemmas.Grind.{flat_map-append}
use Rattle.jk_marks.specs.declared.siz.Siz.{Siz}
use Rattle.jk_marks.specs.declared.segments.Cod.{Cod}
use Rattle.jk_marks.specs.declared.segments.CodingStyle.{CodingStyle}
use Rattle.jk_marks.specs.declared.segments.Quantisation.{Quantisation}
use Rattle.jk_marks.specs.declared.head.Heading.TheVariants.{MainHeader}
use Rattle.jk_marks.specs.declared.main_header.Main.{Main}
use Rattle.jk_marks.specs.Siz.{tile_count}
use Rattle.jk_marks.specs.Segments.{Segment, StepSizes, IsSegment, IsStyle, IsQuantisation, AreSteps, cods, qcds, cocs_of, qccs_of, coding_in, quantisation_in, style_in, steps_in, quantisation_of, written_steps}
use Rattle.jk_marks.specs.Codestream.{first, by_component, given_for, own_style, own_steps, style_segments, step_segments, segments_of, main_of, only_part_of, ForGiven, IsWritten, IsMain, IsPart}
use Rattle.jk_marks.proofs.HeadOf.{four}

-- exponents come back from their bytes
exponents_back : (es : List ℕ) → map (λ b. b / 8) (map (λ e. 8 * e) es) ≡ es
exponents_back [] = refl
exponents_back (e ∷ es) = let same : 8 * e / 8 ≡ e = omega arith in ap (λ x. x ∷ map (λ b. b / 8) (map (λ e. 8 * e) es)) same ∙ ap (λ (x : List ℕ). e ∷ x) (exponents_back es)

-- and so does a quantization
pub steps_back : (q : Quantisation) → length q.exponents ≤ 31 → quantisation_of (written_steps q) ≡ q
steps_back q few =
    let es = q.exponents in
    let bytes = map (λ e. 8 * e) es in
    let short : length bytes ≤ 31 = omega (arith, few, length-map {B = ℕ} es (λ e. 8 * e)) in
    ap (λ (x : List ℕ). record { guard = q.guard; exponents = x }) (ap (λ (x : List ℕ). map (λ b. b / 8) x) (take_all 31 bytes short) ∙ exponents_back es)

-- ---- lists that may have one value

abbrev list_of : {X : Type 0} → Option X → List X
list_of None = []
list_of (Some x) = x ∷ []

first_list : {X : Type 0} (o : Option X) → first (list_of o ++ []) ≡ o
first_list None = refl
first_list (Some x) = refl

short_list : {X : Type 0} (o : Option X) → length (list_of o ++ []) ≤ 1
short_list None = lit≤ tt
short_list (Some x) = lit≤ tt

-- a fact of each component, and of those that there can't be
by_four : (P : ℕ → Type 0) → P 0 → P 1 → P 2 → P 3 → ((i : ℕ) → 4 ≤ i → P i) → (i : ℕ) → P i
by_four P p0 p1 p2 p3 more zero = p0
by_four P p0 p1 p2 p3 more (suc zero) = p1
by_four P p0 p1 p2 p3 more (suc (suc zero)) = p2
by_four P p0 p1 p2 p3 more (suc (suc (suc zero))) = p3
by_four P p0 p1 p2 p3 more (suc (suc (suc (suc i)))) = more (suc (suc (suc (suc i)))) (omega arith)

-- ---- what the segments of components say

style_here : (i j : ℕ) (o : Option CodingStyle) → cocs_of i (own_style j o) ≡ cond (eqb i j) (list_of o) []
style_here i j None = by (eqb i j)
  where
    by : (b : Bool) → (let none : List CodingStyle = [] in none ≡ cond b [] [])
    by true = refl
    by false = refl
style_here i j (Some k) = by (eqb i j)
  where
    by : (b : Bool) → cond b (k ∷ []) [] ++ [] ≡ cond b (k ∷ []) []
    by true = refl
    by false = refl

no_style : (i j : ℕ) (o : Option Quantisation) → cocs_of i (own_steps j o) ≡ []
no_style i j None = refl
no_style i j (Some q) = refl

steps_here : (i j : ℕ) (o : Option Quantisation) → map quantisation_of (qccs_of i (own_steps j o)) ≡ cond (eqb i j) (list_of (option_map (λ (q : Quantisation). quantisation_of (written_steps q)) o)) []
steps_here i j None = by (eqb i j)
  where
    by : (b : Bool) → (let none : List Quantisation = [] in none ≡ cond b [] [])
    by true = refl
    by false = refl
steps_here i j (Some q) = by (eqb i j)
  where
    by : (b : Bool) → map quantisation_of (cond b (written_steps q ∷ []) [] ++ []) ≡ cond b (quantisation_of (written_steps q) ∷ []) []
    by true = refl
    by false = refl

no_steps : (i j : ℕ) (o : Option CodingStyle) → qccs_of i (own_style j o) ≡ []
no_steps i j None = refl
no_steps i j (Some k) = refl

no_coding_style : (j : ℕ) (o : Option CodingStyle) → cods (own_style j o) ≡ []
no_coding_style j None = refl
no_coding_style j (Some k) = refl

no_coding_steps : (j : ℕ) (o : Option Quantisation) → cods (own_steps j o) ≡ []
no_coding_steps j None = refl
no_coding_steps j (Some q) = refl

no_default_style : (j : ℕ) (o : Option CodingStyle) → qcds (own_style j o) ≡ []
no_default_style j None = refl
no_default_style j (Some k) = refl

no_default_steps : (j : ℕ) (o : Option Quantisation) → qcds (own_steps j o) ≡ []
no_default_steps j None = refl
no_default_steps j (Some q) = refl

-- over four pieces and four more
spread : {X : Type 0} (f : Segment → List X) (a b c d e g h k : List Segment)
    → flat_map f ((a ++ (b ++ (c ++ d))) ++ (e ++ (g ++ (h ++ k))))
    ≡ (flat_map f a ++ (flat_map f b ++ (flat_map f c ++ flat_map f d))) ++ (flat_map f e ++ (flat_map f g ++ (flat_map f h ++ flat_map f k)))
spread f a b c d e g h k = simp flat_map-append

joined : {X : Type 0} (a b c d : List X) → (a ++ (b ++ (c ++ d))) ++ [] ≡ a ++ (b ++ (c ++ (d ++ [])))
joined a b c d = simp append_assoc

mapped : {X Y : Type 0} (f : X → Y) (a b c d : List X) → map f (a ++ (b ++ (c ++ d))) ≡ map f a ++ (map f b ++ (map f c ++ (map f d ++ [])))
mapped f a b c d = simp (map-append, append-nil)

-- the segments of components
abbrev own_segments : Main → List Segment
own_segments m = style_segments m ++ step_segments m

own_codings : (m : Main) → cods (own_segments m) ≡ []
own_codings m =
    let at = given_for m.coc in
    let to = given_for m.qcc in
    spread coding_in (own_style 0 (at 0)) (own_style 1 (at 1)) (own_style 2 (at 2)) (own_style 3 (at 3)) (own_steps 0 (to 0)) (own_steps 1 (to 1)) (own_steps 2 (to 2)) (own_steps 3 (to 3))
    ∙ rw (no_coding_style 0 (at 0), no_coding_style 1 (at 1), no_coding_style 2 (at 2), no_coding_style 3 (at 3), no_coding_steps 0 (to 0), no_coding_steps 1 (to 1), no_coding_steps 2 (to 2), no_coding_steps 3 (to 3)) refl

own_defaults : (m : Main) → qcds (own_segments m) ≡ []
own_defaults m =
    let at = given_for m.coc in
    let to = given_for m.qcc in
    spread quantisation_in (own_style 0 (at 0)) (own_style 1 (at 1)) (own_style 2 (at 2)) (own_style 3 (at 3)) (own_steps 0 (to 0)) (own_steps 1 (to 1)) (own_steps 2 (to 2)) (own_steps 3 (to 3))
    ∙ rw (no_default_style 0 (at 0), no_default_style 1 (at 1), no_default_style 2 (at 2), no_default_style 3 (at 3), no_default_steps 0 (to 0), no_default_steps 1 (to 1), no_default_steps 2 (to 2), no_default_steps 3 (to 3)) refl

-- of four values, that of component i
abbrev chosen_of : {X : Type 0} → ℕ → (ℕ → Option X) → List X
chosen_of i at = cond (eqb i 0) (list_of (at 0)) [] ++ (cond (eqb i 1) (list_of (at 1)) [] ++ (cond (eqb i 2) (list_of (at 2)) [] ++ (cond (eqb i 3) (list_of (at 3)) [] ++ [])))

beyond : {X : Type 0} (i : ℕ) (at : ℕ → Option X) → 4 ≤ i → chosen_of i at ≡ []
beyond i at le =
    let e0 : eqb i 0 ≡ false = ne_eqb i 0 (omega (arith, le)) in
    let e1 : eqb i 1 ≡ false = ne_eqb i 1 (omega (arith, le)) in
    let e2 : eqb i 2 ≡ false = ne_eqb i 2 (omega (arith, le)) in
    let e3 : eqb i 3 ≡ false = ne_eqb i 3 (omega (arith, le)) in
    rw (e0, e1, e2, e3) refl

one_chosen : {X : Type 0} (at : ℕ → Option X) (i : ℕ) → length (chosen_of i at) ≤ 1
one_chosen {X} at = by_four (λ i. length (chosen_of i at) ≤ 1) (short_list (at 0)) (short_list (at 1)) (short_list (at 2)) (short_list (at 3))
    (λ i le. subst (λ (xs : List X). length xs ≤ 1) (sym (beyond i at le)) (lit≤ tt))

own_styles : (m : Main) (i : ℕ) → cocs_of i (own_segments m) ≡ chosen_of i (given_for m.coc)
own_styles m i =
    let at = given_for m.coc in
    let to = given_for m.qcc in
    spread (style_in i) (own_style 0 (at 0)) (own_style 1 (at 1)) (own_style 2 (at 2)) (own_style 3 (at 3)) (own_steps 0 (to 0)) (own_steps 1 (to 1)) (own_steps 2 (to 2)) (own_steps 3 (to 3))
    ∙ rw (style_here i 0 (at 0), style_here i 1 (at 1), style_here i 2 (at 2), style_here i 3 (at 3), no_style i 0 (to 0), no_style i 1 (to 1), no_style i 2 (to 2), no_style i 3 (to 3))
    (joined (cond (eqb i 0) (list_of (at 0)) []) (cond (eqb i 1) (list_of (at 1)) []) (cond (eqb i 2) (list_of (at 2)) []) (cond (eqb i 3) (list_of (at 3)) []))

-- what a component's quantization says, once it was written
abbrev said : (ℕ → Option Quantisation) → ℕ → Option Quantisation
said to i = option_map (λ (q : Quantisation). quantisation_of (written_steps q)) (to i)

own_quantisations : (m : Main) (i : ℕ) → map quantisation_of (qccs_of i (own_segments m)) ≡ chosen_of i (said (given_for m.qcc))
own_quantisations m i =
    let at = given_for m.coc in
    let to = given_for m.qcc in
    let f : StepSizes → Quantisation = quantisation_of in
    let a0 = qccs_of i (own_steps 0 (to 0)) in
    let a1 = qccs_of i (own_steps 1 (to 1)) in
    let a2 = qccs_of i (own_steps 2 (to 2)) in
    let a3 = qccs_of i (own_steps 3 (to 3)) in
    ap (λ (x : List StepSizes). map f x) (spread (steps_in i) (own_style 0 (at 0)) (own_style 1 (at 1)) (own_style 2 (at 2)) (own_style 3 (at 3)) (own_steps 0 (to 0)) (own_steps 1 (to 1)) (own_steps 2 (to 2)) (own_steps 3 (to 3))
    ∙ rw (no_steps i 0 (at 0), no_steps i 1 (at 1), no_steps i 2 (at 2), no_steps i 3 (at 3)) refl)
    ∙ mapped f a0 a1 a2 a3
    ∙ rw (steps_here i 0 (to 0), steps_here i 1 (to 1), steps_here i 2 (to 2), steps_here i 3 (to 3)) refl

-- ---- the main header

four_first : {X : Type 0} (xs : List (Option X)) → length xs ≡ 4 → by_component (λ i. first (chosen_of i (given_for xs))) ≡ xs
four_first {X} xs long =
    let at = given_for xs in
    rw (first_list (at 0), first_list (at 1), first_list (at 2), first_list (at 3)) (sym (four None xs long))

same_four : {X : Type 0} (f g : ℕ → X) → ((i : ℕ) → f i ≡ g i) → by_component f ≡ by_component g
same_four f g e = rw (e 0, e 1, e 2, e 3) refl

given_all : {X : Type 0} (P : X → Type 0) (xs : List (Option X)) → AllByRecursion (ForGiven P) xs → (i : ℕ) → ForGiven P (get_or xs i None)
given_all P [] h i = tt
given_all P (x ∷ xs) h zero = h.0
given_all P (x ∷ xs) h (suc i) = given_all P xs h.1 i

said_back : (o : Option Quantisation) → ForGiven IsQuantisation o → option_map (λ (q : Quantisation). quantisation_of (written_steps q)) o ≡ o
said_back None h = refl
said_back (Some q) h = ap (λ (x : Quantisation). Some x) (steps_back q h.few)

both_all : (P : Segment → Type 0) (xs ys : List Segment) → AllByRecursion P xs → AllByRecursion P ys → AllByRecursion P (xs ++ ys)
both_all P [] ys h g = g
both_all P (x ∷ xs) ys h g = (h.0, both_all P xs ys h.1 g)

steps_are : (q : Quantisation) → IsQuantisation q → AreSteps (written_steps q) × (4 + length (written_steps q).bytes < 2 ^ 16)
steps_are q is =
    let count : length (map (λ e. 8 * e) q.exponents) ≡ length q.exponents = length-map {B = ℕ} q.exponents (λ e. 8 * e) in
    let some = is.some in
    let few = is.few in
    (record { guard = is.guard; some = omega (arith, count, some) }, omega (arith, count, few))

style_fits : (n i : ℕ) (o : Option CodingStyle) → (n ≤ i → o ≡ None) → ForGiven IsStyle o → AllByRecursion (IsSegment MainHeader n) (own_style i o)
style_fits n i None none is = tt
style_fits n i (Some k) none is = elim (cases_lt i n) [
  | inl lt ↦ ((refl, lt, is), tt)
  | inr ge ↦ absurd (let e = none ge in cc)
]

steps_fit : (n i : ℕ) (o : Option Quantisation) → (n ≤ i → o ≡ None) → ForGiven IsQuantisation o → AllByRecursion (IsSegment MainHeader n) (own_steps i o)
steps_fit n i None none is = tt
steps_fit n i (Some q) none is = elim (cases_lt i n) [
  | inl lt ↦ (let s = steps_are q is in ((refl, lt, s.0, s.1), tt))
  | inr ge ↦ absurd (let e = none ge in cc)
]

own_fit : (m : Main) → IsWritten m → AllByRecursion (IsSegment MainHeader m.siz.components) (own_segments m)
own_fit m is =
    let n = m.siz.components in
    let P = IsSegment MainHeader n in
    let a = λ (i : ℕ). style_fits n i (given_for m.coc i) (is.coc_components i) (given_all IsStyle m.coc is.coc i) in
    let b = λ (i : ℕ). steps_fit n i (given_for m.qcc i) (is.qcc_components i) (given_all IsQuantisation m.qcc is.qcc i) in
    both_all P (style_segments m) (step_segments m)
    (both_all P _ _ (a 0) (both_all P _ _ (a 1) (both_all P _ _ (a 2) (a 3))))
    (both_all P _ _ (b 0) (both_all P _ _ (b 1) (both_all P _ _ (b 2) (b 3))))

-- What is written is a main header.
pub main_written : (m : Main) → IsWritten m → IsMain m.siz (segments_of m)
main_written m is =
    let steps = steps_are m.qcd is.qcd in
    let short = steps.1 in
    let codings_is : cods (segments_of m) ≡ m.cod ∷ [] = ap (λ (x : List Cod). m.cod ∷ x) (own_codings m) in
    let defaults_is : qcds (segments_of m) ≡ written_steps m.qcd ∷ [] = ap (λ (x : List StepSizes). written_steps m.qcd ∷ x) (own_defaults m) in
    let one : length (cods (segments_of m)) ≡ 1 = ap (λ (x : List Cod). length x) codings_is in
    let one_default : length (qcds (segments_of m)) ≡ 1 = ap (λ (x : List StepSizes). length x) defaults_is in
    record {
      size = is.siz;
      well_formed = record {
        each = ((refl, is.cod), ((refl, steps.0, omega (arith, short)), own_fit m is));
        one_coding = omega (arith, one);
        one_quantisation = omega (arith, one_default);
        one_style = λ i. subst (λ (xs : List CodingStyle). length xs ≤ 1) (sym (own_styles m i)) (one_chosen (given_for m.coc) i);
        one_steps = λ i. (let few = subst (λ (xs : List Quantisation). length xs ≤ 1) (sym (own_quantisations m i)) (one_chosen (said (given_for m.qcc)) i) in
            let count = length-map {B = Quantisation} (qccs_of i (own_segments m)) quantisation_of in
            omega (arith, few, count));
      };
      one_coding = one;
      one_quantisation = one_default;
    }

-- And it says what it was written from.
pub main_says : (m : Main) → IsWritten m → main_of m.siz (segments_of m) ≡ m
main_says m is =
    let to = given_for m.qcc in
    let qcd = steps_back m.qcd is.qcd.few in
    let styles : by_component (λ i. first (cocs_of i (own_segments m))) ≡ m.coc =
    same_four (λ i. first (cocs_of i (own_segments m))) (λ i. first (chosen_of i (given_for m.coc))) (λ i. ap (λ (xs : List CodingStyle). first xs) (own_styles m i)) ∙ four_first m.coc is.coc_places in
    let back : (i : ℕ) → chosen_of i (said to) ≡ chosen_of i to = λ i.
    (let e = λ (j : ℕ). said_back (to j) (given_all IsQuantisation m.qcc is.qcc j) in rw (e 0, e 1, e 2, e 3) refl) in
    let steps : by_component (λ i. first (map quantisation_of (qccs_of i (own_segments m)))) ≡ m.qcc =
    same_four (λ i. first (map quantisation_of (qccs_of i (own_segments m)))) (λ i. first (chosen_of i to)) (λ i. ap (λ (xs : List Quantisation). first xs) (own_quantisations m i ∙ back i)) ∙ four_first m.qcc is.qcc_places in
    ap (λ (x : Quantisation). record { siz = m.siz; cod = m.cod; qcd = x; coc = by_component (λ i. first (cocs_of i (own_segments m))); qcc = by_component (λ i. first (map quantisation_of (qccs_of i (own_segments m)))) }) qcd
    ∙ ap (λ (x : List (Option CodingStyle)). record { siz = m.siz; cod = m.cod; qcd = m.qcd; coc = x; qcc = by_component (λ i. first (map quantisation_of (qccs_of i (own_segments m)))) }) styles
    ∙ ap (λ (x : List (Option Quantisation)). record { siz = m.siz; cod = m.cod; qcd = m.qcd; coc = m.coc; qcc = x }) steps

-- The only part of a tile is a part of each image that has the tile.
pub part_written : (siz : Siz) (tile : ℕ) (content : List ℕ) → tile < 2 ^ 16 → 14 + length content < 2 ^ 32 → tile < tile_count siz → IsPart siz (only_part_of tile content)
part_written siz tile content narrow fits lt = record {
  tile = lt;
  narrow = narrow;
  number = lit≤ tt;
  total = lit< tt;
  fits = omega (arith, fits);
  well_formed = record { each = tt; one_coding = lit≤ tt; one_quantisation = lit≤ tt; one_style = λ i. lit≤ tt; one_steps = λ i. lit≤ tt };
}
