-- The coding by the segments, and the coding by what the program keeps of them.
use Rattle.std.proofs.Common.{◌≡◌, ℕ, zero, suc, ◌+◌, ◌<◌, ◌≤◌, false, ◌||◌, ltb, List, [], ◌∷◌, ◌++◌, length, map, Option, None, Some, Ok, refl, sym, ap, subst, ◌∙◌, arith}
use Rattle.std.specs.Prelude.{option_map}
use Rattle.std.specs.List.{list_any, AllByRecursion}
use Rattle.std.proofs.lemmas.Bool.{ltb-false, le-ltb, or_parts, or_from}
use Rattle.std.proofs.lemmas.List.{map-append, length-take}
use Rattle.jk_math.specs.Steps.{refuse_then, ok_is}
use Rattle.jk_math.specs.declared.fault.Fault.TheVariants.{BadValue, Limit}
use Rattle.jk_marks.specs.declared.coding.Coding.{Coding}
use Rattle.jk_marks.specs.declared.segments.Cod.{Cod}
use Rattle.jk_marks.specs.declared.segments.CodingStyle.{CodingStyle}
use Rattle.jk_marks.specs.declared.segments.Quantisation.{Quantisation}
use Rattle.jk_marks.specs.declared.siz.Siz.{Siz}
use Rattle.jk_marks.specs.declared.head.TileHead.{TileHead}
use Rattle.jk_marks.specs.declared.main_header.Main.{Main}
use Rattle.jk_marks.specs.Segments.{Segment, cods, qcds, cocs_of, qccs_of, quantisation_of}
use Rattle.jk_marks.specs.Codestream.{first, by_component, given_for, head_of, main_of, or_else, no_coding, no_quantisation}
use Rattle.jk_params.specs.Coding.{style_for, quantisation_for, band_count, coding_with, coding_of, HasPlanes}
use Rattle.jk_params.specs.CodingReading.{style_in, quantisation_in, planes_at}

few_planes : (guard : ℕ) (es : List ℕ) → list_any (λ e. ltb (guard + e) 1) es ≡ false → list_any (λ e. ltb 24 (guard + e)) es ≡ false → AllByRecursion (λ e. (1 ≤ guard + e) × (guard + e ≤ 24)) es
few_planes guard [] e f = tt
few_planes guard (x ∷ es) e f =
    let low = or_parts (ltb (guard + x) 1) (list_any (λ e. ltb (guard + e) 1) es) e in
    let high = or_parts (ltb 24 (guard + x)) (list_any (λ e. ltb 24 (guard + e)) es) f in
    ((ltb-false _ _ low.0, ltb-false _ _ high.0), few_planes guard es low.1 high.1)

planes_few : (guard : ℕ) (es : List ℕ) → AllByRecursion (λ e. (1 ≤ guard + e) × (guard + e ≤ 24)) es → (list_any (λ e. ltb (guard + e) 1) es ≡ false) × (list_any (λ e. ltb 24 (guard + e)) es ≡ false)
planes_few guard [] h = (refl, refl)
planes_few guard (x ∷ es) h =
    let rest = planes_few guard es h.1 in
    (or_from _ _ (le-ltb _ _ h.0.0) rest.0, or_from _ _ (le-ltb _ _ h.0.1) rest.1)

-- what is judged is the coding itself, and has magnitude planes where it has no more exponents than sub-bands
pub planes_found : (k r : Coding) → length k.exponents ≤ band_count k.levels → planes_at k ≡ Ok r → (r ≡ k) × HasPlanes r
unfolding planes_at
planes_found k r short e =
    refuse_then (ltb (length k.exponents) (band_count k.levels) || list_any (λ e. ltb (k.guard + e) 1) k.exponents) BadValue _ r e (λ some e.
    refuse_then (list_any (λ e. ltb 24 (k.guard + e)) k.exponents) Limit _ r e (λ few e.
    let parts = or_parts (ltb (length k.exponents) (band_count k.levels)) (list_any (λ e. ltb (k.guard + e) 1) k.exponents) some in
    let long = ltb-false _ _ parts.0 in
    let has : HasPlanes k = record { count = omega (arith, long, short); planes = few_planes k.guard k.exponents parts.1 few } in
    let same = ok_is k r e in
    (sym same, subst HasPlanes same has)))

pub planes_again : (k : Coding) → HasPlanes k → planes_at k ≡ Ok k
unfolding planes_at
planes_again k has =
    let count = has.count in
    let both = planes_few k.guard k.exponents has.planes in
    let long : ltb (length k.exponents) (band_count k.levels) ≡ false = le-ltb _ _ (omega (arith, count)) in
    rw (long, both.0, both.1) refl

pub few_exponents : (k : CodingStyle) (q : Quantisation) → length (coding_with k q).exponents ≤ band_count (coding_with k q).levels
few_exponents k q = omega (arith, length-take (band_count k.levels) q.exponents)

-- the first of joined lists
first_joined : {X : Type 0} (d : X) (xs ys : List X) → or_else d (first (xs ++ ys)) ≡ or_else (or_else d (first ys)) (first xs)
first_joined d [] ys = refl
first_joined d (x ∷ xs) ys = refl

first_mapped : {X Y : Type 0} (f : X → Y) (xs : List X) → first (map f xs) ≡ option_map f (first xs)
first_mapped f [] = refl
first_mapped f (x ∷ xs) = refl

given_at : {X : Type 0} (f : ℕ → Option X) (i : ℕ) → i < 4 → given_for (by_component f) i ≡ f i
given_at f zero lt = refl
given_at f (suc zero) lt = refl
given_at f (suc (suc zero)) lt = refl
given_at f (suc (suc (suc zero))) lt = refl
given_at f (suc (suc (suc (suc i)))) lt = absurd (omega (arith, lt))

or_mapped : {X Y : Type 0} (f : X → Y) (d : X) (o : Option X) → f (or_else d o) ≡ or_else (f d) (option_map f o)
or_mapped f d None = refl
or_mapped f d (Some x) = refl

style_same : (s : Siz) (main tile : List Segment) (i : ℕ) → i < 4 → style_in (main_of s main) (head_of tile) i ≡ style_for main tile i
style_same s main tile i lt =
    let f : Cod → CodingStyle = λ c. c.style in
    let a = cocs_of i tile in
    let b = map f (cods tile) in
    let c = cocs_of i main in
    let d = map f (cods main) in
    let z = no_coding.style in
    let split : or_else z (first (a ++ (b ++ (c ++ d)))) ≡ or_else (or_else (or_else (or_else z (first d)) (first c)) (first b)) (first a) =
    first_joined z a (b ++ (c ++ d)) ∙ ap (λ x. or_else x (first a)) (first_joined z b (c ++ d) ∙ ap (λ x. or_else x (first b)) (first_joined z c d)) in
    let e1 : (or_else no_coding (first (cods main))).style ≡ or_else z (first d) = or_mapped f no_coding (first (cods main)) ∙ ap (or_else z) (sym (first_mapped f (cods main))) in
    let e2 : given_for (main_of s main).coc i ≡ first c = given_at (λ j. first (cocs_of j main)) i lt in
    let e3 : option_map f (first (cods tile)) ≡ first b = sym (first_mapped f (cods tile)) in
    let e4 : given_for (head_of tile).coc i ≡ first a = given_at (λ j. first (cocs_of j tile)) i lt in
    rw (e1, e2, e3, e4) (sym split)

steps_same : (s : Siz) (main tile : List Segment) (i : ℕ) → i < 4 → quantisation_in (main_of s main) (head_of tile) i ≡ quantisation_for main tile i
steps_same s main tile i lt =
    let f = quantisation_of in
    let a = qccs_of i tile in
    let b = qcds tile in
    let c = qccs_of i main in
    let d = qcds main in
    let z = no_quantisation in
    let m1 : map f (a ++ (b ++ (c ++ d))) ≡ map f a ++ (map f b ++ (map f c ++ map f d)) =
    map-append f a (b ++ (c ++ d)) ∙ ap (λ (x : List Quantisation). map f a ++ x) (map-append f b (c ++ d) ∙ ap (λ (x : List Quantisation). map f b ++ x) (map-append f c d)) in
    let split : or_else z (first (map f a ++ (map f b ++ (map f c ++ map f d)))) ≡ or_else (or_else (or_else (or_else z (first (map f d))) (first (map f c))) (first (map f b))) (first (map f a)) =
    first_joined z (map f a) (map f b ++ (map f c ++ map f d)) ∙ ap (λ x. or_else x (first (map f a))) (first_joined z (map f b) (map f c ++ map f d) ∙ ap (λ x. or_else x (first (map f b))) (first_joined z (map f c) (map f d))) in
    let e2 : given_for (main_of s main).qcc i ≡ first (map f c) = given_at (λ j. first (map f (qccs_of j main))) i lt in
    let e4 : given_for (head_of tile).qcc i ≡ first (map f a) = given_at (λ j. first (map f (qccs_of j tile))) i lt in
    rw (e2, e4) (sym (ap (λ (x : List Quantisation). or_else z (first x)) m1 ∙ split))

-- the coding of what is kept is the coding by the segments
pub coding_same : (s : Siz) (main tile : List Segment) (m : Main) (h : TileHead) (i : ℕ) → i < 4 → m ≡ main_of s main → h ≡ head_of tile
    → coding_with (style_in m h i) (quantisation_in m h i) ≡ coding_of main tile i
coding_same s main tile m h i lt em eh =
    ap (λ (x : Main). coding_with (style_in x h i) (quantisation_in x h i)) em ∙ ap (λ (x : TileHead). coding_with (style_in (main_of s main) x i) (quantisation_in (main_of s main) x i)) eh
    ∙ ap (λ (k : CodingStyle). coding_with k (quantisation_in (main_of s main) (head_of tile) i)) (style_same s main tile i lt)
    ∙ ap (λ (q : Quantisation). coding_with (style_for main tile i) q) (steps_same s main tile i lt)

-- what is judged of a style and a quantization
pub judged_has : (s : CodingStyle) (q : Quantisation) (k r : Coding) → k ≡ coding_with s q → planes_at k ≡ Ok r → (r ≡ coding_with s q) × HasPlanes r
judged_has s q k r k-is e =
    let g = planes_found (coding_with s q) r (few_exponents s q) (ap planes_at (sym k-is) ∙ e) in (g.0, g.1)
