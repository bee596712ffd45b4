-- Precinct sizes, pair of digits by pair of digits.
use Rattle.std.proofs.Common.{◌≡◌, ℕ, suc, ◌+◌, ◌*◌, ◌<◌, List, [], ◌∷◌, ◌++◌, length, slice_index, drop, Result, Ok, Err, refl, ap, sym, ◌∙◌, append_assoc, arith, drop-cons}
use Rattle.std.proofs.lemmas.List.{drop_all}
use Rattle.jk_math.specs.Answer.{◌>>=◌}
use Rattle.jk_math.specs.declared.fault.Fault.{Fault}
use Rattle.jk_math.specs.declared.fault.Fault.TheVariants.{BadParameters}
use Rattle.jk_options.specs.Sizes.{digit_at, sizes_at}

-- sizes in front of others
abbrev pub behind : List (ℕ × ℕ) → Result (List (ℕ × ℕ)) Fault → Result (List (ℕ × ℕ)) Fault
behind done rest = rest >>= λ more. Ok (done ++ more)

pub behind_none : (rest : Result (List (ℕ × ℕ)) Fault) → behind [] rest ≡ rest
behind_none (Ok more) = refl
behind_none (Err e) = refl

behind_more : (done : List (ℕ × ℕ)) (s : ℕ × ℕ) (rest : Result (List (ℕ × ℕ)) Fault) → behind done (rest >>= λ sizes. Ok (s ∷ sizes)) ≡ behind (done ++ s ∷ []) rest
behind_more done s (Ok more) = ap (λ (xs : List (ℕ × ℕ)). let r : Result (List (ℕ × ℕ)) Fault = Ok xs in r) (sym (append_assoc done (s ∷ []) more))
behind_more done s (Err e) = refl

-- what follows two digits
abbrev after : Result ℕ Fault → Result ℕ Fault → Result (List (ℕ × ℕ)) Fault → Result (List (ℕ × ℕ)) Fault
after first second rest = (first >>= λ height. second >>= λ width. Ok (width, height)) >>= λ size. rest >>= λ sizes. Ok (size ∷ sizes)

sizes_after : (a b : ℕ) (rest : List ℕ) → sizes_at (a ∷ b ∷ rest) ≡ after (digit_at a) (digit_at b) (sizes_at rest)
unfolding sizes_at
sizes_after a b rest = refl

after_both : (x y : Result ℕ Fault) (h w : ℕ) (rest : Result (List (ℕ × ℕ)) Fault) → x ≡ Ok h → y ≡ Ok w → after x y rest ≡ (rest >>= λ sizes. Ok ((w, h) ∷ sizes))
after_both x y h w rest e f = ap (λ (r : Result ℕ Fault). after r y rest) e ∙ ap (λ (r : Result ℕ Fault). after (Ok h) r rest) f

after_first : (x y : Result ℕ Fault) (d : Fault) (rest : Result (List (ℕ × ℕ)) Fault) → x ≡ Err d → after x y rest ≡ Err d
after_first x y d rest e = ap (λ (r : Result ℕ Fault). after r y rest) e

after_second : (x y : Result ℕ Fault) (h : ℕ) (d : Fault) (rest : Result (List (ℕ × ℕ)) Fault) → x ≡ Ok h → y ≡ Err d → after x y rest ≡ Err d
after_second x y h d rest e f = ap (λ (r : Result ℕ Fault). after r y rest) e ∙ ap (λ (r : Result ℕ Fault). after (Ok h) r rest) f

-- the pair of digits at a place
pair_at : (s : List ℕ) (i : ℕ) → 2 * i + 1 < length s → drop (2 * i) s ≡ slice_index s (2 * i) ∷ slice_index s (2 * i + 1) ∷ drop (2 * (i + 1)) s
pair_at s i lt =
    let one : suc (2 * i) ≡ 2 * i + 1 = omega arith in
    let two : suc (2 * i + 1) ≡ 2 * (i + 1) = omega arith in
    drop-cons s (2 * i) 0 (omega arith)
    ∙ ap (λ (k : ℕ). slice_index s (2 * i) ∷ drop k s) one
    ∙ ap (λ (r : List ℕ). slice_index s (2 * i) ∷ r) (drop-cons s (2 * i + 1) 0 lt)
    ∙ ap (λ (k : ℕ). slice_index s (2 * i) ∷ slice_index s (2 * i + 1) ∷ drop k s) two

sizes_pair : (s : List ℕ) (i : ℕ) → 2 * i + 1 < length s
    → sizes_at (drop (2 * i) s) ≡ after (digit_at (slice_index s (2 * i))) (digit_at (slice_index s (2 * i + 1))) (sizes_at (drop (2 * (i + 1)) s))
sizes_pair s i lt = ap sizes_at (pair_at s i lt) ∙ sizes_after (slice_index s (2 * i)) (slice_index s (2 * i + 1)) (drop (2 * (i + 1)) s)

pub one_more : (done : List (ℕ × ℕ)) (s : List ℕ) (i h w : ℕ) → 2 * i + 1 < length s → digit_at (slice_index s (2 * i)) ≡ Ok h → digit_at (slice_index s (2 * i + 1)) ≡ Ok w
    → behind done (sizes_at (drop (2 * i) s)) ≡ behind (done ++ (w, h) ∷ []) (sizes_at (drop (2 * (i + 1)) s))
one_more done s i h w lt e f =
    ap (behind done) (sizes_pair s i lt ∙ after_both _ _ h w (sizes_at (drop (2 * (i + 1)) s)) e f)
    ∙ behind_more done (w, h) (sizes_at (drop (2 * (i + 1)) s))

pub first_bad : (s : List ℕ) (i : ℕ) (d : Fault) → 2 * i + 1 < length s → digit_at (slice_index s (2 * i)) ≡ Err d → sizes_at (drop (2 * i) s) ≡ Err d
first_bad s i d lt e = sizes_pair s i lt ∙ after_first _ _ d (sizes_at (drop (2 * (i + 1)) s)) e

pub second_bad : (s : List ℕ) (i h : ℕ) (d : Fault) → 2 * i + 1 < length s → digit_at (slice_index s (2 * i)) ≡ Ok h → digit_at (slice_index s (2 * i + 1)) ≡ Err d → sizes_at (drop (2 * i) s) ≡ Err d
second_bad s i h d lt e f = sizes_pair s i lt ∙ after_second _ _ h d (sizes_at (drop (2 * (i + 1)) s)) e f

-- the end of the text, with a digit left and without
one_left : (a : ℕ) → sizes_at (a ∷ []) ≡ Err BadParameters
unfolding sizes_at
one_left a = refl

none_left : sizes_at [] ≡ Ok []
unfolding sizes_at
none_left = refl

pub odd_end : (s : List ℕ) (i : ℕ) → 2 * i + 1 ≡ length s → sizes_at (drop (2 * i) s) ≡ Err BadParameters
odd_end s i e =
    ap sizes_at (drop-cons s (2 * i) 0 (omega arith) ∙ ap (λ (r : List ℕ). slice_index s (2 * i) ∷ r) (drop_all (suc (2 * i)) s (omega arith)))
    ∙ one_left (slice_index s (2 * i))

pub even_end : (s : List ℕ) (i : ℕ) → 2 * i ≡ length s → sizes_at (drop (2 * i) s) ≡ Ok []
even_end s i e = ap sizes_at (drop_all (2 * i) s (omega arith)) ∙ none_left
