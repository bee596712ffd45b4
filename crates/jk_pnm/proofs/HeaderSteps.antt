-- The loops over gaps and digits, one step at a time.
use Rattle.std.proofs.Common.{◌≡◌, ℕ, suc, ◌+◌, ◌-◌, ◌*◌, ◌^◌, ◌<◌, ◌≤◌, Bool, true, false, not, eqb, leb, ◌&&◌, List, [], ◌∷◌, Result, length, get_or, drop, Ok, Err, refl, sym, ap, ◌∙◌, drop-cons, add-one, arith}
use Rattle.std.proofs.lemmas.Bool.{le-leb, lt-leb, and_from, and_left, and_right}
use Rattle.std.proofs.Math.ListN.{drop_of_length-le}
use Rattle.std.specs.Char.{is_ascii_digit}
use Rattle.std.specs.List.{find, range_with_len}
use Rattle.jk_math.specs.declared.fault.Fault.{Fault}
use Rattle.jk_math.specs.declared.fault.Fault.TheVariants.{BadPnm}
use Rattle.jk_pnm.specs.Pnm.{is_space, is_line_end}
use Rattle.jk_pnm.specs.Reading.{after_gap, digits_at, or_bad, depth_at}

-- the byte at i, and what follows it
cut : (bytes : List ℕ) (i : ℕ) → i < length bytes → drop i bytes ≡ get_or bytes i 0 ∷ drop (i + 1) bytes
cut bytes i lt = drop-cons bytes i 0 lt ∙ ap (λ k. get_or bytes i 0 ∷ drop k bytes) (sym (add-one i))

pub gap_in_comment : (bytes : List ℕ) (i : ℕ) → i < length bytes → after_gap true (drop i bytes) ≡ after_gap (not (is_line_end (get_or bytes i 0))) (drop (i + 1) bytes)
unfolding after_gap
gap_in_comment bytes i lt = rw (cut bytes i lt) refl

pub gap_comment : (bytes : List ℕ) (i : ℕ) → i < length bytes → get_or bytes i 0 ≡ 35 → after_gap false (drop i bytes) ≡ after_gap true (drop (i + 1) bytes)
unfolding after_gap
gap_comment bytes i lt e = rw (cut bytes i lt, e) refl

pub gap_space : (bytes : List ℕ) (i : ℕ) → i < length bytes → eqb (get_or bytes i 0) 35 ≡ false → is_space (get_or bytes i 0) ≡ true → after_gap false (drop i bytes) ≡ after_gap false (drop (i + 1) bytes)
unfolding after_gap
gap_space bytes i lt other space = rw (cut bytes i lt, other, space) refl

pub gap_stops : (bytes : List ℕ) (i : ℕ) → i < length bytes → eqb (get_or bytes i 0) 35 ≡ false → is_space (get_or bytes i 0) ≡ false → after_gap false (drop i bytes) ≡ Ok (drop i bytes)
unfolding after_gap
gap_stops bytes i lt other stops = rw (cut bytes i lt, other, stops) refl

pub gap_ends : (comment : Bool) (bytes : List ℕ) (i : ℕ) → length bytes ≤ i → after_gap comment (drop i bytes) ≡ Err BadPnm
unfolding after_gap
gap_ends true bytes i le = let none : drop i bytes ≡ [] = drop_of_length-le bytes le in rw none refl
gap_ends false bytes i le = let none : drop i bytes ≡ [] = drop_of_length-le bytes le in rw none refl

pub digits_more : (bytes : List ℕ) (i n : ℕ) → i < length bytes → is_ascii_digit (get_or bytes i 0) ≡ true → n ≤ 2 ^ 28
    → digits_at n (drop i bytes) ≡ digits_at (10 * n + (get_or bytes i 0 - 48)) (drop (i + 1) bytes)
unfolding digits_at
digits_more bytes i n lt digit few =
    let goes : is_ascii_digit (get_or bytes i 0) && leb n (2 ^ 28) ≡ true = and_from _ _ digit (le-leb n (2 ^ 28) few) in
    rw (cut bytes i lt, goes) refl

pub digits_stop : (bytes : List ℕ) (i n : ℕ) → i < length bytes → is_ascii_digit (get_or bytes i 0) ≡ false → digits_at n (drop i bytes) ≡ (n, drop i bytes)
unfolding digits_at
digits_stop bytes i n lt digit =
    let stops : is_ascii_digit (get_or bytes i 0) && leb n (2 ^ 28) ≡ false = and_left _ _ digit in
    rw (cut bytes i lt, stops) refl

pub digits_past : (bytes : List ℕ) (i n : ℕ) → i < length bytes → 2 ^ 28 < n → digits_at n (drop i bytes) ≡ (n, drop i bytes)
unfolding digits_at
digits_past bytes i n lt many =
    let stops : is_ascii_digit (get_or bytes i 0) && leb n (2 ^ 28) ≡ false = and_right _ _ (lt-leb n (2 ^ 28) many) in
    rw (cut bytes i lt, stops) refl

pub digits_end : (bytes : List ℕ) (i n : ℕ) → length bytes ≤ i → digits_at n (drop i bytes) ≡ (n, drop i bytes)
unfolding digits_at
digits_end bytes i n le =
    let none : drop i bytes ≡ [] = drop_of_length-le bytes le in
    rw none refl

-- whether the greatest number of so many bits is maxval
abbrev is_depth : ℕ → ℕ → Bool
is_depth maxval depth = eqb (2 ^ depth) (maxval + 1)

-- the depth, from d on
pub depth_from : ℕ → ℕ → Result ℕ Fault
depth_from maxval d = or_bad (find (is_depth maxval) (range_with_len d (17 - d)))

pub depth_starts : (maxval : ℕ) → depth_from maxval 1 ≡ depth_at maxval
unfolding depth_from depth_at
depth_starts maxval = refl

depth_cut : (maxval d : ℕ) → d < 17 → find (is_depth maxval) (range_with_len d (17 - d)) ≡ find (is_depth maxval) (d ∷ range_with_len (d + 1) (17 - (d + 1)))
depth_cut maxval d lt =
    let one : 17 - d ≡ suc (17 - (d + 1)) = omega arith in
    ap (λ k. find (is_depth maxval) (range_with_len d k)) one

pub depth_more : (maxval d : ℕ) → d < 17 → eqb (2 ^ d) (maxval + 1) ≡ false → depth_from maxval d ≡ depth_from maxval (d + 1)
unfolding depth_from
depth_more maxval d lt other = ap or_bad (depth_cut maxval d lt ∙ rw other refl)

pub depth_met : (maxval d : ℕ) → d < 17 → eqb (2 ^ d) (maxval + 1) ≡ true → depth_from maxval d ≡ Ok d
unfolding depth_from
depth_met maxval d lt met = ap or_bad (depth_cut maxval d lt) ∙ rw met refl

pub depth_none : (maxval d : ℕ) → 17 ≤ d → depth_from maxval d ≡ Err BadPnm
unfolding depth_from
depth_none maxval d le = let none : 17 - d ≡ 0 = omega arith in ap (λ k. or_bad (find (is_depth maxval) (range_with_len d k))) none
