-- Two columns at once: the table, the bytes, and what is told.
use Rattle.std.proofs.Common.{◌≡◌, ℕ, zero, suc, ◌+◌, ◌-◌, ◌*◌, ◌/◌, ◌%◌, ◌^◌, ◌<◌, ◌≤◌, Bool, true, false, cond, List, [], ◌∷◌, ◌++◌, length, map, get_or, refl, sym, ap, ◌∙◌, subst, inl, inr, append_assoc, append-nil, arith}
use Rattle.std.specs.Int.RustNames.{count_ones}
use Rattle.std.specs.List.{range_with_len}
use Rattle.std.specs.Simd.Lanes.{all_below, number_l, digits_l}
use Rattle.std.proofs.Math.Dec.{T, leb, eqb}
use Rattle.std.proofs.Math.ListN.{get_or-append}
use Rattle.std.proofs.lemmas.Bool.{agree_below, agree_below_at, leb-true, cases_lt}
use Rattle.std.proofs.lemmas.Bool.Decides.{nat_tests}
use Rattle.std.proofs.lemmas.List.{get_or-append-add, map-append}
use Rattle.std.proofs.lemmas.List.FromFn.{get_or-map-range_with_len}
use Rattle.std.proofs.lemmas.Simd.{get_or_narrower}
use Rattle.jk_scan.specs.Bits.{on}
use Rattle.jk_scan.specs.WordNumbers.{byte_of, byte_at}
use Rattle.jk_columns.specs.declared.pairs.TheConstants.{PAIRS}
use Rattle.jk_columns.specs.Columns.{chained, AreBytes}
use Rattle.jk_columns.specs.Pairs.{pair_place, pair_places, pair_shuffle_of, pair_count_of, pair_shuffles, pair_bytes, member_bytes, IsPairIndex}
use Rattle.jk_columns.proofs.Turned.{powers, length_digits, digits_are, word_byte}

all_pairs : PAIRS ≡ pair_shuffles
unfolding on chained pair_place pair_places pair_shuffle_of pair_shuffles
all_pairs = refl

pub pair_entry : (i : ℕ) → i < 256 → get_or PAIRS i [] ≡ pair_shuffle_of i
unfolding pair_shuffles
pair_entry i h =
    ap (λ (rows : List (List ℕ)). get_or rows i []) all_pairs ∙ get_or-map-range_with_len pair_shuffle_of 0 256 i i [] h (omega arith)

all_counted : agree_below (λ i. eqb (count_ones i) (length (pair_places i))) (λ i. true) 256 ≡ true
unfolding on chained pair_place pair_places count_ones
all_counted = refl

same_from : (a b : ℕ) → eqb a b ≡ true → a ≡ b
same_from a b e = grind (arith, nat_tests)

pub pair_counted : (i : ℕ) → i < 256 → count_ones i ≡ pair_count_of i
unfolding pair_count_of
pair_counted i h = same_from (count_ones i) (length (pair_places i)) (agree_below_at (λ i. eqb (count_ones i) (length (pair_places i))) (λ i. true) 256 i all_counted h)

all_within : agree_below (λ i. all_below 8 (pair_places i)) (λ i. true) 256 ≡ true
unfolding on chained pair_place pair_places
all_within = refl

all_short : agree_below (λ i. leb (length (pair_places i)) 8) (λ i. true) 256 ≡ true
unfolding on chained pair_place pair_places
all_short = refl

pub pair_within : (i : ℕ) → i < 256 → T (all_below 8 (pair_places i))
pair_within i h = subst T (sym (agree_below_at (λ i. all_below 8 (pair_places i)) (λ i. true) 256 i all_within h)) tt

pub pair_few : (i : ℕ) → i < 256 → length (pair_places i) ≤ 8
pair_few i h = leb-true (length (pair_places i)) 8 (agree_below_at (λ i. leb (length (pair_places i)) 8) (λ i. true) 256 i all_short h)

all_places : agree_below (λ i. all_below 16 (pair_places i)) (λ i. true) 256 ≡ true
unfolding on chained pair_place pair_places
all_places = refl

pub pair_places_within : (i : ℕ) → i < 256 → T (all_below 16 (pair_places i))
pair_places_within i h = subst T (sym (agree_below_at (λ i. all_below 16 (pair_places i)) (λ i. true) 256 i all_places h)) tt

-- turned
abbrev pub turned_byte : List ℕ → ℕ → ℕ
turned_byte zs p = get_or zs (8 * (p % 4) + p / 4) 0

pub paired_is : (rows low high : List ℕ) → AreBytes 32 rows → low ≡ map (turned_byte (rows ++ rows)) (range_with_len 0 16) → high ≡ map (turned_byte (rows ++ rows)) (range_with_len 16 16) → (p k : ℕ) → p < 4 → k < 8
    → byte_of (get_or (map (λ i. get_or (digits_l (2 ^ 64) 2 (number_l 256 low) ++ digits_l (2 ^ 64) 2 (number_l 256 high)) i 0) (range_with_len 0 4)) p 0) k ≡ get_or rows (8 * (k % 4) + (2 * p + k / 4)) 0
paired_is rows low high b el eh p k h l =
    ap (λ n. byte_of n k) (get_or-map-range_with_len (λ i. get_or (left ++ right) i 0) 0 4 p p 0 h (omega arith))
    ∙ elim (cases_lt p 2) [
      | inl less ↦ ap (λ n. byte_of n k) (get_or-append left right 0 p (omega (arith, less, two))) ∙ word_byte 2 (turned_byte (rows ++ rows)) 0 low el small p k less l ∙ at (0 + (8 * p + k)) (omega (arith, l)) (omega (arith, l))
      | inr more ↦
          ap (λ n. byte_of n k) (ap (λ i. get_or (left ++ right) i 0) (let e : p ≡ length left + (p - 2) = omega (arith, two, more) in e) ∙ get_or-append-add left right (p - 2) 0)
          ∙ word_byte 2 (turned_byte (rows ++ rows)) 16 high eh small (p - 2) k (omega (arith, h, more)) l ∙ at (16 + (8 * (p - 2) + k)) (omega (arith, l, more)) (omega (arith, l, more))
    ]
  where
    left : List ℕ
    left = digits_l (2 ^ 64) 2 (number_l 256 low)

    right : List ℕ
    right = digits_l (2 ^ 64) 2 (number_l 256 high)

    two : length left ≡ 2
    two = length_digits (2 ^ 64) 2 (number_l 256 low)

    at : (i : ℕ) → i % 4 ≡ k % 4 → i / 4 ≡ 2 * p + k / 4 → turned_byte (rows ++ rows) i ≡ get_or rows (8 * (k % 4) + (2 * p + k / 4)) 0
    at i e g =
        ap (λ i. get_or (rows ++ rows) i 0) (let r : 8 * (i % 4) + i / 4 ≡ 8 * (k % 4) + (2 * p + k / 4) = omega (arith, e, g) in r)
        ∙ (let n = b.long in get_or-append rows rows 0 (8 * (k % 4) + (2 * p + k / 4)) (omega (arith, n, h, l)))

    within : (i : ℕ) → get_or (rows ++ rows) i 0 < 256
    within i = elim (cases_lt i 32) [
      | inl less ↦ (let n = b.long in subst (λ x. x < 256) (sym (get_or-append rows rows 0 i (omega (arith, less, n)))) (b.small i))
      | inr more ↦ (let n = b.long in subst (λ x. x < 256) (sym (ap (λ i. get_or (rows ++ rows) i 0) (let e : i ≡ length rows + (i - 32) = omega (arith, n, more) in e) ∙ get_or-append-add rows rows (i - 32) 0)) (b.small (i - 32)))
    ]

    small : (i : ℕ) → turned_byte (rows ++ rows) i < 256
    small i = within (8 * (i % 4) + i / 4)

pub pair_byte : (own k : ℕ) → own < 2 ^ 64 → k < 8 → get_or (digits_l 256 16 (number_l (2 ^ 64) (own ∷ 0 ∷ []))) k 0 ≡ byte_of own k
pair_byte own k fits l =
    ap (λ i. get_or (digits_l 256 16 (number_l (2 ^ 64) (own ∷ 0 ∷ []))) i 0) (let g : k ≡ 8 * 0 + k = omega arith in g)
    ∙ get_or_narrower (2 ^ 64) 8 256 16 (own ∷ 0 ∷ []) 0 k refl (fits, (omega arith, tt)) l (omega arith) ∙ ap (λ p. own / p % 256) (powers k l)

pub pair_digits : (own : ℕ) → AreBytes 16 (digits_l 256 16 (number_l (2 ^ 64) (own ∷ 0 ∷ [])))
pair_digits own = digits_are 16 (number_l (2 ^ 64) (own ∷ 0 ∷ []))

-- lists one behind another
chained_parts : (a b : ℕ) (f : ℕ → List ℕ) → chained (a + b) f ≡ chained a f ++ chained b (λ k. f (a + k))
unfolding chained
chained_parts a zero f = ap (λ n. chained n f) (let e : a + 0 ≡ a = omega arith in e) ∙ sym (append-nil (chained a f))
chained_parts a (suc b) f =
    ap (λ n. chained n f) (let e : a + suc b ≡ suc (a + b) = omega arith in e)
    ∙ ap (λ (xs : List ℕ). xs ++ f (a + b)) (chained_parts a b f) ∙ append_assoc (chained a f) (chained b (λ k. f (a + k))) (f (a + b))

chained_same : (n : ℕ) (f g : ℕ → List ℕ) → ((k : ℕ) → k < n → f k ≡ g k) → chained n f ≡ chained n g
unfolding chained
chained_same zero f g h = refl
chained_same (suc n) f g h = ap (λ (xs : List ℕ). xs ++ f n) (chained_same n f g (λ k l. h k (omega arith))) ∙ ap (λ (xs : List ℕ). chained n g ++ xs) (h n (omega arith))

chained_map : (n : ℕ) (f : ℕ → List ℕ) (g : ℕ → ℕ) → map g (chained n f) ≡ chained n (λ k. map g (f k))
unfolding chained
chained_map zero f g = refl
chained_map (suc n) f g = map-append g (chained n f) (f n) ∙ ap (λ (xs : List ℕ). xs ++ map g (f n)) (chained_map n f g)

-- What is told of a pair is what is told of its columns.
pub pair_told : (rows xs : List ℕ) (members p index own : ℕ) → p < 4 → ((k : ℕ) → k < 8 → get_or xs k 0 ≡ byte_of own k) → ((k : ℕ) → k < 8 → byte_of own k ≡ byte_of (get_or rows (k % 4) 0) (2 * p + k / 4)) → IsPairIndex members p index
    → pair_bytes xs index ≡ member_bytes rows members (2 * p) ++ member_bytes rows members (2 * p + 1)
unfolding pair_places pair_place member_bytes
pair_told rows xs members p index own h bytes pair is =
    chained_map 8 (λ k. cond (on index k) (k ∷ []) []) (λ k. get_or xs k 0)
    ∙ chained_parts 4 4 (λ k. map (λ k. get_or xs k 0) (cond (on index k) (k ∷ []) []))
    ∙ ap (λ (ys : List ℕ). ys ++ chained 4 (λ k. map (λ k. get_or xs k 0) (cond (on index (4 + k)) ((4 + k) ∷ []) []))) (chained_same 4 (λ k. map (λ k. get_or xs k 0) (cond (on index k) (k ∷ []) [])) (λ r. cond (on members (8 * (2 * p) + (r + 1))) (byte_at rows (8 * (2 * p) + (r + 1)) ∷ []) []) (λ r l. one r (2 * p) r (omega (arith, l)) (omega (arith, l)) (omega (arith, l)) l))
    ∙ ap (λ (ys : List ℕ). chained 4 (λ r. cond (on members (8 * (2 * p) + (r + 1))) (byte_at rows (8 * (2 * p) + (r + 1)) ∷ []) []) ++ ys) (chained_same 4 (λ k. map (λ k. get_or xs k 0) (cond (on index (4 + k)) ((4 + k) ∷ []) [])) (λ r. cond (on members (8 * (2 * p + 1) + (r + 1))) (byte_at rows (8 * (2 * p + 1) + (r + 1)) ∷ []) []) (λ r l. one (4 + r) (2 * p + 1) r (omega (arith, l)) (omega (arith, l)) (omega (arith, l)) l))
  where
    both : (o o' : Bool) (k y : ℕ) → o ≡ o' → get_or xs k 0 ≡ y → map (λ k. get_or xs k 0) (cond o (k ∷ []) []) ≡ cond o' (y ∷ []) []
    both true o' k y e g = ap (λ (b : ℕ). b ∷ []) g ∙ ap (λ o. cond o (y ∷ []) []) e
    both false o' k y e g = ap (λ o. cond o (y ∷ []) []) e

    byte_is : (c r : ℕ) → r < 4 → byte_at rows (8 * c + (r + 1)) ≡ byte_of (get_or rows r 0) c
    byte_is c r l = ap (λ k. byte_of (get_or rows k 0) ((8 * c + (r + 1)) / 8)) (let e : (8 * c + (r + 1)) % 8 - 1 ≡ r = omega (arith, l) in e) ∙ ap (byte_of (get_or rows r 0)) (let e : (8 * c + (r + 1)) / 8 ≡ c = omega (arith, l) in e)

    one : (k c r : ℕ) → k < 8 → k % 4 ≡ r → 2 * p + k / 4 ≡ c → r < 4 → map (λ k. get_or xs k 0) (cond (on index k) (k ∷ []) []) ≡ cond (on members (8 * c + (r + 1))) (byte_at rows (8 * c + (r + 1)) ∷ []) []
    one k c r l e g q =
        both (on index k) (on members (8 * c + (r + 1))) k (byte_at rows (8 * c + (r + 1)))
        (is.members_are k l ∙ ap (λ n. on members (8 * n + (k % 4 + 1))) g ∙ ap (λ n. on members (8 * c + (n + 1))) e)
        (bytes k l ∙ pair k l ∙ ap (λ n. byte_of (get_or rows n 0) (2 * p + k / 4)) e ∙ ap (byte_of (get_or rows r 0)) g ∙ sym (byte_is c r q))
