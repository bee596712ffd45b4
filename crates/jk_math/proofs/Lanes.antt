-- Vectors of eight numbers of 32 bits, as operations leave them: the list of the bits of each lane.
use Rattle.std.proofs.Common.{◌≡◌, ℕ, ℤ, List, [], ◌∷◌, zero, suc, ◌+◌, ◌-◌, ◌*◌, ◌^◌, ◌/◌, ◌%◌, ◌<◌, ◌≤◌, ◌++◌, T, true, false, cond, eqb, ltb, length, get_or, map, take, drop, replicate, pos, ◌+ℤ◌, ◌-ℤ◌, inl, inr, refl, sym, ◌∙◌, ap, arith, w32, to_z, of_z}
use lib.Lanes.{zip2, Each2, put_chunk, pick_l, all_below}
use lib.Dec.{ltb→lt}
use mir.ValLaws.{and_both}
use lib.Signed.{shr_z}
use mir.Val.{SFits}
use Rattle.std.proofs.lemmas.Int.{ints, to_z-of_z}
use Rattle.std.proofs.lemmas.Bool.{cases_lt}
use Rattle.std.proofs.lemmas.Bool.Decides.{nat_tests}
use Rattle.std.proofs.lemmas.List.{length-map, get_or-map, get_or_append_left, get_or-append-add}
use Rattle.std.proofs.lemmas.Simd.{length-chunk, get_or-chunk, length-zip2, get_or-zip2, length-replicate, get_or-replicate, shifts_fit_splat, length-put_chunk, get_or-put_chunk_at, get_or-put_chunk_below, get_or-put_chunk_above}
use Rattle.jk_math.specs.Division.{floor_of}
use Rattle.jk_math.specs.Signed.{IsBelow, signed_at}
use Rattle.jk_math.proofs.Rounding.{shr-floor_of, half_high, half_low, quarter_high, quarter_low}
use Rattle.jk_math.specs.Eights.{HasEight, HasPairs}

-- Lane j of a vector is f j, below m in magnitude.
pub record HasLanes (m : ℕ) (f : ℕ → ℤ) (v : List ℕ) : Type 0 where
  pub long : length v ≡ 8
  pub each : (j : ℕ) → j < 8 → to_z w32 (get_or v j 0) ≡ f j
  pub below : (j : ℕ) → j < 8 → IsBelow m (f j)

-- what the code makes of lanes, as bits
abbrev pub sum_bits : ℕ → ℕ → ℕ
sum_bits a b = of_z w32 (to_z w32 a +ℤ to_z w32 b)

abbrev pub difference_bits : ℕ → ℕ → ℕ
difference_bits a b = of_z w32 (to_z w32 a -ℤ to_z w32 b)

abbrev pub shifted_bits : ℕ → ℕ → ℕ
shifted_bits a k = of_z w32 (shr_z (to_z w32 a) (2 ^ k))

-- eight numbers as bits, and what the code makes of vectors
abbrev pub bits_of : List ℤ → List ℕ
bits_of xs = map (of_z w32) xs

abbrev pub loaded : ℕ → List ℤ → List ℕ
loaded i xs = bits_of (take 8 (drop i xs))

abbrev pub sums : List ℕ → List ℕ → List ℕ
sums v w = zip2 (λ a b. of_z w32 (to_z w32 a +ℤ to_z w32 b)) v w

abbrev pub differences : List ℕ → List ℕ → List ℕ
differences v w = zip2 (λ a b. of_z w32 (to_z w32 a -ℤ to_z w32 b)) v w

abbrev pub shifted : List ℕ → ℕ → List ℕ
shifted v k = zip2 (λ a b. of_z w32 (shr_z (to_z w32 a) (2 ^ b))) v (replicate 8 k)

-- eight numbers, taken as bits
pub HasLanes-given : (m : ℕ) (xs : List ℤ) → m ≤ 2 ^ 31 → length xs ≡ 8 → ((j : ℕ) → j < 8 → IsBelow m (signed_at xs j)) →
    HasLanes m (λ j. signed_at xs j) (map (of_z w32) xs)
HasLanes-given m xs few eight small = record {
  long = length-map xs (of_z w32) ∙ eight;
  each = λ j l.
      let b = small j l in
      ap (to_z w32) (get_or-map (of_z w32) xs j (pos 0) 0 (omega arith)) ∙ to_z-of_z w32 (signed_at xs j) (omega (arith, ints));
  below = small;
}

-- the same lanes by another name
pub HasLanes-same : (m : ℕ) (f g : ℕ → ℤ) (v : List ℕ) → HasLanes m f v → ((j : ℕ) → j < 8 → f j ≡ g j) → HasLanes m g v
HasLanes-same m f g v h same = record {
  long = h.long;
  each = λ j l. h.each j l ∙ same j l;
  below = λ j l. let b = h.below j l in rw (sym (same j l)) b;
}

pub HasLanes-wider : (m n : ℕ) (f : ℕ → ℤ) (v : List ℕ) → m ≤ n → HasLanes m f v → HasLanes n f v
HasLanes-wider m n f v le h = record {
  long = h.long;
  each = h.each;
  below = λ j l. let b = h.below j l in (omega (arith, ints), omega (arith, ints));
}

-- eight numbers of a list, from place i on
pub HasLanes-load : (m : ℕ) (xs : List ℤ) (i : ℕ) → m ≤ 2 ^ 31 → i + 8 ≤ length xs → ((j : ℕ) → j < 8 → IsBelow m (signed_at xs (i + j))) →
    HasLanes m (λ j. signed_at xs (i + j)) (map (of_z w32) (take 8 (drop i xs)))
HasLanes-load m xs i few room small =
    let eight : length (take 8 (drop i xs)) ≡ 8 = length-chunk i 8 xs room in
    record {
      long = length-map (take 8 (drop i xs)) (of_z w32) ∙ eight;
      each = λ j l.
          let b = small j l in
          ap (to_z w32) (get_or-map (of_z w32) (take 8 (drop i xs)) j (pos 0) 0 (omega arith) ∙ ap (of_z w32) (get_or-chunk i 8 xs j (pos 0) l))
          ∙ to_z-of_z w32 (signed_at xs (i + j)) (omega (arith, ints));
      below = small;
    }

-- one number in all lanes
pub HasLanes-all : (m : ℕ) (z : ℤ) → m ≤ 2 ^ 31 → IsBelow m z → HasLanes m (λ _. z) (replicate 8 (of_z w32 z))
HasLanes-all m z few b = record {
  long = length-replicate 8 (of_z w32 z);
  each = λ j lt. ap (to_z w32) (get_or-replicate 8 j (of_z w32 z) 0 lt) ∙ to_z-of_z w32 z (omega (arith, ints));
  below = λ j lt. b;
}

pub HasLanes-splat : (m n : ℕ) → n < m → m ≤ 2 ^ 31 → HasLanes m (λ _. pos n) (replicate 8 n)
HasLanes-splat m n l few = record {
  long = length-replicate 8 n;
  each = λ j lt. ap (to_z w32) (get_or-replicate 8 j n 0 lt) ∙ omega (arith, ints);
  below = λ j lt. (omega (arith, ints), omega (arith, ints));
}

-- a fact of two lanes at the same place
each2_from : {X Y : Type 0} (R : X → Y → Type 0) (xs : List X) (ys : List Y) (d : X) (e : Y) → length xs ≡ length ys →
    ((i : ℕ) → i < length xs → R (get_or xs i d) (get_or ys i e)) → Each2 R xs ys
each2_from R [] ys d e same h = tt
each2_from R (x ∷ xs) [] d e same h = tt
each2_from R (x ∷ xs) (y ∷ ys) d e same h = (h 0 (omega arith), each2_from R xs ys d e (omega arith) (λ i l. h (suc i) (omega arith)))

-- sums and differences, of lanes that are small enough for them
pub adds_fit : (m n : ℕ) (f g : ℕ → ℤ) (v w : List ℕ) → m + n ≤ 2 ^ 31 + 1 → HasLanes m f v → HasLanes n g w →
    Each2 (λ a b. SFits w32 (to_z w32 a +ℤ to_z w32 b)) v w
adds_fit m n f g v w few hv hw =
    each2_from _ v w 0 0 (hv.long ∙ sym hw.long)
    (λ j lt.
    let l : j < 8 = omega (arith, hv.long) in
    let a = hv.below j l in
    let b = hw.below j l in
    rw (hv.each j l, hw.each j l) (omega (arith, ints)))

pub HasLanes-add : (m n k : ℕ) (f g : ℕ → ℤ) (v w : List ℕ) → m + n ≤ k + 1 → k ≤ 2 ^ 31 → HasLanes m f v → HasLanes n g w →
    HasLanes k (λ j. f j +ℤ g j) (zip2 (λ a b. of_z w32 (to_z w32 a +ℤ to_z w32 b)) v w)
HasLanes-add m n k f g v w room few hv hw = record {
  long = length-zip2 _ v w (hv.long ∙ sym hw.long) ∙ hv.long;
  each = λ j l.
      let a = hv.below j l in
      let b = hw.below j l in
      ap (to_z w32) (get_or-zip2 sum_bits v w j 0 0 0 (omega (arith, hv.long)) (omega (arith, hw.long)))
      ∙ rw (hv.each j l, hw.each j l) (to_z-of_z w32 (f j +ℤ g j) (omega (arith, ints)));
  below = λ j l.
      let a = hv.below j l in
      let b = hw.below j l in
      (omega (arith, ints), omega (arith, ints));
}

pub subs_fit : (m n : ℕ) (f g : ℕ → ℤ) (v w : List ℕ) → m + n ≤ 2 ^ 31 + 1 → HasLanes m f v → HasLanes n g w →
    Each2 (λ a b. SFits w32 (to_z w32 a -ℤ to_z w32 b)) v w
subs_fit m n f g v w few hv hw =
    each2_from _ v w 0 0 (hv.long ∙ sym hw.long)
    (λ j lt.
    let l : j < 8 = omega (arith, hv.long) in
    let a = hv.below j l in
    let b = hw.below j l in
    rw (hv.each j l, hw.each j l) (omega (arith, ints)))

pub HasLanes-sub : (m n k : ℕ) (f g : ℕ → ℤ) (v w : List ℕ) → m + n ≤ k + 1 → k ≤ 2 ^ 31 → HasLanes m f v → HasLanes n g w →
    HasLanes k (λ j. f j -ℤ g j) (zip2 (λ a b. of_z w32 (to_z w32 a -ℤ to_z w32 b)) v w)
HasLanes-sub m n k f g v w room few hv hw = record {
  long = length-zip2 _ v w (hv.long ∙ sym hw.long) ∙ hv.long;
  each = λ j l.
      let a = hv.below j l in
      let b = hw.below j l in
      ap (to_z w32) (get_or-zip2 difference_bits v w j 0 0 0 (omega (arith, hv.long)) (omega (arith, hw.long)))
      ∙ rw (hv.each j l, hw.each j l) (to_z-of_z w32 (f j -ℤ g j) (omega (arith, ints)));
  below = λ j l.
      let a = hv.below j l in
      let b = hw.below j l in
      (omega (arith, ints), omega (arith, ints));
}

-- halves and quarters, rounded down
pub half_below : (m n : ℕ) → m + 1 ≤ 2 * n → (z : ℤ) → IsBelow m z → IsBelow n (floor_of z 2)
half_below m n le z b =
    let h = half_high z in
    let l = half_low z in
    (omega (arith, ints, h, l), omega (arith, ints, h, l))

pub quarter_below : (m n : ℕ) → m + 3 ≤ 4 * n → (z : ℤ) → IsBelow m z → IsBelow n (floor_of z 4)
quarter_below m n le z b =
    let h = quarter_high z in
    let l = quarter_low z in
    (omega (arith, ints, h, l), omega (arith, ints, h, l))

pub shift_fits : (m : ℕ) (f : ℕ → ℤ) (v : List ℕ) (k : ℕ) → k < 32 → HasLanes m f v → Each2 (λ (a b : ℕ). b < 32) v (replicate 8 k)
shift_fits m f v k l h = shifts_fit_splat 32 v 8 k l

HasLanes-shift : (m n d k : ℕ) (f : ℕ → ℤ) (v : List ℕ) → 2 ^ k ≡ d → n ≤ 2 ^ 31 → ((z : ℤ) → IsBelow m z → IsBelow n (floor_of z d)) → HasLanes m f v →
    HasLanes n (λ j. floor_of (f j) d) (zip2 (λ a b. of_z w32 (shr_z (to_z w32 a) (2 ^ b))) v (replicate 8 k))
HasLanes-shift m n d k f v power few rounded h =
    let eight : length (replicate 8 k) ≡ 8 = length-replicate 8 k in
    record {
      long = length-zip2 _ v (replicate 8 k) (h.long ∙ sym eight) ∙ h.long;
      each = λ j l.
          let b = rounded (f j) (h.below j l) in
          ap (to_z w32) (get_or-zip2 shifted_bits v (replicate 8 k) j 0 0 0 (omega (arith, h.long)) (omega (arith, eight)))
          ∙ rw (h.each j l, get_or-replicate 8 j k 0 l, power, shr-floor_of) (to_z-of_z w32 (floor_of (f j) d) (omega (arith, ints)));
      below = λ j l. rounded (f j) (h.below j l);
    }

pub HasLanes-half : (m n : ℕ) (f : ℕ → ℤ) (v : List ℕ) → m + 1 ≤ 2 * n → n ≤ 2 ^ 31 → HasLanes m f v →
    HasLanes n (λ j. floor_of (f j) 2) (zip2 (λ a b. of_z w32 (shr_z (to_z w32 a) (2 ^ b))) v (replicate 8 1))
HasLanes-half m n f v le few h = HasLanes-shift m n 2 1 f v refl few (half_below m n le) h

pub HasLanes-quarter : (m n : ℕ) (f : ℕ → ℤ) (v : List ℕ) → m + 3 ≤ 4 * n → n ≤ 2 ^ 31 → HasLanes m f v →
    HasLanes n (λ j. floor_of (f j) 4) (zip2 (λ a b. of_z w32 (shr_z (to_z w32 a) (2 ^ b))) v (replicate 8 2))
HasLanes-quarter m n f v le few h = HasLanes-shift m n 4 2 f v refl few (quarter_below m n le) h

-- what is read of a vector, and what a list has where one is stored
pub lane_is : (m : ℕ) (f : ℕ → ℤ) (v : List ℕ) → HasLanes m f v → (j : ℕ) → j < 8 → signed_at (map (to_z w32) v) j ≡ f j
lane_is m f v h j l = get_or-map (to_z w32) v j 0 (pos 0) (omega (arith, h.long)) ∙ h.each j l

pub vector_long : (m : ℕ) (f : ℕ → ℤ) (v : List ℕ) → HasLanes m f v → length (map (to_z w32) v) ≡ 8
vector_long m f v h = length-map v (to_z w32) ∙ h.long

pub vector_below : (m : ℕ) (f : ℕ → ℤ) (v : List ℕ) → HasLanes m f v → (j : ℕ) → j < 8 → IsBelow m (signed_at (map (to_z w32) v) j)
vector_below m f v h j l = rw (lane_is m f v h j l) (h.below j l)

-- a vector that is passed on
pub HasLanes-passed : (m : ℕ) (f : ℕ → ℤ) (v : List ℕ) → m ≤ 2 ^ 31 → HasLanes m f v → HasLanes m f (bits_of (map (to_z w32) v))
HasLanes-passed m f v few h =
    HasLanes-same m (λ j. signed_at (map (to_z w32) v) j) f _ (HasLanes-given m (map (to_z w32) v) few (vector_long m f v h) (vector_below m f v h)) (λ j l. lane_is m f v h j l)

pub stored : (m : ℕ) (f : ℕ → ℤ) (v : List ℕ) (i : ℕ) (xs : List ℤ) → HasLanes m f v → i + 8 ≤ length xs → HasEight f i xs (put_chunk i xs (map (to_z w32) v))
stored m f v i xs h room =
    let eight : length (map (to_z w32) v) ≡ 8 = length-map v (to_z w32) ∙ h.long in (
      λ j l. get_or-put_chunk_at i xs (map (to_z w32) v) j (pos 0) (omega (arith, eight)) (omega (arith, eight)) ∙ lane_is m f v h j l,
      λ k l. get_or-put_chunk_below i xs (map (to_z w32) v) k (pos 0) l,
      λ k l. get_or-put_chunk_above i xs (map (to_z w32) v) k (pos 0) (omega (arith, eight)),
    )

-- ---- lanes picked out of two vectors

-- lane k of two vectors behind each other
abbrev pub joined : (ℕ → ℤ) → (ℕ → ℤ) → ℕ → ℤ
joined f g k = cond (ltb k 8) (f k) (g (k - 8))

joined_left : (f g : ℕ → ℤ) (k : ℕ) → k < 8 → joined f g k ≡ f k
joined_left f g k l = let t : ltb k 8 ≡ true = grind (arith, nat_tests) in rw t refl

joined_right : (f g : ℕ → ℤ) (k : ℕ) → 8 ≤ k → joined f g k ≡ g (k - 8)
joined_right f g k l = let t : ltb k 8 ≡ false = grind (arith, nat_tests) in rw t refl

joined_is : (m : ℕ) (f g : ℕ → ℤ) (v w : List ℕ) → HasLanes m f v → HasLanes m g w → (k : ℕ) → k < 16 →
    (to_z w32 (get_or (v ++ w) k 0) ≡ joined f g k) × IsBelow m (joined f g k)
joined_is m f g v w hv hw k l = elim (cases_lt k 8) [
  | inl lt ↦ (
    ap (to_z w32) (get_or_append_left v w 0 k (omega (arith, hv.long))) ∙ hv.each k lt ∙ sym (joined_left f g k lt),
    rw (joined_left f g k lt) (hv.below k lt),
  )
  | inr ge ↦
      let j : ℕ = k - 8 in
      let place : length v + j ≡ k = omega (arith, hv.long) in (
        ap (to_z w32) (ap (λ i. get_or (v ++ w) i 0) (sym place) ∙ get_or-append-add v w j 0) ∙ hw.each j (omega arith) ∙ sym (joined_right f g k ge),
        rw (joined_right f g k ge) (hw.below j (omega arith)),
      )
]

each_below : (n : ℕ) (ks : List ℕ) → T (all_below n ks) → (j : ℕ) → j < length ks → get_or ks j 0 < n
each_below n [] t j l = absurd (omega arith)
each_below n (k ∷ ks) t zero l = ltb→lt k n (and_both (ltb k n) (all_below n ks) t).0
each_below n (k ∷ ks) t (suc j) l = each_below n ks (and_both (ltb k n) (all_below n ks) t).1 j (omega arith)

HasLanes-pick : (m : ℕ) (f g : ℕ → ℤ) (v w ks : List ℕ) → length ks ≡ 8 → T (all_below 16 ks) → HasLanes m f v → HasLanes m g w →
    HasLanes m (λ j. joined f g (get_or ks j 0)) (pick_l 0 (v ++ w) ks)
HasLanes-pick m f g v w ks eight t hv hw = record {
  long = length-map ks (λ k. get_or (v ++ w) k 0) ∙ eight;
  each = λ j l.
      ap (to_z w32) (get_or-map (λ k. get_or (v ++ w) k 0) ks j 0 0 (omega arith))
      ∙ (joined_is m f g v w hv hw (get_or ks j 0) (each_below 16 ks t j (omega arith))).0;
  below = λ j l. (joined_is m f g v w hv hw (get_or ks j 0) (each_below 16 ks t j (omega arith))).1;
}

eight_cases : (P : ℕ → Type 0) → P 0 → P 1 → P 2 → P 3 → P 4 → P 5 → P 6 → P 7 → (j : ℕ) → j < 8 → P j
eight_cases P a b c d e f g h zero l = a
eight_cases P a b c d e f g h (suc zero) l = b
eight_cases P a b c d e f g h (suc (suc zero)) l = c
eight_cases P a b c d e f g h (suc (suc (suc zero))) l = d
eight_cases P a b c d e f g h (suc (suc (suc (suc zero)))) l = e
eight_cases P a b c d e f g h (suc (suc (suc (suc (suc zero))))) l = f
eight_cases P a b c d e f g h (suc (suc (suc (suc (suc (suc zero)))))) l = g
eight_cases P a b c d e f g h (suc (suc (suc (suc (suc (suc (suc zero))))))) l = h
eight_cases P a b c d e f g h (suc (suc (suc (suc (suc (suc (suc (suc j)))))))) l = absurd (omega arith)

-- a lane each of two vectors in turn
abbrev pub alternately : (ℕ → ℤ) → (ℕ → ℤ) → ℕ → ℤ
alternately f g j = cond (eqb (j % 2) 0) (f (j / 2)) (g (j / 2))

pub HasLanes-woven : (m : ℕ) (f g : ℕ → ℤ) (v w : List ℕ) → HasLanes m f v → HasLanes m g w →
    HasLanes m (alternately f g) (pick_l 0 (v ++ w) (0 ∷ 8 ∷ 1 ∷ 9 ∷ 2 ∷ 10 ∷ 3 ∷ 11 ∷ []))
    × HasLanes m (λ j. alternately f g (8 + j)) (pick_l 0 (v ++ w) (4 ∷ 12 ∷ 5 ∷ 13 ∷ 6 ∷ 14 ∷ 7 ∷ 15 ∷ []))
HasLanes-woven m f g v w hv hw =
    let low : List ℕ = 0 ∷ 8 ∷ 1 ∷ 9 ∷ 2 ∷ 10 ∷ 3 ∷ 11 ∷ [] in
    let high : List ℕ = 4 ∷ 12 ∷ 5 ∷ 13 ∷ 6 ∷ 14 ∷ 7 ∷ 15 ∷ [] in (
      HasLanes-same m _ _ _ (HasLanes-pick m f g v w low refl tt hv hw)
          (eight_cases (λ j. joined f g (get_or low j 0) ≡ alternately f g j) refl refl refl refl refl refl refl refl),
      HasLanes-same m _ _ _ (HasLanes-pick m f g v w high refl tt hv hw)
          (eight_cases (λ j. joined f g (get_or high j 0) ≡ alternately f g (8 + j)) refl refl refl refl refl refl refl refl),
    )

-- the even and the odd lanes of two vectors behind each other
pub HasLanes-parted : (m : ℕ) (f : ℕ → ℤ) (v w : List ℕ) → HasLanes m f v → HasLanes m (λ j. f (8 + j)) w →
    HasLanes m (λ j. f (2 * j)) (pick_l 0 (v ++ w) (0 ∷ 2 ∷ 4 ∷ 6 ∷ 8 ∷ 10 ∷ 12 ∷ 14 ∷ []))
    × HasLanes m (λ j. f (2 * j + 1)) (pick_l 0 (v ++ w) (1 ∷ 3 ∷ 5 ∷ 7 ∷ 9 ∷ 11 ∷ 13 ∷ 15 ∷ []))
HasLanes-parted m f v w hv hw =
    let even : List ℕ = 0 ∷ 2 ∷ 4 ∷ 6 ∷ 8 ∷ 10 ∷ 12 ∷ 14 ∷ [] in
    let odd : List ℕ = 1 ∷ 3 ∷ 5 ∷ 7 ∷ 9 ∷ 11 ∷ 13 ∷ 15 ∷ [] in (
      HasLanes-same m _ _ _ (HasLanes-pick m f (λ j. f (8 + j)) v w even refl tt hv hw)
          (eight_cases (λ j. joined f (λ j. f (8 + j)) (get_or even j 0) ≡ f (2 * j)) refl refl refl refl refl refl refl refl),
      HasLanes-same m _ _ _ (HasLanes-pick m f (λ j. f (8 + j)) v w odd refl tt hv hw)
          (eight_cases (λ j. joined f (λ j. f (8 + j)) (get_or odd j 0) ≡ f (2 * j + 1)) refl refl refl refl refl refl refl refl),
    )

-- the lanes moved on by one, behind a number, and moved back by one, before a number
pub HasLanes-behind : (m : ℕ) (z : ℤ) (f : ℕ → ℤ) (v w : List ℕ) → HasLanes m (λ _. z) v → HasLanes m f w →
    HasLanes m (λ j. cond (eqb j 0) z (f (j - 1))) (pick_l 0 (v ++ w) (0 ∷ 8 ∷ 9 ∷ 10 ∷ 11 ∷ 12 ∷ 13 ∷ 14 ∷ []))
HasLanes-behind m z f v w hv hw =
    let ks : List ℕ = 0 ∷ 8 ∷ 9 ∷ 10 ∷ 11 ∷ 12 ∷ 13 ∷ 14 ∷ [] in
    HasLanes-same m _ _ _ (HasLanes-pick m (λ _. z) f v w ks refl tt hv hw)
    (eight_cases (λ j. joined (λ _. z) f (get_or ks j 0) ≡ cond (eqb j 0) z (f (j - 1))) refl refl refl refl refl refl refl refl)

pub HasLanes-before : (m : ℕ) (z : ℤ) (f : ℕ → ℤ) (v w : List ℕ) → HasLanes m f v → HasLanes m (λ _. z) w →
    HasLanes m (λ j. cond (eqb j 7) z (f (j + 1))) (pick_l 0 (v ++ w) (1 ∷ 2 ∷ 3 ∷ 4 ∷ 5 ∷ 6 ∷ 7 ∷ 8 ∷ []))
HasLanes-before m z f v w hv hw =
    let ks : List ℕ = 1 ∷ 2 ∷ 3 ∷ 4 ∷ 5 ∷ 6 ∷ 7 ∷ 8 ∷ [] in
    HasLanes-same m _ _ _ (HasLanes-pick m f (λ _. z) v w ks refl tt hv hw)
    (eight_cases (λ j. joined f (λ _. z) (get_or ks j 0) ≡ cond (eqb j 7) z (f (j + 1))) refl refl refl refl refl refl refl refl)

-- what a list has where two woven vectors are stored behind each other
stored_twice : (f : ℕ → ℤ) (i : ℕ) (xs ys zs : List ℤ) → HasEight f i xs ys → HasEight (λ j. f (8 + j)) (i + 8) ys zs →
    (j : ℕ) → j < 16 → signed_at zs (i + j) ≡ f j
stored_twice f i xs ys zs first second j l = elim (cases_lt j 8) [
  | inl lt ↦ second.1 (i + j) (omega arith) ∙ first.0 j lt
  | inr ge ↦
      let k : ℕ = j - 8 in
      let place : i + 8 + k ≡ i + j = omega arith in
      let same : 8 + k ≡ j = omega arith in
      ap (signed_at zs) (sym place) ∙ second.0 k (omega arith) ∙ ap f same
]

alternately_even : (f g : ℕ → ℤ) (j : ℕ) → alternately f g (2 * j) ≡ f j
alternately_even f g j =
    let r : 2 * j % 2 ≡ 0 = omega arith in
    let q : 2 * j / 2 ≡ j = omega arith in
    rw (r, q) refl

alternately_odd : (f g : ℕ → ℤ) (j : ℕ) → alternately f g (2 * j + 1) ≡ g j
alternately_odd f g j =
    let r : (2 * j + 1) % 2 ≡ 1 = omega arith in
    let q : (2 * j + 1) / 2 ≡ j = omega arith in
    rw (r, q) refl

pub stored_pairs : (m : ℕ) (f g : ℕ → ℤ) (v w : List ℕ) (i : ℕ) (xs : List ℤ) → HasLanes m (alternately f g) v → HasLanes m (λ j. alternately f g (8 + j)) w →
    i + 16 ≤ length xs → HasPairs f g i xs (put_chunk (i + 8) (put_chunk i xs (map (to_z w32) v)) (map (to_z w32) w))
stored_pairs m f g v w i xs hv hw room =
    let ys : List ℤ = put_chunk i xs (map (to_z w32) v) in
    let same : length ys ≡ length xs = length-put_chunk i xs (map (to_z w32) v) in
    let first = stored m (alternately f g) v i xs hv (omega arith) in
    let second = stored m (λ j. alternately f g (8 + j)) w (i + 8) ys hw (omega (arith, same)) in
    let all = stored_twice (alternately f g) i xs ys _ first second in (
      λ j l. all (2 * j) (omega arith) ∙ alternately_even f g j,
      λ j l. all (2 * j + 1) (omega arith) ∙ alternately_odd f g j,
      λ k l. second.1 k (omega arith) ∙ first.1 k l,
    )
