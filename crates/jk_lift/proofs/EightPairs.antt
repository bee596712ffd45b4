-- Eight pairs of a line at once.
use Rattle.std.proofs.Common.{◌≡◌, ℕ, ℤ, List, ◌+◌, ◌-◌, ◌*◌, ◌^◌, ◌<◌, ◌≤◌, false, cond, eqb, length, replicate, pos, ◌+ℤ◌, true, inl, inr, sym, ◌∙◌, ap, arith, w32, of_z, to_z, [], ◌∷◌, ◌++◌, map}
use lib.Lanes.{pick_l, put_chunk}
use Rattle.std.specs.List.{All}
use Rattle.std.proofs.lemmas.Bool.{cases_eq}
use Rattle.std.proofs.lemmas.Bool.Decides.{nat_tests}
use Rattle.jk_math.specs.Division.{floor_of}
use Rattle.jk_math.specs.Signed.{IsBelow, signed_at}
use Rattle.jk_lift.specs.Lifting.{high_pass, low_pass, even_sample, odd_sample}
use Rattle.jk_lift.specs.Pairs.{AreSamples, AreCoefficients}
use Rattle.jk_math.specs.Eights.{HasEight, HasPairs}
use Rattle.jk_math.proofs.Laws.{HasLanes, bits_of, loaded, sums, differences, shifted, HasLanes-load, HasLanes-passed, HasLanes-wider, HasLanes-same, HasLanes-splat, HasLanes-all, HasLanes-add, HasLanes-sub, HasLanes-half, HasLanes-quarter, HasLanes-woven, HasLanes-parted, HasLanes-behind, HasLanes-before, stored_pairs}
use Rattle.jk_lift.proofs.EightSteps.{half_sum}

not_first : (j : ℕ) → eqb (j + 1) 0 ≡ false
not_first j = grind (arith, nat_tests)

-- ---- backwards

module _ (low high : List ℤ) (l k : ℕ) (given : ℤ) where
  abbrev pub next_at : ℕ → ℤ
  next_at j = even_sample (signed_at low (l + j)) (signed_at high (k + j)) (signed_at high (k + 1 + j))

  abbrev pub last_at : ℕ → ℤ
  last_at j = cond (eqb j 0) given (next_at (j - 1))

  abbrev pub odd_at : ℕ → ℤ
  odd_at j = odd_sample (signed_at high (k + j)) (last_at j) (next_at j)

  pub samples_made : (i : ℕ) (old new : List ℤ) → HasPairs odd_at next_at i old new → AreSamples low l high k given old new i
  samples_made i old new pairs =
      let at_next : (j : ℕ) → j < 8 → next_at j ≡ signed_at new (i + (2 * j + 1)) = λ j lt. sym (pairs.1 j lt) in
      record {
        evens = λ j lt. pairs.1 j lt ∙ ap (λ n. even_sample (signed_at low (l + j)) (signed_at high (k + j)) (signed_at high n)) (let e : k + 1 + j ≡ k + (j + 1) = omega arith in e);
        first =
            ap (signed_at new) (let e : i ≡ i + 2 * 0 = omega arith in e) ∙ pairs.0 0 (omega arith)
            ∙ ap (λ z. odd_sample (signed_at high (k + 0)) given z) (at_next 0 (omega arith))
            ∙ ap (λ n. odd_sample (signed_at high n) given (signed_at new (i + (2 * 0 + 1)))) (let e : k + 0 ≡ k = omega arith in e);
        odds = λ j lt.
            let less : j + 1 < 8 = omega arith in
            let back : j + 1 - 1 ≡ j = omega arith in
            pairs.0 (j + 1) less
            ∙ ap (λ t. odd_sample (signed_at high (k + (j + 1))) (cond t given (next_at (j + 1 - 1))) (next_at (j + 1))) (not_first j)
            ∙ ap (λ z. odd_sample (signed_at high (k + (j + 1))) z (next_at (j + 1))) (ap next_at back ∙ at_next j (omega arith))
            ∙ ap (λ z. odd_sample (signed_at high (k + (j + 1))) (signed_at new (i + (2 * j + 1))) z) (at_next (j + 1) less);
        front = pairs.2;
      }

  module _ (lows : l + 8 ≤ length low) (highs : k + 9 ≤ length high) (small_low : All (IsBelow (2 ^ 29)) low) (small_high : All (IsBelow (2 ^ 29)) high) (small_given : IsBelow (2 ^ 30 - 1) given) where
    pub here_lanes : HasLanes (2 ^ 29) (λ j. signed_at high (k + j)) (loaded k high)
    here_lanes = HasLanes-load (2 ^ 29) high k (omega arith) (omega arith) (λ j lt. small_high (k + j) (pos 0) (omega arith))

    pub behind_lanes : HasLanes (2 ^ 29) (λ j. signed_at high (k + 1 + j)) (loaded (k + 1) high)
    behind_lanes = HasLanes-load (2 ^ 29) high (k + 1) (omega arith) (omega arith) (λ j lt. small_high (k + 1 + j) (pos 0) (omega arith))

    pub low_lanes : HasLanes (2 ^ 29) (λ j. signed_at low (l + j)) (loaded l low)
    low_lanes = HasLanes-load (2 ^ 29) low l (omega arith) (omega arith) (λ j lt. small_low (l + j) (pos 0) (omega arith))

    pub high_sums : HasLanes (2 ^ 30 - 1) (λ j. signed_at high (k + j) +ℤ signed_at high (k + 1 + j)) (sums (loaded k high) (loaded (k + 1) high))
    high_sums = HasLanes-add (2 ^ 29) (2 ^ 29) (2 ^ 30 - 1) _ _ _ _ (omega arith) (omega arith) here_lanes behind_lanes

    abbrev high_quarters : List ℕ
    high_quarters = shifted (sums (sums (loaded k high) (loaded (k + 1) high)) (replicate 8 2)) 2

    pub quarter_lanes : HasLanes (2 ^ 28 + 1) (λ j. floor_of (signed_at high (k + j) +ℤ signed_at high (k + 1 + j) +ℤ pos 2) 4) high_quarters
    quarter_lanes =
        HasLanes-quarter (2 ^ 30 + 1) (2 ^ 28 + 1) _ _ (omega arith) (omega arith)
        (HasLanes-add (2 ^ 30 - 1) 3 (2 ^ 30 + 1) _ _ _ _ (omega arith) (omega arith) high_sums (HasLanes-splat 3 2 (omega arith) (omega arith)))

    abbrev next : List ℕ
    next = differences (loaded l low) high_quarters

    pub next_lanes : HasLanes (2 ^ 30 - 1) next_at next
    next_lanes = HasLanes-sub (2 ^ 29) (2 ^ 28 + 1) (2 ^ 30 - 1) _ _ _ _ (omega arith) (omega arith) low_lanes quarter_lanes

    abbrev last : List ℕ
    last = pick_l 0 (replicate 8 (of_z w32 given) ++ next) (0 ∷ 8 ∷ 9 ∷ 10 ∷ 11 ∷ 12 ∷ 13 ∷ 14 ∷ [])

    pub last_lanes : HasLanes (2 ^ 30 - 1) last_at last
    last_lanes = HasLanes-behind (2 ^ 30 - 1) given next_at _ _ (HasLanes-all (2 ^ 30 - 1) given (omega arith) small_given) next_lanes

    pub half_lanes : HasLanes (2 ^ 30) (λ j. floor_of (last_at j +ℤ next_at j) 2) (shifted (sums last next) 1)
    half_lanes = half_sum last_at next_at last next last_lanes next_lanes

    abbrev odd : List ℕ
    odd = sums (loaded k high) (shifted (sums last next) 1)

    pub odd_lanes : HasLanes (2 ^ 31) odd_at odd
    odd_lanes = HasLanes-add (2 ^ 29) (2 ^ 30) (2 ^ 31) _ _ _ _ (omega arith) (omega arith) here_lanes half_lanes

    -- what the code's two stores leave
    pub samples_stored : (i : ℕ) (line : List ℤ) → i + 16 ≤ length line →
        HasPairs odd_at next_at i line
        (put_chunk (i + 8) (put_chunk i line (map (to_z w32) (bits_of (map (to_z w32) (pick_l 0 (odd ++ next) (0 ∷ 8 ∷ 1 ∷ 9 ∷ 2 ∷ 10 ∷ 3 ∷ 11 ∷ []))))))
        (map (to_z w32) (bits_of (map (to_z w32) (pick_l 0 (odd ++ next) (4 ∷ 12 ∷ 5 ∷ 13 ∷ 6 ∷ 14 ∷ 7 ∷ 15 ∷ []))))))
    samples_stored i line room =
        let both = HasLanes-woven (2 ^ 31) odd_at next_at odd next odd_lanes (HasLanes-wider (2 ^ 30 - 1) (2 ^ 31) next_at next (omega arith) next_lanes) in
        stored_pairs (2 ^ 31) odd_at next_at _ _ i line (HasLanes-passed (2 ^ 31) _ _ (omega arith) both.0) (HasLanes-passed (2 ^ 31) _ _ (omega arith) both.1) room

-- ---- forwards

module _ (line : List ℤ) (i : ℕ) (given : ℤ) where
  abbrev pub even_in : ℕ → ℤ
  even_in j = signed_at line (i + 2 * j)

  abbrev pub odd_in : ℕ → ℤ
  odd_in j = signed_at line (i + (2 * j + 1))

  abbrev pub behind_in : ℕ → ℤ
  behind_in j = cond (eqb j 7) (signed_at line (i + 16)) (even_in (j + 1))

  abbrev pub high_made : ℕ → ℤ
  high_made j = high_pass (odd_in j) (even_in j) (behind_in j)

  abbrev pub last_made : ℕ → ℤ
  last_made j = cond (eqb j 0) given (high_made (j - 1))

  abbrev pub low_made : ℕ → ℤ
  low_made j = low_pass (even_in j) (last_made j) (high_made j)

  behind_is : (j : ℕ) → j < 8 → behind_in j ≡ even_in (j + 1)
  behind_is j lt = elim (cases_eq j 7) [
    | inl e ↦
        let t : eqb j 7 ≡ true = grind (arith, nat_tests) in
        ap (λ b. cond b (signed_at line (i + 16)) (even_in (j + 1))) t ∙ ap (signed_at line) (omega arith)
    | inr ne ↦
        let f : eqb j 7 ≡ false = grind (arith, nat_tests) in
        ap (λ b. cond b (signed_at line (i + 16)) (even_in (j + 1))) f
  ]

  pub coefficients_made : (l h : ℕ) (low low' high high' : List ℤ) → HasEight low_made l low low' → HasEight high_made h high high' → AreCoefficients line i given low low' l high high' h
  coefficients_made l h low low' high high' lows highs =
      let at_high : (j : ℕ) → j < 8 → high_made j ≡ signed_at high' (h + j) = λ j lt. sym (highs.0 j lt) in
      record {
        highs = λ j lt. highs.0 j lt ∙ ap (λ z. high_pass (odd_in j) (even_in j) z) (behind_is j lt);
        first =
            ap (signed_at low') (let e : l ≡ l + 0 = omega arith in e) ∙ lows.0 0 (omega arith)
            ∙ ap (λ z. low_pass (even_in 0) given z) (at_high 0 (omega arith))
            ∙ ap (λ n. low_pass (signed_at line n) given (signed_at high' (h + 0))) (let e : i + 2 * 0 ≡ i = omega arith in e)
            ∙ ap (λ n. low_pass (signed_at line i) given (signed_at high' n)) (let e : h + 0 ≡ h = omega arith in e);
        lows = λ j lt.
            let less : j + 1 < 8 = omega arith in
            let back : j + 1 - 1 ≡ j = omega arith in
            lows.0 (j + 1) less
            ∙ ap (λ t. low_pass (even_in (j + 1)) (cond t given (high_made (j + 1 - 1))) (high_made (j + 1))) (not_first j)
            ∙ ap (λ z. low_pass (even_in (j + 1)) z (high_made (j + 1))) (ap high_made back ∙ at_high j (omega arith))
            ∙ ap (λ z. low_pass (even_in (j + 1)) (signed_at high' (h + j)) z) (at_high (j + 1) less);
        low_front = lows.1;
        high_front = highs.1;
      }

  module _ (inside : i + 17 ≤ length line) (small : All (IsBelow (2 ^ 29)) line) (small_given : IsBelow (2 ^ 30 - 1) given) where
    first_lanes : HasLanes (2 ^ 29) (λ j. signed_at line (i + j)) (loaded i line)
    first_lanes = HasLanes-load (2 ^ 29) line i (omega arith) (omega arith) (λ j lt. small (i + j) (pos 0) (omega arith))

    second_lanes : HasLanes (2 ^ 29) (λ j. signed_at line (i + (8 + j))) (loaded (i + 8) line)
    second_lanes =
        HasLanes-same (2 ^ 29) (λ j. signed_at line (i + 8 + j)) (λ j. signed_at line (i + (8 + j))) _
        (HasLanes-load (2 ^ 29) line (i + 8) (omega arith) (omega arith) (λ j lt. small (i + 8 + j) (pos 0) (omega arith)))
        (λ j lt. ap (signed_at line) (omega arith))

    abbrev pub evens : List ℕ
    evens = bits_of (map (to_z w32) (pick_l 0 (loaded i line ++ loaded (i + 8) line) (0 ∷ 2 ∷ 4 ∷ 6 ∷ 8 ∷ 10 ∷ 12 ∷ 14 ∷ [])))

    abbrev pub odds : List ℕ
    odds = bits_of (map (to_z w32) (pick_l 0 (loaded i line ++ loaded (i + 8) line) (1 ∷ 3 ∷ 5 ∷ 7 ∷ 9 ∷ 11 ∷ 13 ∷ 15 ∷ [])))

    pub even_lanes : HasLanes (2 ^ 29) even_in evens
    even_lanes = HasLanes-passed (2 ^ 29) even_in _ (omega arith) (HasLanes-parted (2 ^ 29) (λ j. signed_at line (i + j)) _ _ first_lanes second_lanes).0

    pub odd_in_lanes : HasLanes (2 ^ 29) odd_in odds
    odd_in_lanes = HasLanes-passed (2 ^ 29) odd_in _ (omega arith) (HasLanes-parted (2 ^ 29) (λ j. signed_at line (i + j)) _ _ first_lanes second_lanes).1

    abbrev pub behinds : List ℕ
    behinds = pick_l 0 (evens ++ replicate 8 (of_z w32 (signed_at line (i + 16)))) (1 ∷ 2 ∷ 3 ∷ 4 ∷ 5 ∷ 6 ∷ 7 ∷ 8 ∷ [])

    pub behind_in_lanes : HasLanes (2 ^ 29) behind_in behinds
    behind_in_lanes =
        HasLanes-before (2 ^ 29) (signed_at line (i + 16)) even_in _ _ even_lanes (HasLanes-all (2 ^ 29) (signed_at line (i + 16)) (omega arith) (small (i + 16) (pos 0) (omega arith)))

    pub sum_in_lanes : HasLanes (2 ^ 30 - 1) (λ j. even_in j +ℤ behind_in j) (sums evens behinds)
    sum_in_lanes = HasLanes-add (2 ^ 29) (2 ^ 29) (2 ^ 30 - 1) _ _ _ _ (omega arith) (omega arith) even_lanes behind_in_lanes

    pub half_in_lanes : HasLanes (2 ^ 29) (λ j. floor_of (even_in j +ℤ behind_in j) 2) (shifted (sums evens behinds) 1)
    half_in_lanes = HasLanes-half (2 ^ 30 - 1) (2 ^ 29) _ _ (omega arith) (omega arith) sum_in_lanes

    abbrev pub highs_of : List ℕ
    highs_of = differences odds (shifted (sums evens behinds) 1)

    pub high_lanes : HasLanes (2 ^ 30 - 1) high_made highs_of
    high_lanes = HasLanes-sub (2 ^ 29) (2 ^ 29) (2 ^ 30 - 1) _ _ _ _ (omega arith) (omega arith) odd_in_lanes half_in_lanes

    abbrev pub lasts : List ℕ
    lasts = pick_l 0 (replicate 8 (of_z w32 given) ++ highs_of) (0 ∷ 8 ∷ 9 ∷ 10 ∷ 11 ∷ 12 ∷ 13 ∷ 14 ∷ [])

    pub last_in_lanes : HasLanes (2 ^ 30 - 1) last_made lasts
    last_in_lanes = HasLanes-behind (2 ^ 30 - 1) given high_made _ _ (HasLanes-all (2 ^ 30 - 1) given (omega arith) small_given) high_lanes

    pub coefficient_sums : HasLanes (2 ^ 31 - 3) (λ j. last_made j +ℤ high_made j) (sums lasts highs_of)
    coefficient_sums = HasLanes-add (2 ^ 30 - 1) (2 ^ 30 - 1) (2 ^ 31 - 3) _ _ _ _ (omega arith) (omega arith) last_in_lanes high_lanes

    pub twos : HasLanes 3 (λ _. pos 2) (replicate 8 2)
    twos = HasLanes-splat 3 2 (omega arith) (omega arith)

    pub rounded_sums : HasLanes (2 ^ 31 - 1) (λ j. last_made j +ℤ high_made j +ℤ pos 2) (sums (sums lasts highs_of) (replicate 8 2))
    rounded_sums = HasLanes-add (2 ^ 31 - 3) 3 (2 ^ 31 - 1) _ _ _ _ (omega arith) (omega arith) coefficient_sums twos

    pub quarter_in_lanes : HasLanes (2 ^ 29 + 1) (λ j. floor_of (last_made j +ℤ high_made j +ℤ pos 2) 4) (shifted (sums (sums lasts highs_of) (replicate 8 2)) 2)
    quarter_in_lanes = HasLanes-quarter (2 ^ 31 - 1) (2 ^ 29 + 1) _ _ (omega arith) (omega arith) rounded_sums

    pub low_made_lanes : HasLanes (2 ^ 31) low_made (sums evens (shifted (sums (sums lasts highs_of) (replicate 8 2)) 2))
    low_made_lanes = HasLanes-add (2 ^ 29) (2 ^ 29 + 1) (2 ^ 31) _ _ _ _ (omega arith) (omega arith) even_lanes quarter_in_lanes
