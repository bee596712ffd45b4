-- How far the analysis of a line has come.
use Rattle.std.proofs.Common.{◌≡◌, ℕ, ℤ, List, ◌+◌, ◌-◌, ◌*◌, ◌/◌, ◌%◌, ◌^◌, ◌<◌, ◌≤◌, length, get_or, set, pos, ◌+ℤ◌, ◌*ℤ◌, zero, suc, inl, inr, refl, sym, ◌∙◌, ap, subst, arith, w32}
use mir.Val.{SFits}
use Rattle.std.specs.List.{All}
use Rattle.std.proofs.lemmas.Bool.{cases_eq}
use Rattle.std.proofs.lemmas.Int.{ints, to_z-of_z}
use Rattle.jk_lift.specs.Lifting.{before, after, high_pass, low_pass, high_at, lifted}
use Rattle.jk_math.specs.Signed.{IsBelow}
use Rattle.jk_lift.specs.Samples.{line_of, woven, low_length, high_length, AnalysesLine}
use Rattle.jk_lift.specs.Pairs.{AreCoefficients}
use borrow.Author.Count.{below_more}
use Rattle.jk_lift.proofs.Neighbours.{before_at, after_at}
use Rattle.jk_lift.proofs.Equations.{lifted_odd, lifted_one_even, lifted_one_odd, line_of_at}
use Rattle.jk_lift.proofs.Halving.{high_pass-within}
use Rattle.jk_lift.proofs.Places.{read, read_is, entry_below, passed, passed_is, high_read, low_read, filled_more, at_inside, at_last, woven_low, woven_high}

-- The first k low-pass coefficients are written, and the high-pass ones around them; last is the
-- high-pass coefficient before the next even place.
pub record IsAnalysed (start k : ℕ) (line low high : List ℤ) (last : ℤ) : Type 0 where
  pub lows : (u : ℕ) → u < k → get_or low u (pos 0) ≡ lifted start (start + length line) (line_of start line) (start + (2 * u + start % 2))
  pub highs : (u : ℕ) → u < k + start % 2 → get_or high u (pos 0) ≡ high_at start (start + length line) (line_of start line) (start + (2 * u + 1 - start % 2))
  pub before_next : last ≡ high_at start (start + length line) (line_of start line) (before start (start + length line) (start + (2 * k + start % 2)))
  pub within : IsBelow (2 ^ 30 - 1) last

-- all coefficients are written
pub AnalysesLine-all : (start : ℕ) (line low high : List ℤ) → 2 ≤ length line →
    ((u : ℕ) → u < low_length start (length line) → get_or low u (pos 0) ≡ lifted start (start + length line) (line_of start line) (start + (2 * u + start % 2))) →
    ((u : ℕ) → u < high_length start (length line) → get_or high u (pos 0) ≡ high_at start (start + length line) (line_of start line) (start + (2 * u + 1 - start % 2))) →
    AnalysesLine start line low high
AnalysesLine-all start line low high long lows highs i from to =
    elim (cases_eq (i % 2) 0) [
      | inl even ↦
          let u : ℕ = i / 2 - (start + 1) / 2 in
          let place : start + (2 * u + start % 2) ≡ i = omega arith in
          let l : u < low_length start (length line) = omega arith in
          rw even (lows u l ∙ ap (lifted start (start + length line) (line_of start line)) place)
      | inr ne ↦
          let odd : i % 2 ≡ 1 = omega arith in
          let u : ℕ = i / 2 - start / 2 in
          let place : start + (2 * u + 1 - start % 2) ≡ i = omega arith in
          let l : u < high_length start (length line) = omega arith in
          rw odd (highs u l ∙ ap (high_at start (start + length line) (line_of start line)) place ∙ sym (lifted_odd start (start + length line) (line_of start line) i (omega arith) odd))
    ]

-- only the coefficient before the first even place is known, and written where it is on the line
pub IsAnalysed-none : (start : ℕ) (line low high : List ℤ) (last : ℤ) → 2 ≤ length line →
    last ≡ high_at start (start + length line) (line_of start line) (before start (start + length line) (start + start % 2)) → IsBelow (2 ^ 30 - 1) last →
    (start % 2 ≡ 1 → get_or high 0 (pos 0) ≡ last) → IsAnalysed start 0 line low high last
IsAnalysed-none start line low high last long is_last small_last written =
    let n : ℕ = length line in
    let coefficient = high_at start (start + n) (line_of start line) in
    record {
      lows = λ u l. absurd (omega arith);
      highs = λ u l.
          let odd : start % 2 ≡ 1 = omega arith in
          let first : u ≡ 0 = omega arith in
          let place = before_at start n (start % 2) 0 long (omega arith) (λ h. omega arith) (λ h. omega arith) in
          ap (λ u. get_or high u (pos 0)) first ∙ written odd ∙ is_last ∙ ap coefficient (place ∙ omega arith);
      before_next = is_last ∙ ap (λ j. coefficient (before start (start + n) (start + j))) (omega arith);
      within = small_last;
    }

-- the next even place, which isn't the last
pub IsAnalysed-more : (start k : ℕ) (line low high : List ℤ) (last next value : ℤ) →
    IsAnalysed start k line low high last → All (IsBelow (2 ^ 29)) line → 2 * k + start % 2 + 2 < length line →
    k < length low → k + start % 2 < length high →
    next ≡ high_pass (read line (2 * k + start % 2 + 1)) (read line (2 * k + start % 2)) (read line (2 * k + start % 2 + 2)) → IsBelow (2 ^ 30 - 1) next →
    value ≡ low_pass (read line (2 * k + start % 2)) last (passed next) → SFits w32 value →
    IsAnalysed start (k + 1) line (set low k (passed value)) (set high (k + start % 2) (passed next)) (passed next)
IsAnalysed-more start k line low high last next value so_far small room low_room high_room is_next small_next is_value fits =
    let j : ℕ = 2 * k + start % 2 in
    let n : ℕ = length line in
    let at_next = high_read start line (j + 1) j (j + 2) (start + (j + 1)) next small (at_inside n (j + 1) j (j + 2) refl (omega arith) room) refl is_next in
    let right : after start (start + n) (start + j) ≡ start + (j + 1) = after_at start n j (j + 1) (omega arith) (omega arith) (λ h. refl) (λ h. omega arith) in
    let left : before start (start + n) (start + (2 * (k + 1) + start % 2)) ≡ start + (j + 1) =
    before_at start n (2 * (k + 1) + start % 2) (j + 1) (omega arith) (omega arith) (λ h. omega arith) (λ h. omega arith) in
    let coefficient = high_at start (start + n) (line_of start line) in
    let at_value = low_read start line j last (passed next) value small (omega arith) (omega arith) so_far.before_next (passed_is next small_next ∙ at_next ∙ ap coefficient (sym right)) is_value in
    record {
      lows = filled_more (λ u. lifted start (start + n) (line_of start line) (start + (2 * u + start % 2))) low k (passed value) low_room so_far.lows (to_z-of_z w32 value fits ∙ at_value);
      highs = λ u l. filled_more (λ u. coefficient (start + (2 * u + 1 - start % 2))) high (k + start % 2) (passed next) high_room so_far.highs
          (passed_is next small_next ∙ at_next ∙ ap coefficient (omega arith)) u (omega arith);
      before_next = passed_is next small_next ∙ at_next ∙ ap coefficient (sym left);
      within = rw (passed_is next small_next) small_next;
    }

-- the next pair, where its coefficients stand
analysed_pair : (start k : ℕ) (line low high : List ℤ) (last : ℤ) →
    IsAnalysed start k line low high last → All (IsBelow (2 ^ 29)) line → 2 * k + start % 2 + 2 < length line → (next : ℤ) →
    next ≡ high_pass (get_or line (2 * k + start % 2 + 1) (pos 0)) (get_or line (2 * k + start % 2) (pos 0)) (get_or line (2 * k + start % 2 + 2) (pos 0)) →
    get_or low k (pos 0) ≡ low_pass (get_or line (2 * k + start % 2) (pos 0)) last next →
    get_or high (k + start % 2) (pos 0) ≡ next →
    IsAnalysed start (k + 1) line low high next
analysed_pair start k line low high last so_far small room next is_next at_low at_high =
    let j : ℕ = 2 * k + start % 2 in
    let n : ℕ = length line in
    let as_read : high_pass (read line (j + 1)) (read line j) (read line (j + 2)) ≡ high_pass (get_or line (j + 1) (pos 0)) (get_or line j (pos 0)) (get_or line (j + 2) (pos 0)) =
    rw (read_is line small (j + 1), read_is line small j, read_is line small (j + 2)) refl in
    let low_as_read : low_pass (read line j) last next ≡ low_pass (get_or line j (pos 0)) last next = rw (read_is line small j) refl in
    let at_next = high_read start line (j + 1) j (j + 2) (start + (j + 1)) next small (at_inside n (j + 1) j (j + 2) refl (omega arith) room) refl (is_next ∙ sym as_read) in
    let right : after start (start + n) (start + j) ≡ start + (j + 1) = after_at start n j (j + 1) (omega arith) (omega arith) (λ h. refl) (λ h. omega arith) in
    let left : before start (start + n) (start + (2 * (k + 1) + start % 2)) ≡ start + (j + 1) =
    before_at start n (2 * (k + 1) + start % 2) (j + 1) (omega arith) (omega arith) (λ h. omega arith) (λ h. omega arith) in
    let coefficient = high_at start (start + n) (line_of start line) in
    let at_value = low_read start line j last next (get_or low k (pos 0)) small (omega arith) (omega arith) so_far.before_next (at_next ∙ ap coefficient (sym right)) (at_low ∙ sym low_as_read) in
    record {
      lows = below_more (λ u. get_or low u (pos 0) ≡ lifted start (start + n) (line_of start line) (start + (2 * u + start % 2))) k so_far.lows at_value;
      highs = λ u l. below_more (λ u. get_or high u (pos 0) ≡ coefficient (start + (2 * u + 1 - start % 2))) (k + start % 2) so_far.highs
          (at_high ∙ at_next ∙ ap coefficient (omega arith)) u (omega arith);
      before_next = at_next ∙ ap coefficient (sym left);
      within = rw is_next (high_pass-within _ _ _ (entry_below (2 ^ 29) line (omega arith) small (j + 1)) (entry_below (2 ^ 29) line (omega arith) small j)
          (entry_below (2 ^ 29) line (omega arith) small (j + 2)));
    }

-- the pairs up to the c-th of eight
analysed_pairs : (start k : ℕ) (line low low' high high' : List ℤ) (last : ℤ) →
    IsAnalysed start k line low high last → All (IsBelow (2 ^ 29)) line → 2 * k + start % 2 + 16 < length line →
    AreCoefficients line (2 * k + start % 2) last low low' k high high' (k + start % 2) →
    (c : ℕ) → c < 8 → IsAnalysed start (k + (c + 1)) line low' high' (get_or high' (k + start % 2 + c) (pos 0))
analysed_pairs start k line low low' high high' last so_far small room pairs zero l =
    let kept : IsAnalysed start k line low' high' last = record {
      lows = λ u l. pairs.low_front u l ∙ so_far.lows u l;
      highs = λ u l. pairs.high_front u l ∙ so_far.highs u l;
      before_next = so_far.before_next;
      within = so_far.within;
    } in
    let s : ℕ = start % 2 in
    let i : ℕ = 2 * k + s in
    let sample : ℕ → ℤ = λ u. get_or line u (pos 0) in
    let even : i + 2 * 0 ≡ i = omega arith in
    let place : k + s ≡ k + s + 0 = omega arith in
    analysed_pair start k line low' high' last kept small (omega arith) (get_or high' (k + s + 0) (pos 0))
    (pairs.highs 0 (omega arith) ∙ ap (λ u. high_pass (sample (i + (2 * 0 + 1))) (sample u) (sample (i + 2 * (0 + 1)))) even)
    (pairs.first ∙ ap (λ u. low_pass (sample i) last (get_or high' u (pos 0))) place)
    (ap (λ u. get_or high' u (pos 0)) place)
analysed_pairs start k line low low' high high' last so_far small room pairs (suc c) l =
    let s : ℕ = start % 2 in
    let i : ℕ = 2 * k + s in
    let before = analysed_pairs start k line low low' high high' last so_far small room pairs c (omega arith) in
    let sample : ℕ → ℤ = λ u. get_or line u (pos 0) in
    let even : i + 2 * (c + 1) ≡ 2 * (k + (c + 1)) + s = omega arith in
    let odd : i + (2 * (c + 1) + 1) ≡ 2 * (k + (c + 1)) + s + 1 = omega arith in
    let behind : i + 2 * (c + 1 + 1) ≡ 2 * (k + (c + 1)) + s + 2 = omega arith in
    let place : k + (c + 1) + s ≡ k + s + (c + 1) = omega arith in
    let next : k + (c + 1) + 1 ≡ k + (suc c + 1) = omega arith in
    let last_place : k + s + (c + 1) ≡ k + s + suc c = omega arith in
    subst (λ m. IsAnalysed start m line low' high' (get_or high' (k + s + suc c) (pos 0))) next
    (subst (λ m. IsAnalysed start (k + (c + 1) + 1) line low' high' (get_or high' m (pos 0))) last_place
    (analysed_pair start (k + (c + 1)) line low' high' _ before small (omega arith) (get_or high' (k + s + (c + 1)) (pos 0))
    (pairs.highs (c + 1) (omega arith) ∙ ap (λ u. high_pass (sample u) (sample (i + 2 * (c + 1))) (sample (i + 2 * (c + 1 + 1)))) odd
    ∙ ap (λ u. high_pass (sample (2 * (k + (c + 1)) + s + 1)) (sample u) (sample (i + 2 * (c + 1 + 1)))) even
    ∙ ap (λ u. high_pass (sample (2 * (k + (c + 1)) + s + 1)) (sample (2 * (k + (c + 1)) + s)) (sample u)) behind)
    (pairs.lows c (omega arith) ∙ ap (λ u. low_pass (sample u) (get_or high' (k + s + c) (pos 0)) (get_or high' (k + s + (c + 1)) (pos 0))) even)
    (ap (λ u. get_or high' u (pos 0)) place)))

pub IsAnalysed-eight : (start k : ℕ) (line low low' high high' : List ℤ) (last : ℤ) →
    IsAnalysed start k line low high last → All (IsBelow (2 ^ 29)) line → 2 * k + start % 2 + 16 < length line →
    AreCoefficients line (2 * k + start % 2) last low low' k high high' (k + start % 2) →
    IsAnalysed start (k + 8) line low' high' (get_or high' (k + start % 2 + 7) (pos 0))
IsAnalysed-eight start k line low low' high high' last so_far small room pairs =
    analysed_pairs start k line low low' high high' last so_far small room pairs 7 (omega arith)

-- an even place and an odd one are left
pub AnalysesLine-pair : (start k : ℕ) (line low high : List ℤ) (last next value : ℤ) →
    IsAnalysed start k line low high last → All (IsBelow (2 ^ 29)) line → 2 * k + start % 2 + 2 ≡ length line →
    length low ≡ k + 1 → length high ≡ k + start % 2 + 1 → 2 ≤ length line →
    next ≡ high_pass (read line (2 * k + start % 2 + 1)) (read line (2 * k + start % 2)) (read line (2 * k + start % 2)) → IsBelow (2 ^ 30 - 1) next →
    value ≡ low_pass (read line (2 * k + start % 2)) last (passed next) → SFits w32 value →
    AnalysesLine start line (set low k (passed value)) (set high (k + start % 2) (passed next))
AnalysesLine-pair start k line low high last next value so_far small room low_room high_room long is_next small_next is_value fits =
    let j : ℕ = 2 * k + start % 2 in
    let n : ℕ = length line in
    let at_next = high_read start line (j + 1) j j (start + (j + 1)) next small (at_last n (j + 1) j j refl refl (omega arith)) refl is_next in
    let right : after start (start + n) (start + j) ≡ start + (j + 1) = after_at start n j (j + 1) (omega arith) (omega arith) (λ h. refl) (λ h. omega arith) in
    let coefficient = high_at start (start + n) (line_of start line) in
    let at_value = low_read start line j last (passed next) value small long (omega arith) so_far.before_next (passed_is next small_next ∙ at_next ∙ ap coefficient (sym right)) is_value in
    AnalysesLine-all start line (set low k (passed value)) (set high (k + start % 2) (passed next)) long
    (λ u l. filled_more (λ u. lifted start (start + n) (line_of start line) (start + (2 * u + start % 2))) low k (passed value) (omega arith) so_far.lows (to_z-of_z w32 value fits ∙ at_value) u (omega arith))
    (λ u l. filled_more (λ u. coefficient (start + (2 * u + 1 - start % 2))) high (k + start % 2) (passed next) (omega arith) so_far.highs
    (passed_is next small_next ∙ at_next ∙ ap coefficient (omega arith)) u (omega arith))

-- an even place alone is left
pub AnalysesLine-even : (start k : ℕ) (line low high : List ℤ) (last value : ℤ) →
    IsAnalysed start k line low high last → All (IsBelow (2 ^ 29)) line → 2 * k + start % 2 + 1 ≡ length line →
    length low ≡ k + 1 → length high ≡ k + start % 2 → 2 ≤ length line →
    value ≡ low_pass (read line (2 * k + start % 2)) last last → SFits w32 value →
    AnalysesLine start line (set low k (passed value)) high
AnalysesLine-even start k line low high last value so_far small room low_room high_room long is_value fits =
    let j : ℕ = 2 * k + start % 2 in
    let n : ℕ = length line in
    let right : after start (start + n) (start + j) ≡ start + (j - 1) = after_at start n j (j - 1) (omega arith) (omega arith) (λ h. omega arith) (λ h. omega arith) in
    let left : before start (start + n) (start + j) ≡ start + (j - 1) = before_at start n j (j - 1) (omega arith) (omega arith) (λ h. omega arith) (λ h. omega arith) in
    let coefficient = high_at start (start + n) (line_of start line) in
    let at_value = low_read start line j last last value small long (omega arith) so_far.before_next (so_far.before_next ∙ ap coefficient (left ∙ sym right)) is_value in
    AnalysesLine-all start line (set low k (passed value)) high long
    (λ u l. filled_more (λ u. lifted start (start + n) (line_of start line) (start + (2 * u + start % 2))) low k (passed value) (omega arith) so_far.lows (to_z-of_z w32 value fits ∙ at_value) u (omega arith))
    (λ u l. so_far.highs u (omega arith))

-- a single sample
pub AnalysesLine-one_even : (start : ℕ) (line low high : List ℤ) → length line ≡ 1 → start % 2 ≡ 0 →
    get_or low 0 (pos 0) ≡ get_or line 0 (pos 0) → AnalysesLine start line low high
AnalysesLine-one_even start line low high one even e i from to =
    let here : start + 0 ≡ i = omega arith in
    let end : ℕ = start + length line in
    subst (λ i. woven start low high i ≡ lifted start end (line_of start line) i) here
    (woven_low start low high 0 0 (omega arith) ∙ e ∙ sym (line_of_at start line 0) ∙ sym (lifted_one_even start end (line_of start line) (start + 0) (omega arith) (omega arith)))

pub AnalysesLine-one_odd : (start : ℕ) (line low high : List ℤ) → length line ≡ 1 → start % 2 ≡ 1 →
    get_or high 0 (pos 0) ≡ get_or line 0 (pos 0) +ℤ get_or line 0 (pos 0) → AnalysesLine start line low high
AnalysesLine-one_odd start line low high one odd e i from to =
    let here : start + 0 ≡ i = omega arith in
    let end : ℕ = start + length line in
    subst (λ i. woven start low high i ≡ lifted start end (line_of start line) i) here
    (woven_high start low high 0 0 (omega arith) ∙ e ∙ sym (ap (λ x. x +ℤ x) (line_of_at start line 0)) ∙ sym (lifted_one_odd start end (line_of start line) (start + 0) (omega arith) (omega arith)))

-- what the code's `2 * x` gives
pub doubled_is : (x : ℤ) → IsBelow (2 ^ 29) x → passed (pos 2 *ℤ passed x) ≡ x +ℤ x
doubled_is x l =
    let twice : pos 2 *ℤ x ≡ x +ℤ x = omega (arith, ints) in
    rw (to_z-of_z w32 x (omega (arith, ints)), twice) (to_z-of_z w32 (x +ℤ x) (omega (arith, ints)))
