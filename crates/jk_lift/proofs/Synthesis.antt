-- How far the synthesis of a line has come.
use Rattle.std.proofs.Common.{◌≡◌, ℕ, ℤ, List, ◌+◌, ◌-◌, ◌*◌, ◌%◌, ◌^◌, ◌<◌, ◌≤◌, length, get_or, set, pos, zero, suc, refl, sym, ◌∙◌, ap, subst, arith, w32}
use mir.Val.{SFits}
use lib.Signed.{shr_z}
use Rattle.std.specs.List.{All}
use Rattle.std.proofs.lemmas.Int.{ints, to_z-of_z}
use Rattle.std.proofs.lemmas.List.{length-set}
use Rattle.jk_math.specs.Division.{floor_of}
use Rattle.jk_lift.specs.Lifting.{before, after, even_sample, odd_sample, even_at, unlifted}
use Rattle.jk_math.specs.Signed.{IsBelow}
use Rattle.jk_lift.specs.Samples.{line_of, woven, SynthesisesLine}
use Rattle.jk_lift.specs.Pairs.{AreSamples}
use borrow.Author.Count.{below_more}
use Rattle.jk_math.proofs.Laws.{half_high, half_low, shr-floor_of}
use Rattle.jk_lift.proofs.Neighbours.{before_at, after_at}
use Rattle.jk_lift.proofs.Equations.{unlifted_even, unlifted_one_even, unlifted_one_odd, line_of_at}
use Rattle.jk_lift.proofs.Halving.{even_sample-within}
use Rattle.jk_lift.proofs.Places.{read, read_is, entry_below, passed, passed_is, even_read, odd_read, filled_more, at_inside, at_last, woven_low, woven_high}

-- The samples before the odd place k are written, of n; last is the sample before that place.
pub record IsSynthesised (start n k : ℕ) (low high line : List ℤ) (last : ℤ) : Type 0 where
  pub samples : (j : ℕ) → j < 2 * k + (1 - start % 2) → get_or line j (pos 0) ≡ unlifted start (start + n) (woven start low high) (start + j)
  pub before_next : last ≡ even_at start (start + n) (woven start low high) (before start (start + n) (start + (2 * k + (1 - start % 2))))
  pub within : IsBelow (2 ^ 30 - 1) last

-- all samples are written
pub SynthesisesLine-all : (start n : ℕ) (low high line : List ℤ) → length line ≡ n →
    ((j : ℕ) → j < n → get_or line j (pos 0) ≡ unlifted start (start + n) (woven start low high) (start + j)) →
    SynthesisesLine start low high line
SynthesisesLine-all start n low high line long samples i from to =
    let back : start + (i - start) ≡ i = omega arith in
    rw long (samples (i - start) (omega arith) ∙ ap (unlifted start (start + n) (woven start low high)) back)

-- only the sample before the first odd place is known, and written where it is on the line
pub IsSynthesised-none : (start n : ℕ) (low high line : List ℤ) (last : ℤ) → 2 ≤ n →
    last ≡ even_at start (start + n) (woven start low high) (before start (start + n) (start + (1 - start % 2))) → IsBelow (2 ^ 30 - 1) last →
    (start % 2 ≡ 0 → get_or line 0 (pos 0) ≡ last) → IsSynthesised start n 0 low high line last
IsSynthesised-none start n low high line last long is_last small_last written =
    let sample = even_at start (start + n) (woven start low high) in
    record {
      samples = λ j l.
          let even : start % 2 ≡ 0 = omega arith in
          let first : j ≡ 0 = omega arith in
          let place = before_at start n (1 - start % 2) 0 long (omega arith) (λ h. omega arith) (λ h. omega arith) in
          ap (λ u. get_or line u (pos 0)) first ∙ written even ∙ is_last ∙ ap sample (place ∙ omega arith)
          ∙ sym (unlifted_even start (start + n) (woven start low high) (start + j) (omega arith) (omega arith));
      before_next = is_last ∙ ap (λ j. sample (before start (start + n) (start + j))) (omega arith);
      within = small_last;
    }

-- the next odd place, which isn't the last but one
pub IsSynthesised-more : (start n k : ℕ) (low high line : List ℤ) (last next value : ℤ) →
    IsSynthesised start n k low high line last → All (IsBelow (2 ^ 29)) low → All (IsBelow (2 ^ 29)) high → length line ≡ n →
    2 * k + (1 - start % 2) + 2 < n →
    next ≡ even_sample (read low (k + (1 - start % 2))) (read high k) (read high (k + 1)) → IsBelow (2 ^ 30 - 1) next →
    value ≡ odd_sample (read high k) last (passed next) → SFits w32 value →
    IsSynthesised start n (k + 1) low high (set (set line (2 * k + (1 - start % 2)) (passed value)) (2 * k + (1 - start % 2) + 1) (passed next)) (passed next)
IsSynthesised-more start n k low high line last next value so_far small_low small_high long room is_next small_next is_value fits =
    let t : ℕ = 1 - start % 2 in
    let j : ℕ = 2 * k + t in
    let at_next = even_read start n low high (k + t) k (k + 1) (j + 1) j (j + 2) (start + (j + 1)) next small_low small_high
    (at_inside n (j + 1) j (j + 2) refl (omega arith) room) (omega arith) (omega arith) (omega arith) refl is_next in
    let right : after start (start + n) (start + j) ≡ start + (j + 1) = after_at start n j (j + 1) (omega arith) (omega arith) (λ h. refl) (λ h. omega arith) in
    let left : before start (start + n) (start + (2 * (k + 1) + t)) ≡ start + (j + 1) =
    before_at start n (2 * (k + 1) + t) (j + 1) (omega arith) (omega arith) (λ h. omega arith) (λ h. omega arith) in
    let sample = even_at start (start + n) (woven start low high) in
    let whole = unlifted start (start + n) (woven start low high) in
    let at_value = odd_read start n low high k j last (passed next) value small_high (omega arith) (omega arith) so_far.before_next
    (passed_is next small_next ∙ at_next ∙ ap sample (sym right)) is_value in
    let first = filled_more (λ u. whole (start + u)) line j (passed value) (omega arith) so_far.samples (to_z-of_z w32 value fits ∙ at_value) in
    let both = filled_more (λ u. whole (start + u)) (set line j (passed value)) (j + 1) (passed next) (rw length-set (omega arith)) first
    (passed_is next small_next ∙ at_next ∙ sym (unlifted_even start (start + n) (woven start low high) (start + (j + 1)) (omega arith) (omega arith))) in
    record {
      samples = λ u l. both u (omega arith);
      before_next = passed_is next small_next ∙ at_next ∙ ap sample (sym left);
      within = rw (passed_is next small_next) small_next;
    }

-- the next pair, where its samples stand on the line
synthesised_pair : (start n k : ℕ) (low high line : List ℤ) (last : ℤ) →
    IsSynthesised start n k low high line last → All (IsBelow (2 ^ 29)) low → All (IsBelow (2 ^ 29)) high →
    2 * k + (1 - start % 2) + 2 < n → (next : ℤ) →
    next ≡ even_sample (get_or low (k + (1 - start % 2)) (pos 0)) (get_or high k (pos 0)) (get_or high (k + 1) (pos 0)) →
    get_or line (2 * k + (1 - start % 2)) (pos 0) ≡ odd_sample (get_or high k (pos 0)) last next →
    get_or line (2 * k + (1 - start % 2) + 1) (pos 0) ≡ next →
    IsSynthesised start n (k + 1) low high line next
synthesised_pair start n k low high line last so_far small_low small_high room next is_next at_odd at_even =
    let t : ℕ = 1 - start % 2 in
    let j : ℕ = 2 * k + t in
    let as_read : even_sample (read low (k + t)) (read high k) (read high (k + 1)) ≡ even_sample (get_or low (k + t) (pos 0)) (get_or high k (pos 0)) (get_or high (k + 1) (pos 0)) =
    rw (read_is low small_low (k + t), read_is high small_high k, read_is high small_high (k + 1)) refl in
    let odd_as_read : odd_sample (read high k) last next ≡ odd_sample (get_or high k (pos 0)) last next = rw (read_is high small_high k) refl in
    let at_next = even_read start n low high (k + t) k (k + 1) (j + 1) j (j + 2) (start + (j + 1)) next small_low small_high
    (at_inside n (j + 1) j (j + 2) refl (omega arith) room) (omega arith) (omega arith) (omega arith) refl (is_next ∙ sym as_read) in
    let right : after start (start + n) (start + j) ≡ start + (j + 1) = after_at start n j (j + 1) (omega arith) (omega arith) (λ h. refl) (λ h. omega arith) in
    let left : before start (start + n) (start + (2 * (k + 1) + t)) ≡ start + (j + 1) =
    before_at start n (2 * (k + 1) + t) (j + 1) (omega arith) (omega arith) (λ h. omega arith) (λ h. omega arith) in
    let sample = even_at start (start + n) (woven start low high) in
    let whole = unlifted start (start + n) (woven start low high) in
    let at_value = odd_read start n low high k j last next (get_or line j (pos 0)) small_high (omega arith) (omega arith) so_far.before_next
    (at_next ∙ ap sample (sym right)) (at_odd ∙ sym odd_as_read) in
    let P : ℕ → Type 0 = λ u. get_or line u (pos 0) ≡ whole (start + u) in
    let first = below_more P j so_far.samples at_value in
    let both = below_more P (j + 1) first
    (at_even ∙ at_next ∙ sym (unlifted_even start (start + n) (woven start low high) (start + (j + 1)) (omega arith) (omega arith))) in
    record {
      samples = λ u l. both u (omega arith);
      before_next = at_next ∙ ap sample (sym left);
      within = rw is_next (even_sample-within _ _ _ (entry_below (2 ^ 29) low (omega arith) small_low (k + t)) (entry_below (2 ^ 29) high (omega arith) small_high k)
          (entry_below (2 ^ 29) high (omega arith) small_high (k + 1)));
    }

-- the pairs up to the c-th of eight
synthesised_pairs : (start n k : ℕ) (low high old new : List ℤ) (last : ℤ) →
    IsSynthesised start n k low high old last → All (IsBelow (2 ^ 29)) low → All (IsBelow (2 ^ 29)) high →
    2 * k + (1 - start % 2) + 16 < n → AreSamples low (k + (1 - start % 2)) high k last old new (2 * k + (1 - start % 2)) →
    (c : ℕ) → c < 8 → IsSynthesised start n (k + (c + 1)) low high new (get_or new (2 * k + (1 - start % 2) + (2 * c + 1)) (pos 0))
synthesised_pairs start n k low high old new last so_far small_low small_high room pairs zero l =
    let kept : IsSynthesised start n k low high new last = record {
      samples = λ j l. pairs.front j l ∙ so_far.samples j l;
      before_next = so_far.before_next;
      within = so_far.within;
    } in
    let t : ℕ = 1 - start % 2 in
    let low_place : k + t + 0 ≡ k + t = omega arith in
    let high_place : k + 0 ≡ k = omega arith in
    synthesised_pair start n k low high new last kept small_low small_high (omega arith) (get_or new (2 * k + t + (2 * 0 + 1)) (pos 0))
    (pairs.evens 0 (omega arith) ∙ ap (λ u. even_sample (get_or low u (pos 0)) (get_or high (k + 0) (pos 0)) (get_or high (k + (0 + 1)) (pos 0))) low_place
    ∙ ap (λ u. even_sample (get_or low (k + t) (pos 0)) (get_or high u (pos 0)) (get_or high (k + (0 + 1)) (pos 0))) high_place)
    pairs.first refl
synthesised_pairs start n k low high old new last so_far small_low small_high room pairs (suc c) l =
    let t : ℕ = 1 - start % 2 in
    let i : ℕ = 2 * k + t in
    let before = synthesised_pairs start n k low high old new last so_far small_low small_high room pairs c (omega arith) in
    let place : 2 * (k + (c + 1)) + t ≡ i + 2 * (c + 1) = omega arith in
    let behind : 2 * (k + (c + 1)) + t + 1 ≡ i + (2 * (c + 1) + 1) = omega arith in
    let low_place : k + t + (c + 1) ≡ k + (c + 1) + t = omega arith in
    let high_place : k + (c + 1 + 1) ≡ k + (c + 1) + 1 = omega arith in
    let here : ℤ = get_or high (k + (c + 1)) (pos 0) in
    let next : k + (c + 1) + 1 ≡ k + (suc c + 1) = omega arith in
    let last_place : i + (2 * (c + 1) + 1) ≡ i + (2 * suc c + 1) = omega arith in
    subst (λ m. IsSynthesised start n m low high new (get_or new (i + (2 * suc c + 1)) (pos 0))) next
    (subst (λ m. IsSynthesised start n (k + (c + 1) + 1) low high new (get_or new m (pos 0))) last_place
    (synthesised_pair start n (k + (c + 1)) low high new _ before small_low small_high (omega arith) (get_or new (i + (2 * (c + 1) + 1)) (pos 0))
    (pairs.evens (c + 1) (omega arith) ∙ ap (λ u. even_sample (get_or low u (pos 0)) here (get_or high (k + (c + 1 + 1)) (pos 0))) low_place
    ∙ ap (λ u. even_sample (get_or low (k + (c + 1) + t) (pos 0)) here (get_or high u (pos 0))) high_place)
    (ap (λ u. get_or new u (pos 0)) place ∙ pairs.odds c (omega arith))
    (ap (λ u. get_or new u (pos 0)) behind)))

pub IsSynthesised-eight : (start n k : ℕ) (low high old new : List ℤ) (last : ℤ) →
    IsSynthesised start n k low high old last → All (IsBelow (2 ^ 29)) low → All (IsBelow (2 ^ 29)) high →
    2 * k + (1 - start % 2) + 16 < n → AreSamples low (k + (1 - start % 2)) high k last old new (2 * k + (1 - start % 2)) →
    IsSynthesised start n (k + 8) low high new (get_or new (2 * k + (1 - start % 2) + 15) (pos 0))
IsSynthesised-eight start n k low high old new last so_far small_low small_high room pairs =
    synthesised_pairs start n k low high old new last so_far small_low small_high room pairs 7 (omega arith)

-- an odd place and an even one are left
pub SynthesisesLine-pair : (start n k : ℕ) (low high line : List ℤ) (last next value : ℤ) →
    IsSynthesised start n k low high line last → All (IsBelow (2 ^ 29)) low → All (IsBelow (2 ^ 29)) high → length line ≡ n →
    2 * k + (1 - start % 2) + 2 ≡ n →
    next ≡ even_sample (read low (k + (1 - start % 2))) (read high k) (read high k) → IsBelow (2 ^ 30 - 1) next →
    value ≡ odd_sample (read high k) last (passed next) → SFits w32 value →
    SynthesisesLine start low high (set (set line (2 * k + (1 - start % 2)) (passed value)) (2 * k + (1 - start % 2) + 1) (passed next))
SynthesisesLine-pair start n k low high line last next value so_far small_low small_high long room is_next small_next is_value fits =
    let t : ℕ = 1 - start % 2 in
    let j : ℕ = 2 * k + t in
    let at_next = even_read start n low high (k + t) k k (j + 1) j j (start + (j + 1)) next small_low small_high
    (at_last n (j + 1) j j refl refl (omega arith)) (omega arith) (omega arith) (omega arith) refl is_next in
    let right : after start (start + n) (start + j) ≡ start + (j + 1) = after_at start n j (j + 1) (omega arith) (omega arith) (λ h. refl) (λ h. omega arith) in
    let sample = even_at start (start + n) (woven start low high) in
    let whole = unlifted start (start + n) (woven start low high) in
    let at_value = odd_read start n low high k j last (passed next) value small_high (omega arith) (omega arith) so_far.before_next
    (passed_is next small_next ∙ at_next ∙ ap sample (sym right)) is_value in
    let first = filled_more (λ u. whole (start + u)) line j (passed value) (omega arith) so_far.samples (to_z-of_z w32 value fits ∙ at_value) in
    let both = filled_more (λ u. whole (start + u)) (set line j (passed value)) (j + 1) (passed next) (rw length-set (omega arith)) first
    (passed_is next small_next ∙ at_next ∙ sym (unlifted_even start (start + n) (woven start low high) (start + (j + 1)) (omega arith) (omega arith))) in
    SynthesisesLine-all start n low high _ (rw (length-set, length-set) long) (λ u l. both u (omega arith))

-- an odd place alone is left
pub SynthesisesLine-odd : (start n k : ℕ) (low high line : List ℤ) (last value : ℤ) →
    IsSynthesised start n k low high line last → All (IsBelow (2 ^ 29)) low → All (IsBelow (2 ^ 29)) high → length line ≡ n → 2 ≤ n →
    2 * k + (1 - start % 2) + 1 ≡ n →
    value ≡ odd_sample (read high k) last last → SFits w32 value →
    SynthesisesLine start low high (set line (2 * k + (1 - start % 2)) (passed value))
SynthesisesLine-odd start n k low high line last value so_far small_low small_high long two room is_value fits =
    let t : ℕ = 1 - start % 2 in
    let j : ℕ = 2 * k + t in
    let right : after start (start + n) (start + j) ≡ start + (j - 1) = after_at start n j (j - 1) (omega arith) (omega arith) (λ h. omega arith) (λ h. omega arith) in
    let left : before start (start + n) (start + j) ≡ start + (j - 1) = before_at start n j (j - 1) (omega arith) (omega arith) (λ h. omega arith) (λ h. omega arith) in
    let sample = even_at start (start + n) (woven start low high) in
    let whole = unlifted start (start + n) (woven start low high) in
    let at_value = odd_read start n low high k j last last value small_high (omega arith) (omega arith) so_far.before_next
    (so_far.before_next ∙ ap sample (left ∙ sym right)) is_value in
    let first = filled_more (λ u. whole (start + u)) line j (passed value) (omega arith) so_far.samples (to_z-of_z w32 value fits ∙ at_value) in
    SynthesisesLine-all start n low high _ (rw length-set long) (λ u l. first u (omega arith))

-- a single coefficient
pub SynthesisesLine-one_even : (start : ℕ) (low high line : List ℤ) → length line ≡ 1 → start % 2 ≡ 0 →
    get_or line 0 (pos 0) ≡ get_or low 0 (pos 0) → SynthesisesLine start low high line
SynthesisesLine-one_even start low high line one even e i from to =
    let here : start + 0 ≡ i = omega arith in
    let end : ℕ = start + length line in
    subst (λ i. line_of start line i ≡ unlifted start end (woven start low high) i) here
    (line_of_at start line 0 ∙ e ∙ sym (woven_low start low high 0 0 (omega arith)) ∙ sym (unlifted_one_even start end (woven start low high) (start + 0) (omega arith) (omega arith)))

pub SynthesisesLine-one_odd : (start : ℕ) (low high line : List ℤ) → length line ≡ 1 → start % 2 ≡ 1 →
    get_or line 0 (pos 0) ≡ floor_of (get_or high 0 (pos 0)) 2 → SynthesisesLine start low high line
SynthesisesLine-one_odd start low high line one odd e i from to =
    let here : start + 0 ≡ i = omega arith in
    let end : ℕ = start + length line in
    subst (λ i. line_of start line i ≡ unlifted start end (woven start low high) i) here
    (line_of_at start line 0 ∙ e ∙ sym (ap (λ y. floor_of y 2) (woven_high start low high 0 0 (omega arith))) ∙ sym (unlifted_one_odd start end (woven start low high) (start + 0) (omega arith) (omega arith)))

-- what the code's `y >> 1` gives
pub halved_is : (y : ℤ) → IsBelow (2 ^ 29) y → passed (shr_z (passed y) 2) ≡ floor_of y 2
halved_is y l =
    let h = half_high y in
    let k = half_low y in
    rw (to_z-of_z w32 y (omega (arith, ints)), shr-floor_of) (to_z-of_z w32 (floor_of y 2) (omega (arith, ints, h, k)))
