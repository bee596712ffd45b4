-- The indices of pairs of columns, and pairs put one behind another.
use Rattle.std.proofs.Common.{◌≡◌, ℕ, suc, ◌+◌, ◌-◌, ◌*◌, ◌/◌, ◌%◌, ◌^◌, ◌<◌, ◌≤◌, Bool, true, false, ◌++◌, List, map, get_or, refl, sym, ap, ◌∙◌, subst, append_assoc, append-nil, inl, inr, arith}
use Rattle.std.specs.Prelude.{◌&&◌, ◌||◌, nat_lt}
use Rattle.std.specs.Int.RustNames.{bit_or, bit_and}
use Rattle.std.proofs.lemmas.Bool.{cases_lt}
use Rattle.std.proofs.lemmas.Bool.Decides.{nat_tests}
use Rattle.std.proofs.lemmas.List.{map-append}
use Rattle.std.proofs.lemmas.Nat.{and_le_r}
use Rattle.jk_scan.specs.Bits.{on}
use Rattle.jk_scan.specs.Passes.{Decided, joined}
use Rattle.jk_scan.specs.WordNumbers.{byte_of, byte_at}
use Rattle.jk_scan.specs.Words.{of_rows}
use Rattle.jk_scan.proofs.BitLaws.{on_or, on_and, on_shr_at}
use Rattle.jk_scan.proofs.HalfBits.{lows}
use Rattle.jk_scan.proofs.Patterns.{all_below, all_at, same, same_is}
use Rattle.jk_mqenc.specs.Encoded.{decision_of}
use Rattle.jk_columns.specs.Pairs.{IsPairIndex, pair_bytes, member_bytes}
use Rattle.jk_columns.specs.Sheets.{IsSheet, told}
use Rattle.jk_columns.proofs.Indices.{ones_low}

quarters : (k : ℕ) → k < 64 → on 0x00FF_00FF_00FF_00FF k ≡ nat_lt (k % 16) 8
unfolding all_below same on
quarters k h = same_is (on 0x00FF_00FF_00FF_00FF k) (nat_lt (k % 16) 8) (all_at 64 (λ k. same (on 0x00FF_00FF_00FF_00FF k) (nat_lt (k % 16) 8)) refl k h)

first_only : (x l y m q : Bool) → l ≡ true → m ≡ false → q ≡ true → (((x && l) || (y && m)) && q) ≡ x
first_only x l y m q e f g = grind (arith, nat_tests)

second_only : (x l y m q : Bool) → l ≡ false → m ≡ true → q ≡ true → (((x && l) || (y && m)) && q) ≡ y
second_only x l y m q e f g = grind (arith, nat_tests)

abbrev own_of : ℕ → ℕ
own_of members = bit_and (members / 2 ^ 1) 0x0F0F_0F0F_0F0F_0F0F

quarter_bit : (members m : ℕ) → m < 60
    → on (bit_and (bit_or (own_of members) (own_of members / 2 ^ 4)) 0x00FF_00FF_00FF_00FF) m
    ≡ (((on members (m + 1) && on 0x0F0F_0F0F_0F0F_0F0F m) || (on members (m + 5) && on 0x0F0F_0F0F_0F0F_0F0F (m + 4))) && on 0x00FF_00FF_00FF_00FF m)
quarter_bit members m h =
    on_and (bit_or (own_of members) (own_of members / 2 ^ 4)) 0x00FF_00FF_00FF_00FF m
    ∙ ap (λ b. b && on 0x00FF_00FF_00FF_00FF m) (on_or (own_of members) (own_of members / 2 ^ 4) m)
    ∙ ap (λ b. (b || on (own_of members / 2 ^ 4) m) && on 0x00FF_00FF_00FF_00FF m) (own m (m + 1) (omega arith))
    ∙ ap (λ b. ((on members (m + 1) && on 0x0F0F_0F0F_0F0F_0F0F m) || b) && on 0x00FF_00FF_00FF_00FF m) (on_shr_at (own_of members) 4 (m + 4) m (omega arith) ∙ own (m + 4) (m + 5) (omega arith))
  where
    own : (m n : ℕ) → n ≡ 1 + m → on (own_of members) m ≡ (on members n && on 0x0F0F_0F0F_0F0F_0F0F m)
    own m n e = on_and (members / 2 ^ 1) 0x0F0F_0F0F_0F0F_0F0F m ∙ ap (λ b. b && on 0x0F0F_0F0F_0F0F_0F0F m) (on_shr_at members 1 n m e)

pub indices_are : (members p k : ℕ) → p < 4 → k < 8
    → on (bit_and (bit_or (own_of members) (own_of members / 2 ^ 4)) 0x00FF_00FF_00FF_00FF) (16 * p + k) ≡ on members (8 * (2 * p + k / 4) + (k % 4 + 1))
indices_are members p k h l =
    quarter_bit members m (omega arith)
    ∙ elim (cases_lt k 4) [
      | inl less ↦
          first_only (on members (m + 1)) (on 0x0F0F_0F0F_0F0F_0F0F m) (on members (m + 5)) (on 0x0F0F_0F0F_0F0F_0F0F (m + 4)) (on 0x00FF_00FF_00FF_00FF m) (low m (omega arith) (omega (arith, less))) (high (m + 4) (omega (arith, less)) (omega (arith, less))) quarter
          ∙ ap (on members) (let e : m + 1 ≡ 8 * (2 * p + k / 4) + (k % 4 + 1) = omega (arith, less) in e)
      | inr more ↦
          second_only (on members (m + 1)) (on 0x0F0F_0F0F_0F0F_0F0F m) (on members (m + 5)) (on 0x0F0F_0F0F_0F0F_0F0F (m + 4)) (on 0x00FF_00FF_00FF_00FF m) (high m (omega arith) (omega (arith, more))) (low (m + 4) (omega arith) (omega (arith, more))) quarter
          ∙ ap (on members) (let e : m + 5 ≡ 8 * (2 * p + k / 4) + (k % 4 + 1) = omega (arith, more) in e)
    ]
  where
    m : ℕ
    m = 16 * p + k

    lt : (a b : ℕ) → a < b → nat_lt a b ≡ true
    lt a b e = grind (arith, nat_tests)

    ge : (a b : ℕ) → b ≤ a → nat_lt a b ≡ false
    ge a b e = grind (arith, nat_tests)

    low : (i : ℕ) → i < 64 → i % 8 < 4 → on 0x0F0F_0F0F_0F0F_0F0F i ≡ true
    low i a b = lows i a ∙ lt (i % 8) 4 b

    high : (i : ℕ) → i < 64 → 4 ≤ i % 8 → on 0x0F0F_0F0F_0F0F_0F0F i ≡ false
    high i a b = lows i a ∙ ge (i % 8) 4 b

    quarter : on 0x00FF_00FF_00FF_00FF m ≡ true
    quarter = quarters m (omega arith) ∙ lt (m % 16) 8 (omega arith)

pub pair_index_is : (w p members : ℕ) → p < 4 → ((p k : ℕ) → p < 4 → k < 8 → on w (16 * p + k) ≡ on members (8 * (2 * p + k / 4) + (k % 4 + 1))) → IsPairIndex members p (bit_and (w / 2 ^ (16 * p)) 255)
pair_index_is w p members h are = record {
  small = (let a = and_le_r (w / 2 ^ (16 * p)) 255 in omega (arith, a));
  members_are = λ k l. on_and (w / 2 ^ (16 * p)) 255 k ∙ only (on (w / 2 ^ (16 * p)) k) (on 255 k) (ones_low k l) ∙ on_shr_at w (16 * p) (16 * p + k) k refl ∙ are p k h l;
}
  where
    only : (a m : Bool) → m ≡ true → (a && m) ≡ a
    only a m e = grind (arith, nat_tests)

-- the first p pairs are put
pub record PairsTo (rows : List ℕ) (members : ℕ) (old : List ℕ) (before : ℕ) (bytes : List ℕ) (count p : ℕ) : Type 0 where
  pub listed : (part : ℕ → Decided) → ((c : ℕ) → c < 8 → map decision_of (member_bytes rows members c) ≡ part c) → told bytes count ≡ told old before ++ joined (2 * p) part
  pub few : count ≤ before + 8 * p
  pub sheet : (n : ℕ) → IsSheet old n → IsSheet bytes n

pub pairs_none : (rows : List ℕ) (members : ℕ) (old : List ℕ) (before : ℕ) → PairsTo rows members old before old before 0
unfolding joined
pairs_none rows members old before = record { listed = λ part d. sym (append-nil (told old before)); few = omega arith; sheet = λ n h. h }

pub pairs_more : (rows : List ℕ) (members : ℕ) (old : List ℕ) (before : ℕ) (bytes bytes' : List ℕ) (count count' p index : ℕ) (xs : List ℕ) → PairsTo rows members old before bytes count p → p < 4
    → pair_bytes xs index ≡ member_bytes rows members (2 * p) ++ member_bytes rows members (2 * p + 1)
    → told bytes' count' ≡ told bytes count ++ map decision_of (pair_bytes xs index) → count' ≤ count + 8 → ((n : ℕ) → IsSheet bytes n → IsSheet bytes' n)
    → PairsTo rows members old before bytes' count' (p + 1)
unfolding joined
pairs_more rows members old before bytes bytes' count count' p index xs h within both e few sheet = record {
  listed = λ part d.
      e ∙ ap (λ (ds : Decided). told bytes count ++ ds) (ap (map decision_of) both ∙ map-append decision_of (member_bytes rows members (2 * p)) (member_bytes rows members (2 * p + 1)))
      ∙ ap (λ (ds : Decided). told bytes count ++ (ds ++ map decision_of (member_bytes rows members (2 * p + 1)))) (d (2 * p) (omega arith))
      ∙ ap (λ (ds : Decided). told bytes count ++ (part (2 * p) ++ ds)) (d (2 * p + 1) (omega arith))
      ∙ ap (λ (ds : Decided). ds ++ (part (2 * p) ++ part (2 * p + 1))) (h.listed part d)
      ∙ four (told old before) (joined (2 * p) part) (part (2 * p)) (part (2 * p + 1)) ∙ step part;
  few = (let f = h.few in omega (arith, f, few));
  sheet = λ n s. sheet n (h.sheet n s);
}
  where
    four : (a b c d : Decided) → (a ++ b) ++ (c ++ d) ≡ a ++ ((b ++ c) ++ d)
    four a b c d = simp append_assoc

    step : (part : ℕ → Decided) → told old before ++ ((joined (2 * p) part ++ part (2 * p)) ++ part (2 * p + 1)) ≡ told old before ++ joined (2 * (p + 1)) part
    step part = ap (λ n. told old before ++ ((joined (2 * p) part ++ part (2 * p)) ++ part n)) (let g : 2 * p + 1 ≡ suc (2 * p) = omega arith in g) ∙ ap (λ n. told old before ++ joined n part) (let g : suc (suc (2 * p)) ≡ 2 * (p + 1) = omega arith in g)

-- each byte of a pair has a context's number
pub pair_small : (rows : List ℕ) (own p : ℕ) → p < 4 → ((k : ℕ) → k < 64 → of_rows (k % 8) ≡ true → byte_at rows k < 38) → ((k : ℕ) → k < 8 → byte_of own k ≡ byte_of (get_or rows (k % 4) 0) (2 * p + k / 4))
    → (xs : List ℕ) → ((k : ℕ) → k < 8 → get_or xs k 0 ≡ byte_of own k) → (k : ℕ) → k < 8 → get_or xs k 0 / 2 < 19
pair_small rows own p h small bytes xs are k l = half (get_or xs k 0) (subst (λ b. b < 38) (sym (are k l ∙ bytes k l ∙ sym (own_byte (2 * p + k / 4) (k % 4) (omega arith)))) (small (8 * (2 * p + k / 4) + (k % 4 + 1)) (omega arith) (on_row (2 * p + k / 4) (k % 4) (omega arith))))
  where
    half : (b : ℕ) → b < 38 → b / 2 < 19
    half b l = omega arith

    on_row : (c r : ℕ) → r < 4 → of_rows ((8 * c + (r + 1)) % 8) ≡ true
    on_row c r l = let e : (8 * c + (r + 1)) % 8 ≡ r + 1 = omega (arith, l) in grind (arith, nat_tests)

    own_byte : (c r : ℕ) → r < 4 → byte_at rows (8 * c + (r + 1)) ≡ byte_of (get_or rows r 0) c
    own_byte c r l = ap (λ k. byte_of (get_or rows k 0) ((8 * c + (r + 1)) / 8)) (let e : (8 * c + (r + 1)) % 8 - 1 ≡ r = omega (arith, l) in e) ∙ ap (byte_of (get_or rows r 0)) (let e : (8 * c + (r + 1)) / 8 ≡ c = omega (arith, l) in e)
