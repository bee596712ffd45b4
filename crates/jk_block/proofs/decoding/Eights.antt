-- Eight coefficients of a row at once.
use Rattle.std.proofs.Common.{◌≡◌, ℕ, zero, suc, ◌+◌, ◌-◌, ◌*◌, ◌/◌, ◌%◌, ◌^◌, ◌<◌, ◌≤◌, Bool, true, false, cond, List, [], ◌∷◌, ◌++◌, length, get_or, map, min, ℤ, pos, neg_ℤ, unsigned_abs, refl, sym, ap, ◌∙◌, subst, append_assoc, append-nil, inl, inr, arith}
use Rattle.std.specs.Prelude.{◌&&◌, ◌||◌, nat_eq, nat_lt, ◌-ℤ◌}
use Rattle.std.specs.List.{range_with_len}
use Rattle.std.specs.Int.{w32}
use mir.Val.{to_z, of_z}
use lib.IntN.{+ℤ_idl}
use Rattle.std.specs.Int.RustNames.{bit_or, bit_and}
use Rattle.std.proofs.lemmas.Bool.{cases_lt}
use Rattle.std.proofs.lemmas.Bool.Decides.{nat_tests}
use Rattle.std.proofs.lemmas.List.FromFn.{map-range_with_len_more}
use Rattle.std.proofs.lemmas.Int.{to_z_pos, to_z-of_z, fits_signed_from_abs}
use Rattle.std.proofs.lemmas.Nat.{or_lt, and_mask, mul-add-lt}
use Rattle.std.proofs.Math.Nat.{mul_comm}
use Rattle.jk_scan.specs.Bits.{on}
use Rattle.jk_scan.specs.Neighbours.{is_inside}
use Rattle.jk_scan.specs.Flags.{word_at, flag_at}
use Rattle.jk_scan.proofs.Laws.{on_or, on_and, on_shr, on_above, on_shl_low, on_shl_any, on_zero, same_from_on}
use Rattle.jk_block.specs.declared.decoding.block_state.BlockState.{BlockState}
use Rattle.jk_block.specs.declared.decoding.coefficients.Eight.{Eight}
use Rattle.jk_block.specs.Meaning.{with_sign}
use Rattle.jk_block.specs.Fields.{words_of, plane_bit, number_from}
use Rattle.jk_block.specs.decoding.BlockStates.{draft_of}
use Rattle.jk_block.specs.decoding.Eights.{HasBits, HasByte, IsEight, eight_bit, value_of}
use Rattle.jk_block.proofs.WordBits.{le_true}
use Rattle.jk_block.proofs.Meanings.{abs_with_sign}
use Rattle.jk_block.proofs.decoding.Numbers.{number_same, number_none, number_parts, number_small, number_ones, on_number}

lt_true : (a b : ℕ) → a < b → nat_lt a b ≡ true
lt_true a b h = grind (arith, nat_tests)

lt_false : (a b : ℕ) → b ≤ a → nat_lt a b ≡ false
lt_false a b h = grind (arith, nat_tests)

-- a shift to the left
on_shl : (a s w k j : ℕ) → j ≡ s + k → j < w → on (a * 2 ^ s % 2 ^ w) j ≡ on a k
on_shl a s w k j e h =
    on_shl_any a s w j h ∙ ap (λ t. t && on a (j - s)) (le_true s j (omega (arith, e))) ∙ ap (on a) (let g : j - s ≡ k = omega (arith, e) in g)

-- a byte of a number
on_byte : (w s i : ℕ) → on (bit_and (w / 2 ^ s) 255) i ≡ (nat_lt i 8 && on w (s + i))
on_byte w s i =
    on_and (w / 2 ^ s) 255 i ∙ ap (λ b. b && on 255 i) (on_shr w s i) ∙ ap (λ b. on w (s + i) && b) (ap (λ n. on n i) number_ones ∙ on_number (λ _. true) 0 8 i) ∙ turned (on w (s + i)) (nat_lt i 8)
  where
    turned : (a b : Bool) → (a && (b && true)) ≡ (b && a)
    turned a b = grind (arith, nat_tests)

byte_small : (w s : ℕ) → bit_and (w / 2 ^ s) 255 < 2 ^ 8
byte_small w s = let e : bit_and (w / 2 ^ s) 255 ≡ w / 2 ^ s % 2 ^ 8 = and_mask (w / 2 ^ s) 8 in omega (arith, e)

-- three bytes joined
abbrev pub joined : (low middle high : ℕ) → ℕ
joined low middle high = bit_or (bit_or low (middle * 256 % 18446744073709551616)) (high * 65536 % 18446744073709551616)

pub joined_small : (low middle high : ℕ) → low < 2 ^ 8 → middle < 2 ^ 8 → high < 2 ^ 8 → joined low middle high < 2 ^ 24
joined_small low middle high a b c =
    or_lt 24 (bit_or low (middle * 256 % 18446744073709551616)) (high * 65536 % 18446744073709551616)
    (or_lt 24 low (middle * 256 % 18446744073709551616) (omega arith) (omega arith)) (omega arith)

joined_bit : (low middle high i : ℕ) → low < 2 ^ 8 → middle < 2 ^ 8 → i < 24 → on (joined low middle high) i ≡ cond (nat_lt i 8) (on low i) (cond (nat_lt i 16) (on middle (i - 8)) (on high (i - 16)))
joined_bit low middle high i a b l =
    on_or (bit_or low (middle * 2 ^ 8 % 2 ^ 64)) (high * 2 ^ 16 % 2 ^ 64) i ∙ ap (λ t. t || on (high * 2 ^ 16 % 2 ^ 64) i) (on_or low (middle * 2 ^ 8 % 2 ^ 64) i)
    ∙ elim (cases_lt i 8) [
      | inl first ↦
          ap (λ t. (on low i || t) || on (high * 2 ^ 16 % 2 ^ 64) i) (on_shl_low middle 8 64 i first (omega arith)) ∙ ap (λ t. (on low i || false) || t) (on_shl_low high 16 64 i (omega arith) (omega arith))
          ∙ plain (on low i) ∙ sym (ap (λ t. cond t (on low i) (cond (nat_lt i 16) (on middle (i - 8)) (on high (i - 16)))) (lt_true i 8 first))
      | inr past ↦
          ap (λ t. (t || on (middle * 2 ^ 8 % 2 ^ 64) i) || on (high * 2 ^ 16 % 2 ^ 64) i) (on_above low 8 i a past)
          ∙ ap (λ t. (false || t) || on (high * 2 ^ 16 % 2 ^ 64) i) (on_shl middle 8 64 (i - 8) i (omega arith) (omega arith))
          ∙ elim (cases_lt i 16) [
            | inl second ↦
                ap (λ t. (false || on middle (i - 8)) || t) (on_shl_low high 16 64 i second (omega arith)) ∙ or_false (on middle (i - 8))
                ∙ sym (ap (λ t. cond t (on low i) (cond (nat_lt i 16) (on middle (i - 8)) (on high (i - 16)))) (lt_false i 8 past) ∙ ap (λ t. cond t (on middle (i - 8)) (on high (i - 16))) (lt_true i 16 second))
            | inr third ↦
                ap (λ t. (false || t) || on (high * 2 ^ 16 % 2 ^ 64) i) (on_above middle 8 (i - 8) b (omega arith)) ∙ on_shl high 16 64 (i - 16) i (omega arith) (omega arith)
                ∙ sym (ap (λ t. cond t (on low i) (cond (nat_lt i 16) (on middle (i - 8)) (on high (i - 16)))) (lt_false i 8 past) ∙ ap (λ t. cond t (on middle (i - 8)) (on high (i - 16))) (lt_false i 16 third))
          ]
    ]
  where
    plain : (b : Bool) → ((b || false) || false) ≡ b
    plain true = refl
    plain false = refl

    or_false : (b : Bool) → ((false || b) || false) ≡ b
    or_false true = refl
    or_false false = refl

pub magnitude_is : (eight : Eight) (c : ℕ) → joined (bit_and (eight.low / 2 ^ (8 * c)) 255) (bit_and (eight.middle / 2 ^ (8 * c)) 255) (bit_and (eight.high / 2 ^ (8 * c)) 255) ≡ number_from (eight_bit eight c) 0 24
magnitude_is eight c =
    let low = bit_and (eight.low / 2 ^ (8 * c)) 255 in
    let middle = bit_and (eight.middle / 2 ^ (8 * c)) 255 in
    let high = bit_and (eight.high / 2 ^ (8 * c)) 255 in
    same_from_on 24 (joined low middle high) (number_from (eight_bit eight c) 0 24) (joined_small low middle high (byte_small eight.low (8 * c)) (byte_small eight.middle (8 * c)) (byte_small eight.high (8 * c))) (number_small (eight_bit eight c) 0 24)
    (λ i l. joined_bit low middle high i (byte_small eight.low (8 * c)) (byte_small eight.middle (8 * c)) l ∙ bits i l
    ∙ sym (on_number (eight_bit eight c) 0 24 i ∙ ap (λ t. t && eight_bit eight c (0 + i)) (lt_true i 24 l) ∙ ap (eight_bit eight c) (let e : 0 + i ≡ i = omega arith in e)))
  where
    second : (i : ℕ) → nat_lt i 16 ≡ true → nat_lt (i - 8) 8 ≡ true
    second i e = grind (arith, nat_tests)

    third : (i : ℕ) → i < 24 → nat_lt (i - 16) 8 ≡ true
    third i l = grind (arith, nat_tests)

    by : (a b d e x y z : Bool) → (b ≡ true → d ≡ true) → e ≡ true → cond a (a && x) (cond b (d && y) (e && z)) ≡ cond a x (cond b y z)
    by true b d e x y z f g = refl
    by false true d e x y z f g = ap (λ d. d && y) (f refl)
    by false false d e x y z f g = ap (λ e. e && z) g

    bits : (i : ℕ) → i < 24 → cond (nat_lt i 8) (on (bit_and (eight.low / 2 ^ (8 * c)) 255) i) (cond (nat_lt i 16) (on (bit_and (eight.middle / 2 ^ (8 * c)) 255) (i - 8)) (on (bit_and (eight.high / 2 ^ (8 * c)) 255) (i - 16))) ≡ eight_bit eight c i
    bits i l =
        ap (λ t. cond (nat_lt i 8) t (cond (nat_lt i 16) (on (bit_and (eight.middle / 2 ^ (8 * c)) 255) (i - 8)) (on (bit_and (eight.high / 2 ^ (8 * c)) 255) (i - 16)))) (on_byte eight.low (8 * c) i)
        ∙ ap (λ t. cond (nat_lt i 8) (nat_lt i 8 && on eight.low (8 * c + i)) (cond (nat_lt i 16) t (on (bit_and (eight.high / 2 ^ (8 * c)) 255) (i - 16)))) (on_byte eight.middle (8 * c) (i - 8))
        ∙ ap (λ t. cond (nat_lt i 8) (nat_lt i 8 && on eight.low (8 * c + i)) (cond (nat_lt i 16) (nat_lt (i - 8) 8 && on eight.middle (8 * c + (i - 8))) t)) (on_byte eight.high (8 * c) (i - 16))
        ∙ by (nat_lt i 8) (nat_lt i 16) (nat_lt (i - 8) 8) (nat_lt (i - 16) 8) (on eight.low (8 * c + i)) (on eight.middle (8 * c + (i - 8))) (on eight.high (8 * c + (i - 16))) (λ e. second i e) (third i l)

-- the sign put on
turned : (m : ℕ) → (pos 0 -ℤ pos m) ≡ neg_ℤ (pos m)
turned m = +ℤ_idl (neg_ℤ (pos m))

abs_turned : (m : ℕ) → unsigned_abs (neg_ℤ (pos m)) ≡ m
abs_turned m = abs_with_sign true m

pub signed_value : (b : Bool) (m n : ℕ) → b ≡ true → m ≡ n → m < 2 ^ 24 → to_z w32 (of_z w32 (pos 0 -ℤ to_z w32 m)) ≡ with_sign b n
signed_value b m n e g l =
    ap (λ z. to_z w32 (of_z w32 (pos 0 -ℤ z))) (to_z_pos w32 m (omega (arith, l))) ∙ ap (λ z. to_z w32 (of_z w32 z)) (turned m)
    ∙ to_z-of_z w32 (neg_ℤ (pos m)) (fits_signed_from_abs w32 (neg_ℤ (pos m)) (subst (λ k. k < 2 ^ 31) (sym (abs_turned m)) (omega (arith, l))))
    ∙ ap (λ m. neg_ℤ (pos m)) g ∙ sym (ap (λ b. with_sign b n) e)

pub plain_value : (b : Bool) (m n : ℕ) → b ≡ false → m ≡ n → m < 2 ^ 24 → to_z w32 m ≡ with_sign b n
plain_value b m n e g l = to_z_pos w32 m (omega (arith, l)) ∙ ap pos g ∙ sym (ap (λ b. with_sign b n) e)

-- a coefficient fits
pub value_back : (eight : Eight) (c : ℕ) (v : ℤ) → v ≡ value_of eight c → to_z w32 (of_z w32 v) ≡ value_of eight c
value_back eight c v e =
    let m = number_from (eight_bit eight c) 0 24 in
    let small = number_small (eight_bit eight c) 0 24 in
    let abs : unsigned_abs v ≡ m = ap unsigned_abs e ∙ abs_with_sign (on eight.negative (8 * c)) m in
    to_z-of_z w32 v (fits_signed_from_abs w32 v (omega (arith, small, abs))) ∙ e

-- ---- bits put together, the highest first

-- So many of them, below plane top.
abbrev pub HasBitsTo : (block_state : BlockState) (at k top n bytes : ℕ) → Type 0
HasBitsTo block_state at k top n bytes =
    (c i : ℕ) → c < 8 → i < 8 → on bytes (8 * c + i) ≡ (nat_lt i n && on (get_or block_state.bits.items ((top - n + i) * words_of block_state.shape + at) 0) (8 * c + k))

pub bits_none : (block_state : BlockState) (at k top : ℕ) → HasBitsTo block_state at k top 0 0
bits_none block_state at k top c i p q = on_zero (8 * c + i) ∙ sym (ap (λ t. t && on (get_or block_state.bits.items ((top - 0 + i) * words_of block_state.shape + at) 0) (8 * c + k)) (lt_false i 0 (omega arith)))

pub bits_more : (block_state : BlockState) (at k top n bytes word new : ℕ) → n < 8 → n < top → word ≡ get_or block_state.bits.items ((top - (n + 1)) * words_of block_state.shape + at) 0 → ((c i : ℕ) → c < 8 → i < 8 → on new (8 * c + i) ≡ (nat_eq i 0 && on word (8 * c + k)))
    → HasBitsTo block_state at k top n bytes → HasBitsTo block_state at k top (n + 1) (bit_or (bytes * 2 ^ 1 % 2 ^ 64) new)
bits_more block_state at k top n bytes word new few less word_is new_is h c i p q =
    on_or (bytes * 2 ^ 1 % 2 ^ 64) new (8 * c + i) ∙ ap (λ t. on (bytes * 2 ^ 1 % 2 ^ 64) (8 * c + i) || t) (new_is c i p q) ∙ by i q
  where
    plane : ℕ → Bool
    plane b = on (get_or block_state.bits.items (b * words_of block_state.shape + at) 0) (8 * c + k)

    or_false : (b : Bool) → (b || false) ≡ b
    or_false true = refl
    or_false false = refl

    -- what is shifted into the lowest bit
    low : (c : ℕ) → c < 8 → on (bytes * 2 ^ 1 % 2 ^ 64) (8 * c + 0) ≡ false
    low zero l = on_shl_low bytes 1 64 (8 * 0 + 0) (omega arith) (omega arith)
    low (suc c) l =
        on_shl bytes 1 64 (8 * c + 7) (8 * suc c + 0) (omega arith) (omega arith) ∙ h c 7 (omega arith) (omega arith)
        ∙ ap (λ t. t && on (get_or block_state.bits.items ((top - n + 7) * words_of block_state.shape + at) 0) (8 * c + k)) (lt_false 7 n (omega arith))

    zero_is : nat_eq 0 0 ≡ true
    zero_is = refl

    suc_not : (i : ℕ) → nat_eq (suc i) 0 ≡ false
    suc_not i = grind (arith, nat_tests)

    suc_lt : (i n : ℕ) → nat_lt i n ≡ nat_lt (suc i) (n + 1)
    suc_lt i n = grind (arith, nat_tests)

    by : (i : ℕ) → i < 8 → (on (bytes * 2 ^ 1 % 2 ^ 64) (8 * c + i) || (nat_eq i 0 && on word (8 * c + k))) ≡ (nat_lt i (n + 1) && on (get_or block_state.bits.items ((top - (n + 1) + i) * words_of block_state.shape + at) 0) (8 * c + k))
    by zero q =
        ap (λ t. t || (nat_eq 0 0 && on word (8 * c + k))) (low c p) ∙ ap (λ w. on w (8 * c + k)) word_is ∙ ap plane (let e : top - (n + 1) ≡ top - (n + 1) + 0 = omega arith in e)
        ∙ ap (λ t. t && plane (top - (n + 1) + 0)) (sym (lt_true 0 (n + 1) (omega arith)))
    by (suc i) q =
        ap (λ t. on (bytes * 2 ^ 1 % 2 ^ 64) (8 * c + suc i) || (t && on word (8 * c + k))) (suc_not i) ∙ or_false (on (bytes * 2 ^ 1 % 2 ^ 64) (8 * c + suc i))
        ∙ on_shl bytes 1 64 (8 * c + i) (8 * c + suc i) (omega arith) (omega arith) ∙ h c i p (omega arith)
        ∙ ap (λ b. nat_lt i n && plane b) (let e : top - n + i ≡ top - (n + 1) + suc i = omega (arith, less) in e) ∙ ap (λ t. t && plane (top - (n + 1) + suc i)) (suc_lt i n)

pub bits_all : (block_state : BlockState) (at k first count n bytes : ℕ) → n ≡ count → count ≡ min (block_state.planes - first) 8 → HasBitsTo block_state at k (first + count) n bytes → HasBits block_state at k first bytes
bits_all block_state at k first count n bytes all is h c i p q =
    h c i p q
    ∙ ap (λ b. nat_lt i n && on (get_or block_state.bits.items (b * words_of block_state.shape + at) 0) (8 * c + k)) (let e : first + count - n + i ≡ first + i = omega (arith, all) in e)
    ∙ ap (λ t. t && on (get_or block_state.bits.items ((first + i) * words_of block_state.shape + at) 0) (8 * c + k)) (ap (nat_lt i) (all ∙ is) ∙ within i first block_state.planes q)
  where
    within : (i first planes : ℕ) → i < 8 → nat_lt i (min (planes - first) 8) ≡ nat_lt (first + i) planes
    within i first planes q = elim (cases_lt (first + i) planes) [
      | inl less ↦ lt_true i (min (planes - first) 8) (omega arith) ∙ sym (lt_true (first + i) planes less)
      | inr more ↦ lt_false i (min (planes - first) 8) (omega arith) ∙ sym (lt_false (first + i) planes more)
    ]

-- a word of a plane that the sketch has
pub plane_item : (block_state : BlockState) (at b n q : ℕ) → n ≡ words_of block_state.shape → q ≡ b * n + at → at < words_of block_state.shape → b < block_state.planes → q < length block_state.bits.items
plane_item block_state at b n q n_is q_is h l =
    let m = mul-add-lt b (words_of block_state.shape) at block_state.planes l h in
    let c = mul_comm (words_of block_state.shape) block_state.planes in
    let e : q ≡ b * words_of block_state.shape + at = q_is ∙ ap (λ n. b * n + at) n_is in
    let r = block_state.room in
    omega (arith, m, c, e, r)

-- the places of a word in a row
pub byte_places : (block_state : BlockState) (j y at k first bytes : ℕ) → at ≡ word_at block_state.shape (j + 1) (y / 4 + 1) → k ≡ y % 4 + 1 → HasBits block_state at k first bytes → HasByte block_state first j y bytes
byte_places block_state j y at k first bytes at_is k_is h c i p q =
    h c i p q
    ∙ ap (λ a. nat_lt (first + i) block_state.planes && on (get_or block_state.bits.items ((first + i) * words_of block_state.shape + a) 0) (8 * c + k)) (at_is ∙ ap (λ n. word_at block_state.shape (n + 1) (y / 4 + 1)) (let e : j ≡ (8 * j + c) / 8 = omega arith in e))
    ∙ ap (λ m. nat_lt (first + i) block_state.planes && on (get_or block_state.bits.items ((first + i) * words_of block_state.shape + word_at block_state.shape ((8 * j + c) / 8 + 1) (y / 4 + 1)) 0) m) (let e : 8 * c + k ≡ 8 * ((8 * j + c) % 8) + (y % 4 + 1) = omega (arith, k_is) in e)

pub sign_places : (block_state : BlockState) (j y at k word : ℕ) → at ≡ word_at block_state.shape (j + 1) (y / 4 + 1) → k ≡ y % 4 + 1 → ((c i : ℕ) → c < 8 → i < 8 → on word (8 * c + i) ≡ (nat_eq i 0 && on (get_or block_state.negative.now at 0) (8 * c + k)))
    → (c : ℕ) → c < 8 → on word (8 * c) ≡ flag_at block_state.shape block_state.negative.now (8 * j + c) y
sign_places block_state j y at k word at_is k_is h c p =
    ap (on word) (let e : 8 * c ≡ 8 * c + 0 = omega arith in e) ∙ h c 0 p (omega arith)
    ∙ ap (λ a. on (get_or block_state.negative.now a 0) (8 * c + k)) (at_is ∙ ap (λ n. word_at block_state.shape (n + 1) (y / 4 + 1)) (let e : j ≡ (8 * j + c) / 8 = omega arith in e))
    ∙ ap (on (get_or block_state.negative.now (word_at block_state.shape ((8 * j + c) / 8 + 1) (y / 4 + 1)) 0)) (let e : 8 * c + k ≡ 8 * ((8 * j + c) % 8) + (y % 4 + 1) = omega (arith, k_is) in e)

-- a coefficient of eight is that of its place
pub value_at : (block_state : BlockState) (j y : ℕ) (eight : Eight) (c : ℕ) → IsEight block_state j y eight → c < 8 → is_inside block_state.shape (8 * j + c) y ≡ true → block_state.planes ≤ 23
    → value_of eight c ≡ with_sign ((draft_of block_state).negative (8 * j + c) y) ((draft_of block_state).magnitude (8 * j + c) y)
value_at block_state j y eight c e p inside few =
    let s = block_state.shape in
    let f : ℕ → Bool = λ b. plane_bit s block_state.bits.items b (8 * j + c) y in
    ap (λ b. with_sign b (number_from (eight_bit eight c) 0 24)) (e.negative c p ∙ sym (ap (λ b. b && flag_at s block_state.negative.now (8 * j + c) y) inside))
    ∙ ap (with_sign ((draft_of block_state).negative (8 * j + c) y))
    (number_same (eight_bit eight c) (λ b. nat_lt b block_state.planes && f b) 0 24 (λ b h l. bits b (omega arith)) ∙ limited f block_state.planes (omega (arith, few)) ∙ sym (ap (λ b. cond b (number_from f 0 block_state.planes) 0) inside))
  where
    bits : (b : ℕ) → b < 24 → eight_bit eight c b ≡ (nat_lt b block_state.planes && plane_bit block_state.shape block_state.bits.items b (8 * j + c) y)
    bits b l = elim (cases_lt b 8) [
      | inl first ↦
          ap (λ t. cond t (on eight.low (8 * c + b)) (cond (nat_lt b 16) (on eight.middle (8 * c + (b - 8))) (on eight.high (8 * c + (b - 16))))) (lt_true b 8 first)
          ∙ e.low c b p first ∙ ap (λ b. nat_lt b block_state.planes && plane_bit block_state.shape block_state.bits.items b (8 * j + c) y) (let g : 0 + b ≡ b = omega arith in g)
      | inr past ↦
          ap (λ t. cond t (on eight.low (8 * c + b)) (cond (nat_lt b 16) (on eight.middle (8 * c + (b - 8))) (on eight.high (8 * c + (b - 16))))) (lt_false b 8 past)
          ∙ elim (cases_lt b 16) [
            | inl second ↦
                ap (λ t. cond t (on eight.middle (8 * c + (b - 8))) (on eight.high (8 * c + (b - 16)))) (lt_true b 16 second)
                ∙ e.middle c (b - 8) p (omega arith) ∙ ap (λ b. nat_lt b block_state.planes && plane_bit block_state.shape block_state.bits.items b (8 * j + c) y) (let g : 8 + (b - 8) ≡ b = omega arith in g)
            | inr third ↦
                ap (λ t. cond t (on eight.middle (8 * c + (b - 8))) (on eight.high (8 * c + (b - 16)))) (lt_false b 16 third)
                ∙ e.high c (b - 16) p (omega arith) ∙ ap (λ b. nat_lt b block_state.planes && plane_bit block_state.shape block_state.bits.items b (8 * j + c) y) (let g : 16 + (b - 16) ≡ b = omega arith in g)
          ]
    ]

    limited : (f : ℕ → Bool) (n : ℕ) → n ≤ 24 → number_from (λ b. nat_lt b n && f b) 0 24 ≡ number_from f 0 n
    limited f n h =
        let g : ℕ → Bool = λ b. nat_lt b n && f b in
        ap (number_from g 0) (let q : 24 ≡ n + (24 - n) = omega arith in q) ∙ number_parts g 0 n (24 - n)
        ∙ ap (λ m. number_from g 0 n + 2 ^ n * m) (number_same g (λ _. false) (0 + n) (24 - n) (λ b l m. ap (λ t. t && f b) (lt_false b n (omega arith))) ∙ number_none (λ _. false) (0 + n) (24 - n) (λ _. refl))
        ∙ (let q : number_from g 0 n + 2 ^ n * 0 ≡ number_from g 0 n = omega arith in q)
        ∙ number_same g f 0 n (λ b l m. ap (λ t. t && f b) (lt_true b n (omega (arith, m))))

pub value_in_row : (block_state : BlockState) (j y : ℕ) (eight : Eight) (c a : ℕ) → IsEight block_state j y eight → a ≡ 8 * j → 8 * j + c < block_state.shape.width → y < block_state.shape.height → c < 8
    → with_sign ((draft_of block_state).negative (a + c) y) ((draft_of block_state).magnitude (a + c) y) ≡ value_of eight c
value_in_row block_state j y eight c a e a_is column row p =
    ap (λ a. with_sign ((draft_of block_state).negative (a + c) y) ((draft_of block_state).magnitude (a + c) y)) a_is
    ∙ sym (value_at block_state j y eight c e p (both (nat_lt (8 * j + c) block_state.shape.width) (nat_lt y block_state.shape.height) (lt_true (8 * j + c) block_state.shape.width column) (lt_true y block_state.shape.height row)) block_state.few)
  where
    both : (a b : Bool) → a ≡ true → b ≡ true → (a && b) ≡ true
    both a b e g = cc

-- some more of a row
pub row_more : (f g : ℕ → ℤ) (a n : ℕ) → ((c : ℕ) → c < n → f (a + c) ≡ g c) → map f (range_with_len 0 a) ++ map g (range_with_len 0 n) ≡ map f (range_with_len 0 (a + n))
row_more f g a zero e = append-nil (map f (range_with_len 0 a)) ∙ ap (λ n. map f (range_with_len 0 n)) (let q : a ≡ a + 0 = omega arith in q)
row_more f g a (suc n) e =
    ap (λ k. map f (range_with_len 0 a) ++ map g (range_with_len 0 k)) (let q : suc n ≡ n + 1 = omega arith in q)
    ∙ ap (λ (vs : List ℤ). map f (range_with_len 0 a) ++ vs) (map-range_with_len_more g 0 n n (omega arith))
    ∙ sym (append_assoc (map f (range_with_len 0 a)) (map g (range_with_len 0 n)) (g n ∷ []))
    ∙ ap (λ (vs : List ℤ). vs ++ g n ∷ []) (row_more f g a n (λ c l. e c (omega arith)))
    ∙ ap (λ (v : ℤ). map f (range_with_len 0 (a + n)) ++ v ∷ []) (sym (e n (omega arith)))
    ∙ sym (map-range_with_len_more f 0 (a + n) (a + n) (omega arith))
    ∙ ap (λ k. map f (range_with_len 0 k)) (let q : a + n + 1 ≡ a + suc n = omega arith in q)

-- eight coefficients whose magnitudes are one byte each
pub bytes_alone : (e : Eight) → e.middle ≡ 0 → e.high ≡ 0 → (let b : Eight = record { low = e.low; middle = 0; high = 0; negative = e.negative } in b) ≡ e
bytes_alone e m h =
    ap (λ x. record { low = e.low; middle = x; high = 0; negative = e.negative }) (sym m) ∙ ap (λ x. record { low = e.low; middle = e.middle; high = x; negative = e.negative }) (sym h)
