-- The bytes of a word's columns, and of one of them.
use Rattle.std.proofs.Common.{◌≡◌, ℕ, zero, suc, ◌+◌, ◌-◌, ◌*◌, ◌/◌, ◌%◌, ◌^◌, ◌<◌, List, [], ◌∷◌, ◌++◌, length, map, get_or, refl, sym, ap, ◌∙◌, subst, inl, inr, Fits, w64, arith}
use Rattle.std.specs.List.{range_with_len}
use Rattle.std.specs.Simd.Lanes.{Each1, chunk, number_l, digits_l}
use Rattle.std.proofs.Math.ListN.{get_or-append}
use Rattle.std.proofs.Math.Nat.{mod-lt}
use Rattle.std.proofs.lemmas.Bool.{cases_lt}
use Rattle.std.proofs.lemmas.List.{get_or-append-add}
use Rattle.std.proofs.lemmas.List.FromFn.{get_or-map-range_with_len, length-map-range_with_len}
use Rattle.std.proofs.lemmas.Simd.{get_or_narrower, get_or_wider, Each1-chunk, Each1-from_get_or, below_from_Fits, chunk-fits, get_or-chunk}
use Rattle.jk_scan.specs.WordNumbers.{byte_of}
use Rattle.jk_columns.specs.Columns.{AreBytes, HasColumns, IsColumn}

-- the bytes of a number
pub powers : (c : ℕ) → c < 8 → 256 ^ c ≡ 2 ^ (8 * c)
powers zero h = refl
powers (suc zero) h = refl
powers (suc (suc zero)) h = refl
powers (suc (suc (suc zero))) h = refl
powers (suc (suc (suc (suc zero)))) h = refl
powers (suc (suc (suc (suc (suc zero))))) h = refl
powers (suc (suc (suc (suc (suc (suc zero)))))) h = refl
powers (suc (suc (suc (suc (suc (suc (suc zero))))))) h = refl
powers (suc (suc (suc (suc (suc (suc (suc (suc c)))))))) h = absurd (omega arith)

-- a byte of a number that is made of bytes
byte_made : (bytes : List ℕ) (k : ℕ) → Each1 (λ x. x < 256) bytes → get_or bytes k 0 < 256 → number_l 256 bytes < 2 ^ 64 → k < 8 → byte_of (number_l 256 bytes) k ≡ get_or bytes k 0
byte_made bytes k each small fits l =
    let n = number_l 256 bytes in
    ap (λ p. n / p % 256) (sym (powers k l))
    ∙ sym (get_or_narrower (2 ^ 64) 8 256 8 (n ∷ []) 0 k refl (fits, tt) l (omega arith))
    ∙ ap (λ m. get_or (digits_l 256 8 m) (8 * 0 + k) 0) (let e : n + 2 ^ 64 * 0 ≡ n = omega arith in e)
    ∙ ap (λ i. get_or (digits_l 256 8 n) i 0) (let e : 8 * 0 + k ≡ 1 * k + 0 = omega arith in e)
    ∙ get_or_narrower 256 1 256 8 bytes k 0 refl each (omega arith) (omega arith)
    ∙ whole (get_or bytes k 0) small
  where
    whole : (b : ℕ) → b < 256 → b / 256 ^ 0 % 256 ≡ b
    whole b h = omega arith

-- row by row
pub row_byte : (rows : List ℕ) (r c : ℕ) → ((k : ℕ) → Fits w64 (get_or rows k 0)) → r < 4 → c < 8 → get_or (digits_l 256 32 (number_l (2 ^ 64) (chunk 0 4 rows))) (8 * r + c) 0 ≡ byte_of (get_or rows r 0) c
row_byte rows r c fits h l =
    get_or_narrower (2 ^ 64) 8 256 32 (chunk 0 4 rows) r c refl (below_from_Fits w64 (chunk 0 4 rows) (chunk-fits w64 0 4 rows fits)) l (omega arith)
    ∙ ap (λ p. get_or (chunk 0 4 rows) r 0 / p % 256) (powers c l)
    ∙ ap (λ n. byte_of n c) (get_or-chunk 0 4 rows r 0 h ∙ ap (λ k. get_or rows k 0) (let e : 0 + r ≡ r = omega arith in e))

pub length_digits : (p n x : ℕ) → length (digits_l p n x) ≡ n
length_digits p zero x = refl
length_digits p (suc n) x = ap suc (length_digits p n (x / p))

digit_small : (p n x : ℕ) → 0 < p → (k : ℕ) → get_or (digits_l p n x) k 0 < p
digit_small p zero x h k = h
digit_small p (suc n) x h zero = mod-lt x h
digit_small p (suc n) x h (suc k) = digit_small p n (x / p) h k

pub digits_are : (n x : ℕ) → AreBytes n (digits_l 256 n x)
digits_are n x = record { long = length_digits 256 n x; small = digit_small 256 n x (omega arith) }

-- a number of turned bytes
pub word_byte : (n : ℕ) (f : ℕ → ℕ) (a : ℕ) (xs : List ℕ) → xs ≡ map f (range_with_len a (8 * n)) → ((p : ℕ) → f p < 256) → (c k : ℕ) → c < n → k < 8 → byte_of (get_or (digits_l (2 ^ 64) n (number_l 256 xs)) c 0) k ≡ f (a + (8 * c + k))
word_byte n f a xs e small c k h l =
    ap (λ w. byte_of w k) wide
    ∙ byte_made (chunk (8 * c) 8 xs) k (Each1-chunk (λ x. x < 256) (8 * c) 8 xs each) (subst (λ b. b < 256) (sym own) (small (a + (8 * c + k)))) (subst (λ w. w < 2 ^ 64) wide (digit_small (2 ^ 64) n (number_l 256 xs) (omega arith) c)) l
    ∙ own
  where
    at : (i : ℕ) → i < 8 * n → get_or xs i 0 ≡ f (a + i)
    at i l = ap (λ (ys : List ℕ). get_or ys i 0) e ∙ get_or-map-range_with_len f a (8 * n) i (a + i) 0 l refl

    long : length xs ≡ 8 * n
    long = ap length e ∙ length-map-range_with_len f a (8 * n)

    each : Each1 (λ x. x < 256) xs
    each = Each1-from_get_or (λ x. x < 256) xs 0 (λ i l. subst (λ b. b < 256) (sym (at i (omega (arith, l, long)))) (small (a + i)))

    wide : get_or (digits_l (2 ^ 64) n (number_l 256 xs)) c 0 ≡ number_l 256 (chunk (8 * c) 8 xs)
    wide = get_or_wider 256 8 (2 ^ 64) n xs c refl each h

    own : get_or (chunk (8 * c) 8 xs) k 0 ≡ f (a + (8 * c + k))
    own = get_or-chunk (8 * c) 8 xs k 0 l ∙ at (8 * c + k) (omega arith)

-- turned
abbrev pub turned_byte : List ℕ → ℕ → ℕ
turned_byte zs p = get_or zs (8 * (p % 8) + p / 8) 0

pub turned_is : (bits signs low high : List ℕ) → AreBytes 32 bits → AreBytes 32 signs → low ≡ map (turned_byte (bits ++ signs)) (range_with_len 0 32) → high ≡ map (turned_byte (bits ++ signs)) (range_with_len 32 32)
    → (c k : ℕ) → c < 8 → k < 8
    → byte_of (get_or (map (λ i. get_or (digits_l (2 ^ 64) 4 (number_l 256 low) ++ digits_l (2 ^ 64) 4 (number_l 256 high)) i 0) (range_with_len 0 8)) c 0) k ≡ get_or (bits ++ signs) (8 * k + c) 0
turned_is bits signs low high b s el eh c k h l =
    ap (λ n. byte_of n k) (get_or-map-range_with_len (λ i. get_or (left ++ right) i 0) 0 8 c c 0 h (omega arith))
    ∙ elim (cases_lt c 4) [
      | inl less ↦ ap (λ n. byte_of n k) (get_or-append left right 0 c (omega (arith, less, four))) ∙ word_byte 4 (turned_byte zs) 0 low el small c k less l ∙ at (0 + (8 * c + k)) (omega (arith, l)) (omega (arith, l))
      | inr more ↦
          ap (λ n. byte_of n k) (ap (λ i. get_or (left ++ right) i 0) (let e : c ≡ length left + (c - 4) = omega (arith, four, more) in e) ∙ get_or-append-add left right (c - 4) 0)
          ∙ word_byte 4 (turned_byte zs) 32 high eh small (c - 4) k (omega (arith, h, more)) l ∙ at (32 + (8 * (c - 4) + k)) (omega (arith, l, more)) (omega (arith, l, more))
    ]
  where
    zs : List ℕ
    zs = bits ++ signs

    left : List ℕ
    left = digits_l (2 ^ 64) 4 (number_l 256 low)

    right : List ℕ
    right = digits_l (2 ^ 64) 4 (number_l 256 high)

    four : length left ≡ 4
    four = length_digits (2 ^ 64) 4 (number_l 256 low)

    at : (p : ℕ) → p % 8 ≡ k → p / 8 ≡ c → turned_byte zs p ≡ get_or zs (8 * k + c) 0
    at p e g = ap (λ i. get_or zs i 0) (let r : 8 * (p % 8) + p / 8 ≡ 8 * k + c = omega (arith, e, g) in r)

    within : (i : ℕ) → get_or zs i 0 < 256
    within i = elim (cases_lt i 32) [
      | inl less ↦ (let n = b.long in subst (λ x. x < 256) (sym (get_or-append bits signs 0 i (omega (arith, less, n)))) (b.small i))
      | inr more ↦ (let n = b.long in subst (λ x. x < 256) (sym (ap (λ i. get_or zs i 0) (let e : i ≡ length bits + (i - 32) = omega (arith, n, more) in e) ∙ get_or-append-add bits signs (i - 32) 0)) (s.small (i - 32)))
    ]

    small : (p : ℕ) → turned_byte zs p < 256
    small p = within (8 * (p % 8) + p / 8)

pub columns_are : (bits signs b s words : List ℕ) → length b ≡ 32
    → ((r c : ℕ) → r < 4 → c < 8 → get_or b (8 * r + c) 0 ≡ byte_of (get_or bits r 0) c)
    → ((r c : ℕ) → r < 4 → c < 8 → get_or s (8 * r + c) 0 ≡ byte_of (get_or signs r 0) c)
    → ((c k : ℕ) → c < 8 → k < 8 → byte_of (get_or words c 0) k ≡ get_or (b ++ s) (8 * k + c) 0) → HasColumns bits signs words
columns_are bits signs b s words long own_bits own_signs turned c r h l = (
  turned c r h (omega (arith, l)) ∙ get_or-append b s 0 (8 * r + c) (omega (arith, long, h, l)) ∙ own_bits r c l h,
  turned c (4 + r) h (omega (arith, l))
      ∙ ap (λ i. get_or (b ++ s) i 0) (let g : 8 * (4 + r) + c ≡ length b + (8 * r + c) = omega (arith, long) in g)
      ∙ get_or-append-add b s (8 * r + c) 0 ∙ own_signs r c l h,
)

-- one column
pub column_is : (own : ℕ) → own < 2 ^ 64 → (bits signs words : List ℕ) (c : ℕ) → c < 8 → HasColumns bits signs words → own ≡ get_or words c 0
    → IsColumn bits signs c (digits_l 256 16 (number_l (2 ^ 64) (own ∷ 0x2524_2322 ∷ [])))
column_is own fits bits signs words c h has e = record {
  long = length_digits 256 16 (number_l (2 ^ 64) (own ∷ 0x2524_2322 ∷ []));
  bits_are = λ r l. first r (omega (arith, l)) ∙ (has c r h l).0;
  signs_are = λ r l. first (4 + r) (omega (arith, l)) ∙ (has c r h l).1;
  run_is = λ r l. second r (omega (arith, l)) ∙ begun r l;
  rest_is = λ r l. ap (λ i. get_or (digits_l 256 16 (number_l (2 ^ 64) (own ∷ 0x2524_2322 ∷ []))) i 0) (let g : 12 + r ≡ 8 + (4 + r) = omega arith in g) ∙ second (4 + r) (omega (arith, l)) ∙ rest r l;
}
  where
    all : Each1 (λ x. x < 2 ^ 64) (own ∷ 0x2524_2322 ∷ [])
    all = (fits, (omega arith, tt))

    first : (k : ℕ) → k < 8 → get_or (digits_l 256 16 (number_l (2 ^ 64) (own ∷ 0x2524_2322 ∷ []))) k 0 ≡ byte_of (get_or words c 0) k
    first k l =
        ap (λ i. get_or (digits_l 256 16 (number_l (2 ^ 64) (own ∷ 0x2524_2322 ∷ []))) i 0) (let g : k ≡ 8 * 0 + k = omega arith in g)
        ∙ get_or_narrower (2 ^ 64) 8 256 16 (own ∷ 0x2524_2322 ∷ []) 0 k refl all l (omega arith) ∙ ap (λ p. own / p % 256) (powers k l) ∙ ap (λ n. byte_of n k) e

    second : (k : ℕ) → k < 8 → get_or (digits_l 256 16 (number_l (2 ^ 64) (own ∷ 0x2524_2322 ∷ []))) (8 + k) 0 ≡ byte_of 0x2524_2322 k
    second k l =
        ap (λ i. get_or (digits_l 256 16 (number_l (2 ^ 64) (own ∷ 0x2524_2322 ∷ []))) i 0) (let g : 8 + k ≡ 8 * 1 + k = omega arith in g)
        ∙ get_or_narrower (2 ^ 64) 8 256 16 (own ∷ 0x2524_2322 ∷ []) 1 k refl all l (omega arith) ∙ ap (λ p. 0x2524_2322 / p % 256) (powers k l)

    begun : (r : ℕ) → r < 4 → byte_of 0x2524_2322 r ≡ 34 + r
    begun zero l = refl
    begun (suc zero) l = refl
    begun (suc (suc zero)) l = refl
    begun (suc (suc (suc zero))) l = refl
    begun (suc (suc (suc (suc r)))) l = absurd (omega arith)

    rest : (r : ℕ) → r < 4 → byte_of 0x2524_2322 (4 + r) ≡ 0
    rest zero l = refl
    rest (suc zero) l = refl
    rest (suc (suc zero)) l = refl
    rest (suc (suc (suc zero))) l = refl
    rest (suc (suc (suc (suc r)))) l = absurd (omega arith)
