-- The code value of bytes that were placed.
use Rattle.std.proofs.Common.{◌≡◌, ◌∙◌, ap, sym, ℕ, suc, ◌+◌, ◌-◌, ◌*◌, ◌^◌, ◌<◌, ◌≤◌, inl, inr, Bool, true, false, not, ◌||◌, cond, List, [], ◌∷◌, length, eqb, ltb, arith}
use Rattle.std.proofs.lemmas.Bool.{cases_eq, cases_lt, and_from, and_left, and_right, eq-eqb, ne_eqb, le-ltb}
use Rattle.std.proofs.lemmas.Nat.{pow-add}
use Rattle.jk_model.specs.Code.{byte_at, is_last, is_past, fed, code_places, start, wanted, share, shares, code_value}
use Rattle.jk_model.proofs.CodeValue.{is_last-is, is_past-zero, is_past-suc, fed-is, places-is, start-zero, start-suc, wanted-zero, wanted-suc, share-in, shares-zero, shares-suc, code_value-upto}
use Rattle.jk_model.specs.Placed.{gap, top, placed_number, end, Clean, onto}
use Rattle.jk_model.proofs.Placed.{gap-nil, gap-ff, gap-other, top-ff, after_ff, plain, follows}

or_neither : (x y : Bool) → x ≡ false → y ≡ false → (x || y) ≡ false
or_neither true y h k = h
or_neither false y h k = k

pub byte-onto : (bs q : List ℕ) (i j : ℕ) → j ≡ length bs + i → byte_at (onto bs q) j ≡ byte_at q i
byte-onto [] q i j e = let same : j ≡ i = omega arith in ap (λ k. byte_at q k) same
byte-onto (x ∷ xs) q i j e = byte-onto xs (x ∷ q) (suc i) j (omega arith)

-- byte l is x, and its places end at e
pub record At (b : List ℕ) (l x e : ℕ) : Type 0 where
  pub before_end : is_past b l ≡ false
  pub byte_is : fed b l ≡ x
  pub ends : start b l + 8 ≡ e

not_last : (b : List ℕ) (l y x : ℕ) (ys : List ℕ) → byte_at b l ≡ y → byte_at b (l + 1) ≡ x → x ≤ top (y ∷ ys) → is_last b l ≡ false
not_last b l y x ys h k m =
    elim (cases_eq y 255) [
      | inl e ↦ is_last-is b l ∙ and_right (eqb (byte_at b l) 255) (ltb 143 (byte_at b (l + 1))) (le-ltb 143 (byte_at b (l + 1)) (omega (arith, k, m, top-ff y ys e)))
      | inr n ↦ is_last-is b l ∙ and_left (eqb (byte_at b l) 255) (ltb 143 (byte_at b (l + 1))) (ne_eqb (byte_at b l) 255 (λ f. n (sym h ∙ f)))
    ]

places-placed : (b : List ℕ) (l y : ℕ) (ys : List ℕ) → fed b l ≡ y → is_past b (suc l) ≡ false → code_places b l ≡ gap (y ∷ ys)
places-placed b l y ys h k =
    elim (cases_eq y 255) [
      | inl e ↦ places-is b l ∙ ap (λ t. cond t 7 8) (and_from (eqb (fed b l) 255) (not (is_past b (suc l))) (eq-eqb (fed b l) 255 (h ∙ e)) (ap not k)) ∙ sym (gap-ff y ys e)
      | inr n ↦ places-is b l ∙ ap (λ t. cond t 7 8) (and_left (eqb (fed b l) 255) (not (is_past b (suc l))) (ne_eqb (fed b l) 255 (λ f. n (sym h ∙ f)))) ∙ sym (gap-other y ys n)
    ]

pub at-placed : (xs : List ℕ) (x : ℕ) (q : List ℕ) → Clean (x ∷ xs) → At (onto xs (x ∷ q)) (length xs) x (end (x ∷ xs))
at-placed [] x q c = record {
  before_end = is_past-zero (x ∷ q);
  byte_is = fed-is (x ∷ q) 0 ∙ ap (λ t. cond t 255 x) (is_past-zero (x ∷ q));
  ends = omega (arith, start-zero (x ∷ q), gap-nil);
}
at-placed (y ∷ ys) x q c =
    let b = onto ys (y ∷ x ∷ q) in
    let l = length ys in
    let before = at-placed ys y (x ∷ q) c.1 in
    let here : byte_at b l ≡ y = byte-onto ys (y ∷ x ∷ q) 0 l (omega arith) in
    let next : byte_at b (l + 1) ≡ x = byte-onto ys (y ∷ x ∷ q) 1 (l + 1) (omega arith) in
    let same : byte_at b (suc l) ≡ x = byte-onto ys (y ∷ x ∷ q) 1 (suc l) (omega arith) in
    let past : is_past b (suc l) ≡ false = is_past-suc b l ∙ or_neither (is_past b l) (is_last b l) before.before_end (not_last b l y x ys here next c.0) in
    let long = places-placed b l y ys before.byte_is past in
    record {
      before_end = past;
      byte_is = fed-is b (suc l) ∙ ap (λ t. cond t 255 (byte_at b (suc l))) past ∙ same;
      ends = omega (arith, start-suc b l, long, before.ends);
    }

pub wanted-placed : (bs q : List ℕ) → Clean bs → wanted (onto bs q) (length bs) ≡ end bs
wanted-placed [] q c = wanted-zero q
wanted-placed (x ∷ xs) q c = wanted-suc (onto xs (x ∷ q)) (length xs) ∙ (at-placed xs x q c).ends

spread : (p a b x : ℕ) → p * (a * b) + x * a ≡ (p * b + x) * a
spread p a b x = grind arith

-- the share of the last placed byte
share-placed : (xs : List ℕ) (x : ℕ) (q : List ℕ) (n t : ℕ) → Clean (x ∷ xs) → end xs ≤ n + 14 → t + end (x ∷ xs) ≡ n + 22 → share (onto xs (x ∷ q)) n (length xs) ≡ x * 2 ^ t
share-placed xs x q n t c h k =
    let b = onto xs (x ∷ q) in
    let l = length xs in
    let a = at-placed xs x q c in
    let e : n + 14 - start b l ≡ t = omega (arith, a.ends) in
    share-in b n l (omega (arith, wanted-placed xs (x ∷ q) c.1)) ∙ ap (λ f. f * 2 ^ (n + 14 - start b l)) a.byte_is ∙ ap (λ i. x * 2 ^ i) e

pub shares-placed : (xs : List ℕ) (x : ℕ) (q : List ℕ) (n t : ℕ) → Clean (x ∷ xs) → end xs ≤ n + 14 → t + end (x ∷ xs) ≡ n + 22 → shares (onto xs (x ∷ q)) n (suc (length xs)) ≡ placed_number (x ∷ xs) * 2 ^ t
shares-placed [] x q n t c h k = omega (arith, shares-suc (x ∷ q) n 0, shares-zero (x ∷ q) n, share-placed [] x q n t c h k)
shares-placed (y ∷ ys) x q n t c h k =
    let b = onto ys (y ∷ x ∷ q) in
    let g = gap (y ∷ ys) in
    let before = shares-placed ys y (x ∷ q) n (t + g) c.1 (omega arith) (omega arith) in
    let last = share-placed (y ∷ ys) x q n t c h k in
    shares-suc b n (suc (length ys)) ∙ ap (λ z. z + share b n (suc (length ys))) before ∙ ap (λ z. placed_number (y ∷ ys) * 2 ^ (t + g) + z) last ∙ ap (λ z. placed_number (y ∷ ys) * z + x * 2 ^ t) (pow-add 2 t g) ∙ spread (placed_number (y ∷ ys)) (2 ^ t) (2 ^ g) x

-- the code value at a moment that the last placed byte decides
pub value-decided : (xs : List ℕ) (x : ℕ) (q : List ℕ) (n t : ℕ) → Clean (x ∷ xs) → end xs ≤ n + 14 → t + end (x ∷ xs) ≡ n + 22 → t < 8 → code_value (onto (x ∷ xs) q) n ≡ placed_number (x ∷ xs) * 2 ^ t
value-decided xs x q n t c h k l =
    code_value-upto (onto xs (x ∷ q)) n (length xs) (omega (arith, wanted-placed xs (x ∷ q) c.1)) (omega (arith, wanted-placed (x ∷ xs) q c)) ∙ shares-placed xs x q n t c h k

-- what the placed bytes have decided no further byte changes
pub value-kept : (bs p q : List ℕ) (n : ℕ) → Clean bs → n + 15 ≤ end bs → code_value (onto bs p) n ≡ code_value (onto bs q) n
value-kept [] p q n c h = absurd (omega arith)
value-kept (x ∷ xs) p q n c h =
    elim (cases_lt (n + 14) (end xs)) [
      | inl m ↦ value-kept xs (x ∷ p) (x ∷ q) n c.1 (omega arith)
      | inr m ↦
          let t = n + 22 - end (x ∷ xs) in
          let g : gap xs ≤ 8 = elim (follows xs) [ after_ff g t ↦ omega arith | plain g t ↦ omega arith ] in
          value-decided xs x p n t c m (omega arith) (omega arith) ∙ sym (value-decided xs x q n t c m (omega arith) (omega arith))
    ]
