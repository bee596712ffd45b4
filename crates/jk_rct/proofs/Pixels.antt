-- The transform of one pixel.
use borrow.Author.Count.{below_more}
use Rattle.std.proofs.lemmas.List.{get_or-set_same, get_or-set_other}
use Rattle.std.proofs.Common.{◌≡◌, ◌≢◌, ℕ, ℤ, List, ◌+◌, ◌-◌, ◌^◌, ◌<◌, ◌≤◌, pos, ◌+ℤ◌, ◌-ℤ◌, ◌*ℤ◌, length, set, inl, inr, refl, ◌∙◌, subst, arith, w32, to_z, of_z}
use Rattle.std.proofs.lemmas.Int.{ints, to_z-of_z}
use mir.Val.{SFits}
use Rattle.std.specs.List.{All}
use Rattle.std.proofs.lemmas.Bool.{cases_lt}
use Rattle.jk_math.specs.Division.{floor_of}
use Rattle.jk_math.specs.Signed.{IsBelow, signed_at}
use Rattle.jk_math.proofs.Laws.{fourfold, quarter_high, quarter_low}
use Rattle.jk_math.specs.Eights.{HasEight}
use Rattle.jk_rct.specs.Colour.{y0_of, y1_of, y2_of, i1_of, UndoesColour, UndoesInverse, KeepsRange, InverseBounds}

-- a quarter less four times g is g less, and so for the quarter of a sum
quarter_less : (s t g : ℤ) → s ≡ t +ℤ fourfold g → floor_of s 4 ≡ floor_of t 4 +ℤ g
quarter_less s t g e =
    let sh = quarter_high s in
    let sl = quarter_low s in
    let th = quarter_high t in
    let tl = quarter_low t in
    omega (arith, ints)

pub undoes_colour : UndoesColour
undoes_colour i0 i1 i2 =
    let q = quarter_less (i0 +ℤ (i1 +ℤ i1) +ℤ i2) ((i2 -ℤ i1) +ℤ (i0 -ℤ i1)) i1 (omega (arith, ints)) in
    let green : i1_of (y0_of i0 i1 i2) (y1_of i0 i1 i2) (y2_of i0 i1 i2) ≡ i1 = rw q (omega (arith, ints)) in
    (rw green (omega (arith, ints)), green, rw green (omega (arith, ints)))

pub undoes_inverse : UndoesInverse
undoes_inverse y0 y1 y2 =
    let g : ℤ = i1_of y0 y1 y2 in
    let q = quarter_less ((y2 +ℤ g) +ℤ (g +ℤ g) +ℤ (y1 +ℤ g)) (y1 +ℤ y2) g (omega (arith, ints)) in
    (rw q (omega (arith, ints)), omega (arith, ints), omega (arith, ints))

pub keeps_range : KeepsRange
keeps_range low high i0 i1 i2 l0 h0 l1 h1 l2 h2 =
    let h = quarter_high (i0 +ℤ (i1 +ℤ i1) +ℤ i2) in
    let l = quarter_low (i0 +ℤ (i1 +ℤ i1) +ℤ i2) in
    (omega (arith, ints), omega (arith, ints), omega (arith, ints), omega (arith, ints))

pub inverse_bounds : InverseBounds
inverse_bounds m y0 y1 y2 l0 l1 l2 =
    let h = quarter_high (y1 +ℤ y2) in
    let l = quarter_low (y1 +ℤ y2) in
    ((omega (arith, ints), omega (arith, ints)), (omega (arith, ints), omega (arith, ints)), (omega (arith, ints), omega (arith, ints)))

-- The first k pixels of three components are transformed, and the others as given.
pub record IsMapped (f0 f1 f2 : ℤ → ℤ → ℤ → ℤ) (k : ℕ) (a b c a' b' c' : List ℤ) : Type 0 where
  pub done0 : (j : ℕ) → j < k → signed_at a' j ≡ f0 (signed_at a j) (signed_at b j) (signed_at c j)
  pub done1 : (j : ℕ) → j < k → signed_at b' j ≡ f1 (signed_at a j) (signed_at b j) (signed_at c j)
  pub done2 : (j : ℕ) → j < k → signed_at c' j ≡ f2 (signed_at a j) (signed_at b j) (signed_at c j)
  pub rest0 : (j : ℕ) → k ≤ j → signed_at a' j ≡ signed_at a j
  pub rest1 : (j : ℕ) → k ≤ j → signed_at b' j ≡ signed_at b j
  pub rest2 : (j : ℕ) → k ≤ j → signed_at c' j ≡ signed_at c j

one_more : (value : ℕ → ℤ) (xs : List ℤ) (k : ℕ) (v : ℤ) → k < length xs → ((j : ℕ) → j < k → signed_at xs j ≡ value j) → v ≡ value k →
    (j : ℕ) → j < k + 1 → signed_at (set xs k v) j ≡ value j
one_more value xs k v room below here =
    let P : ℕ → Type 0 = λ j. signed_at (set xs k v) j ≡ value j in
    below_more P k (λ j l. let ne : j ≢ k = omega arith in rw get_or-set_other (below j l)) (rw get_or-set_same here)

pub IsMapped-more : (f0 f1 f2 : ℤ → ℤ → ℤ → ℤ) (k : ℕ) (a b c a' b' c' : List ℤ) (v0 v1 v2 : ℤ) → IsMapped f0 f1 f2 k a b c a' b' c' →
    k < length a' → k < length b' → k < length c' →
    v0 ≡ f0 (signed_at a' k) (signed_at b' k) (signed_at c' k) → v1 ≡ f1 (signed_at a' k) (signed_at b' k) (signed_at c' k) → v2 ≡ f2 (signed_at a' k) (signed_at b' k) (signed_at c' k) →
    IsMapped f0 f1 f2 (k + 1) a b c (set a' k v0) (set b' k v1) (set c' k v2)
IsMapped-more f0 f1 f2 k a b c a' b' c' v0 v1 v2 so_far ra rb rc e0 e1 e2 =
    let at : (ℤ → ℤ → ℤ → ℤ) → ℕ → ℤ = λ f j. f (signed_at a j) (signed_at b j) (signed_at c j) in
    let given : (f : ℤ → ℤ → ℤ → ℤ) → f (signed_at a' k) (signed_at b' k) (signed_at c' k) ≡ at f k =
    λ f. rw (so_far.rest0 k (omega arith), so_far.rest1 k (omega arith), so_far.rest2 k (omega arith)) refl in
    record {
      done0 = one_more (at f0) a' k v0 ra so_far.done0 (e0 ∙ given f0);
      done1 = one_more (at f1) b' k v1 rb so_far.done1 (e1 ∙ given f1);
      done2 = one_more (at f2) c' k v2 rc so_far.done2 (e2 ∙ given f2);
      rest0 = λ j l. let ne : j ≢ k = omega arith in rw get_or-set_other (so_far.rest0 j (omega arith));
      rest1 = λ j l. let ne : j ≢ k = omega arith in rw get_or-set_other (so_far.rest1 j (omega arith));
      rest2 = λ j l. let ne : j ≢ k = omega arith in rw get_or-set_other (so_far.rest2 j (omega arith));
    }

-- a number, as the code passes it on
abbrev pub passed : ℤ → ℤ
passed z = to_z w32 (of_z w32 z)

-- what the code's sums give, where a quarter of one has been taken
pub y0_is : (i0 i1 i2 q : ℤ) → IsBelow (2 ^ 29) i0 → IsBelow (2 ^ 29) i1 → IsBelow (2 ^ 29) i2 →
    q ≡ floor_of (passed (passed (passed i0 +ℤ passed (pos 2 *ℤ passed i1)) +ℤ passed i2)) 4 → passed q ≡ y0_of i0 i1 i2
y0_is i0 i1 i2 q l0 l1 l2 e =
    let e0 = to_z-of_z w32 i0 (omega (arith, ints)) in
    let e1 = to_z-of_z w32 i1 (omega (arith, ints)) in
    let e2 = to_z-of_z w32 i2 (omega (arith, ints)) in
    let twice : pos 2 *ℤ i1 ≡ i1 +ℤ i1 = omega (arith, ints) in
    let sum : ℤ = i0 +ℤ (i1 +ℤ i1) +ℤ i2 in
    let e3 = to_z-of_z w32 (i1 +ℤ i1) (omega (arith, ints)) in
    let e4 = to_z-of_z w32 (i0 +ℤ (i1 +ℤ i1)) (omega (arith, ints)) in
    let e5 = to_z-of_z w32 sum (omega (arith, ints)) in
    let h = quarter_high sum in
    let l = quarter_low sum in
    let whole : q ≡ floor_of sum 4 = e ∙ rw (e0, e1, e2, twice, e3, e4, e5) refl in
    rw whole (to_z-of_z w32 _ (omega (arith, ints, h, l)))

pub i1_is : (y0 y1 y2 q : ℤ) → IsBelow (2 ^ 29) y0 → IsBelow (2 ^ 29) y1 → IsBelow (2 ^ 29) y2 →
    q ≡ floor_of (passed (passed y1 +ℤ passed y2)) 4 → (passed (passed y0 -ℤ passed q) ≡ i1_of y0 y1 y2) × IsBelow (2 ^ 30) (i1_of y0 y1 y2)
i1_is y0 y1 y2 q l0 l1 l2 e =
    let e0 = to_z-of_z w32 y0 (omega (arith, ints)) in
    let e1 = to_z-of_z w32 y1 (omega (arith, ints)) in
    let e2 = to_z-of_z w32 y2 (omega (arith, ints)) in
    let sum : ℤ = y1 +ℤ y2 in
    let e3 = to_z-of_z w32 sum (omega (arith, ints)) in
    let h = quarter_high sum in
    let l = quarter_low sum in
    let whole : q ≡ floor_of sum 4 = e ∙ rw (e1, e2, e3) refl in
    let e4 = to_z-of_z w32 (floor_of sum 4) (omega (arith, ints, h, l)) in
    (rw (whole, e0, e4) (to_z-of_z w32 (y0 -ℤ floor_of sum 4) (omega (arith, ints, h, l))), (omega (arith, ints, h, l), omega (arith, ints, h, l)))

-- the sum of a coefficient and I1
pub with_i1 : (y g i : ℤ) → IsBelow (2 ^ 29) y → g ≡ i → IsBelow (2 ^ 30) i → passed (passed y +ℤ g) ≡ y +ℤ i
with_i1 y g i l e small =
    let e0 = to_z-of_z w32 y (omega (arith, ints)) in
    rw (e, e0) (to_z-of_z w32 (y +ℤ i) (omega (arith, ints)))

pub with_i1_fits : (y g i : ℤ) → IsBelow (2 ^ 29) y → g ≡ i → IsBelow (2 ^ 30) i → SFits w32 (passed y +ℤ g)
with_i1_fits y g i l e small =
    let e0 = to_z-of_z w32 y (omega (arith, ints)) in
    rw (e, e0) (omega (arith, ints))

read_is : (xs xs' : List ℤ) (k : ℕ) → All (IsBelow (2 ^ 29)) xs → k < length xs → signed_at xs' k ≡ signed_at xs k → passed (signed_at xs' k) ≡ signed_at xs' k
read_is xs xs' k small l e =
    let below : IsBelow (2 ^ 29) (signed_at xs k) = small k (pos 0) l in
    rw e (to_z-of_z w32 _ (omega (arith, ints)))

-- what the code writes for pixel k
pub IsMapped-written : (f0 f1 f2 : ℤ → ℤ → ℤ → ℤ) (k : ℕ) (a b c a' b' c' : List ℤ) (v0 v1 v2 : ℤ) → IsMapped f0 f1 f2 k a b c a' b' c' →
    All (IsBelow (2 ^ 29)) a → All (IsBelow (2 ^ 29)) b → All (IsBelow (2 ^ 29)) c → k < length a → k < length b → k < length c →
    k < length a' → k < length b' → k < length c' → SFits w32 v0 → SFits w32 v1 → SFits w32 v2 →
    v0 ≡ f0 (passed (signed_at a' k)) (passed (signed_at b' k)) (passed (signed_at c' k)) →
    v1 ≡ f1 (passed (signed_at a' k)) (passed (signed_at b' k)) (passed (signed_at c' k)) →
    v2 ≡ f2 (passed (signed_at a' k)) (passed (signed_at b' k)) (passed (signed_at c' k)) →
    IsMapped f0 f1 f2 (k + 1) a b c (set a' k (passed v0)) (set b' k (passed v1)) (set c' k (passed v2))
IsMapped-written f0 f1 f2 k a b c a' b' c' v0 v1 v2 so_far sa sb sc la lb lc ra rb rc t0 t1 t2 e0 e1 e2 =
    let ea = read_is a a' k sa la (so_far.rest0 k (omega arith)) in
    let eb = read_is b b' k sb lb (so_far.rest1 k (omega arith)) in
    let ec = read_is c c' k sc lc (so_far.rest2 k (omega arith)) in
    IsMapped-more f0 f1 f2 k a b c a' b' c' (passed v0) (passed v1) (passed v2) so_far ra rb rc
    (to_z-of_z w32 v0 t0 ∙ e0 ∙ rw (ea, eb, ec) refl) (to_z-of_z w32 v1 t1 ∙ e1 ∙ rw (ea, eb, ec) refl) (to_z-of_z w32 v2 t2 ∙ e2 ∙ rw (ea, eb, ec) refl)

-- eight pixels more
eight_more : (f : ℤ → ℤ → ℤ → ℤ) (k : ℕ) (a b c a' b' c' old new : List ℤ) →
    ((j : ℕ) → j < k → signed_at old j ≡ f (signed_at a j) (signed_at b j) (signed_at c j)) →
    ((j : ℕ) → k ≤ j → signed_at a' j ≡ signed_at a j) → ((j : ℕ) → k ≤ j → signed_at b' j ≡ signed_at b j) → ((j : ℕ) → k ≤ j → signed_at c' j ≡ signed_at c j) →
    HasEight (λ j. f (signed_at a' (k + j)) (signed_at b' (k + j)) (signed_at c' (k + j))) k old new →
    (j : ℕ) → j < k + 8 → signed_at new j ≡ f (signed_at a j) (signed_at b j) (signed_at c j)
eight_more f k a b c a' b' c' old new done ra rb rc eight j l = elim (cases_lt j k) [
  | inl lt ↦ eight.1 j lt ∙ done j lt
  | inr ge ↦
      let i : ℕ = j - k in
      let e : k + i ≡ j = omega arith in
      subst (λ j. signed_at new j ≡ f (signed_at a j) (signed_at b j) (signed_at c j)) e
      (eight.0 i (omega arith) ∙ rw (ra (k + i) (omega arith), rb (k + i) (omega arith), rc (k + i) (omega arith)) refl)
]

pub IsMapped-eight : (f0 f1 f2 : ℤ → ℤ → ℤ → ℤ) (k : ℕ) (a b c a' b' c' a'' b'' c'' : List ℤ) → IsMapped f0 f1 f2 k a b c a' b' c' →
    HasEight (λ j. f0 (signed_at a' (k + j)) (signed_at b' (k + j)) (signed_at c' (k + j))) k a' a'' →
    HasEight (λ j. f1 (signed_at a' (k + j)) (signed_at b' (k + j)) (signed_at c' (k + j))) k b' b'' →
    HasEight (λ j. f2 (signed_at a' (k + j)) (signed_at b' (k + j)) (signed_at c' (k + j))) k c' c'' →
    IsMapped f0 f1 f2 (k + 8) a b c a'' b'' c''
IsMapped-eight f0 f1 f2 k a b c a' b' c' a'' b'' c'' so_far e0 e1 e2 = record {
  done0 = eight_more f0 k a b c a' b' c' a' a'' so_far.done0 so_far.rest0 so_far.rest1 so_far.rest2 e0;
  done1 = eight_more f1 k a b c a' b' c' b' b'' so_far.done1 so_far.rest0 so_far.rest1 so_far.rest2 e1;
  done2 = eight_more f2 k a b c a' b' c' c' c'' so_far.done2 so_far.rest0 so_far.rest1 so_far.rest2 e2;
  rest0 = λ j l. e0.2 j l ∙ so_far.rest0 j (omega arith);
  rest1 = λ j l. e1.2 j l ∙ so_far.rest1 j (omega arith);
  rest2 = λ j l. e2.2 j l ∙ so_far.rest2 j (omega arith);
}

-- what is left to be transformed is as small as it was
pub rest_below : (k : ℕ) (xs xs' : List ℤ) → All (IsBelow (2 ^ 29)) xs → k + 8 ≤ length xs → ((j : ℕ) → k ≤ j → signed_at xs' j ≡ signed_at xs j) →
    (j : ℕ) → j < 8 → IsBelow (2 ^ 29) (signed_at xs' (k + j))
rest_below k xs xs' small room same j l = rw (same (k + j) (omega arith)) (small (k + j) (pos 0) (omega arith))
