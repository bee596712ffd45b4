-- What BYTEOUT places, from the quotient and the remainder that the code finds.
use Rattle.std.proofs.Common.{◌≡◌, ◌∙◌, ap, sym, subst, refl, ℕ, suc, ◌+◌, ◌-◌, ◌*◌, ◌/◌, ◌%◌, ◌<◌, ◌≤◌, Bool, cond, List, [], ◌∷◌, Option, Some, None, eqb, ltb, inl, inr, arith}
use Rattle.std.proofs.lemmas.Bool.{cases_lt, eq-eqb, ne_eqb, lt-ltb, le-ltb}
use Rattle.std.proofs.lemmas.Nat.{div-mul-add, mod-mul-add}
use Rattle.jk_model.specs.Placed.{gap}
use Rattle.jk_mqenc.specs.Machine.{Machine, unit, with_byte, placed_after}
use Rattle.jk_mqenc.specs.Holding.{before}
use Rattle.jk_model.proofs.Laws.{gap-nil, gap-ff, gap-other}
use Rattle.jk_mqenc.proofs.Machine.{unit-seven, unit-eight}

abbrev pub made_of : ℕ → ℕ → ℕ → List ℕ → ℕ → Machine
made_of byte code count bs w = record { code = code; width = w; count = count; placed = byte ∷ bs }

-- the quotient and the remainder
abbrev pub Splits : ℕ → ℕ → ℕ → ℕ → Type 0
Splits d v byte code = (byte * v + code ≡ d) × (code < v)

with_byte-at : (bs : List ℕ) (d w byte code g v : ℕ) → gap bs ≡ g → unit g ≡ v → Splits d v byte code → with_byte bs d w ≡ made_of byte code g bs w
with_byte-at bs d w byte code g v h u s =
    let e : unit (gap bs) ≡ v = ap (λ i. unit i) h ∙ u in
    let q : d / unit (gap bs) ≡ byte = ap (λ x. d / x) e ∙ ap (λ x. x / v) (sym s.0) ∙ div-mul-add byte v code s.1 in
    let r : d % unit (gap bs) ≡ code = ap (λ x. d % x) e ∙ ap (λ x. x % v) (sym s.0) ∙ mod-mul-add byte v code s.1 in
    ap (λ x. made_of x (d % unit (gap bs)) (gap bs) bs w) q ∙ ap (λ x. made_of byte x (gap bs) bs w) r ∙ ap (λ x. made_of byte code x bs w) h

after-cons : (b : ℕ) (o : List ℕ) (d w : ℕ) → placed_after (b ∷ o) d w ≡ cond (eqb b 255) (with_byte (b ∷ o) d w) (cond (ltb d 134217728) (with_byte (b ∷ o) d w) (with_byte (suc b ∷ o) (d - 134217728) w))
after-cons b o d w = refl

finish : (bs : List ℕ) (b2 c2 n2 : ℕ) (out : Option ℕ) (o : List ℕ) (w n : ℕ) → n2 ≡ n → before out o ≡ bs → made_of b2 c2 n bs w ≡ made_of b2 c2 n2 (before out o) w
finish bs b2 c2 n2 out o w n e h = ap (λ x. made_of b2 c2 x bs w) (sym e) ∙ ap (λ (x : List ℕ). made_of b2 c2 n2 x w) (sym h)

pub place-first : (out : Option ℕ) (d byte code count : ℕ) → out ≡ None → Splits d 524288 byte code → count ≡ 8 → (o : List ℕ) (w : ℕ) → placed_after [] d w ≡ made_of byte code count (before out o) w
place-first out d byte code count h s n o w =
    with_byte-at [] d w byte code 8 524288 gap-nil unit-eight s ∙ finish [] byte code count out o w 8 n (ap (λ (x : Option ℕ). before x o) h)

pub place-ff : (b : ℕ) (out : Option ℕ) (d byte code count : ℕ) → b ≡ 255 → out ≡ Some b → Splits d 1048576 byte code → count ≡ 7 → (o : List ℕ) (w : ℕ) → placed_after (b ∷ o) d w ≡ made_of byte code count (before out o) w
place-ff b out d byte code count e h s n o w =
    let here = with_byte (b ∷ o) d w in
    let there = with_byte (suc b ∷ o) (d - 134217728) w in
    after-cons b o d w ∙ ap (λ (t : Bool). cond t here (cond (ltb d 134217728) here there)) (eq-eqb b 255 e) ∙ with_byte-at (b ∷ o) d w byte code 7 1048576 (gap-ff b o e) unit-seven s ∙ finish (b ∷ o) byte code count out o w 7 n (ap (λ (x : Option ℕ). before x o) h)

place-plain : (b : ℕ) (out : Option ℕ) (d byte code count : ℕ) → (b ≡ 255 → ⊥) → d < 134217728 → out ≡ Some b → Splits d 524288 byte code → count ≡ 8 → (o : List ℕ) (w : ℕ) → placed_after (b ∷ o) d w ≡ made_of byte code count (before out o) w
place-plain b out d byte code count e l h s n o w =
    let here = with_byte (b ∷ o) d w in
    let there = with_byte (suc b ∷ o) (d - 134217728) w in
    after-cons b o d w ∙ ap (λ (t : Bool). cond t here (cond (ltb d 134217728) here there)) (ne_eqb b 255 e) ∙ ap (λ (t : Bool). cond t here there) (lt-ltb d 134217728 l) ∙ with_byte-at (b ∷ o) d w byte code 8 524288 (gap-other b o e) unit-eight s ∙ finish (b ∷ o) byte code count out o w 8 n (ap (λ (x : Option ℕ). before x o) h)

carry-is : (b : ℕ) (o : List ℕ) (d w : ℕ) → (b ≡ 255 → ⊥) → 134217728 ≤ d → placed_after (b ∷ o) d w ≡ with_byte (suc b ∷ o) (d - 134217728) w
carry-is b o d w e l =
    let here = with_byte (b ∷ o) d w in
    let there = with_byte (suc b ∷ o) (d - 134217728) w in
    after-cons b o d w ∙ ap (λ (t : Bool). cond t here (cond (ltb d 134217728) here there)) (ne_eqb b 255 e) ∙ ap (λ (t : Bool). cond t here there) (le-ltb d 134217728 l)

place-carry_ff : (b : ℕ) (out : Option ℕ) (d byte code count : ℕ) → (b ≡ 255 → ⊥) → 134217728 ≤ d → b + 1 ≡ 255 → out ≡ Some (b + 1) → Splits (d - 134217728) 1048576 byte code → count ≡ 7 → (o : List ℕ) (w : ℕ) → placed_after (b ∷ o) d w ≡ made_of byte code count (before out o) w
place-carry_ff b out d byte code count e l f h s n o w =
    let one : b + 1 ≡ suc b = omega arith in
    carry-is b o d w e l ∙ with_byte-at (suc b ∷ o) (d - 134217728) w byte code 7 1048576 (gap-ff (suc b) o (omega arith)) unit-seven s ∙ finish (suc b ∷ o) byte code count out o w 7 n (ap (λ (x : Option ℕ). before x o) h ∙ ap (λ (x : ℕ). x ∷ o) one)

place-carry : (b : ℕ) (out : Option ℕ) (d byte code count : ℕ) → (b ≡ 255 → ⊥) → 134217728 ≤ d → (b + 1 ≡ 255 → ⊥) → out ≡ Some (b + 1) → Splits (d - 134217728) 524288 byte code → count ≡ 8 → (o : List ℕ) (w : ℕ) → placed_after (b ∷ o) d w ≡ made_of byte code count (before out o) w
place-carry b out d byte code count e l f h s n o w =
    let one : b + 1 ≡ suc b = omega arith in
    carry-is b o d w e l ∙ with_byte-at (suc b ∷ o) (d - 134217728) w byte code 8 524288 (gap-other (suc b) o (λ k. f (one ∙ k))) unit-eight s ∙ finish (suc b ∷ o) byte code count out o w 8 n (ap (λ (x : Option ℕ). before x o) h ∙ ap (λ (x : ℕ). x ∷ o) one)

-- with what is above 2^27, if anything is
pub place-carried : (b carried rest : ℕ) (out : Option ℕ) (d byte code count : ℕ) → (b ≡ 255 → ⊥) → d < 268435456 → carried ≡ b + d / 134217728 → rest ≡ d % 134217728 → (carried ≡ 255 → ⊥) → out ≡ Some carried → Splits rest 524288 byte code → count ≡ 8
    → (o : List ℕ) (w : ℕ) → placed_after (b ∷ o) d w ≡ made_of byte code count (before out o) w
place-carried b carried rest out d byte code count e small c r f h s n o w =
    elim (cases_lt d 134217728) [
      | inl l ↦
          let none : carried ≡ b = omega (arith, c, l) in
          let all : rest ≡ d = omega (arith, r, l) in
          place-plain b out d byte code count e l (h ∙ ap (λ x. Some x) none) (subst (λ x. Splits x 524288 byte code) all s) n o w
      | inr l ↦
          let one : carried ≡ b + 1 = omega (arith, c, l, small) in
          let less : rest ≡ d - 134217728 = omega (arith, r, l, small) in
          place-carry b out d byte code count e l (λ z. f (one ∙ z)) (h ∙ ap (λ x. Some x) one) (subst (λ x. Splits x 524288 byte code) less s) n o w
    ]

pub place-carried_ff : (b carried rest : ℕ) (out : Option ℕ) (d byte code count : ℕ) → (b ≡ 255 → ⊥) → d < 268435456 → carried ≡ b + d / 134217728 → rest ≡ d % 134217728 → carried ≡ 255 → out ≡ Some carried → Splits rest 1048576 byte code → count ≡ 7
    → (o : List ℕ) (w : ℕ) → placed_after (b ∷ o) d w ≡ made_of byte code count (before out o) w
place-carried_ff b carried rest out d byte code count e small c r f h s n o w =
    elim (cases_lt d 134217728) [
      | inl l ↦ absurd (e (let none : b ≡ 255 = omega (arith, c, l, f) in none))
      | inr l ↦
          let one : carried ≡ b + 1 = omega (arith, c, l, small) in
          let less : rest ≡ d - 134217728 = omega (arith, r, l, small) in
          place-carry_ff b out d byte code count e l (sym one ∙ f) (h ∙ ap (λ x. Some x) one) (subst (λ x. Splits x 1048576 byte code) less s) n o w
    ]
