-- BYTEOUT keeps the invariant.
use Rattle.std.proofs.Common.{◌≡◌, ◌∙◌, ap, sym, subst, ℕ, suc, ◌+◌, ◌-◌, ◌*◌, ◌/◌, ◌%◌, ◌^◌, ◌<◌, ◌≤◌, ◌⊎◌, inl, inr, Bool, cond, List, [], ◌∷◌, eqb, ltb, refl, arith}
use Rattle.std.proofs.lemmas.Bool.{cases_eq, cases_lt, eq-eqb, ne_eqb, lt-ltb, le-ltb}
use Rattle.std.proofs.lemmas.Nat.{div-add-mod', mod_below}
use Rattle.jk_model.specs.Decisions.{State}
use Rattle.jk_model.specs.Placed.{gap, top, placed_number, end, Clean}
use Rattle.jk_mqenc.specs.Machine.{Machine, unit, with_byte, byte_out, HasRoom, HoldsInterval}
use Rattle.jk_model.proofs.Laws.{top-ff, after_ff, plain, follows}
use Rattle.jk_mqenc.proofs.Machine.{unit-zero, unit-seven, unit-eight}

-- the byte that is placed and what stays, at a unit of v
halves : (d u v : ℕ) → u ≡ v → 0 < v → (d / u * v + d % u ≡ d) × (d % u < v)
halves d u v e h =
    (ap (λ x. d / u * x + d % u) (sym e) ∙ div-add-mod' d u, subst (λ x. d % u < x) e (mod_below d u (subst (λ x. 0 < x) (sym e) h)))

-- what the code d above these bytes makes of the interval, in units of 2^27, before a byte is
-- placed
pub record Due (bs : List ℕ) (d w : ℕ) (s : State) : Type 0 where
  pub low : s.low ≡ d + placed_number bs * 134217728
  pub clock : s.doublings ≡ 12 + end bs
  pub width : w ≡ s.width
  pub positive : 1 ≤ w
  pub largest : w < 2 ^ 16
  pub after_ff : top bs ≡ 143 → d + w ≤ 150994944
  pub plain : top bs ≡ 255 → d < 134217728
  pub clean : Clean bs

abbrev placing : List ℕ → ℕ → ℕ → ℕ → Machine
placing bs d w g = record { code = d % unit g; width = w; count = g; placed = (d / unit g) ∷ bs }

with_byte-after_ff : (bs : List ℕ) (d w : ℕ) (s : State) → gap bs ≡ 7 → top bs ≡ 143 → Due bs d w s → HoldsInterval (placing bs d w 7) s
with_byte-after_ff bs d w s g t i =
    let x = d / unit 7 in
    let h = halves d (unit 7) 1048576 unit-seven (omega arith) in
    let sum = h.0 in
    let rest = h.1 in
    let weight : placed_number (x ∷ bs) * unit 7 ≡ (placed_number bs * 128 + x) * 1048576 = ap (λ k. (placed_number bs * 2 ^ k + x) * unit 7) g ∙ ap (λ v. (placed_number bs * 128 + x) * v) unit-seven in
    let own : x * unit 7 ≡ x * 1048576 = ap (λ v. x * v) unit-seven in
    let bound = i.after_ff t in
    record {
      low = omega (arith, i.low, weight, sum);
      clock = omega (arith, i.clock, g);
      count = omega arith;
      width = i.width;
      positive = i.positive;
      largest = i.largest;
      room = omega (arith, i.largest, rest, unit-seven);
      above = λ k. omega (arith, own, sum, bound, unit-seven);
      clean = (omega (arith, sum, bound, i.positive, t), i.clean);
    }

with_byte-plain : (bs : List ℕ) (d w : ℕ) (s : State) → gap bs ≡ 8 → top bs ≡ 255 → Due bs d w s → HoldsInterval (placing bs d w 8) s
with_byte-plain bs d w s g t i =
    let x = d / unit 8 in
    let h = halves d (unit 8) 524288 unit-eight (omega arith) in
    let sum = h.0 in
    let rest = h.1 in
    let weight : placed_number (x ∷ bs) * unit 8 ≡ (placed_number bs * 256 + x) * 524288 = ap (λ k. (placed_number bs * 2 ^ k + x) * unit 8) g ∙ ap (λ v. (placed_number bs * 256 + x) * v) unit-eight in
    let bound = i.plain t in
    record {
      low = omega (arith, i.low, weight, sum);
      clock = omega (arith, i.clock, g);
      count = omega arith;
      width = i.width;
      positive = i.positive;
      largest = i.largest;
      room = omega (arith, i.largest, rest, unit-eight);
      above = λ k. absurd (omega (arith, k, t));
      clean = (omega (arith, sum, bound, t), i.clean);
    }

pub with_byte-holds : (bs : List ℕ) (d w : ℕ) (s : State) → Due bs d w s → HoldsInterval (with_byte bs d w) s
with_byte-holds bs d w s i =
    elim (follows bs) [
      | after_ff g t ↦ subst (λ k. HoldsInterval (placing bs d w k) s) (sym g) (with_byte-after_ff bs d w s g t i)
      | plain g t ↦ subst (λ k. HoldsInterval (placing bs d w k) s) (sym g) (with_byte-plain bs d w s g t i)
    ]

-- ---- what is due at CT = 0

-- the same bytes, with no carry
due-same : (m : Machine) (s : State) → m.count ≡ 0 → (top m.placed ≡ 255 → m.code < 134217728) → HoldsInterval m s → Due m.placed m.code m.width s
due-same m s z p i =
    let u : unit m.count ≡ 134217728 = ap (λ c. unit c) z ∙ unit-zero in
    let weight : placed_number m.placed * unit m.count ≡ placed_number m.placed * 134217728 = ap (λ v. placed_number m.placed * v) u in
    record {
      low = omega (arith, i.low, weight);
      clock = omega (arith, i.clock, z);
      width = i.width;
      positive = i.positive;
      largest = i.largest;
      after_ff = λ k. omega (arith, i.room, u);
      plain = p;
      clean = i.clean;
    }

-- the byte before the last one leaves the last one room for a carry
carry-fits : (b : ℕ) (o : List ℕ) (u x : ℕ) → u ≡ 134217728 → 134217728 < x → (b ≡ 255 → ⊥) → b ≤ top o → HasRoom (b ∷ o) u x → suc b ≤ top o
carry-fits b o u x e h n l r =
    elim (follows o) [
      | after_ff g t ↦
          let k = r t in
          let own : b * u ≡ b * 134217728 = ap (λ v. b * v) e in
          omega (arith, k, own, e, t)
      | plain g t ↦ omega (arith, t, l, n)
    ]

-- after a carry nothing more than 2^24 is left
due-carry : (b : ℕ) (o : List ℕ) (d w : ℕ) (s : State) → (b ≡ 255 → ⊥) → 134217728 ≤ d → HoldsInterval (record { code = d; width = w; count = 0; placed = b ∷ o }) s → Due (suc b ∷ o) (d - 134217728) w s
due-carry b o d w s n c i =
    let weight : placed_number (b ∷ o) * unit 0 ≡ placed_number (b ∷ o) * 134217728 = ap (λ v. placed_number (b ∷ o) * v) unit-zero in
    let fits = carry-fits b o (unit 0) (d + w) unit-zero (omega (arith, i.positive)) n i.clean.0 i.above in
    record {
      low = omega (arith, i.low, weight);
      clock = omega (arith, i.clock);
      width = i.width;
      positive = i.positive;
      largest = i.largest;
      after_ff = λ k. omega (arith, i.room, unit-zero);
      plain = λ k. omega (arith, i.room, i.positive, unit-zero);
      clean = (fits, i.clean.1);
    }

-- ---- BYTEOUT is a carry or none, and then a byte is with_byte

-- the bytes after the carry
abbrev pub IsCarried : List ℕ → List ℕ → Type 0
IsCarried old new = (new ≡ old) ⊎ ((b : ℕ) × (o : List ℕ) × (old ≡ b ∷ o) × (new ≡ suc b ∷ o))

pub record Settled (m : Machine) (s : State) : Type 0 where
  pub bytes : List ℕ
  pub rest : ℕ
  pub due : Due bytes rest m.width s
  pub is : byte_out m ≡ with_byte bytes rest m.width
  pub from : IsCarried m.placed bytes

byte_out-nil : (d w : ℕ) → byte_out (record { code = d; width = w; count = 0; placed = [] }) ≡ with_byte [] d w
unfolding byte_out
byte_out-nil d w = refl

byte_out-cons : (b : ℕ) (o : List ℕ) (d w : ℕ) → byte_out (record { code = d; width = w; count = 0; placed = b ∷ o }) ≡ cond (eqb b 255) (with_byte (b ∷ o) d w) (cond (ltb d 134217728) (with_byte (b ∷ o) d w) (with_byte (suc b ∷ o) (d - 134217728) w))
unfolding byte_out
byte_out-cons b o d w = refl

abbrev at_zero : List ℕ → ℕ → ℕ → Machine
at_zero bs d w = record { code = d; width = w; count = 0; placed = bs }

settled-zero : (bs : List ℕ) (d w : ℕ) (s : State) → HoldsInterval (at_zero bs d w) s → Settled (at_zero bs d w) s
settled-zero [] d w s i = record {
  bytes = [];
  rest = d;
  due = due-same (at_zero [] d w) s refl (λ t. omega (arith, i.above, i.positive, unit-zero)) i;
  is = byte_out-nil d w;
  from = inl refl;
}
settled-zero (b ∷ o) d w s i =
    let here = with_byte (b ∷ o) d w in
    let carried = with_byte (suc b ∷ o) (d - 134217728) w in
    elim (cases_eq b 255) [
      | inl e ↦ record {
        bytes = b ∷ o;
        rest = d;
        due = due-same (at_zero (b ∷ o) d w) s refl (λ t. absurd (omega (arith, top-ff b o e))) i;
        is = byte_out-cons b o d w ∙ ap (λ (t : Bool). cond t here (cond (ltb d 134217728) here carried)) (eq-eqb b 255 e);
        from = inl refl;
      }
      | inr n ↦ elim (cases_lt d 134217728) [
        | inl l ↦ record {
          bytes = b ∷ o;
          rest = d;
          due = due-same (at_zero (b ∷ o) d w) s refl (λ t. l) i;
          is = byte_out-cons b o d w ∙ ap (λ (t : Bool). cond t here (cond (ltb d 134217728) here carried)) (ne_eqb b 255 n) ∙ ap (λ (t : Bool). cond t here carried) (lt-ltb d 134217728 l);
          from = inl refl;
        }
        | inr l ↦ record {
          bytes = suc b ∷ o;
          rest = d - 134217728;
          due = due-carry b o d w s n l i;
          is = byte_out-cons b o d w ∙ ap (λ (t : Bool). cond t here (cond (ltb d 134217728) here carried)) (ne_eqb b 255 n) ∙ ap (λ (t : Bool). cond t here carried) (le-ltb d 134217728 l);
          from = inr (b, o, refl, refl);
        }
      ]
    ]

pub settled : (m : Machine) (s : State) → m.count ≡ 0 → HoldsInterval m s → Settled m s
settled m s z i =
    let e : m ≡ at_zero m.placed m.code m.width = ap (λ (c : ℕ). record m { count = c }) z in
    subst (λ (k : Machine). Settled k s) (sym e) (settled-zero m.placed m.code m.width s (subst (λ (k : Machine). HoldsInterval k s) e i))

-- E4
pub byte_out-holds : (m : Machine) (s : State) → m.count ≡ 0 → HoldsInterval m s → HoldsInterval (byte_out m) s
byte_out-holds m s z i =
    let t = settled m s z i in
    subst (λ (k : Machine). HoldsInterval k s) (sym t.is) (with_byte-holds t.bytes t.rest m.width s t.due)
