-- What a draft has become where places of a word have become significant.
use Rattle.std.proofs.Common.{◌≡◌, ℕ, ◌+◌, ◌*◌, ◌/◌, ◌^◌, Bool, true, false, cond, refl, sym, ap, ◌∙◌, inl, inr, arith}
use Rattle.std.specs.Prelude.{◌&&◌, ◌⊎◌, nat_eq, nat_lt}
use Rattle.std.proofs.lemmas.Bool.Decides.{nat_tests}
use Rattle.std.proofs.lemmas.Nat.{pow_pos}
use Rattle.jk_scan.specs.Neighbours.{is_inside}
use Rattle.jk_scan.specs.WordPlaces.{column, row}
use Rattle.jk_block.specs.declared.word_place.WordPlace.{WordPlace}
use Rattle.jk_block.specs.declared.decoding.sight.Sight.{Sight}
use Rattle.jk_block.specs.Fields.{is_in_word}
use Rattle.jk_block.specs.Meaning.{above}
use Rattle.jk_block.specs.Steps.{IsBitPlace}
use Rattle.jk_block.specs.decoding.BlockStates.{Draft, significant_in, coded_in, visited_in}
use Rattle.jk_block.specs.decoding.Sights.{Sees, IsSame, IsNew, Held}
use Rattle.jk_block.proofs.WordDrawing.{place_bit}

-- nothing has happened
pub held_none : (at : WordPlace) (k : Draft) (sight : Sight) → Sees at k sight → Held at k sight k
held_none at k sight s = record { shape = refl; sees = s; changed = λ x y. inl record { magnitude = refl; negative = refl } }

pub sees_visited : (at : WordPlace) (d : Draft) (sight : Sight) (x y : ℕ) → Sees at d sight → Sees at (visited_in x y d) sight
sees_visited at d sight x y s = record { significant = s.significant; negative = s.negative }

-- a place was coded, and its bit is 0
pub held_visited : (at : WordPlace) (k d : Draft) (sight sight' : Sight) (x y : ℕ) → Held at k sight d → Sees at (visited_in x y d) sight' → Held at k sight' (visited_in x y d)
held_visited at k d sight sight' x y h s = record {
  shape = h.shape;
  sees = s;
  changed = λ u v. elim (h.changed u v) [ inl e ↦ inl record { magnitude = e.magnitude; negative = e.negative } | inr e ↦ inr record { word = e.word; inside = e.inside; before = e.before; now = e.now } ];
}

pub held_same : (at : WordPlace) (k d : Draft) (sight sight' : Sight) → Held at k sight d → Sees at d sight' → Held at k sight' d
held_same at k d sight sight' h s = record { shape = h.shape; sees = s; changed = h.changed }

dark_zero : (m : ℕ) (i : Bool) → i ≡ true → (i && nat_lt 0 m) ≡ false → m ≡ 0
dark_zero m i e h = grind (arith, nat_tests)

-- a magnitude of nothing
above_zero : (b m : ℕ) → m ≡ 0 → above (b + 1) m + 2 ^ b ≡ 2 ^ b
above_zero b m e = ap (λ m. above (b + 1) m + 2 ^ b) e ∙ ap (λ q. q * 2 ^ (b + 1) + 2 ^ b) (zero_div (2 ^ (b + 1))) ∙ (let g : 0 * 2 ^ (b + 1) + 2 ^ b ≡ 2 ^ b = omega arith in g)
  where
    zero_div : (p : ℕ) → 0 / p ≡ 0
    zero_div p = omega arith

-- a place becomes significant
pub held_significant : (at : WordPlace) (k d : Draft) (sight sight' : Sight) (z : ℕ) (negative : Bool) → Held at k sight d → IsBitPlace d.shape at z → significant_in d (column at.word z) (row at.stripe z) ≡ false
    → Sees at (coded_in at.plane (column at.word z) (row at.stripe z) true negative d) sight' → Held at k sight' (coded_in at.plane (column at.word z) (row at.stripe z) true negative d)
held_significant at k d sight sight' z negative h place off s = record {
  shape = h.shape;
  sees = s;
  changed = λ u v. changed u v;
}
  where
    x : ℕ
    x = column at.word z

    y : ℕ
    y = row at.stripe z

    new : Draft
    new = coded_in at.plane (column at.word z) (row at.stripe z) true negative d

    none : d.magnitude (column at.word z) (row at.stripe z) ≡ 0
    none = dark_zero (d.magnitude (column at.word z) (row at.stripe z)) (is_inside d.shape (column at.word z) (row at.stripe z)) place.inside off

    before : k.magnitude (column at.word z) (row at.stripe z) ≡ 0
    before = elim (h.changed (column at.word z) (row at.stripe z)) [
      | inl e ↦ sym e.magnitude ∙ none
      | inr e ↦ absurd (let p = pow_pos at.plane in let f = sym e.now ∙ none in omega (arith, p, f))
    ]

    changed : (u v : ℕ) → IsSame k (coded_in at.plane (column at.word z) (row at.stripe z) true negative d) u v ⊎ IsNew at k (coded_in at.plane (column at.word z) (row at.stripe z) true negative d) u v
    changed u v = by (nat_eq u (column at.word z) && nat_eq v (row at.stripe z)) refl
      where
        equal : (a b c d : ℕ) → (nat_eq a b && nat_eq c d) ≡ true → (a ≡ b) × (c ≡ d)
        equal a b c d e = (grind (arith, nat_tests), grind (arith, nat_tests))

        by : (b : Bool) → (nat_eq u (column at.word z) && nat_eq v (row at.stripe z)) ≡ b → IsSame k (coded_in at.plane (column at.word z) (row at.stripe z) true negative d) u v ⊎ IsNew at k (coded_in at.plane (column at.word z) (row at.stripe z) true negative d) u v
        by true e =
            let same = equal u (column at.word z) v (row at.stripe z) e in
            inr record {
              word = ap (λ u. is_in_word at.word at.stripe u v) same.0 ∙ ap (λ v. is_in_word at.word at.stripe (column at.word z) v) same.1 ∙ (place_bit at.word at.stripe z place.within place.on_row).0;
              inside = ap (λ u. is_inside d.shape u v) same.0 ∙ ap (λ v. is_inside d.shape (column at.word z) v) same.1 ∙ place.inside;
              before = ap (λ u. k.magnitude u v) same.0 ∙ ap (λ v. k.magnitude (column at.word z) v) same.1 ∙ before;
              now = ap (λ b. cond b (above (at.plane + 1) (d.magnitude (column at.word z) (row at.stripe z)) + 2 ^ at.plane) (d.magnitude u v)) e ∙ above_zero at.plane (d.magnitude (column at.word z) (row at.stripe z)) none;
            }
        by false e = elim (h.changed u v) [
          | inl w ↦ inl record {
            magnitude = ap (λ b. cond b (above (at.plane + 1) (d.magnitude (column at.word z) (row at.stripe z)) + 2 ^ at.plane) (d.magnitude u v)) e ∙ w.magnitude;
            negative = ap (λ b. cond b negative (d.negative u v)) e ∙ w.negative;
          }
          | inr w ↦ inr record {
            word = w.word;
            inside = w.inside;
            before = w.before;
            now = ap (λ b. cond b (above (at.plane + 1) (d.magnitude (column at.word z) (row at.stripe z)) + 2 ^ at.plane) (d.magnitude u v)) e ∙ w.now;
          }
        ]
