-- What is significant when refinement begins and isn't coded in this plane was so in a higher
-- plane.
use Rattle.std.proofs.Common.{◌≡◌, ℕ, ◌+◌, ◌-◌, ◌*◌, ◌%◌, ◌^◌, ◌<◌, ◌≤◌, Bool, true, false, List, Ok, sym, ap, ◌∙◌, subst, arith}
use Rattle.std.specs.Prelude.{◌&&◌, nat_le, nat_lt}
use Rattle.std.proofs.lemmas.Bool.{and_parts}
use Rattle.std.proofs.lemmas.Bool.Decides.{nat_tests}
use Rattle.std.proofs.lemmas.Grind.{pow_more}
use Rattle.std.proofs.Math.Nat.{mul-le-mul_right}
use Rattle.jk_scan.specs.declared.shape.BlockShape.{BlockShape}
use Rattle.jk_scan.specs.Neighbours.{is_inside}
use Rattle.jk_scan.specs.Moments.{number, visits, spread, moment}
use Rattle.jk_scan.proofs.Laws.{cases_of, number_below}
use Rattle.jk_block.specs.Meaning.{plane_of, kind_of, above}
use Rattle.jk_block.proofs.Changes.{mags_inside}
use Rattle.jk_block.specs.Reading.{Progress, known_significant, times, blank, begun, pass_at}
use Rattle.jk_block.proofs.Stages.{mags, Cut}
use Rattle.jk_block.proofs.Whole.{ready, passes_onward}

twice : (a b m : ℕ) → m ≡ a * 2 ^ b → 2 ≤ a → 2 ^ (b + 1) ≤ m
twice a b m e h = let p = pow_more 2 b in let t = mul-le-mul_right (2 ^ b) h in omega (arith, e, p, t)

nothing : (a p m : ℕ) → m ≡ a * p → a ≡ 0 → nat_lt 0 m ≡ true → ⊥
nothing a p m e h l = let g : a * p ≡ 0 * p = ap (λ a. a * p) h in let z : m ≡ 0 = omega (arith, e, g) in let f : nat_lt 0 m ≡ false = ap (nat_lt 0) z in let c : true ≡ false = sym l ∙ f in absurd cc

fresh_at : (s : BlockShape) (b : ℕ) (z : Progress) → Cut s b (1 * visits s) z → (x y : ℕ) → known_significant s z x y ≡ true → z.visited x y ≡ false → 2 ^ (b + 1) ≤ z.magnitude x y
fresh_at s b z cut x y is_significant unseen =
    let parts = and_parts (is_inside s x y) (nat_lt 0 (z.magnitude x y)) is_significant in
    let whole = cut.whole x y parts.0 in
    let below = number_below s x y parts.0 in
    cases_of s (mags s b z) x y
    (λ w. twice (mags s b z x y) b (z.magnitude x y) whole (large (mags s b z x y) w.old_is))
    (λ w. absurd (seen (spread s (mags s b z) x y) (number s.width x y) w.spread_is (omega arith) (sym (cut.visited x y parts.0) ∙ unseen)))
    (λ w. absurd (nothing (mags s b z x y) (2 ^ b) (z.magnitude x y) whole
    (small (mags s b z x y) w.old_is (cut.even x y parts.0 (late (moment s (mags s b z) x y) (number s.width x y) w.moment_is))) parts.1))
  where
    large : (a : ℕ) → nat_le 2 a ≡ true → 2 ≤ a
    large a h = grind (arith, nat_tests)

    small : (a : ℕ) → nat_le 2 a ≡ false → a % 2 ≡ 0 → a ≡ 0
    small a h e = grind (arith, nat_tests)

    late : (m n : ℕ) → m ≡ 2 * visits s + n → nat_lt m (1 * visits s) ≡ false
    late m n e = grind (arith, nat_tests)

    seen : (p : Bool) (n : ℕ) → p ≡ true → n < 1 * visits s → (p && nat_lt n (1 * visits s)) ≡ false → ⊥
    seen p n e h g = let l : nat_lt n (1 * visits s) ≡ true = grind (arith, nat_tests) in let c : true ≡ false = sym (ap (λ p. p && nat_lt n (1 * visits s)) e ∙ l) ∙ g in absurd cc

-- after some passes
pub fresh_after : (bytes : List ℕ) (s : BlockShape) (planes n : ℕ) (z : Progress) → n < 3 * planes - 2 → kind_of n ≡ 1 → times n (pass_at bytes s planes) blank ≡ Ok z
    → (x y : ℕ) → known_significant s z x y ≡ true → z.visited x y ≡ false → 2 ^ (plane_of planes n + 1) ≤ z.magnitude x y
fresh_after bytes s planes n z h kind is =
    let cut = ready s planes n z h (passes_onward bytes s planes n z (omega arith) is) in
    fresh_at s (plane_of planes n) z (subst (λ k. Cut s (plane_of planes n) (k * visits s) (begun k z)) kind cut)

-- nothing is held below the plane of a pass
pub whole_after : (bytes : List ℕ) (s : BlockShape) (planes n : ℕ) (z : Progress) → n < 3 * planes - 2 → times n (pass_at bytes s planes) blank ≡ Ok z
    → (x y : ℕ) → is_inside s x y ≡ true → above (plane_of planes n) (z.magnitude x y) ≡ z.magnitude x y
whole_after bytes s planes n z h is x y i =
    let b = plane_of planes n in
    let cut = ready s planes n z h (passes_onward bytes s planes n z (omega arith) is) in
    ap (λ q. q * 2 ^ b) (sym (mags_inside s b z x y i)) ∙ sym (cut.whole x y i)
