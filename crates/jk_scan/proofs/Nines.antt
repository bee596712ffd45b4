-- The nine places of a neighbourhood, brought together.
use Rattle.std.proofs.Common.{◌≡◌, ℕ, ◌+◌, ◌*◌, ◌/◌, ◌^◌, ◌<◌, Bool, true, refl, ap, ◌∙◌, arith}
use Rattle.std.specs.Int.RustNames.{bit_or, bit_and}
use Rattle.std.specs.Prelude.{◌&&◌, ◌||◌, nat_eq}
use Rattle.std.proofs.lemmas.Nat.{or_lt, and_le_r}
use Rattle.std.proofs.lemmas.Bool.Decides.{nat_tests}
use Rattle.jk_scan.specs.Bits.{on}
use Rattle.jk_scan.proofs.BitLaws.{on_or, on_and, on_shr_at}
use Rattle.jk_scan.proofs.Patterns.{all_below, all_at, same, same_is}

-- the masks, column by column
pub in_column : (mask b : ℕ) → Bool
in_column mask b = all_below 3 (λ a. all_below 3 (λ t. same (on mask (3 * a + t)) (nat_eq a b)))

pub column_at : (mask b : ℕ) → in_column mask b ≡ true → (a t : ℕ) → a < 3 → t < 3 → on mask (3 * a + t) ≡ nat_eq a b
unfolding in_column
column_at mask b h a t p q =
    same_is (on mask (3 * a + t)) (nat_eq a b) (all_at 3 (λ t. same (on mask (3 * a + t)) (nat_eq a b)) (all_at 3 (λ a. all_below 3 (λ t. same (on mask (3 * a + t)) (nat_eq a b))) h a p) t q)

pub first : in_column 7 0 ≡ true
unfolding in_column all_below same on
first = refl

pub second : in_column 0x38 1 ≡ true
unfolding in_column all_below same on
second = refl

pub third : in_column 0x1c0 2 ≡ true
unfolding in_column all_below same on
third = refl

pub nine_at : (w a t : ℕ) → a < 3 → t < 3 → on (bit_or (bit_or (bit_and w 7) (bit_and (w / 2 ^ 5) 0x38)) (bit_and (w / 2 ^ 10) 0x1c0)) (3 * a + t) ≡ on w (8 * a + t)
nine_at w a t p q =
    let k = 3 * a + t in
    on_or (bit_or (bit_and w 7) (bit_and (w / 2 ^ 5) 0x38)) (bit_and (w / 2 ^ 10) 0x1c0) k ∙ ap (λ b. b || on (bit_and (w / 2 ^ 10) 0x1c0) k) (on_or (bit_and w 7) (bit_and (w / 2 ^ 5) 0x38) k)
    ∙ chosen a (on w k) (on (w / 2 ^ 5) k) (on (w / 2 ^ 10) k) (on (bit_and w 7) k) (on (bit_and (w / 2 ^ 5) 0x38) k) (on (bit_and (w / 2 ^ 10) 0x1c0) k) (on w (8 * a + t)) p
    (on_and w 7 k ∙ ap (λ b. on w k && b) (column_at 7 0 first a t p q))
    (on_and (w / 2 ^ 5) 0x38 k ∙ ap (λ b. on (w / 2 ^ 5) k && b) (column_at 0x38 1 second a t p q))
    (on_and (w / 2 ^ 10) 0x1c0 k ∙ ap (λ b. on (w / 2 ^ 10) k && b) (column_at 0x1c0 2 third a t p q))
    (λ e. ap (on w) (omega arith)) (λ e. on_shr_at w 5 (8 * a + t) k (omega arith)) (λ e. on_shr_at w 10 (8 * a + t) k (omega arith))
  where
    chosen : (a : ℕ) (x y z x' y' z' v : Bool) → a < 3 → x' ≡ (x && nat_eq a 0) → y' ≡ (y && nat_eq a 1) → z' ≡ (z && nat_eq a 2) → (a ≡ 0 → x ≡ v) → (a ≡ 1 → y ≡ v) → (a ≡ 2 → z ≡ v) → ((x' || y') || z') ≡ v
    chosen a x y z x' y' z' v p h k l e g i = grind (arith, nat_tests)

pub nine_below : (w : ℕ) → bit_or (bit_or (bit_and w 7) (bit_and (w / 2 ^ 5) 0x38)) (bit_and (w / 2 ^ 10) 0x1c0) < 512
nine_below w =
    or_lt 9 (bit_or (bit_and w 7) (bit_and (w / 2 ^ 5) 0x38)) (bit_and (w / 2 ^ 10) 0x1c0)
    (or_lt 9 (bit_and w 7) (bit_and (w / 2 ^ 5) 0x38) (let e = and_le_r w 7 in omega (arith, e)) (let e = and_le_r (w / 2 ^ 5) 0x38 in omega (arith, e)))
    (let e = and_le_r (w / 2 ^ 10) 0x1c0 in omega (arith, e))
