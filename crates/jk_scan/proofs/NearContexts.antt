-- The contexts of a place by the places next to it.
use Rattle.std.proofs.Common.{◌≡◌, ℕ, ◌+◌, ◌-◌, ◌*◌, Bool, true, not, cond, arith}
use Rattle.std.specs.Prelude.{◌&&◌, nat_le}
use Rattle.std.proofs.lemmas.Bool.Decides.{nat_tests}
use Rattle.jk_math.specs.declared.orientation.Orientation.{Orientation}
use Rattle.jk_scan.specs.declared.nearby.Nearby.{Nearby}
use Rattle.jk_scan.specs.Bits.{on}
use Rattle.jk_scan.specs.Contexts.{zero_context_of, contribution_of, sign_context_of}
use Rattle.jk_scan.specs.Neighbours.{count, zero_at, sign_at}
use Rattle.jk_scan.specs.Words.{Truths}
use Rattle.jk_scan.specs.WordNumbers.{IsNear, plus, minus}

pub zero_near : (orientation : Orientation) (f : Truths) (x y : ℕ) (near : Nearby) (k : ℕ) → IsNear f x y near k
    → zero_context_of orientation (count (on near.west k) (on near.east k)) (count (on near.north k) (on near.south k)) (count (on near.north_west k) (on near.north_east k) + count (on near.south_west k) (on near.south_east k)) ≡ zero_at orientation f x y
unfolding zero_at
zero_near orientation f x y near k h = same h.is_west h.is_east h.is_north h.is_south h.is_north_west h.is_north_east h.is_south_west h.is_south_east
  where
    same : {a b d e g i j k a' b' d' e' g' i' j' k' : Bool} → a ≡ a' → b ≡ b' → d ≡ d' → e ≡ e' → g ≡ g' → i ≡ i' → j ≡ j' → k ≡ k'
        → zero_context_of orientation (count a b) (count d e) (count g i + count j k) ≡ zero_context_of orientation (count a' b') (count d' e') (count g' i' + count j' k')
    same p q r s t u v z = cc

pub sign_near : (f n : Truths) (x y : ℕ) (near signs : Nearby) (k : ℕ) → IsNear f x y near k → IsNear n x y signs k
    → sign_context_of (contribution_of (count (plus near.west signs.west k) (plus near.east signs.east k)) (count (minus near.west signs.west k) (minus near.east signs.east k)))
    (contribution_of (count (plus near.north signs.north k) (plus near.south signs.south k)) (count (minus near.north signs.north k) (minus near.south signs.south k))) ≡ sign_at f n x y
unfolding sign_at
sign_near f n x y near signs k p m =
    same (plus_at (nat_le 1 x) (f (x - 1) y) (n (x - 1) y) p.is_west m.is_west) (plus_at true (f (x + 1) y) (n (x + 1) y) p.is_east m.is_east)
    (minus_at (nat_le 1 x) (f (x - 1) y) (n (x - 1) y) p.is_west m.is_west) (minus_at true (f (x + 1) y) (n (x + 1) y) p.is_east m.is_east)
    (plus_at (nat_le 1 y) (f x (y - 1)) (n x (y - 1)) p.is_north m.is_north) (plus_at true (f x (y + 1)) (n x (y + 1)) p.is_south m.is_south)
    (minus_at (nat_le 1 y) (f x (y - 1)) (n x (y - 1)) p.is_north m.is_north) (minus_at true (f x (y + 1)) (n x (y + 1)) p.is_south m.is_south)
  where
    plus_at : {s t : Bool} (g u v : Bool) → s ≡ (g && u) → t ≡ (g && v) → (s && not t) ≡ (g && (u && not v))
    plus_at g u v e h = grind (arith, nat_tests)

    minus_at : {s t : Bool} (g u v : Bool) → s ≡ (g && u) → t ≡ (g && v) → (s && t) ≡ (g && (u && v))
    minus_at g u v e h = grind (arith, nat_tests)

    same : {a b d e g i j k a' b' d' e' g' i' j' k' : Bool} → a ≡ a' → b ≡ b' → d ≡ d' → e ≡ e' → g ≡ g' → i ≡ i' → j ≡ j' → k ≡ k'
        → sign_context_of (contribution_of (count a b) (count d e)) (contribution_of (count g i) (count j k))
        ≡ sign_context_of (contribution_of (count a' b') (count d' e')) (contribution_of (count g' i') (count j' k'))
    same p q r s t u v z = cc

pub doubled_same : {m n : ℕ} {a b : Bool} → m ≡ n → a ≡ b → 2 * m + cond a 1 0 ≡ 2 * n + cond b 1 0
doubled_same e g = cc
