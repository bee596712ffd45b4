-- The binary digits of contexts.
use Rattle.std.proofs.Common.{◌≡◌, ℕ, ◌+◌, ◌-◌, ◌^◌, ◌<◌, Bool, true, false, not, refl, ap, arith}
use Rattle.std.specs.Prelude.{◌&&◌, ◌||◌, nat_eq}
use Rattle.std.proofs.lemmas.Bool.{and_parts}
use Rattle.std.proofs.lemmas.Bool.Decides.{nat_tests}
use Rattle.std.proofs.lemmas.Nat.Bits.{bit_at_ones}
use Rattle.jk_scan.specs.Bits.{on}
use Rattle.jk_scan.specs.Contexts.{low_context_of, high_context_of, contribution_of, sign_context_of}
use Rattle.jk_scan.specs.Neighbours.{count}
use Rattle.jk_scan.specs.Passes.{flipped}
use Rattle.jk_scan.specs.WordNumbers.{of_digits, sign_byte}

-- a test of both truth values
unfoldable pub both : (Bool → Bool) → Bool
both p = p true && p false

both_at : (p : Bool → Bool) → both p ≡ true → (b : Bool) → p b ≡ true
unfolding both
both_at p h true = (and_parts (p true) (p false) h).0
both_at p h false = (and_parts (p true) (p false) h).1

unfoldable pub all_eight : (Bool → Bool → Bool → Bool → Bool → Bool → Bool → Bool → Bool) → Bool
all_eight f = both (λ a. both (λ b. both (λ d. both (λ e. both (λ p. both (λ q. both (λ r. both (λ s. f a b d e p q r s))))))))

pub all_eight_at : (f : Bool → Bool → Bool → Bool → Bool → Bool → Bool → Bool → Bool) → all_eight f ≡ true → (a b d e p q r s : Bool) → f a b d e p q r s ≡ true
unfolding all_eight
all_eight_at f h a b d e p q r s =
    both_at (λ s. f a b d e p q r s)
    (both_at (λ r. both (λ s. f a b d e p q r s))
    (both_at (λ q. both (λ r. both (λ s. f a b d e p q r s)))
    (both_at (λ p. both (λ q. both (λ r. both (λ s. f a b d e p q r s))))
    (both_at (λ e. both (λ p. both (λ q. both (λ r. both (λ s. f a b d e p q r s)))))
    (both_at (λ d. both (λ e. both (λ p. both (λ q. both (λ r. both (λ s. f a b d e p q r s))))))
    (both_at (λ b. both (λ d. both (λ e. both (λ p. both (λ q. both (λ r. both (λ s. f a b d e p q r s)))))))
    (both_at (λ a. both (λ b. both (λ d. both (λ e. both (λ p. both (λ q. both (λ r. both (λ s. f a b d e p q r s)))))))) h a) b) d) e) p) q) r) s

pub same_number : (m n : ℕ) → nat_eq m n ≡ true → m ≡ n
same_number m n h = grind (arith, nat_tests)

-- one of two, but not both
abbrev pub one_of : (a b : Bool) → Bool
one_of a b = (a || b) && not (a && b)

-- one of four, and two or more of them
abbrev pub some_of : (p q r s : Bool) → Bool
some_of p q r s = (p || q) || (r || s)

abbrev pub several_of : (p q r s : Bool) → Bool
several_of p q r s = (((p || q) && (r || s)) || (p && q)) || (r && s)

abbrev pub low_digits_of : (a b d e p q r s : Bool) → ℕ
low_digits_of a b d e p q r s =
    of_digits ((one_of a b && not (some_of p q r s && not (d || e))) || ((one_of d e || ((some_of p q r s && not (several_of p q r s)) && not (d || e))) && not (a || b)))
    ((one_of a b && ((d || e) || some_of p q r s)) || ((one_of d e || (several_of p q r s && not (d || e))) && not (a || b)))
    (one_of a b || ((d && e) && not (a || b))) (a && b)

low_all : all_eight (λ a b d e p q r s. nat_eq (low_digits_of a b d e p q r s) (low_context_of (count a b) (count d e) (count p q + count r s))) ≡ true
unfolding both all_eight of_digits
low_all = refl

pub low_digits_are : (a b d e p q r s : Bool) → low_digits_of a b d e p q r s ≡ low_context_of (count a b) (count d e) (count p q + count r s)
low_digits_are a b d e p q r s =
    same_number (low_digits_of a b d e p q r s) (low_context_of (count a b) (count d e) (count p q + count r s))
    (all_eight_at (λ a b d e p q r s. nat_eq (low_digits_of a b d e p q r s) (low_context_of (count a b) (count d e) (count p q + count r s))) low_all a b d e p q r s)

-- three or more of four
abbrev pub three_of : (p q r s : Bool) → Bool
three_of p q r s = ((p && q) && (r || s)) || ((r && s) && (p || q))

-- two or more of them, in the order of the code
abbrev pub pairs_of : (a b d e : Bool) → Bool
pairs_of a b d e = (((a || b) && (d || e)) || (a && b)) || (d && e)

abbrev pub high_digits_of : (a b d e p q r s : Bool) → ℕ
high_digits_of a b d e p q r s =
    of_digits
    ((((several_of p q r s && not (three_of p q r s)) && some_of a b d e) || ((some_of p q r s && not (several_of p q r s)) && not (some_of a b d e && not (pairs_of a b d e)))) || ((some_of a b d e && not (pairs_of a b d e)) && not (some_of p q r s)))
    (((several_of p q r s && not (three_of p q r s)) || ((some_of p q r s && not (several_of p q r s)) && not (some_of a b d e))) || (pairs_of a b d e && not (some_of p q r s)))
    ((several_of p q r s && not (three_of p q r s)) || ((some_of p q r s && not (several_of p q r s)) && some_of a b d e))
    (three_of p q r s)

high_all : all_eight (λ a b d e p q r s. nat_eq (high_digits_of a b d e p q r s) (high_context_of (count a b + count d e) (count p q + count r s))) ≡ true
unfolding both all_eight of_digits
high_all = refl

pub high_digits_are : (a b d e p q r s : Bool) → high_digits_of a b d e p q r s ≡ high_context_of (count a b + count d e) (count p q + count r s)
high_digits_are a b d e p q r s =
    same_number (high_digits_of a b d e p q r s) (high_context_of (count a b + count d e) (count p q + count r s))
    (all_eight_at (λ a b d e p q r s. nat_eq (high_digits_of a b d e p q r s) (high_context_of (count a b + count d e) (count p q + count r s))) high_all a b d e p q r s)

-- What two neighbours a and b contribute to a sign, of which m and n are negative: positive, or
-- negative.
abbrev pub plus_of : (a b m n : Bool) → Bool
plus_of a b m n = ((a && not m) || (b && not n)) && not ((a && m) || (b && n))

abbrev pub minus_of : (a b m n : Bool) → Bool
minus_of a b m n = ((a && m) || (b && n)) && not ((a && not m) || (b && not n))

-- the digits by what is contributed across (p, m) and down (q, n)
abbrev pub sign_digits_of : (p m q n own : Bool) → ℕ
sign_digits_of p m q n own =
    of_digits (((m || (n && not (p || m))) && not own) || (own && not (m || (n && not (p || m)))))
    (true && not (((p || m) && not (q || n)) || ((q || n) && not (p || m))))
    ((q || n) && not ((p && q) || (m && n)))
    ((p || m) && not ((q || n) && not ((p && q) || (m && n))))

abbrev pub sign_byte_of : (a b d e m n o p own : Bool) → ℕ
sign_byte_of a b d e m n o p own =
    sign_byte (sign_context_of (contribution_of (count (a && not m) (b && not n)) (count (a && m) (b && n))) (contribution_of (count (d && not o) (e && not p)) (count (d && o) (e && p)))) own

sign_all : (own : Bool) → all_eight (λ a b d e m n o p. nat_eq (16 + sign_digits_of (plus_of a b m n) (minus_of a b m n) (plus_of d e o p) (minus_of d e o p) own) (sign_byte_of a b d e m n o p own)) ≡ true
unfolding both all_eight of_digits contribution_of sign_context_of flipped
sign_all true = refl
sign_all false = refl

pub sign_digits_are : (a b d e m n o p own : Bool) → 16 + sign_digits_of (plus_of a b m n) (minus_of a b m n) (plus_of d e o p) (minus_of d e o p) own ≡ sign_byte_of a b d e m n o p own
sign_digits_are a b d e m n o p own =
    same_number (16 + sign_digits_of (plus_of a b m n) (minus_of a b m n) (plus_of d e o p) (minus_of d e o p) own) (sign_byte_of a b d e m n o p own)
    (all_eight_at (λ a b d e m n o p. nat_eq (16 + sign_digits_of (plus_of a b m n) (minus_of a b m n) (plus_of d e o p) (minus_of d e o p) own) (sign_byte_of a b d e m n o p own)) (sign_all own) a b d e m n o p)

pub all_ones : (k : ℕ) → k < 64 → on (2 ^ 64 - 1) k ≡ true
unfolding on
all_ones k h = ap (λ b. nat_eq b 1) (bit_at_ones 64 k h)
