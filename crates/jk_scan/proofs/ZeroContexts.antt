-- Where the context of a place that isn't significant is 0.
use Rattle.std.proofs.Common.{◌≡◌, ℕ, ◌+◌, Bool, true, false, not, refl, ap, ◌∙◌, arith}
use Rattle.std.specs.Prelude.{◌&&◌, ◌||◌, nat_eq}
use Rattle.std.proofs.lemmas.Bool.Decides.{nat_tests}
use Rattle.jk_math.specs.declared.orientation.Orientation.{Orientation}
use Rattle.jk_math.specs.declared.orientation.Orientation.TheVariants.{LL, HL, LH, HH}
use Rattle.jk_scan.specs.Contexts.{low_context_of, high_context_of, zero_context_of}
use Rattle.jk_scan.specs.Neighbours.{Field, west, east, north, south, count, horizontal, vertical, diagonal, touched, zero_at}

low_zero : (h v d : ℕ) → nat_eq (low_context_of h v d) 0 ≡ (nat_eq h 0 && (nat_eq v 0 && nat_eq d 0))
low_zero h v d = grind (arith, nat_tests)

high_zero : (b d : ℕ) → nat_eq (high_context_of b d) 0 ≡ (nat_eq b 0 && nat_eq d 0)
high_zero b d = grind (arith, nat_tests)

sum_zero : (h v : ℕ) → nat_eq (h + v) 0 ≡ (nat_eq h 0 && nat_eq v 0)
sum_zero h v = grind (arith, nat_tests)

count_zero : (a b : Bool) → nat_eq (count a b) 0 ≡ not (a || b)
count_zero true true = refl
count_zero true false = refl
count_zero false true = refl
count_zero false false = refl

turned : (a b d : Bool) → (a && (b && d)) ≡ (b && (a && d))
turned true true d = refl
turned true false d = refl
turned false true d = refl
turned false false d = refl

nested : (a b d : Bool) → ((a && b) && d) ≡ (a && (b && d))
nested true b d = refl
nested false b d = refl

by_counts : (orientation : Orientation) (h v d : ℕ) → nat_eq (zero_context_of orientation h v d) 0 ≡ (nat_eq h 0 && (nat_eq v 0 && nat_eq d 0))
unfolding zero_context_of
by_counts LL h v d = low_zero h v d
by_counts HL h v d = low_zero v h d ∙ turned (nat_eq v 0) (nat_eq h 0) (nat_eq d 0)
by_counts LH h v d = low_zero h v d
by_counts HH h v d = high_zero (h + v) d ∙ ap (λ b. b && nat_eq d 0) (sum_zero h v) ∙ nested (nat_eq h 0) (nat_eq v 0) (nat_eq d 0)

none : (h v d e : Bool) → (not h && (not v && (not d && not e))) ≡ not ((h || v) || (d || e))
none true v d e = refl
none false true d e = refl
none false false true e = refl
none false false false e = refl

pub zero_where : (orientation : Orientation) (f : Field Bool) (x y : ℕ) → nat_eq (zero_at orientation f x y) 0 ≡ not (touched f x y)
unfolding zero_at touched
zero_where orientation f x y =
    let up = count (west (north f) x y) (east (north f) x y) in
    let down = count (west (south f) x y) (east (south f) x y) in
    by_counts orientation (horizontal f x y) (vertical f x y) (diagonal f x y)
    ∙ ap (λ d. nat_eq (horizontal f x y) 0 && (nat_eq (vertical f x y) 0 && d)) (sum_zero up down)
    ∙ ap (λ h. h && (nat_eq (vertical f x y) 0 && (nat_eq up 0 && nat_eq down 0))) (count_zero (west f x y) (east f x y))
    ∙ ap (λ v. not (west f x y || east f x y) && (v && (nat_eq up 0 && nat_eq down 0))) (count_zero (north f x y) (south f x y))
    ∙ ap (λ u. not (west f x y || east f x y) && (not (north f x y || south f x y) && (u && nat_eq down 0))) (count_zero (west (north f) x y) (east (north f) x y))
    ∙ ap (λ d. not (west f x y || east f x y) && (not (north f x y || south f x y) && (not (west (north f) x y || east (north f) x y) && d))) (count_zero (west (south f) x y) (east (south f) x y))
    ∙ none (west f x y || east f x y) (north f x y || south f x y) (west (north f) x y || east (north f) x y) (west (south f) x y || east (south f) x y)
