-- Places of a word in a pass.
use Rattle.std.proofs.Common.{◌≡◌, ℕ, zero, suc, Bool, true, false, not, cond, List, Result, Ok, ap, ◌∙◌, subst}
use Rattle.std.specs.Prelude.{◌&&◌, IfOk}
use Rattle.jk_math.specs.declared.fault.Fault.{Fault}
use Rattle.jk_math.specs.Steps.{done}
use Rattle.jk_scan.specs.declared.shape.BlockShape.{BlockShape}
use Rattle.jk_scan.specs.Neighbours.{Field, is_inside, touched_in}
use Rattle.jk_scan.specs.WordPlaces.{also}
use Rattle.jk_block.specs.Reading.{Progress, known_significant, visit, read_new, read_refined, place_at}

-- the place is coded in this pass
abbrev pub is_due : BlockShape → (pass x y : ℕ) → Progress → Bool
is_due s zero x y z = is_inside s x y && (not (known_significant s z x y) && touched_in s (known_significant s z) x y)
is_due s (suc zero) x y z = known_significant s z x y && not (z.visited x y)
is_due s (suc (suc n)) x y z = is_inside s x y && (not (known_significant s z x y) && not (z.visited x y))

pub place_idle : (bytes : List ℕ) (s : BlockShape) (b pass x y : ℕ) (z : Progress) → is_due s pass x y z ≡ false → place_at bytes s b pass x y z ≡ Ok z
unfolding place_at
place_idle bytes s b zero x y z e = ap (λ q. cond q (read_new bytes s b x y (visit x y z)) (done z)) e
place_idle bytes s b (suc zero) x y z e = ap (λ q. cond q (read_refined bytes s b x y z) (done z)) e
place_idle bytes s b (suc (suc n)) x y z e = ap (λ q. cond q (read_new bytes s b x y z) (done z)) e

pub member_due : (bytes : List ℕ) (s : BlockShape) (b x y : ℕ) (z : Progress) → is_inside s x y ≡ true → (not (known_significant s z x y) && touched_in s (known_significant s z) x y) ≡ true → place_at bytes s b 0 x y z ≡ read_new bytes s b x y (visit x y z)
unfolding place_at
member_due bytes s b x y z i e = ap (λ q. cond (q && (not (known_significant s z x y) && touched_in s (known_significant s z) x y)) (read_new bytes s b x y (visit x y z)) (done z)) i ∙ ap (λ q. cond q (read_new bytes s b x y (visit x y z)) (done z)) e

pub next_due : (bytes : List ℕ) (s : BlockShape) (b x y : ℕ) (z : Progress) → known_significant s z x y ≡ true → z.visited x y ≡ false → place_at bytes s b 1 x y z ≡ read_refined bytes s b x y z
unfolding place_at
next_due bytes s b x y z e g = ap (λ q. cond (q && not (z.visited x y)) (read_refined bytes s b x y z) (done z)) e ∙ ap (λ q. cond (not q) (read_refined bytes s b x y z) (done z)) g

pub left_due : (bytes : List ℕ) (s : BlockShape) (b x y : ℕ) (z : Progress) → is_inside s x y ≡ true → (not (known_significant s z x y) && not (z.visited x y)) ≡ true → place_at bytes s b 2 x y z ≡ read_new bytes s b x y z
unfolding place_at
left_due bytes s b x y z i e = ap (λ q. cond (q && (not (known_significant s z x y) && not (z.visited x y))) (read_new bytes s b x y z) (done z)) i ∙ ap (λ q. cond q (read_new bytes s b x y z) (done z)) e

pub significant_through : (f g h : Field Bool) (x y : ℕ) (r : Result Bool Fault) → f ≡ g → IfOk r (λ bit. (u v : ℕ) → h u v ≡ cond bit (also f x y u v) (f u v)) → IfOk r (λ bit. (u v : ℕ) → h u v ≡ cond bit (also g x y u v) (g u v))
significant_through f g h x y r e i = subst (λ (f : Field Bool). IfOk r (λ bit. (u v : ℕ) → h u v ≡ cond bit (also f x y u v) (f u v))) e i
