-- A precinct that has a place of a needed part is needed.
use Rattle.std.proofs.Common.{◌≡◌, ℕ, zero, suc, ◌+◌, ◌-◌, ◌<◌, ◌≤◌, Bool, true, false, not, leb, List, [], ◌∷◌, length, get_or, refl, ap, ◌∙◌, arith}
use Rattle.std.specs.Prelude.{◌||◌}
use Rattle.std.specs.List.{list_any}
use Rattle.std.proofs.lemmas.Bool.{le-leb, and_from}
use Rattle.jk_math.specs.declared.rect.Rect.{Rect}
use Rattle.jk_marks.specs.declared.coding.Coding.{Coding}
use Rattle.jk_math.specs.declared.orientation.Orientation.{Orientation}
use Rattle.jk_math.specs.declared.orientation.Orientation.TheVariants.{LL}
use Rattle.jk_geom.specs.Rectangles.{IsWithin, is_empty, meet, touches}
use Rattle.jk_geom.specs.Precincts.{precinct_area}
use Rattle.jk_geom.specs.Partitions.{reduced_area}
use Rattle.jk_geom.specs.TileShapes.{coding_of}
use Rattle.jk_geom.proofs.Laws.{sides_some}
use Rattle.jk_walk.specs.TilePackets.{orientations}
use Rattle.jk_window.specs.Needs.{needed_part, needs, is_needed}

-- rectangles that have a place in common
some_place : (a : Rect) (x y : ℕ) → IsWithin a x y → is_empty a ≡ false
some_place a x y h =
    let l = h.left in let r = h.right in let u = h.upper in let d = h.lower in
    sides_some a (omega (arith, l, r)) (omega (arith, u, d))

both_within : (a b : Rect) (x y : ℕ) → IsWithin a x y → IsWithin b x y → IsWithin (meet a b) x y
both_within a b x y p q =
    let l = p.left in let r = p.right in let u = p.upper in let d = p.lower in
    let m = q.left in let s = q.right in let v = q.upper in let e = q.lower in
    record { left = omega (arith, l, m); right = omega (arith, r, s); upper = omega (arith, u, v); lower = omega (arith, d, e) }

touched : (a b : Rect) (x y : ℕ) → IsWithin a x y → IsWithin b x y → touches a b ≡ true
touched a b x y p q = ap not (some_place (meet a b) x y (both_within a b x y p q))

any_here : (f : Orientation → Bool) (os : List Orientation) (i : ℕ) (o : Orientation) → i < length os → f (get_or os i o) ≡ true → list_any f os ≡ true
any_here f [] i o lt e = absurd (omega (arith, lt))
any_here f (x ∷ os) zero o lt e = ap (λ b. b || list_any f os) e
any_here f (x ∷ os) (suc i) o lt e = ap (λ b. f x || b) (any_here f os i o (omega (arith, lt)) e) ∙ by (f x)
  where
    by : (b : Bool) → (b || true) ≡ true
    by true = refl
    by false = refl

-- What a place of the window in the tile needs: each precinct with a place of a sub-band's part.
pub place_needs : (rect : Rect) (codings : List Coding) (w : Rect) (d c r k i x y u v : ℕ) → IsWithin (meet w (reduced_area rect d)) x y → r + d ≤ (coding_of codings c).levels → i < length (orientations r)
    → IsWithin (precinct_area rect (coding_of codings c) r k (get_or (orientations r) i LL)) u v
    → IsWithin (needed_part (meet w (reduced_area rect d)) ((coding_of codings c).levels - (r + d)) (get_or (orientations r) i LL)) u v
    → is_needed rect codings w d c r k ≡ true
place_needs rect codings w d c r k i x y u v within few lt here part =
    let top = meet w (reduced_area rect d) in
    let coding = coding_of codings c in
    let any = any_here (λ o. touches (precinct_area rect coding r k o) (needed_part top (coding.levels - (r + d)) o)) (orientations r) i LL lt
    (touched (precinct_area rect coding r k (get_or (orientations r) i LL)) (needed_part top (coding.levels - (r + d)) (get_or (orientations r) i LL)) u v here part) in
    and_from (not (is_empty top)) (needs rect coding top d r k) (ap not (some_place top x y within)) (and_from (leb (r + d) coding.levels) _ (le-leb (r + d) coding.levels few) any)
