-- Resolutions that are made of pieces.
use Rattle.std.proofs.Common.{◌≡◌, ℕ, zero, suc, ◌+◌, ◌*◌, ◌/◌, ◌≤◌, refl, sym, ◌∙◌, subst, add-one, arith}
use Rattle.jk_math.specs.declared.rect.Rect.{Rect}
use Rattle.jk_geom.specs.Rectangles.{IsWithin, resolution_area}
use Rattle.jk_lift.specs.Pieces.{near_area}
use Rattle.jk_lift.proofs.Laws.{is_piece_of_plane}
use Rattle.jk_wave.specs.Laws.{IsClimbing}
use Rattle.jk_wave.specs.Resolutions.{woven_plane, resolution_of}
use Rattle.jk_wave.proofs.Equations.{level_of, resolution_lowest, resolution_more}
use Rattle.jk_wave.proofs.Local.{in_low, woven_agree}

pub is_climbing : IsClimbing
is_climbing a levels top u bands p few below inside lowest more zero x y h w =
    lowest x y w ∙ sym (resolution_lowest a levels bands x y)
is_climbing a levels top u bands p few below inside lowest more (suc r) s t k v = subst (λ n. (x y : ℕ) → n ≤ top → IsWithin (u n) x y → p n x y ≡ resolution_of a levels bands n x y) (add-one r) (λ x y h w.
    let area : Rect = resolution_area a levels (r + 1) in
    let near : Rect = near_area area (u (r + 1)) in
    let here = inside (r + 1) x y h w in
    more r x y (omega arith) w
    ∙ is_piece_of_plane area (u (r + 1)) (woven_plane (p r) (λ o. bands (3 * r + o))) (level_of a levels bands r)
    (λ i j if it jf jt.
    let at : IsWithin near i j = record { left = if; right = it; upper = jf; lower = jt } in
    woven_agree (p r) (resolution_of a levels bands r) (λ o. bands (3 * r + o)) (λ o. bands (3 * r + o)) i j
    (λ ei ej. is_climbing a levels top u bands p few below inside lowest more r (i / 2) (j / 2) (omega arith)
    (subst (λ (q : Rect). IsWithin q (i / 2) (j / 2)) (sym (below r (omega arith))) (in_low near i j at ei ej)))
    (λ odd. refl))
    x y here.left here.right here.upper here.lower w.left w.right w.upper w.lower
    ∙ sym (resolution_more a levels bands r x y)) s t k v
