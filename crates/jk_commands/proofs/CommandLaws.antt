-- What the steps of a command say of one another.
use Rattle.std.proofs.Common.{◌≡◌, ℕ, Result, Ok, refl, ap, sym}
use Rattle.jk_math.specs.Answer.{Refuses}
use Rattle.jk_math.specs.Steps.{guard_ended}
use Rattle.jk_math.specs.declared.fault.Fault.{Fault}
use Rattle.jk_math.specs.declared.fault.Fault.TheVariants.{Memory, BadParameters}
use Rattle.jk_math.specs.Picture.{Picture}
use Rattle.jk_pnm.specs.Written.{written as pnm_of, file_text}
use Rattle.jk_options.specs.declared.plan.Plan.{Plan}
use Rattle.jk_options.specs.declared.plan.Placed.{Placed}
use Rattle.jk_options.specs.Plans.{at_place, is_frame, parameters_for, placing}

-- Where a value is due, nothing but Memory is refused.
pub refuses_other : {A B : Type 0} (e : Fault) (x : A) (due : Result B Fault) → Refuses e (Ok x) → Refuses e due
refuses_other (Memory r) x due h = tt
refuses_other e x due h = absurd cc

-- what is placed is the picture at its place
pub placed_there : (p : Picture) (plan : Plan) (x : Placed) → placing p plan ≡ Ok x → x.image ≡ at_place p plan.x0 plan.y0
unfolding placing
placed_there p plan x e =
    let found : Placed = record { image = at_place p plan.x0 plan.y0; parameters = parameters_for plan p } in
    let g = guard_ended (is_frame plan.x0 plan.y0 p.width p.height) BadParameters found x e in
    sym (ap (λ (y : Placed). y.image) g.1)

-- the place isn't written
pub placed_alike : (p : Picture) (x0 y0 : ℕ) → pnm_of (at_place p x0 y0) ≡ pnm_of p
unfolding pnm_of file_text
placed_alike p x0 y0 = refl
