-- The loop of RENORME against the pure function.
use Rattle.std.proofs.Common.{◌≡◌, ◌∙◌, ap, sym, refl, ℕ, zero, suc, ◌*◌, ◌^◌, ◌≤◌, Bool, cond, arith}
use Rattle.std.proofs.lemmas.Bool.{le-ltb}
use Rattle.jk_model.specs.Decisions.{State}
use Rattle.jk_mqenc.specs.Machine.{Machine, HoldsInterval}
use Rattle.jk_mqenc.specs.Coding.{twice, renorme}
use Rattle.jk_mqenc.proofs.AtomicSteps.{renorme-suc, renorme-zero}

-- from now on the same comes of it as of the first
pub record Comes (now first : Machine) : Type 0 where
  pub left : ℕ
  pub same : renorme left now ≡ renorme 15 first
  pub enough : 32768 ≤ now.width * 2 ^ left
  pub count : 1 ≤ now.count
  pub at : State
  pub holds : HoldsInterval now at

pub comes-first : (m : Machine) → 1 ≤ m.count → (s : State) × HoldsInterval m s → Comes m m
comes-first m h i = record { left = 15; same = refl; enough = omega (arith, i.1.positive); count = h; at = i.0; holds = i.1 }

renorme-wide : (k : ℕ) (m : Machine) → 32768 ≤ m.width → renorme k m ≡ m
renorme-wide zero m h = renorme-zero m
renorme-wide (suc k) m h = renorme-suc k m ∙ ap (λ (t : Bool). cond t (renorme k (twice m)) m) (le-ltb m.width 32768 h)

pub comes-last : (now first : Machine) → 32768 ≤ now.width → Comes now first → now ≡ renorme 15 first
comes-last now first h c = sym (renorme-wide c.left now h) ∙ c.same
