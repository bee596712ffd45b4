-- A step that only makes the list longer keeps the rule.
use Rattle.std.proofs.Common.{◌≡◌, ℕ, ◌≢◌, List, [], ◌∷◌, set, refl, sym, ◌∙◌, subst, ⊎_elim}
use mathlib.Core.Option.{some, some-ne-none}
use mathlib.Core.List.{IsPrefix}
use lib.ListN.{get_elem?}
use Rattle.crossbeam_utils.specs.Register.{Admits, TurnsAt, Forks, Merges}
use Rattle.atomic_table.proofs.Lists.{at_set, at_snoc}
use Rattle.jk_hall.specs.declared.shown.Shown.{Shown}
use Rattle.jk_hall.specs.declared.rule.Sight.{Sight}
use Rattle.jk_hall.specs.Sights.{listed, front_stamp, sight_of, newcomer, IsTied, Fits, Keeps, Publishes}
use Rattle.jk_hall.proofs.Fronts.{prefix_self, prefix_trans}

pub fits_newcomer : (x : Shown) → Fits x newcomer
fits_newcomer x = ((listed x, refl), (λ e. absurd cc))

pub fits_longer : (x y : Shown) (v : Sight) → IsPrefix (listed x) (listed y) → front_stamp y.front ≡ front_stamp x.front → Fits x v → Fits y v
fits_longer x y v up same h = (prefix_trans v.seen (listed x) (listed y) h.0 up, (λ e. h.1 e ∙ sym same))

pub fits_whole : (y : Shown) → Fits y (sight_of (front_stamp y.front) (listed y))
fits_whole y = (prefix_self (listed y), (λ e. refl))

pub admits : Admits Keeps newcomer
admits x sights h = (h.0, (λ seat v at. ⊎_elim (h.1 seat v) (λ (e : newcomer ≡ v). subst (λ (z : Sight). Fits x z) e (fits_newcomer x)) (at_snoc sights newcomer v seat at)))

pub opens : (x : Shown) → IsTied x → Keeps x (newcomer ∷ [])
opens x tied = admits x [] (tied, (λ seat v at. absurd (some-ne-none v (sym at))))

pub grows : (seat : ℕ) (v : Sight) (x y : Shown) → IsTied y → IsPrefix (listed x) (listed y) → front_stamp y.front ≡ front_stamp x.front → TurnsAt Keeps seat v x y Publishes
grows seat v x y tied up same sights h at =
    let w : Sight = sight_of (front_stamp y.front) (listed y) in (
      w,
      (
        tied,
        (λ j u e. ⊎_elim (λ (t : (j ≡ seat) × (w ≡ u)). subst (λ (z : Sight). Fits y z) t.1 (fits_whole y))
            (λ (t : (j ≢ seat) × (get_elem? sights j ≡ some u)). fits_longer x y u up same (h.1 j u t.1))
            (at_set sights seat j w u e)),
      ),
      (fits_longer x y v up same (h.1 seat v at), tied, refl),
    )

-- a look: where the rule holds
pub stays : (seat : ℕ) (v : Sight) (x : Shown) → TurnsAt Keeps seat v x x Publishes
stays seat v x sights h at = grows seat v x x h.0 (prefix_self (listed x)) refl sights h at

set_fits : (x : Shown) (sights : List Sight) (seat : ℕ) (v : Sight) → Keeps x sights → Fits x v → Keeps x (set sights seat v)
set_fits x sights seat v h c = (h.0, (λ j u e. ⊎_elim (λ (t : (j ≡ seat) × (v ≡ u)). subst (λ (z : Sight). Fits x z) t.1 c) (λ (t : (j ≢ seat) × (get_elem? sights j ≡ some u)). h.1 j u t.1) (at_set sights seat j v u e)))

pub forks : (seat : ℕ) (v : Sight) → Forks Keeps seat v v v
forks seat v x sights h at =
    let c = h.1 seat v at in
    let k = set_fits x sights seat v h c in
    (h.0, (λ j u e. ⊎_elim (k.1 j u) (λ (same : v ≡ u). subst (λ (z : Sight). Fits x z) same c) (at_snoc (set sights seat v) v u j e)))

pub merges : (seat : ℕ) (v : Sight) (other : ℕ) (w : Sight) → Merges Keeps seat v other w w newcomer
merges seat v other w x sights h at apart there =
    let b : Fits x w = ⊎_elim (λ (t : (other ≡ seat) × (w ≡ w)). absurd (apart t.0)) (λ (t : (other ≢ seat) × (get_elem? sights other ≡ some w)). h.1 other w t.1) (at_set sights seat other w w there) in
    set_fits x (set sights seat w) other newcomer (set_fits x sights seat w h b) (fits_newcomer x)
