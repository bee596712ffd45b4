-- Steps one after another.
use Rattle.std.proofs.Common.{◌≡◌, if◌then◌else◌, ℕ, zero, suc, ◌+◌, ◌-◌, List, length, ◌<◌, Result, Ok, Err, refl, sym, ap, ◌∙◌, inl, inr, arith}
use Rattle.std.proofs.lemmas.Bool.{cases_eq}
use Rattle.jk_math.specs.Answer.{◌>>=◌, Refuses}
use Rattle.jk_math.specs.Steps.{bind_then}
use Rattle.jk_math.specs.declared.fault.Fault.{Fault}
use Rattle.jk_math.specs.declared.fault.Fault.TheVariants.{Memory}
use Rattle.jk_math.specs.declared.rect.Rect.{Rect}
use Rattle.jk_marks.specs.declared.coding.Coding.{Coding}
use Rattle.jk_geom.specs.Precincts.{precinct_number}
use Rattle.jk_geom.specs.Partitions.{block_number}
use Rattle.jk_walk.specs.TilePackets.{Body, orientations}
use Rattle.jk_wave.specs.declared.region.Region.{Region}
use Rattle.jk_tile.specs.TileBlocks.{grid_at}
use Rattle.jk_tile.specs.decoding.TileReading.{each, tested, block_values, band_tested, precinct_tested, resolution_tested, component_tested, is_met, met_tested, precinct_part_tested, resolution_part_tested, region_of, component_part_tested}

abbrev pub Step : Type 0
Step = ℕ → Result (Unit {0}) Fault

abbrev pub fine : Result (Unit {0}) Fault
fine = Ok tt

pub each_none : (f : Step) → each 0 f ≡ fine
unfolding each
each_none f = refl

pub each_suc : (n : ℕ) (f : Step) → each (suc n) f ≡ (each n f >>= λ _. f n)
unfolding each
each_suc n f = refl

-- one step more
pub each_more : (n : ℕ) (f : Step) → each n f ≡ fine → f n ≡ fine → each (n + 1) f ≡ fine
each_more n f before here =
    let one : n + 1 ≡ suc n = omega arith in
    ap (λ k. each k f) one ∙ each_suc n f ∙ ap (λ (r : Result (Unit {0}) Fault). r >>= λ _. f n) before ∙ here

-- the first fault is that of all
pub each_fails : (n i : ℕ) (f : Step) (e : Fault) → i < n → each i f ≡ fine → f i ≡ Err e → each n f ≡ Err e
each_fails zero i f e lt before here = absurd (omega (arith, lt))
each_fails (suc n) i f e lt before here = elim (cases_eq i n) [
  | inl same ↦
      let first : each n f ≡ fine = ap (λ k. each k f) (sym same) ∙ before in
      each_suc n f ∙ ap (λ (r : Result (Unit {0}) Fault). r >>= λ _. f n) first ∙ ap f (sym same) ∙ here
  | inr other ↦
      each_suc n f ∙ ap (λ (r : Result (Unit {0}) Fault). r >>= λ _. f n) (each_fails n i f e (omega (arith, lt, other)) before here)
]

-- where all are fine, each is
pub each_found : (n : ℕ) (f : Step) (u : Unit {0}) → each n f ≡ Ok u → (i : ℕ) → i < n → f i ≡ fine
each_found zero f u e i lt = absurd (omega (arith, lt))
each_found (suc n) f u e i lt = bind_then (each n f) (λ _. f n) u (sym (each_suc n f) ∙ e) (λ v s g. elim (cases_eq i n) [
  | inl same ↦ ap f same ∙ g
  | inr other ↦ each_found n f v s i (omega (arith, lt, other))
])

pub each_only : (n : ℕ) (f : Step) → ((i : ℕ) → i < n → f i ≡ fine) → each n f ≡ fine
each_only zero f all = each_none f
each_only (suc n) f all =
    each_suc n f ∙ ap (λ (r : Result (Unit {0}) Fault). r >>= λ _. f n) (each_only n f (λ i lt. all i (omega (arith, lt)))) ∙ all n (omega arith)

-- a refusal of one due is a refusal of another
pub refuses_on : {A B : Type 0} (e : Fault) (due : Result A Fault) (again : Result B Fault) → Refuses e due → (due ≡ Err e → again ≡ Err e) → Refuses e again
refuses_on (Memory r) due again h on = tt
refuses_on e due again h on = on h

-- a fault passes through
pub tested_err : {A : Type 0} (r : Result A Fault) (e : Fault) → r ≡ Err e → tested r ≡ Err e
tested_err r e is = ap tested is

pub tested_ok : {A : Type 0} (r : Result A Fault) (x : A) → r ≡ Ok x → tested r ≡ fine
tested_ok r x is = ap tested is

pub tested_then : {A : Type 0} (r : Result A Fault) (u : Unit {0}) → tested r ≡ Ok u → (x : A) × (r ≡ Ok x)
tested_then (Ok x) u e = (x, refl)
tested_then (Err d) u e = absurd cc

pub bind_err : {A B : Type 0} (r : Result A Fault) (g : A → Result B Fault) (e : Fault) → r ≡ Err e → (r >>= g) ≡ Err e
bind_err {A} {B} r g e is = ap (λ (x : Result A Fault). x >>= g) is

pub bind_ok : {A B : Type 0} (r : Result A Fault) (g : A → Result B Fault) (x : A) → r ≡ Ok x → (r >>= g) ≡ g x
bind_ok {A} {B} r g x is = ap (λ (y : Result A Fault). y >>= g) is

-- the equations of tests
pub band_by : (a : Rect) (k : Coding) (r n i : ℕ) (bodies : List Body) → band_tested a k r n i bodies ≡ each (block_number (grid_at a k r n i)) (λ j. tested (block_values a k r n i j bodies))
unfolding band_tested
band_by a k r n i bodies = refl

pub precinct_by : (a : Rect) (k : Coding) (r n : ℕ) (bodies : List Body) → precinct_tested a k r n bodies ≡ each (length (orientations r)) (λ i. band_tested a k r n i bodies)
unfolding precinct_tested
precinct_by a k r n bodies = refl

pub resolution_by : (a : Rect) (k : Coding) (r : ℕ) (bodies : ℕ → List Body) → resolution_tested a k r bodies ≡ each (precinct_number a k r) (λ n. precinct_tested a k r n (bodies n))
unfolding resolution_tested
resolution_by a k r bodies = refl

pub component_by : (a : Rect) (k : Coding) (d : ℕ) (bodies : ℕ → ℕ → List Body) → component_tested a k d bodies ≡ each (k.levels - d + 1) (λ r. resolution_tested a k r (bodies r))
unfolding component_tested
component_by a k d bodies = refl

-- those of a part
pub met_by : (s : Region) (k : Coding) (r n i : ℕ) (bodies : List Body) → met_tested s k r n i bodies
    ≡ each (block_number (grid_at s.rect k r n i)) (λ j. if is_met s k r n i j then tested (block_values s.rect k r n i j bodies) else Ok tt)
unfolding met_tested
met_by s k r n i bodies = refl

pub precinct_part_by : (s : Region) (k : Coding) (r n : ℕ) (bodies : List Body) → precinct_part_tested s k r n bodies ≡ each (length (orientations r)) (λ i. met_tested s k r n i bodies)
unfolding precinct_part_tested
precinct_part_by s k r n bodies = refl

pub resolution_part_by : (s : Region) (k : Coding) (r : ℕ) (bodies : ℕ → List Body) → resolution_part_tested s k r bodies ≡ each (precinct_number s.rect k r) (λ n. precinct_part_tested s k r n (bodies n))
unfolding resolution_part_tested
resolution_part_by s k r bodies = refl

pub component_part_by : (a : Rect) (k : Coding) (d : ℕ) (u : Rect) (bodies : ℕ → ℕ → List Body) → component_part_tested a k d u bodies ≡ each (k.levels - d + 1) (λ r. resolution_part_tested (region_of a k d u) k r (bodies r))
unfolding component_part_tested
component_part_by a k d u bodies = refl
