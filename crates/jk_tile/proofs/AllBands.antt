-- All sub-bands of a tile-component, by their numbers.
use Rattle.std.proofs.Common.{◌≡◌, ℕ, zero, suc, ◌+◌, ◌-◌, ◌*◌, ◌/◌, ◌%◌, ◌<◌, List, ◌∷◌, ◌++◌, Result, Ok, Err, IfOk, IfErr, MatchResult, ℤ, refl, sym, ap, ◌∙◌, arith}
use Rattle.std.specs.Global.{Vec}
use Rattle.std.specs.List.{range_with_len}
use Rattle.jk_math.specs.Answer.{◌>>=◌, Refuses, Answers}
use Rattle.jk_math.specs.Memory.{IsMemory}
use Rattle.jk_math.specs.declared.fault.Fault.TheVariants.{Memory}
use Rattle.jk_math.specs.Steps.{ok_is}
use Rattle.jk_math.specs.declared.fault.Fault.{Fault}
use Rattle.jk_math.specs.declared.rect.Rect.{Rect}
use Rattle.jk_math.specs.Raster.{raster}
use Rattle.jk_geom.specs.Rectangles.{band_area}
use Rattle.jk_wave.specs.Bands.{high_orientation, numbered_area}
use Rattle.jk_wave.specs.Regions.{held}
use Rattle.jk_wave.specs.Resolutions.{resolution_of}
use Rattle.jk_tile.specs.TileBlocks.{orientation_at}
use Rattle.jk_tile.specs.decoding.TileReading.{each, resolution_part_tested}
use Rattle.jk_tile.specs.decoding.Source.{Source, source_bodies, source_coefficient, resolution_values, resolution_at, source_values}
use Rattle.jk_tile.proofs.Steps.{fine, bind_ok, bind_err}

-- numbers from one on, and then more
pub range_join : (a n m : ℕ) → range_with_len a (n + m) ≡ range_with_len a n ++ range_with_len (a + n) m
range_join a zero m =
    let e : 0 + m ≡ m = omega arith in
    let f : a ≡ a + 0 = omega arith in
    ap (range_with_len a) e ∙ ap (λ k. range_with_len k m) f
range_join a (suc n) m =
    let e : suc n + m ≡ suc (n + m) = omega arith in
    let f : a + 1 + n ≡ a + suc n = omega arith in
    ap (range_with_len a) e ∙ ap (λ (xs : List ℕ). a ∷ xs) (range_join (a + 1) n m ∙ ap (λ k. range_with_len (a + 1) n ++ range_with_len k m) f)

-- the rectangle of a sub-band by its number
numbered_by : (a : Rect) (levels b : ℕ) → numbered_area a levels (suc b) ≡ band_area a levels (b / 3 + 1) (high_orientation (b % 3))
unfolding numbered_area
numbered_by a levels b = refl

pub numbered_low : (a : Rect) (levels : ℕ) → numbered_area a levels 0 ≡ band_area a levels 0 (orientation_at 0 0)
unfolding numbered_area
numbered_low a levels = refl

pub numbered_high : (a : Rect) (levels q i : ℕ) → i < 3 → numbered_area a levels (3 * q + 1 + i) ≡ band_area a levels (suc q) (high_orientation i)
numbered_high a levels q i lt =
    let e : 3 * q + 1 + i ≡ suc (3 * q + i) = omega arith in
    let d : (3 * q + i) / 3 + 1 ≡ suc q = omega (arith, lt) in
    let m : (3 * q + i) % 3 ≡ i = omega (arith, lt) in
    ap (numbered_area a levels) e ∙ numbered_by a levels (3 * q + i) ∙ ap (λ r. band_area a levels r (high_orientation ((3 * q + i) % 3))) d ∙ ap (λ k. band_area a levels (suc q) (high_orientation k)) m

-- ---- reading them

pub value_then : {X : Type 0} (t : Result (Unit {0}) Fault) (due value : X) → (t >>= λ _. Ok due) ≡ Ok value → (t ≡ fine) × (value ≡ due)
value_then (Ok u) due value e = (refl, sym (ok_is due value e))
value_then (Err d) due value e = absurd cc

pub fault_then : {X : Type 0} (t : Result (Unit {0}) Fault) (due : X) (e : Fault) → (t >>= λ _. Ok due) ≡ Err e → t ≡ Err e
fault_then (Ok u) due e h = absurd cc
fault_then (Err d) due e h = cc

-- the fault of a resolution, and its value
pub resolution_then : (s : Source) (r : ℕ) (values : List ℤ) → resolution_at s r ≡ Ok values → (resolution_part_tested s.region s.coding r (source_bodies s r) ≡ fine) × (values ≡ resolution_values s r)
unfolding resolution_at
resolution_then s r values e = value_then (resolution_part_tested s.region s.coding r (source_bodies s r)) (resolution_values s r) values e

pub resolution_fails : (s : Source) (r : ℕ) (e : Fault) → resolution_at s r ≡ Err e → resolution_part_tested s.region s.coding r (source_bodies s r) ≡ Err e
unfolding resolution_at
resolution_fails s r e h = fault_then (resolution_part_tested s.region s.coding r (source_bodies s r)) (resolution_values s r) e h

-- of all resolutions
abbrev pub all_tested : Source → Result (Unit {0}) Fault
all_tested s = each (s.region.top + 1) (λ r. resolution_part_tested s.region s.coding r (source_bodies s r))

-- the values of the part, and its fault
abbrev pub values_in : Source → List ℤ
values_in s = raster s.region.area (resolution_of s.region.rect s.region.levels (source_coefficient s) s.region.top)

pub source_fine : (s : Source) → all_tested s ≡ fine → source_values s ≡ Ok (values_in s)
unfolding source_values
source_fine s e = bind_ok (all_tested s) (λ _. Ok (values_in s)) tt e

pub source_err : (s : Source) (e : Fault) → all_tested s ≡ Err e → source_values s ≡ Err e
unfolding source_values
source_err s e h = bind_err (all_tested s) (λ _. Ok (values_in s)) e h

-- of the highest resolution it is all
pub highest_values : (s : Source) → resolution_values s s.region.top ≡ values_in s
unfolding held
highest_values s = ap (λ n. raster (held s.region n) (resolution_of s.region.rect s.region.levels (source_coefficient s) s.region.top)) (let e : s.region.top - s.region.top ≡ 0 = omega arith in e)

-- what synthesis answers
pub made_match : (r : Result (Vec ℤ) Fault) (values : List ℤ) → IfOk r (λ v. v.items ≡ values) → IfErr r (λ e. IsMemory e) → MatchResult r (λ v. v.items ≡ values) IsMemory
made_match (Ok v) values made err = made
made_match (Err d) values made err = err

pub made_answers : (r : Result (Vec ℤ) Fault) (due : Result (List ℤ) Fault) (values : List ℤ) → MatchResult r (λ v. v.items ≡ values) IsMemory → due ≡ Ok values → Answers (λ v. v.items) r due
made_answers (Ok v) due values h e = e ∙ ap Ok (sym h)
made_answers (Err d) due values h e = memory_refuses d due h
  where
    memory_refuses : (d : Fault) (due : Result (List ℤ) Fault) → IsMemory d → Refuses d due
    memory_refuses (Memory r) due h = tt
    memory_refuses d due h = absurd h
