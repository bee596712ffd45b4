-- How many bytes a block may have.
use Rattle.std.proofs.Common.{◌≡◌, ℕ, zero, suc, ◌+◌, ◌-◌, ◌*◌, ◌^◌, ◌<◌, ◌≤◌, Bool, true, false, cond, List, [], ◌∷◌, ◌++◌, length, ℤ, refl, sym, ap, ◌∙◌, append_assoc, append-nil, length-append, lit≤, arith}
use Rattle.std.specs.List.{flat_map}
use Rattle.std.specs.Prelude.{◌&&◌, nat_eq, nat_lt, nat_le}
use Rattle.jk_model.specs.Decisions.{State, Decision, initial, qe_at}
use Rattle.jk_model.specs.Deciding.{decided, takes_lower, state_by}
use Rattle.jk_model.specs.CodingPasses.{begun_by}
use Rattle.jk_model.specs.Placed.{onto}
use Rattle.jk_mqenc.specs.Machine.{Machine, with_byte, placed_after, byte_out}
use Rattle.jk_mqenc.specs.Coding.{shifted, twice, renorme, subinterval, set_bits, shifted_by, pushed_out, flushed}
use Rattle.jk_mqenc.specs.Deciding.{machine_decided, machine_by, machine_by_passes}
use Rattle.jk_mqenc.specs.Encoded.{started, without_last_ff, finished}
use Rattle.jk_math.specs.declared.style.Style.{Style}
use Rattle.jk_scan.specs.declared.shape.BlockShape.{BlockShape}
use Rattle.jk_scan.specs.Neighbours.{Field, is_inside}
use Rattle.jk_scan.specs.Moments.{number, visits, stripes, pass_of}
use Rattle.jk_scan.specs.Contexts.{run_length, uniform}
use Rattle.jk_scan.specs.Passes.{BlockAtPlane, Decided, is_one, joined, sign_decision, new_decisions, own_decisions, place_decisions, rows_decisions, in_run_mode, first_one, run_decisions, column_decisions, plane_decisions}
use Rattle.jk_block.specs.Symbols.{segmentation_symbol, ends_with_symbol, closing_decisions}
use Rattle.jk_block.specs.Meaning.{plane_of, kind_of, plane_at, whole_decisions, pass_decisions}
use Rattle.jk_block.specs.BlockWritten.{bytes_of}
use Rattle.jk_block.proofs.encoding.Timing.{visits_small, visits_is}
use Rattle.jk_block.proofs.Parts.{bytes_some, bytes_none}

-- ---- bytes by decisions

placed_short : (bs : List ℕ) (d w : ℕ) → length (placed_after bs d w).placed ≤ length bs + 1
placed_short [] d w = omega arith
placed_short (b ∷ o) d w = by (nat_eq b 255) (nat_lt d (2 ^ 27))
  where
    by : (p q : Bool) → length (cond p (with_byte (b ∷ o) d w) (cond q (with_byte (b ∷ o) d w) (with_byte (suc b ∷ o) (d - 2 ^ 27) w))).placed ≤ suc (length o) + 1
    by true q = omega arith
    by false true = omega arith
    by false false = omega arith

byte_out_short : (m : Machine) → length (byte_out m).placed ≤ length m.placed + 1
unfolding byte_out
byte_out_short m = placed_short m.placed m.code m.width

twice_short : (m : Machine) → length (twice m).placed ≤ length m.placed + 1
unfolding twice
twice_short m = by (nat_eq m.count 1)
  where
    by : (p : Bool) → length (cond p (byte_out (shifted m)) (shifted m)).placed ≤ length m.placed + 1
    by true = byte_out_short (shifted m)
    by false = omega arith

renorme_short : (k : ℕ) (m : Machine) → length (renorme k m).placed ≤ length m.placed + k
unfolding renorme
renorme_short zero m = omega arith
renorme_short (suc k) m = by (nat_lt m.width (2 ^ 15)) (renorme_short k (twice m))
  where
    by : (p : Bool) → length (renorme k (twice m)).placed ≤ length (twice m).placed + k → length (cond p (renorme k (twice m)) m).placed ≤ length m.placed + suc k
    by true r = let t = twice_short m in omega (arith, r, t)
    by false r = omega arith

subinterval_same : (m : Machine) (q : ℕ) (lower : Bool) → (subinterval m q lower).placed ≡ m.placed
unfolding subinterval
subinterval_same m q true = refl
subinterval_same m q false = refl

machine_short : (m : Machine) (s : State) (ds : List Decision) → length (machine_by m s ds).placed ≤ length m.placed + 15 * length ds
machine_short m s [] = omega arith
machine_short m s (d ∷ ds) =
    let r = machine_short (machine_decided m s d) (decided s d) ds in
    let t = renorme_short 15 (subinterval m (qe_at s d.0) (takes_lower s d.0 d.1)) in
    let p = ap (λ (xs : List ℕ). length xs) (subinterval_same m (qe_at s d.0) (takes_lower s d.0 d.1)) in
    omega (arith, r, t, p)

shifted_same : (k : ℕ) (m : Machine) → (shifted_by k m).placed ≡ m.placed
shifted_same zero m = refl
shifted_same (suc k) m = shifted_same k (shifted m)

pushed_short : (m : Machine) → length (pushed_out m).placed ≤ length m.placed + 1
unfolding pushed_out
pushed_short m =
    let n : Machine = record m { width = 1 } in
    let b = byte_out_short (shifted_by m.count n) in
    let e = ap (λ (xs : List ℕ). length xs) (shifted_same m.count n) in
    omega (arith, b, e)

flushed_short : (m : Machine) → length (flushed m).placed ≤ length m.placed + 2
unfolding flushed
flushed_short m =
    let n : Machine = record m { code = set_bits m.code m.width } in
    let a = pushed_short n in
    let b = pushed_short (pushed_out n) in
    omega (arith, a, b)

without_short : (bs : List ℕ) → length (without_last_ff bs) ≤ length bs
without_short [] = omega arith
without_short (b ∷ o) = by (nat_eq b 255)
  where
    by : (p : Bool) → length (cond p o (b ∷ o)) ≤ suc (length o)
    by true = omega arith
    by false = omega arith

onto_length : (xs q : List ℕ) → length (onto xs q) ≡ length xs + length q
onto_length [] q = omega arith
onto_length (x ∷ xs) q = let r = onto_length xs (x ∷ q) in omega (arith, r)

-- all decisions of passes
abbrev all_of : List (List Decision) → List Decision
all_of dss = flat_map (λ ds. ds) dss

passes_short : (r : Bool) (m : Machine) (s : State) (dss : List (List Decision)) → length (machine_by_passes r m s dss).placed ≤ length m.placed + 15 * length (all_of dss)
passes_short r m s [] = omega arith
passes_short r m s (ds ∷ dss) =
    let n = begun_by r s in
    let here = machine_short m n ds in
    let rest = passes_short r (machine_by m n ds) (state_by n ds) dss in
    let both = length-append ds (all_of dss) in
    omega (arith, here, rest, both)

pub finished_short : (r : Bool) (dss : List (List Decision)) → length (finished r dss) ≤ 15 * length (all_of dss) + 2
unfolding finished
finished_short r dss =
    let m = machine_by_passes r started initial dss in
    let f = (flushed m).placed in
    let a = onto_length (without_last_ff f) [] in
    let b = without_short f in
    let c = flushed_short m in
    let d = passes_short r started initial dss in
    omega (arith, a, b, c, d)

-- ---- decisions by places

joined_few : (n c : ℕ) (each : ℕ → Decided) → ((k : ℕ) → length (each k) ≤ c) → length (joined n each) ≤ n * c
unfolding joined
joined_few zero c each h = omega arith
joined_few (suc n) c each h =
    let a = length-append (joined n each) (each n) in
    let r = joined_few n c each h in
    let l = h n in
    let e : suc n * c ≡ n * c + c = omega arith in
    omega (arith, a, r, l, e)

new_few : (s : BlockShape) (p : BlockAtPlane) (t x y : ℕ) → length (new_decisions s p t x y) ≤ 2
unfolding new_decisions
new_few s p t x y = by (is_one (p.magnitude x y))
  where
    by : (b : Bool) → suc (length (cond b (sign_decision s p t x y ∷ []) [])) ≤ 2
    by true = omega arith
    by false = omega arith

place_few : (s : BlockShape) (p : BlockAtPlane) (pass x y : ℕ) → length (place_decisions s p pass x y) ≤ 2
unfolding place_decisions
place_few s p pass x y = by (is_inside s x y && nat_eq (pass_of s p.magnitude x y) pass)
  where
    own : (pass t : ℕ) → length (own_decisions s p pass t x y) ≤ 2
    own zero t = new_few s p t x y
    own (suc zero) t = omega arith
    own (suc (suc n)) t = new_few s p t x y

    by : (b : Bool) → length (cond b (own_decisions s p pass (pass * visits s + number s.width x y) x y) []) ≤ 2
    by true = own pass (pass * visits s + number s.width x y)
    by false = omega arith

rows_few : (s : BlockShape) (p : BlockAtPlane) (pass x i j n : ℕ) → length (rows_decisions s p pass x i j n) ≤ n * 2
rows_few s p pass x i j n = joined_few n 2 (λ k. place_decisions s p pass x (4 * i + (j + k))) (λ k. place_few s p pass x (4 * i + (j + k)))

run_few : (s : BlockShape) (p : BlockAtPlane) (x i f : ℕ) → length (run_decisions s p x i f) ≤ 10
unfolding run_decisions
run_few s p x i f = by (nat_eq f 4)
  where
    by : (b : Bool) → length (cond b ((run_length, false) ∷ []) (((run_length, true) ∷ (uniform, nat_le 2 f) ∷ (uniform, is_one f) ∷ sign_decision s p (2 * visits s + number s.width x (4 * i + f)) x (4 * i + f) ∷ []) ++ rows_decisions s p 2 x i (f + 1) (3 - f))) ≤ 10
    by true = omega arith
    by false = let r = rows_few s p 2 x i (f + 1) (3 - f) in omega (arith, r)

column_few : (s : BlockShape) (p : BlockAtPlane) (pass x i : ℕ) → length (column_decisions s p pass x i) ≤ 10
unfolding column_decisions
column_few s p pass x i = by (nat_eq pass 2 && in_run_mode s p.magnitude x i)
  where
    by : (b : Bool) → length (cond b (run_decisions s p x i (first_one p.magnitude x i)) (rows_decisions s p pass x i 0 4)) ≤ 10
    by true = run_few s p x i (first_one p.magnitude x i)
    by false = let r = rows_few s p pass x i 0 4 in omega (arith, r)

plane_few : (s : BlockShape) (p : BlockAtPlane) (pass : ℕ) → length (plane_decisions s p pass) ≤ stripes s * (s.width * 10)
unfolding plane_decisions
plane_few s p pass = joined_few (stripes s) (s.width * 10) (λ i. joined s.width (λ x. column_decisions s p pass x i)) (λ i. joined_few s.width 10 (λ x. column_decisions s p pass x i) (λ x. column_few s p pass x i))

closing_few : (style : Style) (pass : ℕ) → length (closing_decisions style pass) ≤ 4
closing_few style pass = by (ends_with_symbol style pass)
  where
    by : (e : Bool) → length (cond e segmentation_symbol []) ≤ 4
    by true = lit≤ tt
    by false = omega arith

pub pass_small : (s : BlockShape) (p : BlockAtPlane) (pass : ℕ) → s.width ≤ 1024 → s.width * s.height ≤ 4096 → length (whole_decisions s p pass) ≤ 17924
pass_small s p pass narrow area =
    let both = length-append (plane_decisions s p pass) (closing_decisions s.style pass) in
    let four = closing_few s.style pass in
    let l = plane_few s p pass in
    let v = visits_small s narrow area in
    let e = visits_is s in
    let c : stripes s * (s.width * 10) ≡ 10 * (s.width * stripes s) = grind arith in
    omega (arith, l, v, e, c, both, four)

all_more : (dss : List Decided) (ds : Decided) → all_of (dss ++ ds ∷ []) ≡ all_of dss ++ ds
all_more [] ds = append-nil ds
all_more (x ∷ dss) ds = ap (λ (r : Decided). x ++ r) (all_more dss ds) ∙ sym (append_assoc x (all_of dss) ds)

pub passes_small : (s : BlockShape) (planes n : ℕ) (q : Field ℤ) → s.width ≤ 1024 → s.width * s.height ≤ 4096 → length (all_of (pass_decisions s planes n q)) ≤ n * 17924
unfolding pass_decisions
passes_small s planes zero q narrow area = omega arith
passes_small s planes (suc n) q narrow area =
    let r = passes_small s planes n q narrow area in
    let l = pass_small s (plane_at s (plane_of planes n) q) (kind_of n) narrow area in
    let last = whole_decisions s (plane_at s (plane_of planes n) q) (kind_of n) in
    let e = ap (λ (ds : Decided). length ds) (all_more (pass_decisions s planes n q) last) in
    let a = length-append (all_of (pass_decisions s planes n q)) last in
    omega (arith, r, l, e, a)

pub bytes_small : (s : BlockShape) (planes passes : ℕ) (q : Field ℤ) → s.width ≤ 1024 → s.width * s.height ≤ 4096 → passes ≤ 67 → length (bytes_of s planes passes q) < 2 ^ 25
bytes_small s planes zero q narrow area few = let e = ap (λ (b : List ℕ). length b) (bytes_none s planes q) in omega (arith, e)
bytes_small s planes (suc n) q narrow area few =
    let e = ap (λ (b : List ℕ). length b) (bytes_some s planes (suc n) q (omega arith)) in
    let f = finished_short s.style.reset (pass_decisions s planes (suc n) q) in
    let d = passes_small s planes (suc n) q narrow area in
    omega (arith, e, f, d)
