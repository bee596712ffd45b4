-- The number of packets, as it is summed.
use Rattle.std.proofs.Common.{◌≡◌, ℕ, zero, suc, ◌+◌, ◌*◌, ◌<◌, ◌≤◌, ◌⊎◌, inl, inr, min, List, length, take, refl, ap, sym, ◌∙◌, add-one, arith}
use Rattle.std.specs.Prelude.{sum_by}
use Rattle.std.proofs.Math.Nat.{mul-le-mul_right, mul-le-mul_left}
use Rattle.std.proofs.lemmas.Bool.{cases_lt}
use Rattle.std.proofs.Math.Seq.{take-suc}
use Rattle.std.proofs.lemmas.List.{take_all}
use Rattle.std.proofs.lemmas.List.Sums.{sum_by_push}
use Rattle.jk_math.specs.declared.rect.Rect.{Rect}
use Rattle.jk_marks.specs.declared.coding.Coding.{Coding}
use Rattle.jk_geom.specs.Precincts.{precinct_number}
use Rattle.jk_geom.specs.Counts.{packet_number, precincts_below, precincts_before}
use Rattle.jk_geom.specs.TileShapes.{coding_of, no_coding}
use Rattle.jk_geom.proofs.Sums.{times_more}

-- the precincts of a component
abbrev pub precincts_of : Rect → Coding → ℕ
precincts_of a k = precincts_below a k (k.levels + 1)

pub below_more : (a : Rect) (k : Coding) (r : ℕ) → precincts_below a k (suc r) ≡ precincts_below a k r + precinct_number a k r
unfolding precincts_below
below_more a k r = refl

pub below_none : (a : Rect) (k : Coding) → precincts_below a k 0 ≡ 0
unfolding precincts_below
below_none a k = refl

pub below_step : (a : Rect) (k : Coding) (r : ℕ) → precincts_below a k (r + 1) ≡ precincts_below a k r + precinct_number a k r
below_step a k r = rw add-one (below_more a k r)

pub number_is : (a : Rect) (layers : ℕ) (codings : List Coding) → packet_number a layers codings ≡ layers * sum_by (λ (k : Coding). precincts_of a k) codings
unfolding packet_number
number_is a layers codings = refl

-- a sum cut at a bound, times a number, cut there again
pub min_times : (n l m : ℕ) → 1 ≤ l → min (min n m * l) m ≡ min (l * n) m
min_times n l m some = by (cases_lt m n)
  where
    by : (m < n) ⊎ (n ≤ m) → min (min n m * l) m ≡ min (l * n) m
    by (inl over) =
        let cut : min n m ≡ m = omega arith in
        let first : m * 1 ≤ m * l = mul-le-mul_left m some in
        let second : 1 * n ≤ l * n = mul-le-mul_right n some in
        let is : min n m * l ≡ m * l = ap (λ k. k * l) cut in
        omega arith
    by (inr under) =
        let cut : min n m ≡ n = omega arith in
        let is : min n m * l ≡ n * l = ap (λ k. k * l) cut in
        let turned : n * l ≡ l * n = omega arith in
        omega arith

-- the count as it is taken
pub count_full : (a : Rect) (layers : ℕ) (codings : List Coding) (n count m : ℕ) → 1 ≤ layers → length codings ≤ n → count ≡ min (sum_by (λ (k : Coding). precincts_of a k) (take n codings)) m
    → min (count * layers) m ≡ min (packet_number a layers codings) m
count_full a layers codings n count m some long e =
    let all = sum_by (λ (k : Coding). precincts_of a k) codings in
    let whole : take n codings ≡ codings = take_all n codings long in
    let is : count ≡ min all m = e ∙ ap (λ (ks : List Coding). min (sum_by (λ (k : Coding). precincts_of a k) ks) m) whole in
    ap (λ c. min (c * layers) m) is ∙ (min_times all layers m some ∙ ap (λ c. min c m) (sym (number_is a layers codings)))

-- ---- the precincts of the components before one

pub before_none : (a : Rect) (codings : List Coding) → precincts_before a codings 0 ≡ 0
unfolding precincts_before
before_none a codings = refl

pub before_more : (a : Rect) (codings : List Coding) (c : ℕ) → precincts_before a codings (suc c) ≡ precincts_before a codings c + precincts_of a (coding_of codings c)
unfolding precincts_before
before_more a codings c = refl

before_sum : (a : Rect) (codings : List Coding) (n : ℕ) → n ≤ length codings → precincts_before a codings n ≡ sum_by (λ (k : Coding). precincts_of a k) (take n codings)
before_sum a codings zero h = before_none a codings
before_sum a codings (suc n) h =
    let k = coding_of codings n in
    let rest = before_sum a codings n (omega (arith, h)) in
    let more : sum_by (λ (k : Coding). precincts_of a k) (take (suc n) codings) ≡ sum_by (λ (k : Coding). precincts_of a k) (take n codings) + precincts_of a k =
    ap (λ (ks : List Coding). sum_by (λ (k : Coding). precincts_of a k) ks) (take-suc codings n no_coding (omega (arith, h))) ∙ sum_by_push (λ (k : Coding). precincts_of a k) (take n codings) k in
    before_more a codings n ∙ ap (λ m. m + precincts_of a k) rest ∙ sym more

-- all precincts, a packet of each layer for each
pub number_before : (a : Rect) (layers : ℕ) (codings : List Coding) → packet_number a layers codings ≡ precincts_before a codings (length codings) * layers
number_before a layers codings =
    let n = length codings in
    let whole : take n codings ≡ codings = take_all n codings (omega arith) in
    let sum : precincts_before a codings n ≡ sum_by (λ (k : Coding). precincts_of a k) codings =
    before_sum a codings n (omega arith) ∙ ap (λ (ks : List Coding). sum_by (λ (k : Coding). precincts_of a k) ks) whole in
    let times : precincts_before a codings n * layers ≡ sum_by (λ (k : Coding). precincts_of a k) codings * layers = ap (λ m. m * layers) sum in
    let number = number_is a layers codings in
    omega (arith, number, times)

-- components that are coded alike
pub before_alike : (a : Rect) (codings : List Coding) (k : Coding) (c : ℕ) → ((i : ℕ) → i < c → coding_of codings i ≡ k) → precincts_before a codings c ≡ c * precincts_of a k
before_alike a codings k zero alike = let none = before_none a codings in omega (arith, none)
before_alike a codings k (suc c) alike =
    let rest = before_alike a codings k c (λ i less. alike i (omega (arith, less))) in
    let more = before_more a codings c in
    let own : precincts_of a (coding_of codings c) ≡ precincts_of a k = ap (precincts_of a) (alike c (omega arith)) in
    let one = times_more (precincts_of a k) c in
    omega (arith, rest, more, own, one)
