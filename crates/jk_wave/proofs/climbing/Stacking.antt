-- What a step of one level may rely on, and what it leaves.
use Rattle.std.proofs.Common.{◌≡◌, ℕ, zero, suc, ◌+◌, ◌-◌, ◌*◌, ◌/◌, ◌%◌, ◌^◌, ◌<◌, ◌≤◌, ◌++◌, inl, inr, List, [], length, get_or, take, drop, ℤ, pos, refl, sym, ◌∙◌, ap, subst, add-one, arith}
use Rattle.std.specs.List.{All}
use Rattle.std.proofs.Math.Nat.{mul-le-mul_right}
use Rattle.std.proofs.Math.Seq.{take-append_seam}
use Rattle.std.proofs.lemmas.Bool.{cases_lt}
use Rattle.std.proofs.lemmas.List.Elements.{All-from_get_or}
use Rattle.jk_math.specs.declared.rect.Rect.{Rect}
use Rattle.jk_math.specs.Signed.{IsBelow}
use Rattle.jk_math.specs.Raster.{columns_of, places_of, raster, plane_at}
use Rattle.jk_math.proofs.Laws.{raster_length, raster_entry, raster_is, entry_place}
use Rattle.jk_geom.specs.Rectangles.{IsArea, resolution_area}
use Rattle.jk_wave.specs.Bands.{AreBands, coefficients_of, numbered_area}
use Rattle.jk_wave.specs.Levels.{half_bound, half_area}
use Rattle.jk_wave.specs.Resolutions.{resolution_of}
use Rattle.jk_wave.proofs.Growth.{resolution_bound}
use Rattle.jk_wave.proofs.Equations.{resolution_lowest}
use Rattle.jk_wave.proofs.Halves.{below_half, lowest_area}
use Rattle.jk_wave.proofs.RegionAreas.{resolution_is_area}
use Rattle.jk_wave.proofs.Synthesis.{entry_size, size_below}
use Rattle.jk_wave.specs.declared.climbing.level.ClimbingLevel.{ClimbingLevel}
use Rattle.jk_wave.specs.climbing.Held.{rows_between}
use Rattle.jk_wave.specs.climbing.Intervals.{rows_taken, rows_reached, rows_asked}
use Rattle.jk_wave.specs.climbing.PartRows.{half_width}
use Rattle.jk_wave.specs.climbing.Standing.{IsStanding, MayTake}
use Rattle.jk_wave.specs.climbing.Stack.{taken_of, made_of, rows_of_step, AreSmallBands, IsLevelAt}
use Rattle.jk_wave.proofs.climbing.Taking.{taken_none, taken_all, made_enough, takes_in_order, takes_within, takes_pairs, ends_in_order, ends_none, ends_more, reached_more, reached_some, reached_all, reached_none}
use Rattle.jk_wave.proofs.climbing.Given.{no_rows, joined}
use Rattle.jk_wave.proofs.climbing.Steps.{rows_left}

pub made_lowest : (rect : Rect) (levels top e : ℕ) → made_of rect levels top e 0 ≡ half_bound (taken_of rect levels top e 0) 0
unfolding made_of
made_lowest rect levels top e = refl

pub made_above : (rect : Rect) (levels top e q : ℕ) → made_of rect levels top e (q + 1) ≡ rows_reached (resolution_area rect levels (q + 1)) (taken_of rect levels top e q)
unfolding made_of
made_above rect levels top e q = ap (made_of rect levels top e) (add-one q)

-- more is taken, and more is made
pub taken_more : (rect : Rect) (levels top d e q : ℕ) → IsArea rect → d ≤ e → taken_of rect levels top d q ≤ taken_of rect levels top e q
taken_more rect levels top d e q is le =
    takes_in_order (resolution_area rect levels (q + 1)) (rows_asked rect levels top d (top - (q + 1))) (rows_asked rect levels top e (top - (q + 1))) (resolution_is_area rect levels (q + 1) is)
    (ends_in_order rect levels top d e (top - (q + 1)) is le)

pub made_more : (rect : Rect) (levels top d e q : ℕ) → IsArea rect → d ≤ e → made_of rect levels top d q ≤ made_of rect levels top e q
made_more rect levels top d e zero is le =
    let x = made_lowest rect levels top d in let y = made_lowest rect levels top e in
    let t = taken_more rect levels top d e 0 is le in
    omega (arith, x, y, t)
made_more rect levels top d e (suc q) is le =
    let a = resolution_area rect levels (q + 1) in
    let next = add-one q in
    let r = reached_more a (taken_of rect levels top d q) (taken_of rect levels top e q) (resolution_is_area rect levels (q + 1) is) (taken_more rect levels top d e q is le) in
    subst (λ n. made_of rect levels top d n ≤ made_of rect levels top e n) next (let x = made_above rect levels top d q in let y = made_above rect levels top e q in omega (arith, x, y, r))

-- the resolution below ends where half of this one does
pub half_is : (rect : Rect) (levels q : ℕ) → q < levels → half_area (resolution_area rect levels (q + 1)) 0 ≡ resolution_area rect levels q
half_is rect levels q less = sym (below_half rect levels q less)

-- what a level takes of the resolution below is made
pub made_below : (rect : Rect) (levels top e q : ℕ) → IsArea rect → top ≤ levels → q < top → half_bound (taken_of rect levels top e q) 0 ≤ made_of rect levels top e q
made_below rect levels top e zero is few less = let x = made_lowest rect levels top e in omega (arith, x)
made_below rect levels top e (suc p) is few less =
    let q : ℕ = suc p in
    let a = resolution_area rect levels q in
    let above = resolution_area rect levels (q + 1) in
    let n : ℕ = top - (q + 1) in
    let end : ℕ = half_bound (taken_of rect levels top e q) 0 in
    let within = (takes_within above (rows_asked rect levels top e n) (resolution_is_area rect levels (q + 1) is)).1 in
    let half = ap (λ (b : Rect). b.y1) (half_is rect levels q (omega arith)) in
    let number : top - n ≡ q + 1 = omega arith in
    let count : suc n ≡ top - (p + 1) = omega arith in
    let asked : rows_asked rect levels top e (top - (p + 1)) ≡ end =
    ap (rows_asked rect levels top e) (sym count) ∙ ends_more rect levels top e n ∙ ap (λ m. half_bound (rows_taken (resolution_area rect levels m) (rows_asked rect levels top e n)) 0) number in
    let enough = made_enough a end (resolution_is_area rect levels q is) (omega (arith, within, half)) in
    let next = add-one p in
    let is_made : made_of rect levels top e q ≡ rows_reached a (rows_taken a end) =
    ap (made_of rect levels top e) (sym next) ∙ made_above rect levels top e p ∙ ap (λ m. rows_reached (resolution_area rect levels m) (rows_taken (resolution_area rect levels m) (rows_asked rect levels top e (top - (p + 1))))) next
    ∙ ap (λ m. rows_reached a (rows_taken a m)) asked in
    omega (arith, enough, is_made)

-- lists of coefficients are small
pub bands_small : (rect : Rect) (levels top : ℕ) (lists : List (List ℤ)) → AreBands rect levels top lists → AreSmallBands rect levels top (coefficients_of rect levels lists)
bands_small rect levels top lists are b x y below w =
    let s = entry_size (2 ^ 23) (get_or lists b []) (omega arith) (are.small b below) ((y - (numbered_area rect levels b).y0) * columns_of (numbered_area rect levels b) + (x - (numbered_area rect levels b).x0)) in
    omega (arith, s)

-- the samples of a resolution are small enough for the next level
pub rows_small : (rect : Rect) (levels top q p r : ℕ) (bands : ℕ → ℕ → ℕ → ℤ) → IsArea rect → levels ≤ 10 → top ≤ levels → q < top → AreSmallBands rect levels top bands →
    (resolution_area rect levels q).y0 ≤ p → r ≤ (resolution_area rect levels q).y1 →
    All (IsBelow (2 ^ 29 - 2 ^ 26)) (raster (rows_between (resolution_area rect levels q) p r) (resolution_of rect levels bands q))
rows_small rect levels top q p r bands is ten few less small from to =
    let a = resolution_area rect levels q in
    let rows = rows_between a p r in
    let g = resolution_of rect levels bands q in
    All-from_get_or (IsBelow (2 ^ 29 - 2 ^ 26)) (raster rows g) (pos 0) (λ k lt.
    let h = raster_length rows g in
    let inside : k < (r - p) * columns_of a = omega (arith, lt, h) in
    let place = entry_place rows k inside in
    let bound = resolution_bound rect levels bands q (omega arith) (λ b x y below w. small b x y (omega arith) w)
    (a.x0 + k % columns_of a) (p + k / columns_of a) (record { left = place.left; right = place.right; upper = omega (arith, place.upper, from); lower = omega (arith, place.lower, to) }) in
    subst (IsBelow (2 ^ 29 - 2 ^ 26)) (sym (raster_entry rows g k inside)) (size_below (2 ^ 29 - 2 ^ 26) (g (a.x0 + k % columns_of a) (p + k / columns_of a)) (omega (arith, bound))))

counts : (v p q t w : ℕ) → v ≤ p → p ≤ q → t ≤ q → (t - v) * w ≤ (p - v) * w + (q - p) * w
counts v p q t w a b c =
    let sum : (p - v) * w + (q - p) * w ≡ (p - v + (q - p)) * w = grind arith in
    let whole : (p - v + (q - p)) * w ≡ (q - v) * w = ap (λ n. n * w) (let z : p - v + (q - p) ≡ q - v = omega arith in z) in
    let less : (t - v) * w ≤ (q - v) * w = mul-le-mul_right w (omega arith) in
    omega (arith, sum, whole, less)

-- what is made lies in its resolution
reached_within : (a : Rect) (v : ℕ) → IsArea a → v ≤ a.y1 → (a.y0 ≤ rows_reached a v) × (rows_reached a v ≤ a.y1)
reached_within a v is to = let upper = is.upper in elim (cases_lt v a.y1) [
  | inl less ↦ let r = reached_some a v less in (omega (arith, r), omega (arith, r, upper, to))
  | inr all ↦ let r = reached_all a v all in (omega (arith, r, upper), omega (arith, r))
]

pub made_within : (rect : Rect) (levels top e q : ℕ) → IsArea rect → top ≤ levels → 0 < top →
    ((resolution_area rect levels q).y0 ≤ made_of rect levels top e q) × (made_of rect levels top e q ≤ (resolution_area rect levels q).y1)
made_within rect levels top e zero is few less =
    let a = resolution_area rect levels (0 + 1) in
    let within = takes_within a (rows_asked rect levels top e (top - (0 + 1))) (resolution_is_area rect levels (0 + 1) is) in
    let half = half_is rect levels 0 (omega arith) in
    let upper = ap (λ (b : Rect). b.y0) half in
    let lower = ap (λ (b : Rect). b.y1) half in
    let x = made_lowest rect levels top e in
    (omega (arith, x, within.0, upper), omega (arith, x, within.1, lower))
made_within rect levels top e (suc q) is few less =
    let next = add-one q in
    let a = resolution_area rect levels (q + 1) in
    let area = resolution_is_area rect levels (q + 1) is in
    let within = takes_within a (rows_asked rect levels top e (top - (q + 1))) area in
    let r = reached_within a (taken_of rect levels top e q) area within.1 in
    let x = made_above rect levels top e q in
    subst (λ n. ((resolution_area rect levels n).y0 ≤ made_of rect levels top e n) × (made_of rect levels top e n ≤ (resolution_area rect levels n).y1)) next (omega (arith, x, r.0), omega (arith, x, r.1))

-- what a step of a level may take, and which rows it is about
pub record Steps (s : ClimbingLevel) (fresh : List ℤ) (t from to : ℕ) : Type 0 where
  pub may : MayTake s fresh t
  pub above : half_bound s.v 0 ≤ from
  pub more : from ≤ to
  pub under : half_bound t 0 ≤ to

pub steps : (rect : Rect) (levels top d e q : ℕ) (bands : ℕ → ℕ → ℕ → ℤ) (s : ClimbingLevel) (fresh : List ℤ) (t : ℕ) → IsArea rect → levels ≤ 10 → top ≤ levels → q < top → AreSmallBands rect levels top bands → d ≤ e →
    IsLevelAt rect levels top d bands q s → fresh ≡ rows_of_step rect levels top d e bands q → t ≡ taken_of rect levels top e q →
    Steps s fresh t (made_of rect levels top d q) (made_of rect levels top e q)
steps rect levels top d e q bands s fresh t is ten few less small le at rows t_is =
    let a = resolution_area rect levels (q + 1) in
    let area = resolution_is_area rect levels (q + 1) is in
    let asked = rows_asked rect levels top e (top - (q + 1)) in
    let g = resolution_of rect levels bands q in
    let p = made_of rect levels top d q in
    let r = made_of rect levels top e q in
    let upper = ap (λ (b : Rect). b.y0) at.is in
    let lower = ap (λ (b : Rect). b.y1) at.is in
    let width : columns_of (resolution_area rect levels q) ≡ half_width s.area 0 =
    ap columns_of (sym (half_is rect levels q (omega (arith, less, few)))) ∙ ap (λ (b : Rect). half_width b 0) (sym at.is) in
    let within = takes_within a asked area in
    let more_taken = taken_more rect levels top d e q is le in
    let made = made_more rect levels top d e q is le in
    let below_d = made_below rect levels top d q is few less in
    let below_e = made_below rect levels top e q is few less in
    let place = at.place in
    let from : half_bound s.v 0 ≤ p = omega (arith, place, below_d) in
    let to : half_bound t 0 ≤ r = omega (arith, t_is, below_e) in
    let waiting : length s.low.items ≡ (p - half_bound s.v 0) * half_width s.area 0 =
    ap length at.holds.waits ∙ raster_length (rows_between (half_area s.area 0) (half_bound s.v 0) p) g in
    let coming : length fresh ≡ (r - p) * half_width s.area 0 =
    ap length rows ∙ raster_length (rows_between (resolution_area rect levels q) p r) g ∙ ap (λ w. (r - p) * w) width in
    let count = counts (half_bound s.v 0) p r (half_bound t 0) (half_width s.area 0) from made to in
    let some : 0 < top = omega (arith, less) in
    let first = made_within rect levels top d q is few some in
    let last = made_within rect levels top e q is few some in
    record {
      may = record {
        small = subst (All (IsBelow (2 ^ 29 - 2 ^ 26))) (sym rows) (rows_small rect levels top q p r bands is ten few less small first.0 last.1);
        order = omega (arith, place, t_is, more_taken);
        inside = omega (arith, t_is, within.1, lower);
        pairs = λ behind short. let even = takes_pairs a asked area (omega (arith, behind, upper, t_is)) (omega (arith, short, lower, t_is)) in omega (arith, even, t_is);
        enough = omega (arith, waiting, coming, count);
      };
      above = from;
      more = made;
      under = to;
    }

-- before the first step nothing is taken or made
ends_first : (rect : Rect) (levels top n : ℕ) → IsArea rect → top ≤ levels → n ≤ top → rows_asked rect levels top (resolution_area rect levels top).y0 n ≡ (resolution_area rect levels (top - n)).y0
ends_first rect levels top zero is few within =
    ends_none rect levels top (resolution_area rect levels top).y0 ∙ ap (λ r. (resolution_area rect levels r).y0) (let e : top ≡ top - 0 = omega arith in e)
ends_first rect levels top (suc n) is few within =
    let a = resolution_area rect levels (top - n) in
    let r : ℕ = top - suc n in
    let next : r + 1 ≡ top - n = omega arith in
    ends_more rect levels top (resolution_area rect levels top).y0 n
    ∙ ap (λ e. half_bound (rows_taken a e) 0) (ends_first rect levels top n is few (omega arith))
    ∙ ap (λ e. half_bound e 0) (taken_none a a.y0 (omega arith))
    ∙ ap (λ q. half_bound (resolution_area rect levels q).y0 0) (sym next)
    ∙ ap (λ (b : Rect). b.y0) (half_is rect levels r (omega arith))

pub first_taken : (rect : Rect) (levels top q : ℕ) → IsArea rect → top ≤ levels → q < top → taken_of rect levels top (resolution_area rect levels top).y0 q ≡ (resolution_area rect levels (q + 1)).y0
first_taken rect levels top q is few less =
    let a = resolution_area rect levels (q + 1) in
    let number : top - (top - (q + 1)) ≡ q + 1 = omega arith in
    ap (rows_taken a) (ends_first rect levels top (top - (q + 1)) is few (omega arith) ∙ ap (λ r. (resolution_area rect levels r).y0) number) ∙ taken_none a a.y0 (omega arith)

pub first_made : (rect : Rect) (levels top q : ℕ) → IsArea rect → top ≤ levels → 0 < top → q ≤ top → made_of rect levels top (resolution_area rect levels top).y0 q ≡ (resolution_area rect levels q).y0
first_made rect levels top zero is few some within =
    made_lowest rect levels top (resolution_area rect levels top).y0 ∙ ap (λ e. half_bound e 0) (first_taken rect levels top 0 is few some) ∙ ap (λ (b : Rect). b.y0) (half_is rect levels 0 (omega arith))
first_made rect levels top (suc q) is few some within =
    let a = resolution_area rect levels (q + 1) in
    let next = add-one q in
    subst (λ n. made_of rect levels top (resolution_area rect levels top).y0 n ≡ (resolution_area rect levels n).y0) next
    (made_above rect levels top (resolution_area rect levels top).y0 q ∙ ap (rows_reached a) (first_taken rect levels top q is few (omega arith)) ∙ reached_none a (resolution_is_area rect levels (q + 1) is))

-- behind the last one all is made
pub last_made : (rect : Rect) (levels top : ℕ) → IsArea rect → top ≤ levels → 0 < top → made_of rect levels top (resolution_area rect levels top).y1 top ≡ (resolution_area rect levels top).y1
last_made rect levels zero is few some = absurd (omega arith)
last_made rect levels (suc p) is few some =
    let end : ℕ = (resolution_area rect levels (suc p)).y1 in
    let next = add-one p in
    let none : suc p - (p + 1) ≡ 0 = omega arith in
    let a = resolution_area rect levels (p + 1) in
    let area = resolution_is_area rect levels (p + 1) is in
    let last : end ≡ a.y1 = ap (λ n. (resolution_area rect levels n).y1) (sym next) in
    let asked : rows_asked rect levels (suc p) end (suc p - (p + 1)) ≡ a.y1 = ap (rows_asked rect levels (suc p) end) none ∙ ends_none rect levels (suc p) end ∙ last in
    ap (made_of rect levels (suc p) end) (sym next) ∙ made_above rect levels (suc p) end p
    ∙ ap (λ e. rows_reached a (rows_taken a e)) asked ∙ ap (rows_reached a) (taken_all a area) ∙ reached_all a a.y1 (omega arith) ∙ sym last

-- a new level
pub new_at : (rect : Rect) (levels top q : ℕ) (bands : ℕ → ℕ → ℕ → ℤ) (s : ClimbingLevel) → IsArea rect → top ≤ levels → q < top → IsStanding s →
    s.area ≡ resolution_area rect levels (q + 1) → s.v ≡ (resolution_area rect levels (q + 1)).y0 → s.low.items ≡ [] → IsLevelAt rect levels top (resolution_area rect levels top).y0 bands q s
new_at rect levels top q bands s is few less standing area place none =
    let upper = ap (λ (b : Rect). b.y0) area in
    let made = first_made rect levels top q is few (omega arith) (omega arith) in
    let half = ap (λ (b : Rect). b.y0) (half_is rect levels q (omega arith)) in
    let under : made_of rect levels top (resolution_area rect levels top).y0 q ≤ half_bound s.v 0 = omega (arith, made, half, place) in
    record {
      standing = standing;
      is = area;
      place = place ∙ sym (first_taken rect levels top q is few less);
      holds = record {
        climbs = λ short. record { even = λ far. absurd (omega (arith, far, upper, place)); odd = λ behind. absurd (omega (arith, behind, upper, place)) };
        waits = none ∙ sym (no_rows (half_area s.area 0) (half_bound s.v 0) (made_of rect levels top (resolution_area rect levels top).y0 q) (resolution_of rect levels bands q) under);
      };
    }

-- rows of a list of rows
pub cut_rows : (a : Rect) (p r n m : ℕ) (g : ℕ → ℕ → ℤ) (xs : List ℤ) → a.y0 ≤ p → p ≤ r → r ≤ a.y1 → xs ≡ raster a g → n ≡ (p - a.y0) * columns_of a → m ≡ (r - p) * columns_of a →
    take m (drop n xs) ≡ raster (rows_between a p r) g
cut_rows a p r n m g xs upper order lower is front count =
    let rows = raster (rows_between a p r) g in
    let rest = raster (rows_between a r a.y1) g in
    let long : m ≡ length rows = count ∙ sym (raster_length (rows_between a p r) g) in
    ap (take m) (rows_left a a.y0 p a.y1 n g xs upper (omega arith) front is ∙ sym (joined a p r a.y1 g order lower))
    ∙ ap (λ k. take k (rows ++ rest)) long ∙ take-append_seam rows rest

pub lowest_raster : (rect : Rect) (levels top : ℕ) (lists : List (List ℤ)) → AreBands rect levels top lists → get_or lists 0 [] ≡ raster (resolution_area rect levels 0) (resolution_of rect levels (coefficients_of rect levels lists) 0)
lowest_raster rect levels top lists are =
    let a = resolution_area rect levels 0 in
    let xs = get_or lists 0 [] in
    raster_is a xs (resolution_of rect levels (coefficients_of rect levels lists) 0) (are.lengths 0 (omega arith) ∙ ap places_of (lowest_area rect levels)) (λ x y h.
    ap (λ (b : Rect). plane_at b xs x y) (sym (lowest_area rect levels)) ∙ sym (resolution_lowest rect levels (coefficients_of rect levels lists) x y))

pub lowest_is : (rect : Rect) (levels top e t : ℕ) → t ≡ taken_of rect levels top e 0 → (t + 1) / 2 ≡ made_of rect levels top e 0
lowest_is rect levels top e t is = let x = made_lowest rect levels top e in omega (arith, x, is)
