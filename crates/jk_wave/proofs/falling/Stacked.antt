-- What all levels hold and hand out.
use Rattle.std.proofs.Common.{◌≡◌, ℕ, ◌+◌, ◌-◌, ◌*◌, ◌/◌, ◌^◌, ◌<◌, ◌≤◌, ◌++◌, inl, inr, List, [], ◌∷◌, length, length-append, get_or, set, ℤ, refl, sym, ◌∙◌, ap, subst, arith}
use Rattle.std.specs.List.{All}
use Rattle.std.proofs.lemmas.Bool.{cases_eq, cases_lt}
use Rattle.std.proofs.lemmas.List.{get_or-set_same, get_or-set_other, get_or_append_left, get_or-append_right}
use Rattle.std.specs.Global.{Vec}
use Rattle.jk_math.specs.declared.rect.Rect.{Rect}
use Rattle.jk_math.specs.Signed.{IsBelow}
use Rattle.jk_math.specs.Raster.{columns_of, raster}
use Rattle.jk_math.proofs.Laws.{raster_length, raster_same}
use Rattle.jk_geom.specs.Rectangles.{IsArea, resolution_area}
use Rattle.jk_wave.specs.Levels.{half_bound, half_area, part_of, part_list, lifted_over}
use Rattle.jk_wave.specs.Analysis.{reduced, analysed}
use Rattle.jk_wave.specs.Bands.{numbered_area}
use Rattle.jk_wave.specs.SourceRows.{AreBelow}
use Rattle.jk_wave.proofs.Equations.{reduced_none, reduced_more, analysed_more}
use Rattle.jk_wave.proofs.Growth.{reduced_small}
use Rattle.jk_wave.proofs.Leaving.{raster_below, value_size, AreAside}
use Rattle.jk_wave.proofs.Halves.{number_area}
use Rattle.jk_wave.proofs.RegionAreas.{resolution_is_area}
use Rattle.jk_wave.specs.climbing.Held.{rows_between}
use Rattle.jk_wave.proofs.climbing.Given.{no_rows, none_given, joined}
use Rattle.jk_wave.specs.declared.falling.level.FallingLevel.{FallingLevel}
use Rattle.jk_wave.specs.declared.falling.stack.Falling.{Falling}
use Rattle.jk_wave.specs.falling.Intervals.{rows_fallen, rows_given}
use Rattle.jk_wave.specs.falling.Held.{half_rows, IsReady, IsFall}
use Rattle.jk_wave.specs.falling.Stack.{part_fallen, fallen_of, reduced_rows, fallen_rows, IsFalling, HoldsSamples, IsFallenTo, AreFallenTo, GivesBands, IsGiven, KeepsAll}
use Rattle.jk_wave.proofs.falling.Making.{falls_none, falls_all, falls_in_order, below_is, highest_is, given_first, given_more, given_within, given_in_order, given_none, given_all, given_still}

-- what a level makes of the rows of what was left above it
abbrev level_fallen : Rect → (levels d e n : ℕ) → (ℕ → ℕ → ℤ) → (o : ℕ) → List ℤ
level_fallen rect levels d e n f o = part_fallen (resolution_area rect levels (levels - n)) (rows_given rect levels d n) (rows_given rect levels e n) (reduced rect levels f n) o

-- rows of its sub-bands
pub band_fallen : (rect : Rect) (levels d e n o : ℕ) (f : ℕ → ℕ → ℤ) → n < levels → 0 < o → o < 4 → level_fallen rect levels d e n f o ≡ fallen_rows rect levels d e f n o
band_fallen rect levels d e n o f less some few =
    let r : ℕ = levels - (n + 1) in
    let a = resolution_area rect levels (levels - n) in
    let up : levels - n ≡ r + 1 = omega arith in
    let same : levels - (r + 1) ≡ n = omega arith in
    raster_same (half_rows a (fallen_of rect levels d n) (fallen_of rect levels e n) o) (part_of a (reduced rect levels f n) o) (analysed rect levels f (3 * r + o)) (λ x y h.
    ap (λ k. part_of (resolution_area rect levels k) (reduced rect levels f n) o x y) up
    ∙ ap (λ k. part_of (resolution_area rect levels (r + 1)) (reduced rect levels f k) o x y) (sym same)
    ∙ sym (analysed_more rect levels f r o x y some few))

-- and rows of the resolution below
pub low_fallen : (rect : Rect) (levels d e n : ℕ) (f : ℕ → ℕ → ℤ) → n < levels → level_fallen rect levels d e n f 0 ≡ reduced_rows rect levels d e f (n + 1)
low_fallen rect levels d e n f less =
    let a = resolution_area rect levels (levels - n) in
    let g = reduced rect levels f n in
    let h = reduced rect levels f (n + 1) in
    let p : ℕ = fallen_of rect levels d n in
    let q : ℕ = fallen_of rect levels e n in
    let b = resolution_area rect levels (levels - (n + 1)) in
    raster_same (half_rows a p q 0) (part_of a g 0) h (λ x y w.
    ap (λ k. lifted_over a g k (2 * y + 0)) (let z : 2 * x + 0 ≡ 2 * x = omega arith in z)
    ∙ ap (λ k. lifted_over a g (2 * x) k) (let z : 2 * y + 0 ≡ 2 * y = omega arith in z) ∙ sym (reduced_more rect levels f n x y))
    ∙ ap (λ (s : Rect). raster (rows_between s (half_bound p 0) (half_bound q 0)) h) (below_is rect levels n (levels - (n + 1)) less (omega arith))
    ∙ ap (λ k. raster (rows_between b k (half_bound q 0)) h) (sym (given_more rect levels d n))
    ∙ ap (λ k. raster (rows_between b (rows_given rect levels d (n + 1)) k) h) (sym (given_more rect levels e n))

-- what a level is given is small enough for it
pub given_small : (rect : Rect) (levels d e n : ℕ) (f : ℕ → ℕ → ℤ) (fresh : List ℤ) → IsArea rect → levels ≤ 10 → n < levels → rect.y0 ≤ d → d ≤ e → e ≤ rect.y1 → AreBelow (2 ^ 17) rect f →
    fresh ≡ reduced_rows rect levels d e f n → All (IsBelow (2 ^ 28 - 1)) fresh
given_small rect levels d e n f fresh is ten less from le to small was =
    let a = resolution_area rect levels (levels - n) in
    let first = given_within rect levels d n is from (omega arith) (omega arith) in
    let last = given_within rect levels e n is (omega arith) to (omega arith) in
    raster_below (2 ^ 28 - 1) (rows_between a (rows_given rect levels d n) (rows_given rect levels e n)) (reduced rect levels f n) fresh was (λ x y w.
    let bound = reduced_small rect levels f n x y (omega arith) (omega arith) (value_size rect f small) (record { left = w.left; right = w.right; upper = (let h = w.upper in omega (arith, h, first.0)); lower = (let h = w.lower in omega (arith, h, last.1)) }) in
    omega (arith, bound))

-- what a step of a level may rely on
pub record Steps (s : FallingLevel) (fresh : List ℤ) (t : ℕ) : Type 0 where
  pub order : s.y ≤ t
  pub inside : t ≤ s.area.y1
  pub long : length fresh ≡ (t - s.y) * columns_of s.area

pub steps : (rect : Rect) (levels d e n : ℕ) (f : ℕ → ℕ → ℤ) (s : FallingLevel) (fresh : List ℤ) (t : ℕ) → IsArea rect → n < levels → rect.y0 ≤ d → d ≤ e → e ≤ rect.y1 →
    IsFallenTo rect levels d f n s → fresh ≡ reduced_rows rect levels d e f n → t ≡ rows_given rect levels e n → Steps s fresh t
steps rect levels d e n f s fresh t is less from le to at was t_is =
    let a = resolution_area rect levels (levels - n) in
    let p = rows_given rect levels d n in
    let q = rows_given rect levels e n in
    let more = given_in_order rect levels d e n is le in
    let last = given_within rect levels e n is (omega arith) to (omega arith) in
    let place = at.place in
    let lower = ap (λ (r : Rect). r.y1) at.is in
    record {
      order = omega (arith, place, t_is, more);
      inside = omega (arith, t_is, last.1, lower);
      long = ap length was ∙ raster_length (rows_between a p q) (reduced rect levels f n) ∙ ap (λ k. (q - k) * columns_of a) (sym place) ∙ ap (λ k. (k - s.y) * columns_of a) (sym t_is)
          ∙ ap (λ (r : Rect). (t - s.y) * columns_of r) (sym at.is);
    }

-- what it is given, by its own names
pub given_rows : (rect : Rect) (levels d e n : ℕ) (f : ℕ → ℕ → ℤ) (s : FallingLevel) (fresh : List ℤ) (t : ℕ) → IsFallenTo rect levels d f n s → fresh ≡ reduced_rows rect levels d e f n → t ≡ rows_given rect levels e n →
    fresh ≡ raster (rows_between s.area s.y t) (reduced rect levels f n)
given_rows rect levels d e n f s fresh t at was t_is =
    let g = reduced rect levels f n in
    was ∙ ap (λ (r : Rect). raster (rows_between r (rows_given rect levels d n) (rows_given rect levels e n)) g) (sym at.is)
    ∙ ap (λ k. raster (rows_between s.area k (rows_given rect levels e n)) g) (sym at.place) ∙ ap (λ k. raster (rows_between s.area s.y k) g) (sym t_is)

-- what it makes of them, by the names of all levels
pub made_rows : (rect : Rect) (levels d e n : ℕ) (f : ℕ → ℕ → ℤ) (s : FallingLevel) (t o : ℕ) → IsFallenTo rect levels d f n s → t ≡ rows_given rect levels e n →
    part_fallen s.area s.y t (reduced rect levels f n) o ≡ level_fallen rect levels d e n f o
made_rows rect levels d e n f s t o at t_is =
    let g = reduced rect levels f n in
    ap (λ (r : Rect). part_fallen r s.y t g o) at.is ∙ ap (λ k. part_fallen (resolution_area rect levels (levels - n)) k t g o) at.place
    ∙ ap (λ k. part_fallen (resolution_area rect levels (levels - n)) (rows_given rect levels d n) k g o) t_is

-- a level that is given nothing stays
pub stays : (rect : Rect) (levels d e n : ℕ) (f : ℕ → ℕ → ℤ) (s : FallingLevel) → rows_given rect levels d n ≡ rows_given rect levels e n → IsFallenTo rect levels d f n s → IsFallenTo rect levels e f n s
stays rect levels d e n f s same at = record { standing = at.standing; is = at.is; place = at.place ∙ same; holds = at.holds }

pub none_fallen : (rect : Rect) (levels d e n o : ℕ) (f : ℕ → ℕ → ℤ) (out : List ℤ) → rows_given rect levels d n ≡ rows_given rect levels e n → out ≡ out ++ fallen_rows rect levels d e f n o
none_fallen rect levels d e n o f out same =
    let a = resolution_area rect levels (levels - n) in
    let fallen = ap (rows_fallen a) same in
    none_given (half_area a o) (half_bound (fallen_of rect levels d n) (o / 2)) (half_bound (fallen_of rect levels e n) (o / 2)) (analysed rect levels f (3 * (levels - (n + 1)) + o)) out (omega (arith, fallen))

pub none_reduced : (rect : Rect) (levels d e n : ℕ) (f : ℕ → ℕ → ℤ) → rows_given rect levels d n ≡ rows_given rect levels e n → reduced_rows rect levels d e f n ≡ []
none_reduced rect levels d e n f same = no_rows (resolution_area rect levels (levels - n)) (rows_given rect levels d n) (rows_given rect levels e n) (reduced rect levels f n) (omega (arith, same))

-- a new level
pub new_at : (rect : Rect) (levels n : ℕ) (f : ℕ → ℕ → ℤ) (s : FallingLevel) → IsArea rect → n < levels → IsFalling s → s.area ≡ resolution_area rect levels (levels - n) →
    s.y ≡ (resolution_area rect levels (levels - n)).y0 → IsFallenTo rect levels rect.y0 f n s
new_at rect levels n f s is less standing area place =
    let upper = ap (λ (r : Rect). r.y0) area in
    record {
      standing = standing;
      is = area;
      place = place ∙ sym (given_none rect levels n is (omega (arith, less)));
      holds = λ _. record {
        even = λ behind _. absurd (omega (arith, behind, upper, place));
        odd = λ behind _. absurd (omega (arith, behind, upper, place));
        high = λ behind. absurd (omega (arith, behind, upper, place));
      };
    }

-- The rows of the highest were passed on to level n, and what that one made of them to the next.
pub record ArePassed (rect : Rect) (levels d e n : ℕ) (f : ℕ → ℕ → ℤ) (old new : List FallingLevel) (rows : List ℤ) : Type 0 where
  pub done : (k : ℕ) (other : FallingLevel) → k < n → IsFallenTo rect levels e f k (get_or new k other)
  pub bands : (k o : ℕ) (other : FallingLevel) → k < n → 0 < o → o < 4 → part_list (get_or new k other).parts o ≡ part_list (get_or old k other).parts o ++ fallen_rows rect levels d e f k o
  pub left : rows ≡ reduced_rows rect levels d e f n

pub passed_first : (rect : Rect) (levels d e : ℕ) (f : ℕ → ℕ → ℤ) (all : List FallingLevel) (rows : List ℤ) → rows ≡ raster (rows_between rect d e) f → ArePassed rect levels d e 0 f all all rows
passed_first rect levels d e f all rows is = record {
  done = λ k other lt. absurd (omega (arith, lt));
  bands = λ k o other lt some few. absurd (omega (arith, lt));
  left = is ∙ raster_same (rows_between rect d e) f (reduced rect levels f 0) (λ x y h. sym (reduced_none rect levels f x y))
      ∙ ap (λ (r : Rect). raster (rows_between r d e) (reduced rect levels f 0)) (sym (highest_is rect levels))
      ∙ ap (λ k. raster (rows_between (resolution_area rect levels (levels - 0)) k e) (reduced rect levels f 0)) (sym (given_first rect levels d))
      ∙ ap (λ k. raster (rows_between (resolution_area rect levels (levels - 0)) (rows_given rect levels d 0) k) (reduced rect levels f 0)) (sym (given_first rect levels e));
}

-- one level more takes its rows
pub passed_more : (rect : Rect) (levels d e n t : ℕ) (f : ℕ → ℕ → ℤ) (old mid : List FallingLevel) (was is : FallingLevel) (rows fresh : List ℤ) → n < levels → n < length mid → t ≡ rows_given rect levels e n →
    ((other : FallingLevel) → was ≡ get_or old n other) → IsFallenTo rect levels d f n was → IsFalling is → is.area ≡ was.area → is.y ≡ t → HoldsSamples (reduced rect levels f n) is →
    fresh ≡ part_fallen was.area was.y t (reduced rect levels f n) 0 →
    ((o : ℕ) → 0 < o → o < 4 → part_list is.parts o ≡ part_list was.parts o ++ part_fallen was.area was.y t (reduced rect levels f n) o) →
    ArePassed rect levels d e n f old mid rows → ArePassed rect levels d e (n + 1) f old (set mid n is) fresh
passed_more rect levels d e n t f old mid was is rows fresh less here t_is first at standing area place holds low bands passed = record {
  done = λ k other lt. elim (cases_eq k n) [
    | inl e1 ↦ subst (λ j. IsFallenTo rect levels e f j (get_or (set mid n is) j other)) (sym e1) (subst (IsFallenTo rect levels e f n) (sym (get_or-set_same mid n is other here)) (record {
      standing = standing;
      is = area ∙ at.is;
      place = place ∙ t_is;
      holds = holds;
    }))
    | inr ne ↦ subst (IsFallenTo rect levels e f k) (sym (get_or-set_other mid n k is other ne)) (passed.done k other (omega (arith, lt, ne)))
  ];
  bands = λ k o other lt some few. elim (cases_eq k n) [
    | inl e1 ↦ subst (λ j. part_list (get_or (set mid n is) j other).parts o ≡ part_list (get_or old j other).parts o ++ fallen_rows rect levels d e f j o) (sym e1)
        (ap (λ (s : FallingLevel). part_list s.parts o) (get_or-set_same mid n is other here) ∙ bands o some few
        ∙ ap (λ l. part_list was.parts o ++ l) (made_rows rect levels d e n f was t o at t_is ∙ band_fallen rect levels d e n o f less some few)
        ∙ ap (λ (s : FallingLevel). part_list s.parts o ++ fallen_rows rect levels d e f n o) (first other))
    | inr ne ↦ ap (λ (s : FallingLevel). part_list s.parts o) (get_or-set_other mid n k is other ne) ∙ passed.bands k o other (omega (arith, lt, ne)) some few
  ];
  left = low ∙ made_rows rect levels d e n f was t 0 at t_is ∙ low_fallen rect levels d e n f less;
}

-- all levels took theirs
pub passed_all : (rect : Rect) (levels d e n : ℕ) (f : ℕ → ℕ → ℤ) (old new : List FallingLevel) (rows : List ℤ) → n ≡ levels → length new ≡ levels → ArePassed rect levels d e n f old new rows →
    AreFallenTo rect levels e f new × GivesBands rect levels d e f old new × (rows ≡ reduced_rows rect levels d e f levels)
passed_all rect levels d e n f old new rows end count passed = (
  record { count = count; each = λ k other lt. passed.done k other (omega (arith, lt, end)) },
  (λ k o other lt some few. passed.bands k o other (omega (arith, lt, end)) some few),
  passed.left ∙ ap (reduced_rows rect levels d e f) end,
)

-- or level n was given none, and so were those below it
pub passed_still : (rect : Rect) (levels d e n : ℕ) (f : ℕ → ℕ → ℤ) (old new : List FallingLevel) (rows : List ℤ) → n ≤ levels → length new ≡ levels → rows_given rect levels d n ≡ rows_given rect levels e n →
    ((k : ℕ) (other : FallingLevel) → n ≤ k → get_or new k other ≡ get_or old k other) → AreFallenTo rect levels d f old → ArePassed rect levels d e n f old new rows →
    AreFallenTo rect levels e f new × GivesBands rect levels d e f old new × (rows ≡ reduced_rows rect levels d e f levels)
passed_still rect levels d e n f old new rows few count same left before passed = (
  record {
    count = count;
    each = λ k other lt. elim (cases_lt k n) [
      | inl above ↦ passed.done k other above
      | inr below ↦ subst (IsFallenTo rect levels e f k) (sym (left k other below)) (stays rect levels d e k f (get_or old k other) (given_still rect levels d e n k below same) (before.each k other lt))
    ];
  },
  (λ k o other lt some four. elim (cases_lt k n) [
    | inl above ↦ passed.bands k o other above some four
    | inr below ↦ ap (λ (s : FallingLevel). part_list s.parts o) (left k other below) ∙ none_fallen rect levels d e k o f (part_list (get_or old k other).parts o) (given_still rect levels d e n k below same)
  ]),
  passed.left ∙ none_reduced rect levels d e n f same ∙ sym (none_reduced rect levels d e levels f (given_still rect levels d e n levels few same)),
)

-- before the first rows no row of a sub-band is made
pub first_fallen : (rect : Rect) (levels d n o : ℕ) (f : ℕ → ℕ → ℤ) → fallen_rows rect levels d d f n o ≡ []
first_fallen rect levels d n o f =
    let a = resolution_area rect levels (levels - n) in
    no_rows (half_area a o) (half_bound (fallen_of rect levels d n) (o / 2)) (half_bound (fallen_of rect levels d n) (o / 2)) (analysed rect levels f (3 * (levels - (n + 1)) + o)) (omega arith)

-- rows of a sub-band, and those behind them
pub fallen_joined : (rect : Rect) (levels c d e n o : ℕ) (f : ℕ → ℕ → ℤ) → IsArea rect → c ≤ d → d ≤ e → fallen_rows rect levels c d f n o ++ fallen_rows rect levels d e f n o ≡ fallen_rows rect levels c e f n o
fallen_joined rect levels c d e n o f is first second =
    let a = resolution_area rect levels (levels - n) in
    let area = resolution_is_area rect levels (levels - n) is in
    let low = falls_in_order a (rows_given rect levels c n) (rows_given rect levels d n) area (given_in_order rect levels c d n is first) in
    let high = falls_in_order a (rows_given rect levels d n) (rows_given rect levels e n) area (given_in_order rect levels d e n is second) in
    joined (half_area a o) (half_bound (fallen_of rect levels c n) (o / 2)) (half_bound (fallen_of rect levels d n) (o / 2)) (half_bound (fallen_of rect levels e n) (o / 2)) (analysed rect levels f (3 * (levels - (n + 1)) + o))
    (omega (arith, low)) (omega (arith, high))

pub reduced_joined : (rect : Rect) (levels c d e n : ℕ) (f : ℕ → ℕ → ℤ) → IsArea rect → c ≤ d → d ≤ e → reduced_rows rect levels c d f n ++ reduced_rows rect levels d e f n ≡ reduced_rows rect levels c e f n
reduced_joined rect levels c d e n f is first second =
    joined (resolution_area rect levels (levels - n)) (rows_given rect levels c n) (rows_given rect levels d n) (rows_given rect levels e n) (reduced rect levels f n) (given_in_order rect levels c d n is first) (given_in_order rect levels d e n is second)

-- behind the last row all rows of a sub-band are made, and all of LL
pub band_whole : (rect : Rect) (levels n o : ℕ) (f : ℕ → ℕ → ℤ) → IsArea rect → n < levels → 0 < o → o < 4 →
    fallen_rows rect levels rect.y0 rect.y1 f n o ≡ raster (numbered_area rect levels (3 * (levels - (n + 1)) + o)) (analysed rect levels f (3 * (levels - (n + 1)) + o))
band_whole rect levels n o f is less some few =
    let r : ℕ = levels - (n + 1) in
    let a = resolution_area rect levels (levels - n) in
    let g = analysed rect levels f (3 * r + o) in
    let area = resolution_is_area rect levels (levels - n) is in
    let first : fallen_of rect levels rect.y0 n ≡ a.y0 = ap (rows_fallen a) (given_none rect levels n is (omega (arith, less))) ∙ falls_none a area in
    let all = given_all rect levels n is (omega (arith, less)) in
    let last : fallen_of rect levels rect.y1 n ≡ a.y1 = falls_all a (rows_given rect levels rect.y1 n) (omega (arith, all)) in
    ap (λ k. raster (half_rows a k (fallen_of rect levels rect.y1 n) o) g) first ∙ ap (λ k. raster (half_rows a a.y0 k o) g) last
    ∙ ap (λ k. raster (half_area (resolution_area rect levels k) o) g) (let up : levels - n ≡ r + 1 = omega (arith, less) in up)
    ∙ ap (λ (s : Rect). raster s g) (sym (number_area rect levels r o (omega (arith, less)) some few))

pub low_whole : (rect : Rect) (levels : ℕ) (f : ℕ → ℕ → ℤ) → IsArea rect → reduced_rows rect levels rect.y0 rect.y1 f levels ≡ raster (resolution_area rect levels (levels - levels)) (reduced rect levels f levels)
low_whole rect levels f is =
    let a = resolution_area rect levels (levels - levels) in
    let g = reduced rect levels f levels in
    ap (λ k. raster (rows_between a k (rows_given rect levels rect.y1 levels)) g) (given_none rect levels levels is (omega arith))
    ∙ ap (λ k. raster (rows_between a a.y0 k) g) (given_all rect levels levels is (omega arith))

-- sub-band b
abbrev band_list : Rect → (levels : ℕ) → (ℕ → ℕ → ℤ) → ℕ → List ℤ
band_list rect levels f b = raster (numbered_area rect levels b) (analysed rect levels f b)

-- three sub-bands more are put aside
pub aside_pushed : (rect : Rect) (levels n : ℕ) (f : ℕ → ℕ → ℤ) (old : List (List ℤ)) (hh lh hl : List ℤ) → n < levels →
    hh ≡ band_list rect levels f (3 * (levels - (n + 1)) + 3) → lh ≡ band_list rect levels f (3 * (levels - (n + 1)) + 2) → hl ≡ band_list rect levels f (3 * (levels - (n + 1)) + 1) →
    AreAside rect levels n f old → AreAside rect levels (n + 1) f (old ++ (hh ∷ lh ∷ hl ∷ []))
aside_pushed rect levels n f old hh lh hl less is_hh is_lh is_hl before =
    let more : List (List ℤ) = hh ∷ lh ∷ hl ∷ [] in
    let count = before.count in
    let g : ℕ → List ℤ = band_list rect levels f in
    record {
      count = length-append old more ∙ (let e : length old + 3 ≡ 3 * (n + 1) = omega (arith, count) in e);
      each = λ k lt. elim (cases_lt k (3 * n)) [
        | inl under ↦ get_or_append_left old more [] k (omega (arith, count, under)) ∙ before.each k under
        | inr past ↦
            get_or-append_right old more (3 * n) k [] count past ∙ elim (cases_eq (k - 3 * n) 0) [
              | inl e ↦ ap (λ j. get_or more j []) e ∙ is_hh ∙ ap g (let b : 3 * (levels - (n + 1)) + 3 ≡ 3 * levels - k = omega (arith, less, past, e) in b)
              | inr first ↦ elim (cases_eq (k - 3 * n) 1) [
                | inl e ↦ ap (λ j. get_or more j []) e ∙ is_lh ∙ ap g (let b : 3 * (levels - (n + 1)) + 2 ≡ 3 * levels - k = omega (arith, less, past, e) in b)
                | inr second ↦
                    let e : k - 3 * n ≡ 2 = omega (arith, lt, past, first, second) in
                    ap (λ j. get_or more j []) e ∙ is_hl ∙ ap g (let b : 3 * (levels - (n + 1)) + 1 ≡ 3 * levels - k = omega (arith, less, past, e) in b)
              ]
            ]
      ];
    }

-- all rows so far, and more behind them
pub keeps_more : (f : ℕ → ℕ → ℤ) (s t : Falling) (e : ℕ) → IsGiven f s → s.y ≤ e → t.rect ≡ s.rect → t.levels ≡ s.levels → t.y ≡ e → GivesBands s.rect s.levels s.y e f s.all.items t.all.items →
    t.low.items ≡ s.low.items ++ reduced_rows s.rect s.levels s.y e f s.levels → KeepsAll f s → KeepsAll f t
keeps_more f s t e given more rect levels y bands low keeps = record {
  high = λ n o other less some few.
      let inside : n < s.levels = omega (arith, less, levels) in
      bands n o other inside some few ∙ ap (λ l. l ++ fallen_rows s.rect s.levels s.y e f n o) (keeps.high n o other inside some few)
      ∙ fallen_joined s.rect s.levels s.rect.y0 s.y e n o f given.area given.upper more
      ∙ ap (λ k. fallen_rows s.rect s.levels s.rect.y0 k f n o) (sym y) ∙ ap (λ (r : Rect). fallen_rows r s.levels r.y0 t.y f n o) (sym rect) ∙ ap (λ k. fallen_rows t.rect k t.rect.y0 t.y f n o) (sym levels);
  low = low ∙ ap (λ l. l ++ reduced_rows s.rect s.levels s.y e f s.levels) keeps.low ∙ reduced_joined s.rect s.levels s.rect.y0 s.y e s.levels f given.area given.upper more
      ∙ ap (λ k. reduced_rows s.rect s.levels s.rect.y0 k f s.levels) (sym y) ∙ ap (λ (r : Rect). reduced_rows r s.levels r.y0 t.y f s.levels) (sym rect) ∙ ap (λ k. reduced_rows t.rect k t.rect.y0 t.y f k) (sym levels);
}

-- the levels behind a step
pub given_on : (f : ℕ → ℕ → ℤ) (s t : Falling) (e : ℕ) → IsGiven f s → s.y ≤ e → e ≤ s.rect.y1 → t.rect ≡ s.rect → t.levels ≡ s.levels → t.y ≡ e → AreFallenTo s.rect s.levels e f t.all.items → IsGiven f t
given_on f s t e given more to rect levels y at =
    let few = given.few in
    let from = given.upper in
    let upper = ap (λ (r : Rect). r.y0) rect in
    let lower = ap (λ (r : Rect). r.y1) rect in
    record {
      area = subst IsArea (sym rect) given.area;
      few = omega (arith, few, levels);
      upper = omega (arith, from, more, y, upper);
      lower = omega (arith, to, y, lower);
      at = subst (λ (r : Rect). AreFallenTo r t.levels t.y f t.all.items) (sym rect) (subst (λ k. AreFallenTo s.rect k t.y f t.all.items) (sym levels) (subst (λ k. AreFallenTo s.rect s.levels k f t.all.items) (sym y) at));
    }

-- levels that differ in the rows of their sub-bands alone
pub record AreLike (s t : FallingLevel) : Type 0 where
  pub area : t.area ≡ s.area
  pub y : t.y ≡ s.y
  pub fall : t.fall ≡ s.fall
  pub row : t.row ≡ s.row
  pub low : t.parts.ll ≡ s.parts.ll

pub like_itself : (s : FallingLevel) → AreLike s s
like_itself s = record { area = refl; y = refl; fall = refl; row = refl; low = refl }

like_at : (rect : Rect) (levels e n : ℕ) (f : ℕ → ℕ → ℤ) (s t : FallingLevel) → AreLike s t → IsFallenTo rect levels e f n s → IsFallenTo rect levels e f n t
like_at rect levels e n f s t like at =
    let upper = ap (λ (r : Rect). r.y0) like.area in
    let lower = ap (λ (r : Rect). r.y1) like.area in
    let y = like.y in
    let over = at.standing.upper in
    let under = at.standing.lower in
    record {
      standing = record {
        area = subst IsArea (sym like.area) at.standing.area;
        upper = omega (arith, over, upper, y);
        lower = omega (arith, under, lower, y);
        ready = λ short. subst (λ (r : Rect). IsReady r t.y t.fall) (sym like.area) (subst (λ k. IsReady s.area k t.fall) (sym like.y) (subst (IsReady s.area s.y) (sym like.fall) (at.standing.ready (omega (arith, short, lower, y)))));
        row = ap (λ (v : Vec ℤ). length v.items) like.row ∙ at.standing.row ∙ ap columns_of (sym like.area);
        none = ap (λ (v : Vec ℤ). v.items) like.low ∙ at.standing.none;
      };
      is = like.area ∙ at.is;
      place = like.y ∙ at.place;
      holds = λ short. subst (λ (r : Rect). IsFall r (reduced rect levels f n) t.y t.fall) (sym like.area) (subst (λ k. IsFall s.area (reduced rect levels f n) k t.fall) (sym like.y) (subst (IsFall s.area (reduced rect levels f n) s.y) (sym like.fall) (at.holds (omega (arith, short, lower, y)))));
    }

pub given_like : (f : ℕ → ℕ → ℤ) (s t : Falling) → t.rect ≡ s.rect → t.levels ≡ s.levels → t.y ≡ s.y → length t.all.items ≡ length s.all.items →
    ((k : ℕ) (other : FallingLevel) → k < length s.all.items → AreLike (get_or s.all.items k other) (get_or t.all.items k other)) → IsGiven f s → IsGiven f t
given_like f s t rect levels y count like given =
    let long = given.at.count in
    given_on f s t s.y given (omega arith) given.lower rect levels y (record {
      count = count ∙ long;
      each = λ k other less. like_at s.rect s.levels s.y k f (get_or s.all.items k other) (get_or t.all.items k other) (like k other (omega (arith, less, long))) (given.at.each k other less);
    })
