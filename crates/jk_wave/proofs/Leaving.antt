-- What is left after some levels forwards, and the sub-bands that were put aside.
use Rattle.std.proofs.Common.{◌≡◌, ℕ, ◌+◌, ◌-◌, ◌*◌, ◌/◌, ◌%◌, ◌^◌, ◌<◌, ◌≤◌, inl, inr, List, [], ◌∷◌, ◌++◌, length, get_or, map, ℤ, pos, unsigned_abs, refl, sym, ◌∙◌, ap, subst, length-append, append_assoc, arith}
use Rattle.std.specs.List.{All}
use Rattle.std.specs.Prelude.{reverse}
use Rattle.std.proofs.lemmas.Bool.{cases_eq, cases_lt}
use Rattle.std.proofs.lemmas.Int.{ints}
use Rattle.std.proofs.lemmas.List.{get_or_append_left, get_or-append_right, get_or-reverse, get_or_past, length-reverse, map-append, reverse-append}
use Rattle.std.proofs.lemmas.List.FromFn.{fill_by_all, length-map-range_with_len, get_or-map-range_with_len}
use Rattle.std.proofs.lemmas.List.Elements.{All-from_get_or, All-nil}
use Rattle.jk_math.specs.declared.rect.Rect.{Rect}
use Rattle.std.specs.Global.{Vec}
use Rattle.jk_math.specs.Lists.{lists_of}
use Rattle.jk_math.specs.Signed.{IsBelow, signed_at}
use Rattle.jk_math.specs.Raster.{columns_of, places_of, raster, plane_at}
use Rattle.jk_math.proofs.Laws.{raster_length, raster_entry, entry_place, raster_at, raster_same}
use Rattle.jk_geom.specs.Rectangles.{IsWithin, resolution_area}
use Rattle.jk_lift.specs.Lifting.{lifted}
use Rattle.jk_lift.proofs.Laws.{lifted_same}
use Rattle.jk_wave.specs.Analysis.{reduced, analysed, analysed_bands}
use Rattle.jk_wave.specs.Bands.{numbered_area}
use Rattle.jk_wave.specs.SourceRows.{AreBelow}
use Rattle.jk_wave.specs.Levels.{half_area, lifted_over, part_of}
use Rattle.jk_wave.proofs.Equations.{reduced_none, reduced_more, analysed_lowest, analysed_more}
use Rattle.jk_wave.proofs.Halves.{half_within, below_half, lowest_area, number_area, resolution_top}
use Rattle.jk_wave.proofs.Growth.{reduced_small, has_width}
use Rattle.jk_wave.proofs.Synthesis.{size_below}
use Rattle.jk_wave.proofs.Within.{place_within, within_place}

-- a level of functions that agree on the rectangle
pub lifted_agree : (area : Rect) (f g : ℕ → ℕ → ℤ) → ((x y : ℕ) → IsWithin area x y → f x y ≡ g x y) → (x y : ℕ) → IsWithin area x y → lifted_over area f x y ≡ lifted_over area g x y
lifted_agree area f g same x y h =
    lifted_same area.x0 area.x1 (λ i. lifted area.y0 area.y1 (f i) y) (λ i. lifted area.y0 area.y1 (g i) y) x h.left h.right
    (λ i if it. lifted_same area.y0 area.y1 (f i) (g i) y h.upper h.lower (λ j jf jt. same i j (record { left = if; right = it; upper = jf; lower = jt })))

part_agree : (area : Rect) (f g : ℕ → ℕ → ℤ) (o : ℕ) → o < 4 → ((x y : ℕ) → IsWithin area x y → f x y ≡ g x y) → raster (half_area area o) (part_of area f o) ≡ raster (half_area area o) (part_of area g o)
part_agree area f g o few same = raster_same (half_area area o) (part_of area f o) (part_of area g o) (λ x y h.
    lifted_agree area f g same (2 * x + o % 2) (2 * y + o / 2) ((half_within area o x y few).0 (place_within (half_area area o) x y h)))

top_area : (a : Rect) (levels : ℕ) → resolution_area a levels (levels - 0) ≡ a
top_area a levels = let top : levels - 0 ≡ levels = omega arith in ap (resolution_area a levels) top ∙ resolution_top a levels

-- after n levels this is left
abbrev pub IsLeft : Rect → (levels n : ℕ) → (ℕ → ℕ → ℤ) → List ℤ → Type 0
IsLeft a levels n f left = left ≡ raster (resolution_area a levels (levels - n)) (reduced a levels f n)

left_plane : (a : Rect) (levels n : ℕ) (f : ℕ → ℕ → ℤ) (left : List ℤ) (area : Rect) → area ≡ resolution_area a levels (levels - n) → IsLeft a levels n f left →
    (x y : ℕ) → IsWithin area x y → plane_at area left x y ≡ reduced a levels f n x y
left_plane a levels n f left area is was x y h =
    ap (λ l. plane_at area l x y) (was ∙ ap (λ s. raster s (reduced a levels f n)) (sym is)) ∙ raster_at area (reduced a levels f n) x y (within_place area x y h)

-- the part of the next level that goes on
pub left_more : (a : Rect) (levels n : ℕ) (f : ℕ → ℕ → ℤ) (left : List ℤ) (area : Rect) → n < levels → area ≡ resolution_area a levels (levels - n) → IsLeft a levels n f left →
    raster (half_area area 0) (part_of area (plane_at area left) 0) ≡ raster (resolution_area a levels (levels - (n + 1))) (reduced a levels f (n + 1))
left_more a levels n f left area less is was =
    let r : ℕ = levels - (n + 1) in
    let up : levels - n ≡ r + 1 = omega arith in
    let half : resolution_area a levels r ≡ half_area area 0 = below_half a levels r (omega arith) ∙ ap (λ s. half_area s 0) (sym (is ∙ ap (resolution_area a levels) up)) in
    part_agree area (plane_at area left) (reduced a levels f n) 0 (omega arith) (left_plane a levels n f left area is was)
    ∙ raster_same (half_area area 0) (part_of area (reduced a levels f n) 0) (reduced a levels f (n + 1)) (λ x y h.
    ap (λ k. lifted_over area (reduced a levels f n) k (2 * y + 0)) (let e : 2 * x + 0 ≡ 2 * x = omega arith in e)
    ∙ ap (λ k. lifted_over area (reduced a levels f n) (2 * x) k) (let e : 2 * y + 0 ≡ 2 * y = omega arith in e)
    ∙ ap (λ s. lifted_over s (reduced a levels f n) (2 * x) (2 * y)) is ∙ sym (reduced_more a levels f n x y))
    ∙ ap (λ s. raster s (reduced a levels f (n + 1))) (sym half)

-- a sub-band of that level
pub band_more : (a : Rect) (levels n o b : ℕ) (f : ℕ → ℕ → ℤ) (left : List ℤ) (area : Rect) → n < levels → 0 < o → o < 4 → b ≡ 3 * (levels - (n + 1)) + o →
    area ≡ resolution_area a levels (levels - n) → IsLeft a levels n f left →
    raster (half_area area o) (part_of area (plane_at area left) o) ≡ raster (numbered_area a levels b) (analysed a levels f b)
band_more a levels n o b f left area less some few e is was =
    let r : ℕ = levels - (n + 1) in
    let up : levels - n ≡ r + 1 = omega arith in
    let same : levels - (r + 1) ≡ n = omega arith in
    let here : area ≡ resolution_area a levels (r + 1) = is ∙ ap (resolution_area a levels) up in
    let half : numbered_area a levels (3 * r + o) ≡ half_area area o = number_area a levels r o (omega arith) some few ∙ ap (λ s. half_area s o) (sym here) in
    part_agree area (plane_at area left) (reduced a levels f n) o few (left_plane a levels n f left area is was)
    ∙ raster_same (half_area area o) (part_of area (reduced a levels f n) o) (analysed a levels f (3 * r + o)) (λ x y h.
    ap (λ s. part_of s (reduced a levels f n) o x y) here
    ∙ ap (λ k. part_of (resolution_area a levels (r + 1)) (reduced a levels f k) o x y) (sym same)
    ∙ sym (analysed_more a levels f r o x y some few))
    ∙ ap (λ s. raster s (analysed a levels f (3 * r + o))) (sym half)
    ∙ ap (λ k. raster (numbered_area a levels k) (analysed a levels f k)) (sym e)

-- The bands of n levels were put aside, the highest first.
pub record AreAside (a : Rect) (levels n : ℕ) (f : ℕ → ℕ → ℤ) (bands : List (List ℤ)) : Type 0 where
  pub count : length bands ≡ 3 * n
  pub each : (k : ℕ) → k < 3 * n → get_or bands k [] ≡ raster (numbered_area a levels (3 * levels - k)) (analysed a levels f (3 * levels - k))

pub aside_none : (a : Rect) (levels : ℕ) (f : ℕ → ℕ → ℤ) (bands : List (List ℤ)) → bands ≡ [] → AreAside a levels 0 f bands
aside_none a levels f bands none = record { count = ap length none; each = λ k lt. absurd (omega arith) }

pub aside_more : (a : Rect) (levels n : ℕ) (f : ℕ → ℕ → ℤ) (left : List ℤ) (area : Rect) (old new : List (List ℤ)) → n < levels → area ≡ resolution_area a levels (levels - n) → IsLeft a levels n f left →
    new ≡ old ++ (raster (half_area area 3) (part_of area (plane_at area left) 3) ∷ raster (half_area area 2) (part_of area (plane_at area left) 2) ∷ raster (half_area area 1) (part_of area (plane_at area left) 1) ∷ []) →
    AreAside a levels n f old → AreAside a levels (n + 1) f new
aside_more a levels n f left area old new less is was made before =
    let hh = raster (half_area area 3) (part_of area (plane_at area left) 3) in
    let lh = raster (half_area area 2) (part_of area (plane_at area left) 2) in
    let hl = raster (half_area area 1) (part_of area (plane_at area left) 1) in
    let more : List (List ℤ) = hh ∷ lh ∷ hl ∷ [] in
    let count = before.count in
    record {
      count = ap length made ∙ length-append old more ∙ (let e : length old + 3 ≡ 3 * (n + 1) = omega arith in e);
      each = λ k lt.
          ap (λ l. get_or l k []) made ∙ elim (cases_lt k (3 * n)) [
            | inl under ↦ get_or_append_left old more [] k (omega arith) ∙ before.each k under
            | inr past ↦
                get_or-append_right old more (3 * n) k [] count past ∙ elim (cases_eq (k - 3 * n) 0) [
                  | inl e ↦ ap (λ j. get_or more j []) e ∙ band_more a levels n 3 (3 * levels - k) f left area less (omega arith) (omega arith) (omega arith) is was
                  | inr first ↦ elim (cases_eq (k - 3 * n) 1) [
                    | inl e ↦ ap (λ j. get_or more j []) e ∙ band_more a levels n 2 (3 * levels - k) f left area less (omega arith) (omega arith) (omega arith) is was
                    | inr second ↦
                        let e : k - 3 * n ≡ 2 = omega arith in
                        ap (λ j. get_or more j []) e ∙ band_more a levels n 1 (3 * levels - k) f left area less (omega arith) (omega arith) (omega arith) is was
                  ]
                ]
          ];
    }

-- what is left before the first level
pub left_all : (a : Rect) (levels : ℕ) (f : ℕ → ℕ → ℤ) → IsLeft a levels 0 f (raster a f)
left_all a levels f =
    raster_same a f (reduced a levels f 0) (λ x y h. sym (reduced_none a levels f x y)) ∙ ap (λ s. raster s (reduced a levels f 0)) (sym (top_area a levels))

plane_back : (a : Rect) (f : ℕ → ℕ → ℤ) (x y : ℕ) → IsWithin a x y → f x y ≡ plane_at a (raster a f) x y
plane_back a f x y h = sym (raster_at a f x y (within_place a x y h))

-- what is left behind the first level, and the sub-bands that were put aside
pub left_first : (a : Rect) (levels : ℕ) (f : ℕ → ℕ → ℤ) (left : List ℤ) → 0 < levels → left ≡ raster (half_area a 0) (part_of a f 0) → IsLeft a levels 1 f left
left_first a levels f left some is =
    is ∙ part_agree a f (plane_at a (raster a f)) 0 (omega arith) (plane_back a f) ∙ left_more a levels 0 f (raster a f) a some (sym (top_area a levels)) (left_all a levels f)

pub aside_first : (a : Rect) (levels : ℕ) (f : ℕ → ℕ → ℤ) (old new : List (List ℤ)) → 0 < levels → old ≡ [] →
    new ≡ old ++ (raster (half_area a 3) (part_of a f 3) ∷ raster (half_area a 2) (part_of a f 2) ∷ raster (half_area a 1) (part_of a f 1) ∷ []) → AreAside a levels 1 f new
aside_first a levels f old new some none made =
    let g : ℕ → ℕ → ℤ = plane_at a (raster a f) in
    let same : (o : ℕ) → o < 4 → raster (half_area a o) (part_of a f o) ≡ raster (half_area a o) (part_of a g o) = λ o few. part_agree a f g o few (plane_back a f) in
    aside_more a levels 0 f (raster a f) a old new some (sym (top_area a levels)) (left_all a levels f)
    (made
    ∙ ap (λ l. old ++ (l ∷ raster (half_area a 2) (part_of a f 2) ∷ raster (half_area a 1) (part_of a f 1) ∷ [])) (same 3 (omega arith))
    ∙ ap (λ l. old ++ (raster (half_area a 3) (part_of a g 3) ∷ l ∷ raster (half_area a 1) (part_of a f 1) ∷ [])) (same 2 (omega arith))
    ∙ ap (λ l. old ++ (raster (half_area a 3) (part_of a g 3) ∷ raster (half_area a 2) (part_of a g 2) ∷ l ∷ [])) (same 1 (omega arith)))
    (aside_none a levels f old none)

-- how large the values are
pub value_size : (a : Rect) (f : ℕ → ℕ → ℤ) → AreBelow (2 ^ 17) a f → (u v : ℕ) → IsWithin a u v → unsigned_abs (f u v) < 2 ^ 17
value_size a f small u v h = let s = small u v h in let low = s.0 in let high = s.1 in omega (arith, ints, low, high)

pub source_small : (a : Rect) (f : ℕ → ℕ → ℤ) → AreBelow (2 ^ 17) a f → AreBelow (2 ^ 28 - 1) a f
source_small a f small x y h = let s = small x y h in let low = s.0 in let high = s.1 in (omega (arith, ints, low), omega (arith, ints, high))

-- each entry of a raster below a limit
pub raster_below : (m : ℕ) (a : Rect) (f : ℕ → ℕ → ℤ) (values : List ℤ) → values ≡ raster a f → ((x y : ℕ) → IsWithin a x y → unsigned_abs (f x y) < m) → All (IsBelow m) values
raster_below m a f values was small =
    let long : length values ≡ places_of a = ap length was ∙ raster_length a f in
    All-from_get_or (IsBelow m) values (pos 0) (λ k lt.
    let fits : k < places_of a = omega arith in
    let x : ℕ = a.x0 + k % columns_of a in
    let y : ℕ = a.y0 + k / columns_of a in
    let at : signed_at values k ≡ f x y = ap (λ l. signed_at l k) was ∙ raster_entry a f k fits in
    subst (IsBelow m) (sym at) (size_below m (f x y) (small x y (place_within a x y (entry_place a k fits)))))

pub left_small : (a : Rect) (levels n : ℕ) (f : ℕ → ℕ → ℤ) (left : List ℤ) (area : Rect) → n < levels → levels ≤ 10 → AreBelow (2 ^ 17) a f →
    area ≡ resolution_area a levels (levels - n) → IsLeft a levels n f left → AreBelow (2 ^ 28 - 1) area (plane_at area left)
left_small a levels n f left area less ten small is was x y h =
    let there : IsWithin (resolution_area a levels (levels - n)) x y = subst (λ s. IsWithin s x y) is h in
    let s = reduced_small a levels f n x y (omega arith) (omega arith) (value_size a f small) there in
    subst (IsBelow (2 ^ 28 - 1)) (sym (left_plane a levels n f left area is was x y h)) (size_below (2 ^ 28 - 1) (reduced a levels f n x y) (omega arith))

pub left_length : (a : Rect) (levels n : ℕ) (f : ℕ → ℕ → ℤ) (left : List ℤ) (area : Rect) → area ≡ resolution_area a levels (levels - n) → IsLeft a levels n f left → length left ≡ places_of area
left_length a levels n f left area is was = ap length was ∙ raster_length (resolution_area a levels (levels - n)) (reduced a levels f n) ∙ ap places_of (sym is)

-- all bands, turned round
pub all_bands : (a : Rect) (levels : ℕ) (f : ℕ → ℕ → ℤ) (aside : List (List ℤ)) (left : List ℤ) → AreAside a levels levels f aside → IsLeft a levels levels f left →
    reverse (aside ++ left ∷ []) ≡ analysed_bands a levels f
unfolding analysed_bands
all_bands a levels f aside left h was =
    let all = aside ++ left ∷ [] in
    let count = h.count in
    let long : length all ≡ 3 * levels + 1 = length-append aside (left ∷ []) ∙ (let e : length aside + 1 ≡ 3 * levels + 1 = omega arith in e) in
    let g : ℕ → List ℤ = λ b. raster (numbered_area a levels b) (analysed a levels f b) in
    fill_by_all g (reverse all) (3 * levels + 1) [] (length-reverse all ∙ long) (λ b lt.
    let k : ℕ = 3 * levels - b in
    let at : length all - 1 - b ≡ k = omega arith in
    get_or-reverse all b [] (omega arith) ∙ ap (λ j. get_or all j []) at
    ∙ elim (cases_lt k (3 * levels)) [
      | inl under ↦ get_or_append_left aside (left ∷ []) [] k (omega arith) ∙ h.each k under ∙ ap g (let e : 3 * levels - k ≡ b = omega arith in e)
      | inr past ↦
          let none : b ≡ 0 = omega arith in
          let end : levels - levels ≡ 0 = omega arith in
          get_or-append_right aside (left ∷ []) (3 * levels) k [] count past ∙ ap (λ j. get_or (left ∷ []) j []) (let e : k - 3 * levels ≡ 0 = omega arith in e)
          ∙ was ∙ ap (λ n. raster (resolution_area a levels n) (reduced a levels f levels)) end
          ∙ ap (λ s. raster s (reduced a levels f levels)) (sym (lowest_area a levels))
          ∙ raster_same (numbered_area a levels 0) (reduced a levels f levels) (analysed a levels f 0) (λ x y w. sym (analysed_lowest a levels f x y))
          ∙ ap g (sym none)
    ])

pub bands_small : (a : Rect) (levels : ℕ) (f : ℕ → ℕ → ℤ) (bands : List (List ℤ)) → levels ≤ 10 → AreBelow (2 ^ 17) a f → bands ≡ analysed_bands a levels f →
    (n : ℕ) → All (IsBelow (2 ^ 30)) (get_or bands n [])
unfolding analysed_bands
bands_small a levels f bands ten small is n =
    let g : ℕ → List ℤ = λ b. raster (numbered_area a levels b) (analysed a levels f b) in
    let long : length bands ≡ 3 * levels + 1 = ap length is ∙ length-map-range_with_len g 0 (3 * levels + 1) in
    elim (cases_lt n (3 * levels + 1)) [
      | inl lt ↦
          raster_below (2 ^ 30) (numbered_area a levels n) (analysed a levels f n) (get_or bands n []) (ap (λ l. get_or l n []) is ∙ get_or-map-range_with_len g 0 (3 * levels + 1) n n [] lt (omega arith))
          (λ x y h. has_width a levels f n x y ten (omega arith) (value_size a f small) h)
      | inr ge ↦ subst (All (IsBelow (2 ^ 30))) (sym (get_or_past bands n [] (omega arith))) (All-nil (IsBelow (2 ^ 30)))
    ]

-- the only sub-band where there is no level
pub band_alone : (a : Rect) (f : ℕ → ℕ → ℤ) (lists : List (List ℤ)) (values : List ℤ) → lists ≡ values ∷ [] → values ≡ raster a f → lists ≡ analysed_bands a 0 f
band_alone a f lists values made is =
    made ∙ all_bands a 0 f [] values (aside_none a 0 f [] refl) (is ∙ left_all a 0 f)

map_reverse : (f : Vec ℤ → List ℤ) (items : List (Vec ℤ)) → map f (reverse items) ≡ reverse (map f items)
map_reverse f [] = refl
map_reverse f (x ∷ items) =
    ap (map f) (reverse-append (x ∷ []) items) ∙ map-append f (reverse items) (x ∷ []) ∙ ap (λ l. l ++ f x ∷ []) (map_reverse f items) ∙ sym (reverse-append (f x ∷ []) (map f items))

-- the lists of vectors that one was added to, turned round
pub lists_turned : (items : List (Vec ℤ)) (left : Vec ℤ) → lists_of (reverse (items ++ left ∷ [])) ≡ reverse (lists_of items ++ left.items ∷ [])
lists_turned items left = map_reverse (λ v. v.items) (items ++ left ∷ []) ∙ ap reverse (map-append (λ v. v.items) items (left ∷ []))

-- the lists of vectors that three were added to
pub lists_pushed : (items : List (Vec ℤ)) (a b c : Vec ℤ) → lists_of (((items ++ a ∷ []) ++ b ∷ []) ++ c ∷ []) ≡ lists_of items ++ (a.items ∷ b.items ∷ c.items ∷ [])
lists_pushed items a b c = ap (map (λ v. v.items)) (simp append_assoc) ∙ map-append (λ v. v.items) items (a ∷ b ∷ c ∷ [])
