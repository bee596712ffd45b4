-- The image and tile size segment: what is read is spelled so, and what is spelled so is read.
use Rattle.std.proofs.Common.{◌≡◌, ℕ, zero, suc, ◌+◌, ◌-◌, ◌*◌, ◌%◌, ◌^◌, ◌<◌, ◌≤◌, Bool, true, false, not, ◌||◌, cond, eqb, ltb, leb, List, [], ◌∷◌, ◌++◌, length, replicate, get_or, Ok, refl, sym, ap, subst, ◌∙◌, inl, inr, lit<, arith}
use Rattle.std.proofs.lemmas.Bool.{true≢false, ltb-false, ltb-true, le-ltb, lt-ltb, leb-false, leb-true, lt-leb, le-leb, eqb-true, eq-eqb, ne_eqb, not-false, or_parts, or_from, and_parts, and_from, cases_Bool}
use Rattle.std.specs.List.{concat}
use Rattle.byteorder.specs.Endian.{big_bytes}
use Rattle.jk_math.specs.Steps.{bind_then, refuse_then, ok_is}
use Rattle.jk_math.specs.declared.fault.Fault.TheVariants.{BadLength, BadValue, Limit, Unsupported}
use Rattle.jk_marks.specs.declared.siz.Siz.{Siz}
use Rattle.jk_marks.specs.declared.siz_segment.Area.{Area}
use Rattle.jk_marks.specs.declared.siz_segment.Tiling.{Tiling}
use Rattle.jk_marks.specs.Place.{ReadingPlace}
use Rattle.jk_marks.specs.Markers.{siz, marker_text}
use Rattle.jk_marks.specs.Siz.{ssiz, siz_length, siz_text, IsSiz}
use Rattle.jk_marks.specs.Reading.{number, segment_length}
use Rattle.jk_marks.specs.HeaderReading.{area_at, covers, tiles_of, tiling_at, sampling_at, component_depth_at, components_at, count_at, next_byte, siz_with, siz_at}
use Rattle.jk_math.proofs.Laws.{AreBytes}
use Rattle.jk_marks.proofs.Steps.{Goes, ahead, ahead_twice, entered, goes_none, goes_then, goes_as, number_goes, number_again, byte_goes, byte_again, length_goes, length_again}

-- four numbers of four bytes
abbrev pub four_numbers : (a b c d : ℕ) → List ℕ
four_numbers a b c d = big_bytes 4 a ++ (big_bytes 4 b ++ (big_bytes 4 c ++ big_bytes 4 d))

abbrev pub area_text : Area → List ℕ
area_text a = big_bytes 2 a.rsiz ++ four_numbers a.x1 a.y1 a.x0 a.y0

abbrev pub tiling_text : Tiling → List ℕ
tiling_text t = four_numbers t.width t.height t.x0 t.y0

pub record IsArea (a : Area) : Type 0 where
  pub part_one : a.rsiz < 16384
  pub wide : a.x0 < a.x1
  pub high : a.y0 < a.y1
  pub right : a.x1 < 2 ^ 31
  pub lower : a.y1 < 2 ^ 31
  pub area : (a.x1 - a.x0) * (a.y1 - a.y0) ≤ 2 ^ 28

pub record IsTiling (a : Area) (t : Tiling) : Type 0 where
  pub wide : 0 < t.width
  pub high : 0 < t.height
  pub width_fits : t.width < 2 ^ 32
  pub height_fits : t.height < 2 ^ 32
  pub left : t.x0 ≤ a.x0
  pub right : a.x0 < t.x0 + t.width
  pub upper : t.y0 ≤ a.y0
  pub lower : a.y0 < t.y0 + t.height
  pub tiles : tiles_of a t ≤ 65535

area_goes : (a : Area) (p q : ReadingPlace) → AreBytes p.rest → area_at p ≡ Ok (a, q) → Goes p (area_text a) q × IsArea a
unfolding area_at
area_goes a p q fits e =
    let t : Area × ReadingPlace = (a, q) in
    bind_then (number 2 p) _ t e (λ rsiz s1 e.
    refuse_then (leb 16384 rsiz.0) Unsupported _ t e (λ part_one e.
    bind_then (number 4 rsiz.1) _ t e (λ x1 s2 e.
    refuse_then (leb (2 ^ 31) x1.0) Limit _ t e (λ right e.
    bind_then (number 4 x1.1) _ t e (λ y1 s3 e.
    refuse_then (leb (2 ^ 31) y1.0) Limit _ t e (λ lower e.
    bind_then (number 4 y1.1) _ t e (λ x0 s4 e.
    refuse_then (leb x1.0 x0.0) BadValue _ t e (λ wide e.
    bind_then (number 4 x0.1) _ t e (λ y0 s5 e.
    refuse_then (leb y1.0 y0.0) BadValue _ t e (λ high e.
    refuse_then (ltb (2 ^ 28) ((x1.0 - x0.0) * (y1.0 - y0.0))) Limit _ t e (λ area e.
    let g1 = number_goes 2 rsiz.0 p rsiz.1 fits s1 in
    let g2 = number_goes 4 x1.0 rsiz.1 x1.1 g1.0.bytes s2 in
    let g3 = number_goes 4 y1.0 x1.1 y1.1 g2.0.bytes s3 in
    let g4 = number_goes 4 x0.0 y1.1 x0.1 g3.0.bytes s4 in
    let g5 = number_goes 4 y0.0 x0.1 y0.1 g4.0.bytes s5 in
    let r4 = big_bytes 4 x0.0 ++ big_bytes 4 y0.0 in
    let r3 = big_bytes 4 y1.0 ++ r4 in
    let r2 = big_bytes 4 x1.0 ++ r3 in
    let gone = goes_then p (big_bytes 2 rsiz.0) rsiz.1 r2 y0.1 g1.0 (goes_then rsiz.1 (big_bytes 4 x1.0) x1.1 r3 y0.1 g2.0
    (goes_then x1.1 (big_bytes 4 y1.0) y1.1 r4 y0.1 g3.0 (goes_then y1.1 (big_bytes 4 x0.0) x0.1 (big_bytes 4 y0.0) y0.1 g4.0 g5.0))) in
    let found : Area = record { rsiz = rsiz.0; x1 = x1.0; y1 = y1.0; x0 = x0.0; y0 = y0.0 } in
    let is : IsArea found = record {
      part_one = leb-false _ _ part_one;
      wide = leb-false _ _ wide;
      high = leb-false _ _ high;
      right = leb-false _ _ right;
      lower = leb-false _ _ lower;
      area = ltb-false _ _ area;
    } in
    subst (λ (r : Area × ReadingPlace). Goes p (area_text r.0) r.1 × IsArea r.0) (ok_is (found, y0.1) t e) (gone, is))))))))))))

area_again : (a : Area) (p : ReadingPlace) (rest : List ℕ) → p.rest ≡ area_text a ++ rest → IsArea a → 18 ≤ p.room → area_at p ≡ Ok (a, ahead 18 rest p)
unfolding area_at
area_again a p rest e is room =
    let r4 = big_bytes 4 a.y0 ++ rest in
    let r3 = big_bytes 4 a.x0 ++ r4 in
    let r2 = big_bytes 4 a.y1 ++ r3 in
    let r1 = big_bytes 4 a.x1 ++ r2 in
    let p1 = ahead 2 r1 p in
    let p2 = ahead 4 r2 p1 in
    let p3 = ahead 4 r3 p2 in
    let p4 = ahead 4 r4 p3 in
    let h1 = is.part_one in
    let h2 = is.right in
    let h3 = is.lower in
    let h4 = is.wide in
    let h5 = is.high in
    let s1 = number_again 2 a.rsiz p r1 e (omega (arith, h1)) (omega (arith, room)) in
    let s2 = number_again 4 a.x1 p1 r2 refl (omega (arith, h2)) (omega (arith, room)) in
    let s3 = number_again 4 a.y1 p2 r3 refl (omega (arith, h3)) (omega (arith, room)) in
    let s4 = number_again 4 a.x0 p3 r4 refl (omega (arith, h2, h4)) (omega (arith, room)) in
    let s5 = number_again 4 a.y0 p4 rest refl (omega (arith, h3, h5)) (omega (arith, room)) in
    let c1 : leb 16384 a.rsiz ≡ false = lt-leb _ _ h1 in
    let c2 : leb (2 ^ 31) a.x1 ≡ false = lt-leb _ _ h2 in
    let c3 : leb (2 ^ 31) a.y1 ≡ false = lt-leb _ _ h3 in
    let c4 : leb a.x1 a.x0 ≡ false = lt-leb _ _ h4 in
    let c5 : leb a.y1 a.y0 ≡ false = lt-leb _ _ h5 in
    let c6 : ltb (2 ^ 28) ((a.x1 - a.x0) * (a.y1 - a.y0)) ≡ false = le-ltb _ _ is.area in
    let again : area_at p ≡ Ok (a, ahead 4 rest p4) = rw (s1, c1, s2, c2, s3, c3, s4, c4, s5, c5, c6) refl in
    again ∙ ap (λ (q : ReadingPlace). Ok (a, q)) (ahead_twice 4 4 8 rest r4 p3 refl ∙ ahead_twice 4 8 12 rest r3 p2 refl ∙ ahead_twice 4 12 16 rest r2 p1 refl ∙ ahead_twice 2 16 18 rest r1 p refl)

covered : (tile side start : ℕ) → covers tile side start ≡ true → (tile ≤ start) × (start < tile + side)
covered tile side start e =
    let parts = and_parts (leb tile start) (ltb start (tile + side)) e in
    (leb-true _ _ parts.0, ltb-true _ _ parts.1)

covers_again : (tile side start : ℕ) → tile ≤ start → start < tile + side → covers tile side start ≡ true
covers_again tile side start le lt = and_from _ _ (le-leb _ _ le) (lt-ltb _ _ lt)

positive : (n : ℕ) → eqb n 0 ≡ false → 0 < n
positive zero e = absurd (true≢false e)
positive (suc n) e = omega arith

some_is : (n : ℕ) → 0 < n → eqb n 0 ≡ false
some_is n lt = ne_eqb n 0 (omega (arith, lt))

tiling_goes : (a : Area) (t : Tiling) (p q : ReadingPlace) → AreBytes p.rest → tiling_at a p ≡ Ok (t, q) → Goes p (tiling_text t) q × IsTiling a t
unfolding tiling_at
tiling_goes a v p q fits e =
    let t : Tiling × ReadingPlace = (v, q) in
    bind_then (number 4 p) _ t e (λ width s1 e.
    refuse_then (eqb width.0 0) BadValue _ t e (λ some_width e.
    bind_then (number 4 width.1) _ t e (λ height s2 e.
    refuse_then (eqb height.0 0) BadValue _ t e (λ some_height e.
    bind_then (number 4 height.1) _ t e (λ x0 s3 e.
    refuse_then (not (covers x0.0 width.0 a.x0)) BadValue _ t e (λ across e.
    bind_then (number 4 x0.1) _ t e (λ y0 s4 e.
    refuse_then (not (covers y0.0 height.0 a.y0)) BadValue _ t e (λ down e.
    refuse_then (ltb 65535 (tiles_of a (record { width = width.0; height = height.0; x0 = x0.0; y0 = y0.0 }))) BadValue _ t e (λ few e.
    let g1 = number_goes 4 width.0 p width.1 fits s1 in
    let g2 = number_goes 4 height.0 width.1 height.1 g1.0.bytes s2 in
    let g3 = number_goes 4 x0.0 height.1 x0.1 g2.0.bytes s3 in
    let g4 = number_goes 4 y0.0 x0.1 y0.1 g3.0.bytes s4 in
    let r3 = big_bytes 4 x0.0 ++ big_bytes 4 y0.0 in
    let r2 = big_bytes 4 height.0 ++ r3 in
    let gone = goes_then p (big_bytes 4 width.0) width.1 r2 y0.1 g1.0 (goes_then width.1 (big_bytes 4 height.0) height.1 r3 y0.1 g2.0
    (goes_then height.1 (big_bytes 4 x0.0) x0.1 (big_bytes 4 y0.0) y0.1 g3.0 g4.0)) in
    let found : Tiling = record { width = width.0; height = height.0; x0 = x0.0; y0 = y0.0 } in
    let c1 = covered x0.0 width.0 a.x0 (not-false _ across) in
    let c2 = covered y0.0 height.0 a.y0 (not-false _ down) in
    let is : IsTiling a found = record {
      wide = positive width.0 some_width;
      high = positive height.0 some_height;
      width_fits = omega (arith, g1.1);
      height_fits = omega (arith, g2.1);
      left = c1.0;
      right = c1.1;
      upper = c2.0;
      lower = c2.1;
      tiles = ltb-false _ _ few;
    } in
    subst (λ (r : Tiling × ReadingPlace). Goes p (tiling_text r.0) r.1 × IsTiling a r.0) (ok_is (found, y0.1) t e) (gone, is))))))))))

tiling_again : (a : Area) (t : Tiling) (p : ReadingPlace) (rest : List ℕ) → p.rest ≡ tiling_text t ++ rest → IsArea a → IsTiling a t → 16 ≤ p.room → tiling_at a p ≡ Ok (t, ahead 16 rest p)
unfolding tiling_at
tiling_again a t p rest e area is room =
    let r3 = big_bytes 4 t.y0 ++ rest in
    let r2 = big_bytes 4 t.x0 ++ r3 in
    let r1 = big_bytes 4 t.height ++ r2 in
    let p1 = ahead 4 r1 p in
    let p2 = ahead 4 r2 p1 in
    let p3 = ahead 4 r3 p2 in
    let h1 = is.width_fits in
    let h2 = is.height_fits in
    let h3 = is.left in
    let h4 = is.upper in
    let h5 = area.right in
    let h6 = area.lower in
    let h7 = area.wide in
    let h8 = area.high in
    let s1 = number_again 4 t.width p r1 e (omega (arith, h1)) (omega (arith, room)) in
    let s2 = number_again 4 t.height p1 r2 refl (omega (arith, h2)) (omega (arith, room)) in
    let s3 = number_again 4 t.x0 p2 r3 refl (omega (arith, h3, h5, h7)) (omega (arith, room)) in
    let s4 = number_again 4 t.y0 p3 rest refl (omega (arith, h4, h6, h8)) (omega (arith, room)) in
    let some_w = is.wide in
    let some_h = is.high in
    let c1 : eqb t.width 0 ≡ false = ne_eqb _ _ (omega (arith, some_w)) in
    let c2 : eqb t.height 0 ≡ false = ne_eqb _ _ (omega (arith, some_h)) in
    let c3 = covers_again t.x0 t.width a.x0 h3 is.right in
    let c4 = covers_again t.y0 t.height a.y0 h4 is.lower in
    let c5 : ltb 65535 (tiles_of a t) ≡ false = le-ltb _ _ is.tiles in
    let again : tiling_at a p ≡ Ok (t, ahead 4 rest p3) = rw (s1, c1, s2, c2, s3, c3, s4, c4, c5) refl in
    again ∙ ap (λ (q : ReadingPlace). Ok (t, q)) (ahead_twice 4 4 8 rest r3 p2 refl ∙ ahead_twice 4 8 12 rest r2 p1 refl ∙ ahead_twice 4 12 16 rest r1 p refl)

sampling_goes : (u : Unit {0}) (p q : ReadingPlace) → AreBytes p.rest → sampling_at p ≡ Ok (u, q) → Goes p (1 ∷ []) q
unfolding sampling_at
sampling_goes u p q fits e =
    let t : Unit {0} × ReadingPlace = (u, q) in
    bind_then (number 1 p) _ t e (λ step s1 e.
    refuse_then (eqb step.0 0) BadValue _ t e (λ some e.
    refuse_then (not (eqb step.0 1)) Unsupported _ t e (λ one e.
    let g = byte_goes step.0 p step.1 fits s1 in
    let gone = goes_as p (step.0 ∷ []) (1 ∷ []) step.1 g.0 (ap (λ k. k ∷ []) (eqb-true _ _ (not-false _ one))) in
    subst (λ (r : Unit {0} × ReadingPlace). Goes p (1 ∷ []) r.1) (ok_is (tt, step.1) t e) gone)))

sampling_again : (p : ReadingPlace) (rest : List ℕ) → p.rest ≡ 1 ∷ rest → 1 ≤ p.room → sampling_at p ≡ Ok (tt, ahead 1 rest p)
unfolding sampling_at
sampling_again p rest e room = rw (byte_again 1 p rest e (lit< tt) room) refl

depth_goes : (common : ℕ) (u : Unit {0}) (p q : ReadingPlace) → AreBytes p.rest → component_depth_at common p ≡ Ok (u, q) → Goes p (common ∷ 1 ∷ 1 ∷ []) q × (common % 128 ≤ 15) × (common < 256)
unfolding component_depth_at
depth_goes common u p q fits e =
    let t : Unit {0} × ReadingPlace = (u, q) in
    bind_then (number 1 p) _ t e (λ depth s1 e.
    refuse_then (ltb 37 (depth.0 % 128)) BadValue _ t e (λ legal e.
    refuse_then (ltb 15 (depth.0 % 128) || not (eqb depth.0 common)) Unsupported _ t e (λ same e.
    bind_then (sampling_at depth.1) _ t e (λ x s2 e.
    let g1 = byte_goes depth.0 p depth.1 fits s1 in
    let g2 = sampling_goes x.0 depth.1 x.1 g1.0.bytes s2 in
    let g3 = sampling_goes u x.1 q g2.bytes e in
    let both = or_parts (ltb 15 (depth.0 % 128)) (not (eqb depth.0 common)) same in
    let is : depth.0 ≡ common = eqb-true _ _ (not-false _ both.1) in
    let gone = goes_then p (depth.0 ∷ []) depth.1 (1 ∷ 1 ∷ []) q g1.0 (goes_then depth.1 (1 ∷ []) x.1 (1 ∷ []) q g2 g3) in
    let low = ltb-false _ _ both.0 in
    subst (λ k. Goes p (k ∷ 1 ∷ 1 ∷ []) q × (k % 128 ≤ 15) × (k < 256)) is (gone, low, g1.1)))))

depth_again : (common : ℕ) (p : ReadingPlace) (rest : List ℕ) → p.rest ≡ common ∷ 1 ∷ 1 ∷ rest → common % 128 ≤ 15 → common < 256 → 3 ≤ p.room → component_depth_at common p ≡ Ok (tt, ahead 3 rest p)
unfolding component_depth_at
depth_again common p rest e low small room =
    let r2 = 1 ∷ rest in
    let r1 = 1 ∷ r2 in
    let s1 = byte_again common p r1 e small (omega (arith, room)) in
    let p1 = ahead 1 r1 p in
    let s2 = sampling_again p1 r2 refl (omega (arith, room)) in
    let p2 = ahead 1 r2 p1 in
    let s3 = sampling_again p2 rest refl (omega (arith, room)) in
    let c1 : ltb 37 (common % 128) ≡ false = le-ltb _ _ (omega (arith, low)) in
    let c2 : ltb 15 (common % 128) ≡ false = le-ltb _ _ low in
    let c3 : eqb common common ≡ true = eq-eqb common common refl in
    let again : component_depth_at common p ≡ Ok (tt, ahead 1 rest p2) = rw (s1, c1, c2, c3, s2, s3) refl in
    again ∙ ap (λ (q : ReadingPlace). Ok (tt, q)) (ahead_twice 1 1 2 rest r2 p1 refl ∙ ahead_twice 1 2 3 rest r1 p refl)

-- the three bytes of a component
abbrev pub depth_text : ℕ → List ℕ
depth_text common = common ∷ 1 ∷ 1 ∷ []

components_goes : (n common : ℕ) (u : Unit {0}) (p q : ReadingPlace) → AreBytes p.rest → components_at n common p ≡ Ok (u, q) → Goes p (concat (replicate n (depth_text common))) q
unfolding components_at
components_goes zero common u p q fits e = subst (λ (r : Unit {0} × ReadingPlace). Goes p [] r.1) (ok_is (tt, p) (u, q) e) (goes_none p fits)
components_goes (suc n) common u p q fits e =
    bind_then (component_depth_at common p) _ (u, q) e (λ r s1 e.
    let g = depth_goes common r.0 p r.1 fits s1 in
    goes_then p (depth_text common) r.1 (concat (replicate n (depth_text common))) q g.0 (components_goes n common u r.1 q g.0.bytes e))

-- the first of some components is in range
first_depth : (n common : ℕ) (u : Unit {0}) (p q : ReadingPlace) → AreBytes p.rest → 0 < n → components_at n common p ≡ Ok (u, q) → (common % 128 ≤ 15) × (common < 256)
unfolding components_at
first_depth zero common u p q fits some e = absurd (omega (arith, some))
first_depth (suc n) common u p q fits some e =
    bind_then (component_depth_at common p) _ (u, q) e (λ r s1 e.
    let g = depth_goes common r.0 p r.1 fits s1 in (g.1, g.2))

components_again : (n common : ℕ) (p : ReadingPlace) (rest : List ℕ) → p.rest ≡ concat (replicate n (depth_text common)) ++ rest → common % 128 ≤ 15 → common < 256 → 3 * n ≤ p.room
    → components_at n common p ≡ Ok (tt, ahead (3 * n) rest p)
unfolding components_at
components_again zero common p rest e low small room =
    let at : p.at + 0 ≡ p.at = omega arith in
    let room-is : p.room - 0 ≡ p.room = omega arith in
    rw (at, room-is, sym e) refl
components_again (suc n) common p rest e low small room =
    let tail = concat (replicate n (depth_text common)) ++ rest in
    let s1 = depth_again common p tail e low small (omega (arith, room)) in
    let p1 = ahead 3 tail p in
    let s2 = components_again n common p1 rest refl low small (omega (arith, room)) in
    let again : components_at (suc n) common p ≡ Ok (tt, ahead (3 * n) rest p1) = rw (s1, s2) refl in
    again ∙ ap (λ (q : ReadingPlace). Ok (tt, q)) (ahead_twice 3 (3 * n) (3 * suc n) rest tail p (omega arith))

count_goes : (size n : ℕ) (p q : ReadingPlace) → AreBytes p.rest → count_at size p ≡ Ok (n, q) → Goes p (big_bytes 2 n) q × (size ≡ 38 + 3 * n) × (0 < n) × (n ≤ 4)
unfolding count_at
count_goes size n p q fits e =
    let t : ℕ × ReadingPlace = (n, q) in
    bind_then (number 2 p) _ t e (λ k s1 e.
    refuse_then (not (eqb size (38 + 3 * k.0))) BadLength _ t e (λ same e.
    refuse_then (eqb k.0 0 || ltb 16384 k.0) BadValue _ t e (λ legal e.
    refuse_then (ltb 4 k.0) Unsupported _ t e (λ few e.
    let g = number_goes 2 k.0 p k.1 fits s1 in
    let both = or_parts (eqb k.0 0) (ltb 16384 k.0) legal in
    subst (λ (r : ℕ × ReadingPlace). Goes p (big_bytes 2 r.0) r.1 × (size ≡ 38 + 3 * r.0) × (0 < r.0) × (r.0 ≤ 4)) (ok_is k t e)
    (g.0, eqb-true _ _ (not-false _ same), positive k.0 both.0, ltb-false _ _ few)))))

count_again : (size n : ℕ) (p : ReadingPlace) (rest : List ℕ) → p.rest ≡ big_bytes 2 n ++ rest → size ≡ 38 + 3 * n → 0 < n → n ≤ 4 → 2 ≤ p.room → count_at size p ≡ Ok (n, ahead 2 rest p)
unfolding count_at
count_again size n p rest e same some few room =
    let s1 = number_again 2 n p rest e (omega (arith, few)) room in
    let c1 : eqb size (38 + 3 * n) ≡ true = eq-eqb _ _ same in
    let low : n ≤ 16384 = omega (arith, few) in
    let c2 : (eqb n 0 || ltb 16384 n) ≡ false = or_from _ _ (some_is n some) (le-ltb _ _ low) in
    let c3 : ltb 4 n ≡ false = le-ltb _ _ few in
    rw (s1, c1, c2, c3) refl

-- the fields that stand together
abbrev pub area_of : Siz → Area
area_of s = record { rsiz = s.rsiz; x1 = s.x1; y1 = s.y1; x0 = s.x0; y0 = s.y0 }

abbrev pub tiling_of : Siz → Tiling
tiling_of s = record { width = s.tile_width; height = s.tile_height; x0 = s.tile_x0; y0 = s.tile_y0 }

-- what follows the marker
abbrev pub siz_body : Siz → List ℕ
siz_body s =
    big_bytes 2 (siz_length s) ++ (area_text (area_of s) ++ (tiling_text (tiling_of s) ++ (big_bytes 2 s.components ++ concat (replicate s.components (depth_text (ssiz s))))))

pub siz_parts : (s : Siz) → siz_text s ≡ marker_text siz ++ siz_body s
unfolding siz_text
siz_parts s = refl

ssiz_is : (common : ℕ) → common < 256 → common % 128 + 1 - 1 + cond (leb 128 common) 128 0 ≡ common
ssiz_is common lt = elim (cases_Bool (leb 128 common)) [
  | inl high ↦ (let le = leb-true _ _ high in rw high (omega (arith, lt, le)))
  | inr low ↦ (let l = leb-false _ _ low in rw low (omega (arith, lt, l)))
]

sign_again : (low : ℕ) (b : Bool) → low ≤ 15 → let common = low + cond b 128 0 in (common % 128 ≡ low) × (leb 128 common ≡ b) × (common < 256)
sign_again low true le = (omega (arith, le), le-leb _ _ (omega arith), omega (arith, le))
sign_again low false le = (omega (arith, le), lt-leb _ _ (omega (arith, le)), omega (arith, le))

siz_is : (a : Area) (t : Tiling) (n common : ℕ) → IsArea a → IsTiling a t → 0 < n → n ≤ 4 → common % 128 ≤ 15 → IsSiz (siz_with a t n common)
siz_is a t n common area tiling some few low = record {
  part_one = area.part_one;
  wide = area.wide;
  high = area.high;
  right = area.right;
  lower = area.lower;
  area = area.area;
  tile_wide = tiling.wide;
  tile_high = tiling.high;
  width_fits = tiling.width_fits;
  height_fits = tiling.height_fits;
  tile_left = tiling.left;
  tile_right = tiling.right;
  tile_upper = tiling.upper;
  tile_lower = tiling.lower;
  tiles = tiling.tiles;
  some_components = some;
  few_components = few;
  some_bits = omega arith;
  few_bits = omega (arith, low);
}

pub siz_goes : (s : Siz) (p q : ReadingPlace) → AreBytes p.rest → siz_at p ≡ Ok (s, q) → Goes p (siz_body s) q × IsSiz s
unfolding siz_at
siz_goes s p q fits e =
    let t : Siz × ReadingPlace = (s, q) in
    bind_then (segment_length p) _ t e (λ size s1 e.
    bind_then (area_at size.1) _ t e (λ area s2 e.
    bind_then (tiling_at area.0 area.1) _ t e (λ tiling s3 e.
    bind_then (count_at size.0 tiling.1) _ t e (λ n s4 e.
    bind_then (components_at n.0 (next_byte n.1) n.1) _ t e (λ all s5 e.
    let common = next_byte n.1 in
    let g1 = length_goes size.0 p size.1 fits s1 in
    let g2 = area_goes area.0 size.1 area.1 g1.0.bytes s2 in
    let g3 = tiling_goes area.0 tiling.0 area.1 tiling.1 g2.0.bytes s3 in
    let g4 = count_goes size.0 n.0 tiling.1 n.1 g3.0.bytes s4 in
    let g5 = components_goes n.0 common all.0 n.1 all.1 g4.0.bytes s5 in
    let depth = first_depth n.0 common all.0 n.1 all.1 g4.0.bytes g4.2 s5 in
    let r4 = concat (replicate n.0 (depth_text common)) in
    let r3 = big_bytes 2 n.0 ++ r4 in
    let r2 = tiling_text tiling.0 ++ r3 in
    let r1 = area_text area.0 ++ r2 in
    let gone = goes_then p (big_bytes 2 size.0) size.1 r1 all.1 g1.0 (goes_then size.1 (area_text area.0) area.1 r2 all.1 g2.0
    (goes_then area.1 (tiling_text tiling.0) tiling.1 r3 all.1 g3.0 (goes_then tiling.1 (big_bytes 2 n.0) n.1 r4 all.1 g4.0 g5))) in
    let found = siz_with area.0 tiling.0 n.0 common in
    let text : big_bytes 2 size.0 ++ r1 ≡ siz_body found =
    ap (λ k. big_bytes 2 k ++ r1) g4.1
    ∙ ap (λ k. big_bytes 2 (38 + 3 * n.0) ++ (area_text area.0 ++ (tiling_text tiling.0 ++ (big_bytes 2 n.0 ++ concat (replicate n.0 (depth_text k)))))) (sym (ssiz_is common depth.1)) in
    let is = siz_is area.0 tiling.0 n.0 common g2.1 g3.1 g4.2 g4.3 depth.0 in
    subst (λ (r : Siz × ReadingPlace). Goes p (siz_body r.0) r.1 × IsSiz r.0) (ok_is (found, all.1) t e) (goes_as p _ _ all.1 gone text, is))))))

next_is : (n common : ℕ) (rest : List ℕ) → 0 < n → get_or (concat (replicate n (depth_text common)) ++ rest) 0 0 ≡ common
next_is zero common rest some = absurd (omega (arith, some))
next_is (suc n) common rest some = refl

depths_length : (n common : ℕ) → length (concat (replicate n (depth_text common))) ≡ 3 * n
depths_length zero common = refl
depths_length (suc n) common =
    let rest = depths_length n common in
    omega (arith, rest)

pub body_length : (s : Siz) → length (siz_body s) ≡ siz_length s
body_length s =
    let depths = depths_length s.components (ssiz s) in
    omega (arith, depths)

pub siz_again : (s : Siz) (p : ReadingPlace) (rest : List ℕ) → p.rest ≡ siz_body s ++ rest → IsSiz s → 2 ≤ p.room → (q : ReadingPlace) × (siz_at p ≡ Ok (s, q)) × (q.rest ≡ rest) × (q.at ≡ p.at + siz_length s)
unfolding siz_at
siz_again s p rest e is room =
    let n = s.components in
    let low = s.depth - 1 in
    let common = ssiz s in
    let bits = is.few_bits in
    let some_bits = is.some_bits in
    let some = is.some_components in
    let few = is.few_components in
    let back = sign_again low s.signed (omega (arith, bits)) in
    let r4 = concat (replicate n (depth_text common)) ++ rest in
    let r3 = big_bytes 2 n ++ r4 in
    let r2 = tiling_text (tiling_of s) ++ r3 in
    let r1 = area_text (area_of s) ++ r2 in
    let size = siz_length s in
    let area : IsArea (area_of s) = record { part_one = is.part_one; wide = is.wide; high = is.high; right = is.right; lower = is.lower; area = is.area } in
    let tiling : IsTiling (area_of s) (tiling_of s) = record {
      wide = is.tile_wide;
      high = is.tile_high;
      width_fits = is.width_fits;
      height_fits = is.height_fits;
      left = is.tile_left;
      right = is.tile_right;
      upper = is.tile_upper;
      lower = is.tile_lower;
      tiles = is.tiles;
    } in
    let p1 = entered size r1 p in
    let p2 = ahead 18 r2 p1 in
    let p3 = ahead 16 r3 p2 in
    let p4 = ahead 2 r4 p3 in
    let next = next_is n common rest some in
    let s1 = length_again size p r1 e (omega (arith, few)) room in
    let s2 = area_again (area_of s) p1 r2 refl area (omega arith) in
    let s3 = tiling_again (area_of s) (tiling_of s) p2 r3 refl area tiling (omega arith) in
    let s4 = count_again size n p3 r4 refl refl some few (omega arith) in
    let depth : common % 128 ≤ 15 = omega (arith, back.0, bits) in
    let s5 = components_again n common p4 rest refl depth back.2 (omega arith) in
    let q = ahead (3 * n) rest p4 in
    let d : common % 128 + 1 ≡ s.depth = omega (arith, back.0, some_bits) in
    let read : siz_at p ≡ Ok (siz_with (area_of s) (tiling_of s) n common, q) = rw (s1, s2, s3, s4, next, s5) refl in
    let same : siz_with (area_of s) (tiling_of s) n common ≡ s =
    ap (λ k. record s { depth = k; signed = leb 128 common }) d ∙ ap (λ b. record s { signed = b }) back.1 in
    (q, read ∙ ap (λ (x : Siz). Ok (x, q)) same, refl, omega arith)
