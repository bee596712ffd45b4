-- The components of a tile after the inverse colour transform, and their samples.
use Rattle.std.proofs.Common.{◌≡◌, ℕ, zero, suc, ◌+◌, ◌/◌, ◌%◌, ◌<◌, ◌≤◌, List, [], ◌∷◌, length, map, get_or, All, Bool, true, false, if◌then◌else◌, Result, Ok, Err, ◌^◌, ℤ, pos, refl, sym, ap, subst, ◌∙◌, arith}
use Rattle.std.specs.Global.{Vec}
use Rattle.std.specs.List.{range_with_len}
use Rattle.std.proofs.lemmas.List.{length-map, get_or-map, ext_get_or, get_or_default}
use Rattle.std.proofs.lemmas.List.FromFn.{length-map-range_with_len, get_or-map-range_with_len}
use Rattle.jk_math.specs.declared.rect.Rect.{Rect}
use Rattle.jk_math.specs.Raster.{raster, places_of, columns_of}
use Rattle.jk_math.specs.Lists.{lists_of, list_at}
use Rattle.jk_math.specs.Signed.{IsBelow, signed_at}
use Rattle.jk_math.proofs.Laws.{raster_length, raster_entry, raster_same}
use Rattle.jk_rct.specs.Colour.{i0_of, i1_of, i2_of}
use Rattle.std.proofs.lemmas.Int.{ints}
use Rattle.std.proofs.lemmas.List.Elements.{All-weaker}
use Rattle.jk_math.specs.Answer.{◌>>=◌}
use Rattle.jk_math.specs.Steps.{ok_is}
use Rattle.jk_math.specs.declared.fault.Fault.{Fault}
use Rattle.jk_marks.specs.declared.siz.Siz.{Siz}
use Rattle.jk_marks.specs.declared.segments.Cod.{Cod}
use Rattle.jk_geom.specs.Rectangles.{tile_area}
use Rattle.jk_geom.specs.TileShapes.{coding_of}
use Rattle.jk_params.specs.Headers.{Headers, tile_in}
use Rattle.jk_rct.proofs.Laws.{inverse_bounds}
use Rattle.jk_walk.specs.declared.places.PacketPlace.{PacketPlace}
use Rattle.jk_tile.specs.Samples.{sample_of}
use Rattle.jk_tile.specs.Pixels.{uncoloured, tile_sample}
use Rattle.jk_tile.specs.TileMeaning.{shown_area}
use Rattle.jk_tile.specs.decoding.TileReading.{each, component_tested, bodies_of, component_values, component_samples, part_values_at, part_planes_at, tile_planes_at}
use Rattle.jk_tile.proofs.Components.{parts_tested, values_by}

-- lists over one rectangle
abbrev pub rasters : Rect → (ℕ → ℕ → ℕ → ℤ) → ℕ → List (List ℤ)
rasters a v n = map (λ c. raster a (v c)) (range_with_len 0 n)

pub list_is : (a : Rect) (v : ℕ → ℕ → ℕ → ℤ) (n c : ℕ) (lists : List (Vec ℤ)) → lists_of lists ≡ rasters a v n → c < n → list_at lists c ≡ raster a (v c)
list_is a v n c lists e lt = ap (λ (ls : List (List ℤ)). get_or ls c []) e ∙ get_or-map-range_with_len (λ i. raster a (v i)) 0 n c c [] lt (omega arith)

pub count_is : (a : Rect) (v : ℕ → ℕ → ℕ → ℤ) (n : ℕ) (lists : List (Vec ℤ)) → lists_of lists ≡ rasters a v n → length lists ≡ n
count_is a v n lists e = sym (length-map lists (λ (w : Vec ℤ). w.items)) ∙ ap (λ (ls : List (List ℤ)). length ls) e ∙ length-map-range_with_len (λ i. raster a (v i)) 0 n

pub list_long : (a : Rect) (v : ℕ → ℕ → ℕ → ℤ) (n c : ℕ) (lists : List (Vec ℤ)) → lists_of lists ≡ rasters a v n → c < n → length (list_at lists c) ≡ places_of a
list_long a v n c lists e lt = ap (λ (l : List ℤ). length l) (list_is a v n c lists e lt) ∙ raster_length a (v c)

-- a list of so many entries is a raster
raster_from : (a : Rect) (values : List ℤ) (f : ℕ → ℕ → ℤ) → length values ≡ places_of a → ((k : ℕ) → k < places_of a → signed_at values k ≡ signed_at (raster a f) k) → values ≡ raster a f
raster_from a values f long same = ext_get_or (pos 0) values (raster a f) (long ∙ sym (raster_length a f)) (λ k lt. same k (omega (arith, lt, long)))

-- what the inverse transform gives
uncoloured_at : (v : ℕ → ℤ) → (uncoloured v 0 ≡ i0_of (v 0) (v 1) (v 2)) × (uncoloured v 1 ≡ i1_of (v 0) (v 1) (v 2)) × (uncoloured v 2 ≡ i2_of (v 0) (v 1) (v 2)) × ((c : ℕ) → uncoloured v (suc (suc (suc c))) ≡ v (suc (suc (suc c))))
unfolding uncoloured
uncoloured_at v = (refl, refl, refl, λ c. refl)

abbrev pub Transforms : (ℤ → ℤ → ℤ → ℤ) → ℕ → (old new : List (Vec ℤ)) → Type 0
Transforms f c old new = (k : ℕ) → k < length (list_at old 0) → signed_at (list_at new c) k ≡ f (signed_at (list_at old 0) k) (signed_at (list_at old 1) k) (signed_at (list_at old 2) k)

-- What a component transform gives of a pixel: three values by f0, f1 and f2, and the others as they are.
pub record IsTransform (t : (ℕ → ℤ) → ℕ → ℤ) (f0 f1 f2 : ℤ → ℤ → ℤ → ℤ) : Type 0 where
  pub first : (v : ℕ → ℤ) → t v 0 ≡ f0 (v 0) (v 1) (v 2)
  pub second : (v : ℕ → ℤ) → t v 1 ≡ f1 (v 0) (v 1) (v 2)
  pub third : (v : ℕ → ℤ) → t v 2 ≡ f2 (v 0) (v 1) (v 2)
  pub others : (v : ℕ → ℤ) (c : ℕ) → t v (suc (suc (suc c))) ≡ v (suc (suc (suc c)))

pub inverse_is : IsTransform uncoloured i0_of i1_of i2_of
inverse_is = record { first = λ v. (uncoloured_at v).0; second = λ v. (uncoloured_at v).1; third = λ v. (uncoloured_at v).2; others = λ v c. (uncoloured_at v).3 c }

-- one of the first three
one_changed : (a : Rect) (v : ℕ → ℕ → ℕ → ℤ) (n c : ℕ) (t : (ℕ → ℤ) → ℕ → ℤ) (f : ℤ → ℤ → ℤ → ℤ) (old new : List (Vec ℤ)) → 3 ≤ n → c < n → lists_of old ≡ rasters a v n → length (list_at new c) ≡ length (list_at old c)
    → Transforms f c old new → ((w : ℕ → ℤ) → t w c ≡ f (w 0) (w 1) (w 2)) → list_at new c ≡ raster a (λ x y. t (λ i. v i x y) c)
one_changed a v n c t f old new three lt e long maps is =
    let first = list_is a v n 0 old e (omega (arith, three)) in
    let second = list_is a v n 1 old e (omega (arith, three)) in
    let third = list_is a v n 2 old e (omega (arith, three)) in
    raster_from a (list_at new c) (λ x y. t (λ i. v i x y) c) (long ∙ list_long a v n c old e lt) (λ k less.
    let x = a.x0 + k % columns_of a in
    let y = a.y0 + k / columns_of a in
    maps k (omega (arith, less, list_long a v n 0 old e (omega (arith, three))))
    ∙ ap (λ z. f z (signed_at (list_at old 1) k) (signed_at (list_at old 2) k)) (ap (λ (l : List ℤ). signed_at l k) first ∙ raster_entry a (v 0) k less)
    ∙ ap (λ z. f (v 0 x y) z (signed_at (list_at old 2) k)) (ap (λ (l : List ℤ). signed_at l k) second ∙ raster_entry a (v 1) k less)
    ∙ ap (λ z. f (v 0 x y) (v 1 x y) z) (ap (λ (l : List ℤ). signed_at l k) third ∙ raster_entry a (v 2) k less)
    ∙ sym (is (λ i. v i x y)) ∙ sym (raster_entry a (λ x y. t (λ i. v i x y) c) k less))

-- all components after a component transform
pub lists_changed : (a : Rect) (v : ℕ → ℕ → ℕ → ℤ) (n : ℕ) (t : (ℕ → ℤ) → ℕ → ℤ) (f0 f1 f2 : ℤ → ℤ → ℤ → ℤ) (old new : List (Vec ℤ)) → IsTransform t f0 f1 f2 → 3 ≤ n → lists_of old ≡ rasters a v n → length new ≡ length old
    → ((c : ℕ) → length (list_at new c) ≡ length (list_at old c)) → Transforms f0 0 old new → Transforms f1 1 old new → Transforms f2 2 old new → ((c : ℕ) → 3 ≤ c → list_at new c ≡ list_at old c)
    → lists_of new ≡ rasters a (λ c x y. t (λ i. v i x y) c) n
lists_changed a v n t f0 f1 f2 old new is three e count long m0 m1 m2 others =
    let f : ℕ → List ℤ = λ c. raster a (λ x y. t (λ i. v i x y) c) in
    ext_get_or [] (lists_of new) (rasters a (λ c x y. t (λ i. v i x y) c) n) (length-map new (λ w. w.items) ∙ count ∙ count_is a v n old e ∙ sym (length-map-range_with_len f 0 n)) (λ c less.
    let lt : c < n = omega (arith, less, length-map new (λ (w : Vec ℤ). w.items), count, count_is a v n old e) in
    by c lt ∙ sym (get_or-map-range_with_len f 0 n c c [] lt (omega arith)))
  where
    by : (c : ℕ) → c < n → list_at new c ≡ raster a (λ x y. t (λ i. v i x y) c)
    by zero lt = one_changed a v n 0 t f0 old new three lt e (long 0) m0 is.first
    by (suc zero) lt = one_changed a v n 1 t f1 old new three lt e (long 1) m1 is.second
    by (suc (suc zero)) lt = one_changed a v n 2 t f2 old new three lt e (long 2) m2 is.third
    by (suc (suc (suc c))) lt =
        others (suc (suc (suc c))) (omega arith) ∙ list_is a v n (suc (suc (suc c))) old e lt
        ∙ raster_same a (v (suc (suc (suc c)))) (λ x y. t (λ i. v i x y) (suc (suc (suc c)))) (λ x y h. sym (is.others (λ i. v i x y) c))

pub lists_uncoloured : (a : Rect) (v : ℕ → ℕ → ℕ → ℤ) (n : ℕ) (old new : List (Vec ℤ)) → 3 ≤ n → lists_of old ≡ rasters a v n → length new ≡ length old → ((c : ℕ) → length (list_at new c) ≡ length (list_at old c))
    → Transforms i0_of 0 old new → Transforms i1_of 1 old new → Transforms i2_of 2 old new → ((c : ℕ) → 3 ≤ c → list_at new c ≡ list_at old c) → lists_of new ≡ rasters a (λ c x y. uncoloured (λ i. v i x y) c) n
lists_uncoloured a v n old new three e count long m0 m1 m2 others = lists_changed a v n uncoloured i0_of i1_of i2_of old new inverse_is three e count long m0 m1 m2 others

-- samples of rasters
pub raster_map : (a : Rect) (g : ℤ → ℤ) (f : ℕ → ℕ → ℤ) → map g (raster a f) ≡ raster a (λ x y. g (f x y))
raster_map a g f = raster_from a (map g (raster a f)) (λ x y. g (f x y)) (length-map (raster a f) g ∙ raster_length a f) (λ k lt.
    get_or-map g (raster a f) k (pos 0) (pos 0) (omega (arith, lt, raster_length a f)) ∙ ap g (raster_entry a f k lt) ∙ sym (raster_entry a (λ x y. g (f x y)) k lt))

pub rasters_map : (a : Rect) (g : ℤ → ℤ) (v : ℕ → ℕ → ℕ → ℤ) (n : ℕ) → map (map g) (rasters a v n) ≡ rasters a (λ c x y. g (v c x y)) n
rasters_map a g v n = go (range_with_len 0 n)
  where
    go : (cs : List ℕ) → map (map g) (map (λ c. raster a (v c)) cs) ≡ map (λ c. raster a (λ x y. g (v c x y))) cs
    go [] = refl
    go (c ∷ cs) = ap (λ (l : List ℤ). l ∷ map (map g) (map (λ i. raster a (v i)) cs)) (raster_map a g (v c)) ∙ ap (λ (ls : List (List ℤ)). raster a (λ x y. g (v c x y)) ∷ ls) (go cs)

-- ---- how great they are

entry_small : (m : ℕ) (values : List ℤ) → ((k : ℕ) → k < length values → IsBelow m (signed_at values k)) → All (IsBelow m) values
entry_small m values each k d lt = subst (IsBelow m) (get_or_default values k (pos 0) d lt) (each k lt)

pub wider : (values : List ℤ) → All (IsBelow (2 ^ 29)) values → All (IsBelow (2 ^ 30)) values
wider values small = All-weaker (IsBelow (2 ^ 29)) (IsBelow (2 ^ 30)) (λ z b. (omega (arith, ints, b.0), omega (arith, ints, b.1))) values small

pub uncoloured_small : (old new : List (Vec ℤ)) → length (list_at old 1) ≡ length (list_at old 0) → length (list_at old 2) ≡ length (list_at old 0) → ((c : ℕ) → length (list_at new c) ≡ length (list_at old c))
    → Transforms i0_of 0 old new → Transforms i1_of 1 old new → Transforms i2_of 2 old new → ((c : ℕ) → 3 ≤ c → list_at new c ≡ list_at old c) → ((c : ℕ) → All (IsBelow (2 ^ 29)) (list_at old c))
    → (c : ℕ) → All (IsBelow (2 ^ 30)) (list_at new c)
uncoloured_small old new same_b same_c long m0 m1 m2 others small zero =
    entry_small (2 ^ 30) (list_at new 0) (λ k lt. let less : k < length (list_at old 0) = omega (arith, lt, long 0) in subst (IsBelow (2 ^ 30)) (sym (m0 k less))
    (inverse_bounds (2 ^ 29) _ _ _ (small 0 k (pos 0) less) (small 1 k (pos 0) (omega (arith, less, same_b))) (small 2 k (pos 0) (omega (arith, less, same_c)))).0)
uncoloured_small old new same_b same_c long m0 m1 m2 others small (suc zero) =
    entry_small (2 ^ 30) (list_at new 1) (λ k lt. let less : k < length (list_at old 0) = omega (arith, lt, long 1, same_b) in subst (IsBelow (2 ^ 30)) (sym (m1 k less))
    (inverse_bounds (2 ^ 29) _ _ _ (small 0 k (pos 0) less) (small 1 k (pos 0) (omega (arith, less, same_b))) (small 2 k (pos 0) (omega (arith, less, same_c)))).1)
uncoloured_small old new same_b same_c long m0 m1 m2 others small (suc (suc zero)) =
    entry_small (2 ^ 30) (list_at new 2) (λ k lt. let less : k < length (list_at old 0) = omega (arith, lt, long 2, same_c) in subst (IsBelow (2 ^ 30)) (sym (m2 k less))
    (inverse_bounds (2 ^ 29) _ _ _ (small 0 k (pos 0) less) (small 1 k (pos 0) (omega (arith, less, same_b))) (small 2 k (pos 0) (omega (arith, less, same_c)))).2)
uncoloured_small old new same_b same_c long m0 m1 m2 others small (suc (suc (suc c))) =
    subst (All (IsBelow (2 ^ 30))) (sym (others (suc (suc (suc c))) (omega arith))) (wider (list_at old (suc (suc (suc c)))) (small (suc (suc (suc c)))))

-- ---- the planes of a tile

rasters_same : (a : Rect) (f g : ℕ → ℕ → ℕ → ℤ) (n : ℕ) → ((c x y : ℕ) → f c x y ≡ g c x y) → rasters a f n ≡ rasters a g n
rasters_same a f g n same = go (range_with_len 0 n)
  where
    go : (cs : List ℕ) → map (λ c. raster a (f c)) cs ≡ map (λ c. raster a (g c)) cs
    go [] = refl
    go (c ∷ cs) = ap (λ (l : List ℤ). l ∷ map (λ i. raster a (f i)) cs) (raster_same a (f c) (g c) (λ x y h. same c x y)) ∙ ap (λ (ls : List (List ℤ)). raster a (g c) ∷ ls) (go cs)

pixel : (cod : Cod) (siz : Siz) (v : ℕ → ℤ) (c : ℕ) → tile_sample cod siz v c ≡ sample_of siz (if cod.colour then uncoloured v c else v c)
unfolding tile_sample
pixel cod siz v c = refl

pub planes_by : (bytes : List ℕ) (h : Headers) (t d : ℕ) (places : List PacketPlace) → tile_planes_at bytes h t d places
    ≡ (each h.siz.components (λ c. component_tested (tile_area h.siz t) (coding_of (tile_in h.tiles t).codings c) d (bodies_of bytes places c)) >>= λ _. Ok (rasters (shown_area h.siz t d) (component_samples bytes h t d places) h.siz.components))
unfolding tile_planes_at
planes_by bytes h t d places = refl

pub part_by : (bytes : List ℕ) (h : Headers) (t d : ℕ) (u : Rect) (places : List PacketPlace) → part_planes_at bytes h t d u places
    ≡ (parts_tested bytes h t d u places h.siz.components >>= λ _. Ok (rasters u (component_samples bytes h t d places) h.siz.components))
unfolding part_planes_at
part_by bytes h t d u places = refl

pub first_then : {X Y : Type 0} (t : Result (Unit {0}) Fault) (due values : X) (other : Y) → (t >>= λ _. Ok due) ≡ Ok values → (values ≡ due) × ((t >>= λ _. Ok other) ≡ Ok other)
first_then (Ok u) due values other e = (sym (ok_is due values e), refl)
first_then (Err x) due values other e = absurd cc

first_fails : {X Y : Type 0} (t : Result (Unit {0}) Fault) (due : X) (other : Y) (e : Fault) → (t >>= λ _. Ok due) ≡ Err e → (t >>= λ _. Ok other) ≡ Err e
first_fails (Ok u) due other e h = absurd cc
first_fails (Err x) due other e h = cc

pub planes_fine : (bytes : List ℕ) (h : Headers) (t d : ℕ) (u : Rect) (places : List PacketPlace) (lists : List (List ℤ)) → part_values_at bytes h t d u places ≡ Ok lists
    → (lists ≡ rasters u (component_values bytes h t d places) h.siz.components) × (part_planes_at bytes h t d u places ≡ Ok (rasters u (component_samples bytes h t d places) h.siz.components))
planes_fine bytes h t d u places lists e =
    let both = first_then (parts_tested bytes h t d u places h.siz.components) (rasters u (component_values bytes h t d places) h.siz.components) lists
    (rasters u (component_samples bytes h t d places) h.siz.components) (sym (values_by bytes h t d u places) ∙ e) in
    (both.0, part_by bytes h t d u places ∙ both.1)

pub planes_err : (bytes : List ℕ) (h : Headers) (t d : ℕ) (u : Rect) (places : List PacketPlace) (e : Fault) → part_values_at bytes h t d u places ≡ Err e → part_planes_at bytes h t d u places ≡ Err e
planes_err bytes h t d u places e is =
    part_by bytes h t d u places ∙ first_fails (parts_tested bytes h t d u places h.siz.components) (rasters u (component_values bytes h t d places) h.siz.components)
    (rasters u (component_samples bytes h t d places) h.siz.components) e (sym (values_by bytes h t d u places) ∙ is)

-- the samples, where there is a colour transform, and where there isn't
pub samples_coloured : (bytes : List ℕ) (h : Headers) (t d n : ℕ) (u : Rect) (places : List PacketPlace) (lists : List (List ℤ)) → (tile_in h.tiles t).cod.colour ≡ true
    → lists ≡ rasters u (λ c x y. uncoloured (λ i. component_values bytes h t d places i x y) c) n → map (map (sample_of h.siz)) lists ≡ rasters u (component_samples bytes h t d places) n
samples_coloured bytes h t d n u places lists colour e =
    let a = u in
    let v = component_values bytes h t d places in
    ap (map (map (sample_of h.siz))) e ∙ rasters_map a (sample_of h.siz) (λ c x y. uncoloured (λ i. v i x y) c) n
    ∙ rasters_same a (λ c x y. sample_of h.siz (uncoloured (λ i. v i x y) c)) (component_samples bytes h t d places) n (λ c x y.
    ap (λ (b : Bool). sample_of h.siz (if b then uncoloured (λ i. v i x y) c else v c x y)) (sym colour) ∙ sym (pixel (tile_in h.tiles t).cod h.siz (λ i. v i x y) c))

pub samples_plain : (bytes : List ℕ) (h : Headers) (t d n : ℕ) (u : Rect) (places : List PacketPlace) (lists : List (List ℤ)) → (tile_in h.tiles t).cod.colour ≡ false
    → lists ≡ rasters u (component_values bytes h t d places) n → map (map (sample_of h.siz)) lists ≡ rasters u (component_samples bytes h t d places) n
samples_plain bytes h t d n u places lists colour e =
    let a = u in
    let v = component_values bytes h t d places in
    ap (map (map (sample_of h.siz))) e ∙ rasters_map a (sample_of h.siz) v n
    ∙ rasters_same a (λ c x y. sample_of h.siz (v c x y)) (component_samples bytes h t d places) n (λ c x y.
    ap (λ (b : Bool). sample_of h.siz (if b then uncoloured (λ i. v i x y) c else v c x y)) (sym colour) ∙ sym (pixel (tile_in h.tiles t).cod h.siz (λ i. v i x y) c))

-- a pixel's components depend on those that there are
pub uncoloured_same : (v w : ℕ → ℤ) (n c : ℕ) → 3 ≤ n → c < n → ((i : ℕ) → i < n → v i ≡ w i) → uncoloured v c ≡ uncoloured w c
unfolding uncoloured
uncoloured_same v w n zero three lt same = ap (λ z. i0_of z (v 1) (v 2)) (same 0 (omega (arith, three))) ∙ ap (λ z. i0_of (w 0) z (v 2)) (same 1 (omega (arith, three))) ∙ ap (λ z. i0_of (w 0) (w 1) z) (same 2 (omega (arith, three)))
uncoloured_same v w n (suc zero) three lt same = ap (λ z. i1_of z (v 1) (v 2)) (same 0 (omega (arith, three))) ∙ ap (λ z. i1_of (w 0) z (v 2)) (same 1 (omega (arith, three))) ∙ ap (λ z. i1_of (w 0) (w 1) z) (same 2 (omega (arith, three)))
uncoloured_same v w n (suc (suc zero)) three lt same = ap (λ z. i2_of z (v 1) (v 2)) (same 0 (omega (arith, three))) ∙ ap (λ z. i2_of (w 0) z (v 2)) (same 1 (omega (arith, three))) ∙ ap (λ z. i2_of (w 0) (w 1) z) (same 2 (omega (arith, three)))
uncoloured_same v w n (suc (suc (suc c))) three lt same = same (suc (suc (suc c))) lt
