-- The components of a tile.
use Rattle.std.proofs.Common.{◌≡◌, ℕ, zero, suc, ◌+◌, ◌-◌, ◌*◌, ◌^◌, ◌<◌, ◌≤◌, List, [], ◌∷◌, ◌++◌, length, map, get_or, sum_by, All, Result, Ok, Err, ℤ, refl, sym, ap, subst, ◌∙◌, inl, inr, arith}
use Rattle.std.specs.List.{AllByRecursion, range_with_len}
use Rattle.std.proofs.Math.Nat.{mul-le-mul_right}
use Rattle.std.proofs.lemmas.Bool.{cases_eq}
use Rattle.std.proofs.lemmas.List.Sums.{sum_by-cons}
use Rattle.jk_math.specs.declared.rect.Rect.{Rect}
use Rattle.jk_math.specs.Raster.{raster}
use Rattle.jk_marks.specs.declared.coding.Coding.{Coding}
use Rattle.jk_marks.specs.Siz.{tile_count}
use Rattle.jk_marks.specs.Coding.{IsCoding}
use Rattle.jk_geom.specs.Rectangles.{IsArea, ceil_div, tile_area, resolution_area}
use Rattle.jk_geom.specs.Precincts.{precinct_number}
use Rattle.jk_geom.specs.Counts.{precincts_below}
use Rattle.jk_geom.specs.TileShapes.{coding_of, no_coding}
use Rattle.jk_geom.proofs.Laws.{precincts_of, below_more, number_is}
use Rattle.jk_params.specs.Coding.{HasPlanes}
use Rattle.jk_params.specs.Headers.{Headers, tile_in, AreHeaders}
use Rattle.jk_params.proofs.Laws.{part_of_total, packets_in}
use Rattle.jk_walk.specs.declared.places.PacketPlace.{PacketPlace}
use Rattle.jk_walk.specs.WalkReading.{place_end}
use Rattle.jk_tile.specs.TileMeaning.{shown_area, values_of}
use Rattle.std.specs.Global.{Vec}
use Rattle.std.proofs.lemmas.List.{map-append, get_or_default}
use Rattle.std.proofs.lemmas.List.Elements.{All-nil}
use Rattle.jk_math.specs.Answer.{◌>>=◌}
use Rattle.jk_math.specs.Lists.{lists_of, list_at}
use Rattle.jk_math.specs.Signed.{IsBelow}
use Rattle.jk_math.specs.declared.fault.Fault.{Fault}
use Rattle.jk_tile.specs.Filling.{IsPartOf}
use Rattle.jk_tile.specs.decoding.TileReading.{each, bodies_of, region_of, component_part_tested, coefficient_at, component_values, part_values_at}
use Rattle.jk_tile.specs.decoding.Source.{Source, IsSource, source_values}
use Rattle.jk_tile.proofs.Steps.{fine, bind_ok, bind_err}
use Rattle.jk_tile.proofs.AllBands.{range_join, value_then, fault_then}

-- ---- a component is sound

-- the precincts of a resolution are among all
below_each : (a : Rect) (k : Coding) (n r : ℕ) → r < n → precinct_number a k r ≤ precincts_below a k n
below_each a k zero r lt = absurd (omega (arith, lt))
below_each a k (suc n) r lt = elim (cases_eq r n) [
  | inl same ↦ omega (arith, below_more a k n, ap (precinct_number a k) same)
  | inr other ↦ let h = below_each a k n r (omega (arith, lt, other)) in omega (arith, below_more a k n, h)
]

-- and those of a component among those of all components
pub sum_each : (a : Rect) (codings : List Coding) (c : ℕ) → c < length codings → precincts_of a (coding_of codings c) ≤ sum_by (λ k. precincts_of a k) codings
sum_each a [] c lt = absurd (omega (arith, lt))
sum_each a (k ∷ codings) zero lt = omega (arith, sum_by-cons (λ k. precincts_of a k) k codings)
sum_each a (k ∷ codings) (suc c) lt = let h = sum_each a codings c (omega (arith, lt)) in omega (arith, h, sum_by-cons (λ k. precincts_of a k) k codings)

all_read : {X : Type 0} (P : X → Type 0) (d : X) (xs : List X) (i : ℕ) → AllByRecursion P xs → i < length xs → P (get_or xs i d)
all_read P d [] i all lt = absurd (omega (arith, lt))
all_read P d (x ∷ xs) zero all lt = all.0
all_read P d (x ∷ xs) (suc i) all lt = all_read P d xs i all.1 (omega (arith, lt))

few_precincts : (size : ℕ) (h : Headers) (t c r : ℕ) → AreHeaders size h → t < tile_count h.siz → c < length (tile_in h.tiles t).codings
    → r ≤ (coding_of (tile_in h.tiles t).codings c).levels → precinct_number (tile_area h.siz t) (coding_of (tile_in h.tiles t).codings c) r ≤ 2 ^ 24
few_precincts size h t c r is lt few le =
    let f = tile_in h.tiles t in
    let a = tile_area h.siz t in
    let k = coding_of f.codings c in
    let some = (is.each t lt).some_layers in
    let total = part_of_total (packets_in h) (tile_count h.siz) t lt in
    let one = below_each a k (k.levels + 1) r (omega (arith, le)) in
    let all = sum_each a f.codings c few in
    let layered : 1 * sum_by (λ (j : Coding). precincts_of a j) f.codings ≤ f.cod.layers * sum_by (λ (j : Coding). precincts_of a j) f.codings = mul-le-mul_right _ some in
    omega (arith, one, all, layered, number_is a f.cod.layers f.codings, total, is.few)

-- the levels of a component
pub levels_read : (codings : List Coding) (c d : ℕ) (coding : Coding) → AllByRecursion (λ k. d ≤ k.levels) codings → c < length codings → coding ≡ coding_of codings c → d ≤ coding.levels
levels_read codings c d coding all lt e = subst (λ (k : Coding). d ≤ k.levels) (sym e) (all_read (λ k. d ≤ k.levels) no_coding codings c all lt)

-- the part of a tile that a reduced image has is a resolution of it
pub shown_is : (a : Rect) (levels d : ℕ) → d ≤ levels → resolution_area a levels (levels - d) ≡ resolution_area a d 0
unfolding resolution_area
shown_is a levels d le =
    let e : levels - (levels - d) ≡ d - 0 = omega (arith, le) in
    ap (λ n. record { x0 = ceil_div a.x0 (2 ^ n); y0 = ceil_div a.y0 (2 ^ n); x1 = ceil_div a.x1 (2 ^ n); y1 = ceil_div a.y1 (2 ^ n) }) e

-- the part u of component c, d resolutions below its highest
abbrev pub source_of : List ℕ → Rect → Coding → (d : ℕ) → Rect → List PacketPlace → ℕ → Source
source_of bytes a k d u places c = record { bytes = bytes; region = region_of a k d u; coding = k; packets = places; component = c }

pub source_is : (bytes : List ℕ) (h : Headers) (t c d : ℕ) (rect u : Rect) (coding : Coding) (places : List PacketPlace) → AreHeaders (length bytes) h → t < tile_count h.siz → c < length (tile_in h.tiles t).codings
    → IsArea rect → rect ≡ tile_area h.siz t → coding ≡ coding_of (tile_in h.tiles t).codings c → d ≤ coding.levels → IsPartOf u (shown_area h.siz t d) → length bytes < 2 ^ 64 → AllByRecursion (λ w. place_end w ≤ length bytes) places
    → IsSource (source_of bytes rect coding d u places c)
source_is bytes h t c d rect u coding places is lt few area er ec le inside fits ends =
    let f = is.each t lt in
    let coded = subst IsCoding (sym ec) (f.codings.each c few) in
    record {
      region = record {
        rect = area;
        levels = coded.levels;
        top = omega arith;
        inside = subst (λ (a : Rect). IsPartOf u (resolution_area a coding.levels (coding.levels - d))) (sym er) (subst (IsPartOf u) (sym (shown_is (tile_area h.siz t) coding.levels d le)) inside);
      };
      levels = refl;
      coding = coded;
      planes = subst HasPlanes (sym ec) (all_read HasPlanes no_coding (tile_in h.tiles t).codings c f.planes few);
      precincts = λ r le.
          let due = few_precincts (length bytes) h t c r is lt few (subst (λ (k : Coding). r ≤ k.levels) ec le) in
          subst (λ (a : Rect). precinct_number a coding r ≤ 2 ^ 24) (sym er) (subst (λ (k : Coding). precinct_number (tile_area h.siz t) k r ≤ 2 ^ 24) (sym ec) due);
      fits = fits;
      ends = ends;
    }

-- ---- its values

source_by : (bytes : List ℕ) (a : Rect) (k : Coding) (d : ℕ) (u : Rect) (places : List PacketPlace) (c : ℕ) → source_values (source_of bytes a k d u places c)
    ≡ (component_part_tested a k d u (bodies_of bytes places c) >>= λ _. Ok (raster u (values_of a k d (coefficient_at a k (bodies_of bytes places c)))))
unfolding source_values component_part_tested
source_by bytes a k d u places c = refl

-- the source of a component that was read
pub source_here : (bytes : List ℕ) (h : Headers) (t d c : ℕ) (rect u : Rect) (coding : Coding) (places : List PacketPlace) → rect ≡ tile_area h.siz t → coding ≡ coding_of (tile_in h.tiles t).codings c
    → source_of bytes rect coding d u places c ≡ source_of bytes (tile_area h.siz t) (coding_of (tile_in h.tiles t).codings c) d u places c
source_here bytes h t d c rect u coding places er ec =
    ap (λ (a : Rect). source_of bytes a coding d u places c) er ∙ ap (λ (k : Coding). source_of bytes (tile_area h.siz t) k d u places c) ec

pub component_then : (bytes : List ℕ) (h : Headers) (t d c : ℕ) (rect u : Rect) (coding : Coding) (places : List PacketPlace) (s : Source) (values : List ℤ) → s ≡ source_of bytes rect coding d u places c
    → rect ≡ tile_area h.siz t → coding ≡ coding_of (tile_in h.tiles t).codings c → source_values s ≡ Ok values
    → (component_part_tested (tile_area h.siz t) (coding_of (tile_in h.tiles t).codings c) d u (bodies_of bytes places c) ≡ fine) × (values ≡ raster u (component_values bytes h t d places c))
component_then bytes h t d c rect u coding places s values es er ec e =
    let a = tile_area h.siz t in
    let k = coding_of (tile_in h.tiles t).codings c in
    value_then (component_part_tested a k d u (bodies_of bytes places c)) (raster u (component_values bytes h t d places c)) values
    (sym (source_by bytes a k d u places c) ∙ ap source_values (sym (es ∙ source_here bytes h t d c rect u coding places er ec)) ∙ e)

pub component_not : (bytes : List ℕ) (h : Headers) (t d c : ℕ) (rect u : Rect) (coding : Coding) (places : List PacketPlace) (s : Source) (e : Fault) → s ≡ source_of bytes rect coding d u places c
    → rect ≡ tile_area h.siz t → coding ≡ coding_of (tile_in h.tiles t).codings c → source_values s ≡ Err e
    → component_part_tested (tile_area h.siz t) (coding_of (tile_in h.tiles t).codings c) d u (bodies_of bytes places c) ≡ Err e
component_not bytes h t d c rect u coding places s e es er ec is =
    let a = tile_area h.siz t in
    let k = coding_of (tile_in h.tiles t).codings c in
    fault_then (component_part_tested a k d u (bodies_of bytes places c)) (raster u (component_values bytes h t d places c)) e
    (sym (source_by bytes a k d u places c) ∙ ap source_values (sym (es ∙ source_here bytes h t d c rect u coding places er ec)) ∙ is)

-- ---- one component more

pub range_push : (n : ℕ) → range_with_len 0 (n + 1) ≡ range_with_len 0 n ++ n ∷ []
range_push n = let z : 0 + n ≡ n = omega arith in range_join 0 n 1 ∙ ap (λ k. range_with_len 0 n ++ k ∷ []) z

pub lists_push : (f : ℕ → List ℤ) (n : ℕ) (old new : List (Vec ℤ)) (v : Vec ℤ) → lists_of old ≡ map f (range_with_len 0 n) → new ≡ old ++ v ∷ [] → v.items ≡ f n → lists_of new ≡ map f (range_with_len 0 (n + 1))
lists_push f n old new v eo e ev =
    ap lists_of e ∙ map-append (λ (w : Vec ℤ). w.items) old (v ∷ []) ∙ ap (λ (ls : List (List ℤ)). ls ++ v.items ∷ []) eo ∙ ap (λ (l : List ℤ). map f (range_with_len 0 n) ++ l ∷ []) ev
    ∙ sym (map-append f (range_with_len 0 n) (n ∷ [])) ∙ ap (map f) (sym (range_push n))

pub small_push : (m : ℕ) (xs : List (Vec ℤ)) (v : Vec ℤ) → ((c : ℕ) → All (IsBelow m) (list_at xs c)) → All (IsBelow m) v.items → (c : ℕ) → All (IsBelow m) (list_at (xs ++ v ∷ []) c)
small_push m [] v hx hv zero = hv
small_push m [] v hx hv (suc c) = All-nil (IsBelow m)
small_push m (x ∷ xs) v hx hv zero = hx 0
small_push m (x ∷ xs) v hx hv (suc c) = small_push m xs v (λ k. hx (suc k)) hv c

-- all components of a part
abbrev pub parts_tested : List ℕ → Headers → (t d : ℕ) → Rect → List PacketPlace → ℕ → Result (Unit {0}) Fault
parts_tested bytes h t d u places n = each n (λ c. component_part_tested (tile_area h.siz t) (coding_of (tile_in h.tiles t).codings c) d u (bodies_of bytes places c))

pub values_by : (bytes : List ℕ) (h : Headers) (t d : ℕ) (u : Rect) (places : List PacketPlace) → part_values_at bytes h t d u places
    ≡ (parts_tested bytes h t d u places h.siz.components >>= λ _. Ok (map (λ c. raster u (component_values bytes h t d places c)) (range_with_len 0 h.siz.components)))
unfolding part_values_at
values_by bytes h t d u places = refl

pub values_fine : (bytes : List ℕ) (h : Headers) (t d : ℕ) (u : Rect) (places : List PacketPlace) → parts_tested bytes h t d u places h.siz.components ≡ fine
    → part_values_at bytes h t d u places ≡ Ok (map (λ c. raster u (component_values bytes h t d places c)) (range_with_len 0 h.siz.components))
values_fine bytes h t d u places e = values_by bytes h t d u places ∙ bind_ok _ _ tt e

pub values_err : (bytes : List ℕ) (h : Headers) (t d : ℕ) (u : Rect) (places : List PacketPlace) (e : Fault) → parts_tested bytes h t d u places h.siz.components ≡ Err e
    → part_values_at bytes h t d u places ≡ Err e
values_err bytes h t d u places e is = values_by bytes h t d u places ∙ bind_err _ _ e is

-- the coding that is read
pub coding_read : (codings lent : List Coding) (c : ℕ) (k : Coding) → lent ≡ codings → c < length codings → k ≡ get_or lent c k → k ≡ coding_of codings c
coding_read codings lent c k e lt is = is ∙ ap (λ (ks : List Coding). get_or ks c k) e ∙ get_or_default codings c k no_coding lt
