-- Main headers of the profile, the codings of components that are read with them, and tiles whose packets can be counted.
use Rattle.std.proofs.Common.{◌≡◌, ℕ, zero, suc, ◌+◌, ◌^◌, ◌<◌, ◌≤◌, min, Bool, true, false, cond, eqb, List, [], ◌∷◌, ◌++◌, length, get_or, set, replicate, drop, Option, None, Some, Ok, refl, sym, ap, subst, ◌∙◌, arith, lit≤, inl, inr}
use Rattle.std.specs.Prelude.{option_map}
use Rattle.std.specs.List.{AllByRecursion}
use Rattle.std.proofs.lemmas.Bool.{eqb-true, eqb-false, ne_eqb}
use Rattle.std.proofs.lemmas.List.{length-append, length-set, length-replicate, get_or-replicate, get_or-set_same, get_or-set_other}
use Rattle.jk_math.specs.Steps.{bind_then, chosen, ok_is}
use Rattle.jk_math.specs.Answer.{◌>>=◌}
use Rattle.jk_marks.specs.declared.siz.Siz.{Siz}
use Rattle.jk_marks.specs.declared.coding.Coding.{Coding}
use Rattle.jk_marks.specs.declared.segments.Cod.{Cod}
use Rattle.jk_marks.specs.declared.segments.CodingStyle.{CodingStyle}
use Rattle.jk_marks.specs.declared.segments.Quantisation.{Quantisation}
use Rattle.jk_marks.specs.declared.head.Heading.{Heading}
use Rattle.jk_marks.specs.declared.head.Heading.TheVariants.{MainHeader}
use Rattle.jk_marks.specs.declared.head.TileHead.{TileHead}
use Rattle.jk_marks.specs.declared.main_header.Main.{Main}
use Rattle.jk_marks.specs.declared.tile_part.TilePart.{TilePart}
use Rattle.jk_marks.specs.Coding.{IsCoding}
use Rattle.jk_marks.specs.Segments.{Segment, CodSegment, CocSegment, QcdSegment, QccSegment, Passed, Alone, IsSegment, IsCod, IsStyle, ArePrecincts, cods, cocs_of}
use Rattle.jk_marks.specs.Codestream.{first, head_of, main_of, or_else, no_coding, given_for, ForGiven, IsMain, heading_of}
use Rattle.jk_marks.specs.HeaderReading.{part_at}
use Rattle.jk_math.proofs.Laws.{AreBytes, are_bytes_after}
use Rattle.jk_marks.proofs.Laws.{found_part}
use Rattle.jk_geom.specs.TileShapes.{AreCodings}
use Rattle.jk_params.specs.Coding.{coding_with}
use Rattle.jk_params.specs.CodingReading.{style_in as own_style, quantisation_in, coding_at, codings_from, codings_at, HaveStyles}
use Rattle.jk_params.specs.Headers.{TileFields, tile_in, no_fields}
use Rattle.jk_params.specs.HeadersReading.{AreCountable, IsProfileMain, ends_at, parts_seen, tiles_with, parts_from, with_place, with_coding, place_at}
use Rattle.jk_params.proofs.CodingLaws.{planes_found, few_exponents}

-- a number of layers that COD may say
abbrev pub HasLayers : Cod → Type 0
HasLayers c = (1 ≤ c.layers) × (c.layers < 2 ^ 16)

-- what holds of each holds at each place
pub all_at : {X : Type 0} (P : X → Type 0) (d : X) (xs : List X) → AllByRecursion P xs → (i : ℕ) → i < length xs → P (get_or xs i d)
all_at P d [] h i lt = absurd (omega (arith, lt))
all_at P d (x ∷ xs) h zero lt = h.0
all_at P d (x ∷ xs) h (suc i) lt = all_at P d xs h.1 i (omega (arith, lt))

pub first_all : {X : Type 0} (P : X → Type 0) (xs : List X) → AllByRecursion P xs → ForGiven P (first xs)
first_all P [] h = tt
first_all P (x ∷ xs) h = h.0

pub all_mapped : {X Y : Type 0} (P : Y → Type 0) (f : X → Y) (Q : X → Type 0) → ((x : X) → Q x → P (f x)) → (xs : List X) → AllByRecursion Q xs → AllByRecursion (λ x. P (f x)) xs
all_mapped P f Q go [] h = tt
all_mapped P f Q go (x ∷ xs) h = (go x h.0, all_mapped P f Q go xs h.1)

given_all : {X : Type 0} (P : X → Type 0) (xs : List (Option X)) → AllByRecursion (ForGiven P) xs → (i : ℕ) → ForGiven P (given_for xs i)
given_all P [] h i = tt
given_all P (x ∷ xs) h zero = h.0
given_all P (x ∷ xs) h (suc i) = given_all P xs h.1 i

pub or_holds : {X : Type 0} (P : X → Type 0) (d : X) (o : Option X) → P d → ForGiven P o → P (or_else d o)
or_holds P d None p h = p
or_holds P d (Some x) p h = h

for_mapped : {X Y : Type 0} (P : Y → Type 0) (f : X → Y) (o : Option X) → ForGiven (λ x. P (f x)) o → ForGiven P (option_map f o)
for_mapped P f None h = tt
for_mapped P f (Some x) h = h

cond_all : {X : Type 0} (P : X → Type 0) (b : Bool) (k : X) (rest : List X) → P k → AllByRecursion P rest → AllByRecursion P (cond b (k ∷ []) [] ++ rest)
cond_all P true k rest h hs = (h, hs)
cond_all P false k rest h hs = hs

-- the COD among segments are such
pub cods_are : (heading : Heading) (n : ℕ) (ss : List Segment) → AllByRecursion (IsSegment heading n) ss → AllByRecursion (IsCod n) (cods ss)
cods_are heading n [] h = tt
cods_are heading n (CodSegment c ∷ ss) h = (h.0.1, cods_are heading n ss h.1)
cods_are heading n (CocSegment i k ∷ ss) h = cods_are heading n ss h.1
cods_are heading n (QcdSegment q ∷ ss) h = cods_are heading n ss h.1
cods_are heading n (QccSegment i q ∷ ss) h = cods_are heading n ss h.1
cods_are heading n (Passed m bytes ∷ ss) h = cods_are heading n ss h.1
cods_are heading n (Alone m ∷ ss) h = cods_are heading n ss h.1

-- the COC likewise
pub styles_are : (heading : Heading) (n i : ℕ) (ss : List Segment) → AllByRecursion (IsSegment heading n) ss → AllByRecursion IsStyle (cocs_of i ss)
styles_are heading n i [] h = tt
styles_are heading n i (CodSegment c ∷ ss) h = styles_are heading n i ss h.1
styles_are heading n i (CocSegment j k ∷ ss) h = cond_all IsStyle (eqb i j) k (cocs_of i ss) h.0.2 (styles_are heading n i ss h.1)
styles_are heading n i (QcdSegment q ∷ ss) h = styles_are heading n i ss h.1
styles_are heading n i (QccSegment j q ∷ ss) h = styles_are heading n i ss h.1
styles_are heading n i (Passed m bytes ∷ ss) h = styles_are heading n i ss h.1
styles_are heading n i (Alone m ∷ ss) h = styles_are heading n i ss h.1

pub no_style : IsStyle no_coding.style
no_style = record {
  levels = lit≤ tt;
  narrow = lit≤ tt;
  wide = lit≤ tt;
  low = lit≤ tt;
  high = lit≤ tt;
  area = lit≤ tt;
  precincts = record { count = inl refl; small = tt; whole = tt };
}

pub cod_style : (n : ℕ) (ss : List Segment) → AllByRecursion (IsCod n) (cods ss) → AllByRecursion (λ (c : Cod). IsStyle c.style) (cods ss)
cod_style n ss h = all_mapped IsStyle (λ (c : Cod). c.style) (IsCod n) (λ c is. is.style) (cods ss) h

pub cod_layers : (n : ℕ) (ss : List Segment) → AllByRecursion (IsCod n) (cods ss) → AllByRecursion HasLayers (cods ss)
cod_layers n ss h = all_mapped HasLayers (λ (c : Cod). c) (IsCod n) (λ c is. (is.some_layers, is.few_layers)) (cods ss) h

given_four : (f : ℕ → Option CodingStyle) → ((i : ℕ) → ForGiven IsStyle (f i)) → AllByRecursion (ForGiven IsStyle) (f 0 ∷ f 1 ∷ f 2 ∷ f 3 ∷ [])
given_four f h = (h 0, (h 1, (h 2, (h 3, tt))))

pub head_cods : (heading : Heading) (n : ℕ) (ss : List Segment) → AllByRecursion (IsSegment heading n) ss → ForGiven HasLayers (head_of ss).cod
head_cods heading n ss h = first_all HasLayers (cods ss) (cod_layers n ss (cods_are heading n ss h))

-- the coding styles of what is kept of well-formed segments
pub styles_kept : (heading : Heading) (n : ℕ) (main : Main) (ss : List Segment) → IsStyle main.cod.style → AllByRecursion (ForGiven IsStyle) main.coc → AllByRecursion (IsSegment heading n) ss
    → HaveStyles main (head_of ss)
styles_kept heading n main ss cod coc h = record {
  main_cod = cod;
  main_coc = coc;
  head_cod = first_all (λ (c : Cod). IsStyle c.style) (cods ss) (cod_style n ss (cods_are heading n ss h));
  head_coc = given_four (λ i. first (cocs_of i ss)) (λ i. first_all IsStyle (cocs_of i ss) (styles_are heading n i ss h));
}

pub good_main : (siz : Siz) (segments : List Segment) → IsMain siz segments → IsProfileMain (main_of siz segments)
good_main siz segments is =
    let n = siz.components in
    let each = is.well_formed.each in
    let every_cod = cods_are MainHeader n segments each in
    let cod = or_holds (λ (c : Cod). IsStyle c.style) no_coding (first (cods segments)) no_style (first_all (λ (c : Cod). IsStyle c.style) (cods segments) (cod_style n segments every_cod)) in
    let coc = given_four (λ i. first (cocs_of i segments)) (λ i. first_all IsStyle (cocs_of i segments) (styles_are MainHeader n i segments each)) in
    record {
      siz = is.size;
      layers = (or_holds HasLayers no_coding (first (cods segments)) (lit≤ tt, lit≤ tt) (head_cods MainHeader n segments each)).0;
      styles = styles_kept MainHeader n (main_of siz segments) [] cod coc tt;
    }

-- a precinct size for each resolution
record Fill (levels : ℕ) (xs : List (ℕ × ℕ)) : Type 0 where
  count : length xs ≡ levels + 1
  small : (r : ℕ) → r ≤ levels → ((get_or xs r (0, 0)).0 < 16) × ((get_or xs r (0, 0)).1 < 16)
  whole : (r : ℕ) → 0 < r → r ≤ levels → (0 < (get_or xs r (0, 0)).0) × (0 < (get_or xs r (0, 0)).1)

greatest_fill : (levels n : ℕ) → n ≡ levels + 1 → Fill levels (replicate n (15, 15))
greatest_fill levels n e =
    let same : (r : ℕ) → r ≤ levels → get_or (replicate n (15, 15)) r (0, 0) ≡ (15, 15) = λ r le. get_or-replicate n r (15, 15) (0, 0) (omega (arith, le, e)) in
    record {
      count = length-replicate n (15, 15) ∙ e;
      small = λ r le. subst (λ (p : ℕ × ℕ). (p.0 < 16) × (p.1 < 16)) (sym (same r le)) (lit≤ tt, lit≤ tt);
      whole = λ r lt le. subst (λ (p : ℕ × ℕ). (0 < p.0) × (0 < p.1)) (sym (same r le)) (lit≤ tt, lit≤ tt);
    }

whole_at : (p : ℕ × ℕ) (ps : List (ℕ × ℕ)) → AllByRecursion (λ (q : ℕ × ℕ). (0 < q.0) × (0 < q.1)) ps → (r : ℕ) → 0 < r → r < suc (length ps)
    → (0 < (get_or (p ∷ ps) r (0, 0)).0) × (0 < (get_or (p ∷ ps) r (0, 0)).1)
whole_at p ps h zero lt le = absurd (omega (arith, lt))
whole_at p ps h (suc r) lt le = all_at (λ (q : ℕ × ℕ). (0 < q.0) × (0 < q.1)) (0, 0) ps h r (omega (arith, le))

precincts_fill : (levels : ℕ) (ps : List (ℕ × ℕ)) → levels ≤ 10 → ArePrecincts levels ps → Fill levels (cond (eqb (length ps) 0) (replicate (min (levels + 1) 11) (15, 15)) ps)
precincts_fill levels [] le are = greatest_fill levels (min (levels + 1) 11) (omega (arith, le))
precincts_fill levels (p ∷ ps) le are =
    let len : suc (length ps) ≡ levels + 1 = elim are.count [ inl e ↦ absurd cc | inr e ↦ e ] in
    let given : eqb (length (p ∷ ps)) 0 ≡ false = ne_eqb (length (p ∷ ps)) 0 (omega arith) in
    let fill : Fill levels (p ∷ ps) = record {
      count = len;
      small = λ r le. all_at (λ (q : ℕ × ℕ). (q.0 < 16) × (q.1 < 16)) (0, 0) (p ∷ ps) are.small r (omega (arith, le, len));
      whole = λ r lt le. whole_at p ps are.whole r lt (omega (arith, le, len));
    } in
    subst (λ b. Fill levels (cond b (replicate (min (levels + 1) 11) (15, 15)) (p ∷ ps))) (sym given) fill

-- a coding is such where its style is
pub coding_is : (k : CodingStyle) (q : Quantisation) → IsStyle k → IsCoding (coding_with k q)
coding_is k q is =
    let fill = precincts_fill k.levels k.precincts is.levels is.precincts in
    record {
      levels = is.levels;
      narrow = is.narrow;
      wide = is.wide;
      low = is.low;
      high = is.high;
      area = is.area;
      count = fill.count;
      small = fill.small;
      whole = fill.whole;
    }

pub style_is : (main : Main) (head : TileHead) (i : ℕ) → HaveStyles main head → IsStyle (own_style main head i)
style_is main head i h =
    let one = or_holds IsStyle main.cod.style (given_for main.coc i) h.main_cod (given_all IsStyle main.coc h.main_coc i) in
    let two = or_holds IsStyle (or_else main.cod.style (given_for main.coc i)) (option_map (λ (c : Cod). c.style) head.cod) one (for_mapped IsStyle (λ (c : Cod). c.style) head.cod h.head_cod) in
    or_holds IsStyle _ (given_for head.coc i) two (given_all IsStyle head.coc h.head_coc i)

pub all_more : {X : Type 0} (P : X → Type 0) (xs : List X) (x : X) → AllByRecursion P xs → P x → AllByRecursion P (xs ++ x ∷ [])
all_more P [] x h p = (p, tt)
all_more P (y ∷ xs) x h p = (h.0, all_more P xs x h.1 p)

codings_are : (main : Main) (head : TileHead) (more c : ℕ) (done ks : List Coding) → HaveStyles main head → AllByRecursion IsCoding done → codings_from main head more c done ≡ Ok ks
    → AllByRecursion IsCoding ks × (length ks ≡ length done + more)
unfolding codings_from
codings_are main head zero c done ks h all e =
    let same = ok_is done ks e in
    (subst (λ (xs : List Coding). AllByRecursion IsCoding xs) same all, omega (arith, ap (λ (xs : List Coding). length xs) same))
codings_are main head (suc more) c done ks h all e =
    bind_then (coding_at main (Some head) c) (λ k. codings_from main head more (c + 1) (done ++ k ∷ [])) ks e (λ k s e.
    let style = own_style main head c in
    let steps = quantisation_in main head c in
    let g = planes_found (coding_with style steps) k (few_exponents style steps) s in
    let is : IsCoding k = subst IsCoding (sym g.0) (coding_is style steps (style_is main head c h)) in
    let rest = codings_are main head more (c + 1) (done ++ k ∷ []) ks h (all_more IsCoding done k all is) e in
    (rest.0, omega (arith, rest.1, length-append done (k ∷ []))))

pub good_codings : (main : Main) (head : TileHead) (ks : List Coding) → 1 ≤ main.siz.components → main.siz.components ≤ 4 → HaveStyles main head → codings_at main head ≡ Ok ks
    → AreCodings ks × (length ks ≡ main.siz.components)
good_codings main head ks some few h e =
    let g = codings_are main head main.siz.components 0 [] ks h tt e in
    let len : length ks ≡ main.siz.components = omega (arith, g.1) in
    (record { some = omega (arith, len, some); few = omega (arith, len, few); each = λ c lt. all_at IsCoding _ ks g.0 c lt }, len)

set_counted : (tiles : List TileFields) (i : ℕ) (x : TileFields) → AreCountable tiles → (i < length tiles → (1 ≤ x.cod.layers) × AreCodings x.codings) → AreCountable (set tiles i x)
set_counted tiles i x h new t lt = go (eqb t i) refl
  where
    within : t < length tiles
    within = omega (arith, lt, length-set tiles i x)

    go : (b : Bool) → eqb t i ≡ b → (1 ≤ (tile_in (set tiles i x) t).cod.layers) × AreCodings (tile_in (set tiles i x) t).codings
    go true e =
        let at : t ≡ i = eqb-true t i e in
        let inside : i < length tiles = omega (arith, within, at) in
        let here : tile_in (set tiles i x) t ≡ x = ap (λ k. tile_in (set tiles i x) k) at ∙ get_or-set_same tiles i x no_fields inside in
        subst (λ (f : TileFields). (1 ≤ f.cod.layers) × AreCodings f.codings) (sym here) (new inside)
    go false e =
        let here : tile_in (set tiles i x) t ≡ tile_in tiles t = get_or-set_other tiles i t x no_fields (eqb-false t i e) in
        subst (λ (f : TileFields). (1 ≤ f.cod.layers) × AreCodings f.codings) (sym here) (h t within)

pub tiles_counted : (main : Main) (at : ℕ) (part : TilePart) (tiles more : List TileFields) → IsProfileMain main → HaveStyles main part.head → ForGiven HasLayers part.head.cod
    → AreCountable tiles → tiles_with main at part tiles ≡ Ok more → AreCountable more × (length more ≡ length tiles)
unfolding tiles_with
tiles_counted main at part tiles more good styles layers h e =
    let t = part.tile in
    let old = tile_in tiles t in
    let place = place_at at part in
    let cod = or_else main.cod part.head.cod in
    let new : List Coding → TileFields = λ ks. with_place (with_coding old cod ks) place in
    elim (chosen (eqb part.part 0) (codings_at main part.head >>= λ ks. Ok (set tiles t (new ks))) (Ok (set tiles t (with_place old place))) (Ok more) e) [
      | inl w ↦
          bind_then (codings_at main part.head) (λ ks. Ok (set tiles t (new ks))) more w.1 (λ ks s e.
          let same : set tiles t (new ks) ≡ more = ok_is _ more e in
          let are = good_codings main part.head ks good.siz.some_components good.siz.few_components styles s in
          let some : 1 ≤ cod.layers = or_holds (λ (c : Cod). 1 ≤ c.layers) main.cod part.head.cod good.layers (some_layers part.head.cod layers) in
          (subst AreCountable same (set_counted tiles t (new ks) h (λ _. (some, are.0))), sym (ap (λ (x : List TileFields). length x) same) ∙ length-set tiles t (new ks)))
      | inr w ↦
          let same : set tiles t (with_place old place) ≡ more = ok_is _ more w.1 in
          (subst AreCountable same (set_counted tiles t (with_place old place) h (λ lt. h t lt)), sym (ap (λ (x : List TileFields). length x) same) ∙ length-set tiles t (with_place old place))
    ]
  where
    some_layers : (o : Option Cod) → ForGiven HasLayers o → ForGiven (λ (c : Cod). 1 ≤ c.layers) o
    some_layers None h = tt
    some_layers (Some c) h = h.0

pub counted_parts : (k : ℕ) (main : Main) (bytes : List ℕ) (at : ℕ) (tiles out : List TileFields) → AreBytes bytes → IsProfileMain main → AreCountable tiles → parts_from k main bytes at tiles ≡ Ok out
    → AreCountable out × (length out ≡ length tiles)
unfolding parts_from
counted_parts zero main bytes at tiles out fits good h e = absurd cc
counted_parts (suc k) main bytes at tiles out fits good h e =
    bind_then (part_at main.siz (parts_seen tiles) (drop at bytes)) _ out e (λ part s1 e.
    bind_then (tiles_with main at part tiles) _ out e (λ more s2 e.
    bind_then (ends_at bytes (at + part.end)) _ out e (λ ends s3 e.
    let g = found_part main.siz (parts_seen tiles) (drop at bytes) part good.siz.few_components (are_bytes_after at bytes fits) s1 in
    let p = g.0 in
    let n = main.siz.components in
    let heading = heading_of p.number in
    let each = g.1.well_formed.each in
    let head-is : part.head ≡ head_of p.segments = ap (λ (x : TilePart). x.head) g.4 in
    let styles : HaveStyles main part.head = subst (λ (x : TileHead). HaveStyles main x) (sym head-is) (styles_kept heading n main p.segments good.styles.main_cod good.styles.main_coc each) in
    let layers = subst (λ (x : TileHead). ForGiven HasLayers x.cod) (sym head-is) (head_cods heading n p.segments each) in
    let now = tiles_counted main at part tiles more good styles layers h s2 in
    elim (chosen ends (Ok more) (parts_from k main bytes (at + part.end) more) (Ok out) e) [
      | inl w ↦
          let same : more ≡ out = ok_is more out w.1 in
          (subst AreCountable same now.0, sym (ap (λ (x : List TileFields). length x) same) ∙ now.1)
      | inr w ↦
          let rest = counted_parts k main bytes (at + part.end) more out fits good now.0 w.1 in
          (rest.0, rest.1 ∙ now.1)
    ])))
