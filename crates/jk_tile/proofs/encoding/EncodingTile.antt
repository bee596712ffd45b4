-- The tables of a tile that is written are those of the image, and there are few packets.
use Rattle.std.proofs.Common.{◌≡◌, ℕ, zero, suc, ◌+◌, ◌^◌, ◌<◌, ◌≤◌, Bool, List, [], ◌∷◌, ◌++◌, length, map, get_or, replicate, ℤ, refl, sym, ap, subst, ◌∙◌, arith}
use Rattle.std.specs.List.{AllByRecursion, flat_map, range_with_len}
use Rattle.std.specs.Global.{Vec}
use Rattle.std.proofs.lemmas.List.{get_or-replicate, length-replicate}
use Rattle.std.proofs.lemmas.List.FromFn.{length-map-range_with_len, get_or-map-range_with_len}
use Rattle.jk_math.specs.declared.rect.Rect.{Rect}
use Rattle.jk_math.specs.Picture.{Picture, IsPicture}
use Rattle.jk_marks.specs.declared.coding.Coding.{Coding}
use Rattle.jk_marks.specs.Coding.{IsCoding}
use Rattle.jk_marks.specs.Siz.{tile_count}
use Rattle.jk_geom.specs.declared.shape.TileShape.{TileShape}
use Rattle.jk_geom.specs.declared.shape.PacketName.{PacketName}
use Rattle.jk_geom.specs.Rectangles.{tile_area}
use Rattle.jk_geom.specs.Precincts.{precinct_number}
use Rattle.jk_geom.specs.Counts.{precincts_below, packet_number}
use Rattle.jk_geom.specs.TileShapes.{coding_of, IsTileShape}
use Rattle.jk_order.specs.PacketOrder.{IsName, IsPrecinct, order, packet_count}
use Rattle.jk_order.proofs.Laws.{order_is}
use Rattle.jk_packet.specs.Written.{Table, AreTables, banded}
use Rattle.jk_packet.proofs.Laws.{banded_joined, joined_count}
use Rattle.jk_params.specs.declared.parameters.Parameters.{Parameters}
use Rattle.jk_params.specs.Coding.{HasPlanes}
use Rattle.jk_params.specs.Profile.{siz_of, cod_of, coding_for, IsWrittenBy}
use Rattle.jk_params.proofs.Laws.{part_of_total, tile_same}
use Rattle.jk_walk.specs.TilePackets.{bands_at}
use Rattle.jk_walk.proofs.Laws.{its_precinct, all_of}
use Rattle.jk_wave.specs.Analysis.{analysed_bands}
use Rattle.jk_tile.specs.encoding.Forward.{tile_value}
use Rattle.jk_tile.specs.encoding.Needs.{exponents_for}
use Rattle.jk_tile.specs.encoding.TileWritten.{WrittenBands, coefficient_of}
use Rattle.jk_tile.specs.encoding.PacketsWritten.{Tables, written_packet, written_text, precinct_tables, written_coding, written_shape, tile_tables, tile_text}
use Rattle.jk_tile.specs.encoding.TileWriters.{tile_items, list_of, tables_in, index_of, IsPrecinctList, AreLists}
use Rattle.jk_math.specs.Lists.{lists_of}
use Rattle.jk_tile.proofs.encoding.TileIndex.{tile_at, tile_length, level_few}
use Rattle.jk_tile.proofs.encoding.TileAreas.{tile_is_area}
use Rattle.jk_tile.proofs.encoding.PacketsFew.{count_is, few_below}
use Rattle.jk_tile.specs.encoding.TilesFrom.{written_component, tile_lists, IsOutlineOf}
use Rattle.jk_tile.specs.declared.encoding.written.TileOutline.{TileOutline}
use Rattle.jk_tile.proofs.encoding.WrittenTile.{planes_have, coding_is, tables_same, precinct_fits}

-- ---- few packets

pub written_few : (p : Picture) (q : Parameters) (t : ℕ) → IsWrittenBy q p → t < tile_count (siz_of p q) → packet_count (written_shape p q t) ≤ 2 ^ 24
written_few p q t by tile =
    let count = count_is (written_shape p q t) in
    let same = tile_same (tile_area (siz_of p q) t) q.layers (length p.planes) (cod_of q).style (record { guard = 2; exponents = exponents_for p q }) (record { guard = 2; exponents = [] }) in
    let part = part_of_total (λ i. packet_number (tile_area (siz_of p q) i) q.layers (replicate (length p.planes) (coding_for q))) (tile_count (siz_of p q)) t tile in
    let few = by.few in
    omega (arith, count, same, part, few)

-- ---- the sub-bands of each component

pub bands_are : (p : Picture) (q : Parameters) (t c : ℕ) (bands : List (List (List ℤ))) → c < length p.planes
    → bands ≡ map (λ i. analysed_bands (tile_area (siz_of p q) t) q.levels (tile_value p q.colour i)) (range_with_len 0 (length p.planes))
    → get_or bands c [] ≡ (written_component p q t c).bands
bands_are p q t c bands lt e =
    ap (λ (bs : List (List (List ℤ))). get_or bs c []) e
    ∙ get_or-map-range_with_len (λ i. analysed_bands (tile_area (siz_of p q) t) q.levels (tile_value p q.colour i)) 0 (length p.planes) c c [] lt (omega arith)

pub bands_count : (p : Picture) (q : Parameters) (t : ℕ) (bands : List (List (List ℤ)))
    → bands ≡ map (λ i. analysed_bands (tile_area (siz_of p q) t) q.levels (tile_value p q.colour i)) (range_with_len 0 (length p.planes)) → length bands ≡ length p.planes
bands_count p q t bands e =
    ap (λ (bs : List (List (List ℤ))). length bs) e ∙ length-map-range_with_len (λ i. analysed_bands (tile_area (siz_of p q) t) q.levels (tile_value p q.colour i)) 0 (length p.planes)

-- what is written of component c
abbrev pub source_from : Rect → Coding → (layers : ℕ) → List (List (List ℤ)) → ℕ → WrittenBands
source_from a k layers bands c = record { rect = a; coding = k; layers = layers; bands = get_or bands c [] }

pub source_is : (p : Picture) (q : Parameters) (t c : ℕ) (a : Rect) (k : Coding) (bands : List (List (List ℤ))) → a ≡ tile_area (siz_of p q) t → k ≡ written_coding p q → c < length p.planes
    → bands ≡ map (λ i. analysed_bands (tile_area (siz_of p q) t) q.levels (tile_value p q.colour i)) (range_with_len 0 (length p.planes)) → source_from a k q.layers bands c ≡ written_component p q t c
source_is p q t c a k bands ea ek lt e =
    ap (λ (b : Rect). source_from b k q.layers bands c) ea ∙ ap (λ (j : Coding). source_from (tile_area (siz_of p q) t) j q.layers bands c) ek
    ∙ ap (λ (bs : List (List ℤ)). record { rect = tile_area (siz_of p q) t; coding = written_coding p q; layers = q.layers; bands = bs }) (bands_are p q t c bands lt e)

-- ---- the lists of all precincts

joined : List (List Table) → List Table
joined ts = flat_map (λ us. us) ts

-- the list of a precinct
list_is : (p : Picture) (q : Parameters) (t c r n : ℕ) (sources : ℕ → WrittenBands) (lists : List (List Table)) → ((i : ℕ) → i < length p.planes → sources i ≡ written_component p q t i)
    → lists ≡ tile_items (tile_area (siz_of p q) t) (written_coding p q) (λ c r n. flat_map (λ ts. ts) (precinct_tables q.layers (tile_area (siz_of p q) t) (written_coding p q) (coefficient_of (sources c)) r n)) (length p.planes)
    → c < length p.planes → r ≤ q.levels → n < precinct_number (tile_area (siz_of p q) t) (written_coding p q) r
    → list_of (tile_area (siz_of p q) t) (written_coding p q) lists c r n ≡ flat_map (λ ts. ts) (tile_tables p q t c r n)
list_is p q t c r n sources lists same e lt le some =
    let a = tile_area (siz_of p q) t in
    let k = written_coding p q in
    ap (λ (ls : List (List Table)). get_or ls (index_of a k c r n) []) e
    ∙ tile_at a k (λ c r n. flat_map (λ ts. ts) (precinct_tables q.layers a k (coefficient_of (sources c)) r n)) (length p.planes) c r n [] lt le some
    ∙ ap (λ (s : WrittenBands). flat_map (λ ts. ts) (precinct_tables q.layers a k (coefficient_of s) r n)) (same c lt)
    ∙ ap (λ (ts : List (List Table)). flat_map (λ us. us) ts) (tables_same p q t c r n le)

-- the tables of a precinct, joined and cut again
banded_are : (p : Picture) (q : Parameters) (t c r n : ℕ) → IsPicture p → IsWrittenBy q p → t < tile_count (siz_of p q) → c < length p.planes → r ≤ q.levels
    → banded (bands_at (tile_area (siz_of p q) t) (written_coding p q) r n) (flat_map (λ ts. ts) (tile_tables p q t c r n)) ≡ tile_tables p q t c r n
banded_are p q t c r n is by tile lt le =
    let fits = precinct_fits p q t c r n is by tile lt le in
    banded_joined (bands_at (tile_area (siz_of p q) t) (written_coding p q) r n) (tile_tables p q t c r n) fits.long (λ i less. (fits.each i less).long)

list_fits : (p : Picture) (q : Parameters) (t c r n : ℕ) → IsPicture p → IsWrittenBy q p → t < tile_count (siz_of p q) → c < length p.planes → r ≤ q.levels
    → IsPrecinctList (tile_area (siz_of p q) t) (written_coding p q) q.layers r n (flat_map (λ ts. ts) (tile_tables p q t c r n))
list_fits p q t c r n is by tile lt le =
    let shapes = bands_at (tile_area (siz_of p q) t) (written_coding p q) r n in
    let fits = precinct_fits p q t c r n is by tile lt le in
    record {
      whole = joined_count shapes (tile_tables p q t c r n) fits.long (λ i less. (fits.each i less).long);
      are = subst (AreTables shapes q.layers) (sym (banded_are p q t c r n is by tile lt le)) fits;
    }

-- What the lists of a tile are.
pub record AreTileLists (p : Picture) (q : Parameters) (t : ℕ) (a : Rect) (k : Coding) (lists : List (List Table)) : Type 0 where
  pub are : AreLists a k q.layers (length p.planes) lists
  pub tables : (c r n : ℕ) → IsPrecinct (written_shape p q t) c r n → tables_in a k lists c r n ≡ tile_tables p q t c r n

coding_at : (p : Picture) (q : Parameters) (t c : ℕ) → c < length p.planes → coding_of (written_shape p q t).codings c ≡ written_coding p q
coding_at p q t c lt = get_or-replicate (length p.planes) c (written_coding p q) _ lt

lists_are : (p : Picture) (q : Parameters) (t : ℕ) (sources : ℕ → WrittenBands) (lists : List (List Table)) → IsPicture p → IsWrittenBy q p → t < tile_count (siz_of p q)
    → ((i : ℕ) → i < length p.planes → sources i ≡ written_component p q t i)
    → lists ≡ tile_items (tile_area (siz_of p q) t) (written_coding p q) (λ c r n. flat_map (λ ts. ts) (precinct_tables q.layers (tile_area (siz_of p q) t) (written_coding p q) (coefficient_of (sources c)) r n)) (length p.planes)
    → AreTileLists p q t (tile_area (siz_of p q) t) (written_coding p q) lists
lists_are p q t sources lists is by tile same e =
    let a = tile_area (siz_of p q) t in
    let k = written_coding p q in
    record {
      are = record {
        long = ap (λ (ls : List (List Table)). length ls) e ∙ tile_length a k (λ c r n. flat_map (λ ts. ts) (precinct_tables q.layers a k (coefficient_of (sources c)) r n)) (length p.planes);
        each = λ c r n lt le some. subst (IsPrecinctList a k q.layers r n) (sym (list_is p q t c r n sources lists same e lt le some)) (list_fits p q t c r n is by tile lt le);
      };
      tables = λ c r n precinct.
          (let lt : c < length p.planes = let few = precinct.component in let long = length-replicate (length p.planes) k in omega (arith, few, long) in
          let own = coding_at p q t c lt in
          let le = precinct.resolution in
          let levels = ap (λ (j : Coding). j.levels) own in
          let low : r ≤ q.levels = omega (arith, le, levels) in
          ap (banded (bands_at a k r n)) (list_is p q t c r n sources lists same e lt low (subst (λ (j : Coding). n < precinct_number a j r) own precinct.precinct)) ∙ banded_are p q t c r n is by tile lt low);
    }

pub tile_lists_are : (p : Picture) (q : Parameters) (t : ℕ) (a : Rect) (k : Coding) (lists : List (List Table)) → IsPicture p → IsWrittenBy q p → t < tile_count (siz_of p q)
    → a ≡ tile_area (siz_of p q) t → k ≡ written_coding p q → lists ≡ tile_lists p q t → AreTileLists p q t a k lists
tile_lists_are p q t a k lists is by tile ea ek e =
    subst (λ (b : Rect). AreTileLists p q t b k lists) (sym ea) (subst (λ (j : Coding). AreTileLists p q t (tile_area (siz_of p q) t) j lists) (sym ek)
    (lists_are p q t (written_component p q t) lists is by tile (λ i lt. refl) e))

-- ---- the text

text_same : (s : TileShape) (sop eph : Bool) (f g : Tables) (i : ℕ) (names : List PacketName) → AllByRecursion (IsName s) names → ((c r n : ℕ) → IsPrecinct s c r n → f c r n ≡ g c r n)
    → written_text s sop eph f i names ≡ written_text s sop eph g i names
unfolding written_packet
text_same s sop eph f g i [] all same = refl
text_same s sop eph f g i (n ∷ names) all same =
    ap (λ (xs : List ℕ). xs ++ written_text s sop eph f (i + 1) names) (ap (λ (ts : List (List Table)). (written_packet s sop eph (λ _ _ _. ts) i n).text) (same n.component n.resolution n.precinct (its_precinct s n all.0)))
    ∙ ap (λ (xs : List ℕ). (written_packet s sop eph g i n).text ++ xs) (text_same s sop eph f g (i + 1) names all.1 same)

pub tile_is_text : (p : Picture) (q : Parameters) (t : ℕ) (a : Rect) (k : Coding) (lists : List (List Table)) → AreTileLists p q t a k lists
    → written_text (written_shape p q t) q.sop q.eph (tables_in a k lists) 0 (order (written_shape p q t)) ≡ tile_text p q t
unfolding tile_text
tile_is_text p q t a k lists are =
    let s = written_shape p q t in
    text_same s q.sop q.eph (tables_in a k lists) (tile_tables p q t) 0 (order s) (all_of (IsName s) (order s) (λ n h. ((order_is s).members n).0 h)) are.tables

-- ---- the shape of the tile

shape_is : (p : Picture) (q : Parameters) (t : ℕ) → IsWrittenBy q p → t < tile_count (siz_of p q) → IsTileShape (written_shape p q t)
shape_is p q t by tile =
    let few = by.layers.1 in
    let long = length-replicate (length p.planes) (written_coding p q) in
    record {
      area = tile_is_area (siz_of p q) t by.siz tile;
      some_layers = by.layers.0;
      few_layers = omega (arith, few);
      codings = record {
        some = let some = by.siz.some_components in omega (arith, some, long);
        few = let most = by.siz.few_components in omega (arith, most, long);
        each = λ c lt. subst IsCoding (sym (coding_at p q t c (omega (arith, lt, long)))) (coding_is p q by);
      };
    }

pub shape_made : (p : Picture) (q : Parameters) (t : ℕ) (rect : Rect) (codings : List Coding) → IsWrittenBy q p → t < tile_count (siz_of p q) → rect ≡ tile_area (siz_of p q) t → codings ≡ replicate (length p.planes) (written_coding p q)
    → record { rect = rect; layers = q.layers; order = q.order; codings = codings } ≡ written_shape p q t
shape_made p q t rect codings by tile er ek =
    ap (λ (a : Rect). record { rect = a; layers = q.layers; order = q.order; codings = codings }) er
    ∙ ap (λ (ks : List Coding). record { rect = tile_area (siz_of p q) t; layers = q.layers; order = q.order; codings = ks }) ek

-- What is asked of the shape of a tile whose components are coded alike.
pub record IsShape (s : TileShape) (k : Coding) : Type 0 where
  pub shape : IsTileShape s
  pub coding : IsCoding k
  pub planes : HasPlanes k
  pub alike : s.codings ≡ replicate (length s.codings) k
  pub few : packet_count s ≤ 2 ^ 24

pub shape_asked : (p : Picture) (q : Parameters) (t : ℕ) → IsPicture p → IsWrittenBy q p → t < tile_count (siz_of p q) → IsShape (written_shape p q t) (written_coding p q)
shape_asked p q t is by tile = record {
  shape = shape_is p q t by tile;
  coding = coding_is p q by;
  planes = planes_have p q is by;
  alike = ap (λ n. replicate n (written_coding p q)) (sym (length-replicate (length p.planes) (written_coding p q)));
  few = written_few p q t by tile;
}

-- and of its precincts
pub precincts_few : (p : Picture) (q : Parameters) (t : ℕ) (a : Rect) (k : Coding) → IsPicture p → IsWrittenBy q p → t < tile_count (siz_of p q) → a ≡ tile_area (siz_of p q) t → k ≡ written_coding p q
    → (r : ℕ) → r ≤ k.levels → precinct_number a k r ≤ 2 ^ 24
precincts_few p q t a k is by tile ea ek r le =
    let asked = shape_asked p q t is by tile in
    let few = few_below (written_shape p q t) (written_coding p q) asked.shape asked.alike asked.few in
    level_few a k r (omega (arith, le)) (subst (λ (b : Rect). precincts_below b k (k.levels + 1) ≤ 2 ^ 24) (sym ea) (subst (λ (j : Coding). precincts_below (tile_area (siz_of p q) t) j (j.levels + 1) ≤ 2 ^ 24) (sym ek) few))

joined_same : {X : Type 0} (f g : ℕ → List X) (a n : ℕ) → ((i : ℕ) → a ≤ i → i < a + n → f i ≡ g i) → flat_map f (range_with_len a n) ≡ flat_map g (range_with_len a n)
joined_same f g a zero same = refl
joined_same {X} f g a (suc n) same =
    ap (λ (xs : List X). xs ++ flat_map f (range_with_len (a + 1) n)) (same a (omega arith) (omega arith)) ∙ ap (λ (xs : List X). g a ++ xs) (joined_same f g (a + 1) n (λ i from below. same i (omega (arith, from)) (omega (arith, below))))

-- the text of the packets
pub text_made : (p : Picture) (q : Parameters) (t : ℕ) (a : Rect) (k : Coding) (s : TileShape) (lent tables : List (Vec Table)) (out : List ℕ) → s ≡ written_shape p q t → lent ≡ tables → AreTileLists p q t a k (lists_of tables)
    → out ≡ written_text s q.sop q.eph (tables_in a k (lists_of lent)) 0 (order s) → out ≡ tile_text p q t
text_made p q t a k s lent tables out es el are e =
    e ∙ ap (λ (x : TileShape). written_text x q.sop q.eph (tables_in a k (lists_of lent)) 0 (order x)) es
    ∙ ap (λ (vs : List (Vec Table)). written_text (written_shape p q t) q.sop q.eph (tables_in a k (lists_of vs)) 0 (order (written_shape p q t))) el
    ∙ tile_is_text p q t a k (lists_of tables) are

-- ---- a tile that is told of but for its samples

-- its shape
pub shape_from : (w : TileOutline) (p : Picture) (t : ℕ) (codings : List Coding) → IsOutlineOf w p t → codings ≡ replicate w.components w.coding.now
    → record { rect = w.rect; layers = w.parameters.now.layers; order = w.parameters.now.order; codings = codings } ≡ written_shape p w.parameters.now t
shape_from w p t codings is e =
    shape_made p w.parameters.now t w.rect codings is.profile is.number is.rect (e ∙ ap (λ n. replicate n w.coding.now) is.components ∙ ap (replicate (length p.planes)) is.coding)

pub shape_fits : (w : TileOutline) (p : Picture) (t : ℕ) (codings : List Coding) → IsOutlineOf w p t → codings ≡ replicate w.components w.coding.now
    → IsShape (record { rect = w.rect; layers = w.parameters.now.layers; order = w.parameters.now.order; codings = codings }) w.coding.now
shape_fits w p t codings is e =
    let asked = shape_asked p w.parameters.now t is.picture is.profile is.number in
    subst (λ (s : TileShape). IsShape s w.coding.now) (sym (shape_from w p t codings is e)) (subst (IsShape (written_shape p w.parameters.now t)) (sym is.coding) asked)

-- its tables, and the text of its packets
pub lists_fit : (w : TileOutline) (p : Picture) (t n : ℕ) (codings : List Coding) (lists : List (List Table)) → IsOutlineOf w p t → codings ≡ replicate w.components w.coding.now → n ≡ length codings → lists ≡ tile_lists p w.parameters.now t
    → AreLists w.rect w.coding.now w.parameters.now.layers n lists
lists_fit w p t n codings lists is ek en e =
    let q = w.parameters.now in
    let many : length p.planes ≡ n = sym (en ∙ ap (λ (ks : List Coding). length ks) ek ∙ length-replicate w.components w.coding.now ∙ is.components) in
    subst (λ m. AreLists w.rect w.coding.now q.layers m lists) many (tile_lists_are p q t w.rect w.coding.now lists is.picture is.profile is.number is.rect is.coding e).are

pub text_from : (w : TileOutline) (p : Picture) (t : ℕ) (codings : List Coding) (tables : List (Vec Table)) (out : List ℕ) → IsOutlineOf w p t → codings ≡ replicate w.components w.coding.now → lists_of tables ≡ tile_lists p w.parameters.now t
    → out ≡ written_text (record { rect = w.rect; layers = w.parameters.now.layers; order = w.parameters.now.order; codings = codings }) w.parameters.now.sop w.parameters.now.eph (tables_in w.rect w.coding.now (lists_of tables)) 0
    (order (record { rect = w.rect; layers = w.parameters.now.layers; order = w.parameters.now.order; codings = codings }))
    → out ≡ tile_text p w.parameters.now t
text_from w p t codings tables out is ek e eo =
    let q = w.parameters.now in
    text_made p q t w.rect w.coding.now (record { rect = w.rect; layers = q.layers; order = q.order; codings = codings }) tables tables out (shape_from w p t codings is ek) refl
    (tile_lists_are p q t w.rect w.coding.now (lists_of tables) is.picture is.profile is.number is.rect is.coding e) eo
