-- A precinct that is written: its tables one behind another, and its sub-bands, one after another.
use Rattle.std.proofs.Common.{◌≡◌, ℕ, zero, suc, ◌+◌, ◌*◌, ◌%◌, ◌<◌, ◌≤◌, Bool, true, false, List, [], ◌∷◌, ◌++◌, length, get_or, set, take, drop, map, Option, Some, None, refl, sym, ap, ◌∙◌, subst, inl, inr, arith, append_assoc}
use Rattle.std.specs.Prelude.{nat_eq, ◌||◌}
use Rattle.std.specs.List.{flat_map, list_any}
use Rattle.std.proofs.lemmas.Bool.{cases_eq}
use Rattle.std.proofs.lemmas.List.{length-map, length-set, length-drop, length_push, length-append, drop-drop, take-append-drop, take_at, drop_at, nil_from_length, drop_all, at_drop_more, get_or-map, get_or-set_same, get_or-set_other, get_or_append_left, get_or_push}
use Rattle.std.proofs.lemmas.List.Concat.{flat_map-append}
use Rattle.std.proofs.lemmas.List.Folds.{list_any-append}
use Rattle.std.proofs.lemmas.List.Sums.{sum_by-cons, sum_by_more, sum_by-take-le}
use Rattle.jk_bits.specs.Stuffing.{stuffed}
use Rattle.jk_bits.specs.Writing.{Written}
use Rattle.jk_tree.specs.Telling.{with_bits}
use Rattle.jk_packet.specs.declared.shape.BandShape.{BandShape}
use Rattle.jk_packet.specs.declared.writing.WriteBand.{WriteBand}
use Rattle.jk_packet.specs.PacketText.{PacketContribution, BandLayer, Layer, of_band, band_layers, band_shape, leaves, band_bits, bands_bits, header_bits, eph_text}
use Rattle.jk_packet.specs.Written.{Table, sop_text, part_in, lblock_at, first_in, band_tables, table_at, is_full, band_layer, layer_in, layers_before, band_trees, trees_in, full_bits, bits_in, header_in, bodies_text, packet_in, block_count, banded, AreTables}
use Rattle.jk_packet.specs.Writing.{state_of, IsReady, TreesSpeak, BandsStand}
use Rattle.jk_packet.proofs.LayerLaws.{layers_push}
use Rattle.jk_packet.proofs.HistoryLaws.{lblock_kept}
use Rattle.jk_packet.proofs.WrittenLaws.{layers_more, layer_full, layer_empty, nothing_in, of_full, bits_are}
use Rattle.jk_packet.proofs.BandWriting.{speaks_empty, ready_empty}

-- how many blocks a sub-band has
abbrev pub blocks_in : BandShape → ℕ
blocks_in b = b.across * b.down

-- Tables one behind another.
pub length-banded : (shapes : List BandShape) (flat : List Table) → length (banded shapes flat) ≡ length shapes
length-banded [] flat = refl
length-banded (b ∷ shapes) flat = ap suc (length-banded shapes (drop (blocks_in b) flat))

count_cons : (b : BandShape) (shapes : List BandShape) → block_count (b ∷ shapes) ≡ blocks_in b + block_count shapes
count_cons b shapes = sum_by-cons blocks_in b shapes

pub banded_at : (shapes : List BandShape) (flat : List Table) (i : ℕ) → i < length shapes → band_tables (banded shapes flat) i ≡ take (blocks_in (band_shape shapes i)) (drop (block_count (take i shapes)) flat)
banded_at [] flat i less = absurd (omega (arith, less))
banded_at (b ∷ shapes) flat zero less = refl
banded_at (b ∷ shapes) flat (suc i) less =
    banded_at shapes (drop (blocks_in b) flat) i (omega (arith, less))
    ∙ ap (take (blocks_in (band_shape shapes i))) (drop-drop (block_count (take i shapes)) (blocks_in b) flat ∙ ap (λ n. drop n flat) (sym (count_cons b (take i shapes))))

pub count_more : (shapes : List BandShape) (i : ℕ) → i < length shapes → block_count (take (i + 1) shapes) ≡ block_count (take i shapes) + blocks_in (band_shape shapes i)
count_more shapes i less = sum_by_more blocks_in shapes i _ less

pub count_within : (shapes : List BandShape) (i : ℕ) → block_count (take i shapes) ≤ block_count shapes
count_within shapes i = sum_by-take-le blocks_in shapes i

pub flat_banded : {A : Type 0} (f : Table → List A) (shapes : List BandShape) (flat : List Table) → length flat ≡ block_count shapes → flat_map (λ ts. flat_map f ts) (banded shapes flat) ≡ flat_map f flat
flat_banded f [] flat all = ap (flat_map f) (sym (nil_from_length flat all))
flat_banded f (b ∷ shapes) flat all =
    let n = blocks_in b in
    let rest : length (drop n flat) ≡ block_count shapes = (let d = length-drop n flat in let e = count_cons b shapes in omega (arith, d, e, all)) in
    ap (λ xs. flat_map f (take n flat) ++ xs) (flat_banded f shapes (drop n flat) rest)
    ∙ sym (flat_map-append f (take n flat) (drop n flat))
    ∙ ap (flat_map f) (take-append-drop n flat)

pub any_banded : (p : Table → Bool) (shapes : List BandShape) (flat : List Table) → length flat ≡ block_count shapes → list_any (list_any p) (banded shapes flat) ≡ list_any p flat
any_banded p [] flat all = ap (list_any p) (sym (nil_from_length flat all))
any_banded p (b ∷ shapes) flat all =
    let n = blocks_in b in
    let rest : length (drop n flat) ≡ block_count shapes = (let d = length-drop n flat in let e = count_cons b shapes in omega (arith, d, e, all)) in
    ap (λ (x : Bool). list_any p (take n flat) || x) (any_banded p shapes (drop n flat) rest)
    ∙ sym (list_any-append p (take n flat) (drop n flat))
    ∙ ap (list_any p) (take-append-drop n flat)

-- Tables joined are cut as they were.
pub banded_joined : (shapes : List BandShape) (tables : List (List Table)) → length tables ≡ length shapes → ((i : ℕ) → i < length shapes → length (band_tables tables i) ≡ (band_shape shapes i).across * (band_shape shapes i).down)
    → banded shapes (flat_map (λ ts. ts) tables) ≡ tables
banded_joined [] tables long each = sym (nil_from_length tables long)
banded_joined (b ∷ shapes) [] long each = absurd (omega (arith, long))
banded_joined (b ∷ shapes) (ts ∷ tables) long each =
    let n = blocks_in b in
    let own : length ts ≡ n = each 0 (omega arith) in
    let rest = flat_map (λ (us : List Table). us) tables in
    ap (λ (us : List Table). us ∷ banded shapes (drop n (ts ++ rest))) (take_at ts rest n own)
    ∙ ap (λ (us : List Table). ts ∷ banded shapes us) (drop_at ts rest n own)
    ∙ ap (λ (uss : List (List Table)). ts ∷ uss) (banded_joined shapes tables (omega (arith, long)) (λ i less. each (suc i) (omega (arith, less))))

pub joined_count : (shapes : List BandShape) (tables : List (List Table)) → length tables ≡ length shapes → ((i : ℕ) → i < length shapes → length (band_tables tables i) ≡ (band_shape shapes i).across * (band_shape shapes i).down)
    → length (flat_map (λ ts. ts) tables) ≡ block_count shapes
joined_count [] tables long each = ap (λ (tss : List (List Table)). length (flat_map (λ ts. ts) tss)) (nil_from_length tables long)
joined_count (b ∷ shapes) [] long each = absurd (omega (arith, long))
joined_count (b ∷ shapes) (ts ∷ tables) long each =
    let own = each 0 (omega arith) in
    let rest = joined_count shapes tables (omega (arith, long)) (λ i less. each (suc i) (omega (arith, less))) in
    let a = length-append ts (flat_map (λ (us : List Table). us) tables) in
    let e = count_cons b shapes in
    omega (arith, own, rest, a, e)

-- the layers of a sub-band, one more
full_layers : (tables : List (List Table)) (l i : ℕ) → i < length tables → is_full tables l ≡ true → band_layers i (layers_before tables (l + 1)) ≡ band_layers i (layers_before tables l) ++ Some (band_layer (band_tables tables i) l) ∷ []
full_layers tables l i less full =
    ap (band_layers i) (layers_more tables l) ∙ layers_push i (layers_before tables l) (layer_in tables l)
    ∙ ap (λ (x : Layer). band_layers i (layers_before tables l) ++ of_band i x ∷ []) (layer_full tables l full)
    ∙ ap (λ (x : BandLayer). band_layers i (layers_before tables l) ++ x ∷ []) (of_full tables l i less)

empty_layers : (tables : List (List Table)) (l i : ℕ) → is_full tables l ≡ false → band_layers i (layers_before tables (l + 1)) ≡ band_layers i (layers_before tables l) ++ None ∷ []
empty_layers tables l i empty =
    ap (band_layers i) (layers_more tables l) ∙ layers_push i (layers_before tables l) (layer_in tables l)
    ∙ ap (λ (x : Layer). band_layers i (layers_before tables l) ++ of_band i x ∷ []) (layer_empty tables l empty)

-- A sub-band between two packets.
pub record Stands (b : BandShape) (ts : List Table) (l : ℕ) (ls : List BandLayer) (band : WriteBand) : Type 0 where
  pub ready : IsReady b ts l 0 band
  pub spoken : TreesSpeak b ts ls [] band

abbrev pub StandsAt : List BandShape → List (List Table) → ℕ → ℕ → WriteBand → Type 0
StandsAt shapes tables l i band = Stands (band_shape shapes i) (band_tables tables i) l (band_layers i (layers_before tables l)) band

-- sub-bands of which the first n have the packet of layer l, and the others don't
pub record BandsHalf (shapes : List BandShape) (tables : List (List Table)) (l n : ℕ) (bands : List WriteBand) : Type 0 where
  pub count : length bands ≡ length shapes
  pub done : (i : ℕ) (d : WriteBand) → i < n → StandsAt shapes tables (l + 1) i (get_or bands i d)
  pub left : (i : ℕ) (d : WriteBand) → n ≤ i → i < length shapes → StandsAt shapes tables l i (get_or bands i d)

pub half_begins : (shapes : List BandShape) (tables : List (List Table)) (l : ℕ) (bands : List WriteBand) → BandsStand shapes tables l bands → BandsHalf shapes tables l 0 bands
half_begins shapes tables l bands st = record {
  count = st.count;
  done = λ i d none. absurd (omega (arith, none));
  left = λ i d from less. record { ready = st.ready i d less; spoken = st.spoken i d less };
}

pub half_ends : (shapes : List BandShape) (tables : List (List Table)) (l n : ℕ) (bands : List WriteBand) → n ≡ length shapes → BandsHalf shapes tables l n bands → BandsStand shapes tables (l + 1) bands
half_ends shapes tables l n bands all half = record {
  count = half.count;
  ready = λ i d less. (half.done i d (omega (arith, less, all))).ready;
  spoken = λ i d less. (half.done i d (omega (arith, less, all))).spoken;
}

pub half_next : (shapes : List BandShape) (tables : List (List Table)) (l n : ℕ) (bands : List WriteBand) (b : BandShape) (ts : List Table) (x : WriteBand) → n < length shapes → b ≡ band_shape shapes n → ts ≡ band_tables tables n → x ≡ get_or bands n x
    → BandsHalf shapes tables l n bands → Stands b ts l (band_layers n (layers_before tables l)) x
half_next shapes tables l n bands b ts x less own own_tables here half =
    let ls = band_layers n (layers_before tables l) in
    subst (λ c. Stands c ts l ls x) (sym own) (subst (λ us. Stands (band_shape shapes n) us l ls x) (sym own_tables)
    (subst (λ w. Stands (band_shape shapes n) (band_tables tables n) l ls w) (sym here) (half.left n x (omega arith) less)))

pub half_goes : (shapes : List BandShape) (tables : List (List Table)) (l n : ℕ) (bands : List WriteBand) (b : BandShape) (ts : List Table) (band_on : WriteBand) → n < length shapes → length tables ≡ length shapes → is_full tables l ≡ true
    → b ≡ band_shape shapes n → ts ≡ band_tables tables n → IsReady b ts (l + 1) 0 band_on → TreesSpeak b ts (band_layers n (layers_before tables l) ++ Some (band_layer ts l) ∷ []) [] band_on
    → BandsHalf shapes tables l n bands → BandsHalf shapes tables l (n + 1) (set bands n band_on)
half_goes shapes tables l n bands b ts band_on less long full own own_tables ready spoken half =
    let ls = band_layers n (layers_before tables l) in
    let here : StandsAt shapes tables (l + 1) n band_on = record {
      ready = subst (λ c. IsReady c (band_tables tables n) (l + 1) 0 band_on) own (subst (λ us. IsReady b us (l + 1) 0 band_on) own_tables ready);
      spoken = subst (λ x. TreesSpeak (band_shape shapes n) (band_tables tables n) x [] band_on) (sym (full_layers tables l n (omega (arith, less, long)) full))
          (subst (λ c. TreesSpeak c (band_tables tables n) (ls ++ Some (band_layer (band_tables tables n) l) ∷ []) [] band_on) own (subst (λ us. TreesSpeak b us (ls ++ Some (band_layer us l) ∷ []) [] band_on) own_tables spoken));
    } in
    record {
      count = length-set bands n band_on ∙ half.count;
      done = λ i d front. elim (cases_eq i n) [
        | inl at ↦ subst (λ k. StandsAt shapes tables (l + 1) k (get_or (set bands n band_on) k d)) (sym at)
            (subst (λ w. StandsAt shapes tables (l + 1) n w) (sym (get_or-set_same bands n band_on d (let c = half.count in omega (arith, c, less)))) here)
        | inr apart ↦ subst (λ w. StandsAt shapes tables (l + 1) i w) (sym (get_or-set_other bands n i band_on d apart)) (half.done i d (omega (arith, front, apart)))
      ];
      left = λ i d from within. subst (λ w. StandsAt shapes tables l i w) (sym (get_or-set_other bands n i band_on d (λ same. omega (arith, from, same)))) (half.left i d (omega (arith, from)) within);
    }

-- A layer without passes leaves the sub-bands.
state_same : (t : Table) (l : ℕ) → nat_eq (part_in t l).0 0 ≡ true → state_of t l ≡ state_of t (l + 1)
state_same t l none = ap (λ n. record { first = first_in t.parts; length_bits = n }) (sym (lblock_kept t l none) ∙ ap (lblock_at t) (let e : suc l ≡ l + 1 = omega arith in e))

pub stand_empty : (shapes : List BandShape) (layers : ℕ) (tables : List (List Table)) (l : ℕ) (bands : List WriteBand) → AreTables shapes layers tables → is_full tables l ≡ false → BandsStand shapes tables l bands → BandsStand shapes tables (l + 1) bands
stand_empty shapes layers tables l bands are empty st = record {
  count = st.count;
  ready = λ i d less. ready_empty (band_shape shapes i) (band_tables tables i) l (get_or bands i d)
      (λ j within. state_same (table_at (band_tables tables i) j) l (nothing_in l tables i j (let e = are.long in omega (arith, e, less)) (let e = (are.each i less).long in omega (arith, e, within)) empty)) (st.ready i d less);
  spoken = λ i d less. subst (λ ls. TreesSpeak (band_shape shapes i) (band_tables tables i) ls [] (get_or bands i d)) (sym (empty_layers tables l i empty))
      (speaks_empty (band_shape shapes i) (band_tables tables i) (band_layers i (layers_before tables l)) (get_or bands i d) (st.spoken i d less));
}

-- the bits of the sub-bands from the n-th on
abbrev pub rest_bits : List BandShape → List (List Table) → (l n : ℕ) → List Bool
rest_bits shapes tables l n = bands_bits shapes (trees_in shapes tables) (layers_before tables l) n (drop n (map (λ ts. band_layer ts l) tables))

pub rest_first : (shapes : List BandShape) (tables : List (List Table)) (l : ℕ) → rest_bits shapes tables l 0 ≡ full_bits shapes tables l
unfolding full_bits
rest_first shapes tables l = refl

pub rest_more : (shapes : List BandShape) (tables : List (List Table)) (l n : ℕ) → n < length tables
    → rest_bits shapes tables l n
    ≡ band_bits (leaves (band_shape shapes n)) (band_trees (band_shape shapes n) (band_tables tables n)) (band_layers n (layers_before tables l)) (band_layer (band_tables tables n) l) ++ rest_bits shapes tables l (n + 1)
unfolding bands_bits
rest_more shapes tables l n less =
    let trees = trees_in shapes tables in
    let ls = layers_before tables l in
    let all = map (λ ts. band_layer ts l) tables in
    at_drop_more (bands_bits shapes trees ls n) all n [] (let e = length-map tables (λ ts. band_layer ts l) in omega (arith, e, less))
    ∙ ap (λ (cs : List (Option PacketContribution)). band_bits (leaves (band_shape shapes n)) (trees n) (band_layers n ls) cs ++ rest_bits shapes tables l (n + 1)) (get_or-map (λ ts. band_layer ts l) tables n [] [] less)

pub rest_end : (shapes : List BandShape) (tables : List (List Table)) (l n : ℕ) → length tables ≤ n → rest_bits shapes tables l n ≡ []
unfolding bands_bits
rest_end shapes tables l n past = ap (bands_bits shapes (trees_in shapes tables) (layers_before tables l) n) (drop_all n (map (λ ts. band_layer ts l) tables) (let e = length-map tables (λ ts. band_layer ts l) in omega (arith, e, past)))

-- one sub-band more is told
pub rest_goes : (shapes : List BandShape) (tables : List (List Table)) (l n : ℕ) (b : BandShape) (ts : List Table) (due : List Bool) (w w_on : Written) → n < length tables → b ≡ band_shape shapes n → ts ≡ band_tables tables n
    → w_on ≡ with_bits w (band_bits (leaves b) (band_trees b ts) (band_layers n (layers_before tables l)) (band_layer ts l)) → w.bits ++ rest_bits shapes tables l n ≡ due → w_on.bits ++ rest_bits shapes tables l (n + 1) ≡ due
rest_goes shapes tables l n b ts due w w_on less own own_tables told before =
    let ls = band_layers n (layers_before tables l) in
    let rest = rest_bits shapes tables l (n + 1) in
    ap (λ (x : Written). x.bits ++ rest) told
    ∙ append_assoc w.bits (band_bits (leaves b) (band_trees b ts) ls (band_layer ts l)) rest
    ∙ ap (λ (c : BandShape). w.bits ++ (band_bits (leaves c) (band_trees c ts) ls (band_layer ts l) ++ rest)) own
    ∙ ap (λ (us : List Table). w.bits ++ (band_bits (leaves (band_shape shapes n)) (band_trees (band_shape shapes n) us) ls (band_layer us l) ++ rest)) own_tables
    ∙ ap (λ (bs : List Bool). w.bits ++ bs) (sym (rest_more shapes tables l n less))
    ∙ before

-- the bits of a header
pub bits_full : (shapes : List BandShape) (tables : List (List Table)) (l : ℕ) → is_full tables l ≡ true → bits_in shapes tables l ≡ true ∷ full_bits shapes tables l
unfolding full_bits
bits_full shapes tables l full = bits_are shapes tables l ∙ ap (λ (x : Layer). header_bits shapes (trees_in shapes tables) (layers_before tables l) x) (layer_full tables l full)

pub bits_empty : (shapes : List BandShape) (tables : List (List Table)) (l : ℕ) → is_full tables l ≡ false → bits_in shapes tables l ≡ false ∷ []
bits_empty shapes tables l empty = bits_are shapes tables l ∙ ap (λ (x : Layer). header_bits shapes (trees_in shapes tables) (layers_before tables l) x) (layer_empty tables l empty)

-- Sub-bands that are made.
pub record BandsOpen (shapes : List BandShape) (tables : List (List Table)) (n : ℕ) (bands : List WriteBand) : Type 0 where
  pub count : length bands ≡ n
  pub each : (i : ℕ) (d : WriteBand) → i < n → StandsAt shapes tables 0 i (get_or bands i d)

pub open_goes : (shapes : List BandShape) (tables : List (List Table)) (n : ℕ) (bands : List WriteBand) (b : BandShape) (ts : List Table) (x : WriteBand) → b ≡ band_shape shapes n → ts ≡ band_tables tables n → IsReady b ts 0 0 x → TreesSpeak b ts [] [] x
    → BandsOpen shapes tables n bands → BandsOpen shapes tables (n + 1) (bands ++ x ∷ [])
open_goes shapes tables n bands b ts x own own_tables ready spoken was =
    let here : StandsAt shapes tables 0 n x = subst (λ c. Stands c (band_tables tables n) 0 [] x) own (subst (λ us. Stands b us 0 [] x) own_tables record { ready = ready; spoken = spoken }) in
    record {
      count = length_push bands x ∙ ap (λ k. k + 1) was.count;
      each = λ i d front. elim (cases_eq i n) [
        | inl at ↦ subst (λ k. StandsAt shapes tables 0 k (get_or (bands ++ x ∷ []) k d)) (sym at) (subst (λ w. StandsAt shapes tables 0 n w) (sym (get_or_push bands x d n was.count)) here)
        | inr apart ↦ subst (λ w. StandsAt shapes tables 0 i w) (sym (get_or_append_left bands (x ∷ []) d i (let c = was.count in omega (arith, c, front, apart)))) (was.each i d (omega (arith, front, apart)))
      ];
    }

pub open_ends : (shapes : List BandShape) (tables : List (List Table)) (n : ℕ) (bands : List WriteBand) → n ≡ length shapes → BandsOpen shapes tables n bands → BandsStand shapes tables 0 bands
open_ends shapes tables n bands all was = record {
  count = was.count ∙ all;
  ready = λ i d less. (was.each i d (omega (arith, less, all))).ready;
  spoken = λ i d less. (was.each i d (omega (arith, less, all))).spoken;
}

-- A packet, part by part.
pub bodies_flat : (shapes : List BandShape) (flat : List Table) (l : ℕ) → length flat ≡ block_count shapes → flat_map (λ t. (part_in t l).1) flat ≡ bodies_text (banded shapes flat) l
unfolding bodies_text
bodies_flat shapes flat l all = sym (flat_banded (λ t. (part_in t l).1) shapes flat all)

pub header_by : (shapes : List BandShape) (sop eph : Bool) (tables : List (List Table)) (l number : ℕ) (out : List ℕ) (header : List ℕ) → header ≡ stuffed (bits_in shapes tables l)
    → out ++ (sop_text sop (number % 65536) ++ (header ++ eph_text eph)) ≡ out ++ header_in shapes sop eph tables l number
unfolding header_in
header_by shapes sop eph tables l number out header header_is = ap (λ (bs : List ℕ). out ++ (sop_text sop (number % 65536) ++ (bs ++ eph_text eph))) header_is
