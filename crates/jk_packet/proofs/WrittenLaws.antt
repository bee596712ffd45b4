-- What is written of a precinct: its trees tell its layers.
use Rattle.std.proofs.Common.{◌≡◌, ℕ, zero, suc, ◌+◌, ◌*◌, ◌^◌, ◌<◌, ◌%◌, Bool, true, false, cond, List, [], ◌∷◌, ◌++◌, length, get_or, take, map, Option, Some, None, refl, sym, ap, ◌∙◌, subst, inl, inr, arith}
use Rattle.std.specs.Prelude.{not, nat_eq, nat_lt, IfSome}
use Rattle.std.specs.List.{list_any, range_with_len}
use Rattle.std.proofs.lemmas.Bool.{cases_Bool}
use Rattle.std.proofs.lemmas.List.{length-map, get_or-map}
use Rattle.std.proofs.lemmas.List.Folds.{list_any_at}
use Rattle.std.proofs.lemmas.List.FromFn.{length-map-range_with_len, get_or-map-range_with_len, take-map-range_with_len, map-range_with_len_more}
use Rattle.jk_bits.specs.Stuffing.{stuffed}
use Rattle.jk_bits.proofs.Laws.{stuffed_stuffs, stuffs_packs}
use Rattle.jk_tree.specs.TagTree.{Shape, Values, leaf_of}
use Rattle.jk_tree.proofs.Laws.{written_tree, written_leaf}
use Rattle.jk_packet.specs.declared.shape.BandShape.{BandShape}
use Rattle.jk_packet.specs.Words.{IsAddition}
use Rattle.jk_packet.specs.PacketText.{PacketContribution, BandLayer, given, option_list, contributions, is_included, has_any, zeros_of, passes_of, lblock_of, BandTrees, IsContribution, IsBlock, AreBlocks, Layer, of_band, band_layers, Trees, band_shape, leaves, header_bits, ArePacketBands, IsLayer, IsHeaderText}
use Rattle.jk_packet.specs.Standing.{AreTrees, TellsLayers}
use Rattle.jk_packet.specs.Written.{Table, sop_text, part_in, piece_in, contribution_in, first_in, band_tables, table_at, has_passes, is_full, band_layer, layer_in, layers_before, band_trees, trees_in, bits_in, header_in, IsTable, AreBandTables, AreTables}
use Rattle.jk_packet.specs.Writing.{history, Follow}
use Rattle.jk_packet.proofs.QueryLaws.{contributions_push}
use Rattle.jk_packet.proofs.LayerLaws.{layers_push}
use Rattle.jk_packet.proofs.MarkerLaws.{sop_is}
use Rattle.jk_packet.proofs.HistoryLaws.{own_contribution, contribution_none, contribution_some, history_none, history_more, lblock_history, zeros_history, passes_within, included_history, taken_first, first_within, piece_is}

-- the layers before one, one more
pub layers_more : (tables : List (List Table)) (l : ℕ) → layers_before tables (l + 1) ≡ layers_before tables l ++ layer_in tables l ∷ []
layers_more tables l = map-range_with_len_more (layer_in tables) 0 l l (let e : 0 + l ≡ l = omega arith in e)

-- a layer that is full, and one that isn't
pub layer_full : (tables : List (List Table)) (l : ℕ) → is_full tables l ≡ true → layer_in tables l ≡ Some (map (λ ts. band_layer ts l) tables)
unfolding layer_in
layer_full tables l full = ap (λ (b : Bool). cond b (Some (map (λ ts. band_layer ts l) tables)) None) full

pub layer_empty : (tables : List (List Table)) (l : ℕ) → is_full tables l ≡ false → layer_in tables l ≡ None
unfolding layer_in
layer_empty tables l empty = ap (λ (b : Bool). cond b (Some (map (λ ts. band_layer ts l) tables)) None) empty

-- without passes in any block there are none in each
no_passes : (l : ℕ) (tables : List (List Table)) (i j : ℕ) → i < length tables → j < length (band_tables tables i) → is_full tables l ≡ false → has_passes l (table_at (band_tables tables i) j) ≡ false
no_passes l tables i j in_bands in_blocks empty = elim (cases_Bool (has_passes l (table_at (band_tables tables i) j))) [
  | inl some ↦ absurd (
      let band : list_any (has_passes l) (band_tables tables i) ≡ true = list_any_at (has_passes l) (band_tables tables i) j _ in_blocks some in
      let all = list_any_at (list_any (has_passes l)) tables i [] in_bands band in
      let c : true ≡ false = sym all ∙ empty in
      cc)
  | inr none ↦ none
]

not_test : (b : Bool) → not b ≡ false → b ≡ true
not_test true e = refl
not_test false e = absurd (cc)

pub nothing_in : (l : ℕ) (tables : List (List Table)) (i j : ℕ) → i < length tables → j < length (band_tables tables i) → is_full tables l ≡ false → nat_eq (part_in (table_at (band_tables tables i) j) l).0 0 ≡ true
nothing_in l tables i j in_bands in_blocks empty = not_test _ (no_passes l tables i j in_bands in_blocks empty)

-- what a layer has of a block
pub band_layer_at : (ts : List Table) (l j : ℕ) → j < length ts → get_or (band_layer ts l) j None ≡ contribution_in (table_at ts j) l
band_layer_at ts l j less = get_or-map (λ t. contribution_in t l) ts j _ None less

pub of_full : (tables : List (List Table)) (l i : ℕ) → i < length tables → of_band i (Some (map (λ ts. band_layer ts l) tables)) ≡ Some (band_layer (band_tables tables i) l)
of_full tables l i less = ap (λ (cs : List (Option PacketContribution)). Some cs) (get_or-map (λ ts. band_layer ts l) tables i [] [] less)

given_in : (tables : List (List Table)) (l i j : ℕ) → i < length tables → j < length (band_tables tables i) → given (of_band i (layer_in tables l)) j ≡ contribution_in (table_at (band_tables tables i) j) l
given_in tables l i j in_bands in_blocks = elim (cases_Bool (is_full tables l)) [
  | inl full ↦
      ap (λ (x : Layer). given (of_band i x) j) (layer_full tables l full)
      ∙ ap (λ (x : BandLayer). given x j) (of_full tables l i in_bands)
      ∙ band_layer_at (band_tables tables i) l j in_blocks
  | inr empty ↦
      ap (λ (x : Layer). given (of_band i x) j) (layer_empty tables l empty)
      ∙ sym (contribution_none (table_at (band_tables tables i) j) l (nothing_in l tables i j in_bands in_blocks empty))
]

no_contributions : (j : ℕ) → contributions [] j ≡ []
unfolding contributions
no_contributions j = refl

pub contributions_in : (tables : List (List Table)) (l i j : ℕ) → i < length tables → j < length (band_tables tables i) → contributions (band_layers i (layers_before tables l)) j ≡ history (table_at (band_tables tables i) j) l
contributions_in tables zero i j in_bands in_blocks = no_contributions j ∙ sym (history_none (table_at (band_tables tables i) j))
contributions_in tables (suc l) i j in_bands in_blocks =
    let t = table_at (band_tables tables i) j in
    let before = band_layers i (layers_before tables l) in
    ap (λ n. contributions (band_layers i (layers_before tables n)) j) (let e : suc l ≡ l + 1 = omega arith in e)
    ∙ ap (λ (ls : List Layer). contributions (band_layers i ls) j) (layers_more tables l)
    ∙ ap (λ (ls : List BandLayer). contributions ls j) (layers_push i (layers_before tables l) (layer_in tables l))
    ∙ contributions_push before (of_band i (layer_in tables l)) j
    ∙ ap (λ (cs : List PacketContribution). cs ++ option_list (given (of_band i (layer_in tables l)) j)) (contributions_in tables l i j in_bands in_blocks)
    ∙ ap (λ (c : Option PacketContribution). history t l ++ option_list c) (given_in tables l i j in_bands in_blocks)
    ∙ sym (history_more t l)

-- The layers before l follow the tables.
pub follows : (tables : List (List Table)) (l i : ℕ) → i < length tables → Follow (band_tables tables i) l (band_layers i (layers_before tables l))
follows tables l i in_bands = record {
  count = length-map (layers_before tables l) (of_band i) ∙ length-map-range_with_len (layer_in tables) 0 l;
  each = λ j in_blocks. contributions_in tables l i j in_bands in_blocks;
}

-- the leaves of the trees
pub inclusion_leaf : (b : BandShape) (layers : ℕ) (ts : List Table) (j : ℕ) → AreBandTables b layers ts → layers < 2 ^ 16 → j < b.across * b.down
    → leaf_of (leaves b) (band_trees b ts).inclusion j ≡ first_in (table_at ts j).parts
inclusion_leaf b layers ts j are few less =
    let same : get_or (map (λ (t : Table). first_in t.parts) ts) j 0 ≡ first_in (table_at ts j).parts = get_or-map (λ (t : Table). first_in t.parts) ts j _ 0 (let e = are.long in omega (arith, e, less)) in
    let within = first_within (table_at ts j).parts in
    let long = (are.each j less).long in
    written_leaf (leaves b) (map (λ (t : Table). first_in t.parts) ts) j less (omega (arith, same, within, long, few)) ∙ same

pub zeros_leaf : (b : BandShape) (layers : ℕ) (ts : List Table) (j : ℕ) → AreBandTables b layers ts → j < b.across * b.down
    → leaf_of (leaves b) (band_trees b ts).zeros j ≡ (table_at ts j).zero_planes
zeros_leaf b layers ts j are less =
    let same : get_or (map (λ (t : Table). t.zero_planes) ts) j 0 ≡ (table_at ts j).zero_planes = get_or-map (λ (t : Table). t.zero_planes) ts j _ 0 (let e = are.long in omega (arith, e, less)) in
    let within = (are.each j less).zeros in
    let few = are.planes in
    written_leaf (leaves b) (map (λ (t : Table). t.zero_planes) ts) j less (omega (arith, same, within, few)) ∙ same

-- a contribution of a table
contribution_is : (s : Shape) (planes layers : ℕ) (zeros : Values) (ls : List BandLayer) (l j : ℕ) (t : Table) → IsTable layers planes t → l < layers → contributions ls j ≡ history t l → leaf_of s zeros j ≡ t.zero_planes
    → nat_eq (part_in t l).0 0 ≡ false → IsContribution s planes zeros ls j (own_contribution t l)
contribution_is s planes layers zeros ls l j t is within past leaf some = record {
  first = λ not_yet. (sym leaf, is.zeros);
  later = λ old. zeros_history t l (sym (ap has_any past) ∙ old) ∙ ap zeros_of (sym past);
  piece = subst (λ n. IsAddition n (piece_in t l)) (sym (ap lblock_of past ∙ lblock_history t l)) (piece_is layers planes t l is within some);
  kept = (let before = ap passes_of past in
      let own = passes_within t l (let e = is.long in omega (arith, e, within)) in
      let all = is.passes in
      omega (arith, before, own, all));
}

taken_is : (s : Shape) (planes layers : ℕ) (zeros : Values) (ls : List BandLayer) (l j : ℕ) (t : Table) → IsTable layers planes t → l < layers → contributions ls j ≡ history t l → leaf_of s zeros j ≡ t.zero_planes
    → IfSome (contribution_in t l) (IsContribution s planes zeros ls j)
taken_is s planes layers zeros ls l j t is within past leaf = elim (cases_Bool (nat_eq (part_in t l).0 0)) [
  | inl none ↦ subst (λ (c : Option PacketContribution). IfSome c (IsContribution s planes zeros ls j)) (sym (contribution_none t l none)) tt
  | inr some ↦ subst (λ (c : Option PacketContribution). IfSome c (IsContribution s planes zeros ls j)) (sym (contribution_some t l some)) (contribution_is s planes layers zeros ls l j t is within past leaf some)
]

-- A block behind the layers before l.
pub block_is : (b : BandShape) (layers : ℕ) (ts : List Table) (l j : ℕ) (ls : List BandLayer) → AreBandTables b layers ts → layers < 2 ^ 16 → l < layers → j < b.across * b.down → Follow ts l ls
    → IsBlock (leaves b) b.planes (band_trees b ts) ls j (contribution_in (table_at ts j) l)
block_is b layers ts l j ls are few within less follow =
    let t = table_at ts j in
    let is = are.each j less in
    let long : l < length t.parts = (let e = is.long in omega (arith, e, within)) in
    let past : contributions ls j ≡ history t l = follow.each j (let e = are.long in omega (arith, e, less)) in
    let included : is_included ls j ≡ nat_lt (first_in t.parts) l = ap has_any past ∙ included_history t l (omega (arith, long)) in
    record {
      first = λ not_yet.
          taken_first t l long (sym included ∙ not_yet)
          ∙ ap (λ n. nat_lt n (l + 1)) (sym (inclusion_leaf b layers ts j are few less))
          ∙ ap (λ n. nat_lt (leaf_of (leaves b) (band_trees b ts).inclusion j) (n + 1)) (sym follow.count);
      taken = taken_is (leaves b) b.planes layers (band_trees b ts).zeros ls l j t is within past (zeros_leaf b layers ts j are less);
    }

-- blocks one behind another
are_blocks : (s : Shape) (planes : ℕ) (trees : BandTrees) (ls : List BandLayer) (i : ℕ) (cs : List (Option PacketContribution)) → ((k : ℕ) → k < length cs → IsBlock s planes trees ls (i + k) (get_or cs k None)) → AreBlocks s planes trees ls i cs
are_blocks s planes trees ls i [] each = tt
are_blocks s planes trees ls i (c ∷ cs) each = (
  subst (λ k. IsBlock s planes trees ls k c) (let e : i + 0 ≡ i = omega arith in e) (each 0 (omega arith)),
  are_blocks s planes trees ls (i + 1) cs (λ k less. subst (λ n. IsBlock s planes trees ls n (get_or cs k None)) (let e : i + suc k ≡ i + 1 + k = omega arith in e) (each (suc k) (omega (arith, less)))),
)

band_is : (b : BandShape) (layers : ℕ) (ts : List Table) (l : ℕ) (ls : List BandLayer) → AreBandTables b layers ts → layers < 2 ^ 16 → l < layers → Follow ts l ls
    → AreBlocks (leaves b) b.planes (band_trees b ts) ls 0 (band_layer ts l)
band_is b layers ts l ls are few within follow = are_blocks (leaves b) b.planes (band_trees b ts) ls 0 (band_layer ts l) (λ k less.
    let own : k < length ts = (let e = length-map ts (λ t. contribution_in t l) in omega (arith, e, less)) in
    let here = block_is b layers ts l k ls are few within (let e = are.long in omega (arith, e, own)) follow in
    subst (λ n. IsBlock (leaves b) b.planes (band_trees b ts) ls n (get_or (band_layer ts l) k None)) (let e : k ≡ 0 + k = omega arith in e)
    (subst (λ (c : Option PacketContribution). IsBlock (leaves b) b.planes (band_trees b ts) ls k c) (sym (band_layer_at ts l k own)) here))

are_bands : (shapes : List BandShape) (trees : Trees) (ls : List Layer) (n : ℕ) (bands : List (List (Option PacketContribution)))
    → ((k : ℕ) → k < length bands → (length (get_or bands k []) ≡ (band_shape shapes (n + k)).across * (band_shape shapes (n + k)).down)
    × AreBlocks (leaves (band_shape shapes (n + k))) (band_shape shapes (n + k)).planes (trees (n + k)) (band_layers (n + k) ls) 0 (get_or bands k []))
    → ArePacketBands shapes trees ls n bands
are_bands shapes trees ls n [] each = tt
are_bands shapes trees ls n (cs ∷ bands) each =
    let Here : ℕ → Type 0 = λ m. (length cs ≡ (band_shape shapes m).across * (band_shape shapes m).down) × AreBlocks (leaves (band_shape shapes m)) (band_shape shapes m).planes (trees m) (band_layers m ls) 0 cs in
    let own = subst Here (let e : n + 0 ≡ n = omega arith in e) (each 0 (omega arith)) in (
      own.0,
      own.1,
      are_bands shapes trees ls (n + 1) bands (λ k less. subst
          (λ m. (length (get_or bands k []) ≡ (band_shape shapes m).across * (band_shape shapes m).down)
          × AreBlocks (leaves (band_shape shapes m)) (band_shape shapes m).planes (trees m) (band_layers m ls) 0 (get_or bands k []))
          (let e : n + suc k ≡ n + 1 + k = omega arith in e) (each (suc k) (omega (arith, less)))),
    )

full_is : (shapes : List BandShape) (layers : ℕ) (tables : List (List Table)) (l : ℕ) → AreTables shapes layers tables → l < layers
    → IsLayer shapes (trees_in shapes tables) (layers_before tables l) (Some (map (λ ts. band_layer ts l) tables))
full_is shapes layers tables l are within = (
  length-map tables (λ ts. band_layer ts l) ∙ are.long,
  are_bands shapes (trees_in shapes tables) (layers_before tables l) 0 (map (λ ts. band_layer ts l) tables) (λ k less.
      let own : k < length tables = (let e = length-map tables (λ ts. band_layer ts l) in omega (arith, e, less)) in
      let b = band_shape shapes k in
      let ts = band_tables tables k in
      let band = are.each k (let e = are.long in omega (arith, e, own)) in
      let here : get_or (map (λ ts. band_layer ts l) tables) k [] ≡ band_layer ts l = get_or-map (λ ts. band_layer ts l) tables k [] [] own in
      let blocks = band_is b layers ts l (band_layers k (layers_before tables l)) band are.few within (follows tables l k own) in
      let long : length (band_layer ts l) ≡ b.across * b.down = length-map ts (λ t. contribution_in t l) ∙ band.long in
      let At : ℕ → List (Option PacketContribution) → Type 0 = λ m cs. (length cs ≡ (band_shape shapes m).across * (band_shape shapes m).down)
      × AreBlocks (leaves (band_shape shapes m)) (band_shape shapes m).planes (trees_in shapes tables m) (band_layers m (layers_before tables l)) 0 cs in
      subst (λ m. At m (get_or (map (λ ts. band_layer ts l) tables) k [])) (let e : k ≡ 0 + k = omega arith in e)
      (subst (λ (cs : List (Option PacketContribution)). At k cs) (sym here) (long, blocks))),
)

pub layer_is : (shapes : List BandShape) (layers : ℕ) (tables : List (List Table)) (l : ℕ) → AreTables shapes layers tables → l < layers → IsLayer shapes (trees_in shapes tables) (layers_before tables l) (layer_in tables l)
layer_is shapes layers tables l are within = elim (cases_Bool (is_full tables l)) [
  | inl full ↦ subst (λ (x : Layer). IsLayer shapes (trees_in shapes tables) (layers_before tables l) x) (sym (layer_full tables l full)) (full_is shapes layers tables l are within)
  | inr empty ↦ subst (λ (x : Layer). IsLayer shapes (trees_in shapes tables) (layers_before tables l) x) (sym (layer_empty tables l empty)) tt
]

pub bits_are : (shapes : List BandShape) (tables : List (List Table)) (l : ℕ) → bits_in shapes tables l ≡ header_bits shapes (trees_in shapes tables) (layers_before tables l) (layer_in tables l)
unfolding bits_in
bits_are shapes tables l = refl

-- The trees of tables tell their layers.
pub written_told : (shapes : List BandShape) (layers : ℕ) (tables : List (List Table)) → AreTables shapes layers tables
    → AreTrees shapes (trees_in shapes tables) × TellsLayers shapes (trees_in shapes tables) (layers_before tables layers) (map (bits_in shapes tables) (range_with_len 0 layers))
written_told shapes layers tables are = (
  λ i less. (written_tree (leaves (band_shape shapes i)) _, written_tree (leaves (band_shape shapes i)) _),
  (
    length-map-range_with_len (bits_in shapes tables) 0 layers ∙ sym (length-map-range_with_len (layer_in tables) 0 layers),
    λ i less.
        let within : i < layers = (let e = length-map-range_with_len (layer_in tables) 0 layers in omega (arith, e, less)) in
        let trees = trees_in shapes tables in
        let all = layers_before tables layers in
        let front : take i all ≡ layers_before tables i = take-map-range_with_len (layer_in tables) 0 layers i (omega (arith, within)) in
        let own : get_or all i None ≡ layer_in tables i = get_or-map-range_with_len (layer_in tables) 0 layers i i None within (let e : 0 + i ≡ i = omega arith in e) in (
          get_or-map-range_with_len (bits_in shapes tables) 0 layers i i [] within (let e : 0 + i ≡ i = omega arith in e)
              ∙ bits_are shapes tables i
              ∙ ap (λ (ls : List Layer). header_bits shapes trees ls (layer_in tables i)) (sym front)
              ∙ ap (λ (x : Layer). header_bits shapes trees (take i all) x) (sym own),
          subst (λ (x : Layer). IsLayer shapes trees (take i all) x) (sym own) (subst (λ (ls : List Layer). IsLayer shapes trees ls (layer_in tables i)) (sym front) (layer_is shapes layers tables i are within)),
        ),
  ),
)

-- A written header is a text of its bits.
pub header_written : (shapes : List BandShape) (sop eph : Bool) (tables : List (List Table)) (l number : ℕ) → IsHeaderText sop eph (bits_in shapes tables l) (header_in shapes sop eph tables l number)
unfolding header_in
header_written shapes sop eph tables l number = record {
  sop_text = sop_text sop (number % 65536);
  header = stuffed (bits_in shapes tables l);
  is_sop = sop_is sop (number % 65536);
  packs = stuffs_packs false (bits_in shapes tables l) (stuffed (bits_in shapes tables l)) (stuffed_stuffs (bits_in shapes tables l));
  joins = refl;
}
