-- The parts of a code-block, layer by layer, and what trees tell of them.
use Rattle.std.proofs.Common.{◌≡◌, ℕ, zero, suc, ◌+◌, ◌*◌, ◌<◌, ◌≤◌, Bool, true, false, cond, List, [], ◌∷◌, ◌++◌, length, get_or, map, take, Option, Some, None, refl, sym, ap, ◌∙◌, subst, arith}
use Rattle.std.specs.Prelude.{◌&&◌, ◌==◌}
use Rattle.std.specs.List.{AllByRecursion, flat_map}
use Rattle.std.proofs.lemmas.Bool.Decides.{nat_tests}
use Rattle.std.proofs.lemmas.List.{map-append, take_all, append-nil}
use Rattle.std.proofs.lemmas.List.Elements.{filter-append}
use Rattle.std.proofs.lemmas.List.Sums.{sum_by_push}
use Rattle.std.proofs.Math.Seq.{take-suc}
use Rattle.jk_tree.specs.TagTree.{Shape}
use Rattle.jk_packet.specs.declared.shape.BandShape.{BandShape}
use Rattle.jk_packet.specs.declared.header.BlockContribution.{BlockContribution}
use Rattle.jk_packet.specs.Words.{most_passes}
use Rattle.jk_packet.specs.Reading.{part_of}
use Rattle.jk_packet.specs.PacketText.{PacketContribution, BandLayer, given, option_list, contributions, has_any, zeros_of, passes_of, BandTrees, IsBlock, AreBlocks, Layer, of_band, band_layers, Trees, band_shape, leaves, ArePacketBands, IsLayer, band_parts, bands_parts, parts_of}
use Rattle.jk_packet.specs.Standing.{TellsLayers}
use Rattle.jk_packet.specs.Gathering.{parts_in, IsOfBlock, block_contributions, IsHistory, Gathers}
use Rattle.jk_packet.proofs.QueryLaws.{contributions_push}
use Rattle.jk_packet.proofs.LayerLaws.{layers_push}

abbrev is_its : ℕ → ℕ → BlockContribution → Bool
is_its i j p = (p.band == i) && (p.block == j)

-- a contribution as a part
abbrev said : ℕ → ℕ → PacketContribution → BlockContribution
said i j c = part_of i j c.zero_planes c.piece

band_other : (i j n k : ℕ) (cs : List (Option PacketContribution)) → (n == i) ≡ false → parts_in i j (band_parts n k cs) ≡ []
unfolding band_parts
band_other i j n k [] other = refl
band_other i j n k (None ∷ cs) other = band_other i j n (k + 1) cs other
band_other i j n k (Some c ∷ cs) other =
    ap (λ (t : Bool). cond (t && (k == j)) (part_of n k c.zero_planes c.piece ∷ parts_in i j (band_parts n (k + 1) cs)) (parts_in i j (band_parts n (k + 1) cs))) other
    ∙ band_other i j n (k + 1) cs other

block_other : (i j k : ℕ) (c : PacketContribution) (rest : List BlockContribution) → (k == j) ≡ false → parts_in i j (part_of i k c.zero_planes c.piece ∷ rest) ≡ parts_in i j rest
block_other i j k c rest other = by_band (i == i)
  where
    by_band : (t : Bool) → cond (t && (k == j)) (part_of i k c.zero_planes c.piece ∷ parts_in i j rest) (parts_in i j rest) ≡ parts_in i j rest
    by_band true = ap (λ (t : Bool). cond t (part_of i k c.zero_planes c.piece ∷ parts_in i j rest) (parts_in i j rest)) other
    by_band false = refl

block_own : (i j k : ℕ) (c : PacketContribution) (rest : List BlockContribution) → k ≡ j → parts_in i j (part_of i k c.zero_planes c.piece ∷ rest) ≡ said i j c ∷ parts_in i j rest
block_own i j k c rest own =
    let band : (i == i) ≡ true = grind (arith, nat_tests) in
    let block : (k == j) ≡ true = grind (arith, nat_tests) in
    ap (λ (t : Bool). cond (t && (k == j)) (part_of i k c.zero_planes c.piece ∷ parts_in i j rest) (parts_in i j rest)) band
    ∙ ap (λ (t : Bool). cond t (part_of i k c.zero_planes c.piece ∷ parts_in i j rest) (parts_in i j rest)) block
    ∙ ap (λ n. part_of i n c.zero_planes c.piece ∷ parts_in i j rest) own

-- the blocks behind one
band_behind : (i j k : ℕ) (cs : List (Option PacketContribution)) → j < k → parts_in i j (band_parts i k cs) ≡ []
unfolding band_parts
band_behind i j k [] less = refl
band_behind i j k (None ∷ cs) less = band_behind i j (k + 1) cs (omega (arith, less))
band_behind i j k (Some c ∷ cs) less =
    let other : (k == j) ≡ false = grind (arith, nat_tests) in
    block_other i j k c (band_parts i (k + 1) cs) other ∙ band_behind i j (k + 1) cs (omega (arith, less))

band_own : (i j k m : ℕ) (cs : List (Option PacketContribution)) → k + m ≡ j → parts_in i j (band_parts i k cs) ≡ map (said i j) (option_list (get_or cs m None))
unfolding band_parts
band_own i j k zero [] at = refl
band_own i j k (suc m) [] at = refl
band_own i j k zero (None ∷ cs) at = band_behind i j (k + 1) cs (omega (arith, at))
band_own i j k zero (Some c ∷ cs) at =
    block_own i j k c (band_parts i (k + 1) cs) (omega (arith, at)) ∙ ap (λ (ps : List BlockContribution). said i j c ∷ ps) (band_behind i j (k + 1) cs (omega (arith, at)))
band_own i j k (suc m) (None ∷ cs) at = band_own i j (k + 1) m cs (omega (arith, at))
band_own i j k (suc m) (Some c ∷ cs) at =
    let other : (k == j) ≡ false = grind (arith, nat_tests) in
    block_other i j k c (band_parts i (k + 1) cs) other ∙ band_own i j (k + 1) m cs (omega (arith, at))

bands_behind : (i j n : ℕ) (bands : List (List (Option PacketContribution))) → i < n → parts_in i j (bands_parts n bands) ≡ []
unfolding bands_parts
bands_behind i j n [] less = refl
bands_behind i j n (cs ∷ bands) less =
    let other : (n == i) ≡ false = grind (arith, nat_tests) in
    filter-append (is_its i j) (band_parts n 0 cs) (bands_parts (n + 1) bands)
    ∙ ap (λ (ps : List BlockContribution). ps ++ parts_in i j (bands_parts (n + 1) bands)) (band_other i j n 0 cs other)
    ∙ bands_behind i j (n + 1) bands (omega (arith, less))

bands_own : (i j n m : ℕ) (bands : List (List (Option PacketContribution))) → n + m ≡ i → parts_in i j (bands_parts n bands) ≡ map (said i j) (option_list (get_or (get_or bands m []) j None))
unfolding bands_parts
bands_own i j n zero [] at = none j
  where
    none : (j : ℕ) → [] ≡ map (said i j) (option_list (get_or [] j None))
    none zero = refl
    none (suc j) = refl
bands_own i j n (suc m) [] at = none j
  where
    none : (j : ℕ) → [] ≡ map (said i j) (option_list (get_or [] j None))
    none zero = refl
    none (suc j) = refl
bands_own i j n zero (cs ∷ bands) at =
    let own : n ≡ i = omega (arith, at) in
    filter-append (is_its i j) (band_parts n 0 cs) (bands_parts (n + 1) bands)
    ∙ ap (λ (ps : List BlockContribution). parts_in i j (band_parts n 0 cs) ++ ps) (bands_behind i j (n + 1) bands (omega (arith, at)))
    ∙ ap (λ k. parts_in i j (band_parts k 0 cs) ++ []) own
    ∙ ap (λ (ps : List BlockContribution). ps ++ []) (band_own i j 0 j cs (omega arith))
    ∙ append-nil (map (said i j) (option_list (get_or cs j None)))
bands_own i j n (suc m) (cs ∷ bands) at =
    let other : (n == i) ≡ false = grind (arith, nat_tests) in
    filter-append (is_its i j) (band_parts n 0 cs) (bands_parts (n + 1) bands)
    ∙ ap (λ (ps : List BlockContribution). ps ++ parts_in i j (bands_parts (n + 1) bands)) (band_other i j n 0 cs other)
    ∙ bands_own i j (n + 1) m bands (omega (arith, at))

layer_own : (i j : ℕ) (layer : Layer) → parts_in i j (parts_of layer) ≡ map (said i j) (option_list (given (of_band i layer) j))
layer_own i j None = refl
layer_own i j (Some bands) = bands_own i j 0 i bands (omega arith)

-- The parts of a block are its contributions.
pub gathered : (i j : ℕ) (layers : List Layer) → parts_in i j (flat_map parts_of layers) ≡ map (said i j) (block_contributions layers i j)
unfolding contributions
gathered i j [] = refl
gathered i j (layer ∷ layers) =
    filter-append (is_its i j) (parts_of layer) (flat_map parts_of layers)
    ∙ ap (λ (ps : List BlockContribution). ps ++ parts_in i j (flat_map parts_of layers)) (layer_own i j layer)
    ∙ ap (λ (ps : List BlockContribution). map (said i j) (option_list (given (of_band i layer) j)) ++ ps) (gathered i j layers)
    ∙ sym (map-append (said i j) (option_list (given (of_band i layer) j)) (block_contributions layers i j))

-- One contribution more.
all_push : (P : PacketContribution → Type 0) (cs : List PacketContribution) (c : PacketContribution) → AllByRecursion P cs → P c → AllByRecursion P (cs ++ c ∷ [])
all_push P [] c all last = (last, tt)
all_push P (d ∷ cs) c all last = (all.0, all_push P cs c all.1 last)

history_push : (planes : ℕ) (cs : List PacketContribution) (c : PacketContribution) → IsHistory planes cs → (has_any cs ≡ false → c.zero_planes ≤ planes) → (has_any cs ≡ true → c.zero_planes ≡ zeros_of cs)
    → passes_of cs + c.piece.passes ≤ most_passes planes c.zero_planes → IsHistory planes (cs ++ c ∷ [])
history_push planes [] c h first later kept = record { same = (refl, tt); zeros = first refl; passes = omega (arith, kept) }
history_push planes (d ∷ ds) c h first later kept =
    let same : c.zero_planes ≡ d.zero_planes = later refl in
    record {
      same = all_push (λ e. e.zero_planes ≡ d.zero_planes) (d ∷ ds) c h.same same;
      zeros = h.zeros;
      passes = (let all = sum_by_push (λ (e : PacketContribution). e.piece.passes) (d ∷ ds) c in
          let most = ap (most_passes planes) same in
          omega (arith, kept, all, most));
    }

-- a sub-band of those that are told, and a block of it
band_in_bands : (shapes : List BandShape) (trees : Trees) (layers : List Layer) (n k : ℕ) (bands : List (List (Option PacketContribution))) → ArePacketBands shapes trees layers n bands → k < length bands
    → (length (get_or bands k []) ≡ (band_shape shapes (n + k)).across * (band_shape shapes (n + k)).down)
    × AreBlocks (leaves (band_shape shapes (n + k))) (band_shape shapes (n + k)).planes (trees (n + k)) (band_layers (n + k) layers) 0 (get_or bands k [])
band_in_bands shapes trees layers n k [] are less = absurd (omega (arith, less))
band_in_bands shapes trees layers n zero (cs ∷ bands) are less =
    let at : n ≡ n + 0 = omega arith in
    subst (λ m. (length cs ≡ (band_shape shapes m).across * (band_shape shapes m).down)
    × AreBlocks (leaves (band_shape shapes m)) (band_shape shapes m).planes (trees m) (band_layers m layers) 0 cs) at (are.0, are.1)
band_in_bands shapes trees layers n (suc k) (cs ∷ bands) are less =
    let at : n + 1 + k ≡ n + suc k = omega arith in
    subst (λ m. (length (get_or bands k []) ≡ (band_shape shapes m).across * (band_shape shapes m).down)
    × AreBlocks (leaves (band_shape shapes m)) (band_shape shapes m).planes (trees m) (band_layers m layers) 0 (get_or bands k [])) at
    (band_in_bands shapes trees layers (n + 1) k bands are.2 (omega (arith, less)))

block_in_blocks : (s : Shape) (planes : ℕ) (t : BandTrees) (layers : List BandLayer) (n k : ℕ) (cs : List (Option PacketContribution)) → AreBlocks s planes t layers n cs → k < length cs → IsBlock s planes t layers (n + k) (get_or cs k None)
block_in_blocks s planes t layers n k [] are less = absurd (omega (arith, less))
block_in_blocks s planes t layers n zero (c ∷ cs) are less = let at : n ≡ n + 0 = omega arith in subst (λ m. IsBlock s planes t layers m c) at are.0
block_in_blocks s planes t layers n (suc k) (c ∷ cs) are less =
    let at : n + 1 + k ≡ n + suc k = omega arith in
    subst (λ m. IsBlock s planes t layers m (get_or cs k None)) at (block_in_blocks s planes t layers (n + 1) k cs are.1 (omega (arith, less)))

-- one layer more
taken_push : (s : Shape) (planes : ℕ) (t : BandTrees) (layers : List BandLayer) (x : BandLayer) (j : ℕ) (c : Option PacketContribution) → given x j ≡ c → IsBlock s planes t layers j c → IsHistory planes (contributions layers j) → IsHistory planes (contributions (layers ++ x ∷ []) j)
taken_push s planes t layers x j None at is h =
    subst (IsHistory planes) (sym (contributions_push layers x j ∙ ap (λ (c : Option PacketContribution). contributions layers j ++ option_list c) at ∙ append-nil (contributions layers j))) h
taken_push s planes t layers x j (Some c) at is h =
    subst (IsHistory planes) (sym (contributions_push layers x j ∙ ap (λ (c : Option PacketContribution). contributions layers j ++ option_list c) at))
    (history_push planes (contributions layers j) c h (λ none. (is.taken.first none).1) is.taken.later is.taken.kept)

layer_push : (shapes : List BandShape) (trees : Trees) (layers : List Layer) (layer : Layer) (i j : ℕ) → i < length shapes → j < (band_shape shapes i).across * (band_shape shapes i).down
    → IsLayer shapes trees layers layer → IsHistory (band_shape shapes i).planes (block_contributions layers i j) → IsHistory (band_shape shapes i).planes (block_contributions (layers ++ layer ∷ []) i j)
layer_push shapes trees layers None i j in_bands in_blocks is h =
    subst (λ (l : List BandLayer). IsHistory (band_shape shapes i).planes (contributions l j)) (sym (layers_push i layers None))
    (subst (IsHistory (band_shape shapes i).planes) (sym (contributions_push (band_layers i layers) None j ∙ append-nil (block_contributions layers i j))) h)
layer_push shapes trees layers (Some bands) i j in_bands in_blocks is h =
    let at : 0 + i ≡ i = omega arith in
    let band = subst (λ m. (length (get_or bands i []) ≡ (band_shape shapes m).across * (band_shape shapes m).down)
    × AreBlocks (leaves (band_shape shapes m)) (band_shape shapes m).planes (trees m) (band_layers m layers) 0 (get_or bands i [])) at
    (band_in_bands shapes trees layers 0 i bands is.1 (let e = is.0 in omega (arith, e, in_bands))) in
    let here : 0 + j ≡ j = omega arith in
    let long = band.0 in
    let block = subst (λ m. IsBlock (leaves (band_shape shapes i)) (band_shape shapes i).planes (trees i) (band_layers i layers) m (get_or (get_or bands i []) j None)) here
    (block_in_blocks (leaves (band_shape shapes i)) (band_shape shapes i).planes (trees i) (band_layers i layers) 0 j (get_or bands i []) band.1 (omega (arith, long, in_blocks))) in
    subst (λ (l : List BandLayer). IsHistory (band_shape shapes i).planes (contributions l j)) (sym (layers_push i layers (Some bands)))
    (taken_push (leaves (band_shape shapes i)) (band_shape shapes i).planes (trees i) (band_layers i layers) (Some (get_or bands i [])) j (get_or (get_or bands i []) j None) refl block h)

histories : (shapes : List BandShape) (trees : Trees) (layers : List Layer) (bits : List (List Bool)) (i j n : ℕ) → TellsLayers shapes trees layers bits → i < length shapes → j < (band_shape shapes i).across * (band_shape shapes i).down
    → n ≤ length layers → IsHistory (band_shape shapes i).planes (block_contributions (take n layers) i j)
unfolding contributions
histories shapes trees layers bits i j zero tells in_bands in_blocks within = record { same = tt; zeros = omega arith; passes = omega arith }
histories shapes trees layers bits i j (suc n) tells in_bands in_blocks within =
    let before = histories shapes trees layers bits i j n tells in_bands in_blocks (omega (arith, within)) in
    subst (λ (l : List Layer). IsHistory (band_shape shapes i).planes (block_contributions l i j)) (sym (take-suc layers n None (omega (arith, within))))
    (layer_push shapes trees (take n layers) (get_or layers n None) i j in_bands in_blocks (tells.1 n (omega (arith, within))).1 before)

-- The contributions of told layers.
pub told_gathers : (shapes : List BandShape) (trees : Trees) (layers : List Layer) (bits : List (List Bool)) → TellsLayers shapes trees layers bits → (i j : ℕ) → i < length shapes
    → j < (band_shape shapes i).across * (band_shape shapes i).down → Gathers shapes layers i j
told_gathers shapes trees layers bits tells i j in_bands in_blocks = (
  gathered i j layers,
  subst (λ (l : List Layer). IsHistory (band_shape shapes i).planes (block_contributions l i j)) (take_all (length layers) layers (omega arith))
      (histories shapes trees layers bits i j (length layers) tells in_bands in_blocks (omega arith)),
)

-- All parts are of blocks that there are.
all_append : (P : BlockContribution → Type 0) (ps qs : List BlockContribution) → AllByRecursion P ps → AllByRecursion P qs → AllByRecursion P (ps ++ qs)
all_append P [] qs all more = more
all_append P (p ∷ ps) qs all more = (all.0, all_append P ps qs all.1 more)

band_within : (shapes : List BandShape) (n k : ℕ) (cs : List (Option PacketContribution)) → n < length shapes → k + length cs ≤ (band_shape shapes n).across * (band_shape shapes n).down → AllByRecursion (IsOfBlock shapes) (band_parts n k cs)
unfolding band_parts
band_within shapes n k [] less fits = tt
band_within shapes n k (None ∷ cs) less fits = band_within shapes n (k + 1) cs less (omega (arith, fits))
band_within shapes n k (Some c ∷ cs) less fits = ((less, omega (arith, fits)), band_within shapes n (k + 1) cs less (omega (arith, fits)))

bands_within : (shapes : List BandShape) (trees : Trees) (layers : List Layer) (n : ℕ) (bands : List (List (Option PacketContribution))) → n + length bands ≤ length shapes → ArePacketBands shapes trees layers n bands → AllByRecursion (IsOfBlock shapes) (bands_parts n bands)
unfolding bands_parts
bands_within shapes trees layers n [] fits are = tt
bands_within shapes trees layers n (cs ∷ bands) fits are =
    let long = are.0 in
    all_append (IsOfBlock shapes) (band_parts n 0 cs) (bands_parts (n + 1) bands) (band_within shapes n 0 cs (omega (arith, fits)) (omega (arith, long)))
    (bands_within shapes trees layers (n + 1) bands (omega (arith, fits)) are.2)

pub parts_within : (shapes : List BandShape) (trees : Trees) (layers : List Layer) (layer : Layer) → IsLayer shapes trees layers layer → AllByRecursion (IsOfBlock shapes) (parts_of layer)
parts_within shapes trees layers None is = tt
parts_within shapes trees layers (Some bands) is = let all = is.0 in bands_within shapes trees layers 0 bands (omega (arith, all)) is.1
