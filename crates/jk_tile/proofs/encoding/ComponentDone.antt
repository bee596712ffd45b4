-- A component behind its last row: how many bits its sub-bands need, and that all of their code-blocks are coded.
use Rattle.std.proofs.Common.{◌≡◌, ℕ, zero, suc, ◌+◌, ◌*◌, ◌/◌, ◌%◌, ◌<◌, ◌≤◌, inl, inr, List, [], ◌∷◌, ◌++◌, append_assoc, length, map, get_or, ℤ, refl, sym, ap, subst, ◌∙◌, arith}
use Rattle.std.proofs.lemmas.Bool.{cases_lt}
use Rattle.std.proofs.lemmas.List.{get_or-map}
use Rattle.jk_math.specs.declared.rect.Rect.{Rect}
use Rattle.jk_math.specs.BitLength.{bit_length}
use Rattle.jk_math.specs.Lists.{lists_of}
use Rattle.jk_math.specs.Raster.{raster}
use Rattle.jk_geom.specs.Precincts.{precinct_number}
use Rattle.jk_block.specs.BlockWritten.{greatest}
use Rattle.jk_wave.specs.Analysis.{analysed}
use Rattle.jk_wave.specs.Bands.{numbered_area}
use Rattle.jk_wave.specs.climbing.Held.{rows_between}
use Rattle.jk_walk.specs.TilePackets.{orientations, band_number}
use Rattle.jk_tile.specs.TileBlocks.{band_resolution, band_index}
use Rattle.jk_tile.specs.encoding.Strips.{ComponentFrame, IsFrame, band_at, bands_in, own_band, AreCodedAbove, HasRowsOf}
use Rattle.jk_tile.specs.encoding.LateTables.{HoldBlocks, HaveBlocks}
use Rattle.jk_tile.specs.encoding.FallenComponents.{fallen_band, IsFallenBand, IsCodedBand, IsFallen, IsCodedOf, HaveRoom}
use Rattle.jk_tile.specs.encoding.FallingComponents.{IsBandUpto, AreBandsUpto, HaveRowsOf, NoneWait}
use Rattle.jk_tile.specs.declared.encoding.strips.BandStrips.{BandStrips}
use Rattle.jk_tile.specs.declared.encoding.fallen.FallenBand.{FallenBand}
use Rattle.jk_tile.specs.declared.encoding.fallen.FallenComponent.{FallenComponent}
use Rattle.jk_tile.proofs.encoding.Waiting.{planes_more, waiting_none}
use Rattle.jk_tile.proofs.encoding.WrittenBlocks.{number_few}
use Rattle.jk_tile.proofs.encoding.ComponentFalls.{AreKnown, some_of, is_named, area_is, own_is, fallen_last}

-- ---- one sub-band

-- its rows end where the sub-band does
rows_end : AreKnown → (s : ComponentFrame) (b : ℕ) (x : BandStrips) → IsFrame s → b < bands_in s → IsBandUpto s s.rect.y1 b x → x.area.y1 ≡ (own_band s x).y1
rows_end known s b x frame lt is =
    let named = is_named s b lt in
    is.next ∙ fallen_last known s (band_resolution b) (band_index b) frame named.resolution named.band ∙ ap (λ (a : Rect). a.y1) (sym (own_is s s.rect.y1 b x is))

-- and none of them waits
none_wait : AreKnown → (s : ComponentFrame) (b : ℕ) (x : BandStrips) → IsFrame s → b < bands_in s → IsBandUpto s s.rect.y1 b x → x.area.y0 ≡ (own_band s x).y1
none_wait known s b x frame lt is =
    let last = rows_end known s b x frame lt is in
    let order = is.holds.0.order in
    elim (cases_lt x.area.y0 x.area.y1) [
      | inl some ↦ (let missing = is.holds.1 some in absurd (omega (arith, missing, last)))
      | inr past ↦ omega (arith, past, order, last)
    ]

bits_all : AreKnown → (s : ComponentFrame) (f : ℕ → ℕ → ℕ → ℤ) (b : ℕ) (x : BandStrips) → IsFrame s → b < bands_in s → IsBandUpto s s.rect.y1 b x → HasRowsOf s f x
    → x.bits ≡ bit_length (greatest (raster (numbered_area s.rect s.coding.levels b) (f b)))
bits_all known s f b x frame lt is has =
    let own = own_band s x in
    let number : band_number x.resolution x.band ≡ b = ap (λ r. band_number r x.band) is.resolution ∙ ap (band_number (band_resolution b)) is.band ∙ (is_named s b lt).number in
    has.bits ∙ ap (λ m. bit_length (greatest (raster (rows_between own own.y0 m) (f (band_number x.resolution x.band))))) (rows_end known s b x frame lt is)
    ∙ ap (λ n. bit_length (greatest (raster own (f n)))) number ∙ ap (λ (a : Rect). bit_length (greatest (raster a (f b)))) (own_is s s.rect.y1 b x is ∙ sym (area_is s b lt))

coded_all : AreKnown → (s : ComponentFrame) (f : ℕ → ℕ → ℕ → ℤ) (b : ℕ) (x : BandStrips) → IsFrame s → b < bands_in s → IsBandUpto s s.rect.y1 b x → length x.waiting.items ≡ 0 → HasRowsOf s f x
    → AreCodedAbove s f (band_resolution b) (band_index b) (band_at s (band_resolution b) (band_index b)).y1 (lists_of x.blocks.items)
coded_all known s f b x frame lt is none has =
    let blocks = lists_of x.blocks.items in
    let upto : AreCodedAbove s f x.resolution x.band (own_band s x).y1 blocks = subst (λ y. AreCodedAbove s f x.resolution x.band y blocks) (waiting_none s x.resolution x.band x.bits x.top x.area.y0 x.waiting.items none is.holds.0.waiting ∙ none_wait known s b x frame lt is) has.blocks in
    subst (λ i. AreCodedAbove s f (band_resolution b) i (band_at s (band_resolution b) i).y1 blocks) is.band (subst (λ r. AreCodedAbove s f r x.band (band_at s r x.band).y1 blocks) is.resolution upto)

-- ---- all sub-bands

-- one more is kept
pub more_kept : (x : BandStrips) (old new : List FallenBand) (rest less : List BandStrips) → rest ≡ x ∷ less → new ≡ old ++ fallen_band x ∷ [] → new ++ map fallen_band less ≡ old ++ map fallen_band rest
more_kept x old new rest less step e =
    ap (λ (l : List FallenBand). l ++ map fallen_band less) e ∙ append_assoc old (fallen_band x ∷ []) (map fallen_band less) ∙ ap (λ (l : List BandStrips). old ++ map fallen_band l) (sym step)

pub fallen_bands : (s : ComponentFrame) (e : ℕ) (all : List BandStrips) (kept : List FallenBand) → kept ≡ map fallen_band all → AreBandsUpto s e all → (b : ℕ) (other : FallenBand) → b < bands_in s → IsFallenBand s b (get_or kept b other)
fallen_bands s e all kept is are b other lt =
    let count = are.count in
    let one = some_of BandStrips all b (omega (arith, lt, count)) in
    let own = are.each b one lt in
    subst (IsFallenBand s b) (sym (ap (λ (l : List FallenBand). get_or l b other) is ∙ get_or-map fallen_band all b one other (omega (arith, lt, count))))
    (record { count = own.holds.0.count ∙ ap (precinct_number s.rect s.coding) own.resolution; planes = own.holds.0.planes })

pub coded_bands : AreKnown → (s : ComponentFrame) (f : ℕ → ℕ → ℕ → ℤ) (all : List BandStrips) (kept : List FallenBand) → IsFrame s → kept ≡ map fallen_band all → AreBandsUpto s s.rect.y1 all → NoneWait s all → HaveRowsOf s f all
    → (b : ℕ) (other : FallenBand) → b < bands_in s → IsCodedBand s f b (get_or kept b other)
coded_bands known s f all kept frame is are none have b other lt =
    let count = are.count in
    let one = some_of BandStrips all b (omega (arith, lt, count)) in
    let x = get_or all b one in
    let own = are.each b one lt in
    let has = have b one lt in
    subst (IsCodedBand s f b) (sym (ap (λ (l : List FallenBand). get_or l b other) is ∙ get_or-map fallen_band all b one other (omega (arith, lt, count))))
    (record { blocks = coded_all known s f b x frame lt own (none b one lt) has; bits = bits_all known s f b x frame lt own has })

-- ---- by resolution

-- the name of the sub-band with a number
name_of : (r i : ℕ) → i < length (orientations r) → (band_resolution (band_number r i) ≡ r) × (band_index (band_number r i) ≡ i)
name_of zero i lt = (refl, omega (arith, lt))
name_of (suc q) i lt =
    let number : 3 * q + 1 + i ≡ suc (3 * q + i) = omega arith in (
      ap band_resolution number ∙ (let e : (3 * q + i) / 3 + 1 ≡ suc q = omega (arith, lt) in e),
      ap band_index number ∙ (let e : (3 * q + i) % 3 ≡ i = omega (arith, lt) in e),
    )

pub hold_blocks : (s : ComponentFrame) (planes : ℕ → ℕ) (c : FallenComponent) → IsFallen s c → HaveRoom s planes c.bands.items → (r : ℕ) → r ≤ s.coding.levels → HoldBlocks s planes r c.bands.items
hold_blocks s planes c fallen room r le i other lt =
    let b : ℕ = band_number r i in
    let few : b < bands_in s = (let most = number_few s.coding.levels r i le lt in omega (arith, most)) in
    let x = get_or c.bands.items b other in
    let is = fallen.each b other few in (is.count ∙ ap (precinct_number s.rect s.coding) (name_of r i lt).0, planes_more x.bits (planes b) (lists_of x.blocks.items) (room b other few) is.planes)

pub have_blocks : (s : ComponentFrame) (f : ℕ → ℕ → ℤ) (c : FallenComponent) → IsCodedOf s f c → (r : ℕ) → r ≤ s.coding.levels → HaveBlocks s (analysed s.rect s.coding.levels f) r c.bands.items
have_blocks s f c coded r le i other lt =
    let b : ℕ = band_number r i in
    let few : b < bands_in s = (let most = number_few s.coding.levels r i le lt in omega (arith, most)) in
    let blocks = lists_of (get_or c.bands.items b other).blocks.items in
    let g = analysed s.rect s.coding.levels f in
    let name = name_of r i lt in
    subst (λ k. AreCodedAbove s g r k (band_at s r k).y1 blocks) name.1 (subst (λ q. AreCodedAbove s g q (band_index b) (band_at s q (band_index b)).y1 blocks) name.0 (coded b other few).blocks)
