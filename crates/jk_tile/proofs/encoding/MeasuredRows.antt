-- How many bits a component's sub-bands need, of whose rows nothing is kept.
use Rattle.std.proofs.Common.{◌≡◌, ℕ, ◌+◌, ◌^◌, ◌<◌, ◌≤◌, List, length, All, max, ℤ, unsigned_abs, sym, ap, subst, ◌∙◌, arith}
use Rattle.jk_math.specs.declared.rect.Rect.{Rect}
use Rattle.jk_math.specs.BitLength.{bit_length}
use Rattle.jk_math.specs.Raster.{raster}
use Rattle.jk_block.specs.BlockWritten.{greatest}
use Rattle.jk_wave.specs.Analysis.{analysed}
use Rattle.jk_wave.specs.climbing.Held.{rows_between}
use Rattle.jk_wave.proofs.Laws.{joined, no_rows}
use Rattle.jk_wave.specs.declared.falling.stack.Falling.{Falling}
use Rattle.jk_wave.specs.falling.Stack.{IsGiven}
use Rattle.jk_tile.specs.TileBlocks.{band_resolution, band_index}
use Rattle.jk_tile.specs.encoding.Strips.{ComponentFrame, IsFrame, band_at, bands_in}
use Rattle.jk_tile.specs.encoding.FallingComponents.{band_fallen, made_need, AreFew, NoneLeft}
use Rattle.jk_tile.specs.encoding.FallenTiles.{band_need}
use Rattle.jk_tile.proofs.encoding.ComponentFalls.{AreKnown, is_named, area_is, rows_few, fallen_first, fallen_last, fallen_in_order}
use Rattle.jk_tile.proofs.encoding.Waiting.{bits_joined, bits_none}

-- rows that the levels made are small
pub made_small : AreKnown → (s : ComponentFrame) (d e b : ℕ) (f : ℕ → ℕ → ℕ → ℤ) (rows : List ℤ) → IsFrame s → s.rect.y0 ≤ d → d ≤ e → e ≤ s.rect.y1 → b < bands_in s → AreFew s f
    → rows ≡ raster (rows_between (band_at s (band_resolution b) (band_index b)) (band_fallen s d (band_resolution b) (band_index b)) (band_fallen s e (band_resolution b) (band_index b))) (f b) → All (λ v. unsigned_abs v < 2 ^ 23) rows
made_small known s d e b f rows frame low order last lt few made =
    let named = is_named s b lt in
    let r : ℕ = band_resolution b in
    let i : ℕ = band_index b in
    let top = fallen_first known s r i frame named.resolution named.band in
    let from = fallen_in_order known s s.rect.y0 d r i frame named.resolution low in
    let to = fallen_in_order known s e s.rect.y1 r i frame named.resolution last in
    let bottom = fallen_last known s r i frame named.resolution named.band in
    subst (All (λ v. unsigned_abs v < 2 ^ 23)) (sym made) (rows_few s b (band_fallen s d r i) (band_fallen s e r i) f few lt (omega (arith, top, from)) (omega (arith, to, bottom)))

-- before the first row nothing is needed
pub need_first : (s : ComponentFrame) (f : ℕ → ℕ → ℕ → ℤ) (b old : ℕ) → old ≡ max old (made_need s s.rect.y0 s.rect.y0 f b)
need_first s f b old =
    let r : ℕ = band_resolution b in
    let i : ℕ = band_index b in
    let p = band_fallen s s.rect.y0 r i in
    let none : made_need s s.rect.y0 s.rect.y0 f b ≡ 0 = bits_none (raster (rows_between (band_at s r i) p p) (f b)) (ap (λ (l : List ℤ). length l) (no_rows (band_at s r i) p p (f b) (omega arith))) in
    omega (arith, none)

-- rows d up to e, and behind them those up to t
pub need_next : AreKnown → (s : ComponentFrame) (d e t b old now new : ℕ) (f : ℕ → ℕ → ℕ → ℤ) → IsFrame s → d ≤ e → e ≤ t → b < bands_in s → now ≡ max old (made_need s d e f b) → new ≡ max now (made_need s e t f b) → new ≡ max old (made_need s d t f b)
need_next known s d e t b old now new f frame order more lt was is =
    let named = is_named s b lt in
    let r : ℕ = band_resolution b in
    let i : ℕ = band_index b in
    let band = band_at s r i in
    let rows = joined band (band_fallen s d r i) (band_fallen s e r i) (band_fallen s t r i) (f b) (fallen_in_order known s d e r i frame named.resolution order) (fallen_in_order known s e t r i frame named.resolution more) in
    let all : max (made_need s d e f b) (made_need s e t f b) ≡ made_need s d t f b =
    sym (bits_joined (raster (rows_between band (band_fallen s d r i) (band_fallen s e r i)) (f b)) (raster (rows_between band (band_fallen s e r i) (band_fallen s t r i)) (f b))) ∙ ap (λ (xs : List ℤ). bit_length (greatest xs)) rows in
    omega (arith, was, is, all)

-- all rows
pub need_last : AreKnown → (s : ComponentFrame) (b : ℕ) (f : ℕ → ℕ → ℤ) → IsFrame s → b < bands_in s → made_need s s.rect.y0 s.rect.y1 (analysed s.rect s.coding.levels f) b ≡ band_need s f b
need_last known s b f frame lt =
    let named = is_named s b lt in
    let r : ℕ = band_resolution b in
    let i : ℕ = band_index b in
    let band = band_at s r i in
    let g = analysed s.rect s.coding.levels f b in
    ap (λ n. bit_length (greatest (raster (rows_between band n (band_fallen s s.rect.y1 r i)) g))) (fallen_first known s r i frame named.resolution named.band)
    ∙ ap (λ n. bit_length (greatest (raster (rows_between band band.y0 n) g))) (fallen_last known s r i frame named.resolution named.band)
    ∙ ap (λ (a : Rect). bit_length (greatest (raster a g))) (sym (area_is s b lt))

-- The levels of a component between two steps of its rows, of which nothing is kept.
pub record IsMeasured (s : ComponentFrame) (f : ℕ → ℕ → ℤ) (y : ℕ) (w : Falling) : Type 0 where
  pub low : s.rect.y0 ≤ y
  pub high : y ≤ s.rect.y1
  pub rect : w.rect ≡ s.rect
  pub levels : w.levels ≡ s.coding.levels
  pub place : w.y ≡ y
  pub taken : NoneLeft w
  pub given : IsGiven f w
