-- A component whose rows of samples come one after another: how far its sub-bands are made, of what, and how great their
-- coefficients are.
use Rattle.std.proofs.Common.{◌≡◌, ℕ, zero, suc, ◌+◌, ◌-◌, ◌*◌, ◌/◌, ◌%◌, ◌^◌, ◌<◌, ◌≤◌, cond, List, [], ◌∷◌, ◌++◌, length, get_or, All, ℤ, unsigned_abs, refl, sym, ap, subst, ◌∙◌, arith}
use Rattle.std.proofs.lemmas.Bool.{eq-eqb, ne_eqb}
use Rattle.std.proofs.lemmas.Int.{ints}
use Rattle.jk_math.specs.declared.rect.Rect.{Rect}
use Rattle.jk_math.specs.Raster.{columns_of, raster}
use Rattle.jk_math.proofs.Laws.{raster_length}
use Rattle.jk_math.specs.Signed.{IsBelow}
use Rattle.jk_geom.specs.Rectangles.{IsWithin, resolution_area}
use Rattle.jk_wave.specs.Analysis.{reduced, analysed}
use Rattle.jk_wave.specs.Bands.{numbered_area}
use Rattle.jk_wave.specs.Levels.{half_bound, half_area, part_list}
use Rattle.jk_wave.specs.SourceRows.{AreBelow}
use Rattle.jk_wave.specs.climbing.Held.{rows_between}
use Rattle.jk_wave.specs.declared.falling.level.FallingLevel.{FallingLevel}
use Rattle.jk_wave.specs.declared.falling.stack.Falling.{Falling}
use Rattle.jk_wave.specs.falling.Intervals.{rows_fallen, rows_given, FallsNone, FallsAll, FallsInOrder, GivenNone, GivenAll, GivenInOrder}
use Rattle.jk_wave.specs.falling.Stack.{fallen_of, fallen_rows, reduced_rows, GivesBands, KeepsAll}
use Rattle.jk_wave.proofs.Halves.{number_area, lowest_area}
use Rattle.jk_wave.proofs.Laws.{resolution_is_area, has_planes, no_rows}
use Rattle.jk_walk.specs.TilePackets.{orientations, band_number}
use Rattle.jk_tile.specs.TileBlocks.{band_resolution, band_index}
use Rattle.jk_tile.specs.encoding.Strips.{ComponentFrame, IsFrame, band_at, bands_in, own_band, IsBetweenRows}
use Rattle.jk_tile.specs.declared.encoding.strips.BandStrips.{BandStrips}
use Rattle.jk_tile.specs.encoding.FallingComponents.{band_fallen, IsBandUpto, HasMade, AreFew, NoneLeft, AreSixteen}
use Rattle.jk_tile.proofs.encoding.Forwards.{raster_few, raster_small}
use Rattle.jk_tile.proofs.encoding.WrittenBlocks.{numbered_is}

-- what is known of the levels
pub record AreKnown : Type 0 where
  pub falls_none : FallsNone
  pub falls_all : FallsAll
  pub falls_in_order : FallsInOrder
  pub given_none : GivenNone
  pub given_all : GivenAll
  pub given_in_order : GivenInOrder

given_suc : (rect : Rect) (levels e n : ℕ) → rows_given rect levels e (suc n) ≡ half_bound (rows_fallen (resolution_area rect levels (levels - n)) (rows_given rect levels e n)) 0
unfolding rows_given
given_suc rect levels e n = refl

given_more : (rect : Rect) (levels e n : ℕ) → rows_given rect levels e (n + 1) ≡ half_bound (rows_fallen (resolution_area rect levels (levels - n)) (rows_given rect levels e n)) 0
given_more rect levels e n = let one : n + 1 ≡ suc n = omega arith in ap (rows_given rect levels e) one ∙ given_suc rect levels e n

pub given_first : (rect : Rect) (levels e : ℕ) → rows_given rect levels e 0 ≡ e
unfolding rows_given
given_first rect levels e = refl

-- of the lowest resolution, and of one above it
pub fallen_low : (s : ComponentFrame) (e r i : ℕ) → r ≡ 0 → band_fallen s e r i ≡ rows_given s.rect s.coding.levels e s.coding.levels
unfolding band_fallen
fallen_low s e r i h = ap (λ b. cond b (rows_given s.rect s.coding.levels e s.coding.levels) (half_bound (fallen_of s.rect s.coding.levels e (s.coding.levels - r)) ((i + 1) / 2))) (eq-eqb r 0 h)

pub fallen_high : (s : ComponentFrame) (e r i : ℕ) → 0 < r → band_fallen s e r i ≡ half_bound (fallen_of s.rect s.coding.levels e (s.coding.levels - r)) ((i + 1) / 2)
unfolding band_fallen
fallen_high s e r i h = ap (λ b. cond b (rows_given s.rect s.coding.levels e s.coding.levels) (half_bound (fallen_of s.rect s.coding.levels e (s.coding.levels - r)) ((i + 1) / 2))) (ne_eqb r 0 (λ e. absurd (omega (arith, e, h))))

-- their rectangles
low_is : (s : ComponentFrame) (i : ℕ) → i < length (orientations 0) → band_at s 0 i ≡ resolution_area s.rect s.coding.levels (s.coding.levels - s.coding.levels)
low_is s i lt =
    let none : 0 ≡ s.coding.levels - s.coding.levels = omega arith in
    let first : i ≡ 0 = omega (arith, lt) in
    ap (band_at s 0) first ∙ sym (numbered_is s.rect s.coding.levels 0 0 (omega arith)) ∙ lowest_area s.rect s.coding.levels ∙ ap (resolution_area s.rect s.coding.levels) none

high_is : (s : ComponentFrame) (q i : ℕ) → suc q ≤ s.coding.levels → i < length (orientations (suc q)) → band_at s (suc q) i ≡ half_area (resolution_area s.rect s.coding.levels (s.coding.levels - (s.coding.levels - suc q))) (i + 1)
high_is s q i le lt =
    let number : 3 * q + 1 + i ≡ 3 * q + (i + 1) = omega arith in
    let level : q + 1 ≡ s.coding.levels - (s.coding.levels - suc q) = omega (arith, le) in
    sym (numbered_is s.rect s.coding.levels (suc q) i lt) ∙ ap (numbered_area s.rect s.coding.levels) number ∙ number_area s.rect s.coding.levels q (i + 1) (omega (arith, le)) (omega arith) (omega (arith, lt))
    ∙ ap (λ r. half_area (resolution_area s.rect s.coding.levels r) (i + 1)) level

-- before the first row, behind the last, and in between
pub fallen_first : AreKnown → (s : ComponentFrame) (r i : ℕ) → IsFrame s → r ≤ s.coding.levels → i < length (orientations r) → band_fallen s s.rect.y0 r i ≡ (band_at s r i).y0
fallen_first known s zero i frame le lt = fallen_low s s.rect.y0 0 i refl ∙ known.given_none s.rect s.coding.levels s.coding.levels frame.area (omega arith) ∙ ap (λ (a : Rect). a.y0) (sym (low_is s i lt))
fallen_first known s (suc q) i frame le lt =
    let n : ℕ = s.coding.levels - suc q in
    let a = resolution_area s.rect s.coding.levels (s.coding.levels - n) in
    fallen_high s s.rect.y0 (suc q) i (omega arith)
    ∙ ap (λ y. half_bound y ((i + 1) / 2)) (ap (rows_fallen a) (known.given_none s.rect s.coding.levels n frame.area (omega arith)) ∙ known.falls_none a (resolution_is_area s.rect s.coding.levels (s.coding.levels - n) frame.area))
    ∙ ap (λ (b : Rect). b.y0) (sym (high_is s q i le lt))

pub fallen_last : AreKnown → (s : ComponentFrame) (r i : ℕ) → IsFrame s → r ≤ s.coding.levels → i < length (orientations r) → band_fallen s s.rect.y1 r i ≡ (band_at s r i).y1
fallen_last known s zero i frame le lt = fallen_low s s.rect.y1 0 i refl ∙ known.given_all s.rect s.coding.levels s.coding.levels frame.area (omega arith) ∙ ap (λ (a : Rect). a.y1) (sym (low_is s i lt))
fallen_last known s (suc q) i frame le lt =
    let n : ℕ = s.coding.levels - suc q in
    let a = resolution_area s.rect s.coding.levels (s.coding.levels - n) in
    let all = known.given_all s.rect s.coding.levels n frame.area (omega arith) in
    fallen_high s s.rect.y1 (suc q) i (omega arith)
    ∙ ap (λ y. half_bound y ((i + 1) / 2)) (known.falls_all a (rows_given s.rect s.coding.levels s.rect.y1 n) (omega (arith, all)))
    ∙ ap (λ (b : Rect). b.y1) (sym (high_is s q i le lt))

half_rises : (m n o : ℕ) → m ≤ n → half_bound m o ≤ half_bound n o
half_rises m n o le = omega (arith, le)

pub fallen_in_order : AreKnown → (s : ComponentFrame) (d e r i : ℕ) → IsFrame s → r ≤ s.coding.levels → d ≤ e → band_fallen s d r i ≤ band_fallen s e r i
fallen_in_order known s d e zero i frame le order =
    let first = fallen_low s d 0 i refl in
    let last = fallen_low s e 0 i refl in
    let rise = known.given_in_order s.rect s.coding.levels d e s.coding.levels frame.area order in
    omega (arith, first, last, rise)
fallen_in_order known s d e (suc q) i frame le order =
    let n : ℕ = s.coding.levels - suc q in
    let a = resolution_area s.rect s.coding.levels (s.coding.levels - n) in
    let first = fallen_high s d (suc q) i (omega arith) in
    let last = fallen_high s e (suc q) i (omega arith) in
    let rise = known.falls_in_order a (rows_given s.rect s.coding.levels d n) (rows_given s.rect s.coding.levels e n) (resolution_is_area s.rect s.coding.levels (s.coding.levels - n) frame.area) (known.given_in_order s.rect s.coding.levels d e n frame.area order) in
    let half = half_rises (fallen_of s.rect s.coding.levels d n) (fallen_of s.rect s.coding.levels e n) ((i + 1) / 2) rise in
    omega (arith, first, last, half)

-- ---- what the levels make

high_at : (s : ComponentFrame) (r i : ℕ) → 0 < r → r ≤ s.coding.levels → i < 3 → band_at s r i ≡ half_area (resolution_area s.rect s.coding.levels r) (i + 1)
high_at s zero i some le lt = absurd (omega (arith, some))
high_at s (suc q) i some le lt =
    let number : 3 * q + 1 + i ≡ 3 * q + (i + 1) = omega arith in
    let level : q + 1 ≡ suc q = omega arith in
    sym (numbered_is s.rect s.coding.levels (suc q) i lt) ∙ ap (numbered_area s.rect s.coding.levels) number ∙ number_area s.rect s.coding.levels q (i + 1) (omega (arith, le)) (omega arith) (omega (arith, lt))
    ∙ ap (λ r. half_area (resolution_area s.rect s.coding.levels r) (i + 1)) level

lowest_is : (a : Rect) (levels : ℕ) (f : ℕ → ℕ → ℤ) → reduced a levels f levels ≡ analysed a levels f 0
unfolding analysed
lowest_is a levels f = refl

high_made : (s : ComponentFrame) (d e n o : ℕ) (f : ℕ → ℕ → ℤ) → n < s.coding.levels → o < 3 → fallen_rows s.rect s.coding.levels d e f n (o + 1)
    ≡ raster (rows_between (band_at s (s.coding.levels - n) o) (band_fallen s d (s.coding.levels - n) o) (band_fallen s e (s.coding.levels - n) o)) (analysed s.rect s.coding.levels f (3 * (s.coding.levels - (n + 1)) + (o + 1)))
high_made s d e n o f less few =
    let l : ℕ = s.coding.levels in
    let r : ℕ = l - n in
    let back : n ≡ l - r = omega (arith, less) in
    let a = resolution_area s.rect l r in
    let g = analysed s.rect l f (3 * (l - (n + 1)) + (o + 1)) in
    let p : half_bound (fallen_of s.rect l d n) ((o + 1) / 2) ≡ band_fallen s d r o = ap (λ m. half_bound (fallen_of s.rect l d m) ((o + 1) / 2)) back ∙ sym (fallen_high s d r o (omega (arith, less))) in
    let q : half_bound (fallen_of s.rect l e n) ((o + 1) / 2) ≡ band_fallen s e r o = ap (λ m. half_bound (fallen_of s.rect l e m) ((o + 1) / 2)) back ∙ sym (fallen_high s e r o (omega (arith, less))) in
    ap (λ (b : Rect). raster (rows_between b (half_bound (fallen_of s.rect l d n) ((o + 1) / 2)) (half_bound (fallen_of s.rect l e n) ((o + 1) / 2))) g) (sym (high_at s r o (omega (arith, less)) (omega arith) few))
    ∙ ap (λ m. raster (rows_between (band_at s r o) m (half_bound (fallen_of s.rect l e n) ((o + 1) / 2))) g) p ∙ ap (λ m. raster (rows_between (band_at s r o) (band_fallen s d r o) m) g) q

low_made : (s : ComponentFrame) (d e : ℕ) (f : ℕ → ℕ → ℤ) → reduced_rows s.rect s.coding.levels d e f s.coding.levels ≡ raster (rows_between (band_at s 0 0) (band_fallen s d 0 0) (band_fallen s e 0 0)) (analysed s.rect s.coding.levels f 0)
low_made s d e f =
    let l : ℕ = s.coding.levels in
    ap (raster (rows_between (resolution_area s.rect l (l - l)) (rows_given s.rect l d l) (rows_given s.rect l e l))) (lowest_is s.rect l f)
    ∙ ap (λ (b : Rect). raster (rows_between b (rows_given s.rect l d l) (rows_given s.rect l e l)) (analysed s.rect l f 0)) (sym (low_is s 0 (omega arith)))
    ∙ ap (λ m. raster (rows_between (band_at s 0 0) m (rows_given s.rect l e l)) (analysed s.rect l f 0)) (sym (fallen_low s d 0 0 refl))
    ∙ ap (λ m. raster (rows_between (band_at s 0 0) (band_fallen s d 0 0) m) (analysed s.rect l f 0)) (sym (fallen_low s e 0 0 refl))

pub has_made : (s : ComponentFrame) (old new : Falling) (f : ℕ → ℕ → ℤ) (d e : ℕ) → old.rect ≡ s.rect → old.levels ≡ s.coding.levels → NoneLeft old → GivesBands old.rect old.levels d e f old.all.items new.all.items
    → new.low.items ≡ old.low.items ++ reduced_rows old.rect old.levels d e f old.levels → HasMade s d e (analysed s.rect s.coding.levels f) new
has_made s old new f d e er el taken gives low = record {
  low = low ∙ ap (λ (l : List ℤ). l ++ reduced_rows old.rect old.levels d e f old.levels) taken.low ∙ ap (λ (a : Rect). reduced_rows a old.levels d e f old.levels) er ∙ ap (λ l. reduced_rows s.rect l d e f l) el ∙ low_made s d e f;
  high = λ n o other less few.
      let within : n < old.levels = omega (arith, less, el) in
      gives n (o + 1) other within (omega arith) (omega (arith, few)) ∙ ap (λ (l : List ℤ). l ++ fallen_rows old.rect old.levels d e f n (o + 1)) (taken.high n (o + 1) other within (omega arith) (omega (arith, few)))
      ∙ ap (λ (a : Rect). fallen_rows a old.levels d e f n (o + 1)) er ∙ ap (λ l. fallen_rows s.rect l d e f n (o + 1)) el ∙ high_made s d e n o f less few;
}

-- ---- how great they are

pub are_few : (s : ComponentFrame) (f : ℕ → ℕ → ℤ) → IsFrame s → AreSixteen s f → AreFew s (analysed s.rect s.coding.levels f)
are_few s f frame small b x y lt h = has_planes s.rect s.coding.levels f b x y frame.few_levels (omega (arith, lt)) small h

below : (z : ℤ) → unsigned_abs z ≤ 65535 → IsBelow (2 ^ 17) z
below z h = (omega (arith, ints, h), omega (arith, ints, h))

pub samples_below : (s : ComponentFrame) (rect : Rect) (f : ℕ → ℕ → ℤ) → rect ≡ s.rect → AreSixteen s f → AreBelow (2 ^ 17) rect f
samples_below s rect f e small x y h = below (f x y) (small x y (subst (λ (a : Rect). IsWithin a x y) e (record { left = h.left; right = h.right; upper = h.upper; lower = h.lower })))

-- ---- step by step

pub next_given : (s : ComponentFrame) (rect area : Rect) (levels e n t made : ℕ) → rect ≡ s.rect → levels ≡ s.coding.levels → area ≡ resolution_area rect levels (levels - n) → t ≡ rows_given s.rect s.coding.levels e n → made ≡ rows_fallen area t
    → (made + 1) / 2 ≡ rows_given s.rect s.coding.levels e (n + 1)
next_given s rect area levels e n t made er el ea et em =
    let is : made ≡ rows_fallen (resolution_area s.rect s.coding.levels (s.coding.levels - n)) (rows_given s.rect s.coding.levels e n) =
    em ∙ ap (rows_fallen area) et ∙ ap (λ (a : Rect). rows_fallen a (rows_given s.rect s.coding.levels e n)) (ea ∙ ap (λ (a : Rect). resolution_area a levels (levels - n)) er ∙ ap (λ l. resolution_area s.rect l (l - n)) el) in
    (let half : (made + 1) / 2 ≡ half_bound made 0 = omega arith in half) ∙ ap (λ m. half_bound m 0) is ∙ sym (given_more s.rect s.coding.levels e n)

pub end_low : (s : ComponentFrame) (e r i n t levels : ℕ) → levels ≡ s.coding.levels → r ≡ 0 → n ≡ levels - r → t ≡ rows_given s.rect s.coding.levels e n → t ≡ band_fallen s e r i
end_low s e r i n t levels el none en et = et ∙ ap (rows_given s.rect s.coding.levels e) (omega (arith, en, none, el)) ∙ sym (fallen_low s e r i none)

pub end_high : (s : ComponentFrame) (rect area : Rect) (e r i n t made levels : ℕ) → rect ≡ s.rect → levels ≡ s.coding.levels → 0 < r → r ≤ s.coding.levels → n ≡ levels - r → area ≡ resolution_area rect levels r → t ≡ rows_given s.rect s.coding.levels e n
    → made ≡ rows_fallen area t → (made + 1 - (i + 1) / 2) / 2 ≡ band_fallen s e r i
end_high s rect area e r i n t made levels er el some le en ea et em =
    let l : ℕ = s.coding.levels in
    let back : r ≡ l - (l - r) = omega (arith, le) in
    let number : n ≡ l - r = omega (arith, en, el) in
    let is : made ≡ fallen_of s.rect l e (l - r) =
    em ∙ ap (rows_fallen area) (et ∙ ap (rows_given s.rect l e) number)
    ∙ ap (λ (a : Rect). rows_fallen a (rows_given s.rect l e (l - r))) (ea ∙ ap (λ (a : Rect). resolution_area a levels r) er ∙ ap (λ m. resolution_area s.rect m r) el ∙ ap (resolution_area s.rect l) back) in
    ap (λ m. half_bound m ((i + 1) / 2)) is ∙ sym (fallen_high s e r i some)

-- ---- sub-bands by their numbers

pub name_high : (b : ℕ) → 0 < b → (band_resolution b ≡ (b - 1) / 3 + 1) × (band_index b ≡ (b - 1) % 3)
name_high zero some = absurd (omega (arith, some))
name_high (suc c) some = (let e : c ≡ suc c - 1 = omega arith in (ap (λ n. n / 3 + 1) e, ap (λ n. n % 3) e))

-- of a sub-band that the component has
pub record IsNamed (s : ComponentFrame) (b : ℕ) : Type 0 where
  pub resolution : band_resolution b ≤ s.coding.levels
  pub band : band_index b < length (orientations (band_resolution b))
  pub number : band_number (band_resolution b) (band_index b) ≡ b

pub is_named : (s : ComponentFrame) (b : ℕ) → b < bands_in s → IsNamed s b
is_named s zero lt = record { resolution = omega arith; band = omega arith; number = refl }
is_named s (suc c) lt =
    let up : c / 3 + 1 ≡ suc (c / 3) = omega arith in
    record {
      resolution = omega (arith, lt);
      band = subst (λ r. c % 3 < length (orientations r)) (sym up) (let few : c % 3 < 3 = omega arith in few);
      number = ap (λ r. band_number r (c % 3)) up ∙ (let e : 3 * (c / 3) + 1 + c % 3 ≡ suc c = omega arith in e);
    }

-- one of a list that has some
pub some_of : (T : Type 0) (all : List T) (n : ℕ) → n < length all → T
some_of T [] n lt = absurd (omega (arith, lt))
some_of T (x ∷ all) n lt = x

-- the rows of a sub-band that were made
pub made_of : (s : ComponentFrame) (d e b : ℕ) (f : ℕ → ℕ → ℕ → ℤ) (w : Falling) (rows : List ℤ) → HasMade s d e f w → w.levels ≡ s.coding.levels → length w.all.items ≡ w.levels → b < bands_in s → (b ≡ 0 → rows ≡ w.low.items)
    → ((n o : ℕ) (other : FallingLevel) → n < w.levels → 0 < o → o < 4 → b ≡ 3 * (w.levels - (n + 1)) + o → rows ≡ part_list (get_or w.all.items n other).parts o)
    → rows ≡ raster (rows_between (band_at s (band_resolution b) (band_index b)) (band_fallen s d (band_resolution b) (band_index b)) (band_fallen s e (band_resolution b) (band_index b))) (f b)
made_of s d e zero f w rows made el count lt low high = low refl ∙ made.low
made_of s d e (suc c) f w rows made el count lt low high =
    let l : ℕ = s.coding.levels in
    let r : ℕ = c / 3 + 1 in
    let o : ℕ = c % 3 in
    let n : ℕ = l - r in
    let less : n < w.levels = omega (arith, lt, el) in
    let few : o < 3 = omega arith in
    let other = some_of FallingLevel w.all.items n (omega (arith, less, count)) in
    let number : suc c ≡ 3 * (w.levels - (n + 1)) + (o + 1) = omega (arith, lt, el) in
    let own : 3 * (l - (n + 1)) + (o + 1) ≡ suc c = omega (arith, lt) in
    let back : l - n ≡ r = omega (arith, lt) in
    high n (o + 1) other less (omega arith) (omega (arith, few)) number ∙ made.high n o other (omega (arith, lt)) few
    ∙ ap (λ m. raster (rows_between (band_at s m o) (band_fallen s d m o) (band_fallen s e m o)) (f (3 * (l - (n + 1)) + (o + 1)))) back
    ∙ ap (λ m. raster (rows_between (band_at s r o) (band_fallen s d r o) (band_fallen s e r o)) (f m)) own

-- their rectangle
pub area_is : (s : ComponentFrame) (b : ℕ) → b < bands_in s → numbered_area s.rect s.coding.levels b ≡ band_at s (band_resolution b) (band_index b)
area_is s b lt =
    let named = is_named s b lt in
    ap (numbered_area s.rect s.coding.levels) (sym named.number) ∙ numbered_is s.rect s.coding.levels (band_resolution b) (band_index b) named.band

-- how many there are, and how great
pub rows_few : (s : ComponentFrame) (b p q : ℕ) (f : ℕ → ℕ → ℕ → ℤ) → AreFew s f → b < bands_in s → (band_at s (band_resolution b) (band_index b)).y0 ≤ p → q ≤ (band_at s (band_resolution b) (band_index b)).y1
    → All (λ v. unsigned_abs v < 2 ^ 23) (raster (rows_between (band_at s (band_resolution b) (band_index b)) p q) (f b))
rows_few s b p q f few lt low high =
    let band = band_at s (band_resolution b) (band_index b) in
    let is = area_is s b lt in
    raster_few (2 ^ 23) (rows_between band p q) (f b) (λ x y h.
    let hl = h.left in let hr = h.right in let hu = h.upper in let hd = h.lower in
    few b x y lt (subst (λ (a : Rect). IsWithin a x y) (sym is) (record { left = hl; right = hr; upper = omega (arith, low, hu); lower = omega (arith, high, hd) })))

-- ---- the strips of a sub-band

pub first_band : AreKnown → (s : ComponentFrame) (b r i : ℕ) (x : BandStrips) → IsFrame s → b < bands_in s → r ≡ band_resolution b → i ≡ band_index b → x.resolution ≡ r → x.band ≡ i → x.area.y1 ≡ (band_at s r i).y0 → IsBetweenRows s x → IsBandUpto s s.rect.y0 b x
first_band known s b r i x frame lt er ei xr xi next holds =
    let named = is_named s b lt in record {
      resolution = xr ∙ er;
      band = xi ∙ ei;
      next = next ∙ ap (λ n. (band_at s n i).y0) er ∙ ap (λ n. (band_at s (band_resolution b) n).y0) ei ∙ sym (fallen_first known s (band_resolution b) (band_index b) frame named.resolution named.band);
      holds = holds;
    }

-- the rows that are put into them
pub record ArePut (s : ComponentFrame) (x : BandStrips) (end : ℕ) (rows : List ℤ) : Type 0 where
  pub order : x.area.y1 ≤ end
  pub inside : end ≤ (own_band s x).y1
  pub long : length rows ≡ (end - x.area.y1) * columns_of x.area
  pub small : All (λ v. unsigned_abs v < 2 ^ 23) rows

pub own_is : (s : ComponentFrame) (d b : ℕ) (x : BandStrips) → IsBandUpto s d b x → own_band s x ≡ band_at s (band_resolution b) (band_index b)
own_is s d b x is = ap (λ r. band_at s r x.band) is.resolution ∙ ap (band_at s (band_resolution b)) is.band

end_is : (s : ComponentFrame) (d e b end : ℕ) (x : BandStrips) → IsBandUpto s d b x → end ≡ band_fallen s e x.resolution x.band → end ≡ band_fallen s e (band_resolution b) (band_index b)
end_is s d e b end x is e_is = e_is ∙ ap (λ r. band_fallen s e r x.band) is.resolution ∙ ap (band_fallen s e (band_resolution b)) is.band

pub are_put : AreKnown → (s : ComponentFrame) (d e b end : ℕ) (f : ℕ → ℕ → ℕ → ℤ) (x : BandStrips) (rows : List ℤ) → IsFrame s → d ≤ e → e ≤ s.rect.y1 → b < bands_in s → IsBandUpto s d b x → AreFew s f → end ≡ band_fallen s e x.resolution x.band
    → rows ≡ raster (rows_between (band_at s (band_resolution b) (band_index b)) (band_fallen s d (band_resolution b) (band_index b)) (band_fallen s e (band_resolution b) (band_index b))) (f b) → ArePut s x end rows
are_put known s d e b end f x rows frame order last lt is few e_is made =
    let named = is_named s b lt in
    let r : ℕ = band_resolution b in
    let i : ℕ = band_index b in
    let own = own_is s d b x is in
    let to = end_is s d e b end x is e_is in
    let rise = fallen_in_order known s d e r i frame named.resolution order in
    let behind = fallen_in_order known s e s.rect.y1 r i frame named.resolution last in
    let all = fallen_last known s r i frame named.resolution named.band in
    let next = is.next in
    let holds = is.holds.0 in
    let top = ap (λ (a : Rect). a.y0) own in
    let bottom = ap (λ (a : Rect). a.y1) own in
    let upper = holds.upper in let low = holds.order in
    let left = holds.left in let right = holds.right in
    let x0 = ap (λ (a : Rect). a.x0) own in let x1 = ap (λ (a : Rect). a.x1) own in
    let wide : columns_of x.area ≡ columns_of (band_at s r i) = omega (arith, left, right, x0, x1) in
    let high : end - x.area.y1 ≡ band_fallen s e r i - band_fallen s d r i = omega (arith, to, next) in
    record {
      order = omega (arith, to, next, rise);
      inside = omega (arith, to, behind, all, bottom);
      long = ap (λ (l : List ℤ). length l) made ∙ raster_length (rows_between (band_at s r i) (band_fallen s d r i) (band_fallen s e r i)) (f b) ∙ ap (λ n. n * columns_of (band_at s r i)) (sym high) ∙ ap (λ n. (end - x.area.y1) * n) (sym wide);
      small = subst (All (λ v. unsigned_abs v < 2 ^ 23)) (sym made) (rows_few s b (band_fallen s d r i) (band_fallen s e r i) f few lt (omega (arith, top, upper, low, next)) (omega (arith, behind, all)));
    }

-- which they are
pub rows_put : (s : ComponentFrame) (d e b end : ℕ) (f : ℕ → ℕ → ℕ → ℤ) (x : BandStrips) (rows : List ℤ) → b < bands_in s → IsBandUpto s d b x → end ≡ band_fallen s e x.resolution x.band
    → rows ≡ raster (rows_between (band_at s (band_resolution b) (band_index b)) (band_fallen s d (band_resolution b) (band_index b)) (band_fallen s e (band_resolution b) (band_index b))) (f b)
    → rows ≡ raster (rows_between (own_band s x) x.area.y1 end) (f (band_number x.resolution x.band))
rows_put s d e b end f x rows lt is e_is made =
    let r : ℕ = band_resolution b in
    let i : ℕ = band_index b in
    let number : b ≡ band_number x.resolution x.band = sym (ap (λ n. band_number n x.band) is.resolution ∙ ap (band_number r) is.band ∙ (is_named s b lt).number) in
    made ∙ ap (λ n. raster (rows_between (band_at s r i) n (band_fallen s e r i)) (f b)) (sym is.next) ∙ ap (λ n. raster (rows_between (band_at s r i) x.area.y1 n) (f b)) (sym (end_is s d e b end x is e_is))
    ∙ ap (λ (a : Rect). raster (rows_between a x.area.y1 end) (f b)) (sym (own_is s d b x is)) ∙ ap (λ n. raster (rows_between (own_band s x) x.area.y1 end) (f n)) number

pub next_band : (s : ComponentFrame) (d e b end : ℕ) (x new : BandStrips) → IsBandUpto s d b x → end ≡ band_fallen s e x.resolution x.band → new.resolution ≡ x.resolution → new.band ≡ x.band → new.area.y1 ≡ end → IsBetweenRows s new → IsBandUpto s e b new
next_band s d e b end x new is e_is er ei next holds = record { resolution = er ∙ is.resolution; band = ei ∙ is.band; next = next ∙ end_is s d e b end x is e_is; holds = holds }

-- and the same ones stand before the same row
pub band_stays : (s : ComponentFrame) (e b : ℕ) (x new : BandStrips) → IsBandUpto s e b x → new.resolution ≡ x.resolution → new.band ≡ x.band → new.area ≡ x.area → IsBetweenRows s new → IsBandUpto s e b new
band_stays s e b x new is er ei ea holds = record { resolution = er ∙ is.resolution; band = ei ∙ is.band; next = ap (λ (a : Rect). a.y1) ea ∙ is.next; holds = holds }

-- ---- all of it

nothing_fallen : (rect : Rect) (levels d e n o : ℕ) (f : ℕ → ℕ → ℤ) → d ≡ e → fallen_rows rect levels d e f n o ≡ []
nothing_fallen rect levels d e n o f same =
    let a = resolution_area rect levels (levels - n) in
    ap (λ k. fallen_rows rect levels k e f n o) same ∙ no_rows (half_area a o) (half_bound (fallen_of rect levels e n) (o / 2)) (half_bound (fallen_of rect levels e n) (o / 2)) (analysed rect levels f (3 * (levels - (n + 1)) + o)) (omega arith)

nothing_reduced : (rect : Rect) (levels d e n : ℕ) (f : ℕ → ℕ → ℤ) → d ≡ e → reduced_rows rect levels d e f n ≡ []
nothing_reduced rect levels d e n f same =
    ap (λ k. reduced_rows rect levels k e f n) same ∙ no_rows (resolution_area rect levels (levels - n)) (rows_given rect levels e n) (rows_given rect levels e n) (reduced rect levels f n) (omega arith)

pub first_left : (w : Falling) (f : ℕ → ℕ → ℤ) → w.y ≡ w.rect.y0 → KeepsAll f w → NoneLeft w
first_left w f first keeps = record {
  high = λ n o other less some few. keeps.high n o other less some few ∙ nothing_fallen w.rect w.levels w.rect.y0 w.y n o f (sym first);
  low = keeps.low ∙ nothing_reduced w.rect w.levels w.rect.y0 w.y w.levels f (sym first);
}

-- rows of samples as the levels take them
pub rows_taken : (s : ComponentFrame) (w : Falling) (y e : ℕ) (f : ℕ → ℕ → ℤ) (rows : List ℤ) → w.rect ≡ s.rect → w.y ≡ y → rows ≡ raster (rows_between s.rect y e) f → rows ≡ raster (rows_between w.rect w.y e) f
rows_taken s w y e f rows er ey is = is ∙ ap (λ (a : Rect). raster (rows_between a y e) f) (sym er) ∙ ap (λ n. raster (rows_between w.rect n e) f) (sym ey)

pub rows_small : (s : ComponentFrame) (y e : ℕ) (f : ℕ → ℕ → ℤ) (rows : List ℤ) → s.rect.y0 ≤ y → e ≤ s.rect.y1 → AreSixteen s f → rows ≡ raster (rows_between s.rect y e) f → All (IsBelow (2 ^ 17)) rows
rows_small s y e f rows low high small is =
    subst (All (IsBelow (2 ^ 17))) (sym is) (raster_small (2 ^ 17) (rows_between s.rect y e) f (λ x v h.
    let hl = h.left in let hr = h.right in let hu = h.upper in let hd = h.lower in
    below (f x v) (small x v (record { left = hl; right = hr; upper = omega (arith, hu, low); lower = omega (arith, hd, high) }))))
