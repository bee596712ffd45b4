-- The rows that a list of pixels gives, one stripe below the other, are those of its picture.
use Rattle.std.proofs.Common.{◌≡◌, ℕ, ℤ, ◌+◌, ◌*◌, ◌-◌, ◌<◌, ◌≤◌, ◌⊎◌, List, [], ◌∷◌, length, map, get_or, pos, sym, ap, subst, ◌∙◌, inl, inr, arith}
use Rattle.std.proofs.lemmas.Bool.{cases_lt}
use Rattle.jk_math.specs.declared.fault.Fault.{Fault}
use Rattle.jk_math.specs.declared.fault.Fault.TheVariants.{BadParameters}
use Rattle.jk_math.specs.Picture.{Picture, IsPicture}
use Rattle.jk_params.specs.declared.picture_frame.PictureFrame.{PictureFrame}
use Rattle.jk_code.specs.Made.{rows_of}
use Rattle.jk_code.specs.Rows.{AreTaken}
use Rattle.jk_code.specs.RowsWritten.{WereAllGiven, HasMetBefore}
use Rattle.jk_code.proofs.Laws.{rows_sample}
use Rattle.jk_c.specs.declared.pixel_supply.PixelSupply.{PixelSupply}
use Rattle.jk_c.specs.Pictured.{pictured}
use Rattle.jk_c.specs.PixelsGiven.{picture_of, HasGivenRows, HasRefusedRows}
use Rattle.jk_c.proofs.PicturedLaws.{sample, stripe_sample, pictured_is}

-- ---- what was given

-- a place behind rows, and how far it is from them
record IsBehind (w y z k : ℕ) : Type 0 where
  below : k - y * w < (z - y) * w
  place : y * w + (k - y * w) ≡ k

behind : (w y z k : ℕ) → y ≤ z → y * w ≤ k → k < z * w → IsBehind w y z k
behind w y z k order low high =
    let sum : z ≡ (z - y) + y = omega (arith, order) in
    let parted : ((z - y) + y) * w ≡ (z - y) * w + y * w = grind arith in
    let both : z * w ≡ ((z - y) + y) * w = ap (λ n. n * w) sum in
    record { below = omega (arith, low, high, parted, both); place = omega (arith, low) }

-- the number at a place of the list
abbrev number_at : {X : Type 0} → (value : X → ℤ) → PixelSupply X → (k : ℕ) → ℤ
number_at value s k = get_or (map value s.pixels.now) k (pos 0)

-- where a stripe ends
given_end : {X : Type 0} (value : X → ℤ) (p : Picture) (s t : PixelSupply X) (y z : ℕ) → y < z → HasGivenRows value s (rows_of p y z) t → t.given ≡ s.given + (z - y)
given_end value p s t y z more g =
    let tall : z - y ≡ t.given - s.given = ap (λ (v : Picture). v.height) g.rows in
    omega (arith, tall, more)

-- its samples are those of the list
given_sample : {X : Type 0} (value : X → ℤ) (p : Picture) (s t : PixelSupply X) (y z c k : ℕ) → y < z → y ≡ p.y0 + s.given → p.width ≡ s.frame.width → length p.planes ≡ s.frame.components → c < length p.planes
    → HasGivenRows value s (rows_of p y z) t → s.given * p.width ≤ k → k < t.given * p.width → sample p.planes c k ≡ number_at value s (k * s.frame.components + c)
given_sample value p s t y z c k more here wide count lt g low high =
    let w = p.width in
    let end = given_end value p s t y z more g in
    let at = behind w s.given t.given k (omega (arith, end)) low high in
    let j : ℕ = k - s.given * w in
    let rows : t.given - s.given ≡ z - y = omega (arith, end) in
    let size : (t.given - s.given) * w ≡ (z - y) * w = ap (λ n. n * w) rows in
    let below = at.below in
    let less : j < (z - y) * w = omega (arith, below, size) in
    let first : (y - p.y0) * w + j ≡ k = (let down : y - p.y0 ≡ s.given = omega (arith, here) in ap (λ n. n * w + j) down ∙ at.place) in
    let own = rows_sample p y z c j (omega (arith, here)) lt less ∙ ap (λ i. sample p.planes c i) first in
    let few : j < (t.given - s.given) * s.frame.width = (let same : (t.given - s.given) * w ≡ (t.given - s.given) * s.frame.width = ap (λ n. (t.given - s.given) * n) wide in omega (arith, below, same)) in
    let other = stripe_sample s.frame (map value s.pixels.now) s.given t.given c j (omega (arith, lt, count)) few in
    let second : s.given * s.frame.width + j ≡ k = ap (λ n. s.given * n + j) (sym wide) ∙ at.place in
    sym own ∙ ap (λ (v : Picture). sample v.planes c j) g.rows ∙ other ∙ ap (λ i. number_at value s (i * s.frame.components + c)) second

-- the samples of all stripes
all_samples : {X : Type 0} (value : X → ℤ) (p : Picture) (stripes : List (ℕ × PixelSupply X)) (s t : PixelSupply X) (y z c k : ℕ) → y ≡ p.y0 + s.given → p.width ≡ s.frame.width → length p.planes ≡ s.frame.components → c < length p.planes
    → AreTaken (HasGivenRows value) p y z s stripes t → s.given * p.width ≤ k → k < (z - p.y0) * p.width → sample p.planes c k ≡ number_at value s (k * s.frame.components + c)
all_samples value p [] s t y z c k here wide count lt h low high =
    let end : y ≡ z = h.0 in
    let rows : z - p.y0 ≡ s.given = omega (arith, end, here) in
    let size : (z - p.y0) * p.width ≡ s.given * p.width = ap (λ n. n * p.width) rows in
    absurd (omega (arith, low, high, size))
all_samples {X} value p (x ∷ stripes) s t y z c k here wide count lt h low high =
    by (λ rest. all_samples value p stripes x.1 t x.0 z c k (omega (arith, end, here, more)) (wide ∙ sym (ap (λ (f : PictureFrame). f.width) frame)) (count ∙ sym (ap (λ (f : PictureFrame). f.components) frame)) lt h.3 rest high
    ∙ ap (λ (f : PictureFrame). number_at value x.1 (k * f.components + c)) frame
    ∙ ap (λ (pixels : List X). get_or (map value pixels) (k * s.frame.components + c) (pos 0)) h.2.pixels) (cases_lt k (x.1.given * p.width))
  where
    Same : Type 0
    Same = sample p.planes c k ≡ number_at value s (k * s.frame.components + c)

    more : y < x.0
    more = h.0

    end : x.1.given ≡ s.given + (x.0 - y)
    end = given_end value p s x.1 y x.0 more h.2

    frame : x.1.frame ≡ s.frame
    frame = h.2.frame

    by : (x.1.given * p.width ≤ k → Same) → (k < x.1.given * p.width) ⊎ (x.1.given * p.width ≤ k) → Same
    by go (inl less) = given_sample value p s x.1 y x.0 c k more here wide count lt h.2 low less
    by go (inr rest) = go rest

-- what gave them has the same picture
taken_same : {X : Type 0} (value : X → ℤ) (p : Picture) (stripes : List (ℕ × PixelSupply X)) (s t : PixelSupply X) (y z : ℕ) → AreTaken (HasGivenRows value) p y z s stripes t → picture_of value t ≡ picture_of value s
taken_same {X} value p [] s t y z h = ap (λ (r : PixelSupply X). picture_of value r) (sym h.1)
taken_same {X} value p (x ∷ stripes) s t y z h =
    taken_same value p stripes x.1 t x.0 z h.3
    ∙ ap (λ (f : PictureFrame). pictured f (map value x.1.pixels.now)) h.2.frame
    ∙ ap (λ (pixels : List X). pictured s.frame (map value pixels)) h.2.pixels

-- All rows that were given are those of the picture of the list.
pub all_given : {X : Type 0} (value : X → ℤ) (s t : PixelSupply X) (p : Picture) → s.given ≡ 0 → WereAllGiven (HasGivenRows value) s.frame s t p → p ≡ picture_of value s
all_given value s t p none given = pictured_is p s.frame (map value s.pixels.now) given.picture given.frame each
  where
    top : p.y0 ≡ s.frame.y0
    top = ap (λ (x : PictureFrame). x.y0) given.frame

    wide : p.width ≡ s.frame.width
    wide = ap (λ (x : PictureFrame). x.width) given.frame

    count : length p.planes ≡ s.frame.components
    count = ap (λ (x : PictureFrame). x.components) given.frame

    each : (c k : ℕ) → c < s.frame.components → k < s.frame.width * s.frame.height → sample p.planes c k ≡ number_at value s (k * s.frame.components + c)
    each c k lt less =
        let f = s.frame in
        let first : f.y0 ≡ p.y0 + s.given = omega (arith, top, none) in
        let start : s.given * p.width ≡ 0 * p.width = ap (λ n. n * p.width) none in
        let rows : f.y0 + f.height - p.y0 ≡ f.height = omega (arith, top) in
        let size : (f.y0 + f.height - p.y0) * p.width ≡ f.height * f.width = ap (λ n. n * p.width) rows ∙ ap (λ n. f.height * n) wide in
        let turn : f.height * f.width ≡ f.width * f.height = grind arith in
        all_samples value p given.rows.0 s t f.y0 (f.y0 + f.height) c k first wide count (omega (arith, lt, count)) given.rows.1 (omega (arith, start)) (omega (arith, less, size, turn))

-- A fault that was met in place of rows is BadParameters, and that picture is outside the profile.
pub met_outside : {X : Type 0} (value : X → ℤ) (s t : PixelSupply X) (e : Fault) → HasMetBefore (HasGivenRows value) (HasRefusedRows value) s.frame s t e → (e ≡ BadParameters) × (IsPicture (picture_of value s) → ⊥)
met_outside {X} value s t e m =
    let same = taken_same value m.picture m.given.rows.0 s m.before s.frame.y0 m.next m.given.rows.1 in
    (m.fault.fault, λ is. m.fault.outside (subst IsPicture (sym same) is))
