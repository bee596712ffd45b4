-- The rows of the image of a file, given one stripe below the other, are those of its picture.
use Rattle.std.proofs.Common.{◌≡◌, ℕ, ◌+◌, ◌*◌, ◌-◌, ◌<◌, ◌≤◌, ◌⊎◌, Bool, true, false, List, [], ◌∷◌, length, map, get_or, drop, ℤ, pos, ◌≤ℤ◌, sym, ap, subst, ◌∙◌, inl, inr, arith}
use Rattle.std.specs.List.{range_with_len}
use Rattle.std.proofs.lemmas.Bool.{cases_lt}
use Rattle.std.proofs.lemmas.List.{length-map, get_or-map, get_or-take, get_or-drop, get_or_default, ext_get_or}
use Rattle.std.proofs.lemmas.List.FromFn.{length-map-range_with_len, get_or-map-range_with_len}
use Rattle.jk_math.specs.Picture.{Picture, IsPicture, IsPlane, IsFrame, lowest, greatest}
use Rattle.jk_params.specs.declared.picture_frame.PictureFrame.{PictureFrame}
use Rattle.jk_params.specs.PictureFrames.{frame_of}
use Rattle.jk_pnm.specs.Pnm.{components_of, plane_from, planes_from}
use Rattle.jk_pnm.specs.RasterRows.{Drawing, drawn, plane_rows, rows_moved}
use Rattle.jk_code.specs.Made.{rows_of}
use Rattle.jk_code.specs.Rows.{AreTaken, WereTaken}
use Rattle.jk_code.specs.RowsWritten.{WereAllGiven}
use Rattle.jk_code.proofs.Laws.{rows_sample}
use Rattle.jk_options.specs.Plans.{at_place}
use Rattle.jk_commands.specs.declared.encoding_rows.FileRows.{FileRows}
use Rattle.jk_commands.specs.RowReading.{placed_rows, HasGiven}

-- ---- what is drawn

planes_drawn : (maxval n pixels : ℕ) (raster : List ℕ) → length (map (map pos) (planes_from maxval n pixels raster)) ≡ n
unfolding planes_from
planes_drawn maxval n pixels raster =
    length-map (map (plane_from maxval n pixels raster) (range_with_len 0 n)) (map pos) ∙ length-map-range_with_len (plane_from maxval n pixels raster) 0 n

plane_drawn : (maxval n pixels c : ℕ) (raster : List ℕ) → c < n → length (get_or (map (map pos) (planes_from maxval n pixels raster)) c []) ≡ pixels
unfolding planes_from
plane_drawn maxval n pixels c raster lt =
    let plane : ℕ → List ℕ = plane_from maxval n pixels raster in
    let planes = map plane (range_with_len 0 n) in
    let inside : c < length planes = omega (arith, lt, length-map-range_with_len plane 0 n) in
    ap (λ (xs : List ℤ). length xs) (get_or-map (map pos) planes c [] [] inside)
    ∙ length-map (get_or planes c []) pos
    ∙ ap (λ (xs : List ℕ). length xs) (get_or-map-range_with_len plane 0 n c c [] lt (omega arith))
    ∙ length-map-range_with_len _ 0 pixels

-- its frame, without the samples
pub drawn_frame : (d : Drawing) → frame_of (drawn d)
    ≡ record { x0 = 0; y0 = 0; width = d.header.width; height = d.header.height; components = components_of d.header.colour; depth = d.header.depth; signed = false }
drawn_frame d =
    ap (λ (n : ℕ). let f : PictureFrame = record { x0 = 0; y0 = 0; width = d.header.width; height = d.header.height; components = n; depth = d.header.depth; signed = false } in f)
    (planes_drawn d.header.maxval (components_of d.header.colour) (d.header.width * d.header.height) d.raster)

-- how many samples a component has
drawn_length : (d : Drawing) (c : ℕ) → c < length (drawn d).planes → length (get_or (drawn d).planes c []) ≡ d.header.width * d.header.height
drawn_length d c lt =
    let n = components_of d.header.colour in
    let pixels : ℕ = d.header.width * d.header.height in
    let count = planes_drawn d.header.maxval n pixels d.raster in
    plane_drawn d.header.maxval n pixels c d.raster (omega (arith, lt, count))

-- ---- samples of a stripe

abbrev sample : List (List ℤ) → (c k : ℕ) → ℤ
sample planes c k = get_or (get_or planes c []) k (pos 0)

-- sample k of a component, from row y on up to row z
rows_hold : (w y z c k : ℕ) (planes : List (List ℤ)) → c < length planes → k < (z - y) * w → sample (map (plane_rows w y z) planes) c k ≡ sample planes c (y * w + k)
rows_hold w y z c k planes lt less =
    ap (λ (xs : List ℤ). get_or xs k (pos 0)) (get_or-map (plane_rows w y z) planes c [] [] lt)
    ∙ get_or-take ((z - y) * w) (drop (y * w) (get_or planes c [])) k (pos 0) less
    ∙ get_or-drop (y * w) (get_or planes c []) k (pos 0)

-- a place behind rows, and how far it is from them
record IsBehind (w y z k : ℕ) : Type 0 where
  below : k - y * w < (z - y) * w
  place : y * w + (k - y * w) ≡ k

behind : (w y z k : ℕ) → y ≤ z → y * w ≤ k → k < z * w → IsBehind w y z k
behind w y z k order low high =
    let sum : z ≡ (z - y) + y = omega (arith, order) in
    let parted : ((z - y) + y) * w ≡ (z - y) * w + y * w = grind arith in
    let both : z * w ≡ ((z - y) + y) * w = ap (λ n. n * w) sum in
    record { below = omega (arith, low, high, parted, both); place = omega (arith, low) }

-- ---- what was given

-- where a stripe ends
given_end : (p : Picture) (s t : FileRows) (y z : ℕ) → y < z → y ≡ p.y0 + s.given → HasGiven s (rows_of p y z) t → t.given ≡ s.given + (z - y)
given_end p s t y z more here g =
    let tall : z - y ≡ t.given - s.given = ap (λ (v : Picture). v.height) g.rows in
    omega (arith, tall, more)

-- its samples are those of what is drawn
given_sample : (p : Picture) (s t : FileRows) (y z c k : ℕ) → y < z → y ≡ p.y0 + s.given → p.width ≡ (drawn s.raster).width → length p.planes ≡ length (drawn s.raster).planes → c < length p.planes
    → HasGiven s (rows_of p y z) t → s.given * p.width ≤ k → k < t.given * p.width → sample p.planes c k ≡ sample (drawn s.raster).planes c k
given_sample p s t y z c k more here wide count lt g low high =
    let w = p.width in
    let end = given_end p s t y z more here g in
    let at = behind w s.given t.given k (omega (arith, end)) low high in
    let j : ℕ = k - s.given * w in
    let rows : t.given - s.given ≡ z - y = omega (arith, end) in
    let size : (t.given - s.given) * w ≡ (z - y) * w = ap (λ n. n * w) rows in
    let below = at.below in
    let less : j < (z - y) * w = omega (arith, below, size) in
    let first : (y - p.y0) * w + j ≡ k = (let down : y - p.y0 ≡ s.given = omega (arith, here) in ap (λ n. n * w + j) down ∙ at.place) in
    let own = rows_sample p y z c j (omega (arith, here)) lt less ∙ ap (λ i. sample p.planes c i) first in
    let few : j < (t.given - s.given) * (drawn s.raster).width = (let same : (t.given - s.given) * w ≡ (t.given - s.given) * (drawn s.raster).width = ap (λ n. (t.given - s.given) * n) wide in omega (arith, below, same)) in
    let other = rows_hold (drawn s.raster).width s.given t.given c j (drawn s.raster).planes (omega (arith, lt, count)) few in
    let second : s.given * (drawn s.raster).width + j ≡ k = ap (λ n. s.given * n + j) (sym wide) ∙ at.place in
    sym own ∙ ap (λ (v : Picture). sample v.planes c j) g.rows ∙ other ∙ ap (λ i. sample (drawn s.raster).planes c i) second

-- the samples of all stripes
all_samples : (p : Picture) (stripes : List (ℕ × FileRows)) (s t : FileRows) (y z c k : ℕ) → y ≡ p.y0 + s.given → p.width ≡ (drawn s.raster).width → length p.planes ≡ length (drawn s.raster).planes → c < length p.planes
    → AreTaken HasGiven p y z s stripes t → s.given * p.width ≤ k → k < (z - p.y0) * p.width → sample p.planes c k ≡ sample (drawn s.raster).planes c k
all_samples p [] s t y z c k here wide count lt h low high =
    let end : y ≡ z = h.0 in
    let rows : z - p.y0 ≡ s.given = omega (arith, end, here) in
    let size : (z - p.y0) * p.width ≡ s.given * p.width = ap (λ n. n * p.width) rows in
    absurd (omega (arith, low, high, size))
all_samples p (x ∷ stripes) s t y z c k here wide count lt h low high =
    by (λ rest. all_samples p stripes x.1 t x.0 z c k (omega (arith, end, here, more)) (wide ∙ ap (λ (d : Drawing). (drawn d).width) (sym same)) (count ∙ ap (λ (d : Drawing). length (drawn d).planes) (sym same)) lt h.3 rest high
    ∙ ap (λ (d : Drawing). sample (drawn d).planes c k) same) (cases_lt k (x.1.given * p.width))
  where
    Same : Type 0
    Same = sample p.planes c k ≡ sample (drawn s.raster).planes c k

    more : y < x.0
    more = h.0

    end : x.1.given ≡ s.given + (x.0 - y)
    end = given_end p s x.1 y x.0 more here h.2

    same : x.1.raster ≡ s.raster
    same = ap (λ (r : FileRows). r.raster) h.2.same

    by : (x.1.given * p.width ≤ k → Same) → (k < x.1.given * p.width) ⊎ (x.1.given * p.width ≤ k) → Same
    by go (inl less) = given_sample p s x.1 y x.0 c k more here wide count lt h.2 low less
    by go (inr rest) = go rest

-- what gave them is the same but for how many it gave
taken_same : (p : Picture) (stripes : List (ℕ × FileRows)) (s t : FileRows) (y z : ℕ) → AreTaken HasGiven p y z s stripes t → t ≡ record s { given = t.given }
taken_same p [] s t y z h = ap (λ (r : FileRows). let q : FileRows = record r { given = t.given } in q) (sym h.1)
taken_same p (x ∷ stripes) s t y z h =
    taken_same p stripes x.1 t x.0 z h.3 ∙ ap (λ (r : FileRows). let q : FileRows = record r { given = t.given } in q) h.2.same

pub given_same : (p : Picture) (s t : FileRows) (y z : ℕ) → WereTaken HasGiven p y z s t → t ≡ record s { given = t.given }
given_same p s t y z h = taken_same p h.0 s t y z h.1

-- ---- a picture by its frame and its samples

abbrev picture_with : PictureFrame → List (List ℤ) → Picture
picture_with f planes = record { x0 = f.x0; y0 = f.y0; width = f.width; height = f.height; depth = f.depth; signed = f.signed; planes = planes }

same_picture : (p q : Picture) → frame_of p ≡ frame_of q → p.planes ≡ q.planes → p ≡ q
same_picture p q frame planes = ap (λ (f : PictureFrame). picture_with f p.planes) frame ∙ ap (λ (ps : List (List ℤ)). picture_with (frame_of q) ps) planes

-- All rows that were given are those of what is drawn, which is a picture then.
pub all_given : (s t : FileRows) (f : PictureFrame) (p : Picture) → f ≡ frame_of (placed_rows s) → s.given ≡ 0 → WereAllGiven HasGiven f s t p → p ≡ placed_rows s
all_given s t f p is none given = same_picture p q frame planes
  where
    q : Picture
    q = placed_rows s

    frame : frame_of p ≡ frame_of q
    frame = given.frame ∙ is

    top : p.y0 ≡ f.y0
    top = ap (λ (x : PictureFrame). x.y0) given.frame

    tall : p.height ≡ f.height
    tall = ap (λ (x : PictureFrame). x.height) given.frame

    wide : p.width ≡ (drawn s.raster).width
    wide = ap (λ (x : PictureFrame). x.width) frame

    high : p.height ≡ (drawn s.raster).height
    high = ap (λ (x : PictureFrame). x.height) frame

    count : length p.planes ≡ length (drawn s.raster).planes
    count = ap (λ (x : PictureFrame). x.components) frame

    each : (c k : ℕ) → c < length p.planes → k < p.width * p.height → sample p.planes c k ≡ sample (drawn s.raster).planes c k
    each c k lt less =
        let first : f.y0 ≡ p.y0 + s.given = omega (arith, top, none) in
        let start : s.given * p.width ≡ 0 * p.width = ap (λ n. n * p.width) none in
        let rows : f.y0 + f.height - p.y0 ≡ p.height = omega (arith, top, tall) in
        let size : (f.y0 + f.height - p.y0) * p.width ≡ p.height * p.width = ap (λ n. n * p.width) rows in
        let turn : p.height * p.width ≡ p.width * p.height = grind arith in
        all_samples p given.rows.0 s t f.y0 (f.y0 + f.height) c k first wide count lt given.rows.1 (omega (arith, start)) (omega (arith, less, size, turn))

    plane : (c : ℕ) → c < length p.planes → get_or p.planes c [] ≡ get_or (drawn s.raster).planes c []
    plane c lt =
        let long = (given.picture.components.each c [] lt).count in
        let other = drawn_length s.raster c (omega (arith, lt, count)) in
        let area : p.width * p.height ≡ s.raster.header.width * s.raster.header.height = ap (λ n. n * p.height) wide ∙ ap (λ n. s.raster.header.width * n) high in
        ext_get_or (pos 0) (get_or p.planes c []) (get_or (drawn s.raster).planes c []) (long ∙ area ∙ sym other) (λ k less. each c k lt (omega (arith, less, long)))

    planes : p.planes ≡ (drawn s.raster).planes
    planes = ext_get_or [] p.planes (drawn s.raster).planes count plane

-- a picture at another place
pub placed_picture : (p : Picture) (x0 y0 : ℕ) → IsPicture (at_place p x0 y0) → IsFrame p.x0 p.y0 p.width p.height → IsPicture p
placed_picture p x0 y0 is frame = record { frame = frame; components = is.components }

-- ---- samples that were looked at

-- The samples of each component in so many rows are in their range.
abbrev pub AreBelow : Drawing → (rows : ℕ) → Type 0
AreBelow d rows = (c k : ℕ) → c < length (drawn d).planes → k < rows * d.header.width
    → (lowest d.header.depth false ≤ℤ get_or (get_or (drawn d).planes c []) k (pos 0)) × (get_or (get_or (drawn d).planes c []) k (pos 0) ≤ℤ greatest d.header.depth false)

pub below_none : (d : Drawing) → AreBelow d 0
below_none d c k lt less = absurd (let none : 0 * d.header.width ≡ 0 = omega arith in omega (arith, less, none))

pub below_more : (d : Drawing) (y z : ℕ) → y < z → z ≤ d.header.height → AreBelow d y → IsPicture (rows_moved (drawn d) y z) → AreBelow d z
below_more d y z more inside before is c k lt less = by (cases_lt k (y * d.header.width))
  where
    InRange : ℤ → Type 0
    InRange s = (lowest d.header.depth false ≤ℤ s) × (s ≤ℤ greatest d.header.depth false)

    w : ℕ
    w = d.header.width

    stripe : List (List ℤ)
    stripe = map (plane_rows w y z) (drawn d).planes

    here : y * w ≤ k → InRange (get_or (get_or (drawn d).planes c []) k (pos 0))
    here low =
        let at = behind w y z k (omega (arith, more)) low less in
        let below = at.below in
        let count = length-map (drawn d).planes (plane_rows w y z) in
        let plane = is.components.each c [] (omega (arith, lt, count)) in
        let long = plane.count in
        let turn : w * (z - y) ≡ (z - y) * w = grind arith in
        let range : InRange (get_or (get_or stripe c []) (k - y * w) (pos 0)) = plane.range (k - y * w) (pos 0) (omega (arith, below, long, turn)) in
        subst InRange (rows_hold w y z c (k - y * w) (drawn d).planes lt below ∙ ap (λ i. get_or (get_or (drawn d).planes c []) i (pos 0)) at.place) range

    by : (k < y * w) ⊎ (y * w ≤ k) → InRange (get_or (get_or (drawn d).planes c []) k (pos 0))
    by (inl low) = before c k lt low
    by (inr low) = here low

some_planes : (colour : Bool) → (1 ≤ components_of colour) × (components_of colour ≤ 4)
some_planes false = (omega arith, omega arith)
some_planes true = (omega arith, omega arith)

-- all of them
pub below_all : (d : Drawing) → IsFrame 0 0 d.header.width d.header.height → (1 ≤ d.header.depth) × (d.header.depth ≤ 16) → AreBelow d d.header.height → IsPicture (drawn d)
below_all d frame bits below =
    let n = components_of d.header.colour in
    let pixels : ℕ = d.header.width * d.header.height in
    let count = planes_drawn d.header.maxval n pixels d.raster in
    let some = some_planes d.header.colour in
    let turn : pixels ≡ d.header.height * d.header.width = grind arith in
    record {
      frame = frame;
      components = record {
        some_bits = bits.0;
        few_bits = bits.1;
        some = omega (arith, count, some.0);
        few = omega (arith, count, some.1);
        each = λ c e lt.
            let plane = get_or (drawn d).planes c [] in
            let long = drawn_length d c lt in
            let InRange : ℤ → Type 0 = λ s. (lowest d.header.depth false ≤ℤ s) × (s ≤ℤ greatest d.header.depth false) in
            let is : IsPlane pixels d.header.depth false plane = record {
              count = long;
              range = λ k other less. subst InRange (get_or_default plane k (pos 0) other less) (below c k lt (omega (arith, less, long, turn)));
            } in
            subst (IsPlane pixels d.header.depth false) (get_or_default (drawn d).planes c [] e lt) is;
      };
    }
