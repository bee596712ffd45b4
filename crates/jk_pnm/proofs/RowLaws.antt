-- A part of a raster that has whole rows is the raster of those rows.
use Rattle.std.proofs.Common.{◌≡◌, ℕ, zero, suc, ◌+◌, ◌*◌, ◌-◌, ◌<◌, ◌≤◌, ◌⊎◌, Bool, true, false, cond, ltb, leb, List, [], ◌∷◌, length, map, get_or, take, drop, ℤ, pos, Result, Ok, Err, IfOk, IfErr, refl, sym, ap, ◌∙◌, inl, inr, arith}
use Rattle.std.specs.List.{range_with_len, list_all}
use Rattle.std.proofs.lemmas.Bool.{and_parts, and_from, cases_Bool}
use Rattle.std.proofs.lemmas.List.{get_or-take, get_or-drop, length-take-le, length-drop, ext_get_or, take-map, drop-map}
use Rattle.std.proofs.lemmas.List.FromFn.{length-map-range_with_len, get_or-map-range_with_len}
use Rattle.std.proofs.lemmas.Nat.{row_fits}
use Rattle.std.proofs.lemmas.Simd.{map-map}
use Rattle.jk_math.specs.Answer.{Answers, Refuses}
use Rattle.jk_math.specs.Picture.{Picture}
use Rattle.jk_math.specs.declared.fault.Fault.{Fault}
use Rattle.jk_math.specs.declared.fault.Fault.TheVariants.{BadPnm, Memory}
use Rattle.jk_pnm.specs.declared.header.Header.{Header}
use Rattle.jk_pnm.specs.Pnm.{components_of, sample_size, sample_from, plane_from, planes_from}
use Rattle.jk_pnm.specs.Heads.{with_rows}
use Rattle.jk_pnm.specs.Reading.{raster_size, samples_of, picture_of, are_below, picture_at}
use Rattle.jk_pnm.specs.RasterRows.{Drawing, drawn, picture_told, plane_rows, rows_moved, rows_told}

-- ---- samples

narrow_sample : (maxval k : ℕ) (raster : List ℕ) → ltb 255 maxval ≡ false → sample_from maxval raster k ≡ get_or raster k 0
narrow_sample maxval k raster e = ap (λ b. cond b (256 * get_or raster (2 * k) 0 + get_or raster (2 * k + 1) 0) (get_or raster k 0)) e

wide_sample : (maxval k : ℕ) (raster : List ℕ) → ltb 255 maxval ≡ true → sample_from maxval raster k ≡ 256 * get_or raster (2 * k) 0 + get_or raster (2 * k + 1) 0
wide_sample maxval k raster e = ap (λ b. cond b (256 * get_or raster (2 * k) 0 + get_or raster (2 * k + 1) 0) (get_or raster k 0)) e

narrow_size : (maxval : ℕ) → ltb 255 maxval ≡ false → sample_size maxval ≡ 1
narrow_size maxval e = ap (λ b. let k : ℕ = cond b 2 1 in k) e

wide_size : (maxval : ℕ) → ltb 255 maxval ≡ true → sample_size maxval ≡ 2
wide_size maxval e = ap (λ b. let k : ℕ = cond b 2 1 in k) e

-- so many bytes from one on
abbrev part : (start len : ℕ) → List ℕ → List ℕ
part start len raster = take len (drop start raster)

part_byte : (start len i j : ℕ) (raster : List ℕ) → i < len → start + i ≡ j → get_or (part start len raster) i 0 ≡ get_or raster j 0
part_byte start len i j raster lt e = get_or-take len (drop start raster) i 0 lt ∙ get_or-drop start raster i 0 ∙ ap (λ k. get_or raster k 0) e

-- sample k of so many behind the first `before` of them
part_sample : (maxval before count k : ℕ) (raster : List ℕ) → k < count
    → sample_from maxval (part (before * sample_size maxval) (count * sample_size maxval) raster) k ≡ sample_from maxval raster (before + k)
part_sample maxval before count k raster lt = by (cases_Bool (ltb 255 maxval))
  where
    size : ℕ
    size = sample_size maxval

    bytes : List ℕ
    bytes = part (before * size) (count * size) raster

    wide : ltb 255 maxval ≡ true → sample_from maxval bytes k ≡ sample_from maxval raster (before + k)
    wide e =
        let two = wide_size maxval e in
        let start : before * size ≡ before * 2 = ap (λ n. before * n) two in
        let len : count * size ≡ count * 2 = ap (λ n. count * n) two in
        let high = part_byte (before * size) (count * size) (2 * k) (2 * (before + k)) raster (omega (arith, len, lt)) (omega (arith, start)) in
        let low = part_byte (before * size) (count * size) (2 * k + 1) (2 * (before + k) + 1) raster (omega (arith, len, lt)) (omega (arith, start)) in
        wide_sample maxval k bytes e ∙ ap (λ n. 256 * n + get_or bytes (2 * k + 1) 0) high
        ∙ ap (λ n. 256 * get_or raster (2 * (before + k)) 0 + n) low ∙ sym (wide_sample maxval (before + k) raster e)

    narrow : ltb 255 maxval ≡ false → sample_from maxval bytes k ≡ sample_from maxval raster (before + k)
    narrow e =
        let one = narrow_size maxval e in
        let start : before * size ≡ before * 1 = ap (λ n. before * n) one in
        let len : count * size ≡ count * 1 = ap (λ n. count * n) one in
        narrow_sample maxval k bytes e
        ∙ part_byte (before * size) (count * size) k (before + k) raster (omega (arith, len, lt)) (omega (arith, start))
        ∙ sym (narrow_sample maxval (before + k) raster e)

    by : (ltb 255 maxval ≡ true) ⊎ (ltb 255 maxval ≡ false) → sample_from maxval bytes k ≡ sample_from maxval raster (before + k)
    by (inl e) = wide e
    by (inr e) = narrow e

-- ---- planes

rows_length : {X : Type 0} (w y z h : ℕ) (plane : List X) → y ≤ z → z ≤ h → length plane ≡ w * h → length (plane_rows w y z plane) ≡ (z - y) * w
rows_length w y z h plane order inside whole =
    let left = length-drop (y * w) plane in
    let some : (z - y) * w + y * w ≡ z * w = (let sum : z - y + y ≡ z = omega arith in sym (let spread : (z - y + y) * w ≡ (z - y) * w + y * w = grind arith in spread) ∙ ap (λ n. n * w) sum) in
    let few : z * w ≤ h * w = (let more : h ≡ z + (h - z) = omega arith in let spread : (z + (h - z)) * w ≡ z * w + (h - z) * w = grind arith in let all : h * w ≡ (z + (h - z)) * w = ap (λ n. n * w) more in omega (arith, spread, all)) in
    let turn : w * h ≡ h * w = grind arith in
    length-take-le ((z - y) * w) (drop (y * w) plane) (omega (arith, left, some, few, turn, whole))

rows_entry : {X : Type 0} (w y z i : ℕ) (plane : List X) (d : X) → i < (z - y) * w → get_or (plane_rows w y z plane) i d ≡ get_or plane (y * w + i) d
rows_entry w y z i plane d lt = get_or-take ((z - y) * w) (drop (y * w) plane) i d lt ∙ get_or-drop (y * w) plane i d

-- the bytes of rows y up to z
abbrev pub part_rows : (h : Header) (y z : ℕ) → List ℕ → List ℕ
part_rows h y z raster =
    part (y * h.width * components_of h.colour * sample_size h.maxval) ((z - y) * h.width * components_of h.colour * sample_size h.maxval) raster

plane_part : (h : Header) (y z c : ℕ) (raster : List ℕ) → y ≤ z → z ≤ h.height → c < components_of h.colour
    → plane_from h.maxval (components_of h.colour) (h.width * (z - y)) (part_rows h y z raster) c
    ≡ plane_rows h.width y z (plane_from h.maxval (components_of h.colour) (h.width * h.height) raster c)
plane_part h y z c raster order inside lt =
    let n = components_of h.colour in
    let w = h.width in
    let few : ℕ = w * (z - y) in
    let all : ℕ = w * h.height in
    let here : ℕ → ℕ = λ p. sample_from h.maxval (part_rows h y z raster) (p * n + c) in
    let there : ℕ → ℕ = λ p. sample_from h.maxval raster (p * n + c) in
    let whole = length-map-range_with_len there 0 all in
    let long = rows_length w y z h.height (map there (range_with_len 0 all)) order inside whole in
    let turn : w * (z - y) ≡ (z - y) * w = grind arith in
    let count = length-map-range_with_len here 0 few in
    ext_get_or 0 (map here (range_with_len 0 few)) (plane_rows w y z (map there (range_with_len 0 all))) (count ∙ turn ∙ sym long) (λ i less.
    let below : i < (z - y) * w = omega (arith, less, count, turn) in
    let fits : i * n + n ≤ (z - y) * w * n = row_fits i n ((z - y) * w) n below (omega arith) in
    let sample = part_sample h.maxval (y * w * n) ((z - y) * w * n) (i * n + c) raster (omega (arith, fits, lt)) in
    let place : y * w * n + (i * n + c) ≡ (y * w + i) * n + c = grind arith in
    let fit : (z - y) * w + y * w ≤ w * h.height = (let few : z * w ≤ w * h.height = (let more : h.height ≡ z + (h.height - z) = omega arith in let spread : w * (z + (h.height - z)) ≡ z * w + w * (h.height - z) = grind arith in let all : w * h.height ≡ w * (z + (h.height - z)) = ap (λ k. w * k) more in omega (arith, spread, all)) in let sum : z - y + y ≡ z = omega arith in let spread : (z - y + y) * w ≡ (z - y) * w + y * w = grind arith in let whole : (z - y + y) * w ≡ z * w = ap (λ k. k * w) sum in omega (arith, few, spread, whole)) in
    get_or-map-range_with_len here 0 few i i 0 (omega (arith, below, turn)) (omega arith)
    ∙ sample ∙ ap (λ k. sample_from h.maxval raster k) place
    ∙ sym (rows_entry w y z i (map there (range_with_len 0 all)) 0 below ∙ get_or-map-range_with_len there 0 all (y * w + i) (y * w + i) 0 (omega (arith, fit, below)) (omega arith)))

planes_part : (h : Header) (y z : ℕ) (raster : List ℕ) → y ≤ z → z ≤ h.height
    → samples_of (with_rows h (z - y)) (part_rows h y z raster) ≡ map (plane_rows h.width y z) (samples_of h raster)
unfolding planes_from
planes_part h y z raster order inside =
    let n = components_of h.colour in
    let few : ℕ → List ℕ = plane_from h.maxval n (h.width * (z - y)) (part_rows h y z raster) in
    let all : ℕ → List ℕ = λ c. plane_rows h.width y z (plane_from h.maxval n (h.width * h.height) raster c) in
    let count = length-map-range_with_len few 0 n in
    ext_get_or [] (map few (range_with_len 0 n)) (map all (range_with_len 0 n)) (count ∙ sym (length-map-range_with_len all 0 n)) (λ c lt.
    let less : c < n = omega (arith, lt, count) in
    get_or-map-range_with_len few 0 n c c [] less (omega arith) ∙ plane_part h y z c raster order inside less ∙ sym (get_or-map-range_with_len all 0 n c c [] less (omega arith)))
    ∙ sym (map-map (plane_rows h.width y z) (plane_from h.maxval n (h.width * h.height) raster) (range_with_len 0 n))

-- ---- pictures

rows_mapped : {X Y : Type 0} (f : X → Y) (w y z : ℕ) (planes : List (List X)) → map (map f) (map (plane_rows w y z) planes) ≡ map (plane_rows w y z) (map (map f) planes)
rows_mapped f w y z [] = refl
rows_mapped {X} {Y} f w y z (plane ∷ planes) =
    let first : map f (plane_rows w y z plane) ≡ plane_rows w y z (map f plane) = sym (take-map f ((z - y) * w) (drop (y * w) plane)) ∙ ap (λ (xs : List Y). take ((z - y) * w) xs) (sym (drop-map f (y * w) plane)) in
    ap (λ (p : List Y). p ∷ map (map f) (map (plane_rows w y z) planes)) first ∙ ap (λ (ps : List (List Y)). plane_rows w y z (map f plane) ∷ ps) (rows_mapped f w y z planes)

abbrev with_planes : Header → ℕ → List (List ℤ) → Picture
with_planes h rows planes = record { x0 = 0; y0 = 0; width = h.width; height = rows; depth = h.depth; signed = false; planes = planes }

part_drawn : (d : Drawing) (y z : ℕ) → y ≤ z → z ≤ d.header.height → picture_of (with_rows d.header (z - y)) (part_rows d.header y z d.raster) ≡ rows_moved (drawn d) y z
part_drawn d y z order inside =
    ap (λ (samples : List (List ℕ)). with_planes d.header (z - y) (map (map pos) samples)) (planes_part d.header y z d.raster order inside)
    ∙ ap (λ (planes : List (List ℤ)). with_planes d.header (z - y) planes) (rows_mapped pos d.header.width y z (samples_of d.header d.raster))

pub part_read : (d : Drawing) (y z : ℕ) → y ≤ z → z ≤ d.header.height → picture_at (with_rows d.header (z - y)) (part_rows d.header y z d.raster) ≡ rows_told d y z
unfolding picture_at rows_told
part_read d y z order inside =
    let h = with_rows d.header (z - y) in
    ap (λ (samples : List (List ℕ)). let r : Result Picture Fault = cond (are_below h.maxval samples) (Ok (picture_of h (part_rows d.header y z d.raster))) (Err BadPnm) in r) (planes_part d.header y z d.raster order inside)
    ∙ ap (λ (p : Picture). let r : Result Picture Fault = cond (are_below h.maxval (map (plane_rows d.header.width y z) (samples_of d.header d.raster))) (Ok p) (Err BadPnm) in r) (part_drawn d y z order inside)

-- ---- samples above maxval

all_taken : {X : Type 0} (p : X → Bool) (n : ℕ) (xs : List X) → list_all p xs ≡ true → list_all p (take n xs) ≡ true
all_taken p zero xs h = refl
all_taken p (suc n) [] h = refl
all_taken p (suc n) (x ∷ xs) h =
    let both = and_parts (p x) (list_all p xs) h in
    and_from (p x) (list_all p (take n xs)) both.0 (all_taken p n xs both.1)

all_dropped : {X : Type 0} (p : X → Bool) (n : ℕ) (xs : List X) → list_all p xs ≡ true → list_all p (drop n xs) ≡ true
all_dropped p zero xs h = h
all_dropped p (suc n) [] h = refl
all_dropped p (suc n) (x ∷ xs) h = all_dropped p n xs (and_parts (p x) (list_all p xs) h).1

rows_below : (m w y z : ℕ) (planes : List (List ℕ)) → are_below m planes ≡ true → are_below m (map (plane_rows w y z) planes) ≡ true
unfolding are_below
rows_below m w y z [] h = refl
rows_below m w y z (plane ∷ planes) h =
    let test : ℕ → Bool = λ s. leb s m in
    let both = and_parts (list_all test plane) (list_all (list_all test) planes) h in
    and_from (list_all test (plane_rows w y z plane)) (list_all (list_all test) (map (plane_rows w y z) planes))
    (all_taken test ((z - y) * w) (drop (y * w) plane) (all_dropped test (y * w) plane both.0)) (rows_below m w y z planes both.1)

-- what is refused of some rows is refused of all
pub stripe_refused : (d : Drawing) (y z : ℕ) (e : Fault) → rows_told d y z ≡ Err e → picture_told d ≡ Err e
unfolding rows_told picture_at
stripe_refused d y z e is = by (cases_Bool (are_below d.header.maxval (samples_of d.header d.raster)))
  where
    stripe : List (List ℕ)
    stripe = map (plane_rows d.header.width y z) (samples_of d.header d.raster)

    told : Bool → Result Picture Fault
    told b = cond b (Ok (rows_moved (drawn d) y z)) (Err BadPnm)

    whole : Bool → Result Picture Fault
    whole b = cond b (Ok (drawn d)) (Err BadPnm)

    bad : (b : Bool) → told b ≡ Err e → Err BadPnm ≡ told false → e ≡ BadPnm
    bad true h k = absurd cc
    bad false h k = cc

    by : (are_below d.header.maxval (samples_of d.header d.raster) ≡ true) ⊎ (are_below d.header.maxval (samples_of d.header d.raster) ≡ false) → picture_told d ≡ Err e
    by (inl below) = absurd (let none : told true ≡ Err e = sym (ap told (rows_below d.header.maxval d.header.width y z (samples_of d.header d.raster) below)) ∙ is in cc)
    by (inr above) = ap whole above ∙ ap (λ (f : Fault). let r : Result Picture Fault = Err f in r) (sym (bad (are_below d.header.maxval stripe) is refl))

pub rows_refused : {X : Type 0} (view : X → Picture) (r : Result X Fault) (d : Drawing) (y z : ℕ) → Answers view r (rows_told d y z) → IfErr r (λ e. Refuses e (picture_told d))
rows_refused view (Ok x) d y z a = tt
rows_refused view (Err (Memory m)) d y z a = tt
rows_refused view (Err e) d y z a = stripe_refused d y z e a

pub stripe_is : (d : Drawing) (y z : ℕ) (p : Picture) → rows_told d y z ≡ Ok p → p ≡ rows_moved (drawn d) y z
unfolding rows_told
stripe_is d y z p is = by (are_below d.header.maxval (map (plane_rows d.header.width y z) (samples_of d.header d.raster))) is
  where
    told : Bool → Result Picture Fault
    told b = cond b (Ok (rows_moved (drawn d) y z)) (Err BadPnm)

    by : (b : Bool) → told b ≡ Ok p → p ≡ rows_moved (drawn d) y z
    by true h = cc
    by false h = absurd cc

pub rows_are : {X : Type 0} (view : X → Picture) (r : Result X Fault) (d : Drawing) (y z : ℕ) → Answers view r (rows_told d y z) → IfOk r (λ x. view x ≡ rows_moved (drawn d) y z)
rows_are view (Ok x) d y z a = stripe_is d y z (view x) a
rows_are view (Err e) d y z a = tt

-- ---- the part that is read

-- the bytes of rows y up to z, of so many bytes each
abbrev pub bytes_of_rows : (row y z : ℕ) → List ℕ → List ℕ
bytes_of_rows row y z raster = take (z * row - y * row) (drop (y * row) raster)

pub rows_below_end : (row y z h : ℕ) → y ≤ z → z ≤ h → (z * row ≤ h * row) × (y * row ≤ z * row) × (z * row - y * row ≡ (z - y) * row)
rows_below_end row y z h order inside =
    let more : h ≡ z + (h - z) = omega arith in
    let spread : (z + (h - z)) * row ≡ z * row + (h - z) * row = grind arith in
    let all : h * row ≡ (z + (h - z)) * row = ap (λ n. n * row) more in
    let sum : z ≡ (z - y) + y = omega arith in
    let parted : ((z - y) + y) * row ≡ (z - y) * row + y * row = grind arith in
    let both : z * row ≡ ((z - y) + y) * row = ap (λ n. n * row) sum in (omega (arith, spread, all), omega (arith, parted, both), omega (arith, parted, both))

pub size_by_rows : (h : Header) (row : ℕ) → row ≡ h.width * components_of h.colour * sample_size h.maxval → raster_size h ≡ h.height * row
size_by_rows h row is =
    let turn : h.width * h.height * components_of h.colour * sample_size h.maxval ≡ h.height * (h.width * components_of h.colour * sample_size h.maxval) = grind arith in
    turn ∙ ap (λ n. h.height * n) (sym is)

-- they lie in the raster
pub rows_inside : (d : Drawing) (row y z : ℕ) → row ≡ d.header.width * components_of d.header.colour * sample_size d.header.maxval → y ≤ z → z ≤ d.header.height → length d.raster ≡ raster_size d.header
    → z * row ≤ length d.raster
rows_inside d row y z is order inside whole =
    let size = size_by_rows d.header row is in
    let ends = (rows_below_end row y z d.header.height order inside).0 in
    omega (arith, size, ends, whole)

-- and are as many as their header asks for
pub rows_whole : (d : Drawing) (row y z : ℕ) → row ≡ d.header.width * components_of d.header.colour * sample_size d.header.maxval → y ≤ z → z ≤ d.header.height → length d.raster ≡ raster_size d.header
    → length (bytes_of_rows row y z d.raster) ≡ raster_size (with_rows d.header (z - y))
rows_whole d row y z is order inside whole =
    let fits = rows_inside d row y z is order inside whole in
    let ends = rows_below_end row y z d.header.height order inside in
    let order_too = ends.1 in
    let left = length-drop (y * row) d.raster in
    length-take-le (z * row - y * row) (drop (y * row) d.raster) (omega (arith, fits, left, order_too))
    ∙ ends.2 ∙ sym (size_by_rows (with_rows d.header (z - y)) row is)

pub rows_read : (d : Drawing) (row y z : ℕ) → row ≡ d.header.width * components_of d.header.colour * sample_size d.header.maxval → y ≤ z → z ≤ d.header.height
    → picture_at (with_rows d.header (z - y)) (bytes_of_rows row y z d.raster) ≡ rows_told d y z
rows_read d row y z is order inside =
    let h = d.header in
    let spread : (rows : ℕ) → rows * row ≡ rows * h.width * components_of h.colour * sample_size h.maxval = λ rows.
    let turn : rows * (h.width * components_of h.colour * sample_size h.maxval) ≡ rows * h.width * components_of h.colour * sample_size h.maxval = grind arith in
    ap (λ n. rows * n) is ∙ turn in
    let len = (rows_below_end row y z h.height order inside).2 ∙ spread (z - y) in
    let same : bytes_of_rows row y z d.raster ≡ part_rows h y z d.raster =
    ap (λ n. take n (drop (y * row) d.raster)) len ∙ ap (λ n. part n ((z - y) * h.width * components_of h.colour * sample_size h.maxval) d.raster) (spread y) in
    ap (λ (bytes : List ℕ). picture_at (with_rows h (z - y)) bytes) same ∙ part_read d y z order inside
