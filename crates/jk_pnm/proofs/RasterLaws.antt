-- The raster that is written has the samples of the planes.
use Rattle.std.proofs.Common.{◌≡◌, ℕ, zero, suc, ◌+◌, ◌-◌, ◌*◌, ◌/◌, ◌%◌, ◌^◌, ◌<◌, ◌≤◌, false, cond, ltb, List, [], ◌∷◌, ◌++◌, length, map, get_or, take, drop, All, ℤ, pos, negsuc, ◌≤ℤ◌, to_z, of_z, w32, refl, sym, ap, ◌∙◌, append_assoc, length-append, arith, inl, inr}
use mir.Val.{SFits}
use Rattle.std.specs.List.{flat_map, range_with_len}
use Rattle.std.proofs.Math.Nat.{mul-le-mul_left}
use Rattle.std.proofs.lemmas.Bool.{cases_Bool}
use Rattle.std.proofs.lemmas.Int.{ints, to_z-of_z}
use Rattle.std.proofs.lemmas.List.{append-nil, length-take-le, length-drop, get_or-take, get_or-drop}
use Rattle.std.proofs.lemmas.List.Concat.{flat_map-append, get_or-flat_map}
use Rattle.std.proofs.lemmas.List.FromFn.{length-range_with_len, get_or-range_with_len, fill_by_all}
use Rattle.std.proofs.lemmas.Simd.{map-map}
use Rattle.jk_math.specs.Picture.{IsPlane, lowest, greatest}
use Rattle.jk_pnm.specs.Pnm.{sample_size, sample_from, plane_from, planes_from}
use Rattle.jk_pnm.specs.Written.{natural, sample_text, pixel_text, raster_part, raster_text}
use Rattle.jk_pnm.proofs.PlaneLaws.{planes_are}

range_more : (n a : ℕ) → range_with_len a (n + 1) ≡ range_with_len a n ++ ((a + n) ∷ [])
range_more zero a = let same : a ≡ a + 0 = omega arith in ap (λ (k : ℕ). k ∷ []) same
range_more (suc n) a =
    let one : suc n + 1 ≡ suc (n + 1) = omega arith in
    let last : (a + 1) + n ≡ a + suc n = omega arith in
    ap (range_with_len a) one ∙ ap (λ (ks : List ℕ). a ∷ ks) (range_more n (a + 1) ∙ ap (λ (k : ℕ). range_with_len (a + 1) n ++ (k ∷ [])) last)

range_joined : (n m a : ℕ) → range_with_len a (n + m) ≡ range_with_len a n ++ range_with_len (a + n) m
range_joined zero m a = let same : a ≡ a + 0 = omega arith in let none : zero + m ≡ m = omega arith in ap (range_with_len a) none ∙ ap (λ (k : ℕ). range_with_len k m) same
range_joined (suc n) m a =
    let one : suc n + m ≡ suc (n + m) = omega arith in
    let last : (a + 1) + n ≡ a + suc n = omega arith in
    ap (range_with_len a) one ∙ ap (λ (ks : List ℕ). a ∷ ks) (range_joined n m (a + 1) ∙ ap (λ (k : ℕ). range_with_len (a + 1) n ++ range_with_len k m) last)

-- the pixels before one, and those from it on up to another
pub raster_joined : (m : ℕ) (planes : List (List ℤ)) (from to : ℕ) → from ≤ to → raster_text m planes to ≡ raster_text m planes from ++ raster_part m planes from (to - from)
raster_joined m planes from to before =
    let f : ℕ → List ℕ = pixel_text m planes in
    let all : to ≡ from + (to - from) = omega (arith, before) in
    let first : 0 + from ≡ from = omega arith in
    ap (λ (k : ℕ). raster_text m planes k) all
    ∙ ap (λ (ks : List ℕ). flat_map f ks) (range_joined from (to - from) 0 ∙ ap (λ (k : ℕ). range_with_len 0 from ++ range_with_len k (to - from)) first)
    ∙ flat_map-append f (range_with_len 0 from) (range_with_len from (to - from))

-- so many samples of a plane from one on
abbrev pub part_of : ℕ → ℕ → List ℤ → List ℤ
part_of from n plane = take n (drop from plane)

-- the raster of parts of planes is that of the pixels there
pixels_alike : (m : ℕ) (parts planes : List (List ℤ)) (n i from : ℕ) → ((k : ℕ) → k < i + n → pixel_text m parts k ≡ pixel_text m planes (from + k)) → flat_map (pixel_text m parts) (range_with_len i n) ≡ flat_map (pixel_text m planes) (range_with_len (from + i) n)
pixels_alike m parts planes zero i from each = refl
pixels_alike m parts planes (suc n) i from each =
    let here : i < i + suc n = omega arith in
    let next : (from + i) + 1 ≡ from + (i + 1) = omega arith in
    let rest = pixels_alike m parts planes n (i + 1) from (λ k within. each k (omega (arith, within))) in
    ap (λ (ys : List ℕ). ys ++ flat_map (pixel_text m parts) (range_with_len (i + 1) n)) (each i here)
    ∙ ap (λ (ys : List ℕ). pixel_text m planes (from + i) ++ ys) (rest ∙ ap (λ (k : ℕ). flat_map (pixel_text m planes) (range_with_len k n)) (sym next))

sample_alike : (plane : List ℤ) (from n k : ℕ) → k < n → get_or (part_of from n plane) k (pos 0) ≡ get_or plane (from + k) (pos 0)
sample_alike plane from n k within = get_or-take n (drop from plane) k (pos 0) within ∙ get_or-drop from plane k (pos 0)

texts_alike : (m from n k : ℕ) → k < n → (planes : List (List ℤ)) → pixel_text m (map (part_of from n) planes) k ≡ pixel_text m planes (from + k)
texts_alike m from n k within [] = refl
texts_alike m from n k within (plane ∷ planes) =
    ap (λ (s : ℤ). sample_text m s ++ pixel_text m (map (part_of from n) planes) k) (sample_alike plane from n k within)
    ∙ ap (λ (ys : List ℕ). sample_text m (get_or plane (from + k) (pos 0)) ++ ys) (texts_alike m from n k within planes)

pub raster_of_parts : (m : ℕ) (planes : List (List ℤ)) (from n : ℕ) → raster_text m (map (part_of from n) planes) n ≡ raster_part m planes from n
raster_of_parts m planes from n =
    let none : from + 0 ≡ from = omega arith in
    pixels_alike m (map (part_of from n) planes) planes n 0 from (λ k within. texts_alike m from n k (omega (arith, within)) planes)
    ∙ ap (λ (k : ℕ). raster_part m planes k n) none

part_length : (from to : ℕ) (plane : List ℤ) → to ≤ length plane → length (part_of from (to - from) plane) ≡ to - from
part_length from to plane within = length-take-le (to - from) (drop from plane) (omega (arith, within, length-drop from plane))

one_plane : (planes : List (List ℤ)) → length planes ≡ 1 → planes ≡ get_or planes 0 [] ∷ []
one_plane [] one = absurd (omega (arith, one))
one_plane (a ∷ []) one = refl
one_plane (a ∷ (b ∷ planes)) one = absurd (omega (arith, one))

three_planes : (planes : List (List ℤ)) → length planes ≡ 3 → planes ≡ get_or planes 0 [] ∷ (get_or planes 1 [] ∷ (get_or planes 2 [] ∷ []))
three_planes [] three = absurd (omega (arith, three))
three_planes (a ∷ []) three = absurd (omega (arith, three))
three_planes (a ∷ (b ∷ [])) three = absurd (omega (arith, three))
three_planes (a ∷ (b ∷ (d ∷ []))) three = refl
three_planes (a ∷ (b ∷ (d ∷ (e ∷ planes)))) three = absurd (omega (arith, three))

-- what was written of the one plane
pub grey_part : (m from to : ℕ) (planes : List (List ℤ)) (p : List ℤ) (out now : List ℕ) → length planes ≡ 1 → p ≡ get_or planes 0 [] → to ≤ length p
    → now ≡ out ++ raster_text m (part_of from (to - from) p ∷ []) (length (part_of from (to - from) p)) → now ≡ out ++ raster_part m planes from (to - from)
grey_part m from to planes p out now one is within text =
    let n : ℕ = to - from in
    let same : map (part_of from n) planes ≡ part_of from n p ∷ [] = ap (λ (ps : List (List ℤ)). map (part_of from n) ps) (one_plane planes one ∙ ap (λ (q : List ℤ). q ∷ []) (sym is)) in
    text
    ∙ ap (λ (k : ℕ). out ++ raster_text m (part_of from n p ∷ []) k) (part_length from to p within)
    ∙ ap (λ (ys : List ℕ). out ++ ys) (ap (λ (ps : List (List ℤ)). raster_text m ps n) (sym same) ∙ raster_of_parts m planes from n)

-- what was written of the three planes
pub colour_part : (m from to : ℕ) (planes : List (List ℤ)) (p q r : List ℤ) (out now : List ℕ) → length planes ≡ 3 → p ≡ get_or planes 0 [] → q ≡ get_or planes 1 [] → r ≡ get_or planes 2 [] → to ≤ length p
    → now ≡ out ++ raster_text m (part_of from (to - from) p ∷ (part_of from (to - from) q ∷ (part_of from (to - from) r ∷ []))) (length (part_of from (to - from) p)) → now ≡ out ++ raster_part m planes from (to - from)
colour_part m from to planes p q r out now three is is-2 is-3 within text =
    let n : ℕ = to - from in
    let parts : List (List ℤ) = part_of from n p ∷ (part_of from n q ∷ (part_of from n r ∷ [])) in
    let named : get_or planes 0 [] ∷ (get_or planes 1 [] ∷ (get_or planes 2 [] ∷ [])) ≡ p ∷ (q ∷ (r ∷ [])) = rw (sym is, sym is-2, sym is-3) refl in
    let same : map (part_of from n) planes ≡ parts = ap (λ (ps : List (List ℤ)). map (part_of from n) ps) (three_planes planes three ∙ named) in
    text
    ∙ ap (λ (k : ℕ). out ++ raster_text m parts k) (part_length from to p within)
    ∙ ap (λ (ys : List ℕ). out ++ ys) (ap (λ (ps : List (List ℤ)). raster_text m ps n) (sym same) ∙ raster_of_parts m planes from n)

-- one more pixel
raster_more : (m : ℕ) (planes : List (List ℤ)) (i : ℕ) → raster_text m planes (i + 1) ≡ raster_text m planes i ++ pixel_text m planes i
raster_more m planes i =
    let f : ℕ → List ℕ = pixel_text m planes in
    let first : 0 + i ≡ i = omega arith in
    ap (λ (ks : List ℕ). flat_map f ks) (range_more i 0 ∙ ap (λ (k : ℕ). range_with_len 0 i ++ (k ∷ [])) first)
    ∙ flat_map-append f (range_with_len 0 i) (i ∷ [])
    ∙ ap (λ (ys : List ℕ). raster_text m planes i ++ ys) (append-nil (f i))

-- one more pixel behind what was written
pub written_more : (m : ℕ) (planes : List (List ℤ)) (i : ℕ) (out old now : List ℕ) → now ≡ old ++ raster_text m planes i → out ≡ now ++ pixel_text m planes i → out ≡ old ++ raster_text m planes (i + 1)
written_more m planes i out old now before more =
    more ∙ ap (λ (ys : List ℕ). ys ++ pixel_text m planes i) before ∙ append_assoc old (raster_text m planes i) (pixel_text m planes i) ∙ ap (λ (ys : List ℕ). old ++ ys) (sym (raster_more m planes i))

pub one_sample : (now a : List ℕ) → now ++ a ≡ now ++ (a ++ [])
one_sample now a = ap (λ (ys : List ℕ). now ++ ys) (sym (append-nil a))

pub three_samples : (now a b c : List ℕ) → ((now ++ a) ++ b) ++ c ≡ now ++ (a ++ (b ++ (c ++ [])))
three_samples now a b c = append_assoc (now ++ a) b c ∙ append_assoc now a (b ++ c) ∙ ap (λ (ys : List ℕ). now ++ (a ++ (b ++ ys))) (sym (append-nil c))

natural_fits : (m : ℕ) (s : ℤ) → (pos 0 ≤ℤ s) × (s ≤ℤ pos m) → m < 2 ^ 16 → SFits w32 s
natural_fits m (pos n) within few = record { sfits = omega (arith, ints, within.1) }
natural_fits m (negsuc n) within few = absurd (omega (arith, ints, within.0))

-- a sample that is passed on
pub passed_on : (m : ℕ) (s : ℤ) → (pos 0 ≤ℤ s) × (s ≤ℤ pos m) → m < 2 ^ 16 → to_z w32 (of_z w32 s) ≡ s
passed_on m s within few = let fits : SFits w32 s = natural_fits m s within few in to_z-of_z w32 s fits

-- pieces of one length
pieces_length : {X : Type 0} (f : X → List ℕ) (size : ℕ) → ((x : X) → length (f x) ≡ size) → (xs : List X) → length (flat_map f xs) ≡ length xs * size
pieces_length f size each [] = omega arith
pieces_length f size each (x ∷ xs) = omega (arith, length-append (f x) (flat_map f xs), each x, pieces_length f size each xs)

piece_at : {X : Type 0} (f : X → List ℕ) (size : ℕ) → ((x : X) → length (f x) ≡ size) → (xs : List X) (i j : ℕ) (e : X) → i < length xs → j < size → get_or (flat_map f xs) (i * size + j) 0 ≡ get_or (f (get_or xs i e)) j 0
piece_at {X} f size each xs i j e lt within =
    let front : length (take i xs) ≡ i = length-take-le i xs (omega arith) in
    let before : length (flat_map f (take i xs)) ≡ i * size = pieces_length f size each (take i xs) ∙ ap (λ (k : ℕ). k * size) front in
    let inside : j < length (f (get_or xs i e)) = omega (arith, each (get_or xs i e)) in
    ap (λ (k : ℕ). get_or (flat_map f xs) (k + j) 0) (sym before) ∙ get_or-flat_map f xs i j e 0 lt inside

sample_length : (m : ℕ) (s : ℤ) → length (sample_text m s) ≡ sample_size m
sample_length m s = elim (cases_Bool (ltb 255 m)) [ inl wide ↦ rw wide refl | inr narrow ↦ rw narrow refl ]

pixel_length : (m : ℕ) (planes : List (List ℤ)) (i : ℕ) → length (pixel_text m planes i) ≡ length planes * sample_size m
pixel_length m planes i = pieces_length (λ (plane : List ℤ). sample_text m (get_or plane i (pos 0))) (sample_size m) (λ plane. sample_length m (get_or plane i (pos 0))) planes

pub raster_length : (m : ℕ) (planes : List (List ℤ)) (pixels : ℕ) → length (raster_text m planes pixels) ≡ pixels * (length planes * sample_size m)
raster_length m planes pixels =
    pieces_length (pixel_text m planes) (length planes * sample_size m) (λ i. pixel_length m planes i) (range_with_len 0 pixels)
    ∙ ap (λ (k : ℕ). k * (length planes * sample_size m)) (length-range_with_len 0 pixels)

within_pieces : (c n k size : ℕ) → c < n → k < size → c * size + k < n * size
within_pieces c n k size column within =
    let next : c + 1 ≤ n = omega arith in
    let high : size * (c + 1) ≤ size * n = mul-le-mul_left size next in
    omega (arith, high)

wide_place : (i n c k size : ℕ) → size ≡ 2 → 2 * (i * n + c) + k ≡ i * (n * size) + (c * size + k)
wide_place i n c k size two =
    let plain : 2 * (i * n + c) + k ≡ i * (n * 2) + (c * 2 + k) = omega arith in
    plain ∙ ap (λ (z : ℕ). i * (n * z) + (c * z + k)) (sym two)

narrow_place : (i n c size : ℕ) → size ≡ 1 → i * n + c ≡ i * (n * size) + (c * size + 0)
narrow_place i n c size one =
    let plain : i * n + c ≡ i * (n * 1) + (c * 1 + 0) = omega arith in
    plain ∙ ap (λ (z : ℕ). i * (n * z) + (c * z + 0)) (sym one)

no_more : (k : ℕ) → k ≡ k + 0
no_more k = omega arith

-- the byte of a sample in the raster
byte_at : (m : ℕ) (planes : List (List ℤ)) (pixels i c k : ℕ) → i < pixels → c < length planes → k < sample_size m
    → get_or (raster_text m planes pixels) (i * (length planes * sample_size m) + (c * sample_size m + k)) 0 ≡ get_or (sample_text m (get_or (get_or planes c []) i (pos 0))) k 0
byte_at m planes pixels i c k row column within =
    let n : ℕ = length planes in
    let size : ℕ = sample_size m in
    let inner : c * size + k < n * size = within_pieces c n k size column within in
    let pixel : get_or (range_with_len 0 pixels) i 0 ≡ i = get_or-range_with_len 0 pixels i 0 row ∙ omega arith in
    piece_at (pixel_text m planes) (n * size) (λ j. pixel_length m planes j) (range_with_len 0 pixels) i (c * size + k) 0 (omega (arith, length-range_with_len 0 pixels)) inner
    ∙ ap (λ (j : ℕ). get_or (pixel_text m planes j) (c * size + k) 0) pixel
    ∙ piece_at (λ (plane : List ℤ). sample_text m (get_or plane i (pos 0))) size (λ plane. sample_length m (get_or plane i (pos 0))) planes c k [] column within

abbrev InRange : ℕ → ℤ → Type 0
InRange depth s = (lowest depth false ≤ℤ s) × (s ≤ℤ greatest depth false)

natural_back : (depth : ℕ) (s : ℤ) → InRange depth s → pos (natural s) ≡ s
natural_back depth (pos n) fit = refl
natural_back depth (negsuc n) fit = absurd (omega (arith, ints, fit.0))

-- the sample in the raster
sample_back : (m : ℕ) (planes : List (List ℤ)) (pixels i c : ℕ) → i < pixels → c < length planes → sample_from m (raster_text m planes pixels) (i * length planes + c) ≡ natural (get_or (get_or planes c []) i (pos 0))
sample_back m planes pixels i c row column =
    let n : ℕ = length planes in
    let r : List ℕ = raster_text m planes pixels in
    let v : ℕ = natural (get_or (get_or planes c []) i (pos 0)) in
    elim (cases_Bool (ltb 255 m)) [
      | inl wide ↦
          let size : sample_size m ≡ 2 = ap (λ b. let k : ℕ = cond b 2 1 in k) wide in
          let text : sample_text m (get_or (get_or planes c []) i (pos 0)) ≡ (v / 256) ∷ (v % 256) ∷ [] = ap (λ b. cond b ((v / 256) ∷ (v % 256) ∷ []) (v ∷ [])) wide in
          let place : (k : ℕ) → 2 * (i * n + c) + k ≡ i * (n * sample_size m) + (c * sample_size m + k) = λ k. wide_place i n c k (sample_size m) size in
          let high : get_or r (2 * (i * n + c)) 0 ≡ v / 256 = ap (λ (k : ℕ). get_or r k 0) (no_more (2 * (i * n + c)) ∙ place 0) ∙ byte_at m planes pixels i c 0 row column (omega (arith, size)) ∙ ap (λ (ys : List ℕ). get_or ys 0 0) text in
          let low : get_or r (2 * (i * n + c) + 1) 0 ≡ v % 256 = ap (λ (k : ℕ). get_or r k 0) (place 1) ∙ byte_at m planes pixels i c 1 row column (omega (arith, size)) ∙ ap (λ (ys : List ℕ). get_or ys 1 0) text in
          let whole : 256 * get_or r (2 * (i * n + c)) 0 + get_or r (2 * (i * n + c) + 1) 0 ≡ v = omega (arith, high, low) in
          ap (λ b. cond b (256 * get_or r (2 * (i * n + c)) 0 + get_or r (2 * (i * n + c) + 1) 0) (get_or r (i * n + c) 0)) wide ∙ whole
      | inr narrow ↦
          let size : sample_size m ≡ 1 = ap (λ b. let k : ℕ = cond b 2 1 in k) narrow in
          let text : sample_text m (get_or (get_or planes c []) i (pos 0)) ≡ v ∷ [] = ap (λ b. cond b ((v / 256) ∷ (v % 256) ∷ []) (v ∷ [])) narrow in
          let place : i * n + c ≡ i * (n * sample_size m) + (c * sample_size m + 0) = narrow_place i n c (sample_size m) size in
          let only : get_or r (i * n + c) 0 ≡ v = ap (λ (k : ℕ). get_or r k 0) place ∙ byte_at m planes pixels i c 0 row column (omega (arith, size)) ∙ ap (λ (ys : List ℕ). get_or ys 0 0) text in
          ap (λ b. cond b (256 * get_or r (2 * (i * n + c)) 0 + get_or r (2 * (i * n + c) + 1) 0) (get_or r (i * n + c) 0)) narrow ∙ only
    ]

-- the plane of a component
plane_back : (m depth : ℕ) (planes : List (List ℤ)) (pixels c : ℕ) → c < length planes → IsPlane pixels depth false (get_or planes c []) → get_or planes c [] ≡ map pos (plane_from m (length planes) pixels (raster_text m planes pixels) c)
plane_back m depth planes pixels c column is =
    let plane : List ℤ = get_or planes c [] in
    let n : ℕ = length planes in
    let r : List ℕ = raster_text m planes pixels in
    let sample : ℕ → ℤ = λ i. pos (sample_from m r (i * n + c)) in
    let same : (i : ℕ) → i < pixels → get_or plane i (pos 0) ≡ sample i = λ i row.
    sym (ap (λ (k : ℕ). pos k) (sample_back m planes pixels i c row column) ∙ natural_back depth (get_or plane i (pos 0)) (is.range i (pos 0) (omega (arith, row, is.count)))) in
    fill_by_all sample plane pixels (pos 0) is.count same ∙ sym (map-map pos (λ i. sample_from m r (i * n + c)) (range_with_len 0 pixels))

pub planes_back : (m depth : ℕ) (planes : List (List ℤ)) (pixels : ℕ) → All (IsPlane pixels depth false) planes → planes ≡ map (map pos) (planes_from m (length planes) pixels (raster_text m planes pixels))
planes_back m depth planes pixels each =
    let plane : ℕ → List ℤ = λ c. map pos (plane_from m (length planes) pixels (raster_text m planes pixels) c) in
    fill_by_all plane planes (length planes) [] refl (λ c column. plane_back m depth planes pixels c column (each c [] column))
    ∙ planes_are m (length planes) pixels (raster_text m planes pixels)
