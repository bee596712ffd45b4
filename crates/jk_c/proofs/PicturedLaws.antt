-- The picture of samples that lie pixel by pixel, and stripes of its rows.
use Rattle.std.proofs.Common.{◌≡◌, ℕ, ℤ, ◌+◌, ◌*◌, ◌-◌, ◌<◌, ◌≤◌, ◌⊎◌, List, [], length, map, get_or, take, drop, min, pos, ◌≤ℤ◌, Result, Ok, Err, sym, ap, subst, ◌∙◌, inr, arith}
use Rattle.std.specs.List.{range_with_len}
use Rattle.std.specs.Prelude.{IfOk, IfErr}
use Rattle.std.proofs.Math.Seq.{take-length}
use Rattle.std.proofs.Math.Nat.{mul-le-mul_right, mul-le-mul_left}
use Rattle.std.proofs.lemmas.List.{get_or-take, get_or-drop, get_or_default, ext_get_or, take-map, drop-map, length-take, length-drop}
use Rattle.std.proofs.lemmas.List.FromFn.{length-map-range_with_len, get_or-map-range_with_len}
use Rattle.jk_math.specs.Memory.{IsMemory}
use Rattle.jk_math.specs.declared.fault.Fault.{Fault}
use Rattle.jk_math.specs.declared.fault.Fault.TheVariants.{BadParameters}
use Rattle.jk_math.specs.Picture.{Picture, IsPicture, IsPlane, lowest, greatest}
use Rattle.jk_params.specs.declared.picture_frame.PictureFrame.{PictureFrame}
use Rattle.jk_params.specs.PictureFrames.{frame_of}
use Rattle.jk_c.specs.Signed.{signed_plane_in}
use Rattle.jk_c.specs.Pictured.{pictured, rows_cut, stripe_in}
use Rattle.jk_c.proofs.Spreading.{place_below}

-- ---- the picture of samples that lie pixel by pixel

abbrev pub sample : List (List ℤ) → (c k : ℕ) → ℤ
sample planes c k = get_or (get_or planes c []) k (pos 0)

pictured_count : (f : PictureFrame) (samples : List ℤ) → length (pictured f samples).planes ≡ f.components
pictured_count f samples = length-map-range_with_len (signed_plane_in samples (f.width * f.height) f.components) 0 f.components

pub pictured_frame : (f : PictureFrame) (samples : List ℤ) → frame_of (pictured f samples) ≡ f
pictured_frame f samples = ap (λ (n : ℕ). let g : PictureFrame = record f { components = n } in g) (pictured_count f samples)

pictured_plane : (f : PictureFrame) (samples : List ℤ) (c : ℕ) → c < f.components → get_or (pictured f samples).planes c [] ≡ signed_plane_in samples (f.width * f.height) f.components c
pictured_plane f samples c lt = get_or-map-range_with_len (signed_plane_in samples (f.width * f.height) f.components) 0 f.components c c [] lt (omega arith)

pictured_length : (f : PictureFrame) (samples : List ℤ) (c : ℕ) → c < f.components → length (get_or (pictured f samples).planes c []) ≡ f.width * f.height
pictured_length f samples c lt = ap (λ (xs : List ℤ). length xs) (pictured_plane f samples c lt) ∙ length-map-range_with_len _ 0 (f.width * f.height)

pictured_sample : (f : PictureFrame) (samples : List ℤ) (c k : ℕ) → c < f.components → k < f.width * f.height → sample (pictured f samples).planes c k ≡ get_or samples (k * f.components + c) (pos 0)
pictured_sample f samples c k lt less =
    ap (λ (xs : List ℤ). get_or xs k (pos 0)) (pictured_plane f samples c lt)
    ∙ get_or-map-range_with_len (λ i. get_or samples (i * f.components + c) (pos 0)) 0 (f.width * f.height) k k (pos 0) less (omega arith)

-- the frame of a stripe of its rows
abbrev stripe_frame : PictureFrame → (y z : ℕ) → PictureFrame
stripe_frame f y z = record f { y0 = f.y0 + y; height = z - y }

pub stripe_has : (f : PictureFrame) (samples : List ℤ) (y end : ℕ) (p : Picture) → p ≡ stripe_in f samples y (end - f.y0) → frame_of p ≡ record f { y0 = f.y0 + y; height = end - (f.y0 + y) }
stripe_has f samples y end p is =
    let tall : end - f.y0 - y ≡ end - (f.y0 + y) = omega arith in
    ap (λ (q : Picture). frame_of q) is
    ∙ pictured_frame (stripe_frame f y (end - f.y0)) (rows_cut f.width f.components y (end - f.y0) samples)
    ∙ ap (λ (n : ℕ). let g : PictureFrame = record f { y0 = f.y0 + y; height = n } in g) tall

pub stripe_sample : (f : PictureFrame) (samples : List ℤ) (y z c j : ℕ) → c < f.components → j < (z - y) * f.width → sample (stripe_in f samples y z).planes c j ≡ get_or samples ((y * f.width + j) * f.components + c) (pos 0)
stripe_sample f samples y z c j lt less =
    let w = f.width in
    let n = f.components in
    let turn : w * (z - y) ≡ (z - y) * w = grind arith in
    let inside = place_below j ((z - y) * w) n c less lt in
    let parted : (z - y) * w * n ≡ (z - y) * (w * n) = grind arith in
    let place : y * (w * n) + (j * n + c) ≡ (y * w + j) * n + c = grind arith in
    pictured_sample (stripe_frame f y z) (rows_cut w n y z samples) c j lt (omega (arith, less, turn))
    ∙ get_or-take ((z - y) * (w * n)) (drop (y * (w * n)) samples) (j * n + c) (pos 0) (omega (arith, inside, parted))
    ∙ get_or-drop (y * (w * n)) samples (j * n + c) (pos 0)
    ∙ ap (λ i. get_or samples i (pos 0)) place

-- a stripe of a picture of the profile is one
stripe_below : (w y z h k : ℕ) → y < z → z ≤ h → k < w * (z - y) → y * w + k < w * h
stripe_below w y z h k order inside less =
    let turn : w * (z - y) ≡ (z - y) * w = grind arith in
    let sum : y + (z - y) ≡ z = omega (arith, order) in
    let parted : (y + (z - y)) * w ≡ y * w + (z - y) * w = grind arith in
    let both : (y + (z - y)) * w ≡ z * w = ap (λ n. n * w) sum in
    let more : z * w ≤ h * w = mul-le-mul_right w inside in
    let turned : h * w ≡ w * h = grind arith in
    omega (arith, less, turn, parted, both, more, turned)

pub stripe_picture : (f : PictureFrame) (samples : List ℤ) (y z : ℕ) → y < z → z ≤ f.height → IsPicture (pictured f samples) → IsPicture (stripe_in f samples y z)
stripe_picture f samples y z order inside is =
    let g = stripe_frame f y z in
    let own = rows_cut f.width f.components y z samples in
    let count = pictured_count f samples in
    let own_count = pictured_count g own in
    let some = is.components.some in
    let few = is.components.few in
    let lower = is.frame.lower in
    let area = is.frame.area in
    let smaller : f.width * (z - y) ≤ f.width * f.height = mul-le-mul_left f.width (omega (arith, inside)) in
    let InRange : ℤ → Type 0 = λ s. (lowest f.depth f.signed ≤ℤ s) × (s ≤ℤ greatest f.depth f.signed) in
    record {
      frame = record { wide = is.frame.wide; high = omega (arith, order); right = is.frame.right; lower = omega (arith, lower, inside, order); area = omega (arith, area, smaller) };
      components = record {
        some_bits = is.components.some_bits;
        few_bits = is.components.few_bits;
        some = omega (arith, some, count, own_count);
        few = omega (arith, few, count, own_count);
        each = λ c e lt.
            let inside_c : c < f.components = omega (arith, lt, own_count) in
            let plane = get_or (stripe_in f samples y z).planes c [] in
            let long = pictured_length g own c inside_c in
            let whole = is.components.each c [] (omega (arith, inside_c, count)) in
            let all = whole.count in
            let own_plane : IsPlane (f.width * (z - y)) f.depth f.signed plane = record {
              count = long;
              range = λ k other less.
                  let less_k : k < f.width * (z - y) = omega (arith, less, long) in
                  let there = stripe_below f.width y z f.height k order inside less_k in
                  let turn : f.width * (z - y) ≡ (z - y) * f.width = grind arith in
                  let same = stripe_sample f samples y z c k inside_c (omega (arith, less_k, turn)) ∙ sym (pictured_sample f samples c (y * f.width + k) inside_c there) in
                  subst InRange (get_or_default plane k (pos 0) other less)
                  (subst InRange (sym same) (whole.range (y * f.width + k) (pos 0) (omega (arith, there, all))));
            } in
            subst (IsPlane (f.width * (z - y)) f.depth f.signed) (get_or_default (stripe_in f samples y z).planes c [] e lt) own_plane;
      };
    }

-- ---- a picture by its frame and its samples

abbrev picture_with : PictureFrame → List (List ℤ) → Picture
picture_with f planes = record { x0 = f.x0; y0 = f.y0; width = f.width; height = f.height; depth = f.depth; signed = f.signed; planes = planes }

same_picture : (p q : Picture) → frame_of p ≡ frame_of q → p.planes ≡ q.planes → p ≡ q
same_picture p q frame planes = ap (λ (f : PictureFrame). picture_with f p.planes) frame ∙ ap (λ (ps : List (List ℤ)). picture_with (frame_of q) ps) planes

-- a picture with this frame and these samples
pub pictured_is : (p : Picture) (f : PictureFrame) (samples : List ℤ) → IsPicture p → frame_of p ≡ f
    → ((c k : ℕ) → c < f.components → k < f.width * f.height → sample p.planes c k ≡ get_or samples (k * f.components + c) (pos 0)) → p ≡ pictured f samples
pictured_is p f samples is frame each =
    same_picture p (pictured f samples) (frame ∙ sym (pictured_frame f samples)) (ext_get_or [] p.planes (pictured f samples).planes (count ∙ sym (pictured_count f samples)) plane)
  where
    count : length p.planes ≡ f.components
    count = ap (λ (x : PictureFrame). x.components) frame

    area : p.width * p.height ≡ f.width * f.height
    area = ap (λ (x : PictureFrame). x.width * x.height) frame

    plane : (c : ℕ) → c < length p.planes → get_or p.planes c [] ≡ get_or (pictured f samples).planes c []
    plane c lt =
        let inside : c < f.components = omega (arith, lt, count) in
        let long = (is.components.each c [] lt).count in
        ext_get_or (pos 0) (get_or p.planes c []) (get_or (pictured f samples).planes c []) (long ∙ area ∙ sym (pictured_length f samples c inside))
        (λ k less. let few : k < f.width * f.height = omega (arith, less, long, area) in each c k inside few ∙ sym (pictured_sample f samples c k inside few))

-- ---- a stripe as it is made

-- all rows
pub stripe_whole : (f : PictureFrame) (samples : List ℤ) → length samples ≡ f.width * f.height * f.components → stripe_in f samples 0 f.height ≡ pictured f samples
stripe_whole f samples whole =
    let row : ℕ = f.width * f.components in
    let top : f.y0 + 0 ≡ f.y0 = omega arith in
    let high : f.height - 0 ≡ f.height = omega arith in
    let none : 0 * row ≡ 0 = omega arith in
    let size : (f.height - 0) * row ≡ f.height * row = ap (λ m. m * row) high in
    let turn : f.height * row ≡ f.width * f.height * f.components = grind arith in
    let same : (f.height - 0) * row ≡ length samples = omega (arith, size, turn, whole) in
    let all : rows_cut f.width f.components 0 f.height samples ≡ samples = ap (λ m. take ((f.height - 0) * row) (drop m samples)) none ∙ ap (λ m. take m samples) same ∙ take-length samples in
    ap (λ (y : ℕ). let g : PictureFrame = record f { y0 = y; height = f.height - 0 } in pictured g (rows_cut f.width f.components 0 f.height samples)) top
    ∙ ap (λ (h : ℕ). let g : PictureFrame = record f { height = h } in pictured g (rows_cut f.width f.components 0 f.height samples)) high
    ∙ ap (λ (zs : List ℤ). pictured f zs) all

-- how many elements its rows are, and which part of the list
rows_size : (w n y z : ℕ) → y < z → z * (w * n) - y * (w * n) ≡ (z - y) * (w * n)
rows_size w n y z order =
    let sum : z ≡ y + (z - y) = omega (arith, order) in
    let both : z * (w * n) ≡ (y + (z - y)) * (w * n) = ap (λ m. m * (w * n)) sum in
    let parted : (y + (z - y)) * (w * n) ≡ y * (w * n) + (z - y) * (w * n) = grind arith in
    omega (arith, both, parted)

pub rows_whole : {X : Type 0} (w h n y z : ℕ) (pixels : List X) → y < z → z ≤ h → length pixels ≡ w * h * n
    → w * (z - y) * n ≤ length (take (z * (w * n) - y * (w * n)) (drop (y * (w * n)) pixels))
rows_whole {X} w h n y z pixels order inside whole =
    let d : ℕ = y * (w * n) in
    let m : ℕ = z * (w * n) - d in
    let more : z * (w * n) ≤ h * (w * n) = mul-le-mul_right (w * n) inside in
    let turn : h * (w * n) ≡ w * h * n = grind arith in
    let size = rows_size w n y z order in
    let turned : (z - y) * (w * n) ≡ w * (z - y) * n = grind arith in
    let rest : length (drop d pixels) ≡ length pixels - d = length-drop d pixels in
    let all : length (take m (drop d pixels)) ≡ min m (length (drop d pixels)) = length-take m (drop d pixels) in
    omega (arith, all, rest, more, turn, whole, size, turned)

pub stripe_planes : {X : Type 0} (value : X → ℤ) (f : PictureFrame) (pixels : List X) (y z : ℕ) (planes : List (List ℤ)) → y < z
    → planes ≡ map (signed_plane_in (map value (take (z * (f.width * f.components) - y * (f.width * f.components)) (drop (y * (f.width * f.components)) pixels))) (f.width * (z - y)) f.components) (range_with_len 0 f.components)
    → planes ≡ (stripe_in f (map value pixels) y z).planes
stripe_planes {X} value f pixels y z planes order is =
    let row : ℕ = f.width * f.components in
    let cut : List ℤ → List (List ℤ) = λ samples. map (signed_plane_in samples (f.width * (z - y)) f.components) (range_with_len 0 f.components) in
    is
    ∙ ap (λ m. cut (map value (take m (drop (y * row) pixels)))) (rows_size f.width f.components y z order)
    ∙ ap cut (sym (take-map value ((z - y) * row) (drop (y * row) pixels)) ∙ ap (λ (samples : List ℤ). take ((z - y) * row) samples) (sym (drop-map value (y * row) pixels)))

pub stripe_made : (f : PictureFrame) (samples : List ℤ) (y z : ℕ) (planes : List (List ℤ)) (r : Result Picture Fault) → planes ≡ (stripe_in f samples y z).planes
    → IfOk r (λ i. i ≡ picture_with (stripe_frame f y z) planes) → IfOk r (λ i. i ≡ stripe_in f samples y z)
stripe_made f samples y z planes (Ok p) same h = h ∙ ap (λ (ps : List (List ℤ)). picture_with (stripe_frame f y z) ps) same
stripe_made f samples y z planes (Err e) same h = tt

pub stripe_refused : (f : PictureFrame) (samples : List ℤ) (y z : ℕ) (planes : List (List ℤ)) (r : Result Picture Fault) → y < z → z ≤ f.height → planes ≡ (stripe_in f samples y z).planes
    → (IsPicture (picture_with (stripe_frame f y z) planes) → r ≡ Ok (picture_with (stripe_frame f y z) planes)) → IfErr r (λ e. e ≡ BadParameters)
    → IfErr r (λ e. IsMemory e ⊎ ((e ≡ BadParameters) × (IsPicture (pictured f samples) → ⊥)))
stripe_refused f samples y z planes (Ok p) order inside same made h = tt
stripe_refused f samples y z planes (Err e) order inside same made h = inr (h, outside)
  where
    outside : IsPicture (pictured f samples) → ⊥
    outside is =
        let own : IsPicture (picture_with (stripe_frame f y z) planes) = subst (λ (ps : List (List ℤ)). IsPicture (picture_with (stripe_frame f y z) ps)) (sym same) (stripe_picture f samples y z order inside is) in
        let done : Err e ≡ Ok (picture_with (stripe_frame f y z) planes) = made own in
        cc
