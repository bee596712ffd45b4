-- The rows that an image in memory gives are its own, and what is written of them is its file.
use Rattle.std.proofs.Common.{◌≡◌, ℕ, ◌+◌, ◌*◌, ◌-◌, ◌^◌, ◌<◌, ◌≤◌, ◌⊎◌, inl, inr, Bool, true, false, if◌then◌else◌, not, List, [], ◌∷◌, ◌++◌, length, map, take, drop, get_or, Result, Ok, Err, IfErr, ℤ, pos, ◌≤ℤ◌, refl, sym, ap, subst, ◌∙◌, arith}
use Rattle.std.specs.Bool.{⊤}
use Rattle.std.specs.List.{range_with_len}
use Rattle.std.specs.Global.{Vec}
use Rattle.jk_math.specs.Lists.{lists_of}
use Rattle.std.proofs.lemmas.Bool.{cases_lt}
use Rattle.std.proofs.lemmas.List.{ext_get_or, get_or-take, get_or-drop, length-take, length-drop, map-append}
use Rattle.std.proofs.lemmas.List.FromFn.{length-map-range_with_len, get_or-map-range_with_len, map-range_with_len_more}
use Rattle.jk_math.specs.Answer.{Refuses}
use Rattle.jk_math.specs.Steps.{refuses_due}
use Rattle.jk_math.specs.Memory.{IsMemory}
use Rattle.jk_math.specs.declared.fault.Fault.{Fault}
use Rattle.jk_math.specs.declared.fault.Fault.TheVariants.{BadParameters, Memory}
use Rattle.jk_math.specs.declared.rect.Rect.{Rect}
use Rattle.jk_math.specs.Picture.{Picture, IsPicture, IsPlane, lowest, greatest, sample_at}
use Rattle.jk_math.specs.Raster.{raster}
use Rattle.jk_math.proofs.Laws.{raster_length}
use Rattle.jk_params.specs.declared.parameters.Parameters.{Parameters}
use Rattle.jk_params.specs.declared.picture_frame.PictureFrame.{PictureFrame}
use Rattle.jk_params.specs.PictureFrames.{frame_of}
use Rattle.jk_params.specs.Profile.{is_profile, is_profile_for}
use Rattle.jk_params.proofs.Laws.{profile_by_frame}
use Rattle.jk_code.specs.declared.image_rows.ImageRows.{ImageRows}
use Rattle.jk_code.specs.Beginnings.{IsLeftBy, LeftBy}
use Rattle.jk_code.specs.Made.{rows_of}
use Rattle.jk_code.specs.Rows.{AreTaken}
use Rattle.jk_code.specs.RowsWritten.{WereAllGiven, IsWrittenOfBy, sample_on_grid, HaveSameRows}
use Rattle.jk_code.specs.ImageGiven.{HasGivenOf}
use Rattle.jk_code.specs.Meaning.{Means}
use Rattle.jk_code.specs.Fronts.{HasFronts}
use Rattle.jk_code.specs.Written.{written, file_for}
use Rattle.jk_code.proofs.PictureRows.{same_rows, whole_rows, rows_value}
use Rattle.jk_code.proofs.StripeRows.{rows_sample, rows_components}

-- ---- rows that are copied

-- places up to a row, and from there to another one
pub span : (w h a b : ℕ) → a ≤ b → b ≤ h → a * w + (b - a) * w ≤ w * h
span w h a b low high =
    let k : ℕ = h - b in
    let m : ℕ = b - a in
    let parted : (a + m + k) * w ≡ a * w + m * w + k * w = grind arith in
    let whole : a + m + k ≡ h = omega (arith, low, high) in
    let turn : h * w ≡ w * h = grind arith in
    let size : (a + m + k) * w ≡ w * h = ap (λ n. n * w) whole ∙ turn in
    omega (arith, parted, size)

-- What is copied of rows y up to z: so many samples from one on.
pub record IsPartOf (p : Picture) (y z first count : ℕ) : Type 0 where
  pub low : p.y0 ≤ y
  pub order : y < z
  pub high : z ≤ p.y0 + p.height
  pub first_is : first ≡ (y - p.y0) * p.width
  pub count_is : count ≡ (z - y) * p.width

pub part_inside : (p : Picture) (y z first count : ℕ) → IsPartOf p y z first count → first + count ≤ p.width * p.height
part_inside p y z first count part =
    let low = part.low in
    let order = part.order in
    let high = part.high in
    let rows : (z - p.y0) - (y - p.y0) ≡ z - y = omega (arith, low, order) in
    let size : ((z - p.y0) - (y - p.y0)) * p.width ≡ (z - y) * p.width = ap (λ n. n * p.width) rows in
    let all = span p.width p.height (y - p.y0) (z - p.y0) (omega (arith, order)) (omega (arith, high)) in
    omega (arith, all, size, part.first_is, part.count_is)

pub part_long : (p : Picture) (y z first count c : ℕ) → IsPicture p → IsPartOf p y z first count → c < length p.planes → first + count ≤ length (get_or p.planes c [])
part_long p y z first count c is part lt =
    let inside = part_inside p y z first count part in
    let long = (is.components.each c [] lt).count in
    omega (arith, inside, long)

pub part_small : (p : Picture) (y z first count : ℕ) → IsPicture p → IsPartOf p y z first count → first + count ≤ 2 ^ 28
part_small p y z first count is part =
    let inside = part_inside p y z first count part in
    let area = is.frame.area in
    omega (arith, inside, area)

-- the samples of a component
abbrev pub part_plane : Picture → (first count c : ℕ) → List ℤ
part_plane p first count c = take count (drop first (get_or p.planes c []))

part_length : (p : Picture) (y z first count c : ℕ) → IsPicture p → IsPartOf p y z first count → c < length p.planes → length (part_plane p first count c) ≡ count
part_length p y z first count c is part lt =
    let plane = get_or p.planes c [] in
    let long = part_long p y z first count c is part lt in
    let one = length-take count (drop first plane) in
    let two = length-drop first plane in
    omega (arith, long, one, two)

part_entry : (p : Picture) (first count c k : ℕ) (d : ℤ) → k < count → get_or (part_plane p first count c) k d ≡ get_or (get_or p.planes c []) (first + k) d
part_entry p first count c k d lt = get_or-take count (drop first (get_or p.planes c [])) k d lt ∙ get_or-drop first (get_or p.planes c []) k d

part_is : (p : Picture) (y z first count c : ℕ) → IsPicture p → IsPartOf p y z first count → c < length p.planes → IsPlane (p.width * (z - y)) p.depth p.signed (part_plane p first count c)
part_is p y z first count c is part lt =
    let plane = is.components.each c [] lt in
    let size = part_length p y z first count c is part lt in
    let long = part_long p y z first count c is part lt in
    let turn : (z - y) * p.width ≡ p.width * (z - y) = grind arith in
    record {
      count = size ∙ part.count_is ∙ turn;
      range = λ k d less.
          (let few : k < count = omega (arith, less, size) in
          subst (λ (s : ℤ). (lowest p.depth p.signed ≤ℤ s) × (s ≤ℤ greatest p.depth p.signed)) (sym (part_entry p first count c k d few)) (plane.range (first + k) d (omega (arith, few, long))));
    }

-- all of them
abbrev pub part_planes : Picture → (first count : ℕ) → List (List ℤ)
part_planes p first count = map (part_plane p first count) (range_with_len 0 (length p.planes))

planes_are : (p : Picture) (y z first count : ℕ) → IsPicture p → IsPartOf p y z first count → part_planes p first count ≡ (rows_of p y z).planes
planes_are p y z first count is part =
    let n = length p.planes in
    let a : Rect = record { x0 = p.x0; y0 = y; x1 = p.x0 + p.width; y1 = z } in
    let plane : ℕ → List ℤ = λ c. raster a (λ x y. sample_at p c (x - p.x0) (y - p.y0)) in
    let one = length-map-range_with_len (part_plane p first count) 0 n in
    let two = length-map-range_with_len plane 0 n in
    ext_get_or [] (part_planes p first count) (rows_of p y z).planes (one ∙ sym two) (λ c lt.
    let less : c < n = omega (arith, lt, one) in
    let left = get_or-map-range_with_len (part_plane p first count) 0 n c c [] less (omega arith) in
    let right = get_or-map-range_with_len plane 0 n c c [] less (omega arith) in
    let wide : p.x0 + p.width - p.x0 ≡ p.width = omega arith in
    let long : length (plane c) ≡ count = raster_length a (λ x y. sample_at p c (x - p.x0) (y - p.y0)) ∙ ap (λ w. (z - y) * w) wide ∙ sym part.count_is in
    let short = part_length p y z first count c is part less in
    left
    ∙ ext_get_or (pos 0) (part_plane p first count c) (plane c) (short ∙ sym long) (λ k at.
    let few : k < count = omega (arith, at, short) in
    part_entry p first count c k (pos 0) few
    ∙ ap (λ m. get_or (get_or p.planes c []) (m + k) (pos 0)) part.first_is
    ∙ sym (rows_sample p y z c k part.low less (omega (arith, few, part.count_is)))
    ∙ ap (λ (xs : List ℤ). get_or xs k (pos 0)) right)
    ∙ sym right)

-- one component more
pub planes_more : (plane_of : ℕ → List ℤ) (i : ℕ) (old new : List (Vec ℤ)) (plane : Vec ℤ) → lists_of old ≡ map plane_of (range_with_len 0 i)
    → new ≡ old ++ (plane ∷ []) → plane.items ≡ plane_of i → lists_of new ≡ map plane_of (range_with_len 0 (i + 1))
planes_more plane_of i old new plane before pushed is =
    ap (λ (ps : List (Vec ℤ)). lists_of ps) pushed
    ∙ map-append (λ (p : Vec ℤ). p.items) old (plane ∷ [])
    ∙ ap (λ (x : List ℤ). lists_of old ++ (x ∷ [])) is
    ∙ ap (λ (xs : List (List ℤ)). xs ++ (plane_of i ∷ [])) before
    ∙ sym (map-range_with_len_more plane_of 0 i i (omega arith))

-- the picture of rows that were copied
abbrev pub part_picture : Picture → (y z : ℕ) → List (List ℤ) → Picture
part_picture p y z planes = record { x0 = p.x0; y0 = y; width = p.width; height = z - y; depth = p.depth; signed = p.signed; planes = planes }

pub part_picture_is : (p : Picture) (y z first count : ℕ) (planes : List (List ℤ)) → IsPicture p → IsPartOf p y z first count → planes ≡ part_planes p first count → IsPicture (part_picture p y z planes)
part_picture_is p y z first count planes is part same = subst (λ (ps : List (List ℤ)). IsPicture (part_picture p y z ps)) (sym same) (record {
  frame = record {
    wide = is.frame.wide;
    high = (let order = part.order in omega (arith, order));
    right = is.frame.right;
    lower = (let low = part.low in let order = part.order in let high = part.high in let lower = is.frame.lower in omega (arith, low, order, high, lower));
    area = (let small = part_small p y z first count is part in let turn : (z - y) * p.width ≡ p.width * (z - y) = grind arith in omega (arith, small, turn, part.count_is));
  };
  components = record {
    some_bits = is.components.some_bits;
    few_bits = is.components.few_bits;
    some = (let some = is.components.some in let n = length-map-range_with_len (part_plane p first count) 0 (length p.planes) in omega (arith, some, n));
    few = (let few = is.components.few in let n = length-map-range_with_len (part_plane p first count) 0 (length p.planes) in omega (arith, few, n));
    each = λ c e lt.
        (let n = length-map-range_with_len (part_plane p first count) 0 (length p.planes) in
        let less : c < length p.planes = omega (arith, lt, n) in
        subst (IsPlane (p.width * (z - y)) p.depth p.signed) (sym (get_or-map-range_with_len (part_plane p first count) 0 (length p.planes) c c e less (omega arith))) (part_is p y z first count c is part less));
  };
})

pub part_rows : (p : Picture) (y z first count : ℕ) (planes : List (List ℤ)) → IsPicture p → IsPartOf p y z first count → planes ≡ part_planes p first count → part_picture p y z planes ≡ rows_of p y z
part_rows p y z first count planes is part same =
    let wide : p.x0 + p.width - p.x0 ≡ p.width = omega arith in
    ap (λ (ps : List (List ℤ)). part_picture p y z ps) (same ∙ planes_are p y z first count is part)
    ∙ ap (λ (w : ℕ). let r : Picture = record (rows_of p y z) { width = w } in r) (sym wide)

-- They are told by the fields of a picture.
pub record IsCut (p : Picture) (y z x0 width depth : ℕ) (signed : Bool) (planes : List (List ℤ)) : Type 0 where
  pub left : x0 ≡ p.x0
  pub wide : width ≡ p.width
  pub deep : depth ≡ p.depth
  pub sign : signed ≡ p.signed

abbrev pub cut_of : (y z x0 width depth : ℕ) (signed : Bool) (planes : List (List ℤ)) → Picture
cut_of y z x0 width depth signed planes = record { x0 = x0; y0 = y; width = width; height = z - y; depth = depth; signed = signed; planes = planes }

cut_is : (p : Picture) (y z x0 width depth : ℕ) (signed : Bool) (planes : List (List ℤ)) → IsCut p y z x0 width depth signed planes → cut_of y z x0 width depth signed planes ≡ part_picture p y z planes
cut_is p y z x0 width depth signed planes cut =
    ap (λ n. cut_of y z n width depth signed planes) cut.left ∙ ap (λ n. cut_of y z p.x0 n depth signed planes) cut.wide
    ∙ ap (λ n. cut_of y z p.x0 p.width n signed planes) cut.deep ∙ ap (λ (b : Bool). cut_of y z p.x0 p.width p.depth b planes) cut.sign

pub cut_picture : (p : Picture) (y z first count x0 width depth : ℕ) (signed : Bool) (planes : List (List ℤ)) → IsPicture p → IsPartOf p y z first count → planes ≡ part_planes p first count
    → IsCut p y z x0 width depth signed planes → IsPicture (cut_of y z x0 width depth signed planes)
cut_picture p y z first count x0 width depth signed planes is part same cut =
    subst IsPicture (sym (cut_is p y z x0 width depth signed planes cut)) (part_picture_is p y z first count planes is part same)

pub cut_made : (p v : Picture) (y z first count x0 width depth : ℕ) (signed : Bool) (planes : List (List ℤ)) → IsPicture p → IsPartOf p y z first count → planes ≡ part_planes p first count
    → IsCut p y z x0 width depth signed planes → v ≡ cut_of y z x0 width depth signed planes → v ≡ rows_of p y z
cut_made p v y z first count x0 width depth signed planes is part same cut value =
    value ∙ cut_is p y z x0 width depth signed planes cut ∙ part_rows p y z first count planes is part same

-- an image that is made is not refused
pub not_refused : {X : Type 0} (r : Result X Fault) (x : X) → r ≡ Ok x → IfErr r IsMemory
not_refused (Ok y) x e = tt
not_refused (Err d) x e = absurd cc

-- the frame of rows
pub rows_frame : (p v : Picture) (y z : ℕ) → v ≡ rows_of p y z → frame_of v ≡ (let r : PictureFrame = record (frame_of p) { y0 = y; height = z - y } in r)
rows_frame p v y z value =
    let wide : p.x0 + p.width - p.x0 ≡ p.width = omega arith in
    let n : length (rows_of p y z).planes ≡ length p.planes = rows_components p y z in
    ap (λ (x : Picture). frame_of x) value
    ∙ ap (λ w. let r : PictureFrame = record (frame_of (rows_of p y z)) { width = w } in r) wide
    ∙ ap (λ k. let r : PictureFrame = record (frame_of p) { y0 = y; height = z - y; components = k } in r) n

-- ---- what was given

stripe_values : (p i : Picture) (y w c x r : ℕ) → rows_of p y w ≡ rows_of i y w → frame_of p ≡ frame_of i → c < length p.planes → p.x0 ≤ x → x < p.x0 + p.width → y ≤ r → r < w → sample_on_grid p c x r ≡ sample_on_grid i c x r
stripe_values p i y w c x r same frame lt left right upper lower =
    let count : length p.planes ≡ length i.planes = ap (λ (f : PictureFrame). f.components) frame in
    let x0 : p.x0 ≡ i.x0 = ap (λ (f : PictureFrame). f.x0) frame in
    let width : p.width ≡ i.width = ap (λ (f : PictureFrame). f.width) frame in
    sym (rows_value p y w c x r lt left right upper lower) ∙ ap (λ (v : Picture). sample_on_grid v c x r) same
    ∙ rows_value i y w c x r (omega (arith, lt, count)) (omega (arith, left, x0)) (omega (arith, right, x0, width)) upper lower

-- the samples of all stripes
taken_values : (p i : Picture) (c x r : ℕ) → frame_of p ≡ frame_of i → c < length p.planes → p.x0 ≤ x → x < p.x0 + p.width → (stripes : List (ℕ × ImageRows)) (s t : ImageRows) (y z : ℕ) → s.next ≡ y → s.image.now ≡ i
    → AreTaken HasGivenOf p y z s stripes t → y ≤ r → r < z → sample_on_grid p c x r ≡ sample_on_grid i c x r
taken_values p i c x r frame lt left right [] s t y z next is h upper lower = absurd (let end = h.0 in omega (arith, upper, lower, end))
taken_values p i c x r frame lt left right (a ∷ stripes) s t y z next is h upper lower =
    by (λ rest. taken_values p i c x r frame lt left right stripes a.1 t a.0 z here (h.2.image ∙ is) h.3 rest lower) (cases_lt r a.0)
  where
    Same : Type 0
    Same = sample_on_grid p c x r ≡ sample_on_grid i c x r

    more : y < a.0
    more = h.0

    tall : a.0 - y ≡ a.1.next - s.next
    tall = ap (λ (v : Picture). v.height) h.2.rows

    here : a.1.next ≡ a.0
    here = omega (arith, tall, next, more)

    rows : rows_of p y a.0 ≡ rows_of i y a.0
    rows = h.2.rows ∙ ap (λ (v : Picture). rows_of v s.next a.1.next) is ∙ ap (λ n. rows_of i n a.1.next) next ∙ ap (λ n. rows_of i y n) here

    by : (a.0 ≤ r → Same) → (r < a.0) ⊎ (a.0 ≤ r) → Same
    by go (inl less) = stripe_values p i y a.0 c x r rows frame lt left right upper less
    by go (inr rest) = go rest

-- All rows that were given are those of the image.
pub all_given : (i : Picture) (s t : ImageRows) (p : Picture) → IsPicture i → s.image.now ≡ i → s.next ≡ i.y0 → WereAllGiven HasGivenOf (frame_of i) s t p → p ≡ i
all_given i s t p is image next given =
    let frame : frame_of p ≡ frame_of i = given.frame in
    let top : p.y0 ≡ i.y0 = ap (λ (f : PictureFrame). f.y0) frame in
    let tall : p.height ≡ i.height = ap (λ (f : PictureFrame). f.height) frame in
    let same : HaveSameRows p i i.y0 (i.y0 + i.height) = record {
      frame = frame;
      values = λ c x r lt left right upper lower. taken_values p i c x r frame lt left right given.rows.0 s t i.y0 (i.y0 + i.height) next image given.rows.1 upper lower;
    } in
    sym (whole_rows p given.picture) ∙ ap (λ n. rows_of p n (n + p.height)) top ∙ ap (λ n. rows_of p i.y0 (i.y0 + n)) tall
    ∙ same_rows p i i.y0 (i.y0 + i.height) same ∙ whole_rows i is

-- no fault is met in their place
abbrev pub NoneMet : ImageRows → Fault → ImageRows → Type 0
NoneMet a e b = ⊥

-- ---- the file of an image

-- This is it.
pub record IsFileOf (i : Picture) (q : Parameters) (text : List ℕ) : Type 0 where
  pub exact : written i q ≡ Ok text
  pub means : Means text 0 i
  pub fronts : HasFronts i q text

pub file_is : {K : Type 0} (took : K → List ℕ → K → Type 0) (i : Picture) (f : PictureFrame) (q : Parameters) (s t : ImageRows) (a b : K) → IsPicture i → f ≡ frame_of i → s.image.now ≡ i → s.next ≡ i.y0
    → (p : Picture) × WereAllGiven HasGivenOf f s t p × (file : List ℕ) × (written p q ≡ Ok file) × took a file b × Means file 0 p × HasFronts p q file
    → (file : List ℕ) × took a file b × IsFileOf i q file
file_is took i f q s t a b is frame image next (p, given, file, exact, passed, means, fronts) =
    let same : p ≡ i = all_given i s t p is image next (subst (λ (x : PictureFrame). WereAllGiven HasGivenOf x s t p) frame given) in
    (file, passed, subst (λ (x : Picture). IsFileOf x q file) same (record { exact = exact; means = means; fronts = fronts }))

-- a list that had nothing
pub text_is : (i : Picture) (q : Parameters) (old new : List ℕ) → old ≡ [] → (file : List ℕ) × (new ≡ old ++ file) × IsFileOf i q file → IsFileOf i q new
text_is i q old new none (file, behind, is) = subst (λ (x : List ℕ). IsFileOf i q x) (sym (behind ∙ ap (λ (x : List ℕ). x ++ file) none)) is

-- refused memory is an answer to whatever is due
pub refuses_memory : {X : Type 0} (e : Fault) (due : Result X Fault) → IsMemory e → Refuses e due
refuses_memory (Memory r) due memory = tt
refuses_memory e due memory = absurd memory

outside_due : (p : Picture) (q : Parameters) → is_profile q p ≡ false → written p q ≡ Err BadParameters
unfolding written
outside_due p q outside = ap (λ (b : Bool). if not b then Err BadParameters else file_for p q) outside

left_due : (p : Picture) (q : Parameters) (text : List ℕ) (e : Fault) → IsLeftBy IsMemory p q text e → Refuses e (written p q)
left_due p q text e (inl outside) = refuses_due e (written p q) (outside_due p q outside.1 ∙ ap (λ (x : Fault). let r : Result (List ℕ) Fault = Err x in r) (sym outside.0))
left_due p q text e (inr (inl limit)) = refuses_due e (written p q) (limit.1 ∙ ap (λ (x : Fault). let r : Result (List ℕ) Fault = Err x in r) (sym limit.0))
left_due p q text e (inr (inr (inl memory, begun))) = refuses_memory e (written p q) memory
left_due p q text e (inr (inr (inr memory, begun))) = refuses_memory e (written p q) memory

-- Where a list was refused the file of an image, that fault is due or memory was refused.
pub image_refused : (i : Picture) (f : PictureFrame) (q : Parameters) (s t : ImageRows) (text : List ℕ) (e : Fault) → IsPicture i → f ≡ frame_of i → s.image.now ≡ i → s.next ≡ i.y0
    → IsWrittenOfBy IsMemory HasGivenOf NoneMet f q s t text (Err e) → Refuses e (written i q)
image_refused i f q s t text e is frame image next (inl why) =
    refuses_memory e (written i q) (subst IsMemory (let same : why.0 ≡ e = cc in same) (elim why.2 [ inl memory ↦ memory | inr met ↦ absurd met.fault ]))
image_refused i f q s t text e is frame image next (inr (p, given, left)) =
    subst (λ (x : Picture). Refuses e (written x q)) (all_given i s t p is image next (subst (λ (x : PictureFrame). WereAllGiven HasGivenOf x s t p) frame given)) (left_due p q text e left)

-- outside the profile that is due
abbrev pub told : Fault → Result ⊤ Fault
told e = Err e

abbrev pub checked : Bool → Result ⊤ Fault
checked b = if b then Ok tt else Err BadParameters

bad : (b : Bool) (e : Fault) → told e ≡ checked b → (b ≡ false) × (e ≡ BadParameters)
bad true e due = absurd cc
bad false e due = (refl, (let same : e ≡ BadParameters = cc in same))

pub image_outside : (i : Picture) (f : PictureFrame) (q : Parameters) (e : Fault) → f ≡ frame_of i → told e ≡ checked (is_profile_for q f) → Refuses e (written i q)
image_outside i f q e frame due =
    let why = bad (is_profile_for q f) e due in
    refuses_due e (written i q) (outside_due i q (profile_by_frame q i ∙ ap (λ (x : PictureFrame). is_profile_for q x) (sym frame) ∙ why.0) ∙ ap (λ (x : Fault). let s : Result (List ℕ) Fault = Err x in s) (sym why.1))

-- nothing outside the profile
pub left_bad : (tells : Fault → Type 0) (i : Picture) (f : PictureFrame) (q : Parameters) (e : Fault) → f ≡ frame_of i → told e ≡ checked (is_profile_for q f) → LeftBy tells i q [] (Err e)
left_bad tells i f q e frame due =
    let why = bad (is_profile_for q f) e due in
    inl (why.1, profile_by_frame q i ∙ ap (λ (x : PictureFrame). is_profile_for q x) (sym frame) ∙ why.0, refl)

-- its meaning, whichever file is said to be written
pub file_means : (i : Picture) (q : Parameters) (text file : List ℕ) → IsFileOf i q text → written i q ≡ Ok file → Means file 0 i × HasFronts i q file
file_means i q text file is e =
    let same : text ≡ file = (let both = sym is.exact ∙ e in cc) in
    (subst (λ (x : List ℕ). Means x 0 i) same is.means, subst (λ (x : List ℕ). HasFronts i q x) same is.fronts)
