-- A PNM file that is read is spelled so, and one that is spelled so is read.
use Rattle.std.proofs.Common.{◌≡◌, ℕ, ◌+◌, ◌*◌, ◌^◌, ◌<◌, ◌≤◌, Bool, true, false, not, cond, eqb, leb, ltb, ◌||◌, ◌&&◌, nat_eq, List, [], ◌∷◌, ◌++◌, length, map, get_or, drop, ℤ, pos, Ok, Err, refl, sym, ap, subst, ◌∙◌, inl, inr, arith, lit<}
use Rattle.std.specs.Char.{is_ascii_digit}
use Rattle.std.specs.List.{starts_with, list_all, AllByRecursion}
use Rattle.std.proofs.Math.Nat.{mul-le-mul_left, mul_comm, pow-le-pow_right}
use Rattle.std.proofs.lemmas.Bool.{eqb-true, eq-eqb, ne_eqb, ltb-false, le-ltb, leb-true, le-leb, and_parts, and_from, not-false}
use Rattle.jk_math.specs.Steps.{bind_then, refuse_then, chosen, guard_ended, ok_is}
use Rattle.jk_math.specs.Picture.{Picture}
use Rattle.jk_math.specs.declared.fault.Fault.TheVariants.{BadPnm}
use Rattle.jk_pnm.specs.declared.header.Header.{Header}
use Rattle.jk_pnm.specs.Pnm.{is_space, Separator, gap_text, IsGap, number_of, IsNumber, Text, magic_text, pnm_text, IsText, components_of, sample_size, planes_from, ShowsPicture, IsPnm}
use Rattle.jk_pnm.specs.Reading.{magic_at, gap_at, field_at, depth_at, header_at, raster_size, samples_of, picture_of, are_below, picture_at, pnm_at}
use Rattle.jk_pnm.proofs.GapLaws.{gap_found, gap_again, gap_begins, Begins, space_is_no_digit, digit_is_no_space}
use Rattle.jk_pnm.proofs.NumberLaws.{or_parts, number_found, number_again, number_begins, depth_found, depth_again}

no_front : (b : Bool) → (b && false) ≡ true → ⊥
no_front true e = cc
no_front false e = cc

front : (a b : ℕ) (bytes : List ℕ) → starts_with nat_eq bytes (a ∷ b ∷ []) ≡ true → bytes ≡ (a ∷ b ∷ []) ++ drop 2 bytes
front a b [] e = absurd cc
front a b (x ∷ []) e = absurd (no_front (nat_eq a x) e)
front a b (x ∷ y ∷ ys) e =
    let first = and_parts (nat_eq a x) (nat_eq b y && true) e in
    let second = and_parts (nat_eq b y) true first.1 in
    ap (λ (n : ℕ). n ∷ y ∷ ys) (sym (eqb-true a x first.0)) ∙ ap (λ (n : ℕ). a ∷ n ∷ ys) (sym (eqb-true b y second.0))

-- the magic number
magic_told : (bytes : List ℕ) (colour : Bool) → magic_at bytes ≡ Ok colour → bytes ≡ magic_text colour ++ drop 2 bytes
unfolding magic_at
magic_told bytes colour e =
    elim (chosen (starts_with nat_eq bytes (magic_text false)) (Ok false) (cond (starts_with nat_eq bytes (magic_text true)) (Ok true) (Err BadPnm)) (Ok colour) e) [
      | inl w ↦ let grey : false ≡ colour = ok_is false colour w.1 in front 80 53 bytes w.0 ∙ ap (λ k. magic_text k ++ drop 2 bytes) grey
      | inr w ↦ let g = guard_ended (starts_with nat_eq bytes (magic_text true)) BadPnm true colour w.1 in front 80 54 bytes g.0 ∙ ap (λ k. magic_text k ++ drop 2 bytes) g.1
    ]

magic_again : (colour : Bool) (rest : List ℕ) → magic_at (magic_text colour ++ rest) ≡ Ok colour
unfolding magic_at
magic_again false rest = refl
magic_again true rest = refl

magic_dropped : (colour : Bool) (rest : List ℕ) → drop 2 (magic_text colour ++ rest) ≡ rest
magic_dropped false rest = refl
magic_dropped true rest = refl

-- a gap, a number and the rest
record FieldTold (bytes : List ℕ) (x : ℕ × List ℕ) : Type 0 where
  gap : List Separator
  digits : List ℕ
  text : bytes ≡ gap_text gap ++ (digits ++ x.1)
  is_gap : IsGap gap
  number : IsNumber digits
  value : number_of digits ≡ x.0

field_found : (bytes : List ℕ) (x : ℕ × List ℕ) → field_at bytes ≡ Ok x → FieldTold bytes x
unfolding field_at
field_found bytes x e =
    bind_then (gap_at bytes) _ x e (λ rest s e.
    let g = gap_found bytes rest s in
    let n = number_found rest x e in
    record { gap = g.pieces; digits = n.digits; text = g.text ∙ ap (λ (ys : List ℕ). gap_text g.pieces ++ ys) n.text; is_gap = g.gap; number = n.number; value = n.value }
    )

field_again : (gap : List Separator) (ds : List ℕ) (c : ℕ) (rest : List ℕ) → IsGap gap → IsNumber ds → is_ascii_digit c ≡ false → number_of ds ≤ 2 ^ 28 → field_at (gap_text gap ++ (ds ++ (c ∷ rest))) ≡ Ok (number_of ds, c ∷ rest)
unfolding field_at
field_again gap ds c rest is-gap is other few =
    let begins = number_begins ds (c ∷ rest) is in
    let no-space = digit_is_no_space begins.first begins.digit in
    let passed : gap_at (gap_text gap ++ (ds ++ (c ∷ rest))) ≡ Ok (ds ++ (c ∷ rest)) =
    ap (λ (ys : List ℕ). gap_at (gap_text gap ++ ys)) begins.text ∙ gap_again gap begins.first begins.others is-gap no-space.0 no-space.1 ∙ ap (λ (ys : List ℕ). let zs : List ℕ = ys in Ok zs) (sym begins.text) in
    rw passed (number_again ds c rest is other few)

-- a field that another follows
field_then : (gap : List Separator) (ds rest : List ℕ) → IsGap gap → IsNumber ds → Begins rest → number_of ds ≤ 2 ^ 28 → field_at (gap_text gap ++ (ds ++ rest)) ≡ Ok (number_of ds, rest)
field_then gap ds rest is-gap is begins few =
    subst (λ (ys : List ℕ). field_at (gap_text gap ++ (ds ++ ys)) ≡ Ok (number_of ds, ys)) (sym begins.text) (field_again gap ds begins.first begins.others is-gap is begins.no_digit few)

-- a whitespace byte and the rest
space_told : (bytes : List ℕ) → (eqb (length bytes) 0 || not (is_space (get_or bytes 0 0))) ≡ false → (bytes ≡ get_or bytes 0 0 ∷ drop 1 bytes) × (is_space (get_or bytes 0 0) ≡ true)
space_told [] e = absurd cc
space_told (c ∷ cs) e = (refl, not-false (is_space c) (or_parts (eqb (length (c ∷ cs)) 0) (not (is_space c)) e).1)

-- what a header says
pub record HeaderTold (bytes : List ℕ) (x : Header × List ℕ) : Type 0 where
  pub told : Text
  pub text : bytes ≡ pnm_text told
  pub rules : IsText told
  pub colour : told.colour ≡ x.0.colour
  pub width : number_of told.width ≡ x.0.width
  pub height : number_of told.height ≡ x.0.height
  pub maxval : number_of told.maxval ≡ x.0.maxval
  pub depth : (2 ^ x.0.depth ≡ x.0.maxval + 1) × (1 ≤ x.0.depth) × (x.0.depth ≤ 16)
  pub area : x.0.width * x.0.height ≤ 2 ^ 28
  pub raster : told.raster ≡ x.1

pub header_found : (bytes : List ℕ) (x : Header × List ℕ) → header_at bytes ≡ Ok x → HeaderTold bytes x
unfolding header_at pnm_text
header_found bytes x e =
    bind_then (magic_at bytes) _ x e (λ colour s1 e.
    bind_then (field_at (drop 2 bytes)) _ x e (λ width s2 e.
    bind_then (field_at width.1) _ x e (λ height s3 e.
    bind_then (field_at height.1) _ x e (λ maxval s4 e.
    bind_then (depth_at maxval.0) _ x e (λ depth s5 e.
    refuse_then (eqb (length maxval.1) 0 || not (is_space (get_or maxval.1 0 0))) BadPnm _ x e (λ space e.
    refuse_then (ltb (2 ^ 28) (width.0 * height.0)) BadPnm _ x e (λ area e.
    let w = field_found (drop 2 bytes) width s2 in
    let h = field_found width.1 height s3 in
    let m = field_found height.1 maxval s4 in
    let d = depth_found maxval.0 depth s5 in
    let s = space_told maxval.1 space in
    let told : Text = record {
      colour = colour;
      before_width = w.gap;
      width = w.digits;
      before_height = h.gap;
      height = h.digits;
      before_maxval = m.gap;
      maxval = m.digits;
      space = get_or maxval.1 0 0;
      raster = drop 1 maxval.1;
    } in
    let text : bytes ≡ magic_text colour ++ (gap_text w.gap ++ (w.digits ++ (gap_text h.gap ++ (h.digits ++ (gap_text m.gap ++ (m.digits ++ (get_or maxval.1 0 0 ∷ drop 1 maxval.1))))))) =
    magic_told bytes colour s1 ∙ ap (λ (ys : List ℕ). magic_text colour ++ ys)
    (w.text ∙ ap (λ (ys : List ℕ). gap_text w.gap ++ (w.digits ++ ys))
    (h.text ∙ ap (λ (ys : List ℕ). gap_text h.gap ++ (h.digits ++ ys))
    (m.text ∙ ap (λ (ys : List ℕ). gap_text m.gap ++ (m.digits ++ ys)) s.0))) in
    let read : Header × List ℕ = (record { colour = colour; width = width.0; height = height.0; maxval = maxval.0; depth = depth }, drop 1 maxval.1) in
    let is : HeaderTold bytes read = record {
      told = told;
      text = text;
      rules = record { before_width = w.is_gap; width = w.number; before_height = h.is_gap; height = h.number; before_maxval = m.is_gap; maxval = m.number; space = s.1 };
      colour = refl;
      width = w.value;
      height = h.value;
      maxval = m.value;
      depth = d;
      area = ltb-false _ _ area;
      raster = refl;
    } in
    subst (λ (y : Header × List ℕ). HeaderTold bytes y) (ok_is read x e) is
    )))))))

-- the header that a text has
abbrev pub header_of : Text → ℕ → Header
header_of t depth = record { colour = t.colour; width = number_of t.width; height = number_of t.height; maxval = number_of t.maxval; depth = depth }

pub header_again : (t : Text) (depth : ℕ) → IsText t → 2 ^ depth ≡ number_of t.maxval + 1 → (1 ≤ depth) × (depth ≤ 16) → number_of t.width ≤ 2 ^ 28 → number_of t.height ≤ 2 ^ 28 → number_of t.maxval ≤ 2 ^ 28
    → number_of t.width * number_of t.height ≤ 2 ^ 28 → header_at (pnm_text t) ≡ Ok (header_of t depth, t.raster)
unfolding header_at pnm_text
header_again t depth is bits few w-few h-few m-few area =
    let r7 = t.space ∷ t.raster in
    let r6 = t.maxval ++ r7 in
    let r5 = gap_text t.before_maxval ++ r6 in
    let r4 = t.height ++ r5 in
    let r3 = gap_text t.before_height ++ r4 in
    let r2 = t.width ++ r3 in
    let r1 = gap_text t.before_width ++ r2 in
    let s1 : magic_at (magic_text t.colour ++ r1) ≡ Ok t.colour = magic_again t.colour r1 in
    let dropped : drop 2 (magic_text t.colour ++ r1) ≡ r1 = magic_dropped t.colour r1 in
    let s2 : field_at r1 ≡ Ok (number_of t.width, r3) = field_then t.before_width t.width r3 is.before_width is.width (gap_begins t.before_height r4 is.before_height) w-few in
    let s3 : field_at r3 ≡ Ok (number_of t.height, r5) = field_then t.before_height t.height r5 is.before_height is.height (gap_begins t.before_maxval r6 is.before_maxval) h-few in
    let s4 : field_at r5 ≡ Ok (number_of t.maxval, r7) = field_again t.before_maxval t.maxval t.space t.raster is.before_maxval is.maxval (space_is_no_digit t.space is.space) m-few in
    let s5 : depth_at (number_of t.maxval) ≡ Ok depth = depth_again (number_of t.maxval) depth bits few.0 few.1 in
    let s6 : is_space t.space ≡ true = is.space in
    let s7 : ltb (2 ^ 28) (number_of t.width * number_of t.height) ≡ false = le-ltb _ _ area in
    let s8 : eqb (length r7) 0 ≡ false = ne_eqb (length r7) 0 (omega arith) in
    rw (s1, dropped, s2, s3, s4, s5, s8, s6, s7) refl

-- no sample above maxval
samples_told : (m : ℕ) (xs : List ℕ) → list_all (λ s. leb s m) xs ≡ true → AllByRecursion (λ s. s ≤ m) xs
samples_told m [] e = tt
samples_told m (x ∷ xs) e = let both = and_parts (leb x m) (list_all (λ s. leb s m) xs) e in (leb-true x m both.0, samples_told m xs both.1)

samples_again : (m : ℕ) (xs : List ℕ) → AllByRecursion (λ s. s ≤ m) xs → list_all (λ s. leb s m) xs ≡ true
samples_again m [] h = refl
samples_again m (x ∷ xs) h = and_from (leb x m) (list_all (λ s. leb s m) xs) (le-leb x m h.0) (samples_again m xs h.1)

pub below_told : (m : ℕ) (planes : List (List ℕ)) → list_all (list_all (λ s. leb s m)) planes ≡ true → AllByRecursion (AllByRecursion (λ s. s ≤ m)) planes
below_told m [] e = tt
below_told m (p ∷ ps) e = let both = and_parts (list_all (λ s. leb s m) p) (list_all (list_all (λ s. leb s m)) ps) e in (samples_told m p both.0, below_told m ps both.1)

below_again : (m : ℕ) (planes : List (List ℕ)) → AllByRecursion (AllByRecursion (λ s. s ≤ m)) planes → list_all (list_all (λ s. leb s m)) planes ≡ true
below_again m [] h = refl
below_again m (p ∷ ps) h = and_from (list_all (λ s. leb s m) p) (list_all (list_all (λ s. leb s m)) ps) (samples_again m p h.0) (below_again m ps h.1)

are_below_told : (m : ℕ) (planes : List (List ℕ)) → are_below m planes ≡ true → AllByRecursion (AllByRecursion (λ s. s ≤ m)) planes
unfolding are_below
are_below_told m planes e = below_told m planes e

are_below_again : (m : ℕ) (planes : List (List ℕ)) → AllByRecursion (AllByRecursion (λ s. s ≤ m)) planes → are_below m planes ≡ true
unfolding are_below
are_below_again m planes h = below_again m planes h

-- a text shows the picture of a header that says the same
shows_header : (t : Text) (h : Header) → t.colour ≡ h.colour → number_of t.width ≡ h.width → number_of t.height ≡ h.height → number_of t.maxval ≡ h.maxval
    → (2 ^ h.depth ≡ h.maxval + 1) × (1 ≤ h.depth) × (h.depth ≤ 16) → h.width * h.height ≤ 2 ^ 28 → length t.raster ≡ raster_size h → are_below h.maxval (samples_of h t.raster) ≡ true → ShowsPicture t (picture_of h t.raster)
shows_header t h colour width height maxval depth area whole below =
    let size : ℕ → ℕ = λ m. h.width * h.height * components_of h.colour * sample_size m in
    let planes : Bool → ℕ → List (List ℕ) = λ k m. planes_from m (components_of k) (h.width * h.height) t.raster in
    let same : planes h.colour h.maxval ≡ planes t.colour (number_of t.maxval) = ap (λ (k : Bool). planes k h.maxval) (sym colour) ∙ ap (λ (m : ℕ). planes t.colour m) (sym maxval) in
    record {
      corner = (refl, refl);
      width = sym width;
      height = sym height;
      area = area;
      depth = omega (arith, depth.0, maxval);
      few_bits = (depth.1, depth.2);
      unsigned = refl;
      whole = whole ∙ ap (λ (m : ℕ). size m) (sym maxval) ∙ ap (λ (k : Bool). h.width * h.height * components_of k * sample_size (number_of t.maxval)) (sym colour);
      planes = ap (λ (ps : List (List ℕ)). map (map pos) ps) same;
      below = subst (λ (m : ℕ). AllByRecursion (AllByRecursion (λ s. s ≤ m)) (planes t.colour (number_of t.maxval))) (sym maxval) (subst (λ (ps : List (List ℕ)). AllByRecursion (AllByRecursion (λ s. s ≤ h.maxval)) ps) same (are_below_told h.maxval (samples_of h t.raster) below));
    }

pub pnm_found : (bytes : List ℕ) (p : Picture) → pnm_at bytes ≡ Ok p → IsPnm bytes p
unfolding pnm_at picture_at
pnm_found bytes p e =
    bind_then (header_at bytes) _ p e (λ x s e.
    refuse_then (not (eqb (length x.1) (raster_size x.0))) BadPnm _ p e (λ whole e.
    let o = header_found bytes x s in
    let g = guard_ended (are_below x.0.maxval (samples_of x.0 x.1)) BadPnm (picture_of x.0 x.1) p e in
    let size : length x.1 ≡ raster_size x.0 = eqb-true _ _ (not-false _ whole) in
    let shows : ShowsPicture o.told (picture_of x.0 o.told.raster) =
    shows_header o.told x.0 o.colour o.width o.height o.maxval o.depth o.area
    (ap (λ (r : List ℕ). length r) o.raster ∙ size)
    (ap (λ (r : List ℕ). are_below x.0.maxval (samples_of x.0 r)) o.raster ∙ g.0) in
    let p-is : picture_of x.0 o.told.raster ≡ p = ap (λ (r : List ℕ). picture_of x.0 r) o.raster ∙ g.1 in
    record { told = o.told; text = o.text; rules = o.rules; shows = subst (λ (q : Picture). ShowsPicture o.told q) p-is shows }
    ))

pub side_of_area : (a b : ℕ) → 0 < b → a * b ≤ 2 ^ 28 → a ≤ 2 ^ 28
side_of_area a b some area = omega (arith, mul-le-mul_left a some)

pub maxval_few : (depth m : ℕ) → 2 ^ depth ≡ m + 1 → depth ≤ 16 → m ≤ 2 ^ 28
maxval_few depth m bits few = let high = pow-le-pow_right {n = 2} (lit< tt) few in omega (arith, high)

picture_same : (p : Picture) (w h : ℕ) (planes : List (List ℤ)) → (p.x0 ≡ 0) × (p.y0 ≡ 0) → p.width ≡ w → p.height ≡ h → p.signed ≡ false → p.planes ≡ planes
    → p ≡ record { x0 = 0; y0 = 0; width = w; height = h; depth = p.depth; signed = false; planes = planes }
picture_same p w h planes corner width height unsigned same =
    ap (λ (k : ℕ). record p { x0 = k }) corner.0
    ∙ ap (λ (k : ℕ). record p { x0 = 0; y0 = k }) corner.1
    ∙ ap (λ (k : ℕ). record p { x0 = 0; y0 = 0; width = k }) width
    ∙ ap (λ (k : ℕ). record p { x0 = 0; y0 = 0; width = w; height = k }) height
    ∙ ap (λ (b : Bool). record p { x0 = 0; y0 = 0; width = w; height = h; signed = b }) unsigned
    ∙ ap (λ (ps : List (List ℤ)). record p { x0 = 0; y0 = 0; width = w; height = h; signed = false; planes = ps }) same

-- the samples of a text, by the sides of its picture and by those of its header
sides_same : (t : Text) (p : Picture) → ShowsPicture t p → p.width * p.height ≡ number_of t.width * number_of t.height
sides_same t p shows = ap (λ (k : ℕ). k * p.height) shows.width ∙ ap (λ (k : ℕ). number_of t.width * k) shows.height

-- the picture of a text is that of its header
picture_again : (t : Text) (p : Picture) → ShowsPicture t p → p ≡ picture_of (header_of t p.depth) t.raster
picture_again t p shows =
    let planes : ℕ → List (List ℤ) = λ pixels. map (map pos) (planes_from (number_of t.maxval) (components_of t.colour) pixels t.raster) in
    picture_same p (number_of t.width) (number_of t.height) (planes (number_of t.width * number_of t.height)) shows.corner shows.width shows.height shows.unsigned (shows.planes ∙ ap planes (sides_same t p shows))

pub pnm_again : (bytes : List ℕ) (p : Picture) → IsPnm bytes p → pnm_at bytes ≡ Ok p
unfolding pnm_at picture_at
pnm_again bytes p is =
    let t = is.told in
    let shows = is.shows in
    let w : ℕ = number_of t.width in
    let h : ℕ = number_of t.height in
    let m : ℕ = number_of t.maxval in
    let sides = sides_same t p shows in
    let area : w * h ≤ 2 ^ 28 = omega (arith, shows.area, sides) in
    let w-few : w ≤ 2 ^ 28 = side_of_area w h is.rules.height.some area in
    let h-few : h ≤ 2 ^ 28 = side_of_area h w is.rules.width.some (omega (arith, area, mul_comm h w)) in
    let m-few : m ≤ 2 ^ 28 = maxval_few p.depth m shows.depth shows.few_bits.1 in
    let header : Header = header_of t p.depth in
    let read : header_at bytes ≡ Ok (header, t.raster) = ap header_at is.text ∙ header_again t p.depth is.rules shows.depth shows.few_bits w-few h-few m-few area in
    let size : length t.raster ≡ raster_size header = shows.whole ∙ ap (λ (k : ℕ). k * components_of t.colour * sample_size m) sides in
    let whole : eqb (length t.raster) (raster_size header) ≡ true = eq-eqb _ _ size in
    let below : are_below m (samples_of header t.raster) ≡ true = are_below_again m (samples_of header t.raster)
    (subst (λ (pixels : ℕ). AllByRecursion (AllByRecursion (λ s. s ≤ m)) (planes_from m (components_of t.colour) pixels t.raster)) sides shows.below) in
    rw (read, whole, below) (ap (λ (q : Picture). Ok q) (sym (picture_again t p shows)))
