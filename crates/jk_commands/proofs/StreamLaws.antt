-- Rows of a raster that comes from a source, by the bytes that were taken.
use Rattle.std.proofs.Common.{◌≡◌, ℕ, ◌+◌, ◌*◌, ◌-◌, ◌<◌, ◌≤◌, ◌⊎◌, Bool, true, false, not, cond, List, [], ◌++◌, length, take, drop, Option, Some, None, Result, Ok, Err, IfErr, refl, sym, ap, subst, ◌∙◌, append_assoc, append-nil, length-append, inl, inr, arith}
use Rattle.std.specs.Prelude.{replicate}
use Rattle.std.specs.Io.KnownBytes.{Consumes, IsAtEnd}
use Rattle.std.proofs.lemmas.List.{length-map, length-replicate, take-append-drop, length-take-le}
use Rattle.std.proofs.Math.Seq.{take-append_seam, drop-append_seam}
use Rattle.std.proofs.Math.Nat.{mul-le-mul_left}
use Rattle.jk_math.specs.Answer.{Refuses}
use Rattle.jk_math.specs.Memory.{IsMemory}
use Rattle.jk_math.specs.Picture.{Picture, IsFrame}
use Rattle.jk_math.specs.declared.fault.Fault.{Fault}
use Rattle.jk_math.specs.declared.fault.Fault.TheVariants.{Memory, Shelf, BadPnm}
use Rattle.jk_params.specs.declared.picture_frame.PictureFrame.{PictureFrame}
use Rattle.jk_params.specs.PictureFrames.{frame_of}
use Rattle.jk_pnm.specs.declared.header.Header.{Header}
use Rattle.jk_pnm.specs.Reading.{samples_of, picture_of, are_below, picture_at}
use Rattle.jk_pnm.specs.Heads.{row_bytes, with_rows}
use Rattle.jk_pnm.specs.RasterRows.{Drawing, drawn, plane_rows, rows_moved, rows_told}
use Rattle.jk_pnm.proofs.Laws.{rows_below_end, size_by_rows, rows_read, stripe_is, stripe_refused}
use Rattle.jk_files.specs.declared.incoming.Incoming.{Incoming}
use Rattle.jk_files.specs.Incoming.{waiting_of, Took}
use Rattle.jk_files.proofs.Laws.{took_both}
use Rattle.jk_commands.specs.RowStreaming.{frame_placed, with_raster, IsBadRaster, WereRead, AreBad, WereRefused}
use Rattle.jk_commands.proofs.FileRowLaws.{drawn_frame}

-- ---- bytes around a part

cut_out : (before bytes more : List ℕ) (m n : ℕ) → length before ≡ m → length bytes ≡ n → take n (drop m (before ++ (bytes ++ more))) ≡ bytes
cut_out before bytes more m n at long =
    ap (λ k. take n (drop k (before ++ (bytes ++ more)))) (sym at)
    ∙ ap (λ (xs : List ℕ). take n xs) (drop-append_seam before (bytes ++ more))
    ∙ ap (λ k. take k (bytes ++ more)) (sym long)
    ∙ take-append_seam bytes more

-- rows are what their bytes tell, whatever stands around these
part_told : (h : Header) (y z : ℕ) (before bytes more : List ℕ) → y ≤ z → z ≤ h.height → length before ≡ y * row_bytes h → length bytes ≡ (z - y) * row_bytes h
    → picture_at (with_rows h (z - y)) bytes ≡ rows_told (with_raster h (before ++ (bytes ++ more))) y z
part_told h y z before bytes more order inside at long =
    let row = row_bytes h in
    let d : Drawing = with_raster h (before ++ (bytes ++ more)) in
    let len = (rows_below_end row y z h.height order inside).2 in
    ap (λ (xs : List ℕ). picture_at (with_rows h (z - y)) xs) (sym (cut_out before bytes more (y * row) (z * row - y * row) at (long ∙ sym len)))
    ∙ rows_read d row y z refl order inside

pub rows_drawn : (h : Header) (y z : ℕ) (before bytes more : List ℕ) (v : Picture) → y ≤ z → z ≤ h.height → length before ≡ y * row_bytes h → length bytes ≡ (z - y) * row_bytes h
    → picture_at (with_rows h (z - y)) bytes ≡ Ok v → v ≡ rows_moved (drawn (with_raster h (before ++ (bytes ++ more)))) y z
rows_drawn h y z before bytes more v order inside at long is =
    stripe_is (with_raster h (before ++ (bytes ++ more))) y z v (sym (part_told h y z before bytes more order inside at long) ∙ is)

rows_bad : (h : Header) (y z : ℕ) (before bytes more : List ℕ) (e : Fault) → y ≤ z → z ≤ h.height → length before ≡ y * row_bytes h → length bytes ≡ (z - y) * row_bytes h
    → picture_at (with_rows h (z - y)) bytes ≡ Err e → picture_at h (before ++ (bytes ++ more)) ≡ Err e
rows_bad h y z before bytes more e order inside at long is =
    stripe_refused (with_raster h (before ++ (bytes ++ more))) y z e (sym (part_told h y z before bytes more order inside at long) ∙ is)

-- the frame of rows
pub rows_frame : (h : Header) (y z : ℕ) (bytes : List ℕ) (v : Picture) → y ≤ z → z ≤ h.height → length bytes ≡ (z - y) * row_bytes h → picture_at (with_rows h (z - y)) bytes ≡ Ok v
    → frame_of v ≡ record (frame_placed h 0 0) { height = z - y }
rows_frame h y z bytes v order inside long is =
    let before : List ℕ = replicate (y * row_bytes h) 0 in
    let d : Drawing = with_raster h (before ++ (bytes ++ [])) in
    let same = rows_drawn h y z before bytes [] v order inside (length-replicate (y * row_bytes h) 0) long is in
    let count = length-map (drawn d).planes (plane_rows h.width y z) ∙ ap (λ (f : PictureFrame). f.components) (drawn_frame d) in
    ap (λ (p : Picture). frame_of p) same
    ∙ ap (λ (n : ℕ). let f : PictureFrame = record { x0 = 0; y0 = 0; width = h.width; height = z - y; components = n; depth = h.depth; signed = false } in f) count

-- ---- what was taken

consumes_none : (a : Option (List ℕ)) → Consumes a a []
consumes_none None = tt
consumes_none (Some xs) = refl

module _ {S : Type 0} (remaining : S → Option (List ℕ)) where
  -- the first bytes that waited
  pub took_front : (a b : Incoming S) (n : ℕ) → b.source ≡ a.source → waiting_of b ≡ drop n (waiting_of a) → Took remaining a b (take n (waiting_of a))
  took_front a b n same left = record {
    same = ap (λ s. s.ghost_name) same;
    more = [];
    consumed = subst (λ s. Consumes (remaining a.source.now) (remaining s.now) []) (sym same) (consumes_none (remaining a.source.now));
    text = ap (λ (zs : List ℕ). take n (waiting_of a) ++ zs) left ∙ take-append-drop n (waiting_of a) ∙ sym (append-nil (waiting_of a));
  }

-- ---- why a raster is refused

few_bytes : (row y z height a b m all : ℕ) → y ≤ z → z ≤ height → a ≡ y * row → b < (z - y) * row → m ≡ 0 → all ≡ a + (b + m) → all ≡ height * row → ⊥
few_bytes row y z height a b m all order inside at few none sum whole =
    let ends = rows_below_end row y z height order inside in
    let e0 = ends.0 in
    let e1 = ends.1 in
    let e2 = ends.2 in
    omega arith

many_bytes : (row y z a b w m all : ℕ) → y ≤ z → a ≡ y * row → b ≡ (z - y) * row → 0 < w → all ≡ a + ((b + w) + m) → all ≡ z * row → ⊥
many_bytes row y z a b w m all order at long some sum whole =
    let ends = rows_below_end row y z z order (omega arith) in
    let e1 = ends.1 in
    let e2 = ends.2 in
    omega arith

length_three : (a b c : List ℕ) → length (a ++ (b ++ c)) ≡ length a + (length b + length c)
length_three a b c = length-append a (b ++ c) ∙ ap (λ n. length a + n) (length-append b c)

module _ {S : Type 0} (remaining : S → Option (List ℕ)) where
  -- there are too few bytes
  pub bad_few : (h : Header) (y z : ℕ) (a b : Incoming S) → y ≤ z → z ≤ h.height → Took remaining a b [] → IsAtEnd (remaining b.source.now)
      → length (waiting_of b) < (z - y) * row_bytes h → AreBad remaining h y a b
  bad_few h y z a b order inside took ended few = record {
    bytes = [];
    took = took;
    why = λ before more at none whole.
        absurd (few_bytes (row_bytes h) y z h.height (length before) (length (waiting_of b)) (length more) (length (before ++ (waiting_of b ++ more))) order inside at few
        (ap (λ (xs : List ℕ). length xs) (none ended)) (length_three before (waiting_of b) more) (whole ∙ size_by_rows h (row_bytes h) refl));
  }

  -- or too many
  pub bad_many : (h : Header) (y z : ℕ) (a b : Incoming S) (bytes : List ℕ) → y ≤ z → z ≡ h.height → Took remaining a b bytes → length bytes ≡ (z - y) * row_bytes h
      → 0 < length (waiting_of b) → AreBad remaining h y a b
  bad_many h y z a b bytes order last took long some = record {
    bytes = bytes;
    took = took;
    why = λ before more at none whole.
        absurd (many_bytes (row_bytes h) y z (length before) (length bytes) (length (waiting_of b)) (length more) (length (before ++ ((bytes ++ waiting_of b) ++ more))) order at long some
        (length_three before (bytes ++ waiting_of b) more ∙ ap (λ n. length before + (n + length more)) (length-append bytes (waiting_of b)))
        (whole ∙ size_by_rows h (row_bytes h) refl ∙ ap (λ n. n * row_bytes h) (sym last)));
  }

  -- or a sample is above maxval
  pub bad_sample : (h : Header) (y z : ℕ) (a b : Incoming S) → y ≤ z → z ≤ h.height → Took remaining a b [] → (z - y) * row_bytes h ≤ length (waiting_of b)
      → picture_at (with_rows h (z - y)) (take ((z - y) * row_bytes h) (waiting_of b)) ≡ Err BadPnm → AreBad remaining h y a b
  bad_sample h y z a b order inside took there is = record {
    bytes = [];
    took = took;
    why = λ before more at none whole.
        let n = (z - y) * row_bytes h in
        let w = waiting_of b in
        let parted : take n w ++ (drop n w ++ more) ≡ w ++ more = sym (append_assoc (take n w) (drop n w) more) ∙ ap (λ (xs : List ℕ). xs ++ more) (take-append-drop n w) in
        subst (λ (xs : List ℕ). picture_at h (before ++ xs) ≡ Err BadPnm) parted (rows_bad h y z before (take n w) (drop n w ++ more) BadPnm order inside at (length-take-le n w there) is);
  }

  -- behind rows that were taken they are bad from the first row on
  pub bad_behind : (h : Header) (y : ℕ) (a b c : Incoming S) (bytes : List ℕ) → Took remaining a b bytes → length bytes ≡ y * row_bytes h → AreBad remaining h y b c → AreBad remaining h 0 a c
  bad_behind h y a b c bytes took long bad = record {
    bytes = bytes ++ bad.bytes;
    took = took_both remaining a b c bytes bad.bytes took bad.took;
    why = λ before more at none.
        let first : length before ≡ 0 = (let zero : 0 * row_bytes h ≡ 0 = omega arith in omega (arith, at, zero)) in
        let w = waiting_of c in
        let there = length-append before bytes in
        let from : length (before ++ bytes) ≡ y * row_bytes h = omega (arith, there, first, long) in
        let inner : bytes ++ ((bad.bytes ++ w) ++ more) ≡ ((bytes ++ bad.bytes) ++ w) ++ more =
        sym (append_assoc bytes (bad.bytes ++ w) more) ∙ ap (λ (xs : List ℕ). xs ++ more) (sym (append_assoc bytes bad.bytes w)) in
        subst (λ (xs : List ℕ). IsBadRaster h xs) (append_assoc before bytes ((bad.bytes ++ w) ++ more) ∙ ap (λ (xs : List ℕ). before ++ xs) inner) (bad.why (before ++ bytes) more from none);
  }

  pub refused_behind : (h : Header) (y : ℕ) (a b c : Incoming S) (bytes : List ℕ) (e : Fault) → Took remaining a b bytes → length bytes ≡ y * row_bytes h → WereRefused remaining h y b e c → WereRefused remaining h 0 a e c
  refused_behind h y a b c bytes e took long refused = elim refused [
    | inl shelf ↦ inl shelf
    | inr bad ↦ inr (bad.0, bad_behind h y a b c bytes took long bad.1)
  ]

-- ---- the next rows

-- what a test that isn't passed says
pub not_passed : (b : Bool) → not b ≡ true → b ≡ false
not_passed true h = absurd cc
not_passed false h = refl

pub not_failed : (b : Bool) → not b ≡ false → b ≡ true
not_failed true h = refl
not_failed false h = absurd cc

guard_bad : {A : Type 0} (b : Bool) (x : A) (e : Fault) → (let r : Result A Fault = cond b (Ok x) (Err BadPnm) in r) ≡ Err e → e ≡ BadPnm
guard_bad true x e is = absurd cc
guard_bad false x e is = cc

picture_bad : (h : Header) (raster : List ℕ) (e : Fault) → picture_at h raster ≡ Err e → e ≡ BadPnm
unfolding picture_at
picture_bad h raster e is = guard_bad (are_below h.maxval (samples_of h raster)) (picture_of h raster) e is

picture_refused : (e : Fault) (h : Header) (raster : List ℕ) → Refuses e (picture_at h raster) → IsMemory e ⊎ ((e ≡ BadPnm) × (picture_at h raster ≡ Err BadPnm))
picture_refused (Memory r) h raster is = inl tt
picture_refused e h raster is = inr (picture_bad h raster e is, is ∙ ap (λ (d : Fault). let r : Result Picture Fault = Err d in r) (picture_bad h raster e is))

module _ {S : Type 0} (remaining : S → Option (List ℕ)) where
  -- rows were refused
  pub rows_fault : (h : Header) (y z : ℕ) (a b : Incoming S) (e : Fault) → y ≤ z → z ≤ h.height → Took remaining a b [] → (z - y) * row_bytes h ≤ length (waiting_of b)
      → Refuses e (picture_at (with_rows h (z - y)) (take ((z - y) * row_bytes h) (waiting_of b))) → IsMemory e ⊎ WereRefused remaining h y a e b
  rows_fault h y z a b e order inside took there is = elim (picture_refused e (with_rows h (z - y)) (take ((z - y) * row_bytes h) (waiting_of b)) is) [
    | inl memory ↦ inl memory
    | inr bad ↦ inr (inr (bad.0, bad_sample remaining h y z a b order inside took there bad.1))
  ]

  -- their bytes were taken
  rows_taken : (n : ℕ) (a b c d : Incoming S) → Took remaining a b [] → c.source ≡ b.source → waiting_of c ≡ drop n (waiting_of b) → Took remaining c d [] → Took remaining a d (take n (waiting_of b))
  rows_taken n a b c d first same left last =
      let bytes = take n (waiting_of b) in
      let front = took_both remaining a b c [] bytes first (took_front remaining b c n same left) in
      subst (λ (xs : List ℕ). Took remaining a d xs) (append-nil bytes) (took_both remaining a c d bytes [] front last)

  -- behind the last ones there is more
  pub end_fault : (h : Header) (y z : ℕ) (a b c d : Incoming S) (e : Fault) → y ≤ z → Took remaining a b [] → (z - y) * row_bytes h ≤ length (waiting_of b) → c.source ≡ b.source
      → waiting_of c ≡ drop ((z - y) * row_bytes h) (waiting_of b) → IsMemory e ⊎ (e ≡ Shelf) ⊎ (e ≡ BadPnm) → (e ≡ BadPnm → (z ≡ h.height) × Took remaining c d [] × (0 < length (waiting_of d)))
      → IsMemory e ⊎ WereRefused remaining h y a e d
  end_fault h y z a b c d e order first there same left kind more = elim kind [
    | inl memory ↦ inl memory
    | inr other ↦ elim other [
      | inl shelf ↦ inr (inl shelf)
      | inr is ↦
          let n = (z - y) * row_bytes h in
          let k = more is in
          inr (inr (is, bad_many remaining h y z a d (take n (waiting_of b)) order k.0 (rows_taken n a b c d first same left k.1) (length-take-le n (waiting_of b) there) k.2))
    ]
  ]

  -- they were read
  pub rows_were_read : (h : Header) (y z : ℕ) (a b c d : Incoming S) (v : Picture) → y < z → z ≤ h.height → Took remaining a b [] → (z - y) * row_bytes h ≤ length (waiting_of b) → c.source ≡ b.source
      → waiting_of c ≡ drop ((z - y) * row_bytes h) (waiting_of b) → Took remaining c d [] → picture_at (with_rows h (z - y)) (take ((z - y) * row_bytes h) (waiting_of b)) ≡ Ok v
      → (z ≡ h.height → IsAtEnd (remaining d.source.now) × (waiting_of d ≡ [])) → WereRead remaining h y z a v d
  rows_were_read h y z a b c d v order inside first there same left second is last =
      let n = (z - y) * row_bytes h in
      let bytes = take n (waiting_of b) in
      let long = length-take-le n (waiting_of b) there in
      record {
        order = order;
        inside = inside;
        bytes = bytes;
        took = rows_taken n a b c d first same left second;
        long = long;
        frame = rows_frame h y z bytes v (omega (arith, order)) inside long is;
        rows = λ before more at. rows_drawn h y z before bytes more v (omega (arith, order)) inside at long is;
        last = last;
      }

-- ---- the place of a stripe

-- a stripe with its upper left sample at its place
pub stripe_frame : (h : Header) (x y given end : ℕ) (p v : Picture) → v ≡ record p { x0 = x; y0 = y + given } → frame_of p ≡ record (frame_placed h 0 0) { height = (end - y) - given }
    → frame_of v ≡ record (frame_placed h x y) { y0 = y + given; height = end - (y + given) }
stripe_frame h x y given end p v is frame =
    let rows : (end - y) - given ≡ end - (y + given) = omega arith in
    ap (λ (q : Picture). frame_of q) is
    ∙ ap (λ (f : PictureFrame). let g : PictureFrame = record f { x0 = x; y0 = y + given } in g) frame
    ∙ ap (λ n. let g : PictureFrame = record (frame_placed h x y) { y0 = y + given; height = n } in g) rows

-- it lies where its image may lie
pub stripe_fits : (h : Header) (x y given to : ℕ) (p : Picture) → given < to → to ≤ h.height → frame_of p ≡ record (frame_placed h 0 0) { height = to - given }
    → IsFrame x y h.width h.height → IsFrame x (y + given) p.width p.height
stripe_fits h x y given to p some inside frame is =
    let wide = is.wide in
    let right = is.right in
    let lower = is.lower in
    let area = is.area in
    let rows : to - given ≤ h.height = omega arith in
    let few : h.width * (to - given) ≤ h.width * h.height = mul-le-mul_left h.width rows in
    let own : IsFrame x (y + given) h.width (to - given) = record { wide = wide; high = omega arith; right = right; lower = omega arith; area = omega (arith, few, area) } in
    let width : h.width ≡ p.width = sym (ap (λ (f : PictureFrame). f.width) frame) in
    let height : to - given ≡ p.height = sym (ap (λ (f : PictureFrame). f.height) frame) in
    subst (λ w. IsFrame x (y + given) w p.height) width (subst (λ t. IsFrame x (y + given) h.width t) height own)

-- what can be placed is
pub placed_or : {A : Type 0} (r : Result A Fault) (N F : Type 0) (x : A) (Q : Fault → Type 0) → N → (F → r ≡ Ok x) → IfErr r (λ e. IsMemory e ⊎ (N × (F → Q e)))
placed_or (Ok y) N F x Q named fine = tt
placed_or (Err e) N F x Q named fine = inr (named, λ f. absurd (let is = fine f in cc))
