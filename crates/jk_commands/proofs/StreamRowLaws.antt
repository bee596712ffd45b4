-- The rows that a source gave, one stripe below the other, are those of the raster that was taken.
use Rattle.std.proofs.Common.{◌≡◌, ℕ, ◌+◌, ◌*◌, ◌-◌, ◌<◌, ◌≤◌, ◌⊎◌, List, [], ◌∷◌, ◌++◌, length, Option, Result, Ok, Err, OnOk, refl, sym, ap, subst, ◌∙◌, append_assoc, append-nil, length-append, inl, inr, arith}
use Rattle.std.specs.Bool.{⊤}
use Rattle.std.specs.Io.KnownBytes.{Appends, IsAtEnd}
use Rattle.jk_math.specs.Memory.{IsMemory}
use Rattle.jk_math.specs.Picture.{Picture, IsPicture, IsFrame}
use Rattle.jk_math.specs.declared.fault.Fault.{Fault}
use Rattle.jk_params.specs.declared.parameters.Parameters.{Parameters}
use Rattle.jk_params.specs.declared.picture_frame.PictureFrame.{PictureFrame}
use Rattle.jk_params.specs.PictureFrames.{frame_of, IsPictureFrame}
use Rattle.jk_pnm.specs.declared.header.Header.{Header}
use Rattle.jk_pnm.specs.Heads.{row_bytes}
use Rattle.jk_pnm.specs.RasterRows.{drawn, rows_moved}
use Rattle.jk_pnm.proofs.Laws.{rows_below_end, size_by_rows}
use Rattle.jk_code.specs.Beginnings.{Left}
use Rattle.jk_code.specs.Fronts.{HasFronts}
use Rattle.jk_code.specs.Made.{rows_of}
use Rattle.jk_code.specs.Meaning.{Means}
use Rattle.jk_code.specs.Rows.{AreTaken}
use Rattle.jk_code.specs.RowsWritten.{WereAllGiven, HasMetBefore, IsWrittenOf}
use Rattle.jk_code.specs.Written.{written}
use Rattle.jk_options.specs.Plans.{at_place}
use Rattle.jk_files.specs.Incoming.{waiting_of, Took}
use Rattle.jk_files.proofs.Laws.{took_none, took_both}
use Rattle.jk_commands.specs.declared.encoding_from.StreamRows.{StreamRows}
use Rattle.jk_commands.specs.declared.encoding_rows.FileRows.{FileRows}
use Rattle.jk_commands.specs.RowReading.{HasGiven}
use Rattle.jk_commands.specs.RowStreaming.{frame_placed, with_raster, WereRefused, HasStreamed, HasStopped, HasRaster, IsLeftOfStream}
use Rattle.jk_commands.proofs.LeftLaws.{Wrote}
use Rattle.jk_commands.proofs.FileRowLaws.{drawn_frame, all_given, placed_picture}
use Rattle.jk_commands.proofs.RowLeftLaws.{IsWhole}
use Rattle.jk_commands.proofs.StreamLaws.{refused_behind}

-- the bytes of two parts
two_parts : (row a b c : ℕ) → a ≤ b → b ≤ c → (b - a) * row + (c - b) * row ≡ (c - a) * row
two_parts row a b c first second =
    let sum : c - a ≡ (b - a) + (c - b) = omega arith in
    let spread : ((b - a) + (c - b)) * row ≡ (b - a) * row + (c - b) * row = grind arith in
    sym spread ∙ ap (λ n. n * row) (sym sum)

up_to : (row a b : ℕ) → a ≤ b → a * row + (b - a) * row ≡ b * row
up_to row a b order =
    let ends = rows_below_end row a b b order (omega arith) in
    let e1 = ends.1 in
    let e2 = ends.2 in
    omega arith

-- how many rows were given behind two stripes
rows_given : (s x t y w z : ℕ) → y < w → w ≤ z → x ≡ s + (w - y) → t ≡ x + (z - w) → (t ≡ s + (z - y)) × (y ≤ z) × (s ≤ x) × (x ≤ t)
rows_given s x t y w z more below first second = (omega arith, omega arith, omega arith, omega arith)

-- and behind one
rows_ended : (a b y z h : ℕ) → y < z → a < b → h ≡ b - a → z - y ≡ h → b ≡ a + (z - y)
rows_ended a b y z h more order tall same = omega arith

all_rows : (s t y h n : ℕ) → h ≡ n → s ≡ 0 → 0 < n → t ≡ s + ((y + h) - y) → (t ≡ n) × (t - s ≡ n) × (y < y + h)
all_rows s t y h n high none some count = (omega arith, omega arith, omega arith)

not_same : (y z : ℕ) → y < z → y ≡ z → ⊥
not_same y z lt same = omega arith

below_both : (x w z : ℕ) → x < w → w ≤ z → x < z
below_both x w z first second = omega arith

from_none : (u s : ℕ) → s ≡ 0 → u - s ≡ u
from_none u s none = omega arith

none_yet : (s row : ℕ) → s ≡ 0 → 0 ≡ s * row
none_yet s row none = (let zero : 0 * row ≡ 0 = omega arith in sym zero ∙ ap (λ n. n * row) (sym none))

-- the frame that a header tells is that of its picture, there
pub placed_is : (h : Header) (x y : ℕ) (bytes : List ℕ) → frame_placed h x y ≡ frame_of (at_place (drawn (with_raster h bytes)) x y)
placed_is h x y bytes = sym (ap (λ (f : PictureFrame). let q : PictureFrame = record f { x0 = x; y0 = y } in q) (drawn_frame (with_raster h bytes)))

-- the frame of an image whose header this is, at its place
pub frame_told : (h : Header) (f : PictureFrame) → f ≡ frame_placed h f.x0 f.y0 → IsPictureFrame f → IsFrame f.x0 f.y0 h.width h.height
frame_told h f is frame =
    subst (λ w. IsFrame f.x0 f.y0 w h.height) (ap (λ (x : PictureFrame). x.width) is) (subst (λ t. IsFrame f.x0 f.y0 f.width t) (ap (λ (x : PictureFrame). x.height) is) frame.frame)

module _ {S : Type 0} (remaining : S → Option (List ℕ)) where
  -- what gives rows of a file in memory
  abbrev as_file : List ℕ → StreamRows S → FileRows
  as_file raster s = record { raster = with_raster s.head raster; x0 = s.x0; y0 = s.y0; given = s.given }

  abbrev as_files : List ℕ → List (ℕ × StreamRows S) → List (ℕ × FileRows)
  as_files raster [] = []
  as_files raster (x ∷ stripes) = (x.0, as_file raster x.1) ∷ as_files raster stripes

  given_step : (raster before more : List ℕ) (a b : StreamRows S) (v : Picture) (g : HasStreamed remaining a v b) → length before ≡ a.given * row_bytes a.head → raster ≡ before ++ (g.read.bytes ++ more)
      → HasGiven (as_file raster a) v (as_file raster b)
  given_step raster before more a b v g at is =
      let file : Header → ℕ → ℕ → FileRows = λ h x y. record { raster = with_raster h raster; x0 = x; y0 = y; given = b.given } in
      record {
        same = ap (λ (h : Header). file h b.x0 b.y0) g.head ∙ ap (λ x. file a.head x b.y0) g.place.0 ∙ ap (λ y. file a.head a.x0 y) g.place.1;
        end = g.read.inside;
        rows = g.placed ∙ ap (λ (p : Picture). at_place p a.x0 (a.y0 + a.given))
            (g.read.rows before more at ∙ ap (λ (xs : List ℕ). rows_moved (drawn (with_raster a.head xs)) a.given b.given) (sym is));
      }

  -- how many rows they are
  given_count : (p : Picture) (y z : ℕ) (a b : StreamRows S) → y < z → HasStreamed remaining a (rows_of p y z) b → b.given ≡ a.given + (z - y)
  given_count p y z a b more g =
      rows_ended a.given b.given y z g.rows.height more g.read.order (ap (λ (f : PictureFrame). f.height) g.read.frame) (ap (λ (v : Picture). v.height) g.placed)

  -- Rows y up to z of a picture, by the bytes that were taken for them.
  record AreOfBytes (p : Picture) (y z : ℕ) (s t : StreamRows S) (stripes : List (ℕ × StreamRows S)) : Type 0 where
    bytes : List ℕ
    took : Took remaining s.incoming.now t.incoming.now bytes
    same : t.incoming.ghost_name ≡ s.incoming.ghost_name
    count : t.given ≡ s.given + (z - y)
    order : y ≤ z
    long : length bytes ≡ (t.given - s.given) * row_bytes s.head
    head : t.head ≡ s.head
    place : (t.x0 ≡ s.x0) × (t.y0 ≡ s.y0)
    rows : (raster before more : List ℕ) → length before ≡ s.given * row_bytes s.head → raster ≡ before ++ (bytes ++ more)
        → AreTaken HasGiven p y z (as_file raster s) (as_files raster stripes) (as_file raster t)

  none_of_bytes : (p : Picture) (y z : ℕ) (s : StreamRows S) → y ≡ z → AreOfBytes p y z s s []
  none_of_bytes p y z s here = record {
    bytes = [];
    took = took_none remaining s.incoming.now;
    same = refl;
    count = omega arith;
    order = omega arith;
    long = none_yet (s.given - s.given) (row_bytes s.head) (omega arith);
    head = refl;
    place = (refl, refl);
    rows = λ raster before more at is. (here, refl);
  }

  more_of_bytes : (p : Picture) (y z : ℕ) (s t : StreamRows S) (x : ℕ × StreamRows S) (stripes : List (ℕ × StreamRows S)) → y < x.0 → x.0 ≤ z → HasStreamed remaining s (rows_of p y x.0) x.1
      → AreOfBytes p x.0 z x.1 t stripes → AreOfBytes p y z s t (x ∷ stripes)
  more_of_bytes p y z s t x stripes more below g rest =
      let r = g.read in
      let row = row_bytes s.head in
      let counts = rows_given s.given x.1.given t.given y x.0 z more below (given_count p y x.0 s x.1 more g) rest.count in
      let other : length rest.bytes ≡ (t.given - x.1.given) * row = rest.long ∙ ap (λ (h : Header). (t.given - x.1.given) * row_bytes h) g.head in
      record {
        bytes = r.bytes ++ rest.bytes;
        took = took_both remaining s.incoming.now x.1.incoming.now t.incoming.now r.bytes rest.bytes r.took rest.took;
        same = rest.same ∙ g.same;
        count = counts.0;
        order = counts.1;
        long = length-append r.bytes rest.bytes ∙ ap (λ n. n + length rest.bytes) r.long ∙ ap (λ n. (x.1.given - s.given) * row + n) other
            ∙ two_parts row s.given x.1.given t.given counts.2 counts.3;
        head = rest.head ∙ g.head;
        place = (rest.place.0 ∙ g.place.0, rest.place.1 ∙ g.place.1);
        rows = λ raster before after at is.
            let inner : before ++ ((r.bytes ++ rest.bytes) ++ after) ≡ before ++ (r.bytes ++ (rest.bytes ++ after)) = ap (λ (xs : List ℕ). before ++ xs) (append_assoc r.bytes rest.bytes after) in
            let from : length (before ++ r.bytes) ≡ x.1.given * row =
            length-append before r.bytes ∙ ap (λ n. n + length r.bytes) at ∙ ap (λ n. s.given * row + n) r.long ∙ up_to row s.given x.1.given counts.2 in (
              more,
              below,
              given_step raster before (rest.bytes ++ after) s x.1 (rows_of p y x.0) g at (is ∙ inner),
              rest.rows raster (before ++ r.bytes) after (from ∙ ap (λ (h : Header). x.1.given * row_bytes h) (sym g.head)) (is ∙ inner ∙ sym (append_assoc before r.bytes (rest.bytes ++ after))),
            );
      }

  of_bytes : (p : Picture) (stripes : List (ℕ × StreamRows S)) (s t : StreamRows S) (y z : ℕ) → AreTaken (HasStreamed remaining) p y z s stripes t → AreOfBytes p y z s t stripes
  of_bytes p [] s t y z h = subst (λ (u : StreamRows S). AreOfBytes p y z s u []) h.1 (none_of_bytes p y z s h.0)
  of_bytes p (x ∷ stripes) s t y z h = more_of_bytes p y z s t x stripes h.0 h.1 h.2 (of_bytes p stripes x.1 t x.0 z h.3)

  -- behind the last row the source is at its end
  abbrev Ended : (height : ℕ) → StreamRows S → Type 0
  Ended height t = t.given ≡ height → IsAtEnd (remaining t.incoming.now.source.now) × (waiting_of t.incoming.now ≡ [])

  ended_last : (p : Picture) (stripes : List (ℕ × StreamRows S)) (s t : StreamRows S) (y z height : ℕ) → s.head.height ≡ height → y < z → AreTaken (HasStreamed remaining) p y z s stripes t → Ended height t
  ended_last p [] s t y z height high lt h = absurd (not_same y z lt h.0)
  ended_last p (x ∷ []) s t y z height high lt h =
      let last = h.2.read.last in
      subst (λ (u : StreamRows S). Ended height u) h.3.1 (λ full. last (full ∙ sym high))
  ended_last p (x ∷ (w ∷ stripes)) s t y z height high lt h =
      ended_last p (w ∷ stripes) x.1 t x.0 z height (ap (λ (k : Header). k.height) h.2.head ∙ high) (below_both x.0 w.0 z h.3.0 h.3.1) h.3

  -- ---- all rows

  -- The picture that was given is that of the raster that was taken.
  record IsOfRaster (s t : StreamRows S) (p : Picture) : Type 0 where
    bytes : List ℕ
    named : t.incoming.ghost_name ≡ s.incoming.ghost_name
    whole : HasRaster remaining s.head s.incoming.now t.incoming.now bytes
    same : p ≡ at_place (drawn (with_raster s.head bytes)) s.x0 s.y0

  all_streamed : (s t : StreamRows S) (f : PictureFrame) (p : Picture) → f ≡ frame_placed s.head s.x0 s.y0 → s.given ≡ 0 → IsFrame 0 0 s.head.width s.head.height
      → WereAllGiven (HasStreamed remaining) f s t p → IsOfRaster s t p
  all_streamed s t f p is none corner g =
      let h = s.head in
      let c = of_bytes p g.rows.0 s t f.y0 (f.y0 + f.height) g.rows.1 in
      let bytes = c.bytes in
      let high : f.height ≡ h.height = ap (λ (q : PictureFrame). q.height) is in
      let counts = all_rows s.given t.given f.y0 f.height h.height high none corner.high c.count in
      let at = none_yet s.given (row_bytes h) none in
      let rows = c.rows bytes [] [] at (sym (append-nil bytes)) in
      let file : WereAllGiven HasGiven f (as_file bytes s) (as_file bytes t) p = record { picture = g.picture; frame = g.frame; rows = (as_files bytes g.rows.0, rows) } in
      let same = all_given (as_file bytes s) (as_file bytes t) f p (is ∙ placed_is h s.x0 s.y0 bytes) none file in
      let last = ended_last p g.rows.0 s t f.y0 (f.y0 + f.height) h.height refl counts.2 g.rows.1 in
      let ends = last counts.0 in
      record {
        bytes = bytes;
        named = c.same;
        whole = record {
          took = c.took;
          long = c.long ∙ ap (λ n. n * row_bytes h) counts.1 ∙ sym (size_by_rows h (row_bytes h) refl);
          ended = ends.0;
          none = ends.1;
          picture = placed_picture (drawn (with_raster h bytes)) s.x0 s.y0 (subst IsPicture same g.picture) corner;
        };
        same = same;
      }

  -- a fault that was met behind some of them
  met_refused : (s t : StreamRows S) (f : PictureFrame) (e : Fault) → s.given ≡ 0 → IsFrame s.x0 s.y0 s.head.width s.head.height → HasMetBefore (HasStreamed remaining) (HasStopped remaining) f s t e
      → (t.incoming.ghost_name ≡ s.incoming.ghost_name) × WereRefused remaining s.head 0 s.incoming.now e t.incoming.now
  met_refused s t f e none frame m =
      let u = m.before in
      let c = of_bytes m.picture m.given.rows.0 s u f.y0 m.next m.given.rows.1 in
      let Frame : Header → ℕ → ℕ → Type 0 = λ h x y. IsFrame x y h.width h.height in
      let there : IsFrame u.x0 u.y0 u.head.width u.head.height =
      subst (λ h. Frame h u.x0 u.y0) (sym c.head) (subst (λ x. Frame s.head x u.y0) (sym c.place.0) (subst (λ y. Frame s.head s.x0 y) (sym c.place.1) frame)) in
      let rest = from_none u.given s.given none in (
        m.fault.0 ∙ c.same,
        refused_behind remaining s.head u.given s.incoming.now u.incoming.now t.incoming.now c.bytes e c.took (c.long ∙ ap (λ n. n * row_bytes s.head) rest)
            (subst (λ (h : Header). WereRefused remaining h u.given u.incoming.now e t.incoming.now) c.head (m.fault.1 there)),
      )

  -- ---- what was written

  pub stream_whole : (a b : Option (List ℕ)) (s t : StreamRows S) (f : PictureFrame) (q : Parameters) (r : Result ⊤ Fault) → OnOk r ((p : Picture) × WereAllGiven (HasStreamed remaining) f s t p × (file : List ℕ) × (written p q ≡ Ok file) × Appends a b file × Means file 0 p × HasFronts p q file)
      → f ≡ frame_placed s.head s.x0 s.y0 → s.given ≡ 0 → IsFrame 0 0 s.head.width s.head.height
      → OnOk r ((t.incoming.ghost_name ≡ s.incoming.ghost_name) × (bytes : List ℕ) × HasRaster remaining s.head s.incoming.now t.incoming.now bytes × (file : List ℕ) × (written (at_place (drawn (with_raster s.head bytes)) s.x0 s.y0) q ≡ Ok file)
      × Appends a b file × Means file 0 (at_place (drawn (with_raster s.head bytes)) s.x0 s.y0))
  stream_whole a b s t f q (Ok done) h is none corner =
      let all = all_streamed s t f h.0 is none corner h.1 in
      let whole : IsWhole a b (at_place (drawn (with_raster s.head all.bytes)) s.x0 s.y0) q = subst (λ (p : Picture). IsWhole a b p q) all.same (h.2, h.3, h.4, h.5) in
      (all.named, all.bytes, all.whole, whole.0, whole.1, whole.2, whole.3)
  stream_whole a b s t f q (Err e) h is none corner = tt

  -- Where memory wasn't refused, the source is the same.
  abbrev pub LeftByName : (s t : StreamRows S) → Parameters → List ℕ → Result ⊤ Fault → Type 0
  LeftByName s t q text r =
      ((e : Fault) × (r ≡ Err e) × IsMemory e × (text ≡ []))
      ⊎ ((t.incoming.ghost_name ≡ s.incoming.ghost_name) × IsLeftOfStream remaining s.head s.x0 s.y0 q s.incoming.now t.incoming.now text r)

  pub stream_left : (a b : Option (List ℕ)) (s t : StreamRows S) (f : PictureFrame) (q : Parameters) (r : Result ⊤ Fault) → Wrote a b (λ text. IsWrittenOf (HasStreamed remaining) (HasStopped remaining) f q s t text r)
      → f ≡ frame_placed s.head s.x0 s.y0 → s.given ≡ 0 → IsFrame 0 0 s.head.width s.head.height → IsFrame s.x0 s.y0 s.head.width s.head.height
      → Wrote a b (λ text. LeftByName s t q text r)
  stream_left a b s t f q r wrote is none corner frame = (
    wrote.0,
    wrote.1,
    elim wrote.2 [
      | inl h ↦ elim h.2 [
        | inl memory ↦ inl (h.0, h.1, memory, h.3)
        | inr met ↦ (let refused = met_refused s t f h.0 none frame met in inr (refused.0, inl (h.0, h.1, inr refused.1, h.3)))
      ]
      | inr h ↦
          let all = all_streamed s t f h.0 is none corner h.1 in
          inr (all.named, inr (all.bytes, all.whole, subst (λ (p : Picture). Left p q wrote.0 r) all.same h.2))
    ],
  )
