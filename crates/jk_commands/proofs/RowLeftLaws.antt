-- What encoding the rows of a file's image has written, by how far it came.
use Rattle.std.proofs.Common.{◌≡◌, ℕ, List, [], Option, Result, Ok, Err, OnOk, sym, ap, subst, ◌∙◌, inl, inr, arith}
use Rattle.std.specs.Bool.{⊤}
use Rattle.std.specs.Io.KnownBytes.{Appends}
use Rattle.jk_math.specs.Answer.{Refuses}
use Rattle.jk_math.specs.Memory.{IsMemory}
use Rattle.jk_math.specs.Steps.{ok_is}
use Rattle.jk_math.proofs.Laws.{appends_none}
use Rattle.jk_math.specs.Picture.{Picture, IsPicture, IsFrame}
use Rattle.jk_math.specs.declared.fault.Fault.{Fault}
use Rattle.jk_math.specs.declared.fault.Fault.TheVariants.{Memory}
use Rattle.jk_params.specs.declared.parameters.Parameters.{Parameters}
use Rattle.jk_params.specs.declared.picture_frame.PictureFrame.{PictureFrame}
use Rattle.jk_params.specs.PictureFrames.{frame_of, IsPictureFrame}
use Rattle.jk_pnm.specs.Reading.{pnm_at}
use Rattle.jk_pnm.specs.RasterRows.{Drawing, drawn, picture_told}
use Rattle.jk_code.specs.Beginnings.{Left}
use Rattle.jk_code.specs.Fronts.{HasFronts}
use Rattle.jk_code.specs.Meaning.{Means}
use Rattle.jk_code.specs.RowsWritten.{WereAllGiven, HasMetBefore, IsWrittenOf}
use Rattle.jk_code.specs.Written.{written}
use Rattle.jk_options.specs.declared.plan.Plan.{Plan}
use Rattle.jk_options.specs.declared.plan.Placed.{Placed}
use Rattle.jk_options.specs.Plans.{at_place, placing}
use Rattle.jk_commands.specs.declared.encoding_rows.FileRows.{FileRows}
use Rattle.jk_commands.specs.RowReading.{placed_rows, HasGiven, HasRefused, IsLeftOfRows}
use Rattle.jk_commands.specs.Written.{LeftOf}
use Rattle.jk_commands.specs.Commands.{encoded}
use Rattle.jk_commands.proofs.LeftLaws.{Wrote, encoded_is, unread, left_of}
use Rattle.jk_commands.proofs.FileRowLaws.{all_given, given_same, placed_picture}

-- ---- encoding at a place

-- a file that was written whole
abbrev pub IsWhole : (a b : Option (List ℕ)) → Picture → Parameters → Type 0
IsWhole a b p q = (file : List ℕ) × (written p q ≡ Ok file) × Appends a b file × Means file 0 p

pub rows_whole : (a b : Option (List ℕ)) (s t : FileRows) (f : PictureFrame) (q : Parameters) (r : Result ⊤ Fault) → f ≡ frame_of (placed_rows s) → s.given ≡ 0 → IsFrame 0 0 s.raster.header.width s.raster.header.height
    → OnOk r ((p : Picture) × WereAllGiven HasGiven f s t p × (file : List ℕ) × (written p q ≡ Ok file) × Appends a b file × Means file 0 p × HasFronts p q file)
    → OnOk r (IsPicture (drawn s.raster) × (file : List ℕ) × (written (placed_rows s) q ≡ Ok file) × Appends a b file × Means file 0 (placed_rows s))
rows_whole a b s t f q (Ok done) is none frame h =
    let same = all_given s t f h.0 is none h.1 in
    let picture = subst IsPicture same h.1.picture in
    let whole : IsWhole a b (placed_rows s) q = subst (λ (p : Picture). IsWhole a b p q) same (h.2, h.3, h.4, h.5) in
    (placed_picture (drawn s.raster) s.x0 s.y0 picture frame, whole.0, whole.1, whole.2, whole.3)
rows_whole a b s t f q (Err e) is none frame h = tt

memory_refused : {A : Type 0} (e : Fault) (due : Result A Fault) → IsMemory e → Refuses e due
memory_refused (Memory r) due h = tt
memory_refused e due h = absurd h

-- a fault that was met is one of the file
met_refused : (s t : FileRows) (f : PictureFrame) (e : Fault) → IsFrame s.x0 s.y0 s.raster.header.width s.raster.header.height → HasMetBefore HasGiven HasRefused f s t e → Refuses e (picture_told s.raster)
met_refused s t f e frame m =
    let same = given_same m.picture s m.before f.y0 m.next m.given.rows in
    let own : HasRefused (record s { given = m.before.given }) e t = subst (λ (x : FileRows). HasRefused x e t) same m.fault in
    own frame

pub rows_left : (a b : Option (List ℕ)) (s t : FileRows) (f : PictureFrame) (q : Parameters) (r : Result ⊤ Fault) → f ≡ frame_of (placed_rows s) → s.given ≡ 0 → IsFrame 0 0 s.raster.header.width s.raster.header.height
    → IsFrame s.x0 s.y0 s.raster.header.width s.raster.header.height → Wrote a b (λ text. IsWrittenOf HasGiven HasRefused f q s t text r) → Wrote a b (λ text. IsLeftOfRows s.raster s.x0 s.y0 q text r)
rows_left a b s t f q r is none corner frame wrote = (
  wrote.0,
  wrote.1,
  elim wrote.2 [
    | inl h ↦ inl (
      h.0,
      h.1,
      elim h.2 [
        | inl memory ↦ memory_refused h.0 (picture_told s.raster) memory
        | inr met ↦ met_refused s t f h.0 frame met
      ],
      h.3,
    )
    | inr h ↦
        let same = all_given s t f h.0 is none h.1 in
        inr (placed_picture (drawn s.raster) s.x0 s.y0 (subst IsPicture same h.1.picture) corner, subst (λ (p : Picture). Left p q wrote.0 r) same h.2)
  ],
)

-- the frame of a picture that is drawn, at its place and at the corner
pub placed_frame : (d : Drawing) (f : PictureFrame) → f ≡ frame_of (at_place (drawn d) f.x0 f.y0) → IsPictureFrame f → IsFrame f.x0 f.y0 d.header.width d.header.height
placed_frame d f is frame =
    subst (λ w. IsFrame f.x0 f.y0 w d.header.height) (ap (λ (x : PictureFrame). x.width) is) (subst (λ h. IsFrame f.x0 f.y0 f.width h) (ap (λ (x : PictureFrame). x.height) is) frame.frame)

pub at_corner : (x0 y0 w h : ℕ) → IsFrame x0 y0 w h → IsFrame 0 0 w h
at_corner x0 y0 w h is =
    let right = is.right in
    let lower = is.lower in
    record { wide = is.wide; high = is.high; right = omega (arith, right); lower = omega (arith, lower); area = is.area }

-- ---- encoding a file

unjudged : (bytes : List ℕ) (plan : Plan) (d : Drawing) (e : Fault) → pnm_at bytes ≡ picture_told d → Refuses e (picture_told d) → LeftOf bytes plan [] (Err e)
unjudged bytes plan d e read h = unread bytes plan e (subst (λ (due : Result Picture Fault). Refuses e due) (sym read) h)

pub left_unjudged : (a : Option (List ℕ)) (bytes : List ℕ) (plan : Plan) (d : Drawing) (e : Fault) → pnm_at bytes ≡ picture_told d → Refuses e (picture_told d) → Wrote a a (λ text. LeftOf bytes plan text (Err e))
left_unjudged a bytes plan d e read h = ([], appends_none a, unjudged bytes plan d e read h)

refused_rows : (a b : Option (List ℕ)) (bytes : List ℕ) (plan : Plan) (d : Drawing) (text : List ℕ) (r : Result ⊤ Fault) (e : Fault) → pnm_at bytes ≡ picture_told d → Appends a b text → r ≡ Err e → Refuses e (picture_told d) → text ≡ []
    → Wrote a b (λ text. LeftOf bytes plan text r)
refused_rows a b bytes plan d text r e read appends is h none =
    (text, appends, subst (λ (x : Result ⊤ Fault). LeftOf bytes plan text x) (sym is) (subst (λ (xs : List ℕ). LeftOf bytes plan xs (Err e)) (sym none) (unjudged bytes plan d e read h)))

pub left_of_rows : (a b : Option (List ℕ)) (bytes : List ℕ) (plan : Plan) (d : Drawing) (x0 y0 : ℕ) (x : Placed) (r : Result ⊤ Fault) → pnm_at bytes ≡ picture_told d → (IsPicture (drawn d) → picture_told d ≡ Ok (drawn d))
    → placing (drawn d) plan ≡ Ok x → x.image ≡ at_place (drawn d) x0 y0 → Wrote a b (λ text. IsLeftOfRows d x0 y0 x.parameters text r) → Wrote a b (λ text. LeftOf bytes plan text r)
left_of_rows a b bytes plan d x0 y0 x r read fine placed image wrote = elim wrote.2 [
  | inl h ↦ refused_rows a b bytes plan d wrote.0 r h.0 read wrote.1 h.1 h.2 h.3
  | inr h ↦ left_of a b bytes plan (drawn d) x r (read ∙ fine h.0) placed (wrote.0, wrote.1, subst (λ (p : Picture). Left p x.parameters wrote.0 r) (sym image) h.1)
]

-- what a file that was written whole means
pub whole_means : (a b : Option (List ℕ)) (bytes : List ℕ) (plan : Plan) (d : Drawing) (x0 y0 : ℕ) (x : Placed) → pnm_at bytes ≡ Ok (drawn d) → placing (drawn d) plan ≡ Ok x → x.image ≡ at_place (drawn d) x0 y0
    → IsWhole a b (at_place (drawn d) x0 y0) x.parameters → (file : List ℕ) → encoded bytes plan ≡ Ok file → Means file 0 (at_place (drawn d) x0 y0)
whole_means a b bytes plan d x0 y0 x read placed image whole file due =
    let here : encoded bytes plan ≡ written (at_place (drawn d) x0 y0) x.parameters = encoded_is bytes plan (drawn d) x read placed ∙ ap (λ (p : Picture). written p x.parameters) image in
    let same : whole.0 ≡ file = ok_is whole.0 file (sym whole.1 ∙ sym here ∙ due) in
    subst (λ (xs : List ℕ). Means xs 0 (at_place (drawn d) x0 y0)) same whole.3
