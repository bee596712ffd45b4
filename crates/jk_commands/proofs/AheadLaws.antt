-- What is answered where a file is written before it is known whether the bytes mean a picture.
use Rattle.std.proofs.Common.{◌≡◌, ℕ, ◌+◌, ◌*◌, ◌⊎◌, inl, inr, true, false, eqb, List, ◌++◌, length, Option, Result, Ok, Err, IfErr, OnOk, refl, sym, ap, subst, ◌∙◌}
use Rattle.std.specs.Bool.{⊤}
use Rattle.std.specs.Io.KnownBytes.{Appends}
use Rattle.std.proofs.lemmas.List.{append_assoc}
use Rattle.jk_math.specs.Front.{IsFront}
use Rattle.jk_math.specs.Answer.{Answers, Refuses}
use Rattle.jk_math.specs.Picture.{Picture, IsPicture}
use Rattle.jk_math.specs.Steps.{guard_ended}
use Rattle.jk_math.proofs.Laws.{appends_join}
use Rattle.jk_math.specs.declared.fault.Fault.{Fault}
use Rattle.jk_math.specs.declared.fault.Fault.TheVariants.{Shelf, Unsupported}
use Rattle.jk_pnm.specs.Pnm.{IsPnm}
use Rattle.jk_pnm.specs.declared.rasters.RasterFrame.{RasterFrame}
use Rattle.jk_pnm.specs.Written.{is_written, maxval_of, header_text, raster_text, file_text, written as pnm_of}
use Rattle.jk_pnm.proofs.Laws.{written_means}
use Rattle.jk_tile.specs.decoding.TileReading.{tested}
use Rattle.jk_tile.proofs.Laws.{refuses_on, tested_then}
use Rattle.jk_code.specs.MeaningReading.{meaning_at}
use Rattle.jk_code.specs.Rows.{AreRefused}
use Rattle.jk_options.specs.Plans.{at_place}
use Rattle.jk_commands.specs.Commands.{decoded}
use Rattle.jk_commands.specs.Rasters.{IsRasterFrameOf}
use Rattle.jk_commands.specs.RowWriting.{HasFront, HasBegun, IsRasterBehind, IsRasterBroken}
use Rattle.jk_commands.specs.declared.decoding_rows.RowWriter.{RowWriter}
use Rattle.jk_commands.proofs.RasterLaws.{rows_broken, same_broken}
use Rattle.jk_commands.proofs.FrameLaws.{head_is}
use Rattle.jk_commands.proofs.LeftLaws.{decoded_is, decoded_refused}

-- the first fault of the file that is due, or none; or Shelf, where a file is due and was begun
abbrev pub AnswersAhead : Result (List ℕ) Fault → (a b : Option (List ℕ)) → Result ⊤ Fault → Type 0
AnswersAhead due a b r = Answers (λ _. tt) r (tested due) ⊎ ((r ≡ Err Shelf) × HasBegun due a b)

-- the same of a fault
abbrev pub FailsAhead : Result (List ℕ) Fault → (a b : Option (List ℕ)) → Fault → Type 0
FailsAhead due a b e = Refuses e due ⊎ ((e ≡ Shelf) × HasBegun due a b)

-- the fault of a file, or Shelf, where it means a picture and a beginning of a text of that was written
abbrev pub FailsWriting : Result Picture Fault → (text : Picture → List ℕ) → (a b : Option (List ℕ)) → Fault → Type 0
FailsWriting due text a b e = Refuses e due ⊎ ((e ≡ Shelf) × (p : Picture) × (due ≡ Ok p) × (is_written p ≡ true → HasFront (text p) a b))

-- this file is due, and was written between two states of a writer
abbrev pub WroteFile : Result (List ℕ) Fault → (a b : Option (List ℕ)) → Type 0
WroteFile due a b = (file : List ℕ) × (due ≡ Ok file) × Appends a b file

tested_back : {A : Type 0} (r : Result A Fault) (e : Fault) → tested r ≡ Err e → r ≡ Err e
tested_back (Ok x) e is = absurd cc
tested_back (Err d) e is = cc

-- what refuses a test refuses what is tested
pub untested : {A : Type 0} (due : Result A Fault) (e : Fault) → Refuses e (tested due) → Refuses e due
untested due e h = refuses_on e (tested due) due h (tested_back due e)

err_is : (d e : Fault) → (let r : Result ⊤ Fault = Err d in r) ≡ Err e → d ≡ e
err_is d e is = cc

-- what is told of a call that failed is told of its fault
pub told_fault : (due : Result (List ℕ) Fault) (a b : Option (List ℕ)) (e : Fault) → AnswersAhead due a b (Err e) → FailsAhead due a b e
told_fault due a b e (inl h) = inl (untested due e h)
told_fault due a b e (inr s) = inr (err_is e Shelf s.0, s.1)

-- a file that is read is due
pub file_due : (bytes : List ℕ) (d : ℕ) (p : Picture) → meaning_at bytes d ≡ Ok p → is_written p ≡ true → decoded bytes d ≡ Ok (file_text p)
unfolding pnm_of
file_due bytes d p means is = decoded_is bytes d p means ∙ (rw is refl)

-- none is due of a picture that has none
pub none_due : (bytes : List ℕ) (d : ℕ) (p : Picture) → meaning_at bytes d ≡ Ok p → is_written p ≡ false → decoded bytes d ≡ Err Unsupported
unfolding pnm_of
none_due bytes d p means is = decoded_is bytes d p means ∙ (rw is refl)

-- The file's fault is the first one.
pub refused_ahead : (bytes : List ℕ) (d : ℕ) (e : Fault) (a b : Option (List ℕ)) → Refuses e (meaning_at bytes d) → AnswersAhead (decoded bytes d) a b (Err e)
refused_ahead bytes d e a b h = inl (refuses_on e (decoded bytes d) (tested (decoded bytes d)) (decoded_refused bytes d e h) (λ is. ap tested is))

-- a beginning of a text is one of the text and what is behind it
front_more : (part text more : List ℕ) → IsFront part text → IsFront part (text ++ more)
front_more part text more f = record { more = f.more ++ more; text = ap (λ (xs : List ℕ). xs ++ more) f.text ∙ append_assoc part f.more more }

-- a text and a beginning of what is behind it
front_behind : (text part more : List ℕ) → IsFront part more → IsFront (text ++ part) (text ++ more)
front_behind text part more f = record { more = f.more; text = ap (λ (xs : List ℕ). text ++ xs) f.text ∙ sym (append_assoc text part f.more) }

-- Where the head can't be written a beginning of the file was.
pub head_failed : (bytes : List ℕ) (d : ℕ) (f : RasterFrame) (a b : Option (List ℕ)) (e : Fault) → ((p : Picture) → meaning_at bytes d ≡ Ok p → is_written p ≡ true) → ((p : Picture) → meaning_at bytes d ≡ Ok p → IsRasterFrameOf f p)
    → Refuses e (meaning_at bytes d) ⊎ ((e ≡ Shelf) × (p : Picture) × (meaning_at bytes d ≡ Ok p) × HasFront (header_text (eqb f.components 3) f.width f.height (maxval_of f.depth)) a b) → AnswersAhead (decoded bytes d) a b (Err e)
unfolding file_text
head_failed bytes d f a b e has frame (inl h) = refused_ahead bytes d e a b h
head_failed bytes d f a b e has frame (inr s) =
    let p = s.1 in
    let head = header_text (eqb (length p.planes) 3) p.width p.height (maxval_of p.depth) in
    let begun = subst (λ (text : List ℕ). HasFront text a b) (head_is f p (frame p s.2)) s.3 in
    inr (ap Err s.0, (file_text p, file_due bytes d p s.2 (has p s.2), (begun.0, begun.1, front_more begun.0 head (raster_text (maxval_of p.depth) p.planes (p.width * p.height)) begun.2)))

-- So it is where the raster can't, behind the head.
pub rows_failed : (bytes : List ℕ) (d : ℕ) (f : RasterFrame) (a b c : Option (List ℕ)) (e : Fault) → ((p : Picture) → meaning_at bytes d ≡ Ok p → is_written p ≡ true) → ((p : Picture) → meaning_at bytes d ≡ Ok p → IsRasterFrameOf f p)
    → Appends a b (header_text (eqb f.components 3) f.width f.height (maxval_of f.depth))
    → FailsWriting (meaning_at bytes d) (λ p. raster_text (maxval_of p.depth) p.planes (p.width * p.height)) b c e → AnswersAhead (decoded bytes d) a c (Err e)
unfolding file_text
rows_failed bytes d f a b c e has frame wrote (inl h) = refused_ahead bytes d e a c h
rows_failed bytes d f a b c e has frame wrote (inr s) =
    let p = s.1 in
    let head = header_text (eqb (length p.planes) 3) p.width p.height (maxval_of p.depth) in
    let is = has p s.2 in
    let begun = s.3 is in
    inr (
      ap Err s.0,
      (
        file_text p,
        file_due bytes d p s.2 is,
        (
          head ++ begun.0,
          appends_join a b c head begun.0 (subst (Appends a b) (head_is f p (frame p s.2)) wrote) begun.1,
          front_behind head begun.0 (raster_text (maxval_of p.depth) p.planes (p.width * p.height)) begun.2,
        ),
      ),
    )

-- What is known of all rows is known of the file.
pub ended_ahead : (bytes : List ℕ) (d : ℕ) (f : RasterFrame) (a b c : Option (List ℕ)) (r : Result ⊤ Fault) → ((p : Picture) → meaning_at bytes d ≡ Ok p → is_written p ≡ true) → ((p : Picture) → meaning_at bytes d ≡ Ok p → IsRasterFrameOf f p)
    → Appends a b (header_text (eqb f.components 3) f.width f.height (maxval_of f.depth)) → OnOk r ((p : Picture) × (meaning_at bytes d ≡ Ok p))
    → IfErr r (λ e. FailsWriting (meaning_at bytes d) (λ p. raster_text (maxval_of p.depth) p.planes (p.width * p.height)) b c e) → AnswersAhead (decoded bytes d) a c r
ended_ahead bytes d f a b c (Ok done) has frame wrote sound fails = inl (ap tested (file_due bytes d sound.0 sound.1 (has sound.0 sound.1)))
ended_ahead bytes d f a b c (Err e) has frame wrote sound fails = rows_failed bytes d f a b c e has frame wrote fails

-- The picture has no file.
pub unwritten_ahead : (bytes : List ℕ) (d : ℕ) (a b : Option (List ℕ)) → ((p : Picture) → meaning_at bytes d ≡ Ok p → is_written p ≡ false) → tested (meaning_at bytes d) ≡ Ok tt → AnswersAhead (decoded bytes d) a b (Err Unsupported)
unwritten_ahead bytes d a b has_none sound =
    let p = tested_then (meaning_at bytes d) tt sound in
    inl (ap tested (none_due bytes d p.0 p.1 (has_none p.0 p.1)))

-- Head and raster are the file.
pub wrote_file : (bytes : List ℕ) (d : ℕ) (p : Picture) (f : RasterFrame) (a b c : Option (List ℕ)) → meaning_at bytes d ≡ Ok p → is_written p ≡ true → IsRasterFrameOf f p → Appends a b (header_text (eqb f.components 3) f.width f.height (maxval_of f.depth))
    → Appends b c (raster_text (maxval_of p.depth) p.planes (p.width * p.height)) → WroteFile (decoded bytes d) a c
unfolding file_text
wrote_file bytes d p f a b c means is frame head raster = (
  file_text p,
  file_due bytes d p means is,
  appends_join a b c (header_text (eqb (length p.planes) 3) p.width p.height (maxval_of p.depth)) (raster_text (maxval_of p.depth) p.planes (p.width * p.height)) (subst (Appends a b) (head_is f p frame) head) raster,
)

-- What was written is a file of the picture.
pub whole_means : (bytes : List ℕ) (d : ℕ) (p : Picture) (file : List ℕ) → IsPicture p → meaning_at bytes d ≡ Ok p → decoded bytes d ≡ Ok file → IsPnm file (at_place p 0 0)
unfolding pnm_of
whole_means bytes d p file profile means due =
    let is = guard_ended (is_written p) Unsupported (file_text p) file (sym (decoded_is bytes d p means) ∙ due) in
    written_means p file profile is.0 (sym is.1)

-- What is told of the file that is due, and what was written, by how the call ended.
pub ends_of : (due again : Result (List ℕ) Fault) (r : Result ⊤ Fault) (a b : Option (List ℕ)) → due ≡ again → AnswersAhead due a b r → OnOk r (WroteFile due a b) → OnOk r (WroteFile again a b) × IfErr r (λ e. FailsAhead again a b e)
ends_of due again (Ok done) a b same told whole = (subst (λ (x : Result (List ℕ) Fault). WroteFile x a b) same whole, tt)
ends_of due again (Err e) a b same told whole = (tt, subst (λ (x : Result (List ℕ) Fault). FailsAhead x a b e) same (told_fault due a b e told))

-- What ended the writing of all rows: the fault of the file, or a write that failed, behind a beginning of
-- the raster in the same writer.
pub rows_end : {W : Type 0} (contents : W → Option (List ℕ)) (due : Result Picture Fault) (a b : RowWriter W) (r : Result ⊤ Fault) → Answers (λ _. tt) r (tested due) ⊎ AreRefused (IsRasterBehind contents) (IsRasterBroken contents) due a b r
    → IfErr r (λ e. Refuses e due ⊎ ((e ≡ Shelf) × (b.writer.ghost_name ≡ a.writer.ghost_name) × (p : Picture) × (due ≡ Ok p)
    × (is_written p ≡ true → HasFront (raster_text (maxval_of p.depth) p.planes (p.width * p.height)) (contents a.writer.now) (contents b.writer.now))))
rows_end contents due a b (Ok done) told = tt
rows_end contents due a b (Err e) (inl h) = inl (untested due e h)
rows_end contents due a b (Err e) (inr why) =
    let p = why.2 in
    let refused = why.4 in
    inr (
      err_is e why.0 why.1 ∙ refused.why.0,
      same_broken contents p p.y0 (p.y0 + p.height) a b why.0 refused,
      p,
      why.3,
      λ is. rows_broken contents p a b why.0 is refused,
    )

-- what is known of each fault
pub if_err : {A : Type 0} {P S : Fault → Type 0} (r : Result A Fault) → ((e : Fault) → P e → S e) → IfErr r P → IfErr r S
if_err (Ok x) go p = p
if_err (Err e) go p = go e p
