-- Laws of what was written so far, and of what one step more writes.
use Rattle.std.proofs.Common.{◌≡◌, ℕ, zero, suc, ◌+◌, ◌-◌, ◌<◌, ◌≤◌, eqb, inl, inr, Bool, true, false, cond, ℤ, List, [], ◌∷◌, ◌++◌, length, take, drop, get_or, Option, Result, Ok, Err, OnOk, refl, ap, sym, ◌∙◌, subst, append_assoc, arith}
use Rattle.std.specs.Global.{Vec}
use Rattle.std.proofs.lemmas.List.{append-nil}
use Rattle.std.specs.Bool.{⊤}
use Rattle.std.specs.Io.KnownBytes.{Appends}
use Rattle.jk_math.specs.Front.{IsFront}
use Rattle.jk_math.specs.Memory.{IsMemory}
use Rattle.jk_math.specs.Picture.{Picture, is_grey_or_rgb}
use Rattle.jk_math.specs.declared.fault.Fault.{Fault}
use Rattle.jk_math.specs.declared.fault.Fault.TheVariants.{Unsupported}
use Rattle.jk_math.proofs.Laws.{appends_none, appends_join}
use Rattle.jk_math.specs.Steps.{ok_is}
use Rattle.jk_pnm.specs.Written.{is_written, maxval_of, header_text, raster_part, raster_text, file_text, written}
use Rattle.jk_pnm.specs.declared.rasters.RasterFrame.{RasterFrame}
use Rattle.jk_pnm.specs.Rasters.{pieces_text, AreRastersOf}
use Rattle.jk_pnm.specs.Sending.{IsSent, IsLeftBySending}
use Rattle.jk_pnm.proofs.RasterLaws.{raster_joined}

-- this was written between two states of a writer
abbrev pub Wrote : (a b : Option (List ℕ)) → (List ℕ → Type 0) → Type 0
Wrote a b P = (text : List ℕ) × Appends a b text × P text

front_behind : (before part text : List ℕ) → IsFront part text → IsFront (before ++ part) (before ++ text)
front_behind before part text front = record {
  more = front.more;
  text = ap (λ (x : List ℕ). before ++ x) front.text ∙ sym (append_assoc before part front.more);
}

-- nothing was written of a text
pub sent_none : (a : Option (List ℕ)) (text : List ℕ) (e : Fault) → IsMemory e → Wrote a a (λ part. IsSent text part (Err e))
sent_none a text e memory = ([], appends_none a, (inl memory, record { more = text; text = refl }))

-- one text after another
pub sent_both : (a b c : Option (List ℕ)) (x y : List ℕ) (r : Result ⊤ Fault) → Wrote a b (λ part. part ≡ x) → Wrote b c (λ part. IsSent y part r) → Wrote a c (λ part. IsSent (x ++ y) part r)
sent_both a b c x y (Ok done) first second =
    (first.0 ++ second.0, appends_join a b c first.0 second.0 first.1 second.1, ap (λ (v : List ℕ). v ++ second.0) first.2 ∙ ap (λ (v : List ℕ). x ++ v) second.2)
sent_both a b c x y (Err e) first second = (
  first.0 ++ second.0,
  appends_join a b c first.0 second.0 first.1 second.1,
  (second.2.0, subst (λ (v : List ℕ). IsFront (v ++ second.0) (x ++ y)) (sym first.2) (front_behind x second.0 y second.2.1)),
)

-- what was sent of its first half was sent of a text
pub sent_first : (a b : Option (List ℕ)) (x y : List ℕ) (e : Fault) → Wrote a b (λ part. IsSent x part (Err e)) → Wrote a b (λ part. IsSent (x ++ y) part (Err e))
sent_first a b x y e sent = (
  sent.0,
  sent.1,
  (
    sent.2.0,
    record {
      more = sent.2.1.more ++ y;
      text = ap (λ (v : List ℕ). v ++ y) sent.2.1.text ∙ append_assoc sent.0 sent.2.1.more y;
    },
  ),
)

-- the text of this name
pub sent_as : (a b : Option (List ℕ)) (x y : List ℕ) (r : Result ⊤ Fault) → x ≡ y → Wrote a b (λ part. IsSent x part r) → Wrote a b (λ part. IsSent y part r)
sent_as a b x y r same sent = subst (λ (v : List ℕ). Wrote a b (λ part. IsSent v part r)) same sent

-- the pixels from one on up to another behind those before, and none after them
pub raster_stopped : (m : ℕ) (planes : List (List ℤ)) (from to pixels : ℕ) (a b c : Option (List ℕ)) (e : Fault) → from ≤ to → to ≤ pixels
    → Wrote a b (λ part. part ≡ raster_text m planes from) → Wrote b c (λ part. IsSent (raster_part m planes from (to - from)) part (Err e))
    → Wrote a c (λ part. IsSent (raster_text m planes pixels) part (Err e))
raster_stopped m planes from to pixels a b c e before within first second =
    sent_as a c (raster_text m planes to ++ raster_part m planes to (pixels - to)) (raster_text m planes pixels) (Err e) (sym (raster_joined m planes to pixels within))
    (sent_first a c (raster_text m planes to) (raster_part m planes to (pixels - to)) e
    (sent_as a c (raster_text m planes from ++ raster_part m planes from (to - from)) (raster_text m planes to) (Err e) (sym (raster_joined m planes from to before))
    (sent_both a b c (raster_text m planes from) (raster_part m planes from (to - from)) (Err e) first second)))

pub raster_sent : (m : ℕ) (planes : List (List ℤ)) (from to : ℕ) (a b c : Option (List ℕ)) → from ≤ to
    → Wrote a b (λ part. part ≡ raster_text m planes from) → Wrote b c (λ part. part ≡ raster_part m planes from (to - from))
    → Wrote a c (λ part. part ≡ raster_text m planes to)
raster_sent m planes from to a b c before first second =
    let both = sent_both a b c (raster_text m planes from) (raster_part m planes from (to - from)) (Ok tt) first second in
    (both.0, both.1, both.2 ∙ sym (raster_joined m planes from to before))

-- what was written of a picture's file
pub left_of : (a b : Option (List ℕ)) (p : Picture) (r : Result ⊤ Fault) → is_written p ≡ true → Wrote a b (λ part. IsSent (file_text p) part r) → Wrote a b (λ part. IsLeftBySending (written p) part r)
unfolding written
left_of a b p (Ok done) is sent = (sent.0, sent.1, rw is (ap Ok (sym sent.2)))
left_of a b p (Err e) is sent = (sent.0, sent.1, inr (inr (sent.2.0, file_text p, rw is refl, sent.2.1)))

-- nothing is written of a picture that has no file
pub left_none : (a : Option (List ℕ)) (p : Picture) → is_written p ≡ false → Wrote a a (λ part. IsLeftBySending (written p) part (Err Unsupported))
unfolding written
left_none a p not_is = ([], appends_none a, inr (inl (rw not_is refl, refl)))

-- a picture's file is the one that is given
pub given_is : (p : Picture) (file : List ℕ) → is_written p ≡ true → written p ≡ Ok file → file_text p ≡ file
unfolding written
given_is p file is e = ok_is (file_text p) file (sym (ap (λ b. cond b (Ok (file_text p)) (Err Unsupported)) is) ∙ e)

-- what is known of a picture's file is known of the file that is given
pub means_of : (P : List ℕ → Type 0) (p : Picture) (r : Result ⊤ Fault) → OnOk r (P (file_text p)) → is_written p ≡ true → OnOk r ((file : List ℕ) → written p ≡ Ok file → P file)
means_of P p (Ok done) holds is = λ file e. subst (λ (v : List ℕ). P v) (given_is p file is e) holds
means_of P p (Err e) holds is = tt

-- and what is known of it anyway is known where all was written
pub on_ok_all : {P : Type 0} (r : Result ⊤ Fault) → P → OnOk r P
on_ok_all (Ok done) h = h
on_ok_all (Err e) h = tt

-- ---- pieces

-- the pieces before one and that one
pieces_next : (i : ℕ) (pieces : List (Vec ℕ)) (piece : Vec ℕ) → i < length pieces → get_or pieces i piece ≡ piece → pieces_text (take (suc i) pieces) ≡ pieces_text (take i pieces) ++ piece.items
pieces_next i [] piece lt is = absurd (omega (arith, lt))
pieces_next zero (p ∷ pieces) piece lt is = append-nil p.items ∙ ap (λ (v : Vec ℕ). v.items) is
pieces_next (suc i) (p ∷ pieces) piece lt is =
    ap (λ (xs : List ℕ). p.items ++ xs) (pieces_next i pieces piece (omega (arith, lt)) is) ∙ sym (append_assoc p.items (pieces_text (take i pieces)) piece.items)

pieces_more : (i : ℕ) (pieces : List (Vec ℕ)) (piece : Vec ℕ) → i < length pieces → get_or pieces i piece ≡ piece → pieces_text (take (i + 1) pieces) ≡ pieces_text (take i pieces) ++ piece.items
pieces_more i pieces piece lt is = ap (λ n. pieces_text (take n pieces)) (let e : i + 1 ≡ suc i = omega arith in e) ∙ pieces_next i pieces piece lt is

-- the pieces before one and all others
pieces_split : (i : ℕ) (pieces : List (Vec ℕ)) → pieces_text pieces ≡ pieces_text (take i pieces) ++ pieces_text (drop i pieces)
pieces_split zero pieces = refl
pieces_split (suc i) [] = refl
pieces_split (suc i) (p ∷ pieces) = ap (λ (xs : List ℕ). p.items ++ xs) (pieces_split i pieces) ∙ sym (append_assoc p.items (pieces_text (take i pieces)) (pieces_text (drop i pieces)))

pub pieces_sent : (i : ℕ) (pieces : List (Vec ℕ)) (piece : Vec ℕ) (a b c : Option (List ℕ)) → i < length pieces → get_or pieces i piece ≡ piece
    → Wrote a b (λ part. part ≡ pieces_text (take i pieces)) → Wrote b c (λ part. part ≡ piece.items) → Wrote a c (λ part. part ≡ pieces_text (take (i + 1) pieces))
pieces_sent i pieces piece a b c lt is first second =
    let both = sent_both a b c (pieces_text (take i pieces)) piece.items (Ok tt) first second in
    (both.0, both.1, both.2 ∙ sym (pieces_more i pieces piece lt is))

pub pieces_stopped : (i : ℕ) (pieces : List (Vec ℕ)) (piece : Vec ℕ) (a b c : Option (List ℕ)) (e : Fault) → i < length pieces → get_or pieces i piece ≡ piece
    → Wrote a b (λ part. part ≡ pieces_text (take i pieces)) → Wrote b c (λ part. IsSent piece.items part (Err e)) → Wrote a c (λ part. IsSent (pieces_text pieces) part (Err e))
pieces_stopped i pieces piece a b c e lt is first second =
    sent_as a c (pieces_text (take (i + 1) pieces) ++ pieces_text (drop (i + 1) pieces)) (pieces_text pieces) (Err e) (sym (pieces_split (i + 1) pieces))
    (sent_first a c (pieces_text (take (i + 1) pieces)) (pieces_text (drop (i + 1) pieces)) e
    (sent_as a c (pieces_text (take i pieces) ++ piece.items) (pieces_text (take (i + 1) pieces)) (Err e) (sym (pieces_more i pieces piece lt is))
    (sent_both a b c (pieces_text (take i pieces)) piece.items (Err e) first second)))

pub pieces_all : (pieces : List (Vec ℕ)) (n : ℕ) → length pieces ≤ n → take n pieces ≡ pieces
pieces_all [] zero le = refl
pieces_all [] (suc n) le = refl
pieces_all (p ∷ pieces) zero le = absurd (omega (arith, le))
pieces_all (p ∷ pieces) (suc n) le = ap (λ (ps : List (Vec ℕ)). p ∷ ps) (pieces_all pieces n (omega (arith, le)))

-- the file whose head and raster are sent
pub file_sent : (a b : Option (List ℕ)) (f : RasterFrame) (pieces : List (Vec ℕ)) (p : Picture) (r : Result ⊤ Fault) → AreRastersOf f pieces p → is_written p ≡ true
    → Wrote a b (λ part. IsSent (header_text (eqb f.components 3) f.width f.height (maxval_of f.depth) ++ pieces_text pieces) part r) → Wrote a b (λ part. IsSent (file_text p) part r)
unfolding file_text
file_sent a b f pieces p r are is sent =
    sent_as a b (header_text (eqb f.components 3) f.width f.height (maxval_of f.depth) ++ pieces_text pieces) (file_text p) r
    (ap (λ n. header_text (eqb n 3) f.width f.height (maxval_of f.depth) ++ pieces_text pieces) are.components
    ∙ ap (λ n. header_text (eqb (length p.planes) 3) n f.height (maxval_of f.depth) ++ pieces_text pieces) are.width
    ∙ ap (λ n. header_text (eqb (length p.planes) 3) p.width n (maxval_of f.depth) ++ pieces_text pieces) are.height
    ∙ ap (λ n. header_text (eqb (length p.planes) 3) p.width p.height (maxval_of n) ++ pieces_text pieces) are.depth
    ∙ ap (λ (xs : List ℕ). header_text (eqb (length p.planes) 3) p.width p.height (maxval_of p.depth) ++ xs) (are.raster is)) sent

-- whether there is a file
pub file_is : (f : RasterFrame) (pieces : List (Vec ℕ)) (p : Picture) → AreRastersOf f pieces p → is_grey_or_rgb f.components f.signed ≡ is_written p
file_is f pieces p are = ap (λ n. is_grey_or_rgb n f.signed) are.components ∙ ap (λ (s : Bool). is_grey_or_rgb (length p.planes) s) are.signed
