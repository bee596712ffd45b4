-- Laws of what was written so far, and of what one step more writes.
use Rattle.std.proofs.Common.{◌≡◌, ℕ, zero, suc, ◌+◌, ◌^◌, ◌<◌, ◌≤◌, ltb, ◌⊎◌, inl, inr, Bool, true, false, if◌then◌else◌, List, [], ◌++◌, Result, Ok, Err, OnOk, length, refl, ap, sym, ◌∙◌, subst, arith, append_assoc}
use Rattle.std.specs.Bool.{⊤}
use Rattle.std.proofs.lemmas.Bool.{le-ltb}
use Rattle.std.proofs.lemmas.List.{append-nil}
use Rattle.jk_math.specs.Front.{IsFront}
use Rattle.jk_math.specs.Memory.{IsMemory}
use Rattle.jk_math.specs.Picture.{Picture, IsPicture}
use Rattle.jk_math.specs.declared.fault.Fault.{Fault}
use Rattle.jk_math.specs.declared.fault.Fault.TheVariants.{BadParameters, Limit}
use Rattle.jk_marks.specs.Markers.{marker_text, eoc}
use Rattle.jk_marks.specs.Siz.{tile_count}
use Rattle.jk_marks.specs.Codestream.{main_text, part_text, codestream_text, segments_of}
use Rattle.jk_params.specs.declared.parameters.Parameters.{Parameters}
use Rattle.jk_params.specs.declared.parameters.Container.{Container}
use Rattle.jk_params.specs.declared.parameters.Container.TheVariants.{Raw, Jp2}
use Rattle.jk_params.specs.Profile.{siz_of, is_profile, is_profile_for, IsWrittenBy}
use Rattle.jk_params.specs.declared.picture_frame.PictureFrame.{PictureFrame}
use Rattle.jk_params.specs.PictureFrames.{frame_of}
use Rattle.jk_params.proofs.Laws.{profile_by_frame}
use Rattle.jk_window.specs.Views.{holds_below}
use Rattle.jk_window.proofs.Laws.{below_none, below_more, below_fails}
use Rattle.jk_code.specs.Meaning.{Means}
use Rattle.jk_code.specs.Fronts.{HasFronts}
use Rattle.jk_code.specs.RowsWritten.{WereAllGiven, HasMetBefore, IsWrittenOfBy}
use Rattle.jk_code.specs.Written.{main_for, part_for, part_fits, parts_fit, tree_for, written}
use Rattle.jk_code.specs.Beginnings.{front_of, parts_upto, text_upto, text_before, IsFirstTooLong, LeftBy}
use Rattle.jk_code.specs.Sending.{IsTooLongAhead, IsSent, IsSentAsMade, IsPartSent, IsRestSent, IsSink}
use Rattle.jk_code.proofs.LoopLaws.{parts_more}
use Rattle.jk_code.proofs.BeginningLaws.{file_ends, limit_due}

-- a beginning behind what stands before
pub front_behind : (before part text : List ℕ) → IsFront part text → IsFront (before ++ part) (before ++ text)
front_behind before part text front = record {
  more = front.more;
  text = ap (λ (x : List ℕ). before ++ x) front.text ∙ sym (append_assoc before part front.more);
}

-- a whole text is a beginning of itself
pub front_whole : (text all : List ℕ) → all ≡ text → IsFront text all
front_whole text all e = record { more = []; text = e ∙ sym (append-nil text) }

-- ---- one text after another

-- such a text was taken between two states of what takes it
abbrev pub Wrote : {K : Type 0} → (took : K → List ℕ → K → Type 0) → (a b : K) → (List ℕ → Type 0) → Type 0
Wrote took a b P = (text : List ℕ) × took a text b × P text

-- a text that is made as it is written, behind one that was sent
pub put_behind : (tells : Fault → Type 0) (x y first last : List ℕ) (r : Result ⊤ Fault) → first ≡ x → IsSentAsMade tells y last r → IsSentAsMade tells (x ++ y) (first ++ last) r
put_behind tells x y first last (Ok done) whole put = ap (λ (v : List ℕ). v ++ last) whole ∙ ap (λ (v : List ℕ). x ++ v) put
put_behind tells x y first last (Err e) whole put =
    (put.0, subst (λ (v : List ℕ). IsFront (v ++ last) (x ++ y)) (sym whole) (front_behind x last y put.1))

-- a text is sent where its first half is cut off
pub sent_first : (x y part : List ℕ) → IsFront part x → IsFront part (x ++ y)
sent_first x y part front = record {
  more = front.more ++ y;
  text = ap (λ (v : List ℕ). v ++ y) front.text ∙ append_assoc part front.more y;
}

-- a tile-part whose length can be said is written as a text is
pub part_put : (tells : Fault → Type 0) (text part : List ℕ) (fits : Bool) (r : Result ⊤ Fault) → fits ≡ true → IsSentAsMade tells text part r → IsPartSent tells text fits part r
part_put tells text part fits (Ok done) fit put = (fit, put)
part_put tells text part fits (Err e) fit put = inr (inr (put.0, fit, put.1))

-- and nothing of it where memory is refused before, or it is too long
pub part_none : (tells : Fault → Type 0) (text : List ℕ) (n : ℕ) (size : ℕ) (e : Fault) → size ≤ n → IsMemory e ⊎ ((e ≡ Limit) × (2 ^ 32 ≤ 14 + size)) → IsPartSent tells text (ltb (14 + n) (2 ^ 32)) [] (Err e)
part_none tells text n size e least why = elim why [
  | inl memory ↦ inr (inl (memory, refl))
  | inr limit ↦ inl (limit.0, le-ltb (14 + n) (2 ^ 32) (let long = limit.1 in omega (arith, long, least)), refl)
]

-- ---- the tile-parts behind the first

-- what was written of them before tile t
abbrev pub IsRestUpto : Picture → Parameters → ℕ → List ℕ → Type 0
IsRestUpto p q t text = parts_upto p q 1 ++ text ≡ parts_upto p q t

pub rest_more : {K : Type 0} (took : K → List ℕ → K → Type 0) (tells : Fault → Type 0) (law : IsSink took) (p : Picture) (q : Parameters) (a b c : K) (t : ℕ) → Wrote took a b (IsRestUpto p q t) → Wrote took b c (λ part. (part_fits p q t ≡ true) × (part ≡ part_text (part_for p q t)))
    → Wrote took a c (IsRestUpto p q (t + 1))
rest_more took tells law p q a b c t before last = (
  before.0 ++ last.0,
  law.joined a b c before.0 last.0 before.1 last.1,
  sym (append_assoc (parts_upto p q 1) before.0 last.0) ∙ ap (λ (v : List ℕ). v ++ last.0) before.2 ∙ ap (λ (v : List ℕ). parts_upto p q t ++ v) last.2.1
      ∙ sym (parts_more (part_for p q) t),
)

pub rest_stopped : {K : Type 0} (took : K → List ℕ → K → Type 0) (tells : Fault → Type 0) (law : IsSink took) (p : Picture) (q : Parameters) (a b c : K) (t : ℕ) (e : Fault) → 0 < t → t < tile_count (siz_of p q) → holds_below (part_fits p q) t ≡ true
    → Wrote took a b (IsRestUpto p q t) → Wrote took b c (λ part. IsPartSent tells (part_text (part_for p q t)) (part_fits p q t) part (Err e))
    → Wrote took a c (λ text. IsRestSent tells p q text (Err e))
rest_stopped took tells law p q a b c t e some lt fit before last =
    (before.0 ++ part, law.joined a b c before.0 part before.1 last.1, why last.2)
  where
    part : List ℕ
    part = last.0

    all : parts_upto p q 1 ++ (before.0 ++ part) ≡ parts_upto p q t ++ part
    all = sym (append_assoc (parts_upto p q 1) before.0 part) ∙ ap (λ (v : List ℕ). v ++ part) before.2

    none : part ≡ [] → parts_upto p q 1 ++ (before.0 ++ part) ≡ parts_upto p q t
    none empty = all ∙ ap (λ (v : List ℕ). parts_upto p q t ++ v) empty ∙ append-nil (parts_upto p q t)

    why : IsPartSent tells (part_text (part_for p q t)) (part_fits p q t) part (Err e) → IsRestSent tells p q (before.0 ++ part) (Err e)
    why (inl long) = inl (long.0, t, some, record { tile = lt; before = fit; long = long.1 }, none long.2)
    why (inr (inl memory)) = inr (inl memory.0, t, omega (arith, lt), fit, front_whole _ _ (sym (none memory.1)))
    why (inr (inr shelf)) =
        let begun : IsFront (parts_upto p q t ++ part) (parts_upto p q t ++ part_text (part_for p q t)) = front_behind (parts_upto p q t) part (part_text (part_for p q t)) shelf.2 in
        inr (
          shelf.0,
          t + 1,
          omega (arith, lt),
          below_more (part_fits p q) t fit shelf.1,
          subst (λ (x : List ℕ). IsFront x (parts_upto p q (t + 1))) (sym all) (subst (λ (x : List ℕ). IsFront (parts_upto p q t ++ part) x) (sym (parts_more (part_for p q) t)) begun),
        )

-- ---- the file

-- what stands before a tile-part behind the first, by what stands before the second
pub upto_more : (p : Picture) (q : Parameters) (n : ℕ) (text : List ℕ) → IsRestUpto p q n text → text_upto p q 1 ++ text ≡ text_upto p q n
unfolding text_upto
upto_more p q n text same =
    let front = front_of q.container p (length (codestream_text (tree_for p q))) in
    let main = main_text (siz_of p q) (segments_of (main_for p q)) in
    append_assoc front (main ++ parts_upto p q 1) text ∙ ap (λ (v : List ℕ). front ++ v) (append_assoc main (parts_upto p q 1) text ∙ ap (λ (v : List ℕ). main ++ v) same)

-- the same for a beginning
pub begun_more : (p : Picture) (q : Parameters) (n : ℕ) (text : List ℕ) → IsFront (parts_upto p q 1 ++ text) (parts_upto p q n) → IsFront (text_upto p q 1 ++ text) (text_upto p q n)
unfolding text_upto
begun_more p q n text front =
    let before = front_of q.container p (length (codestream_text (tree_for p q))) in
    let main = main_text (siz_of p q) (segments_of (main_for p q)) in
    let same : (before ++ (main ++ parts_upto p q 1)) ++ text ≡ before ++ (main ++ (parts_upto p q 1 ++ text)) =
    append_assoc before (main ++ parts_upto p q 1) text ∙ ap (λ (v : List ℕ). before ++ v) (append_assoc main (parts_upto p q 1) text) in
    subst (λ (x : List ℕ). IsFront x (before ++ (main ++ parts_upto p q n))) (sym same)
    (front_behind before (main ++ (parts_upto p q 1 ++ text)) (main ++ parts_upto p q n) (front_behind main (parts_upto p q 1 ++ text) (parts_upto p q n) front))

-- what is written before that tile-part is found to be too long
before_is : (k : Container) (p : Picture) (q : Parameters) (n : ℕ) → 0 < n → (k ≡ Jp2 → ⊥) → text_before k p q n ≡ text_upto p q n
before_is Raw p q zero some raw = absurd (omega (arith, some))
before_is Raw p q (suc n) some raw = refl
before_is Jp2 p q n some raw = absurd (raw refl)

pub left_none : {K : Type 0} (took : K → List ℕ → K → Type 0) (tells : Fault → Type 0) (law : IsSink took) (p : Picture) (q : Parameters) (a : K) (e : Fault) → IsMemory e → Wrote took a a (λ text. LeftBy tells p q text (Err e))
left_none took tells law p q a e memory =
    ([], law.none a, inr (inr (inl memory, inl (0, omega arith, below_none (part_fits p q), record { more = text_upto p q 0; text = refl }))))

pub left_ahead : {K : Type 0} (took : K → List ℕ → K → Type 0) (tells : Fault → Type 0) (law : IsSink took) (p : Picture) (q : Parameters) (a : K) (e : Fault) → is_profile q p ≡ true → e ≡ Limit → IsTooLongAhead p q → Wrote took a a (λ text. LeftBy tells p q text (Err e))
left_ahead took tells law p q a e profile limit ahead =
    ([], law.none a, inr (inl (limit, limit_due p q ahead.0 profile ahead.1, ahead.0, ahead.1, sym ahead.2)))

pub left_start : {K : Type 0} (took : K → List ℕ → K → Type 0) (tells : Fault → Type 0) (law : IsSink took) (p : Picture) (q : Parameters) (a b : K) (start : List ℕ) (e : Fault) → 0 < tile_count (siz_of p q) → part_fits p q 0 ≡ true → start ≡ text_upto p q 1
    → Wrote took a b (λ part. IsSentAsMade tells start part (Err e)) → Wrote took a b (λ text. LeftBy tells p q text (Err e))
left_start took tells law p q a b start e some fit same sent =
    (sent.0, sent.1, inr (inr (sent.2.0, inl (1, some, below_more (part_fits p q) 0 (below_none (part_fits p q)) fit, subst (λ (x : List ℕ). IsFront sent.0 x) same sent.2.1))))

pub left_rest : {K : Type 0} (took : K → List ℕ → K → Type 0) (tells : Fault → Type 0) (law : IsSink took) (p : Picture) (q : Parameters) (a b c : K) (start : List ℕ) (e : Fault) → is_profile q p ≡ true → (q.container ≡ Jp2 → parts_fit p q ≡ true) → start ≡ text_upto p q 1
    → Wrote took a b (λ part. part ≡ start) → Wrote took b c (λ text. IsRestSent tells p q text (Err e)) → Wrote took a c (λ text. LeftBy tells p q text (Err e))
left_rest took tells law p q a b c start e profile all same first rest =
    (first.0 ++ rest.0, law.joined a b c first.0 rest.0 first.1 rest.1, why rest.2)
  where
    here : first.0 ++ rest.0 ≡ text_upto p q 1 ++ rest.0
    here = ap (λ (v : List ℕ). v ++ rest.0) (first.2 ∙ same)

    raw : (n : ℕ) → IsFirstTooLong p q n → q.container ≡ Jp2 → ⊥
    raw n long jp2 = absurd (let both : true ≡ false = sym (all jp2) ∙ below_fails (part_fits p q) (tile_count (siz_of p q)) n long.tile long.long in cc)

    why : IsRestSent tells p q rest.0 (Err e) → LeftBy tells p q (first.0 ++ rest.0) (Err e)
    why (inl long) =
        inr (inl (
          long.0,
          limit_due p q long.1 profile long.3,
          long.1,
          long.3,
          here ∙ upto_more p q long.1 rest.0 long.4 ∙ sym (before_is q.container p q long.1 long.2 (raw long.1 long.3)),
        ))
    why (inr stopped) =
        inr (inr (stopped.0, inl (stopped.1, stopped.2, stopped.3, subst (λ (x : List ℕ). IsFront x (text_upto p q stopped.1)) (sym here) (begun_more p q stopped.1 rest.0 stopped.4))))

pub left_end : {K : Type 0} (took : K → List ℕ → K → Type 0) (tells : Fault → Type 0) (law : IsSink took) (p : Picture) (q : Parameters) (a b c d : K) (start : List ℕ) (r : Result ⊤ Fault) → is_profile q p ≡ true → IsWrittenBy q p → start ≡ text_upto p q 1
    → Wrote took a b (λ part. part ≡ start) → Wrote took b c (λ text. (parts_fit p q ≡ true) × IsRestUpto p q (tile_count (siz_of p q)) text) → Wrote took c d (λ part. IsSent tells (marker_text eoc) part r)
    → Wrote took a d (λ text. LeftBy tells p q text r)
left_end took tells law p q a b c d start r profile by same first rest last =
    ((first.0 ++ rest.0) ++ last.0, law.joined a c d (first.0 ++ rest.0) last.0 (law.joined a b c first.0 rest.0 first.1 rest.1) last.1, why r last.2)
  where
    count : ℕ
    count = tile_count (siz_of p q)

    here : first.0 ++ rest.0 ≡ text_upto p q count
    here = ap (λ (v : List ℕ). v ++ rest.0) (first.2 ∙ same) ∙ upto_more p q count rest.0 rest.2.1

    whole : written p q ≡ Ok (text_upto p q count ++ marker_text eoc)
    whole = file_ends p q profile by rest.2.0

    why : (r : Result ⊤ Fault) → IsSent tells (marker_text eoc) last.0 r → LeftBy tells p q ((first.0 ++ rest.0) ++ last.0) r
    why (Ok done) sent = whole ∙ ap (λ (v : List ℕ). Ok (v ++ marker_text eoc)) (sym here) ∙ ap (λ (v : List ℕ). Ok ((first.0 ++ rest.0) ++ v)) (sym sent)
    why (Err e) sent =
        inr (inr (
          inr sent.0,
          inr (
            text_upto p q count ++ marker_text eoc,
            whole,
            subst (λ (v : List ℕ). IsFront (v ++ last.0) (text_upto p q count ++ marker_text eoc)) (sym here) (front_behind (text_upto p q count) last.0 (marker_text eoc) sent.1),
          ),
        ))

-- the whole file where it wasn't refused
pub left_ok : {K : Type 0} (took : K → List ℕ → K → Type 0) (tells : Fault → Type 0) (law : IsSink took) (p : Picture) (q : Parameters) (a b : K) (r : Result ⊤ Fault) → Wrote took a b (λ text. LeftBy tells p q text r) → OnOk r ((file : List ℕ) × (written p q ≡ Ok file) × took a file b)
left_ok took tells law p q a b (Ok done) wrote = (wrote.0, wrote.2, wrote.1)
left_ok took tells law p q a b (Err e) wrote = tt

pub left_refused : {K : Type 0} (took : K → List ℕ → K → Type 0) (tells : Fault → Type 0) (law : IsSink took) (p : Picture) (q : Parameters) (a : K) (e : Fault) → is_profile q p ≡ true → IsMemory e ⊎ ((e ≡ Limit) × IsTooLongAhead p q) → Wrote took a a (λ text. LeftBy tells p q text (Err e))
left_refused took tells law p q a e profile why = elim why [
  | inl memory ↦ left_none took tells law p q a e memory
  | inr limit ↦ left_ahead took tells law p q a e profile limit.0 limit.1
]

-- ---- the file of rows that come

-- nothing of it, where they don't all come,
pub come_none : {K : Type 0} (took : K → List ℕ → K → Type 0) (tells : Fault → Type 0) (law : IsSink took) {A : Type 0} (gave : A → Picture → A → Type 0) (met : A → Fault → A → Type 0) (f : PictureFrame) (q : Parameters) (from to : A) (a : K) (e : Fault) → IsMemory e ⊎ HasMetBefore gave met f from to e
    → Wrote took a a (λ text. IsWrittenOfBy tells gave met f q from to text (Err e))
come_none took tells law gave met f q from to a e why = ([], law.none a, inl (e, refl, why, refl))

-- or where the parameters are refused
refused : (b : Bool) (r : Result ⊤ Fault) (e : Fault) → r ≡ (if b then Ok tt else Err BadParameters) → r ≡ Err e → (b ≡ false) × (e ≡ BadParameters)
refused true r e due is = absurd (let both = sym is ∙ due in cc)
refused false r e due is = (refl, (let both = sym is ∙ due in cc))

pub come_refused : {K : Type 0} (took : K → List ℕ → K → Type 0) (tells : Fault → Type 0) (law : IsSink took) {A : Type 0} (gave : A → Picture → A → Type 0) (met : A → Fault → A → Type 0) (f : PictureFrame) (q : Parameters) (from to : A) (a : K) (r : Result ⊤ Fault) (e : Fault) → r ≡ (if is_profile_for q f then Ok tt else Err BadParameters) → r ≡ Err e
    → (p : Picture) × WereAllGiven gave f from to p → Wrote took a a (λ text. IsWrittenOfBy tells gave met f q from to text (Err e))
come_refused took tells law gave met f q from to a r e due is (p, given) =
    let why = refused (is_profile_for q f) r e due is in
    let outside : is_profile q p ≡ false = profile_by_frame q p ∙ ap (λ (g : PictureFrame). is_profile_for q g) given.frame ∙ why.0 in
    ([], law.none a, inr (p, given, inl (why.1, outside, refl)))

-- the picture has the profile else:
come_profile : {A : Type 0} (gave : A → Picture → A → Type 0) (f : PictureFrame) (q : Parameters) (from to : A) (p : Picture) → WereAllGiven gave f from to p → is_profile_for q f ≡ true → is_profile q p ≡ true
come_profile gave f q from to p given profile = profile_by_frame q p ∙ ap (λ (g : PictureFrame). is_profile_for q g) given.frame ∙ profile

-- the whole file,
pub come_ok : {K : Type 0} (took : K → List ℕ → K → Type 0) (tells : Fault → Type 0) (law : IsSink took) {A : Type 0} (gave : A → Picture → A → Type 0) (f : PictureFrame) (q : Parameters) (from to : A) (a b : K) (Has : Picture → Type 0) (r : Result ⊤ Fault) → is_profile_for q f ≡ true → (p : Picture) × WereAllGiven gave f from to p × Has p
    → ((p : Picture) → IsPicture p → frame_of p ≡ f → Has p → is_profile q p ≡ true → Wrote took a b (λ text. LeftBy tells p q text r))
    → OnOk r ((p : Picture) → IsPicture p → frame_of p ≡ f → Has p → (file : List ℕ) → written p q ≡ Ok file → Means file 0 p × HasFronts p q file)
    → OnOk r ((p : Picture) × WereAllGiven gave f from to p × (file : List ℕ) × (written p q ≡ Ok file) × took a file b × Means file 0 p × HasFronts p q file)
come_ok took tells law gave f q from to a b Has (Ok done) profile (p, given, has) part means =
    let wrote = part p given.picture given.frame has (come_profile gave f q from to p given profile) in
    let meant = means p given.picture given.frame has wrote.0 wrote.2 in
    (p, given, wrote.0, wrote.2, wrote.1, meant.0, meant.1)
come_ok took tells law gave f q from to a b Has (Err e) profile all part means = tt

-- or what is left of it
pub come_part : {K : Type 0} (took : K → List ℕ → K → Type 0) (tells : Fault → Type 0) (law : IsSink took) {A : Type 0} (gave : A → Picture → A → Type 0) (met : A → Fault → A → Type 0) (f : PictureFrame) (q : Parameters) (from to : A) (a b : K) (Has : Picture → Type 0) (r : Result ⊤ Fault) → is_profile_for q f ≡ true
    → (p : Picture) × WereAllGiven gave f from to p × Has p → ((p : Picture) → IsPicture p → frame_of p ≡ f → Has p → is_profile q p ≡ true → Wrote took a b (λ text. LeftBy tells p q text r))
    → Wrote took a b (λ text. IsWrittenOfBy tells gave met f q from to text r)
come_part took tells law gave met f q from to a b Has r profile (p, given, has) part =
    let wrote = part p given.picture given.frame has (come_profile gave f q from to p given profile) in
    (wrote.0, wrote.1, inr (p, given, wrote.2))
