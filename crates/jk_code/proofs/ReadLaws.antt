-- What a file means of which all is read but its code-blocks.
use Rattle.std.proofs.Common.{◌≡◌, ◌+◌, ◌-◌, ◌⊎◌, inl, inr, ℕ, List, Result, Ok, Err, refl, ap, sym, subst, ◌∙◌, arith}
use Rattle.std.specs.Prelude.{OnOk, IfErr, slice_range}
use Rattle.jk_math.specs.Answer.{◌>>=◌, Answers, Refuses}
use Rattle.jk_math.specs.Steps.{refuses_due}
use Rattle.jk_math.specs.Picture.{Picture}
use Rattle.jk_math.specs.Memory.{IsMemory}
use Rattle.jk_math.specs.declared.fault.Fault.{Fault}
use Rattle.jk_math.specs.declared.fault.Fault.TheVariants.{Memory}
use Rattle.jk_math.specs.declared.rect.Rect.{Rect}
use Rattle.jk_math.proofs.Laws.{AreBytes}
use Rattle.jk_marks.specs.Siz.{tile_count}
use Rattle.jk_boxes.specs.declared.place.Boxed.{Boxed}
use Rattle.jk_boxes.specs.Reading.{boxes_at}
use Rattle.jk_params.specs.Headers.{Headers}
use Rattle.jk_params.specs.HeadersReading.{headers_at}
use Rattle.jk_tile.specs.decoding.TileReading.{tested}
use Rattle.jk_tile.proofs.Laws.{fine, bind_ok, bind_err, refuses_on}
use Rattle.jk_code.specs.Meaning.{Means}
use Rattle.jk_code.specs.MeaningReading.{reduction_at, packets_tested, tiles_tested, picture_at, picture_with, planes_of_tiles, image_at, meaning_at}
use Rattle.jk_code.specs.ReadImages.{IsReadImage, source_of}
use Rattle.jk_code.specs.Rows.{WereTaken, WereRefused, AreRefused, AreTold, IsTold, HasFaultAt, fault_of, picture_of}
use Rattle.jk_code.specs.Sources.{ImageSource, IsImageSource}
use Rattle.jk_code.specs.declared.reading.ReadImage.{ReadImage}
use Rattle.jk_code.proofs.MeaningLaws.{picture_by, found_meaning}
use Rattle.jk_code.proofs.RowLaws.{no_fault}

-- ---- steps to a picture

pub no_area : (bytes : List ℕ) (h : Headers) (d : ℕ) (e : Fault) → reduction_at h d ≡ Err e → Refuses e (picture_at h bytes d)
unfolding picture_at
no_area bytes h d e is = refuses_due e (picture_at h bytes d) (rw is refl)

pub no_packets : (bytes : List ℕ) (h : Headers) (d : ℕ) (a : Rect) (e : Fault) → reduction_at h d ≡ Ok a → Refuses e (packets_tested bytes h (tile_count h.siz)) → Refuses e (picture_at h bytes d)
unfolding picture_at
no_packets bytes h d a (Memory r) area refused = tt
no_packets bytes h d a e area refused = rw (area, refused) refl

-- a codestream whose headers are read
pub image_by : (bytes : List ℕ) (h : Headers) (d : ℕ) → headers_at bytes ≡ Ok h → picture_at h bytes d ≡ image_at bytes d
unfolding image_at
image_by bytes h d is = rw is refl

pub no_headers : (bytes : List ℕ) (d : ℕ) (e : Fault) → Refuses e (headers_at bytes) → Refuses e (image_at bytes d)
unfolding image_at
no_headers bytes d (Memory r) refused = tt
no_headers bytes d e refused = rw refused refl

-- a file that is opened
pub file_by : (bytes : List ℕ) (b : Boxed) (d : ℕ) → Ok b ≡ boxes_at bytes → image_at (slice_range bytes b.start b.end) d ≡ meaning_at bytes d
unfolding meaning_at
file_by bytes b d is = rw (sym is) refl

pub no_boxes : (bytes : List ℕ) (d : ℕ) (e : Fault) → Err e ≡ boxes_at bytes → Refuses e (meaning_at bytes d)
unfolding meaning_at
no_boxes bytes d e is = refuses_due e (meaning_at bytes d) (rw (sym is) refl)

-- ---- what was read

pub read_means : (bytes : List ℕ) (h : Headers) (d : ℕ) (a : Rect) → reduction_at h d ≡ Ok a → packets_tested bytes h (tile_count h.siz) ≡ fine
    → picture_at h bytes d ≡ (tiles_tested bytes h d (tile_count h.siz) >>= (λ _. Ok (picture_with h.siz a (planes_of_tiles bytes h d a))))
read_means bytes h d a area packets = picture_by bytes h d ∙ bind_ok (reduction_at h d) _ a area ∙ bind_ok (packets_tested bytes h (tile_count h.siz)) _ tt packets

-- a file whose code-blocks have no fault
pub read_fine : (bytes : List ℕ) (d : ℕ) (r : ReadImage) (s : ImageSource) → IsReadImage bytes d r → s ≡ source_of bytes r → tiles_tested s.bytes s.headers s.reduce (tile_count s.headers.siz) ≡ fine → meaning_at bytes d ≡ Ok (picture_of s)
read_fine bytes d r s is same tiles =
    let due : meaning_at bytes d ≡ (tiles_tested s.bytes s.headers s.reduce (tile_count s.headers.siz) >>= (λ _. Ok (picture_of s))) =
    subst (λ (x : ImageSource). meaning_at bytes d ≡ (tiles_tested x.bytes x.headers x.reduce (tile_count x.headers.siz) >>= (λ _. Ok (picture_of x)))) (sym same) is.means in
    due ∙ bind_ok (tiles_tested s.bytes s.headers s.reduce (tile_count s.headers.siz)) _ tt tiles

-- one of which a code-block has one
pub read_refuses : (bytes : List ℕ) (d : ℕ) (r : ReadImage) (s : ImageSource) (e : Fault) → IsReadImage bytes d r → s ≡ source_of bytes r → Refuses e (tiles_tested s.bytes s.headers s.reduce (tile_count s.headers.siz)) → Refuses e (meaning_at bytes d)
read_refuses bytes d r s e is same refuses =
    let x = source_of bytes r in
    let due = tiles_tested x.bytes x.headers x.reduce (tile_count x.headers.siz) in
    refuses_on e due (meaning_at bytes d) (subst (λ (s : ImageSource). Refuses e (tiles_tested s.bytes s.headers s.reduce (tile_count s.headers.siz))) same refuses) (λ failed. is.means ∙ bind_err due _ e failed)

-- refused memory is no answer
refuses_memory : {A : Type 0} (e : Fault) (due : Result A Fault) → IsMemory e → Refuses e due
refuses_memory (Memory r) due is = tt
refuses_memory e due is = absurd is

-- What is told of rows that were given so.
pub rows_told : {A : Type 0} (took : A → Picture → A → Type 0) (refused : A → Picture → Fault → A → Type 0) (s : ImageSource) (given result : Result (Unit {0}) Fault) (from to : A) → IsImageSource s
    → IfErr given (λ e. IsMemory e ⊎ WereRefused took refused (picture_of s) s.area.y0 s.area.y1 from to e ⊎ HasFaultAt s e) → IsTold given result (fault_of s) → AreTold took refused s from to result
rows_told {A} took refused s given result from to is cause told = elim told [
  | inl answers ↦ inl answers
  | inr both ↦ by given both.0 cause both.1
]
  where
    of_err : (e : Fault) → result ≡ Err e → IsMemory e ⊎ WereRefused took refused (picture_of s) s.area.y0 s.area.y1 from to e ⊎ HasFaultAt s e → fault_of s ≡ fine → AreTold took refused s from to result
    of_err e same (inl memory) all = inl (subst (λ (r : Result (Unit {0}) Fault). Answers (λ _. tt) r (fault_of s)) (sym same) (refuses_memory e (fault_of s) memory))
    of_err e same (inr (inl why)) all = inr (all, e, same, why)
    of_err e same (inr (inr has)) all = absurd (no_fault s e is all has)

    by : (g : Result (Unit {0}) Fault) → result ≡ g → IfErr g (λ e. IsMemory e ⊎ WereRefused took refused (picture_of s) s.area.y0 s.area.y1 from to e ⊎ HasFaultAt s e) → fault_of s ≡ fine → AreTold took refused s from to result
    by (Ok u) same why all = inl (subst (λ (r : Result (Unit {0}) Fault). Answers (λ _. tt) r (fault_of s)) (sym same) all)
    by (Err e) same why all = of_err e same why all

-- What is told of a file whose rows were given so.
pub read_told : {A : Type 0} (took : A → Picture → A → Type 0) (refused : A → Picture → Fault → A → Type 0) (bytes : List ℕ) (d : ℕ) (r : ReadImage) (s : ImageSource) (result : Result (Unit {0}) Fault) (from to : A) → IsReadImage bytes d r → s ≡ source_of bytes r
    → AreTold took refused s from to result → Answers (λ _. tt) result (tested (meaning_at bytes d)) ⊎ AreRefused took refused (meaning_at bytes d) from to result
read_told {A} took refused bytes d r s result from to is same told = elim told [
  | inl answers ↦ inl (by result answers)
  | inr why ↦ inr (why.1, why.2, picture_of s, read_fine bytes d r s is same why.0, subst (λ z. WereRefused took refused (picture_of s) s.area.y0 z from to why.1) last why.3)
]
  where
    source : IsImageSource s
    source = subst IsImageSource (sym same) is.source

    last : s.area.y1 ≡ s.area.y0 + (s.area.y1 - s.area.y0)
    last = let down = source.is_area.upper in omega (arith, down)

    by : (g : Result (Unit {0}) Fault) → Answers (λ _. tt) g (fault_of s) → Answers (λ _. tt) g (tested (meaning_at bytes d))
    by (Ok u) all = ap (λ (x : Result Picture Fault). tested x) (read_fine bytes d r s is same all)
    by (Err e) refuses = refuses_on e (meaning_at bytes d) (tested (meaning_at bytes d)) (read_refuses bytes d r s e is same refuses) (λ failed. ap (λ (x : Result Picture Fault). tested x) failed)

-- its rows, where they were given
pub read_taken : {A : Type 0} (took : A → Picture → A → Type 0) (bytes : List ℕ) (d : ℕ) (r : ReadImage) (s : ImageSource) (refused : A → Picture → Fault → A → Type 0) (result : Result (Unit {0}) Fault) (from to : A) → AreBytes bytes → IsReadImage bytes d r → s ≡ source_of bytes r
    → AreTold took refused s from to result → OnOk result (WereTaken took (picture_of s) s.area.y0 s.area.y1 from to)
    → OnOk result ((p : Picture) × (meaning_at bytes d ≡ Ok p) × Means bytes d p × WereTaken took p p.y0 (p.y0 + p.height) from to)
read_taken {A} took bytes d r s refused result from to are is same told taken = by result told taken
  where
    p : Picture
    p = picture_of s

    source : IsImageSource s
    source = subst IsImageSource (sym same) is.source

    last : s.area.y1 ≡ s.area.y0 + (s.area.y1 - s.area.y0)
    last = let down = source.is_area.upper in omega (arith, down)

    by : (g : Result (Unit {0}) Fault) → AreTold took refused s from to g → OnOk g (WereTaken took p s.area.y0 s.area.y1 from to)
        → OnOk g ((p : Picture) × (meaning_at bytes d ≡ Ok p) × Means bytes d p × WereTaken took p p.y0 (p.y0 + p.height) from to)
    by (Ok u) (inl all) rows = let means = read_fine bytes d r s is same all in (p, means, found_meaning bytes d p are means, subst (λ z. WereTaken took p s.area.y0 z from to) last rows)
    by (Ok u) (inr why) rows = let clash = why.2 in absurd cc
    by (Err e) told rows = tt
