-- What encoding or decoding a file into a writer has written, by how far it came.
use Rattle.std.proofs.Common.{◌≡◌, ℕ, List, [], Option, Result, Ok, Err, OnOk, refl, sym, subst, ◌∙◌, ◌⊎◌, inl, inr, ◌≤◌, arith}
use Rattle.std.proofs.lemmas.Bool.{cases_lt}
use Rattle.std.specs.Bool.{⊤}
use Rattle.std.specs.Io.KnownBytes.{Appends}
use Rattle.jk_math.specs.Answer.{Refuses}
use Rattle.jk_math.specs.Memory.{IsMemory}
use Rattle.jk_math.specs.Picture.{Picture}
use Rattle.jk_math.specs.declared.fault.Fault.{Fault}
use Rattle.jk_math.specs.declared.fault.Fault.TheVariants.{Memory, BadParameters}
use Rattle.jk_math.proofs.Laws.{appends_none}
use Rattle.jk_pnm.specs.Reading.{pnm_at}
use Rattle.jk_pnm.specs.Written.{written as pnm_of}
use Rattle.jk_pnm.specs.Sending.{IsLeftBySending}
use Rattle.jk_window.specs.declared.view.View.{View}
use Rattle.jk_code.specs.MeaningReading.{meaning_at}
use Rattle.jk_code.specs.Viewing.{picture_of_view}
use Rattle.jk_code.specs.ViewReading.{meaning_view_at}
use Rattle.jk_code.specs.Written.{written as file_of}
use Rattle.jk_code.specs.Beginnings.{Left}
use Rattle.jk_options.specs.declared.plan.Plan.{Plan}
use Rattle.jk_options.specs.declared.plan.Placed.{Placed}
use Rattle.jk_options.specs.Plans.{placing}
use Rattle.jk_commands.specs.Commands.{encoded, decoded, window_decoded, window_given}
use Rattle.jk_commands.specs.Written.{LeftOf}
use Rattle.jk_commands.specs.Dressing.{IsSentOf}

-- this was written between two states of a writer
abbrev pub Wrote : (a b : Option (List ℕ)) → (List ℕ → Type 0) → Type 0
Wrote a b P = (text : List ℕ) × Appends a b text × P text

pub encoded_is : (bytes : List ℕ) (plan : Plan) (p : Picture) (x : Placed) → pnm_at bytes ≡ Ok p → placing p plan ≡ Ok x → encoded bytes plan ≡ file_of x.image x.parameters
unfolding encoded
encoded_is bytes plan p x read placed = rw (read, placed) refl

encoded_unread : (bytes : List ℕ) (plan : Plan) (e : Fault) → pnm_at bytes ≡ Err e → encoded bytes plan ≡ Err e
unfolding encoded
encoded_unread bytes plan e read = rw read refl

encoded_unplaced : (bytes : List ℕ) (plan : Plan) (p : Picture) (e : Fault) → pnm_at bytes ≡ Ok p → placing p plan ≡ Err e → encoded bytes plan ≡ Err e
unfolding encoded
encoded_unplaced bytes plan p e read placed = rw (read, placed) refl

pub unread : (bytes : List ℕ) (plan : Plan) (e : Fault) → Refuses e (pnm_at bytes) → LeftOf bytes plan [] (Err e)
unread bytes plan (Memory r) h = inl (tt, refl)
unread bytes plan e h = inr (inl (encoded_unread bytes plan e h, refl))

pub left_unread : (a : Option (List ℕ)) (bytes : List ℕ) (plan : Plan) (e : Fault) → Refuses e (pnm_at bytes) → Wrote a a (λ text. LeftOf bytes plan text (Err e))
left_unread a bytes plan e h = ([], appends_none a, unread bytes plan e h)

pub left_unplaced : (a : Option (List ℕ)) (bytes : List ℕ) (plan : Plan) (p : Picture) (e : Fault) → pnm_at bytes ≡ Ok p → placing p plan ≡ Err e → Wrote a a (λ text. LeftOf bytes plan text (Err e))
left_unplaced a bytes plan p e read placed = ([], appends_none a, inr (inl (encoded_unplaced bytes plan p e read placed, refl)))

pub left_of : (a b : Option (List ℕ)) (bytes : List ℕ) (plan : Plan) (p : Picture) (x : Placed) (r : Result ⊤ Fault) → pnm_at bytes ≡ Ok p → placing p plan ≡ Ok x
    → Wrote a b (λ text. Left x.image x.parameters text r) → Wrote a b (λ text. LeftOf bytes plan text r)
left_of a b bytes plan p x (Ok done) read placed wrote = (wrote.0, wrote.1, encoded_is bytes plan p x read placed ∙ wrote.2)
left_of a b bytes plan p x (Err e) read placed wrote = (wrote.0, wrote.1, inr (inr (p, x, read, placed, wrote.2)))

pub left_whole : (a b : Option (List ℕ)) (bytes : List ℕ) (plan : Plan) (r : Result ⊤ Fault) → Wrote a b (λ text. LeftOf bytes plan text r) → OnOk r ((file : List ℕ) × (encoded bytes plan ≡ Ok file) × Appends a b file)
left_whole a b bytes plan (Ok done) wrote = (wrote.0, wrote.2, wrote.1)
left_whole a b bytes plan (Err e) wrote = tt

-- what is known of an end that wasn't refused
pub on_ok : {P Q : Type 0} (r : Result ⊤ Fault) → (P → Q) → OnOk r P → OnOk r Q
on_ok (Ok done) f h = f h
on_ok (Err e) f h = tt

-- and what is known however it ends
pub on_ok_all : {P : Type 0} (r : Result ⊤ Fault) → P → OnOk r P
on_ok_all (Ok done) h = h
on_ok_all (Err e) h = tt

-- ---- decoding

-- nothing is written where the file that is due is refused
pub left_nothing : (a : Option (List ℕ)) (due : Result (List ℕ) Fault) (e : Fault) → Refuses e due → Wrote a a (λ text. IsLeftBySending due text (Err e))
left_nothing a due (Memory r) h = ([], appends_none a, inl (tt, refl))
left_nothing a due e h = ([], appends_none a, inr (inl (h, refl)))

-- the file that is due is this one
pub left_as : (a b : Option (List ℕ)) (x y : Result (List ℕ) Fault) (r : Result ⊤ Fault) → x ≡ y → Wrote a b (λ text. IsLeftBySending x text r) → Wrote a b (λ text. IsLeftBySending y text r)
left_as a b x y r same left = subst (λ (due : Result (List ℕ) Fault). Wrote a b (λ text. IsLeftBySending due text r)) same left

pub decoded_is : (bytes : List ℕ) (reduce : ℕ) (p : Picture) → meaning_at bytes reduce ≡ Ok p → decoded bytes reduce ≡ pnm_of p
unfolding decoded
decoded_is bytes reduce p is = rw is refl

pub decoded_refused : (bytes : List ℕ) (reduce : ℕ) (e : Fault) → Refuses e (meaning_at bytes reduce) → Refuses e (decoded bytes reduce)
unfolding decoded
decoded_refused bytes reduce (Memory r) h = tt
decoded_refused bytes reduce e h = rw h refl

pub window_is : (bytes : List ℕ) (v : View) (p : Picture) → meaning_view_at bytes v ≡ Ok p → window_decoded bytes v ≡ pnm_of p
unfolding window_decoded
window_is bytes v p is = rw is refl

pub window_refused : (bytes : List ℕ) (v : View) (e : Fault) → Refuses e (meaning_view_at bytes v) → Refuses e (window_decoded bytes v)
unfolding window_decoded
window_refused bytes v (Memory r) h = tt
window_refused bytes v e h = rw h refl

refused : (e : Fault) (due : Result (List ℕ) Fault) → Refuses e due → IsMemory e ⊎ (due ≡ Err e)
refused (Memory r) due h = inl tt
refused e due h = inr h

-- nothing was written of a file that was refused
pub none_sent : (a : Option (List ℕ)) (due : Result (List ℕ) Fault) (e : Fault) → Refuses e due → Wrote a a (λ text. IsSentOf due text (Err e))
none_sent a due e h = ([], appends_none a, inr (refused e due h, refl))

pub given_is : (v : View) (p q : Picture) → picture_of_view v p ≡ Ok q → window_given v p ≡ pnm_of q
given_is v p q is = rw is refl

pub given_refused : (v : View) (p : Picture) (e : Fault) → Refuses e (picture_of_view v p) → Refuses e (window_given v p)
given_refused v p (Memory r) h = tt
given_refused v p e h = rw h refl

-- so many workers as are asked for are in range where the answer isn't refused
pub in_range : {A : Type 0} (workers : ℕ) (r : Result A Fault) (x : A) → r ≡ Ok x → ((1 ≤ workers → workers ≤ 64 → ⊥) → r ≡ Err BadParameters) → (1 ≤ workers) × (workers ≤ 64)
in_range workers r x is range = elim (cases_lt workers 1) [
  | inl none ↦ absurd (let e : r ≡ Err BadParameters = range (λ some few. omega (arith, none, some)) in let both : Ok x ≡ Err BadParameters = sym is ∙ e in cc)
  | inr some ↦ elim (cases_lt 64 workers) [
    | inl more ↦ absurd (let e : r ≡ Err BadParameters = range (λ one few. omega (arith, more, few)) in let both : Ok x ≡ Err BadParameters = sym is ∙ e in cc)
    | inr few ↦ (some, few)
  ]
]

-- the fault of an answer that is refused for them
pub fault_is : {A : Type 0} (r : Result A Fault) (e : Fault) → r ≡ Err e → r ≡ Err BadParameters → e ≡ BadParameters
fault_is (Ok x) e was due = absurd cc
fault_is (Err d) e was due = cc
