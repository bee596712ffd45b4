-- Heads in the first bytes of a connection and in all of them.
use Rattle.std.proofs.Common.{◌≡◌, ℕ, ◌+◌, ◌-◌, ◌≤◌, inl, inr, Bool, true, false, cond, ◌||◌, List, [], ◌∷◌, ◌++◌, length, take, drop, map, min, slice_range, refl, sym, ap, ◌∙◌, subst, arith, append_assoc, length-append}
use Rattle.std.proofs.lemmas.List.{take-append-drop, drop_at, length-take, length-take-le, length-map, take_min, length-drop, drop-append-le, take-append-le}
use Rattle.std.proofs.Math.Seq.{take-append-add}
use Rattle.std.specs.List.{list_any}
use Rattle.std.proofs.lemmas.Bool.{eq-eqb}
use Rattle.std.proofs.lemmas.Bool.Decides.{eqb_tells}
use Rattle.httparse.specs.declared.spans.HeaderSpan.{HeaderSpan}
use Rattle.httparse.specs.declared.spans.RequestSpans.{RequestSpans}
use Rattle.httparse.specs.Grammar.{Field, RequestHead, print_request, ReadsRequest}
use Rattle.httparse.specs.Spans.{header_bytes, name_and_value, AreFieldsAt, IsRequestAt, IsRequestWithin}
use Rattle.jk_web.specs.declared.head.Verdict.{Verdict}
use Rattle.jk_web.specs.declared.head.Verdict.TheVariants.{Whole, Bad}
use Rattle.jk_web.specs.Fields.{asks_close, announces, closes}
use Rattle.jk_web.specs.Heads.{head_limit, field_limit, IsWhole, IsGood, IsBad}
use Rattle.jk_web.specs.Judging.{IfHead, IsHead, IfStatus, IsHeadAt, judged}

-- the first bytes, whose number was found by a comparison
pub window_is : (rest : List ℕ) (n : ℕ) → n ≡ min head_limit (length rest) → take n rest ≡ take head_limit rest
window_is rest n e = ap (λ k. take k rest) e ∙ take_min head_limit rest

pub take_past : (a b : List ℕ) (n : ℕ) → length a ≤ n → take n (a ++ b) ≡ a ++ take (n - length a) b
take_past a b n h =
    let sum : n ≡ length a + (n - length a) = omega arith in
    ap (λ k. take k (a ++ b)) sum ∙ take-append-add a b (n - length a)

-- A head in the first bytes is a head of all.
pub whole_in_window : (rest w : List ℕ) (h : RequestHead) (n : ℕ) → w ≡ take head_limit rest
    → ReadsRequest w h (drop n w) → n ≡ length (print_request h) → IsWhole rest h (drop n rest)
whole_in_window rest w h n window r e =
    let text : rest ≡ print_request h ++ (drop n w ++ drop head_limit rest) =
    sym (take-append-drop head_limit rest)
    ∙ ap (λ (v : List ℕ). v ++ drop head_limit rest) (sym window ∙ r.1)
    ∙ append_assoc (print_request h) (drop n w) (drop head_limit rest) in
    let tail : drop n rest ≡ drop n w ++ drop head_limit rest =
    ap (drop n) text ∙ drop_at (print_request h) (drop n w ++ drop head_limit rest) n (sym e) in
    record {
      reads = (r.0, text ∙ ap (λ (t : List ℕ). print_request h ++ t) (sym tail));
      short = omega (arith, ap length r.1, length-append (print_request h) (drop n w), ap length window, length-take head_limit rest);
    }

-- A whole head stands in the first bytes.
pub reads_in_window : (rest w : List ℕ) (h : RequestHead) (tail : List ℕ) → w ≡ take head_limit rest → IsWhole rest h tail
    → ReadsRequest w h (take (head_limit - length (print_request h)) tail)
reads_in_window rest w h tail window whole =
    (whole.reads.0, window ∙ ap (take head_limit) whole.reads.1 ∙ take_past (print_request h) tail head_limit whole.short)

list_any-map : {X Y : Type 0} (test : Y → Bool) (f : X → Y) (xs : List X) → list_any test (map f xs) ≡ list_any (λ x. test (f x)) xs
list_any-map test f [] = refl
list_any-map test f (x ∷ xs) = ap (λ b. test (f x) || b) (list_any-map test f xs)

-- What is asked of the places of the fields is asked of the fields.
pub any_of_fields : (test : List ℕ × List ℕ → Bool) (w : List ℕ) (headers : List HeaderSpan) (count : ℕ) (fields : List Field)
    → AreFieldsAt w headers count fields
    → list_any test (map (header_bytes w) (take count headers)) ≡ list_any (λ (f : Field). test (name_and_value f)) fields
any_of_fields test w headers count fields e = ap (list_any test) e ∙ list_any-map test name_and_value fields

-- There are as many fields as places were written.
pub count_of_fields : (w : List ℕ) (headers : List HeaderSpan) (count : ℕ) (fields : List Field)
    → AreFieldsAt w headers count fields → count ≤ length headers → length fields ≡ count
count_of_fields w headers count fields e h =
    omega (arith, ap length e, length-map (take count headers) (header_bytes w), length-map fields name_and_value, length-take-le count headers h)

-- ---- what a head is judged to be

pub judged_refused : (spans : RequestSpans) (h : RequestHead) → announces h ≡ true → Bad 400 ≡ judged spans h
judged_refused spans h e =
    sym (ap (λ b. cond b (Bad 400) (Whole record { method = spans.method; target = spans.path; closes = closes h; length = spans.len })) e)

pub judged_answered : (spans : RequestSpans) (h : RequestHead) (close : Bool) → announces h ≡ false → close ≡ closes h
    → Whole record { method = spans.method; target = spans.path; closes = close; length = spans.len } ≡ judged spans h
judged_answered spans h close e same =
    ap (λ b. Whole record { method = spans.method; target = spans.path; closes = b; length = spans.len }) same
    ∙ sym (ap (λ b. cond b (Bad 400) (Whole record { method = spans.method; target = spans.path; closes = closes h; length = spans.len })) e)

-- version 1.0 closes
pub closes_old : (h : RequestHead) → h.minor ≡ 0 → true ≡ closes h
closes_old h e = sym (ap (λ b. b || list_any (λ (f : Field). asks_close (name_and_value f)) h.fields) (eq-eqb h.minor 0 e))

-- a later version closes where a field asks for it
pub closes_new : (h : RequestHead) (b : Bool) → (h.minor ≡ 0 → ⊥) → b ≡ list_any (λ (f : Field). asks_close (name_and_value f)) h.fields → b ≡ closes h
closes_new h b ne e =
    elim (eqb_tells h.minor 0) [
      | inl (t, same) ↦ absurd (ne same)
      | inr (t, other) ↦ e ∙ sym (ap (λ x. x || list_any (λ (f : Field). asks_close (name_and_value f)) h.fields) t)
    ]

-- The parts of a slice within the first bytes.
slice_in_window : (rest w : List ℕ) (a b : ℕ) → w ≡ take head_limit rest → a ≤ b → b ≤ length w → slice_range rest a b ≡ slice_range w a b
slice_in_window rest w a b window ordered within =
    let text : rest ≡ w ++ drop head_limit rest =
    sym (take-append-drop head_limit rest) ∙ ap (λ (v : List ℕ). v ++ drop head_limit rest) (sym window) in
    let longer : b - a ≤ length (drop a w) = omega (arith, length-drop a w) in
    ap (λ (v : List ℕ). take (b - a) (drop a v)) text
    ∙ ap (take (b - a)) (drop-append-le a w (drop head_limit rest) (omega arith))
    ∙ take-append-le (b - a) (drop a w) (drop head_limit rest) longer

head_at : (rest w : List ℕ) (headers : List HeaderSpan) (spans : RequestSpans) (h : RequestHead) (b : Bool) → w ≡ take head_limit rest
    → length headers ≤ field_limit → IsRequestWithin w headers spans → IsRequestAt w headers spans h → announces h ≡ b
    → IfHead (cond b (Bad 400) (Whole record { method = spans.method; target = spans.path; closes = closes h; length = spans.len })) (IsHeadAt rest)
head_at rest w headers spans h true window room within r e = tt
head_at rest w headers spans h false window room within r e = record {
  tree = h;
  whole = whole_in_window rest w h spans.len window r.reads r.len;
  good = record {
    few = omega (arith, count_of_fields w headers spans.headers h.fields r.fields within.section.count_fits, within.section.count_fits);
    bodiless = e;
  };
  method =
      slice_in_window rest w spans.method.start spans.method.end window within.method.0 (omega (arith, within.method.1, within.section.len_fits))
      ∙ r.method;
  target =
      slice_in_window rest w spans.path.start spans.path.end window within.path.0 (omega (arith, within.path.1, within.section.len_fits))
      ∙ r.path;
  close = refl;
}

-- What a whole head without a body is judged to be is that head.
pub judged_head : (rest w : List ℕ) (headers : List HeaderSpan) (spans : RequestSpans) (h : RequestHead) (v : Verdict) → w ≡ take head_limit rest
    → length headers ≤ field_limit → IsRequestWithin w headers spans → IsRequestAt w headers spans h → v ≡ judged spans h → IfHead v (IsHeadAt rest)
judged_head rest w headers spans h v window room within r e =
    let P : Verdict → Type 0 = λ u. IfHead u (IsHeadAt rest) in
    subst P (sym e) (head_at rest w headers spans h (announces h) window room within r refl)

bad_at : (rest w : List ℕ) (headers : List HeaderSpan) (spans : RequestSpans) (h : RequestHead) (b : Bool) → w ≡ take head_limit rest
    → IsRequestAt w headers spans h → announces h ≡ b
    → IfStatus (cond b (Bad 400) (Whole record { method = spans.method; target = spans.path; closes = closes h; length = spans.len })) (IsBad rest)
bad_at rest w headers spans h false window r e = tt
bad_at rest w headers spans h true window r e = inl (
  refl,
  inr record { head = h; tail = drop spans.len rest; whole = whole_in_window rest w h spans.len window r.reads r.len; body = e },
)

-- A head that announces a body is bad.
pub judged_bad : (rest w : List ℕ) (headers : List HeaderSpan) (spans : RequestSpans) (h : RequestHead) (v : Verdict) → w ≡ take head_limit rest
    → IsRequestAt w headers spans h → v ≡ judged spans h → IfStatus v (IsBad rest)
judged_bad rest w headers spans h v window r e =
    let P : Verdict → Type 0 = λ u. IfStatus u (IsBad rest) in
    subst P (sym e) (bad_at rest w headers spans h (announces h) window r refl)

-- A good head is judged to be one.
pub judged_good : (spans : RequestSpans) (h : RequestHead) (v : Verdict) → IsGood h → v ≡ judged spans h → IsHead v
judged_good spans h v good e =
    subst IsHead (judged_answered spans h (closes h) good.bodiless refl ∙ sym e) tt
