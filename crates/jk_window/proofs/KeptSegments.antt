-- Headers without the segments that tell lengths say the same of everything else.
use Rattle.std.proofs.Common.{◌≡◌, ℕ, ◌≤◌, Bool, true, false, not, cond, List, [], ◌∷◌, ◌++◌, length, map, filter, refl, sym, ap, ◌∙◌, subst}
use Rattle.std.specs.List.{flat_map, range_with_len, AllByRecursion}
use Rattle.std.proofs.lemmas.Bool.{true≢false}
use Rattle.jk_marks.specs.declared.head.Heading.{Heading}
use Rattle.jk_marks.specs.declared.siz.Siz.{Siz}
use Rattle.jk_marks.specs.declared.segments.Cod.{Cod}
use Rattle.jk_marks.specs.declared.segments.CodingStyle.{CodingStyle}
use Rattle.jk_marks.specs.Segments.{Segment, CodSegment, CocSegment, QcdSegment, QccSegment, Passed, Alone, StepSizes, coding_in, quantisation_in, style_in, steps_in, cods, qcds, cocs_of, qccs_of, quantisation_of, IsSegment, AreSegments}
use Rattle.jk_marks.specs.Codestream.{IsMain, first_given, no_coding, no_quantisation}
use Rattle.jk_marks.specs.Copying.{is_passed_as, kept_segments}
use Rattle.jk_params.specs.Coding.{coding_of, codings_of, coding_with}
use Rattle.jk_params.specs.Headers.{cod_for}

-- ---- what is given

-- what is passed over gives nothing
passed_none : {X : Type 0} (f : Segment → List X) → ((k : ℕ) (bytes : List ℕ) → f (Passed k bytes) ≡ []) → (m : ℕ) (s : Segment) → is_passed_as m s ≡ true → f s ≡ []
passed_none f none m (CodSegment c) e = absurd (true≢false (sym e))
passed_none f none m (CocSegment i k) e = absurd (true≢false (sym e))
passed_none f none m (QcdSegment q) e = absurd (true≢false (sym e))
passed_none f none m (QccSegment i q) e = absurd (true≢false (sym e))
passed_none f none m (Passed k bytes) e = none k bytes
passed_none f none m (Alone k) e = absurd (true≢false (sym e))

given_same : {X : Type 0} (f : Segment → List X) → ((k : ℕ) (bytes : List ℕ) → f (Passed k bytes) ≡ []) → (m : ℕ) (ss : List Segment) → flat_map f (kept_segments m ss) ≡ flat_map f ss
given_same f none m [] = refl
given_same {X} f none m (s ∷ ss) = by (is_passed_as m s) refl (given_same f none m ss)
  where
    by : (b : Bool) → is_passed_as m s ≡ b → flat_map f (kept_segments m ss) ≡ flat_map f ss → flat_map f (cond (not b) (s ∷ kept_segments m ss) (kept_segments m ss)) ≡ f s ++ flat_map f ss
    by true e more = more ∙ sym (ap (λ (xs : List X). xs ++ flat_map f ss) (passed_none f none m s e))
    by false e more = ap (λ (xs : List X). f s ++ xs) more

pub cods_same : (m : ℕ) (ss : List Segment) → cods (kept_segments m ss) ≡ cods ss
cods_same m ss = given_same coding_in (λ k bytes. refl) m ss

pub qcds_same : (m : ℕ) (ss : List Segment) → qcds (kept_segments m ss) ≡ qcds ss
qcds_same m ss = given_same quantisation_in (λ k bytes. refl) m ss

pub cocs_same : (m i : ℕ) (ss : List Segment) → cocs_of i (kept_segments m ss) ≡ cocs_of i ss
cocs_same m i ss = given_same (style_in i) (λ k bytes. refl) m ss

pub qccs_same : (m i : ℕ) (ss : List Segment) → qccs_of i (kept_segments m ss) ≡ qccs_of i ss
qccs_same m i ss = given_same (steps_in i) (λ k bytes. refl) m ss

-- ---- headers

all_filtered : {X : Type 0} (P : X → Type 0) (q : X → Bool) (xs : List X) → AllByRecursion P xs → AllByRecursion P (filter q xs)
all_filtered P q [] all = tt
all_filtered {X} P q (x ∷ xs) all = by (q x) (all_filtered P q xs all.1)
  where
    by : (b : Bool) → AllByRecursion P (filter q xs) → AllByRecursion P (cond b (x ∷ filter q xs) (filter q xs))
    by true more = (all.0, more)
    by false more = more

pub segments_kept : (heading : Heading) (n m : ℕ) (ss : List Segment) → AreSegments heading n ss → AreSegments heading n (kept_segments m ss)
segments_kept heading n m ss are = record {
  each = all_filtered (IsSegment heading n) (λ s. not (is_passed_as m s)) ss are.each;
  one_coding = subst (λ (xs : List Cod). length xs ≤ 1) (sym (cods_same m ss)) are.one_coding;
  one_quantisation = subst (λ (xs : List StepSizes). length xs ≤ 1) (sym (qcds_same m ss)) are.one_quantisation;
  one_style = λ i. subst (λ (xs : List CodingStyle). length xs ≤ 1) (sym (cocs_same m i ss)) (are.one_style i);
  one_steps = λ i. subst (λ (xs : List StepSizes). length xs ≤ 1) (sym (qccs_same m i ss)) (are.one_steps i);
}

pub main_kept : (siz : Siz) (m : ℕ) (ss : List Segment) → IsMain siz ss → IsMain siz (kept_segments m ss)
main_kept siz m ss is = record {
  size = is.size;
  well_formed = segments_kept _ siz.components m ss is.well_formed;
  one_coding = ap (λ (xs : List Cod). length xs) (cods_same m ss) ∙ is.one_coding;
  one_quantisation = ap (λ (xs : List StepSizes). length xs) (qcds_same m ss) ∙ is.one_quantisation;
}

-- ---- codings

pub cod_same : (m k : ℕ) (main head : List Segment) → cod_for (kept_segments m main) (kept_segments k head) ≡ cod_for main head
cod_same m k main head = λ i. first_given no_coding (cods_same k head i ++ cods_same m main i)

pub coding_same : (m k : ℕ) (main head : List Segment) (c : ℕ) → coding_of (kept_segments m main) (kept_segments k head) c ≡ coding_of main head c
coding_same m k main head c = λ i. coding_with
    (first_given no_coding.style (cocs_same k c head i ++ (map (λ x. x.style) (cods_same k head i) ++ (cocs_same m c main i ++ map (λ x. x.style) (cods_same m main i)))))
    (first_given no_quantisation (map quantisation_of (qccs_same k c head i ++ (qcds_same k head i ++ (qccs_same m c main i ++ qcds_same m main i)))))

pub codings_same : (m k components : ℕ) (main head : List Segment) → codings_of components (kept_segments m main) (kept_segments k head) ≡ codings_of components main head
codings_same m k components main head = mapped (range_with_len 0 components)
  where
    mapped : (xs : List ℕ) → map (coding_of (kept_segments m main) (kept_segments k head)) xs ≡ map (coding_of main head) xs
    mapped [] = refl
    mapped (x ∷ xs) = λ i. coding_same m k main head x i ∷ mapped xs i
