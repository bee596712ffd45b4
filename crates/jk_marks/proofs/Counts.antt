-- A header's segments are fresh one after another exactly where there are no two of a kind, and what they say is what the lists by kind say.
use Rattle.std.proofs.Common.{◌≡◌, ℕ, ◌<◌, ◌≤◌, Bool, true, false, cond, eqb, List, [], ◌∷◌, ◌++◌, length, map, set, get_or, Option, None, Some, refl, sym, ap, subst, ◌∙◌, inl, inr, lit≤, arith}
use Rattle.std.specs.Prelude.{is_some}
use Rattle.std.proofs.lemmas.Bool.{true≢false, eqb-true, eqb-false, eq-eqb, cases_Bool}
use Rattle.std.proofs.lemmas.List.{get_or-set_same, get_or-set_other, length-set}
use Rattle.jk_marks.specs.declared.segments.CodingStyle.{CodingStyle}
use Rattle.jk_marks.specs.declared.segments.Quantisation.{Quantisation}
use Rattle.jk_marks.specs.declared.head.TileHead.{TileHead}
use Rattle.jk_marks.specs.Segments.{Segment, CodSegment, CocSegment, QcdSegment, QccSegment, Passed, Alone, StepSizes, cods, qcds, cocs_of, qccs_of, quantisation_of}
use Rattle.jk_marks.specs.Codestream.{first}
use Rattle.jk_marks.proofs.HeadLaws.{with_segments, AreFresh}

-- what there is of a kind, with others of the kind behind it
abbrev pub before : {X : Type 0} → Option X → List X → Option X
before None xs = first xs
before (Some x) xs = Some x

-- one at most, with what there was before
abbrev pub Once : {X Y : Type 0} → Option X → List Y → Type 0
Once None xs = length xs ≤ 1
Once (Some x) xs = length xs ≡ 0

-- no value
abbrev pub none_of : (Y : Type 0) → List Y
none_of Y = []

once_none : {X : Type 0} (Y : Type 0) (o : Option X) → Once o (none_of Y)
once_none Y None = lit≤ tt
once_none Y (Some x) = refl

before_none : {X : Type 0} (o : Option X) → o ≡ before o []
before_none None = refl
before_none (Some x) = refl

none_is : {X : Type 0} (o : Option X) → is_some o ≡ false → o ≡ None
none_is None e = refl
none_is (Some x) e = absurd (true≢false e)

is_none_from : {X Y : Type 0} (o : Option X) (x : Y) (xs : List Y) → Once o (x ∷ xs) → is_some o ≡ false
is_none_from None x xs once = refl
is_none_from (Some y) x xs once = absurd (omega (arith, once))

none_left : {X Y : Type 0} (o : Option X) (x : Y) (xs : List Y) → Once o (x ∷ xs) → length xs ≡ 0
none_left None x xs once = omega (arith, once)
none_left (Some y) x xs once = absurd (omega (arith, once))

once_first : {X Y : Type 0} (o : Option X) (x : Y) (xs : List Y) → is_some o ≡ false → length xs ≡ 0 → Once o (x ∷ xs)
once_first o x xs none len = subst (λ (p : Option _). Once p (x ∷ xs)) (sym (none_is o none)) (omega (arith, len))

before_first : {X : Type 0} (o : Option X) (x : X) (xs : List X) → is_some o ≡ false → Some x ≡ before o (x ∷ xs)
before_first o x xs none = sym (ap (λ p. before p (x ∷ xs)) (none_is o none))

-- the values that belong to component i
abbrev pub entries : {X : Type 0} → ℕ → List (ℕ × X) → List X
entries i [] = []
entries i (p ∷ ps) = cond (eqb i p.0) (p.1 ∷ []) [] ++ entries i ps

abbrev pub put_all : {X : Type 0} → List (Option X) → List (ℕ × X) → List (Option X)
put_all xs [] = xs
put_all xs (p ∷ ps) = put_all (set xs p.0 (Some p.1)) ps

abbrev pub FreshAll : {X : Type 0} → List (Option X) → List (ℕ × X) → Type 0
FreshAll xs [] = Unit {0}
FreshAll xs (p ∷ ps) = (is_some (get_or xs p.0 None) ≡ false) × FreshAll (set xs p.0 (Some p.1)) ps

abbrev pub AreBelow : {X : Type 0} → ℕ → List (ℕ × X) → Type 0
AreBelow n [] = Unit {0}
AreBelow n (p ∷ ps) = (p.0 < n) × AreBelow n ps

-- the entry at a place after one was put
put_at : {X : Type 0} (xs : List (Option X)) (j : ℕ) (x : X) (i : ℕ) → j < length xs → eqb i j ≡ true → get_or (set xs j (Some x)) i None ≡ Some x
put_at xs j x i lt e = ap (λ k. get_or (set xs j (Some x)) k None) (eqb-true i j e) ∙ get_or-set_same xs j (Some x) None lt

put_beside : {X : Type 0} (xs : List (Option X)) (j : ℕ) (x : X) (i : ℕ) → eqb i j ≡ false → get_or (set xs j (Some x)) i None ≡ get_or xs i None
put_beside xs j x i e = get_or-set_other xs j i (Some x) None (eqb-false i j e)

pub length_put : {X : Type 0} (xs : List (Option X)) (ps : List (ℕ × X)) → length (put_all xs ps) ≡ length xs
length_put xs [] = refl
length_put xs (p ∷ ps) = length_put (set xs p.0 (Some p.1)) ps ∙ length-set xs p.0 (Some p.1)

-- what is put where
pub put_entry : {X : Type 0} (ps : List (ℕ × X)) (xs : List (Option X)) (i : ℕ) → FreshAll xs ps → AreBelow (length xs) ps
    → Once (get_or xs i None) (entries i ps) × (get_or (put_all xs ps) i None ≡ before (get_or xs i None) (entries i ps))
put_entry [] xs i fresh below = (once_none _ (get_or xs i None), before_none (get_or xs i None))
put_entry (p ∷ ps) xs i fresh below =
    let ys = set xs p.0 (Some p.1) in
    let len : length ys ≡ length xs = length-set xs p.0 (Some p.1) in
    let rest = put_entry ps ys i fresh.1 (subst (λ n. AreBelow n ps) (sym len) below.1) in
    elim (cases_Bool (eqb i p.0)) [
      | inl same ↦ (
          let o = get_or xs i None in
          let here = put_at xs p.0 p.1 i below.0 same in
          let none : is_some o ≡ false = ap (λ k. is_some (get_or xs k None)) (eqb-true i p.0 same) ∙ fresh.0 in
          let empty : length (entries i ps) ≡ 0 = subst (λ (q : Option _). Once q (entries i ps)) here rest.0 in
          let got : get_or (put_all ys ps) i None ≡ Some p.1 = rest.1 ∙ ap (λ (q : Option _). before q (entries i ps)) here in
          rw same (once_first o p.1 (entries i ps) none empty, got ∙ before_first o p.1 (entries i ps) none))
      | inr other ↦ (
          let same = put_beside xs p.0 p.1 i other in
          rw (other, sym same) rest)
    ]

-- fresh where each is once
pub fresh_from : {X : Type 0} (ps : List (ℕ × X)) (xs : List (Option X)) → AreBelow (length xs) ps → ((i : ℕ) → i < length xs → Once (get_or xs i None) (entries i ps)) → FreshAll xs ps
fresh_from [] xs below once = tt
fresh_from (p ∷ ps) xs below once =
    let ys = set xs p.0 (Some p.1) in
    let len : length ys ≡ length xs = length-set xs p.0 (Some p.1) in
    let same : eqb p.0 p.0 ≡ true = eq-eqb p.0 p.0 refl in
    let here : Once (get_or xs p.0 None) (p.1 ∷ entries p.0 ps) = subst (λ b. Once (get_or xs p.0 None) (cond b (p.1 ∷ []) [] ++ entries p.0 ps)) same (once p.0 below.0) in (
      is_none_from _ p.1 (entries p.0 ps) here,
      fresh_from ps ys (subst (λ n. AreBelow n ps) (sym len) below.1) (λ i lt. elim (cases_Bool (eqb i p.0)) [
        | inl at ↦ (
            let empty : length (entries i ps) ≡ 0 = ap (λ k. length (entries k ps)) (eqb-true i p.0 at) ∙ none_left _ p.1 (entries p.0 ps) here in
            subst (λ (q : Option _). Once q (entries i ps)) (sym (put_at xs p.0 p.1 i below.0 at)) empty)
        | inr other ↦ (
            let kept : Once (get_or xs i None) (entries i ps) = subst (λ b. Once (get_or xs i None) (cond b (p.1 ∷ []) [] ++ entries i ps)) other (once i (omega (arith, lt, len))) in
            subst (λ (q : Option _). Once q (entries i ps)) (sym (put_beside xs p.0 p.1 i other)) kept)
      ]),
    )

-- the segments of components
abbrev pub own_styles : List Segment → List (ℕ × CodingStyle)
own_styles [] = []
own_styles (CodSegment c ∷ ss) = own_styles ss
own_styles (CocSegment i k ∷ ss) = (i, k) ∷ own_styles ss
own_styles (QcdSegment q ∷ ss) = own_styles ss
own_styles (QccSegment i q ∷ ss) = own_styles ss
own_styles (Passed m bytes ∷ ss) = own_styles ss
own_styles (Alone m ∷ ss) = own_styles ss

abbrev pub own_quantisations : List Segment → List (ℕ × Quantisation)
own_quantisations [] = []
own_quantisations (CodSegment c ∷ ss) = own_quantisations ss
own_quantisations (CocSegment i k ∷ ss) = own_quantisations ss
own_quantisations (QcdSegment q ∷ ss) = own_quantisations ss
own_quantisations (QccSegment i q ∷ ss) = (i, quantisation_of q) ∷ own_quantisations ss
own_quantisations (Passed m bytes ∷ ss) = own_quantisations ss
own_quantisations (Alone m ∷ ss) = own_quantisations ss

pub styles_entries : (i : ℕ) (ss : List Segment) → cocs_of i ss ≡ entries i (own_styles ss)
styles_entries i [] = refl
styles_entries i (CodSegment c ∷ ss) = styles_entries i ss
styles_entries i (CocSegment j k ∷ ss) = ap (λ (xs : List CodingStyle). cond (eqb i j) (k ∷ []) [] ++ xs) (styles_entries i ss)
styles_entries i (QcdSegment q ∷ ss) = styles_entries i ss
styles_entries i (QccSegment j q ∷ ss) = styles_entries i ss
styles_entries i (Passed m bytes ∷ ss) = styles_entries i ss
styles_entries i (Alone m ∷ ss) = styles_entries i ss

mapped : (b : Bool) (q : StepSizes) (xs : List StepSizes) → map quantisation_of (cond b (q ∷ []) [] ++ xs) ≡ cond b (quantisation_of q ∷ []) [] ++ map quantisation_of xs
mapped true q xs = refl
mapped false q xs = refl

pub steps_entries : (i : ℕ) (ss : List Segment) → map quantisation_of (qccs_of i ss) ≡ entries i (own_quantisations ss)
steps_entries i [] = refl
steps_entries i (CodSegment c ∷ ss) = steps_entries i ss
steps_entries i (CocSegment j k ∷ ss) = steps_entries i ss
steps_entries i (QcdSegment q ∷ ss) = steps_entries i ss
steps_entries i (QccSegment j q ∷ ss) =
    mapped (eqb i j) q (qccs_of i ss) ∙ ap (λ (xs : List Quantisation). cond (eqb i j) (quantisation_of q ∷ []) [] ++ xs) (steps_entries i ss)
steps_entries i (Passed m bytes ∷ ss) = steps_entries i ss
steps_entries i (Alone m ∷ ss) = steps_entries i ss

-- what is fresh, kind by kind
pub record Parts (h : TileHead) (ss : List Segment) : Type 0 where
  pub cod : Once h.cod (cods ss)
  pub qcd : Once h.qcd (qcds ss)
  pub coc : FreshAll h.coc (own_styles ss)
  pub qcc : FreshAll h.qcc (own_quantisations ss)

pub parts_of : (h : TileHead) (ss : List Segment) → AreFresh h ss → Parts h ss
parts_of h [] fresh = record { cod = once_none _ h.cod; qcd = once_none _ h.qcd; coc = tt; qcc = tt }
parts_of h (CodSegment c ∷ ss) fresh =
    let r = parts_of (record h { cod = Some c }) ss fresh.1 in
    record { cod = once_first h.cod c (cods ss) fresh.0 r.cod; qcd = r.qcd; coc = r.coc; qcc = r.qcc }
parts_of h (CocSegment i k ∷ ss) fresh =
    let r = parts_of (record h { coc = set h.coc i (Some k) }) ss fresh.1 in
    record { cod = r.cod; qcd = r.qcd; coc = (fresh.0, r.coc); qcc = r.qcc }
parts_of h (QcdSegment q ∷ ss) fresh =
    let r = parts_of (record h { qcd = Some (quantisation_of q) }) ss fresh.1 in
    record { cod = r.cod; qcd = once_first h.qcd q (qcds ss) fresh.0 r.qcd; coc = r.coc; qcc = r.qcc }
parts_of h (QccSegment i q ∷ ss) fresh =
    let r = parts_of (record h { qcc = set h.qcc i (Some (quantisation_of q)) }) ss fresh.1 in
    record { cod = r.cod; qcd = r.qcd; coc = r.coc; qcc = (fresh.0, r.qcc) }
parts_of h (Passed m bytes ∷ ss) fresh = let r = parts_of h ss fresh.1 in record { cod = r.cod; qcd = r.qcd; coc = r.coc; qcc = r.qcc }
parts_of h (Alone m ∷ ss) fresh = let r = parts_of h ss fresh.1 in record { cod = r.cod; qcd = r.qcd; coc = r.coc; qcc = r.qcc }

pub fresh_of : (h : TileHead) (ss : List Segment) → Parts h ss → AreFresh h ss
fresh_of h [] p = tt
fresh_of h (CodSegment c ∷ ss) p =
    (is_none_from h.cod c (cods ss) p.cod, fresh_of (record h { cod = Some c }) ss (record { cod = none_left h.cod c (cods ss) p.cod; qcd = p.qcd; coc = p.coc; qcc = p.qcc }))
fresh_of h (CocSegment i k ∷ ss) p = (p.coc.0, fresh_of (record h { coc = set h.coc i (Some k) }) ss (record { cod = p.cod; qcd = p.qcd; coc = p.coc.1; qcc = p.qcc }))
fresh_of h (QcdSegment q ∷ ss) p = (
  is_none_from h.qcd q (qcds ss) p.qcd,
  fresh_of (record h { qcd = Some (quantisation_of q) }) ss (record { cod = p.cod; qcd = none_left h.qcd q (qcds ss) p.qcd; coc = p.coc; qcc = p.qcc }),
)
fresh_of h (QccSegment i q ∷ ss) p =
    (p.qcc.0, fresh_of (record h { qcc = set h.qcc i (Some (quantisation_of q)) }) ss (record { cod = p.cod; qcd = p.qcd; coc = p.coc; qcc = p.qcc.1 }))
fresh_of h (Passed m bytes ∷ ss) p = (tt, fresh_of h ss (record { cod = p.cod; qcd = p.qcd; coc = p.coc; qcc = p.qcc }))
fresh_of h (Alone m ∷ ss) p = (tt, fresh_of h ss (record { cod = p.cod; qcd = p.qcd; coc = p.coc; qcc = p.qcc }))

-- what a header has said with segments, kind by kind
pub with_parts : (h : TileHead) (ss : List Segment) → AreFresh h ss → with_segments h ss ≡ record {
  cod = before h.cod (cods ss);
  qcd = before h.qcd (map quantisation_of (qcds ss));
  coc = put_all h.coc (own_styles ss);
  qcc = put_all h.qcc (own_quantisations ss);
}
with_parts h [] fresh = rw (sym (before_none h.cod), sym (before_none h.qcd)) refl
with_parts h (CodSegment c ∷ ss) fresh = with_parts (record h { cod = Some c }) ss fresh.1
    ∙ ap (λ (o : Option _). record { cod = o; qcd = before h.qcd (map quantisation_of (qcds ss)); coc = put_all h.coc (own_styles ss); qcc = put_all h.qcc (own_quantisations ss) })
    (before_first h.cod c (cods ss) fresh.0)
with_parts h (CocSegment i k ∷ ss) fresh = with_parts (record h { coc = set h.coc i (Some k) }) ss fresh.1
with_parts h (QcdSegment q ∷ ss) fresh = with_parts (record h { qcd = Some (quantisation_of q) }) ss fresh.1
    ∙ ap (λ (o : Option _). record { cod = before h.cod (cods ss); qcd = o; coc = put_all h.coc (own_styles ss); qcc = put_all h.qcc (own_quantisations ss) })
    (before_first h.qcd (quantisation_of q) (map quantisation_of (qcds ss)) fresh.0)
with_parts h (QccSegment i q ∷ ss) fresh = with_parts (record h { qcc = set h.qcc i (Some (quantisation_of q)) }) ss fresh.1
with_parts h (Passed m bytes ∷ ss) fresh = with_parts h ss fresh.1
with_parts h (Alone m ∷ ss) fresh = with_parts h ss fresh.1
