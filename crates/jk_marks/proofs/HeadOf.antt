-- What the segments of a header say, from what is fresh one after another, and back.
use Rattle.std.proofs.Common.{◌≡◌, ℕ, zero, suc, ◌≤◌, List, [], ◌∷◌, length, map, get_or, Option, None, refl, sym, ap, subst, ◌∙◌, arith}
use Rattle.std.proofs.lemmas.List.{length-map}
use Rattle.std.specs.List.{AllByRecursion}
use Rattle.jk_marks.specs.declared.segments.CodingStyle.{CodingStyle}
use Rattle.jk_marks.specs.declared.segments.Quantisation.{Quantisation}
use Rattle.jk_marks.specs.declared.head.Heading.{Heading}
use Rattle.jk_marks.specs.Segments.{Segment, CodSegment, CocSegment, QcdSegment, QccSegment, Passed, Alone, IsSegment, AreSegments, cods, qcds, cocs_of, qccs_of, quantisation_of}
use Rattle.jk_marks.specs.Codestream.{first, by_component, head_of}
use Rattle.jk_marks.proofs.HeadLaws.{with_segments, AreFresh}
use Rattle.jk_marks.proofs.Counts.{Once, AreBelow, FreshAll, entries, put_all, own_styles, own_quantisations, styles_entries, steps_entries, put_entry, length_put, fresh_from, parts_of, fresh_of, with_parts}

-- nothing said of any component
abbrev pub nothing : {X : Type 0} → List (Option X)
nothing = None ∷ None ∷ None ∷ None ∷ []

none_at : {X : Type 0} (i : ℕ) → get_or (nothing {X = X}) i None ≡ None
none_at zero = refl
none_at (suc zero) = refl
none_at (suc (suc zero)) = refl
none_at (suc (suc (suc zero))) = refl
none_at (suc (suc (suc (suc i)))) = refl

pub four : {X : Type 0} (d : X) (xs : List X) → length xs ≡ 4 → xs ≡ get_or xs 0 d ∷ get_or xs 1 d ∷ get_or xs 2 d ∷ get_or xs 3 d ∷ []
four d [] e = absurd (omega (arith, e))
four d (a ∷ []) e = absurd (omega (arith, e))
four d (a ∷ b ∷ []) e = absurd (omega (arith, e))
four d (a ∷ b ∷ c ∷ []) e = absurd (omega (arith, e))
four d (a ∷ b ∷ c ∷ x ∷ []) e = refl
four d (a ∷ b ∷ c ∷ x ∷ y ∷ xs) e = absurd (omega (arith, e))

styles_below : (heading : Heading) (n : ℕ) (ss : List Segment) → n ≤ 4 → AllByRecursion (IsSegment heading n) ss → AreBelow 4 (own_styles ss) × AreBelow 4 (own_quantisations ss)
styles_below heading n [] few each = (tt, tt)
styles_below heading n (CodSegment c ∷ ss) few each = styles_below heading n ss few each.1
styles_below heading n (CocSegment i k ∷ ss) few each =
    let below = each.0.1 in
    let r = styles_below heading n ss few each.1 in
    ((omega (arith, below, few), r.0), r.1)
styles_below heading n (QcdSegment q ∷ ss) few each = styles_below heading n ss few each.1
styles_below heading n (QccSegment i q ∷ ss) few each =
    let below = each.0.1 in
    let r = styles_below heading n ss few each.1 in
    (r.0, (omega (arith, below, few), r.1))
styles_below heading n (Passed m bytes ∷ ss) few each = styles_below heading n ss few each.1
styles_below heading n (Alone m ∷ ss) few each = styles_below heading n ss few each.1

one_at : {X : Type 0} (ps : List (ℕ × X)) (i : ℕ) → FreshAll nothing ps → AreBelow 4 ps → length (entries i ps) ≤ 1
one_at ps i fresh below = subst (λ (o : Option _). Once o (entries i ps)) (none_at i) (put_entry ps nothing i fresh below).0

-- what was put for each component
put_four : {X : Type 0} (ps : List (ℕ × X)) → FreshAll nothing ps → AreBelow 4 ps → put_all nothing ps ≡ by_component (λ i. first (entries i ps))
put_four ps fresh below =
    let xs = put_all nothing ps in
    let e0 = (put_entry ps nothing 0 fresh below).1 in
    let e1 = (put_entry ps nothing 1 fresh below).1 in
    let e2 = (put_entry ps nothing 2 fresh below).1 in
    let e3 = (put_entry ps nothing 3 fresh below).1 in
    four None xs (length_put nothing ps)
    ∙ ap (λ (x : Option _). x ∷ get_or xs 1 None ∷ get_or xs 2 None ∷ get_or xs 3 None ∷ []) e0
    ∙ ap (λ (x : Option _). first (entries 0 ps) ∷ x ∷ get_or xs 2 None ∷ get_or xs 3 None ∷ []) e1
    ∙ ap (λ (x : Option _). first (entries 0 ps) ∷ first (entries 1 ps) ∷ x ∷ get_or xs 3 None ∷ []) e2
    ∙ ap (λ (x : Option _). first (entries 0 ps) ∷ first (entries 1 ps) ∷ first (entries 2 ps) ∷ x ∷ []) e3

four_same : {X : Type 0} (f g : ℕ → X) → ((i : ℕ) → f i ≡ g i) → by_component f ≡ by_component g
four_same f g e = rw (e 0, e 1, e 2, e 3) refl

pub segments_are : (heading : Heading) (n : ℕ) (ss : List Segment) → n ≤ 4 → AllByRecursion (IsSegment heading n) ss → AreFresh (head_of []) ss → AreSegments heading n ss
segments_are heading n ss few each fresh =
    let p = parts_of (head_of []) ss fresh in
    let below = styles_below heading n ss few each in
    record {
      each = each;
      one_coding = p.cod;
      one_quantisation = p.qcd;
      one_style = λ i. subst (λ (xs : List CodingStyle). length xs ≤ 1) (sym (styles_entries i ss)) (one_at (own_styles ss) i p.coc below.0);
      one_steps = λ i. (let len : length (map quantisation_of (qccs_of i ss)) ≡ length (qccs_of i ss) = simp length-map in
          let one : length (map quantisation_of (qccs_of i ss)) ≤ 1 = subst (λ (xs : List Quantisation). length xs ≤ 1) (sym (steps_entries i ss)) (one_at (own_quantisations ss) i p.qcc below.1) in
          omega (arith, len, one));
    }

pub segments_fresh : (heading : Heading) (n : ℕ) (ss : List Segment) → n ≤ 4 → AreSegments heading n ss → AreFresh (head_of []) ss
segments_fresh heading n ss few are =
    let below = styles_below heading n ss few are.each in
    fresh_of (head_of []) ss (record {
      cod = are.one_coding;
      qcd = are.one_quantisation;
      coc = fresh_from (own_styles ss) nothing below.0 (λ i lt.
          let one : length (entries i (own_styles ss)) ≤ 1 = subst (λ (xs : List CodingStyle). length xs ≤ 1) (styles_entries i ss) (are.one_style i) in
          subst (λ (o : Option _). Once o (entries i (own_styles ss))) (sym (none_at i)) one);
      qcc = fresh_from (own_quantisations ss) nothing below.1 (λ i lt.
          let len : length (map quantisation_of (qccs_of i ss)) ≡ length (qccs_of i ss) = simp length-map in
          let few : length (qccs_of i ss) ≤ 1 = are.one_steps i in
          let one : length (entries i (own_quantisations ss)) ≤ 1 = subst (λ (xs : List Quantisation). length xs ≤ 1) (steps_entries i ss) (omega (arith, len, few)) in
          subst (λ (o : Option _). Once o (entries i (own_quantisations ss))) (sym (none_at i)) one);
    })

pub segments_say : (heading : Heading) (n : ℕ) (ss : List Segment) → n ≤ 4 → AllByRecursion (IsSegment heading n) ss → AreFresh (head_of []) ss → with_segments (head_of []) ss ≡ head_of ss
segments_say heading n ss few each fresh =
    let p = parts_of (head_of []) ss fresh in
    let below = styles_below heading n ss few each in
    let coc : put_all nothing (own_styles ss) ≡ by_component (λ i. first (cocs_of i ss)) =
    put_four (own_styles ss) p.coc below.0 ∙ four_same _ _ (λ i. ap first (sym (styles_entries i ss))) in
    let qcc : put_all nothing (own_quantisations ss) ≡ by_component (λ i. first (map quantisation_of (qccs_of i ss))) =
    put_four (own_quantisations ss) p.qcc below.1 ∙ four_same _ _ (λ i. ap first (sym (steps_entries i ss))) in
    with_parts (head_of []) ss fresh
    ∙ ap (λ (xs : List (Option CodingStyle)). record { cod = first (cods ss); qcd = first (map quantisation_of (qcds ss)); coc = xs; qcc = put_all nothing (own_quantisations ss) }) coc
    ∙ ap (λ (xs : List (Option Quantisation)). record { cod = first (cods ss); qcd = first (map quantisation_of (qcds ss)); coc = by_component (λ i. first (cocs_of i ss)); qcc = xs }) qcc
