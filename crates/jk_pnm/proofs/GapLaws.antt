-- Gaps: what is passed is whitespace and comments, and whitespace and comments are passed.
use Rattle.std.proofs.Common.{◌≡◌, ℕ, ◌<◌, ◌≤◌, Bool, true, false, not, cond, eqb, leb, ◌≢◌, inl, inr, List, [], ◌∷◌, ◌++◌, length, Ok, refl, sym, ap, ◌∙◌, append_assoc, length-append, arith}
use Rattle.std.specs.List.{AllByRecursion}
use Rattle.std.specs.Char.{is_ascii_digit}
use Rattle.std.proofs.lemmas.Bool.{eqb-true, eqb-false, ne_eqb, or_cases, cases_Bool, and_left, and_parts, leb-true, lt-leb}
use Rattle.jk_math.specs.Steps.{bind_then, refuse_then, ok_is}
use Rattle.jk_math.specs.declared.fault.Fault.TheVariants.{BadPnm}
use Rattle.jk_pnm.specs.Pnm.{is_space, is_line_end, Separator, Space, Comment, IsSeparator, gap_text, IsGap}
use Rattle.jk_pnm.specs.Reading.{after_gap, gap_at}

-- the bytes are pieces and the rest
pub record Outside (bytes rest : List ℕ) : Type 0 where
  pub pieces : List Separator
  pub text : bytes ≡ gap_text pieces ++ rest
  pub each : AllByRecursion IsSeparator pieces

-- the bytes are the end of a comment, pieces and the rest
record Inside (bytes rest : List ℕ) : Type 0 where
  comment : List ℕ
  end : ℕ
  pieces : List Separator
  text : bytes ≡ comment ++ (end ∷ (gap_text pieces ++ rest))
  plain : AllByRecursion (λ c. is_line_end c ≡ false) comment
  ends : is_line_end end ≡ true
  each : AllByRecursion IsSeparator pieces

abbrev Told : Bool → List ℕ → List ℕ → Type 0
Told true bytes rest = Inside bytes rest
Told false bytes rest = Outside bytes rest

inside_step : (ends : Bool) (c : ℕ) (cs rest : List ℕ) → is_line_end c ≡ ends → after_gap (not ends) cs ≡ Ok rest → ((k : Bool) → after_gap k cs ≡ Ok rest → Told k cs rest) → Inside (c ∷ cs) rest
inside_step true c cs rest is e go =
    let o = go false e in
    record { comment = []; end = c; pieces = o.pieces; text = ap (λ (ys : List ℕ). c ∷ ys) o.text; plain = tt; ends = is; each = o.each }
inside_step false c cs rest is e go =
    let o = go true e in
    record { comment = c ∷ o.comment; end = o.end; pieces = o.pieces; text = ap (λ (ys : List ℕ). c ∷ ys) o.text; plain = (is, o.plain); ends = o.ends; each = o.each }

-- a comment in front of pieces
comment_text : (comment : List ℕ) (end : ℕ) (gap rest : List ℕ) → comment ++ (end ∷ (gap ++ rest)) ≡ ((comment ++ (end ∷ [])) ++ gap) ++ rest
comment_text comment end gap rest = sym (append_assoc (comment ++ (end ∷ [])) gap rest ∙ append_assoc comment (end ∷ []) (gap ++ rest))

outside_step : (hash space : Bool) (c : ℕ) (cs rest : List ℕ) → eqb c 35 ≡ hash → is_space c ≡ space
    → cond hash (after_gap true cs) (cond space (after_gap false cs) (Ok (c ∷ cs))) ≡ Ok rest → ((k : Bool) → after_gap k cs ≡ Ok rest → Told k cs rest) → Outside (c ∷ cs) rest
outside_step true space c cs rest is-hash is e go =
    let o = go true e in
    record {
      pieces = Comment o.comment o.end ∷ o.pieces;
      text = ap (λ (n : ℕ). n ∷ cs) (eqb-true c 35 is-hash) ∙ ap (λ (ys : List ℕ). 35 ∷ ys) (o.text ∙ comment_text o.comment o.end (gap_text o.pieces) rest);
      each = ((o.plain, o.ends), o.each);
    }
outside_step false true c cs rest is-hash is e go =
    let o = go false e in
    record { pieces = Space c ∷ o.pieces; text = ap (λ (ys : List ℕ). c ∷ ys) o.text; each = (is, o.each) }
outside_step false false c cs rest is-hash is e go = record { pieces = []; text = ok_is (c ∷ cs) rest e; each = tt }

gap_told : (bytes : List ℕ) (comment : Bool) (rest : List ℕ) → after_gap comment bytes ≡ Ok rest → Told comment bytes rest
unfolding after_gap
gap_told [] true rest e = absurd cc
gap_told [] false rest e = absurd cc
gap_told (c ∷ cs) true rest e = inside_step (is_line_end c) c cs rest refl e (λ k f. gap_told cs k rest f)
gap_told (c ∷ cs) false rest e = outside_step (eqb c 35) (is_space c) c cs rest refl refl e (λ k f. gap_told cs k rest f)

some_pieces : (pieces : List Separator) (bytes rest : List ℕ) → bytes ≡ gap_text pieces ++ rest → eqb (length rest) (length bytes) ≡ false → 0 < length pieces
some_pieces [] bytes rest text other = absurd (eqb-false _ _ other (ap (λ (x : List ℕ). length x) (sym text)))
some_pieces (p ∷ ps) bytes rest text other = omega arith

-- a gap and the rest
pub record GapTold (bytes rest : List ℕ) : Type 0 where
  pub pieces : List Separator
  pub text : bytes ≡ gap_text pieces ++ rest
  pub gap : IsGap pieces

pub gap_found : (bytes rest : List ℕ) → gap_at bytes ≡ Ok rest → GapTold bytes rest
unfolding gap_at
gap_found bytes rest e =
    bind_then (after_gap false bytes) _ rest e (λ r s e.
    refuse_then (eqb (length r) (length bytes)) BadPnm _ rest e (λ other e.
    let r-is : r ≡ rest = ok_is r rest e in
    let o = gap_told bytes false rest (s ∙ ap Ok r-is) in
    let differs : eqb (length rest) (length bytes) ≡ false = ap (λ (x : List ℕ). eqb (length x) (length bytes)) (sym r-is) ∙ other in
    record { pieces = o.pieces; text = o.text; gap = record { some = some_pieces o.pieces bytes rest o.text differs; each = o.each } }
    ))

-- of which bytes whitespace is
is_one_of : (c : ℕ) → is_space c ≡ true → (c < 33) × (c ≢ 35)
is_one_of c e =
    elim (or_cases (eqb c 32) _ e) [
      | inl a ↦ let v = eqb-true c 32 a in (omega arith, omega arith)
      | inr e ↦ elim (or_cases (eqb c 9) _ e) [
        | inl a ↦ let v = eqb-true c 9 a in (omega arith, omega arith)
        | inr e ↦ elim (or_cases (eqb c 10) _ e) [
          | inl a ↦ let v = eqb-true c 10 a in (omega arith, omega arith)
          | inr e ↦ elim (or_cases (eqb c 11) _ e) [
            | inl a ↦ let v = eqb-true c 11 a in (omega arith, omega arith)
            | inr e ↦ elim (or_cases (eqb c 12) _ e) [
              | inl a ↦ let v = eqb-true c 12 a in (omega arith, omega arith)
              | inr a ↦ let v = eqb-true c 13 a in (omega arith, omega arith)
            ]
          ]
        ]
      ]
    ]

pub space_is_no_digit : (c : ℕ) → is_space c ≡ true → is_ascii_digit c ≡ false
space_is_no_digit c e = let few = is_one_of c e in and_left (leb 48 c) (leb c 57) (lt-leb 48 c (omega (arith, few.0)))

pub digit_is_no_space : (c : ℕ) → is_ascii_digit c ≡ true → (eqb c 35 ≡ false) × (is_space c ≡ false)
digit_is_no_space c e =
    let both = and_parts (leb 48 c) (leb c 57) e in
    let low : 48 ≤ c = leb-true 48 c both.0 in (
      ne_eqb c 35 (omega arith),
      elim (cases_Bool (is_space c)) [
        | inl yes_space ↦ absurd (omega (arith, (is_one_of c yes_space).0))
        | inr other ↦ other
      ],
    )

comment_step : (c : ℕ) (cs : List ℕ) → after_gap true (c ∷ cs) ≡ after_gap (not (is_line_end c)) cs
unfolding after_gap
comment_step c cs = refl

step : (c : ℕ) (cs : List ℕ) → after_gap false (c ∷ cs) ≡ cond (eqb c 35) (after_gap true cs) (cond (is_space c) (after_gap false cs) (Ok (c ∷ cs)))
unfolding after_gap
step c cs = refl

comment_again : (comment : List ℕ) (end : ℕ) (rest : List ℕ) → AllByRecursion (λ c. is_line_end c ≡ false) comment → is_line_end end ≡ true → after_gap true (comment ++ (end ∷ rest)) ≡ after_gap false rest
comment_again [] end rest plain ends = comment_step end rest ∙ ap (λ b. after_gap (not b) rest) ends
comment_again (c ∷ comment) end rest plain ends =
    let more = comment ++ (end ∷ rest) in
    comment_step c more ∙ ap (λ b. after_gap (not b) more) plain.0 ∙ comment_again comment end rest plain.1 ends

no_hash : (c : ℕ) → is_space c ≡ true → eqb c 35 ≡ false
no_hash c space = ne_eqb c 35 (is_one_of c space).1

after_again : (pieces : List Separator) (c : ℕ) (rest : List ℕ) → AllByRecursion IsSeparator pieces → eqb c 35 ≡ false → is_space c ≡ false → after_gap false (gap_text pieces ++ (c ∷ rest)) ≡ Ok (c ∷ rest)
after_again [] c rest each no-hash no-space = step c rest ∙ rw (no-hash, no-space) refl
after_again (Space s ∷ ps) c rest each no-hash no-space =
    let more = gap_text ps ++ (c ∷ rest) in
    let space : is_space s ≡ true = each.0 in
    let other : eqb s 35 ≡ false = no_hash s space in
    step s more ∙ rw (other, space) (after_again ps c rest each.1 no-hash no-space)
after_again (Comment comment end ∷ ps) c rest each no-hash no-space =
    let more = gap_text ps ++ (c ∷ rest) in
    step 35 (((comment ++ (end ∷ [])) ++ gap_text ps) ++ (c ∷ rest)) ∙ ap (after_gap true) (sym (comment_text comment end (gap_text ps) (c ∷ rest))) ∙ comment_again comment end more each.0.0 each.0.1 ∙ after_again ps c rest each.1 no-hash no-space

some_bytes : (pieces : List Separator) → 0 < length pieces → 0 < length (gap_text pieces)
some_bytes [] some = absurd (omega arith)
some_bytes (Space s ∷ ps) some = omega arith
some_bytes (Comment comment end ∷ ps) some = omega arith

pub gap_again : (pieces : List Separator) (c : ℕ) (rest : List ℕ) → IsGap pieces → eqb c 35 ≡ false → is_space c ≡ false → gap_at (gap_text pieces ++ (c ∷ rest)) ≡ Ok (c ∷ rest)
unfolding gap_at
gap_again pieces c rest is no-hash no-space =
    let bytes = gap_text pieces ++ (c ∷ rest) in
    let passed = after_again pieces c rest is.each no-hash no-space in
    let some = some_bytes pieces is.some in
    let longer : eqb (length (c ∷ rest)) (length bytes) ≡ false = ne_eqb _ _ (omega (arith, length-append (gap_text pieces) (c ∷ rest), some)) in
    rw (passed, longer) refl

-- the byte with which a gap begins
pub record Begins (bytes : List ℕ) : Type 0 where
  pub first : ℕ
  pub others : List ℕ
  pub text : bytes ≡ first ∷ others
  pub no_digit : is_ascii_digit first ≡ false

pub gap_begins : (pieces : List Separator) (rest : List ℕ) → IsGap pieces → Begins (gap_text pieces ++ rest)
gap_begins [] rest is = absurd (omega (arith, is.some))
gap_begins (Space s ∷ ps) rest is = record { first = s; others = gap_text ps ++ rest; text = refl; no_digit = space_is_no_digit s is.each.0 }
gap_begins (Comment comment end ∷ ps) rest is = record { first = 35; others = ((comment ++ (end ∷ [])) ++ gap_text ps) ++ rest; text = refl; no_digit = refl }
