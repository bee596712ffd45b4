-- What can't be the front of a header, whatever follows it: each step of reading one is made alike when more follows.
use Rattle.std.proofs.Common.{◌≡◌, ℕ, ◌+◌, ◌*◌, ◌^◌, ◌<◌, ◌≤◌, ◌-◌, Bool, true, false, not, cond, eqb, leb, ltb, ◌&&◌, ◌||◌, List, [], ◌∷◌, ◌++◌, length, take, drop, get_or, Option, Some, None, Result, Ok, Err, refl, sym, ap, ◌∙◌, length-append, arith}
use Rattle.std.proofs.lemmas.Bool.{eqb-false, ne_eqb, eq-eqb, lt-leb, le-ltb}
use Rattle.std.proofs.lemmas.List.{take_all, length-drop}
use Rattle.std.specs.Prelude.{IfSome}
use Rattle.std.specs.Char.{is_ascii_digit}
use Rattle.jk_math.specs.Steps.{bind_then, refuse_then, ok_is}
use Rattle.std.specs.Result.{is_ok, is_err}
use Rattle.jk_math.specs.Answer.{AnswersExactly}
use Rattle.jk_math.specs.declared.fault.Fault.{Fault}
use Rattle.jk_math.specs.declared.fault.Fault.TheVariants.{BadPnm}
use Rattle.jk_pnm.specs.declared.header.Header.{Header}
use Rattle.jk_pnm.specs.Pnm.{is_space, is_line_end}
use Rattle.jk_pnm.specs.Reading.{magic_at, after_gap, gap_at, digits_at, number_at, field_at, depth_at, header_at}
use Rattle.jk_pnm.specs.Judging.{fields_at}
use Rattle.jk_pnm.proofs.RefusedLaws.{header_bad}

-- ---- gaps

gap_step : (hash space : Bool) (c : ℕ) (cs more rest : List ℕ) → cond hash (after_gap true cs) (cond space (after_gap false cs) (Ok (c ∷ cs))) ≡ Ok rest
    → ((k : Bool) → after_gap k cs ≡ Ok rest → after_gap k (cs ++ more) ≡ Ok (rest ++ more))
    → cond hash (after_gap true (cs ++ more)) (cond space (after_gap false (cs ++ more)) (Ok (c ∷ (cs ++ more)))) ≡ Ok (rest ++ more)
gap_step true space c cs more rest e go = go true e
gap_step false true c cs more rest e go = go false e
gap_step false false c cs more rest e go =
    ap (λ (r : List ℕ). let s : Result (List ℕ) Fault = Ok (r ++ more) in s) (ok_is (c ∷ cs) rest e)

gap_more : (bytes more rest : List ℕ) (comment : Bool) → after_gap comment bytes ≡ Ok rest → after_gap comment (bytes ++ more) ≡ Ok (rest ++ more)
unfolding after_gap
gap_more [] more rest true e = absurd cc
gap_more [] more rest false e = absurd cc
gap_more (c ∷ cs) more rest true e = gap_more cs more rest (not (is_line_end c)) e
gap_more (c ∷ cs) more rest false e = gap_step (eqb c 35) (is_space c) c cs more rest e (λ k f. gap_more cs more rest k f)

longer : (a b more : List ℕ) → length a ≡ length b → length (a ++ more) ≡ length (b ++ more)
longer a b more e = (let x = length-append a more in let y = length-append b more in omega (arith, x, y, e))

shorter : (a b more : List ℕ) → length (a ++ more) ≡ length (b ++ more) → length a ≡ length b
shorter a b more e = (let x = length-append a more in let y = length-append b more in omega (arith, x, y, e))

-- no gap stands there
gap_none : (bytes rest more : List ℕ) → after_gap false bytes ≡ Ok rest → length rest ≡ length bytes → gap_at (bytes ++ more) ≡ Err BadPnm
unfolding gap_at
gap_none bytes rest more e same =
    rw (gap_more bytes more rest false e, eq-eqb (length (rest ++ more)) (length (bytes ++ more)) (longer rest bytes more same)) refl

gap_some : (bytes rest more : List ℕ) → after_gap false bytes ≡ Ok rest → (length rest ≡ length bytes → ⊥) → gap_at (bytes ++ more) ≡ Ok (rest ++ more)
unfolding gap_at
gap_some bytes rest more e other =
    rw (gap_more bytes more rest false e, ne_eqb (length (rest ++ more)) (length (bytes ++ more)) (λ same. other (shorter rest bytes more same))) refl

pub gap_is : (bytes rest : List ℕ) → after_gap false bytes ≡ Ok rest → (length rest ≡ length bytes → ⊥) → gap_at bytes ≡ Ok rest
unfolding gap_at
gap_is bytes rest e other = rw (e, ne_eqb (length rest) (length bytes) other) refl

-- ---- digits

digits_step : (b : Bool) (n d v c : ℕ) (ds cs more : List ℕ) → cond b (digits_at (10 * n + (d - 48)) ds) (let p : ℕ × List ℕ = (n, d ∷ ds) in p) ≡ (v, c ∷ cs)
    → (digits_at (10 * n + (d - 48)) ds ≡ (v, c ∷ cs) → digits_at (10 * n + (d - 48)) (ds ++ more) ≡ (v, c ∷ (cs ++ more)))
    → cond b (digits_at (10 * n + (d - 48)) (ds ++ more)) (let p : ℕ × List ℕ = (n, d ∷ (ds ++ more)) in p) ≡ (v, c ∷ (cs ++ more))
digits_step true n d v c ds cs more e go = go e
digits_step false n d v c ds cs more e go = ap (λ (p : ℕ × List ℕ). let q : ℕ × List ℕ = (p.0, p.1 ++ more) in q) e

-- a number behind which a byte stands is whole
pub digits_more : (bytes more : List ℕ) (n v c : ℕ) (cs : List ℕ) → digits_at n bytes ≡ (v, c ∷ cs) → digits_at n (bytes ++ more) ≡ (v, c ∷ (cs ++ more))
unfolding digits_at
digits_more [] more n v c cs e = (let bad : [] ≡ c ∷ cs = ap (λ (p : ℕ × List ℕ). p.1) e in absurd cc)
digits_more (d ∷ ds) more n v c cs e =
    digits_step (is_ascii_digit d && leb n (2 ^ 28)) n d v c ds cs more e (λ f. digits_more ds more (10 * n + (d - 48)) v c cs f)

and_no : (a b : Bool) → b ≡ false → (a && b) ≡ false
and_no true b e = e
and_no false b e = refl

stops : (n : ℕ) (more : List ℕ) → 2 ^ 28 < n → (digits_at n more).0 ≡ n
unfolding digits_at
stops n [] big = refl
stops n (d ∷ ds) big = rw (and_no (is_ascii_digit d) (leb n (2 ^ 28)) (lt-leb n (2 ^ 28) big)) refl

past_step : (b : Bool) (n d v : ℕ) (ds more : List ℕ) → (cond b (digits_at (10 * n + (d - 48)) ds) (let p : ℕ × List ℕ = (n, d ∷ ds) in p)).0 ≡ v
    → ((digits_at (10 * n + (d - 48)) ds).0 ≡ v → (digits_at (10 * n + (d - 48)) (ds ++ more)).0 ≡ v)
    → (cond b (digits_at (10 * n + (d - 48)) (ds ++ more)) (let p : ℕ × List ℕ = (n, d ∷ (ds ++ more)) in p)).0 ≡ v
past_step true n d v ds more e go = go e
past_step false n d v ds more e go = e

-- a number that is too large stays so
past_more : (bytes more : List ℕ) (n v : ℕ) → (digits_at n bytes).0 ≡ v → 2 ^ 28 < v → (digits_at n (bytes ++ more)).0 ≡ v
unfolding digits_at
past_more [] more n v e big = stops n more (omega (arith, e, big)) ∙ e
past_more (d ∷ ds) more n v e big =
    past_step (is_ascii_digit d && leb n (2 ^ 28)) n d v ds more e (λ f. past_more ds more (10 * n + (d - 48)) v f big)

-- ---- numbers

number_ok : (bytes rest : List ℕ) (v : ℕ) → digits_at 0 bytes ≡ (v, rest) → 0 < v → v ≤ 2 ^ 28 → number_at bytes ≡ Ok (v, rest)
unfolding number_at
number_ok bytes rest v e some few = rw (e, ne_eqb v 0 (λ z. omega (arith, z, some)), le-ltb (2 ^ 28) v few) refl

number_big : (bytes : List ℕ) → 2 ^ 28 < (digits_at 0 bytes).0 → number_at bytes ≡ Err BadPnm
unfolding number_at
number_big bytes big = rw (or_yes (eqb (digits_at 0 bytes).0 0) (ltb (2 ^ 28) (digits_at 0 bytes).0) (search (big, arith))) refl
  where
    or_yes : (a b : Bool) → b ≡ true → (a || b) ≡ true
    or_yes true b e = refl
    or_yes false b e = e

number_zero : (bytes rest : List ℕ) → digits_at 0 bytes ≡ (0, rest) → number_at bytes ≡ Err BadPnm
unfolding number_at
number_zero bytes rest e = rw e refl

-- ---- fields

pub field_is : (bytes gone rest : List ℕ) (v : ℕ) → after_gap false bytes ≡ Ok gone → (length gone ≡ length bytes → ⊥) → digits_at 0 gone ≡ (v, rest) → 0 < v → v ≤ 2 ^ 28
    → field_at bytes ≡ Ok (v, rest)
unfolding field_at
field_is bytes gone rest v e other digits some few = rw (gap_is bytes gone e other) (number_ok gone rest v digits some few)

pub field_without_gap : (bytes rest more : List ℕ) → after_gap false bytes ≡ Ok rest → length rest ≡ length bytes → field_at (bytes ++ more) ≡ Err BadPnm
unfolding field_at
field_without_gap bytes rest more e same = rw (gap_none bytes rest more e same) refl

pub field_past : (bytes gone more : List ℕ) → after_gap false bytes ≡ Ok gone → (length gone ≡ length bytes → ⊥) → 2 ^ 28 < (digits_at 0 gone).0 → field_at (bytes ++ more) ≡ Err BadPnm
unfolding field_at
field_past bytes gone more e other big =
    let same = past_more gone more 0 (digits_at 0 gone).0 refl big in
    rw (gap_some bytes gone more e other) (number_big (gone ++ more) (rw same big))

pub field_zero : (bytes gone more rest : List ℕ) (v : ℕ) → after_gap false bytes ≡ Ok gone → (length gone ≡ length bytes → ⊥) → (v, rest) ≡ digits_at 0 gone → v ≡ 0 → (length rest ≡ 0 → ⊥)
    → field_at (bytes ++ more) ≡ Err BadPnm
unfolding field_at
field_zero bytes gone more [] v e other digits none some = absurd (some refl)
field_zero bytes gone more (c ∷ cs) v e other digits none some =
    let whole : digits_at 0 gone ≡ (0, c ∷ cs) = sym digits ∙ ap (λ (n : ℕ). let p : ℕ × List ℕ = (n, c ∷ cs) in p) none in
    rw (gap_some bytes gone more e other) (number_zero (gone ++ more) (c ∷ (cs ++ more)) (digits_more gone more 0 0 c cs whole))

-- ---- headers

pub fields_are : (bytes r1 r2 r3 : List ℕ) (w h m : ℕ) → field_at bytes ≡ Ok (w, r1) → field_at r1 ≡ Ok (h, r2) → field_at r2 ≡ Ok (m, r3) → fields_at bytes ≡ Ok ((w, h, m), r3)
unfolding fields_at
fields_are bytes r1 r2 r3 w h m e1 e2 e3 = rw (e1, e2, e3) refl

pub fields_bad : (bytes : List ℕ) → field_at bytes ≡ Err BadPnm → fields_at bytes ≡ Err BadPnm
unfolding fields_at
fields_bad bytes e = rw e refl

pub fields_bad_second : (bytes r1 : List ℕ) (w : ℕ) → field_at bytes ≡ Ok (w, r1) → field_at r1 ≡ Err BadPnm → fields_at bytes ≡ Err BadPnm
unfolding fields_at
fields_bad_second bytes r1 w e1 e2 = rw (e1, e2) refl

pub fields_bad_third : (bytes r1 r2 : List ℕ) (w h : ℕ) → field_at bytes ≡ Ok (w, r1) → field_at r1 ≡ Ok (h, r2) → field_at r2 ≡ Err BadPnm → fields_at bytes ≡ Err BadPnm
unfolding fields_at
fields_bad_third bytes r1 r2 w h e1 e2 e3 = rw (e1, e2, e3) refl

-- ---- what is read is read alike where more follows

differs : (gone r bytes : List ℕ) → r ≡ gone → eqb (length r) (length bytes) ≡ false → length gone ≡ length bytes → ⊥
differs gone r bytes is other same = eqb-false (length r) (length bytes) other (ap (λ (x : List ℕ). length x) is ∙ same)

gap_parts : (bytes gone : List ℕ) → gap_at bytes ≡ Ok gone → (after_gap false bytes ≡ Ok gone) × (length gone ≡ length bytes → ⊥)
unfolding gap_at
gap_parts bytes gone e =
    bind_then (after_gap false bytes) _ gone e (λ r s e.
    refuse_then (eqb (length r) (length bytes)) BadPnm _ gone e (λ other e.
    let r-is : r ≡ gone = ok_is r gone e in
    (s ∙ ap Ok r-is, differs gone r bytes r-is other)
    ))

number_parts : (bytes rest : List ℕ) (v : ℕ) → number_at bytes ≡ Ok (v, rest) → (digits_at 0 bytes ≡ (v, rest)) × ((eqb (digits_at 0 bytes).0 0 || ltb (2 ^ 28) (digits_at 0 bytes).0) ≡ false)
unfolding number_at
number_parts bytes rest v e =
    refuse_then (eqb (digits_at 0 bytes).0 0 || ltb (2 ^ 28) (digits_at 0 bytes).0) BadPnm _ (v, rest) e (λ no e.
    (cc, no)
    )

number_again : (bytes rest : List ℕ) (v : ℕ) → digits_at 0 bytes ≡ (v, rest) → (eqb v 0 || ltb (2 ^ 28) v) ≡ false → number_at bytes ≡ Ok (v, rest)
unfolding number_at
number_again bytes rest v e fine = rw (e, fine) refl

number_more : (bytes more rest : List ℕ) (v : ℕ) → number_at bytes ≡ Ok (v, rest) → 0 < length rest → number_at (bytes ++ more) ≡ Ok (v, rest ++ more)
number_more bytes more [] v e some = absurd (omega (arith, some))
number_more bytes more (c ∷ cs) v e some =
    let parts = number_parts bytes (c ∷ cs) v e in
    let value : (digits_at 0 bytes).0 ≡ v = ap (λ (p : ℕ × List ℕ). p.0) parts.0 in
    number_again (bytes ++ more) (c ∷ (cs ++ more)) v (digits_more bytes more 0 v c cs parts.0) (sym (ap (λ n. eqb n 0 || ltb (2 ^ 28) n) value) ∙ parts.1)

field_again : (bytes gone rest : List ℕ) (v : ℕ) → gap_at bytes ≡ Ok gone → number_at gone ≡ Ok (v, rest) → field_at bytes ≡ Ok (v, rest)
unfolding field_at
field_again bytes gone rest v g n = rw g n

-- a number that is whole is read alike where more follows
pub field_goes_on : (bytes more rest : List ℕ) (v : ℕ) → field_at bytes ≡ Ok (v, rest) → 0 < length rest → field_at (bytes ++ more) ≡ Ok (v, rest ++ more)
unfolding field_at
field_goes_on bytes more rest v e some =
    bind_then (gap_at bytes) number_at (v, rest) e (λ gone g n.
    let parts = gap_parts bytes gone g in
    field_again (bytes ++ more) (gone ++ more) (rest ++ more) v (gap_some bytes gone more parts.0 parts.1) (number_more gone more rest v n some)
    )

-- ---- whole headers

-- one that begins with neither P5 nor P6
pub header_without_magic : (bytes : List ℕ) → magic_at bytes ≡ Err BadPnm → header_at bytes ≡ Err BadPnm
unfolding header_at
header_without_magic bytes e = rw e refl

never_ok : {A : Type 0} (r : Result A Fault) → ((x : A) → r ≡ Ok x → ⊥) → ((d : Fault) → r ≡ Err d → d ≡ BadPnm) → r ≡ Err BadPnm
never_ok (Ok x) not_ok bad = absurd (not_ok x refl)
never_ok (Err d) not_ok bad = ap Err (bad d refl)

-- what a header was read from
record HeaderParts (bytes : List ℕ) : Type 0 where
  width : ℕ
  height : ℕ
  maxval : ℕ
  rest : List ℕ
  fields : fields_at (drop 2 bytes) ≡ Ok ((width, height, maxval), rest)
  depth : (d : ℕ) × (depth_at maxval ≡ Ok d)
  space : (eqb (length rest) 0 || not (is_space (get_or rest 0 0))) ≡ false
  area : ltb (2 ^ 28) (width * height) ≡ false

header_parts : (bytes : List ℕ) (x : Header × List ℕ) → header_at bytes ≡ Ok x → HeaderParts bytes
unfolding header_at
header_parts bytes x e =
    bind_then (magic_at bytes) _ x e (λ colour m e.
    bind_then (field_at (drop 2 bytes)) _ x e (λ width w e.
    bind_then (field_at width.1) _ x e (λ height h e.
    bind_then (field_at height.1) _ x e (λ maxval v e.
    bind_then (depth_at maxval.0) _ x e (λ depth d e.
    refuse_then (eqb (length maxval.1) 0 || not (is_space (get_or maxval.1 0 0))) BadPnm _ x e (λ space e.
    refuse_then (ltb (2 ^ 28) (width.0 * height.0)) BadPnm _ x e (λ area e.
    record {
      width = width.0;
      height = height.0;
      maxval = maxval.0;
      rest = maxval.1;
      fields = fields_are (drop 2 bytes) width.1 height.1 maxval.1 width.0 height.0 maxval.0 w h v;
      depth = (depth, d);
      space = space;
      area = area;
    }
    )))))))

-- without its three numbers there is no header
pub header_without_fields : (bytes : List ℕ) → fields_at (drop 2 bytes) ≡ Err BadPnm → header_at bytes ≡ Err BadPnm
header_without_fields bytes e =
    never_ok (header_at bytes) (λ x is. let parts = header_parts bytes x is in let both = sym parts.fields ∙ e in absurd cc) (header_bad bytes)

-- the numbers of a header, and what follows them
abbrev Told : ℕ → ℕ → ℕ → List ℕ → Result ((ℕ × ℕ × ℕ) × List ℕ) Fault
Told w h m rest = Ok ((w, h, m), rest)

told_is : (a b : (ℕ × ℕ × ℕ) × List ℕ) → (let x : Result ((ℕ × ℕ × ℕ) × List ℕ) Fault = Ok a in x) ≡ Ok b → a ≡ b
told_is a b e = cc

header_against : (bytes : List ℕ) (w h m : ℕ) (rest : List ℕ) → fields_at (drop 2 bytes) ≡ Told w h m rest
    → ((depth : (d : ℕ) × (depth_at m ≡ Ok d)) → (eqb (length rest) 0 || not (is_space (get_or rest 0 0))) ≡ false → ltb (2 ^ 28) (w * h) ≡ false → ⊥)
    → header_at bytes ≡ Err BadPnm
header_against bytes w h m rest e against =
    never_ok (header_at bytes) (λ x is.
    let parts = header_parts bytes x is in
    let same : (let p : (ℕ × ℕ × ℕ) × List ℕ = ((parts.width, parts.height, parts.maxval), parts.rest) in p) ≡ ((w, h, m), rest) = told_is _ _ (sym parts.fields ∙ e) in
    let width : parts.width ≡ w = ap (λ (p : (ℕ × ℕ × ℕ) × List ℕ). p.0.0) same in
    let height : parts.height ≡ h = ap (λ (p : (ℕ × ℕ × ℕ) × List ℕ). p.0.1) same in
    let maxval : parts.maxval ≡ m = ap (λ (p : (ℕ × ℕ × ℕ) × List ℕ). p.0.2) same in
    let behind : parts.rest ≡ rest = ap (λ (p : (ℕ × ℕ × ℕ) × List ℕ). p.1) same in
    against (parts.depth.0, ap (λ n. depth_at n) (sym maxval) ∙ parts.depth.1)
    (ap (λ (r : List ℕ). eqb (length r) 0 || not (is_space (get_or r 0 0))) (sym behind) ∙ parts.space)
    (ap (λ n. ltb (2 ^ 28) n) (sym (ap (λ n. n * parts.height) width ∙ ap (λ n. w * n) height)) ∙ parts.area)
    ) (header_bad bytes)

pub header_without_depth : (bytes : List ℕ) (w h m : ℕ) (rest : List ℕ) → fields_at (drop 2 bytes) ≡ Told w h m rest → ((d : ℕ) → depth_at m ≡ Ok d → ⊥) → header_at bytes ≡ Err BadPnm
header_without_depth bytes w h m rest e none = header_against bytes w h m rest e (λ depth space area. none depth.0 depth.1)

first_stays : (rest more : List ℕ) → 0 < length rest → get_or (rest ++ more) 0 0 ≡ get_or rest 0 0
first_stays [] more some = absurd (omega (arith, some))
first_stays (x ∷ rest) more some = refl

or_second : (a b : Bool) → (a || b) ≡ false → b ≡ false
or_second true b e = absurd cc
or_second false b e = e

pub header_without_space : (bytes : List ℕ) (w h m : ℕ) (rest more : List ℕ) → fields_at (drop 2 bytes) ≡ Told w h m (rest ++ more) → 0 < length rest → is_space (get_or rest 0 0) ≡ false
    → header_at bytes ≡ Err BadPnm
header_without_space bytes w h m rest more e some none =
    header_against bytes w h m (rest ++ more) e (λ depth space area.
    let is : not (is_space (get_or (rest ++ more) 0 0)) ≡ false = or_second (eqb (length (rest ++ more)) 0) _ space in
    let was : not (is_space (get_or (rest ++ more) 0 0)) ≡ true = ap (λ n. not (is_space n)) (first_stays rest more some) ∙ ap not none in
    let both = sym was ∙ is in absurd cc)

pub header_too_large : (bytes : List ℕ) (w h m : ℕ) (rest : List ℕ) → fields_at (drop 2 bytes) ≡ Told w h m rest → ltb (2 ^ 28) (w * h) ≡ true → header_at bytes ≡ Err BadPnm
header_too_large bytes w h m rest e large =
    header_against bytes w h m rest e (λ depth space area. let both = sym large ∙ area in absurd cc)

pub drop_more : (bytes more : List ℕ) → 2 ≤ length bytes → drop 2 (bytes ++ more) ≡ drop 2 bytes ++ more
drop_more [] more long = absurd (omega (arith, long))
drop_more (a ∷ []) more long = absurd (omega (arith, long))
drop_more (a ∷ b ∷ bytes) more long = refl

pub magic_stays : (bytes more : List ℕ) → 2 ≤ length bytes → magic_at (bytes ++ more) ≡ magic_at bytes
unfolding magic_at
magic_stays [] more long = absurd (omega (arith, long))
magic_stays (a ∷ []) more long = absurd (omega (arith, long))
magic_stays (a ∷ b ∷ bytes) more long = refl

pub other_first : (bytes more : List ℕ) → 0 < length bytes → length bytes < 2 → eqb (get_or bytes 0 0) 80 ≡ false → magic_at (bytes ++ more) ≡ Err BadPnm
unfolding magic_at
other_first [] more some short other = absurd (omega (arith, some))
other_first (a ∷ b ∷ bytes) more some short other = absurd (omega (arith, short))
other_first (a ∷ []) [] some short other = rw (ne_eqb 80 a (λ e. eqb-false a 80 other (sym e))) refl
other_first (a ∷ []) (b ∷ more) some short other = rw (ne_eqb 80 a (λ e. eqb-false a 80 other (sym e))) refl

pub err_not_ok : (r due : Result ℕ Fault) → AnswersExactly (λ d. d) r due → is_err r ≡ true → (d : ℕ) → due ≡ Ok d → ⊥
err_not_ok (Ok x) due exact is d e = absurd cc
err_not_ok (Err x) due exact is d e = (let both = sym exact ∙ e in absurd cc)

pub err_is_bad : (r due : Result Bool Fault) → r ≡ due → is_ok r ≡ false → ((d : Fault) → due ≡ Err d → d ≡ BadPnm) → due ≡ Err BadPnm
err_is_bad (Ok x) due exact is bad = absurd cc
err_is_bad (Err x) due exact is bad = sym exact ∙ ap Err (bad x (sym exact))

-- ---- behind the first two bytes

field_some : (bytes : List ℕ) (x : ℕ × List ℕ) → field_at bytes ≡ Ok x → 0 < length bytes
unfolding field_at gap_at after_gap
field_some [] x e = absurd cc
field_some (b ∷ bytes) x e = omega arith

fields_go_on : (bytes more rest : List ℕ) (w h m : ℕ) → fields_at bytes ≡ Told w h m rest → 0 < length rest → fields_at (bytes ++ more) ≡ Told w h m (rest ++ more)
unfolding fields_at
fields_go_on bytes more rest w h m e some =
    bind_then (field_at bytes) _ ((w, h, m), rest) e (λ a ea e.
    bind_then (field_at a.1) _ ((w, h, m), rest) e (λ b eb e.
    bind_then (field_at b.1) _ ((w, h, m), rest) e (λ v ev e.
    let same : (let p : (ℕ × ℕ × ℕ) × List ℕ = ((a.0, b.0, v.0), v.1) in p) ≡ ((w, h, m), rest) = told_is _ _ e in
    let behind : v.1 ≡ rest = ap (λ (p : (ℕ × ℕ × ℕ) × List ℕ). p.1) same in
    let long : 0 < length v.1 = (let l = ap (λ (r : List ℕ). length r) behind in omega (arith, l, some)) in
    let go1 = field_goes_on bytes more a.1 a.0 ea (field_some a.1 b eb) in
    let go2 = field_goes_on a.1 more b.1 b.0 eb (field_some b.1 v ev) in
    let go3 = field_goes_on b.1 more v.1 v.0 ev long in
    fields_are (bytes ++ more) (a.1 ++ more) (b.1 ++ more) (v.1 ++ more) a.0 b.0 v.0 go1 go2 go3
    ∙ ap (λ (p : (ℕ × ℕ × ℕ) × List ℕ). Told p.0.0 p.0.1 p.0.2 (p.1 ++ more)) same
    )))

-- the bytes behind the first two, as they are handed on
part_is : (bytes more : List ℕ) → 2 ≤ length bytes → drop 2 (bytes ++ more) ≡ take (length bytes - 2) (drop 2 bytes) ++ more
part_is bytes more long =
    drop_more bytes more long ∙ ap (λ (r : List ℕ). r ++ more) (sym (take_all (length bytes - 2) (drop 2 bytes) (omega (arith, length-drop 2 bytes))))

pub fields_behind : (bytes more rest : List ℕ) (w h m : ℕ) → 2 ≤ length bytes → fields_at (take (length bytes - 2) (drop 2 bytes)) ≡ Told w h m rest → 0 < length rest
    → fields_at (drop 2 (bytes ++ more)) ≡ Told w h m (rest ++ more)
fields_behind bytes more rest w h m long e some =
    ap (λ (r : List ℕ). fields_at r) (part_is bytes more long) ∙ fields_go_on (take (length bytes - 2) (drop 2 bytes)) more rest w h m e some

pub never_behind : (bytes more : List ℕ) → 2 ≤ length bytes → fields_at (take (length bytes - 2) (drop 2 bytes) ++ more) ≡ Err BadPnm → header_at (bytes ++ more) ≡ Err BadPnm
never_behind bytes more long e = header_without_fields (bytes ++ more) (ap (λ (r : List ℕ). fields_at r) (part_is bytes more long) ∙ e)

pub some_follows : {X : Type 0} {P Q : Type 0} (o : Option X) → IfSome o (λ _. P) → (P → Q) → IfSome o (λ _. Q)
some_follows (Some x) p go = go p
some_follows None p go = tt
