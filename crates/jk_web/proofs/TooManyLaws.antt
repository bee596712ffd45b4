-- Too many fields: where the 65th field line is whole, its first byte stands behind 64 whole ones.
use Rattle.std.proofs.Common.{◌≡◌, ℕ, suc, ◌+◌, ◌-◌, ◌<◌, true, List, [], ◌∷◌, ◌++◌, length, take, drop, refl, sym, ap, ◌∙◌, arith, append_assoc, append-nil, length-append}
use Rattle.std.specs.List.{flat_map, All}
use Rattle.std.proofs.lemmas.List.{take-append-drop, length-take-le}
use Rattle.std.proofs.Math.Seq.{take-append_seam}
use Rattle.std.proofs.lemmas.List.Elements.{All-head, All-take, All-drop}
use Rattle.std.proofs.lemmas.List.Concat.{flat_map-append}
use Rattle.httparse.specs.Ascii.{colon}
use Rattle.httparse.specs.Grammar.{lf, print_end, print_blank, print_version, Field, IsField, print_field, RequestHead, print_request, ReadsRequest, is_token_byte, IsToken}
use Rattle.httparse.specs.Spans.{RequestExceeds}
use Rattle.httparse.proofs.GrammarLemmas.{cons-append}
use Rattle.jk_web.specs.Heads.{field_limit, BeginsTooMany}
use Rattle.jk_web.proofs.HeadLaws.{take_past}

-- the request line with what stands before it
abbrev start_of : RequestHead → List ℕ
start_of h = print_blank h.blank ++ (h.method ++ 32 ∷ (h.target ++ 32 ∷ (print_version h.minor ++ print_end h.line_end)))

-- the head up to its last line
abbrev front_of : RequestHead → List Field → List ℕ
front_of h fields = start_of h ++ flat_map print_field fields

print_request-front : (h : RequestHead) → print_request h ≡ front_of h h.fields ++ print_end h.last
unfolding print_request
print_request-front h =
    regroup (print_blank h.blank) h.method h.target (print_version h.minor) (print_end h.line_end) (flat_map print_field h.fields) (print_end h.last)
  where
    regroup : (a b c d e f g : List ℕ)
        → a ++ b ++ 32 ∷ c ++ 32 ∷ d ++ e ++ (f ++ g) ≡ ((a ++ (b ++ 32 ∷ (c ++ 32 ∷ (d ++ e)))) ++ f) ++ g
    regroup a b c d e f g = simp (append_assoc, cons-append)

-- A text and one byte more, which goes on past a byte: the text has that byte.
cut_last : (front before : List ℕ) (first last : ℕ) (more : List ℕ) → 0 < length more → front ++ last ∷ [] ≡ before ++ first ∷ more
    → front ≡ before ++ first ∷ take (length more - 1) more
cut_last front before first last more some e =
    let sizes : length front ≡ length before + length more = omega (arith, ap length e, length-append front (last ∷ []), length-append before (first ∷ more)) in
    let left : length front - length before ≡ suc (length more - 1) = omega arith in
    sym (take-append_seam front (last ∷ []))
    ∙ ap (take (length front)) e
    ∙ take_past before (first ∷ more) (length front) (omega arith)
    ∙ ap (λ k. before ++ take k (first ∷ more)) left

-- the first byte of a field line
first_byte : (name rest : List ℕ) → IsToken name → 0 < length rest
    → (b : ℕ) × (more : List ℕ) × (name ++ rest ≡ b ∷ more) × (is_token_byte b ≡ true) × (0 < length more)
first_byte [] rest token some = absurd (omega (arith, token.0))
first_byte (b ∷ name) rest token some =
    (b, name ++ rest, refl, All-head (λ v. is_token_byte v ≡ true) b name token.1, omega (arith, length-append name rest))

-- what stands behind a field's name, up to the end of the head
abbrev behind_name : RequestHead → Field → List Field → List ℕ
behind_name h f others = (colon ∷ f.raw) ++ print_end f.end ++ (flat_map print_field others ++ print_end h.last)

print_request-name : (h : RequestHead) (some : List Field) (f : Field) (others : List Field) → h.fields ≡ some ++ f ∷ others
    → print_request h ≡ front_of h some ++ (f.name ++ behind_name h f others)
print_request-name h some f others fields =
    print_request-front h
    ∙ ap (λ (fs : List Field). front_of h fs ++ print_end h.last) fields
    ∙ ap (λ (v : List ℕ). (start_of h ++ v) ++ print_end h.last) (flat_map-append print_field some (f ∷ others))
    ∙ regroup (start_of h) (flat_map print_field some) f.name f.raw (print_end f.end) (flat_map print_field others) (print_end h.last)
  where
    regroup : (s a n r e o l : List ℕ)
        → (s ++ (a ++ (n ++ 58 ∷ r ++ e ++ o))) ++ l ≡ (s ++ a) ++ (n ++ ((58 ∷ r) ++ e ++ (o ++ l)))
    regroup s a n r e o l = simp (append_assoc, cons-append)

-- the first fields, and the first byte of a line more
begins_at : (w front rest : List ℕ) (h : RequestHead) (some : List Field) (first : ℕ) (more : List ℕ) → w ≡ front ++ rest
    → print_request h ≡ front_of h some ++ first ∷ more → is_token_byte first ≡ true → 0 < length more
    → All IsField some → length some ≡ field_limit → ReadsRequest (front ++ print_end lf) h [] → BeginsTooMany w
begins_at w front rest h some first more text printed token long before full reads =
    let cut = cut_last front (front_of h some) first 10 more long (reads.1 ∙ append-nil (print_request h) ∙ printed) in
    let head : RequestHead = record h { fields = some; last = lf } in
    record {
      front = front_of h some;
      first = first;
      more = take (length more - 1) more ++ rest;
      text = text ∙ ap (λ (v : List ℕ). v ++ rest) cut ∙ append_assoc (front_of h some) (first ∷ take (length more - 1) more) rest;
      token = token;
      head = head;
      reads = (
        record {
          method = reads.0.method;
          target = reads.0.target;
          target_text = reads.0.target_text;
          minor = reads.0.minor;
          fields = before;
        },
        sym (append-nil (print_request head) ∙ print_request-front head),
      );
      full = full;
    }

line_at : (w front rest : List ℕ) (h : RequestHead) (some : List Field) (f : Field) (others : List Field) → w ≡ front ++ rest
    → h.fields ≡ some ++ f ∷ others → All IsField some → IsField f → length some ≡ field_limit → ReadsRequest (front ++ print_end lf) h []
    → BeginsTooMany w
line_at w front rest h some f others text fields before line full reads =
    let some_behind : 0 < length (behind_name h f others) =
    omega (arith, length-append ((colon ∷ f.raw) ++ print_end f.end) (flat_map print_field others ++ print_end h.last), length-append (colon ∷ f.raw) (print_end f.end)) in
    let byte = first_byte f.name (behind_name h f others) line.name some_behind in
    begins_at w front rest h some byte.0 byte.1 text
    (print_request-name h some f others fields ∙ ap (λ (v : List ℕ). front_of h some ++ v) byte.2)
    byte.3 byte.4 before full reads

split_at : (w front rest : List ℕ) (h : RequestHead) (others : List Field) → w ≡ front ++ rest
    → take field_limit h.fields ++ others ≡ h.fields → All IsField others → field_limit < length h.fields → ReadsRequest (front ++ print_end lf) h [] → BeginsTooMany w
split_at w front rest h [] text e behind many reads =
    absurd (omega (arith, ap length e, ap length (append-nil (take field_limit h.fields)), length-take-le field_limit h.fields (omega arith)))
split_at w front rest h (f ∷ others) text e behind many reads =
    line_at w front rest h (take field_limit h.fields) f others text (sym e) (All-take IsField field_limit h.fields reads.0.fields) (All-head IsField f others behind) (length-take-le field_limit h.fields (omega arith)) reads

-- Where 65 field lines are whole, the 65th has begun.
pub begins_too_many : (w : List ℕ) → RequestExceeds field_limit w → BeginsTooMany w
begins_too_many w x =
    split_at w x.0 x.1 x.3 (drop field_limit x.3.fields) x.2 (take-append-drop field_limit x.3.fields) (All-drop IsField field_limit x.3.fields x.4.0.fields) x.5 x.4
