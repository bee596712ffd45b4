-- The parts of a table.
use Rattle.std.proofs.Common.{◌≡◌, ℕ, zero, suc, ◌+◌, ◌-◌, ◌<◌, ◌≤◌, Bool, true, false, cond, List, [], ◌∷◌, ◌++◌, length, get_or, take, drop, replicate, refl, sym, ap, ◌∙◌, arith}
use Rattle.std.proofs.lemmas.List.{get_or_append_left, get_or-append_right, get_or-replicate, length-replicate, length-append, length-take-le, get_or_past, drop-drop, at_drop_more, at_drop_all}
use Rattle.std.proofs.lemmas.List.Concat.{length-flat_map}
use Rattle.std.proofs.lemmas.List.Sums.{sum_by-cons}
use Rattle.std.proofs.Math.Seq.{take-add}
use Rattle.std.specs.List.{flat_map}
use Rattle.std.specs.Prelude.{nat_eq, sum_by}
use Rattle.jk_packet.specs.declared.table.LayerPart.{LayerPart}
use Rattle.jk_packet.specs.Written.{first_in, part_in, cut_parts, AreEnds, table_of}
use Rattle.jk_packet.specs.Writing.{begin_of, end_of}

-- where part k begins, where the first begins at `from`
abbrev pub begin_from : ℕ → List LayerPart → ℕ → ℕ
begin_from from parts zero = from
begin_from from parts (suc k) = end_of parts k

length-cut : (from : ℕ) (parts : List LayerPart) (bytes : List ℕ) → length (cut_parts from parts bytes) ≡ length parts
length-cut from [] bytes = refl
length-cut from (p ∷ parts) bytes = ap suc (length-cut p.end parts bytes)

begin_same : (from : ℕ) (p : LayerPart) (parts : List LayerPart) (k : ℕ) → begin_from p.end parts k ≡ begin_from from (p ∷ parts) (suc k)
begin_same from p parts zero = refl
begin_same from p parts (suc k) = refl

cut_at : (from : ℕ) (parts : List LayerPart) (bytes : List ℕ) (k : ℕ) (p : LayerPart) → k < length parts → p ≡ get_or parts k p
    → get_or (cut_parts from parts bytes) k (0, []) ≡ (p.passes, take (end_of parts k - begin_from from parts k) (drop (begin_from from parts k) bytes))
cut_at from [] bytes k p less is = absurd (omega (arith, less))
cut_at from (q ∷ parts) bytes zero p less is = ap (λ (x : LayerPart). (x.passes, take (q.end - from) (drop from bytes))) (sym is)
cut_at from (q ∷ parts) bytes (suc k) p less is =
    cut_at q.end parts bytes k p (omega (arith, less)) is
    ∙ ap (λ b. (p.passes, take (end_of parts k - b) (drop b bytes))) (begin_same from q parts k)

ends_from : (from : ℕ) (parts : List LayerPart) (size k : ℕ) → k < length parts → AreEnds from parts size → (begin_from from parts k ≤ end_of parts k) × (end_of parts k ≤ size)
ends_from from [] size k less are = absurd (omega (arith, less))
ends_from from (p ∷ parts) size zero less are = (are.0, are.1)
ends_from from (p ∷ parts) size (suc k) less are =
    let r = ends_from p.end parts size k (omega (arith, less)) are.2 in
    let b = begin_same from p parts k in
    let low = r.0 in
    (omega (arith, b, low), r.1)

begin_zero : (parts : List LayerPart) (k : ℕ) → begin_of parts k ≡ begin_from 0 parts k
begin_zero parts zero = refl
begin_zero parts (suc k) = refl

pub ends_within : (parts : List LayerPart) (size k : ℕ) → k < length parts → AreEnds 0 parts size → (begin_of parts k ≤ end_of parts k) × (end_of parts k ≤ size)
ends_within parts size k less are = let r = ends_from 0 parts size k less are in let b = begin_zero parts k in let low = r.0 in (omega (arith, b, low), r.1)

-- a layer in front has nothing, one behind its part, and one past the end nothing
pub part_skipped : (planes skipped l : ℕ) (parts : List LayerPart) (bytes : List ℕ) → l < skipped → part_in (table_of planes skipped parts bytes) l ≡ (0, [])
part_skipped planes skipped l parts bytes less =
    get_or_append_left (replicate skipped (0, [])) (cut_parts 0 parts bytes) (0, []) l (let e = length-replicate skipped (let d : ℕ × List ℕ = (0, []) in d) in omega (arith, e, less))
    ∙ get_or-replicate skipped l (0, []) (0, []) less

behind : (planes skipped l : ℕ) (parts : List LayerPart) (bytes : List ℕ) → skipped ≤ l → part_in (table_of planes skipped parts bytes) l ≡ get_or (cut_parts 0 parts bytes) (l - skipped) (0, [])
behind planes skipped l parts bytes more = get_or-append_right (replicate skipped (0, [])) (cut_parts 0 parts bytes) skipped l (0, []) (length-replicate skipped (0, [])) more

pub part_behind : (planes skipped l : ℕ) (parts : List LayerPart) (bytes : List ℕ) (p : LayerPart) → skipped ≤ l → l - skipped < length parts → p ≡ get_or parts (l - skipped) p
    → part_in (table_of planes skipped parts bytes) l
    ≡ (p.passes, take (end_of parts (l - skipped) - begin_of parts (l - skipped)) (drop (begin_of parts (l - skipped)) bytes))
part_behind planes skipped l parts bytes p more less is =
    behind planes skipped l parts bytes more ∙ cut_at 0 parts bytes (l - skipped) p less is
    ∙ ap (λ b. (p.passes, take (end_of parts (l - skipped) - b) (drop b bytes))) (sym (begin_zero parts (l - skipped)))

pub part_past : (planes skipped l : ℕ) (parts : List LayerPart) (bytes : List ℕ) → skipped ≤ l → length parts ≤ l - skipped → part_in (table_of planes skipped parts bytes) l ≡ (0, [])
part_past planes skipped l parts bytes more past =
    behind planes skipped l parts bytes more
    ∙ get_or_past (cut_parts 0 parts bytes) (l - skipped) (0, []) (let e = length-cut 0 parts bytes in omega (arith, e, past))

-- the first part that has passes, or their number
abbrev pub first_of : List LayerPart → ℕ
first_of [] = 0
first_of (p ∷ parts) = cond (nat_eq p.passes 0) (1 + first_of parts) 0

first_cut : (from : ℕ) (parts : List LayerPart) (bytes : List ℕ) → first_in (cut_parts from parts bytes) ≡ first_of parts
first_cut from [] bytes = refl
first_cut from (p ∷ parts) bytes = ap (λ n. cond (nat_eq p.passes 0) (1 + n) 0) (first_cut p.end parts bytes)

first_skipped : (skipped : ℕ) (parts : List (ℕ × List ℕ)) → first_in (replicate skipped (0, []) ++ parts) ≡ skipped + first_in parts
first_skipped zero parts = omega arith
first_skipped (suc skipped) parts = let r = first_skipped skipped parts in omega (arith, r)

pub first_table : (planes skipped : ℕ) (parts : List LayerPart) (bytes : List ℕ) → first_in (table_of planes skipped parts bytes).parts ≡ skipped + first_of parts
first_table planes skipped parts bytes = first_skipped skipped (cut_parts 0 parts bytes) ∙ ap (λ n. skipped + n) (first_cut 0 parts bytes)

pub length-table : (planes skipped : ℕ) (parts : List LayerPart) (bytes : List ℕ) → length (table_of planes skipped parts bytes).parts ≡ skipped + length parts
length-table planes skipped parts bytes =
    let a = length-append (replicate skipped (let d : ℕ × List ℕ = (0, []) in d)) (cut_parts 0 parts bytes) in
    let b = length-replicate skipped (let d : ℕ × List ℕ = (0, []) in d) in
    let e = length-cut 0 parts bytes in
    omega (arith, a, b, e)

pub first_here : (parts : List LayerPart) (i : ℕ) (d : LayerPart) → i < length parts → (nat_eq (get_or parts i d).passes 0) ≡ false → first_of (drop i parts) ≡ 0
first_here parts i d less some = at_drop_more first_of parts i d less ∙ ap (λ (b : Bool). cond b (1 + first_of (drop (i + 1) parts)) 0) some

pub first_next : (parts : List LayerPart) (i : ℕ) (d : LayerPart) → i < length parts → (nat_eq (get_or parts i d).passes 0) ≡ true → first_of (drop i parts) ≡ 1 + first_of (drop (i + 1) parts)
first_next parts i d less none = at_drop_more first_of parts i d less ∙ ap (λ (b : Bool). cond b (1 + first_of (drop (i + 1) parts)) 0) none

pub first_end : (parts : List LayerPart) (i : ℕ) → length parts ≤ i → first_of (drop i parts) ≡ 0
first_end parts i past = at_drop_all first_of parts i past

-- the end of the last part
abbrev pub last_end : ℕ → List LayerPart → ℕ
last_end from [] = from
last_end from (p ∷ parts) = last_end p.end parts

last_within : (from : ℕ) (parts : List LayerPart) (size : ℕ) → from ≤ size → AreEnds from parts size → (from ≤ last_end from parts) × (last_end from parts ≤ size)
last_within from [] size low are = (omega arith, low)
last_within from (p ∷ parts) size low are =
    let r = last_within p.end parts size are.1 are.2 in
    let a = are.0 in
    let b = r.0 in
    (omega (arith, a, b), r.1)

cut_joined : (from : ℕ) (parts : List LayerPart) (bytes : List ℕ) → from ≤ length bytes → AreEnds from parts (length bytes) → flat_map (λ p. p.1) (cut_parts from parts bytes) ≡ take (last_end from parts - from) (drop from bytes)
cut_joined from [] bytes low are = ap (λ n. take n (drop from bytes)) (let e : 0 ≡ from - from = omega arith in e)
cut_joined from (p ∷ parts) bytes low are =
    let r = last_within p.end parts (length bytes) are.1 are.2 in
    let a = are.0 in
    let b = r.0 in
    let n = p.end - from in
    let m = last_end p.end parts - p.end in
    let whole : last_end p.end parts - from ≡ n + m = omega (arith, a, b) in
    ap (λ (bs : List ℕ). take n (drop from bytes) ++ bs) (cut_joined p.end parts bytes are.1 are.2)
    ∙ ap (λ k. take n (drop from bytes) ++ take m (drop k bytes)) (let e : p.end ≡ from + n = omega (arith, a) in e)
    ∙ ap (λ (bs : List ℕ). take n (drop from bytes) ++ take m bs) (sym (drop-drop n from bytes))
    ∙ sym (take-add n m (drop from bytes))
    ∙ ap (λ k. take k (drop from bytes)) (sym whole)

skipped_bytes : (skipped : ℕ) (parts : List (ℕ × List ℕ)) → flat_map (λ p. p.1) (replicate skipped (0, []) ++ parts) ≡ flat_map (λ p. p.1) parts
skipped_bytes zero parts = refl
skipped_bytes (suc skipped) parts = skipped_bytes skipped parts

skipped_passes : (skipped : ℕ) (parts : List (ℕ × List ℕ)) → sum_by (λ p. p.0) (replicate skipped (0, []) ++ parts) ≡ sum_by (λ p. p.0) parts
skipped_passes zero parts = refl
skipped_passes (suc skipped) parts = sum_by-cons (λ (p : ℕ × List ℕ). p.0) (0, []) (replicate skipped (0, []) ++ parts) ∙ (let r = skipped_passes skipped parts in let e : 0 + sum_by (λ (p : ℕ × List ℕ). p.0) (replicate skipped (0, []) ++ parts) ≡ sum_by (λ p. p.0) parts = omega (arith, r) in e)

cut_passes : (from : ℕ) (parts : List LayerPart) (bytes : List ℕ) → sum_by (λ p. p.0) (cut_parts from parts bytes) ≡ sum_by (λ p. p.passes) parts
cut_passes from [] bytes = refl
cut_passes from (p ∷ parts) bytes =
    let r = cut_passes p.end parts bytes in
    let a = sum_by-cons (λ (q : ℕ × List ℕ). q.0) (p.passes, take (p.end - from) (drop from bytes)) (cut_parts p.end parts bytes) in
    let b = sum_by-cons (λ (q : LayerPart). q.passes) p parts in
    omega (arith, r, a, b)

-- The bytes of a table are those up to the end of its last part, and its passes are those of its parts.
pub table_bytes : (planes skipped : ℕ) (parts : List LayerPart) (bytes : List ℕ) → AreEnds 0 parts (length bytes) → flat_map (λ p. p.1) (table_of planes skipped parts bytes).parts ≡ take (last_end 0 parts) bytes
table_bytes planes skipped parts bytes are =
    skipped_bytes skipped (cut_parts 0 parts bytes) ∙ cut_joined 0 parts bytes (omega arith) are ∙ ap (λ n. take n bytes) (let e : last_end 0 parts - 0 ≡ last_end 0 parts = omega arith in e)

pub table_size : (planes skipped : ℕ) (parts : List LayerPart) (bytes : List ℕ) → AreEnds 0 parts (length bytes) → sum_by (λ p. length p.1) (table_of planes skipped parts bytes).parts ≡ last_end 0 parts
table_size planes skipped parts bytes are =
    sym (length-flat_map (λ (p : ℕ × List ℕ). p.1) (table_of planes skipped parts bytes).parts) ∙ ap length (table_bytes planes skipped parts bytes are)
    ∙ length-take-le (last_end 0 parts) bytes (last_within 0 parts (length bytes) (omega arith) are).1

pub table_passes : (planes skipped : ℕ) (parts : List LayerPart) (bytes : List ℕ) → sum_by (λ p. p.0) (table_of planes skipped parts bytes).parts ≡ sum_by (λ p. p.passes) parts
table_passes planes skipped parts bytes = skipped_passes skipped (cut_parts 0 parts bytes) ∙ cut_passes 0 parts bytes

-- One part more.
pub ends_wider : (from : ℕ) (parts : List LayerPart) (size more : ℕ) → size ≤ more → AreEnds from parts size → AreEnds from parts more
ends_wider from [] size more wide are = tt
ends_wider from (p ∷ parts) size more wide are = let e = are.1 in (are.0, omega (arith, e, wide), ends_wider p.end parts size more wide are.2)

pub ends_push : (from : ℕ) (parts : List LayerPart) (size more : ℕ) (p : LayerPart) → from ≤ size → AreEnds from parts size → size ≤ p.end → p.end ≤ more → AreEnds from (parts ++ p ∷ []) more
ends_push from [] size more p low are begin end = (omega (arith, low, begin), end, tt)
ends_push from (q ∷ parts) size more p low are begin end = let e = are.1 in (are.0, omega (arith, e, begin, end), ends_push q.end parts size more p e are.2 begin end)
