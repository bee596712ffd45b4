-- The bodies of written packets: they are those of the layers' parts, and those of a block are all of its table.
use Rattle.std.proofs.Common.{◌≡◌, ℕ, zero, suc, ◌+◌, ◌*◌, ◌<◌, ◌≤◌, Bool, true, false, cond, List, [], ◌∷◌, ◌++◌, length, take, map, Option, Some, None, refl, sym, ap, ◌∙◌, subst, inl, inr, arith}
use Rattle.std.specs.Prelude.{not, nat_eq, sum_by, ◌&&◌, ◌==◌}
use Rattle.std.specs.List.{AllByRecursion, flat_map, list_any, range_with_len}
use Rattle.std.proofs.lemmas.Bool.{cases_Bool, or_parts}
use Rattle.std.proofs.lemmas.Bool.Decides.{nat_tests}
use Rattle.std.proofs.lemmas.List.{append-nil, map-append, take_all, take_more}
use Rattle.std.proofs.lemmas.List.Concat.{flat_map-append}
use Rattle.std.proofs.lemmas.List.Elements.{filter-append}
use Rattle.std.proofs.lemmas.List.Sums.{sum_by-append, sum_by_more}
use Rattle.jk_packet.specs.declared.shape.BandShape.{BandShape}
use Rattle.jk_packet.specs.declared.header.BlockContribution.{BlockContribution}
use Rattle.jk_packet.specs.Reading.{part_of}
use Rattle.jk_packet.specs.PacketText.{PacketContribution, option_list, band_shape, block_parts, band_parts, bands_parts, parts_of}
use Rattle.jk_packet.specs.Written.{Table, part_in, contribution_in, band_tables, table_at, has_passes, is_full, band_layer, layer_in, bodies_text, body_in, band_bodies, bands_bodies, bodies_in, bodies_of, HasBlock, IsTable, AreTables}
use Rattle.jk_packet.proofs.HistoryLaws.{own_contribution, contribution_none, contribution_some}
use Rattle.jk_packet.proofs.WrittenLaws.{layer_full, layer_empty}
use Rattle.jk_packet.proofs.BandWriting.{range_more}

-- a body: its part, and its bytes
abbrev Body : Type 0
Body = BlockContribution × List ℕ

-- a block without passes has no body, and one with passes has one
body_none : (i j l : ℕ) (t : Table) → nat_eq (part_in t l).0 0 ≡ true → body_in i j l t ≡ []
body_none i j l t none = ap (λ (c : Option PacketContribution). map (λ d. (part_of i j d.zero_planes d.piece, (part_in t l).1)) (option_list c)) (contribution_none t l none)

abbrev own_body : (i j l : ℕ) → Table → Body
own_body i j l t = (part_of i j t.zero_planes (own_contribution t l).piece, (part_in t l).1)

body_some : (i j l : ℕ) (t : Table) → nat_eq (part_in t l).0 0 ≡ false → body_in i j l t ≡ own_body i j l t ∷ []
body_some i j l t some = ap (λ (c : Option PacketContribution). map (λ d. (part_of i j d.zero_planes d.piece, (part_in t l).1)) (option_list c)) (contribution_some t l some)

-- The parts are those of the layer.
body_part : (i j : ℕ) (bytes : List ℕ) (c : Option PacketContribution) → map (λ (b : Body). b.0) (map (λ d. (part_of i j d.zero_planes d.piece, bytes)) (option_list c)) ≡ block_parts i j c
body_part i j bytes None = refl
body_part i j bytes (Some c) = refl

band_parts_are : (i j l : ℕ) (ts : List Table) → map (λ (b : Body). b.0) (band_bodies i j l ts) ≡ band_parts i j (band_layer ts l)
unfolding band_bodies band_parts
band_parts_are i j l [] = refl
band_parts_are i j l (t ∷ ts) =
    map-append (λ (b : Body). b.0) (body_in i j l t) (band_bodies i (j + 1) l ts)
    ∙ ap (λ (ps : List BlockContribution). ps ++ map (λ (b : Body). b.0) (band_bodies i (j + 1) l ts)) (body_part i j (part_in t l).1 (contribution_in t l))
    ∙ ap (λ (ps : List BlockContribution). block_parts i j (contribution_in t l) ++ ps) (band_parts_are i (j + 1) l ts)

bands_parts_are : (i l : ℕ) (tables : List (List Table)) → map (λ (b : Body). b.0) (bands_bodies i l tables) ≡ bands_parts i (map (λ ts. band_layer ts l) tables)
unfolding bands_bodies bands_parts
bands_parts_are i l [] = refl
bands_parts_are i l (ts ∷ tables) =
    map-append (λ (b : Body). b.0) (band_bodies i 0 l ts) (bands_bodies (i + 1) l tables)
    ∙ ap (λ (ps : List BlockContribution). ps ++ map (λ (b : Body). b.0) (bands_bodies (i + 1) l tables)) (band_parts_are i 0 l ts)
    ∙ ap (λ (ps : List BlockContribution). band_parts i 0 (band_layer ts l) ++ ps) (bands_parts_are (i + 1) l tables)

not_test : (b : Bool) → not b ≡ false → b ≡ true
not_test true e = refl
not_test false e = absurd (cc)

band_empty : (i j l : ℕ) (ts : List Table) → list_any (has_passes l) ts ≡ false → band_bodies i j l ts ≡ []
unfolding band_bodies
band_empty i j l [] empty = refl
band_empty i j l (t ∷ ts) empty =
    let both = or_parts (has_passes l t) (list_any (has_passes l) ts) empty in
    ap (λ (bs : List Body). bs ++ band_bodies i (j + 1) l ts) (body_none i j l t (not_test (nat_eq (part_in t l).0 0) both.0)) ∙ band_empty i (j + 1) l ts both.1

bands_empty : (i l : ℕ) (tables : List (List Table)) → is_full tables l ≡ false → bands_bodies i l tables ≡ []
unfolding bands_bodies
bands_empty i l [] empty = refl
bands_empty i l (ts ∷ tables) empty =
    let both = or_parts (list_any (has_passes l) ts) (is_full tables l) empty in
    ap (λ (bs : List Body). bs ++ bands_bodies (i + 1) l tables) (band_empty i 0 l ts both.0) ∙ bands_empty (i + 1) l tables both.1

pub bodies_parts : (tables : List (List Table)) (l : ℕ) → map (λ b. b.0) (bodies_in tables l) ≡ parts_of (layer_in tables l)
bodies_parts tables l = elim (cases_Bool (is_full tables l)) [
  | inl full ↦ bands_parts_are 0 l tables ∙ ap parts_of (sym (layer_full tables l full))
  | inr empty ↦ ap (λ (bs : List Body). map (λ (b : Body). b.0) bs) (bands_empty 0 l tables empty) ∙ ap parts_of (sym (layer_empty tables l empty))
]

-- Each body is as long as its part says.
abbrev IsLong : Body → Type 0
IsLong b = length b.1 ≡ b.0.length

all_append : (P : Body → Type 0) (xs ys : List Body) → AllByRecursion P xs → AllByRecursion P ys → AllByRecursion P (xs ++ ys)
all_append P [] ys all more = more
all_append P (x ∷ xs) ys all more = (all.0, all_append P xs ys all.1 more)

body_all : (P : Body → Type 0) (i j l : ℕ) (t : Table) → P (own_body i j l t) → AllByRecursion P (body_in i j l t)
body_all P i j l t own = elim (cases_Bool (nat_eq (part_in t l).0 0)) [
  | inl none ↦ subst (λ (bs : List Body). AllByRecursion P bs) (sym (body_none i j l t none)) tt
  | inr some ↦ subst (λ (bs : List Body). AllByRecursion P bs) (sym (body_some i j l t some)) (own, tt)
]

band_lengths : (i j l : ℕ) (ts : List Table) → AllByRecursion IsLong (band_bodies i j l ts)
unfolding band_bodies
band_lengths i j l [] = tt
band_lengths i j l (t ∷ ts) = all_append IsLong (body_in i j l t) (band_bodies i (j + 1) l ts) (body_all IsLong i j l t refl) (band_lengths i (j + 1) l ts)

bands_lengths : (i l : ℕ) (tables : List (List Table)) → AllByRecursion IsLong (bands_bodies i l tables)
unfolding bands_bodies
bands_lengths i l [] = tt
bands_lengths i l (ts ∷ tables) = all_append IsLong (band_bodies i 0 l ts) (bands_bodies (i + 1) l tables) (band_lengths i 0 l ts) (bands_lengths (i + 1) l tables)

pub bodies_lengths : (tables : List (List Table)) (l : ℕ) → AllByRecursion (λ b. length b.1 ≡ b.0.length) (bodies_in tables l)
bodies_lengths tables l = bands_lengths 0 l tables

-- Their bytes are those of the tables.
abbrev IsBare : ℕ → Table → Type 0
IsBare l t = (part_in t l).0 ≡ 0 → (part_in t l).1 ≡ []

body_bytes : (i j l : ℕ) (t : Table) → IsBare l t → flat_map (λ (b : Body). b.1) (body_in i j l t) ≡ (part_in t l).1
body_bytes i j l t bare = elim (cases_Bool (nat_eq (part_in t l).0 0)) [
  | inl none ↦ ap (flat_map (λ (b : Body). b.1)) (body_none i j l t none) ∙ sym (bare (grind (arith, nat_tests)))
  | inr some ↦ ap (flat_map (λ (b : Body). b.1)) (body_some i j l t some) ∙ append-nil (part_in t l).1
]

band_bytes : (i j l : ℕ) (ts : List Table) → ((k : ℕ) → k < length ts → IsBare l (table_at ts k)) → flat_map (λ (b : Body). b.1) (band_bodies i j l ts) ≡ flat_map (λ t. (part_in t l).1) ts
unfolding band_bodies
band_bytes i j l [] bare = refl
band_bytes i j l (t ∷ ts) bare =
    flat_map-append (λ (b : Body). b.1) (body_in i j l t) (band_bodies i (j + 1) l ts)
    ∙ ap (λ (bs : List ℕ). bs ++ flat_map (λ (b : Body). b.1) (band_bodies i (j + 1) l ts)) (body_bytes i j l t (bare 0 (omega arith)))
    ∙ ap (λ (bs : List ℕ). (part_in t l).1 ++ bs) (band_bytes i (j + 1) l ts (λ k less. bare (suc k) (omega (arith, less))))

bands_bytes : (i l : ℕ) (tables : List (List Table)) → ((n k : ℕ) → n < length tables → k < length (band_tables tables n) → IsBare l (table_at (band_tables tables n) k)) → flat_map (λ (b : Body). b.1) (bands_bodies i l tables) ≡ bodies_text tables l
unfolding bands_bodies bodies_text
bands_bytes i l [] bare = refl
bands_bytes i l (ts ∷ tables) bare =
    flat_map-append (λ (b : Body). b.1) (band_bodies i 0 l ts) (bands_bodies (i + 1) l tables)
    ∙ ap (λ (bs : List ℕ). bs ++ flat_map (λ (b : Body). b.1) (bands_bodies (i + 1) l tables)) (band_bytes i 0 l ts (λ k less. bare 0 k (omega arith) less))
    ∙ ap (λ (bs : List ℕ). flat_map (λ t. (part_in t l).1) ts ++ bs) (bands_bytes (i + 1) l tables (λ n k less within. bare (suc n) k (omega (arith, less)) within))

bare_in : (shapes : List BandShape) (layers : ℕ) (tables : List (List Table)) (l : ℕ) → AreTables shapes layers tables → l < layers → (n k : ℕ) → n < length tables → k < length (band_tables tables n) → IsBare l (table_at (band_tables tables n) k)
bare_in shapes layers tables l are within n k less inside =
    let band = are.each n (let e = are.long in omega (arith, e, less)) in
    (band.each k (let e = band.long in omega (arith, e, inside))).bare l within

pub bodies_joined : (shapes : List BandShape) (layers : ℕ) (tables : List (List Table)) (l : ℕ) → AreTables shapes layers tables → l < layers → flat_map (λ b. b.1) (bodies_in tables l) ≡ bodies_text tables l
bodies_joined shapes layers tables l are within = bands_bytes 0 l tables (bare_in shapes layers tables l are within)

-- Those of one block.
abbrev no_body : List Body
no_body = []

filter_body : (i j n k l : ℕ) (t : Table) → bodies_of i j (body_in n k l t) ≡ cond ((n == i) && (k == j)) (body_in n k l t) []
filter_body i j n k l t = elim (cases_Bool (nat_eq (part_in t l).0 0)) [
  | inl none ↦
      ap (bodies_of i j) (body_none n k l t none) ∙ sym (no_choice ((n == i) && (k == j)))
      ∙ ap (λ (bs : List Body). cond ((n == i) && (k == j)) bs []) (sym (body_none n k l t none))
  | inr some ↦ ap (bodies_of i j) (body_some n k l t some) ∙ ap (λ (bs : List Body). cond ((n == i) && (k == j)) bs []) (sym (body_some n k l t some))
]
  where
    no_choice : (b : Bool) → cond b no_body no_body ≡ no_body
    no_choice true = refl
    no_choice false = refl

filter_here : (i j l : ℕ) (t : Table) → bodies_of i j (body_in i j l t) ≡ body_in i j l t
filter_here i j l t =
    let test : ((i == i) && (j == j)) ≡ true = both_same (i == i) (j == j) (grind (arith, nat_tests)) (grind (arith, nat_tests)) in
    filter_body i j i j l t ∙ ap (λ (b : Bool). cond b (body_in i j l t) []) test
  where
    both_same : (a b : Bool) → a ≡ true → b ≡ true → (a && b) ≡ true
    both_same a b p q = ap (λ x. x && b) p ∙ q

filter_band_apart : (i j n k l : ℕ) (t : Table) → (n == i) ≡ false → bodies_of i j (body_in n k l t) ≡ []
filter_band_apart i j n k l t apart = filter_body i j n k l t ∙ ap (λ (b : Bool). cond (b && (k == j)) (body_in n k l t) []) apart

filter_block_apart : (i j n k l : ℕ) (t : Table) → (k == j) ≡ false → bodies_of i j (body_in n k l t) ≡ []
filter_block_apart i j n k l t apart = filter_body i j n k l t ∙ ap (λ (b : Bool). cond b (body_in n k l t) []) (and_false (n == i) (k == j) apart)
  where
    and_false : (a b : Bool) → b ≡ false → (a && b) ≡ false
    and_false true b e = e
    and_false false b e = refl

other_band : (i j n k l : ℕ) (ts : List Table) → (n == i) ≡ false → bodies_of i j (band_bodies n k l ts) ≡ []
unfolding band_bodies
other_band i j n k l [] apart = refl
other_band i j n k l (t ∷ ts) apart =
    filter-append (λ (b : Body). (b.0.band == i) && (b.0.block == j)) (body_in n k l t) (band_bodies n (k + 1) l ts)
    ∙ ap (λ (bs : List Body). bs ++ bodies_of i j (band_bodies n (k + 1) l ts)) (filter_band_apart i j n k l t apart)
    ∙ other_band i j n (k + 1) l ts apart

later_blocks : (i j n k l : ℕ) (ts : List Table) → j < k → bodies_of i j (band_bodies n k l ts) ≡ []
unfolding band_bodies
later_blocks i j n k l [] past = refl
later_blocks i j n k l (t ∷ ts) past =
    filter-append (λ (b : Body). (b.0.band == i) && (b.0.block == j)) (body_in n k l t) (band_bodies n (k + 1) l ts)
    ∙ ap (λ (bs : List Body). bs ++ bodies_of i j (band_bodies n (k + 1) l ts)) (filter_block_apart i j n k l t (grind (arith, nat_tests)))
    ∙ later_blocks i j n (k + 1) l ts (omega (arith, past))

own_blocks : (i j k m l : ℕ) (ts : List Table) → k + m ≡ j → m < length ts → bodies_of i j (band_bodies i k l ts) ≡ body_in i j l (table_at ts m)
unfolding band_bodies
own_blocks i j k m l [] at less = absurd (omega (arith, less))
own_blocks i j k zero l (t ∷ ts) at less =
    let same : k ≡ j = omega (arith, at) in
    filter-append (λ (b : Body). (b.0.band == i) && (b.0.block == j)) (body_in i k l t) (band_bodies i (k + 1) l ts)
    ∙ ap (λ (bs : List Body). bodies_of i j (body_in i k l t) ++ bs) (later_blocks i j i (k + 1) l ts (omega (arith, same)))
    ∙ append-nil (bodies_of i j (body_in i k l t))
    ∙ ap (λ n. bodies_of i j (body_in i n l t)) same
    ∙ filter_here i j l t
own_blocks i j k (suc m) l (t ∷ ts) at less =
    filter-append (λ (b : Body). (b.0.band == i) && (b.0.block == j)) (body_in i k l t) (band_bodies i (k + 1) l ts)
    ∙ ap (λ (bs : List Body). bs ++ bodies_of i j (band_bodies i (k + 1) l ts)) (filter_block_apart i j i k l t (let apart : k < j = omega (arith, at) in grind (arith, nat_tests)))
    ∙ own_blocks i j (k + 1) m l ts (omega (arith, at)) (omega (arith, less))

later_bands : (i j n l : ℕ) (tables : List (List Table)) → i < n → bodies_of i j (bands_bodies n l tables) ≡ []
unfolding bands_bodies
later_bands i j n l [] past = refl
later_bands i j n l (ts ∷ tables) past =
    filter-append (λ (b : Body). (b.0.band == i) && (b.0.block == j)) (band_bodies n 0 l ts) (bands_bodies (n + 1) l tables)
    ∙ ap (λ (bs : List Body). bs ++ bodies_of i j (bands_bodies (n + 1) l tables)) (other_band i j n 0 l ts (grind (arith, nat_tests)))
    ∙ later_bands i j (n + 1) l tables (omega (arith, past))

own_bands : (i j n m l : ℕ) (tables : List (List Table)) → n + m ≡ i → m < length tables → j < length (band_tables tables m) → bodies_of i j (bands_bodies n l tables) ≡ body_in i j l (table_at (band_tables tables m) j)
unfolding bands_bodies
own_bands i j n m l [] at less inside = absurd (omega (arith, less))
own_bands i j n zero l (ts ∷ tables) at less inside =
    let same : n ≡ i = omega (arith, at) in
    filter-append (λ (b : Body). (b.0.band == i) && (b.0.block == j)) (band_bodies n 0 l ts) (bands_bodies (n + 1) l tables)
    ∙ ap (λ (bs : List Body). bodies_of i j (band_bodies n 0 l ts) ++ bs) (later_bands i j (n + 1) l tables (omega (arith, same)))
    ∙ append-nil (bodies_of i j (band_bodies n 0 l ts))
    ∙ ap (λ k. bodies_of i j (band_bodies k 0 l ts)) same
    ∙ own_blocks i j 0 j l ts (let e : 0 + j ≡ j = omega arith in e) inside
own_bands i j n (suc m) l (ts ∷ tables) at less inside =
    filter-append (λ (b : Body). (b.0.band == i) && (b.0.block == j)) (band_bodies n 0 l ts) (bands_bodies (n + 1) l tables)
    ∙ ap (λ (bs : List Body). bs ++ bodies_of i j (bands_bodies (n + 1) l tables)) (other_band i j n 0 l ts (let apart : n < i = omega (arith, at) in grind (arith, nat_tests)))
    ∙ own_bands i j (n + 1) m l tables (omega (arith, at)) (omega (arith, less)) inside

-- what the first n layers have of a block
abbrev pub table_bodies : (i j : ℕ) → Table → ℕ → List (BlockContribution × List ℕ)
table_bodies i j t n = flat_map (λ l. body_in i j l t) (range_with_len 0 n)

gathered : (i j : ℕ) (tables : List (List Table)) (ls : List ℕ) → i < length tables → j < length (band_tables tables i) → bodies_of i j (flat_map (bodies_in tables) ls) ≡ flat_map (λ l. body_in i j l (table_at (band_tables tables i) j)) ls
gathered i j tables [] less inside = refl
gathered i j tables (l ∷ ls) less inside =
    filter-append (λ (b : Body). (b.0.band == i) && (b.0.block == j)) (bodies_in tables l) (flat_map (bodies_in tables) ls)
    ∙ ap (λ (bs : List Body). bs ++ bodies_of i j (flat_map (bodies_in tables) ls)) (own_bands i j 0 i l tables (let e : 0 + i ≡ i = omega arith in e) less inside)
    ∙ ap (λ (bs : List Body). body_in i j l (table_at (band_tables tables i) j) ++ bs) (gathered i j tables ls less inside)

bodies_more : (i j : ℕ) (t : Table) (n : ℕ) → table_bodies i j t (n + 1) ≡ table_bodies i j t n ++ body_in i j n t
bodies_more i j t n =
    let f : ℕ → List Body = λ l. body_in i j l t in
    ap (flat_map f) (range_more n) ∙ flat_map-append f (range_with_len 0 n) (n ∷ []) ∙ ap (λ (bs : List Body). flat_map f (range_with_len 0 n) ++ bs) (append-nil (f n))

passes_in_body : (i j l : ℕ) (t : Table) → sum_by (λ (b : Body). b.0.passes) (body_in i j l t) ≡ (part_in t l).0
passes_in_body i j l t = elim (cases_Bool (nat_eq (part_in t l).0 0)) [
  | inl none ↦ ap (sum_by (λ (b : Body). b.0.passes)) (body_none i j l t none) ∙ (let z : 0 ≡ (part_in t l).0 = grind (arith, nat_tests) in z)
  | inr some ↦ ap (sum_by (λ (b : Body). b.0.passes)) (body_some i j l t some) ∙ (let z : 0 + (part_in t l).0 ≡ (part_in t l).0 = omega arith in z)
]

-- the first n layers have the passes and the bytes of the first n parts
pub record HasFront (t : Table) (n : ℕ) (bodies : List (BlockContribution × List ℕ)) : Type 0 where
  pub zeros : AllByRecursion (λ b. b.0.zero_planes ≡ t.zero_planes) bodies
  pub passes : sum_by (λ b. b.0.passes) bodies ≡ sum_by (λ p. p.0) (take n t.parts)
  pub bytes : flat_map (λ b. b.1) bodies ≡ flat_map (λ p. p.1) (take n t.parts)

pub front_has : (i j : ℕ) (t : Table) (n : ℕ) → n ≤ length t.parts → ((l : ℕ) → l < n → IsBare l t) → HasFront t n (table_bodies i j t n)
front_has i j t zero within bare = record { zeros = tt; passes = refl; bytes = refl }
front_has i j t (suc n) within bare =
    let before = front_has i j t n (omega (arith, within)) (λ l less. bare l (omega (arith, less))) in
    let next : suc n ≡ n + 1 = omega arith in
    let less : n < length t.parts = omega (arith, within) in
    let more : table_bodies i j t (suc n) ≡ table_bodies i j t n ++ body_in i j n t = ap (table_bodies i j t) next ∙ bodies_more i j t n in
    record {
      zeros = subst (λ (bs : List Body). AllByRecursion (λ b. b.0.zero_planes ≡ t.zero_planes) bs) (sym more)
          (all_append (λ b. b.0.zero_planes ≡ t.zero_planes) (table_bodies i j t n) (body_in i j n t) before.zeros (body_all (λ b. b.0.zero_planes ≡ t.zero_planes) i j n t refl));
      passes =
          ap (sum_by (λ (b : Body). b.0.passes)) more
          ∙ sum_by-append (λ (b : Body). b.0.passes) (table_bodies i j t n) (body_in i j n t)
          ∙ ap (λ k. k + sum_by (λ (b : Body). b.0.passes) (body_in i j n t)) before.passes
          ∙ ap (λ k. sum_by (λ (p : ℕ × List ℕ). p.0) (take n t.parts) + k) (passes_in_body i j n t)
          ∙ sym (sum_by_more (λ (p : ℕ × List ℕ). p.0) t.parts n (0, []) less)
          ∙ ap (λ k. sum_by (λ (p : ℕ × List ℕ). p.0) (take k t.parts)) (sym next);
      bytes =
          ap (flat_map (λ (b : Body). b.1)) more
          ∙ flat_map-append (λ (b : Body). b.1) (table_bodies i j t n) (body_in i j n t)
          ∙ ap (λ (bs : List ℕ). bs ++ flat_map (λ (b : Body). b.1) (body_in i j n t)) before.bytes
          ∙ ap (λ (bs : List ℕ). flat_map (λ (p : ℕ × List ℕ). p.1) (take n t.parts) ++ bs) (body_bytes i j n t (bare n (omega arith)))
          ∙ ap (λ (bs : List ℕ). flat_map (λ (p : ℕ × List ℕ). p.1) (take n t.parts) ++ bs) (sym (append-nil (part_in t n).1))
          ∙ sym (flat_map-append (λ (p : ℕ × List ℕ). p.1) (take n t.parts) (part_in t n ∷ []))
          ∙ ap (flat_map (λ (p : ℕ × List ℕ). p.1)) (sym (take_more t.parts n (0, []) less))
          ∙ ap (λ k. flat_map (λ (p : ℕ × List ℕ). p.1) (take k t.parts)) (sym next);
    }

pub has_block : (i j layers planes : ℕ) (t : Table) → IsTable layers planes t → HasBlock t (table_bodies i j t layers)
has_block i j layers planes t is =
    let front = front_has i j t layers (let e = is.long in omega (arith, e)) is.bare in
    let all : take layers t.parts ≡ t.parts = take_all layers t.parts (let e = is.long in omega (arith, e)) in
    record {
      zeros = front.zeros;
      passes = front.passes ∙ ap (sum_by (λ (p : ℕ × List ℕ). p.0)) all;
      bytes = front.bytes ∙ ap (flat_map (λ (p : ℕ × List ℕ). p.1)) all;
    }

-- What the packets have of a block is its table.
pub block_written : (shapes : List BandShape) (layers : ℕ) (tables : List (List Table)) (i j : ℕ) → AreTables shapes layers tables → i < length shapes → j < (band_shape shapes i).across * (band_shape shapes i).down
    → HasBlock (table_at (band_tables tables i) j) (bodies_of i j (flat_map (bodies_in tables) (range_with_len 0 layers)))
block_written shapes layers tables i j are in_bands in_blocks =
    let band = are.each i in_bands in
    let t = table_at (band_tables tables i) j in
    subst (λ (bs : List Body). HasBlock t bs) (sym (gathered i j tables (range_with_len 0 layers) (let e = are.long in omega (arith, e, in_bands)) (let e = band.long in omega (arith, e, in_blocks))))
    (has_block i j layers (band_shape shapes i).planes t (band.each j in_blocks))

-- What the packets of the first n layers have of a block is the front of its table.
pub front_written : (shapes : List BandShape) (layers n : ℕ) (tables : List (List Table)) (i j : ℕ) → n ≤ layers → AreTables shapes layers tables → i < length shapes → j < (band_shape shapes i).across * (band_shape shapes i).down
    → HasFront (table_at (band_tables tables i) j) n (bodies_of i j (flat_map (bodies_in tables) (range_with_len 0 n)))
front_written shapes layers n tables i j few are in_bands in_blocks =
    let band = are.each i in_bands in
    let t = table_at (band_tables tables i) j in
    let is = band.each j in_blocks in
    subst (λ (bs : List Body). HasFront t n bs) (sym (gathered i j tables (range_with_len 0 n) (let e = are.long in omega (arith, e, in_bands)) (let e = band.long in omega (arith, e, in_blocks))))
    (front_has i j t n (let e = is.long in omega (arith, e, few)) (λ l less. is.bare l (omega (arith, less, few))))
