-- Packets gathered by their precincts, and bodies by their code-blocks: one more.
use Rattle.std.proofs.Common.{◌≡◌, ℕ, zero, suc, ◌+◌, ◌<◌, ◌≤◌, ◌-◌, ◌⊎◌, ◌≢◌, Bool, true, false, nat_eq, nat_le, nat_lt, ◌&&◌, ◌==◌, if◌then◌else◌, List, [], ◌∷◌, ◌++◌, length, map, filter, take, get_or, set, min, sum_by, All, refl, sym, ap, subst, ◌∙◌, inl, inr, arith, lit≤}
use Rattle.std.specs.List.{AllByRecursion, flat_map}
use Rattle.std.specs.Global.{Vec}
use Rattle.std.proofs.Math.Seq.{take-suc}
use Rattle.std.proofs.lemmas.Bool.{cases_lt, lt-ltb, le-leb, lt-leb}
use Rattle.std.proofs.lemmas.Bool.Decides.{eqb_tells}
use Rattle.std.proofs.lemmas.List.{map-append, map-set, length-map, get_or-map, get_or-set_same, get_or-set_other, append-nil, append_assoc}
use Rattle.std.proofs.lemmas.List.Elements.{filter-append, All-nil, All-push}
use Rattle.std.proofs.lemmas.Grind.{flat_map-append}
use Rattle.std.proofs.lemmas.List.Sums.{sum_by-append, sum_by-cons}
use Rattle.jk_packet.specs.declared.header.BlockContribution.{BlockContribution}
use Rattle.jk_walk.specs.declared.places.PacketPlace.{PacketPlace}
use Rattle.jk_walk.specs.TilePackets.{slice_of, Body}
use Rattle.jk_walk.specs.WalkReading.{bodies_at}
use Rattle.jk_tile.specs.declared.decoding.bodies.BodyPlace.{BodyPlace}
use Rattle.jk_tile.specs.TileBlocks.{block_bodies}
use Rattle.jk_tile.specs.decoding.Gathered.{place_in, body_of, bodies_in, IsInside, AreByBlock}
use Rattle.jk_math.specs.Lists.{list_at}

-- ---- lists of vectors

-- a list behind the last vector
pub list_push : {X : Type 0} (lists : List (Vec X)) (v : Vec X) → v.items ≡ [] → ((n : ℕ) → list_at lists n ≡ []) → (n : ℕ) → list_at (lists ++ v ∷ []) n ≡ []
list_push [] v e none zero = e
list_push [] v e none (suc n) = refl
list_push (x ∷ lists) v e none zero = none 0
list_push (x ∷ lists) v e none (suc n) = list_push lists v e (λ k. none (suc k)) n

-- another vector in the place of one
pub list_set : {X : Type 0} (lists : List (Vec X)) (i : ℕ) (old v : Vec X) (x : X) → i < length lists → old ≡ get_or lists i old → v.items ≡ old.items ++ x ∷ []
    → (n : ℕ) → list_at (set lists i v) n ≡ (if nat_eq i n then list_at lists n ++ x ∷ [] else list_at lists n)
list_set {X} lists i old v x lt was is n =
    let items : Vec X → List X = λ w. w.items in
    let inside : i < length (map items lists) = omega (arith, lt, length-map lists items) in
    let e : v.items ≡ list_at lists i ++ x ∷ [] = is ∙ ap (λ (w : Vec X). w.items ++ x ∷ []) was ∙ ap (λ (xs : List X). xs ++ x ∷ []) (sym (get_or-map items lists i old [] lt)) in
    let put : list_at (set lists i v) n ≡ get_or (set (map items lists) i v.items) n [] = ap (λ (ls : List (List X)). get_or ls n []) (map-set items lists i v) in
    elim (eqb_tells i n) [
      | inl same ↦
          put ∙ ap (λ k. get_or (set (map items lists) i v.items) k []) (sym same.1) ∙ get_or-set_same (map items lists) i v.items [] inside
          ∙ e ∙ ap (λ k. list_at lists k ++ x ∷ []) same.1 ∙ ap (λ (b : Bool). if b then list_at lists n ++ x ∷ [] else list_at lists n) (sym same.0)
      | inr other ↦
          put ∙ get_or-set_other (map items lists) i n v.items [] (λ back. other.1 (sym back)) ∙ ap (λ (b : Bool). if b then list_at lists n ++ x ∷ [] else list_at lists n) (sym other.0)
    ]

-- the first items and one more
pub take_one : {X : Type 0} (xs : List X) (k : ℕ) (d : X) → k < length xs → take (k + 1) xs ≡ take k xs ++ (get_or xs k d ∷ [])
take_one xs k d lt = let one : k + 1 ≡ suc k = omega arith in ap (λ n. take n xs) one ∙ take-suc xs k d lt

-- ---- filters

filter_yes : {X : Type 0} (P : X → Bool) (xs : List X) (x : X) → P x ≡ true → filter P (xs ++ x ∷ []) ≡ filter P xs ++ x ∷ []
filter_yes P xs x e = filter-append P xs (x ∷ []) ∙ ap (λ b. filter P xs ++ (if b then x ∷ [] else [])) e

filter_no : {X : Type 0} (P : X → Bool) (xs : List X) (x : X) → P x ≡ false → filter P (xs ++ x ∷ []) ≡ filter P xs
filter_no P xs x e = filter-append P xs (x ∷ []) ∙ ap (λ b. filter P xs ++ (if b then x ∷ [] else [])) e ∙ append-nil (filter P xs)

-- whether one of so many is another
pub same_test : (a b : Bool) (p n count : ℕ) → n < count → ((a && (b && nat_lt p count)) && nat_eq p n) ≡ (a && (b && nat_eq p n))
same_test false b p n count lt = refl
same_test true false p n count lt = refl
same_test true true p n count lt = elim (eqb_tells p n) [
  | inl same ↦ let small : nat_lt p count ≡ true = lt-ltb p count (omega (arith, same.1, lt)) in ap (λ t. t && nat_eq p n) small
  | inr other ↦ ap (λ t. nat_lt p count && t) other.0 ∙ and_false (nat_lt p count) ∙ sym other.0
]
  where
    and_false : (b : Bool) → (b && false) ≡ false
    and_false true = refl
    and_false false = refl

-- ---- bodies

-- the body at the place of a part
abbrev pub body_at : List ℕ → ℕ → BlockContribution → Body
body_at bytes start p = record { part = p; bytes = slice_of bytes (start, start + p.length) }

abbrev pub lengths : List BlockContribution → ℕ
lengths parts = sum_by (λ p. p.length) parts

no_part : BlockContribution
no_part = record { band = 0; block = 0; zero_planes = 0; passes = 0; length = 0 }

-- the bodies of parts with one more
bodies_push : (bytes : List ℕ) (at : ℕ) (parts : List BlockContribution) (p : BlockContribution) → bodies_at bytes at (parts ++ p ∷ []) ≡ bodies_at bytes at parts ++ body_at bytes (at + lengths parts) p ∷ []
bodies_push bytes at [] p = let e : at ≡ at + 0 = omega arith in ap (λ k. body_at bytes k p ∷ []) e
bodies_push bytes at (q ∷ parts) p =
    let sum = sum_by-cons (λ (x : BlockContribution). x.length) q parts in
    let e : at + q.length + lengths parts ≡ at + lengths (q ∷ parts) = omega (arith, sum) in
    ap (λ (bs : List Body). record { part = q; bytes = slice_of bytes (at, at + q.length) } ∷ bs)
    (bodies_push bytes (at + q.length) parts p ∙ ap (λ k. bodies_at bytes (at + q.length) parts ++ body_at bytes k p ∷ []) e)

pub bodies_more : (bytes : List ℕ) (at : ℕ) (parts : List BlockContribution) (k : ℕ) (d : BlockContribution) → k < length parts
    → bodies_at bytes at (take (k + 1) parts) ≡ bodies_at bytes at (take k parts) ++ body_at bytes (at + lengths (take k parts)) (get_or parts k d) ∷ []
bodies_more bytes at parts k d lt = ap (bodies_at bytes at) (take_one parts k d lt) ∙ bodies_push bytes at (take k parts) (get_or parts k d)

pub lengths_more : (parts : List BlockContribution) (k : ℕ) (d : BlockContribution) → k < length parts → lengths (take (k + 1) parts) ≡ lengths (take k parts) + (get_or parts k d).length
lengths_more parts k d lt =
    let whole = ap lengths (take_one parts k d lt) in
    let sum = sum_by-append (λ (q : BlockContribution). q.length) (take k parts) (get_or parts k d ∷ []) in
    let last = sum_by-cons (λ (q : BlockContribution). q.length) (get_or parts k d) [] in
    omega (arith, whole, sum, last)

pub lengths_within : (parts : List BlockContribution) (k : ℕ) → lengths (take k parts) ≤ lengths parts
lengths_within [] zero = lit≤ tt
lengths_within [] (suc k) = lit≤ tt
lengths_within (p ∷ parts) zero = omega arith
lengths_within (p ∷ parts) (suc k) =
    let h = lengths_within parts k in
    omega (arith, h, sum_by-cons (λ (x : BlockContribution). x.length) p parts, sum_by-cons (λ (x : BlockContribution). x.length) p (take k parts))

pub by_block_none : (size i first count : ℕ) (lists : List (Vec BodyPlace)) → length lists ≡ count → ((n : ℕ) → list_at lists n ≡ []) → AreByBlock size i first count (λ bytes. []) lists
by_block_none size i first count lists long none = record {
  long = long;
  inside = λ j lt. subst (All (IsInside size)) (sym (none j)) (All-nil (IsInside size));
  each = λ bytes j lt. ap (map (body_of bytes)) (none j);
}

-- whether a part is of the code-block of a list
same_block : (a : Bool) (p n first count : ℕ) → n < count → ((a && (nat_le first p && nat_lt (p - first) count)) && nat_eq (p - first) n) ≡ (a && nat_eq p (first + n))
same_block false p n first count lt = refl
same_block true p n first count lt = elim (cases_lt p first) [
  | inl less ↦
      let low : nat_le first p ≡ false = lt-leb first p less in
      let other : nat_eq p (first + n) ≡ false = apart p (first + n) (λ e. omega (arith, e, less)) in
      ap (λ t. (t && nat_lt (p - first) count) && nat_eq (p - first) n) low ∙ sym other
  | inr more ↦
      let high : nat_le first p ≡ true = le-leb first p more in
      ap (λ t. (t && nat_lt (p - first) count) && nat_eq (p - first) n) high ∙ same_test true true (p - first) n count lt ∙ moved more (eqb_tells (p - first) n)
]
  where
    apart : (a b : ℕ) → a ≢ b → nat_eq a b ≡ false
    apart a b ne = elim (eqb_tells a b) [ inl same ↦ absurd (ne same.1) | inr other ↦ other.0 ]

    alike : (a b : ℕ) → a ≡ b → nat_eq a b ≡ true
    alike a b e = elim (eqb_tells a b) [ inl same ↦ same.0 | inr other ↦ absurd (other.1 e) ]

    moved : first ≤ p → ((nat_eq (p - first) n ≡ true) × (p - first ≡ n)) ⊎ ((nat_eq (p - first) n ≡ false) × (p - first ≢ n)) → nat_eq (p - first) n ≡ nat_eq p (first + n)
    moved more (inl same) = same.0 ∙ sym (alike p (first + n) (let e = same.1 in omega (arith, e, more)))
    moved more (inr other) = other.0 ∙ sym (apart p (first + n) (λ e. other.1 (omega (arith, e, more))))

pub by_block_kept : (size i first count start : ℕ) (p : BlockContribution) (bodies more : List ℕ → List Body) (lists : List (Vec BodyPlace))
    → ((bytes : List ℕ) → more bytes ≡ bodies bytes ++ body_at bytes start p ∷ []) → ((p.band == i) && (nat_le first p.block && nat_lt (p.block - first) count)) ≡ false
    → AreByBlock size i first count bodies lists → AreByBlock size i first count more lists
by_block_kept size i first count start p bodies more lists is out h = record {
  long = h.long;
  inside = h.inside;
  each = λ bytes j lt.
      let P : Body → Bool = λ b. (b.part.band == i) && (b.part.block == first + j) in
      let none : P (body_at bytes start p) ≡ false = sym (ap (λ t. t && nat_eq (p.block - first) j) (sym out) ∙ same_block (p.band == i) p.block j first count lt) in
      h.each bytes j lt ∙ sym (filter_no P (bodies bytes) (body_at bytes start p) none) ∙ sym (ap (filter P) (is bytes));
}

push_inside : (size : ℕ) (b : Bool) (old new : List BodyPlace) (x : BodyPlace) → new ≡ (if b then old ++ x ∷ [] else old) → IsInside size x → All (IsInside size) old → All (IsInside size) new
push_inside size true old new x e fits h = subst (All (IsInside size)) (sym e) (All-push (IsInside size) old x h fits)
push_inside size false old new x e fits h = subst (All (IsInside size)) (sym e) h

push_each : (bytes : List ℕ) (P : Body → Bool) (b : Bool) (old new : List BodyPlace) (x : BodyPlace) (bodies : List Body) → new ≡ (if b then old ++ x ∷ [] else old) → P (body_of bytes x) ≡ b
    → map (body_of bytes) old ≡ filter P bodies → map (body_of bytes) new ≡ filter P (bodies ++ body_of bytes x ∷ [])
push_each bytes P true old new x bodies e test h =
    ap (map (body_of bytes)) e ∙ map-append (body_of bytes) old (x ∷ []) ∙ ap (λ (bs : List Body). bs ++ body_of bytes x ∷ []) h ∙ sym (filter_yes P bodies (body_of bytes x) test)
push_each bytes P false old new x bodies e test h = ap (map (body_of bytes)) e ∙ h ∙ sym (filter_no P bodies (body_of bytes x) test)

pub by_block_more : (size i first count : ℕ) (x : BodyPlace) (bodies more : List ℕ → List Body) (lists new : List (Vec BodyPlace))
    → ((bytes : List ℕ) → more bytes ≡ bodies bytes ++ body_of bytes x ∷ []) → ((x.part.band == i) && (nat_le first x.part.block && nat_lt (x.part.block - first) count)) ≡ true → IsInside size x
    → length new ≡ length lists → ((n : ℕ) → list_at new n ≡ (if nat_eq (x.part.block - first) n then list_at lists n ++ x ∷ [] else list_at lists n))
    → AreByBlock size i first count bodies lists → AreByBlock size i first count more new
by_block_more size i first count x bodies more lists new is taken fits long put h = record {
  long = long ∙ h.long;
  inside = λ j lt. push_inside size (nat_eq (x.part.block - first) j) (list_at lists j) (list_at new j) x (put j) fits (h.inside j lt);
  each = λ bytes j lt.
      let P : Body → Bool = λ b. (b.part.band == i) && (b.part.block == first + j) in
      let test : P (body_of bytes x) ≡ nat_eq (x.part.block - first) j = sym (ap (λ t. t && nat_eq (x.part.block - first) j) (sym taken) ∙ same_block (x.part.band == i) x.part.block j first count lt) in
      push_each bytes P (nat_eq (x.part.block - first) j) (list_at lists j) (list_at new j) x (bodies bytes) (put j) test (h.each bytes j lt) ∙ sym (ap (filter P) (is bytes));
}

-- bodies that are the same
pub by_block_same : (size i first count : ℕ) (bodies more : List ℕ → List Body) (lists : List (Vec BodyPlace)) → ((bytes : List ℕ) → more bytes ≡ bodies bytes)
    → AreByBlock size i first count bodies lists → AreByBlock size i first count more lists
by_block_same size i first count bodies more lists same h = record {
  long = h.long;
  inside = h.inside;
  each = λ bytes j lt. h.each bytes j lt ∙ ap (block_bodies i (first + j)) (sym (same bytes));
}

-- the packet that was read
pub place_read : (places : List PacketPlace) (m : ℕ) (d : PacketPlace) → m < length places → get_or places m d ≡ place_in places m
place_read [] m d lt = absurd (omega (arith, lt))
place_read (w ∷ places) zero d lt = refl
place_read (w ∷ places) (suc m) d lt = place_read places m d (omega (arith, lt))

-- the bodies of a packet up to part k, behind others
pub packet_more : (before : List ℕ → List Body) (at : ℕ) (parts : List BlockContribution) (k : ℕ) (d : BlockContribution) → k < length parts → (bytes : List ℕ)
    → before bytes ++ bodies_at bytes at (take (k + 1) parts) ≡ (before bytes ++ bodies_at bytes at (take k parts)) ++ body_at bytes (at + lengths (take k parts)) (get_or parts k d) ∷ []
packet_more before at parts k d lt bytes = ap (λ (bs : List Body). before bytes ++ bs) (bodies_more bytes at parts k d lt) ∙ sym (append_assoc (before bytes) (bodies_at bytes at (take k parts)) (body_at bytes (at + lengths (take k parts)) (get_or parts k d) ∷ []))

-- a packet's bodies behind those of the packets before it
pub by_block_packet : (size i first count : ℕ) (places : List PacketPlace) (numbers : List ℕ) (k : ℕ) (number : ℕ) (w : PacketPlace) (lists : List (Vec BodyPlace)) → k < length numbers
    → number ≡ get_or numbers k 0 → w ≡ place_in places number
    → AreByBlock size i first count (λ bytes. bodies_in bytes (map (place_in places) (take k numbers)) ++ bodies_at bytes w.body w.parts) lists
    → AreByBlock size i first count (λ bytes. bodies_in bytes (map (place_in places) (take (k + 1) numbers))) lists
by_block_packet size i first count places numbers k number w lists lt read is h =
    by_block_same size i first count (λ bytes. bodies_in bytes (map (place_in places) (take k numbers)) ++ bodies_at bytes w.body w.parts) (λ bytes. bodies_in bytes (map (place_in places) (take (k + 1) numbers))) lists (λ bytes.
    let f : PacketPlace → List Body = λ (x : PacketPlace). bodies_at bytes x.body x.parts in
    ap (λ (ns : List ℕ). flat_map f (map (place_in places) ns)) (take_one numbers k 0 lt)
    ∙ ap (flat_map f) (map-append (place_in places) (take k numbers) (get_or numbers k 0 ∷ []))
    ∙ flat_map-append f (map (place_in places) (take k numbers)) (place_in places (get_or numbers k 0) ∷ [])
    ∙ ap (λ (bs : List Body). flat_map f (map (place_in places) (take k numbers)) ++ bs) (append-nil (f (place_in places (get_or numbers k 0))) ∙ ap (λ n. f (place_in places n)) (sym read) ∙ ap f (sym is))
    ) h

-- how many passes, counted to a bound
pub cut_more : (n m k bound : ℕ) → n ≡ min m bound → min (n + k) bound ≡ min (m + k) bound
cut_more n m k bound e = omega (arith, e)

-- what holds of all packets holds of the one that was read
pub ends_read : (P : PacketPlace → Type 0) (places : List PacketPlace) (m : ℕ) (d : PacketPlace) → m < length places → AllByRecursion P places → P (get_or places m d)
ends_read P [] m d lt all = absurd (omega (arith, lt))
ends_read P (w ∷ places) zero d lt all = all.0
ends_read P (w ∷ places) (suc m) d lt all = ends_read P places m d (omega (arith, lt)) all.1
