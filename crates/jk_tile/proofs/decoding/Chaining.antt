-- Chains of the packets of precincts: one packet more, and what a chain tells.
use Rattle.std.proofs.Common.{◌≡◌, ℕ, ◌+◌, ◌-◌, ◌<◌, ◌≤◌, inl, inr, Bool, true, false, not, cond, nat_eq, nat_lt, eqb, List, [], ◌∷◌, ◌++◌, length, filter, drop, get_or, set, replicate, refl, sym, ap, subst, ◌∙◌, arith, length-set, append_assoc, append-nil}
use Rattle.std.specs.Prelude.{◌&&◌, ◌==◌}
use Rattle.std.proofs.lemmas.Bool.{ne_eqb, eq-eqb, eqb-true, not-false, and_parts}
use Rattle.std.proofs.lemmas.Bool.Decides.{eqb_tells}
use Rattle.std.proofs.lemmas.List.{drop_more, drop_all, get_or-replicate, length-replicate, get_or-set_same, get_or-set_other}
use Rattle.std.proofs.lemmas.List.Elements.{All-nil, All-cons}
use Rattle.jk_order.specs.PacketOrder.{is_of}
use Rattle.jk_packet.specs.declared.header.BlockContribution.{BlockContribution}
use Rattle.jk_walk.specs.declared.places.PacketPlace.{PacketPlace}
use Rattle.jk_walk.specs.TilePackets.{Body}
use Rattle.jk_walk.specs.WalkReading.{bodies_at}
use Rattle.jk_tile.specs.declared.decoding.chains.PacketChains.{PacketChains}
use Rattle.jk_tile.specs.decoding.Gathered.{no_place, place_in, bodies_in, AreNumbers, IsChain, AreByPrecinct}
use Rattle.jk_tile.proofs.decoding.Gathering.{same_test}

-- ---- chains

-- a chain from a place on is one from any place before it
chain_low : (next : List ℕ) (low low' at : ℕ) (numbers : List ℕ) → low' ≤ low → IsChain next low at numbers → IsChain next low' at numbers
chain_low next low low' at [] le is = is
chain_low next low low' at (m ∷ numbers) le is = let below = is.1 in (is.0, omega (arith, le, below), is.2, is.3)

-- what stands before all of a chain may change
chain_kept : (next : List ℕ) (low at m v : ℕ) (numbers : List ℕ) → m < low → IsChain next low at numbers → IsChain (set next m v) low at numbers
chain_kept next low at m v [] lt is = is
chain_kept next low at m v (k ∷ numbers) lt is =
    let below = is.1 in
    let inside = is.2 in
    let long = length-set next m v in
    let other : k ≡ m → ⊥ = λ e. omega (arith, e, below, lt) in (
      is.0,
      is.1,
      omega (arith, inside, long),
      subst (λ i. IsChain (set next m v) (k + 1) i numbers) (sym (get_or-set_other next m k v 0 other)) (chain_kept next (k + 1) (get_or next k 0) m v numbers (omega (arith, below, lt)) is.3),
    )

-- ---- one packet more

-- the packets of a precinct from number m on
from_one : (places : List PacketPlace) (c r n m : ℕ) (b : Bool) → m < length places → is_of c r n (place_in places m).name ≡ b
    → filter (λ (w : PacketPlace). is_of c r n w.name) (drop m places)
    ≡ cond b (place_in places m ∷ filter (λ (w : PacketPlace). is_of c r n w.name) (drop (m + 1) places)) (filter (λ (w : PacketPlace). is_of c r n w.name) (drop (m + 1) places))
from_one places c r n m b lt e =
    let P : PacketPlace → Bool = λ w. is_of c r n w.name in
    ap (filter P) (drop_more places m no_place lt) ∙ ap (λ t. cond t (place_in places m ∷ filter P (drop (m + 1) places)) (filter P (drop (m + 1) places))) e

numbers_kept : (places : List PacketPlace) (c r n m : ℕ) (numbers : List ℕ) → m < length places → is_of c r n (place_in places m).name ≡ false
    → AreNumbers places (drop (m + 1) places) c r n numbers → AreNumbers places (drop m places) c r n numbers
numbers_kept places c r n m numbers lt none h = record {
  small = h.small;
  whose = λ bytes. h.whose bytes ∙ ap (bodies_in bytes) (sym (from_one places c r n m false lt none));
}

numbers_more : (places : List PacketPlace) (c r n m : ℕ) (numbers : List ℕ) → m < length places → is_of c r n (place_in places m).name ≡ true
    → AreNumbers places (drop (m + 1) places) c r n numbers → AreNumbers places (drop m places) c r n (m ∷ numbers)
numbers_more places c r n m numbers lt own h = record {
  small = All-cons (λ i. i < length places) m numbers lt h.small;
  whose = λ bytes.
      (let w = place_in places m in
      ap (λ (bs : List Body). bodies_at bytes w.body w.parts ++ bs) (h.whose bytes)
      ∙ ap (bodies_in bytes) (sym (from_one places c r n m true lt own)));
}

-- a packet that has nothing
numbers_bare : (places : List PacketPlace) (c r n m : ℕ) (numbers : List ℕ) → m < length places → (place_in places m).parts ≡ []
    → AreNumbers places (drop (m + 1) places) c r n numbers → AreNumbers places (drop m places) c r n numbers
numbers_bare places c r n m numbers lt none h = by (is_of c r n (place_in places m).name) refl
  where
    by : (b : Bool) → is_of c r n (place_in places m).name ≡ b → AreNumbers places (drop m places) c r n numbers
    by false e = numbers_kept places c r n m numbers lt e h
    by true e = record {
      small = h.small;
      whose = λ bytes.
          (let w = place_in places m in
          let rest = bodies_in bytes (filter (λ (v : PacketPlace). is_of c r n v.name) (drop (m + 1) places)) in
          h.whose bytes
          ∙ sym (ap (λ (ps : List BlockContribution). bodies_at bytes w.body ps ++ rest) none)
          ∙ ap (bodies_in bytes) (sym (from_one places c r n m true lt e)));
    }

-- whether packet m is of a resolution of a component, in one of so many precincts
abbrev pub belongs : (places : List PacketPlace) (c r count m : ℕ) → Bool
belongs places c r count m = ((place_in places m).name.component == c) && (((place_in places m).name.resolution == r) && nat_lt (place_in places m).name.precinct count)

own_test : (places : List PacketPlace) (c r count m n : ℕ) (b : Bool) → n < count → belongs places c r count m ≡ b → is_of c r n (place_in places m).name ≡ (b && nat_eq (place_in places m).name.precinct n)
own_test places c r count m n b lt e =
    let name = (place_in places m).name in
    sym (same_test (name.component == c) (name.resolution == r) name.precinct n count lt) ∙ ap (λ t. t && nat_eq name.precinct n) e

-- no packet yet
pub chains_none : (places : List PacketPlace) (c r count : ℕ) (chains : PacketChains) → chains.first.items ≡ replicate count 0 → chains.next.items ≡ replicate (length places) 0 → AreByPrecinct places (length places) c r count chains
chains_none places c r count chains first next =
    let P : ℕ → PacketPlace → Bool = λ n w. is_of c r n w.name in
    record {
      first = ap (λ (xs : List ℕ). length xs) first ∙ length-replicate count 0;
      next = ap (λ (xs : List ℕ). length xs) next ∙ length-replicate (length places) 0;
      each = λ n lt. (
        [],
        ap (λ (xs : List ℕ). get_or xs n 0) first ∙ get_or-replicate count n 0 0 lt,
        record { small = All-nil (λ i. i < length places); whose = λ bytes. ap (λ (ws : List PacketPlace). bodies_in bytes (filter (P n) ws)) (sym (drop_all (length places) places (omega arith))) },
      );
    }

-- a packet of other precincts
chains_kept : (places : List PacketPlace) (c r count m : ℕ) (chains : PacketChains) → m < length places → belongs places c r count m ≡ false → AreByPrecinct places (m + 1) c r count chains
    → AreByPrecinct places m c r count chains
chains_kept places c r count m chains lt out h = record {
  first = h.first;
  next = h.next;
  each = λ n less.
      (let old = h.each n less in (
        old.0,
        chain_low chains.next.items (m + 1) m (get_or chains.first.items n 0) old.0 (omega arith) old.1,
        numbers_kept places c r n m old.0 lt (own_test places c r count m n false less out) old.2,
      ));
}

-- a packet that has nothing
pub chains_bare : (places : List PacketPlace) (c r count m : ℕ) (chains : PacketChains) → m < length places → (place_in places m).parts ≡ [] → AreByPrecinct places (m + 1) c r count chains
    → AreByPrecinct places m c r count chains
chains_bare places c r count m chains lt none h = record {
  first = h.first;
  next = h.next;
  each = λ n less.
      (let old = h.each n less in (
        old.0,
        chain_low chains.next.items (m + 1) m (get_or chains.first.items n 0) old.0 (omega arith) old.1,
        numbers_bare places c r n m old.0 lt none old.2,
      ));
}

-- whether packet m has something too
abbrev pub is_full : (places : List PacketPlace) (c r count m : ℕ) → Bool
is_full places c r count m = belongs places c r count m && not (length (place_in places m).parts == 0)

full_belongs : (places : List PacketPlace) (c r count m : ℕ) → is_full places c r count m ≡ true → belongs places c r count m ≡ true
full_belongs places c r count m e = (and_parts (belongs places c r count m) _ e).0

-- a packet that isn't told
pub chains_past : (places : List PacketPlace) (c r count m : ℕ) (chains : PacketChains) → m < length places → is_full places c r count m ≡ false → AreByPrecinct places (m + 1) c r count chains
    → AreByPrecinct places m c r count chains
chains_past places c r count m chains lt out h = by (belongs places c r count m) refl
  where
    empty : (parts : List BlockContribution) → not (length parts == 0) ≡ false → parts ≡ []
    empty [] e = refl
    empty (p ∷ parts) e = absurd (let none = eqb-true (length (p ∷ parts)) 0 (not-false (length (p ∷ parts) == 0) e) in omega (arith, none))

    by : (b : Bool) → belongs places c r count m ≡ b → AreByPrecinct places m c r count chains
    by false e = chains_kept places c r count m chains lt e h
    by true e =
        let parts = (place_in places m).parts in
        chains_bare places c r count m chains lt (empty parts (ap (λ t. t && not (length parts == 0)) (sym e) ∙ out)) h

-- a packet of one of the precincts
pub chains_more : (places : List PacketPlace) (c r count m : ℕ) (chains new : PacketChains) → m < length places → is_full places c r count m ≡ true
    → new.first.items ≡ set chains.first.items (place_in places m).name.precinct (m + 1) → new.next.items ≡ set chains.next.items m (get_or chains.first.items (place_in places m).name.precinct 0)
    → AreByPrecinct places (m + 1) c r count chains → AreByPrecinct places m c r count new
chains_more places c r count m chains new lt full first next h =
    let own = full_belongs places c r count m full in
    let p = (place_in places m).name.precinct in
    let v = get_or chains.first.items p 0 in
    let inside : m < length chains.next.items = (let long = h.next in omega (arith, lt, long)) in
    record {
      first = ap (λ (xs : List ℕ). length xs) first ∙ length-set chains.first.items p (m + 1) ∙ h.first;
      next = ap (λ (xs : List ℕ). length xs) next ∙ length-set chains.next.items m v ∙ h.next;
      each = λ n less. elim (eqb_tells p n) [
        | inl same ↦
            (let old = h.each p (omega (arith, less, same.1)) in
            let there : p < length chains.first.items = (let long = h.first in omega (arith, less, same.1, long)) in
            let test = own_test places c r count m n true less own ∙ same.0 in
            let long = length-set chains.next.items m v in
            let begins : get_or new.first.items n 0 ≡ m + 1 = ap (λ (xs : List ℕ). get_or xs n 0) first ∙ ap (λ k. get_or (set chains.first.items p (m + 1)) k 0) (sym same.1) ∙ get_or-set_same chains.first.items p (m + 1) 0 there in
            let kept = chain_kept chains.next.items (m + 1) v m v old.0 (omega arith) old.1 in
            let behind = subst (λ i. IsChain (set chains.next.items m v) (m + 1) i old.0) (sym (get_or-set_same chains.next.items m v 0 inside)) kept in
            let of = subst (λ k. AreNumbers places (drop (m + 1) places) c r k old.0) same.1 old.2 in (
              m ∷ old.0,
              subst (λ (xs : List ℕ). IsChain xs m (get_or new.first.items n 0) (m ∷ old.0)) (sym next) (begins, omega arith, omega (arith, inside, long), behind),
              numbers_more places c r n m old.0 lt test of,
            ))
        | inr other ↦
            (let old = h.each n less in
            let test = own_test places c r count m n true less own ∙ other.0 in
            let stays : get_or new.first.items n 0 ≡ get_or chains.first.items n 0 = ap (λ (xs : List ℕ). get_or xs n 0) first ∙ get_or-set_other chains.first.items p n (m + 1) 0 (λ e. other.1 (sym e)) in
            let kept = chain_kept chains.next.items (m + 1) (get_or chains.first.items n 0) m v old.0 (omega arith) old.1 in
            let lower = chain_low (set chains.next.items m v) (m + 1) m (get_or chains.first.items n 0) old.0 (omega arith) kept in (
              old.0,
              subst (λ (xs : List ℕ). IsChain xs m (get_or new.first.items n 0) old.0) (sym next) (subst (λ i. IsChain (set chains.next.items m v) m i old.0) (sym stays) lower),
              numbers_kept places c r n m old.0 lt test old.2,
            ))
      ];
    }

-- ---- going along a chain

-- how far there is to go
unfoldable pub to_go : List ℕ → ℕ → ℕ
to_go next at = cond (eqb at 0) 0 (length next + 1 - at)

-- What was read of the chain, and that it goes on.
pub record IsFollowing (next : List ℕ) (start : ℕ) (numbers : List ℕ) (at : ℕ) : Type 0 where
  pub low : ℕ
  pub left : List ℕ
  pub on : IsChain next low at left
  pub goes : (list : List ℕ) → IsChain next 0 start list → list ≡ numbers ++ left

-- a chain tells one list
chain_once : (next : List ℕ) (low at : ℕ) (xs ys : List ℕ) → IsChain next low at xs → IsChain next low at ys → xs ≡ ys
chain_once next low at [] [] a b = refl
chain_once next low at [] (y ∷ ys) a b = absurd (let none = a in let some = b.0 in omega (arith, none, some))
chain_once next low at (x ∷ xs) [] a b = absurd (let none = b in let some = a.0 in omega (arith, none, some))
chain_once next low at (x ∷ xs) (y ∷ ys) a b =
    let same : x ≡ y = (let left = a.0 in let right = b.0 in omega (arith, left, right)) in
    let rest = chain_once next (x + 1) (get_or next x 0) xs ys a.3 (subst (λ m. IsChain next (m + 1) (get_or next m 0) ys) (sym same) b.3) in
    λ i. same i ∷ rest i

pub following_starts : (next : List ℕ) (start : ℕ) (numbers : List ℕ) → ((list : List ℕ) × IsChain next 0 start list) → numbers ≡ [] → IsFollowing next start numbers start
following_starts next start numbers chain none = record {
  low = 0;
  left = chain.0;
  on = chain.1;
  goes = λ list is. chain_once next 0 start list chain.0 is chain.1 ∙ ap (λ (ns : List ℕ). ns ++ chain.0) (sym none);
}

-- the next of the chain
pub record IsAhead (next : List ℕ) (low at : ℕ) (left : List ℕ) : Type 0 where
  pub number : ℕ
  pub rest : List ℕ
  pub is : left ≡ number ∷ rest
  pub told : at ≡ number + 1
  pub inside : number < length next
  pub on : IsChain next (number + 1) (get_or next number 0) rest

ahead : (next : List ℕ) (low at : ℕ) (left : List ℕ) → 0 < at → IsChain next low at left → IsAhead next low at left
ahead next low at [] some is = absurd (omega (arith, some, is))
ahead next low at (m ∷ rest) some is = record { number = m; rest = rest; is = refl; told = is.0; inside = is.2; on = is.3 }

pub following_inside : (next : List ℕ) (start : ℕ) (numbers : List ℕ) (at : ℕ) → IsFollowing next start numbers at → 0 < at → at - 1 < length next
following_inside next start numbers at w some =
    let a = ahead next w.low at w.left some w.on in
    let told = a.told in
    let inside = a.inside in
    omega (arith, told, inside)

to_go-none : (next : List ℕ) (at : ℕ) → at ≡ 0 → to_go next at ≡ 0
unfolding to_go
to_go-none next at e = ap (λ b. cond b 0 (length next + 1 - at)) (eq-eqb at 0 e)

to_go-some : (next : List ℕ) (at : ℕ) → (at ≡ 0 → ⊥) → to_go next at ≡ length next + 1 - at
unfolding to_go
to_go-some next at e = ap (λ b. cond b 0 (length next + 1 - at)) (ne_eqb at 0 e)

fewer_to_go : (next : List ℕ) (m : ℕ) (rest : List ℕ) → m < length next → IsChain next (m + 1) (get_or next m 0) rest → to_go next (get_or next m 0) < length next - m
fewer_to_go next m [] inside is =
    let none = to_go-none next (get_or next m 0) is in
    omega (arith, none, inside)
fewer_to_go next m (k ∷ rest) inside is =
    let told = is.0 in
    let low = is.1 in
    let within = is.2 in
    let some = to_go-some next (get_or next m 0) (λ e. omega (arith, e, told)) in
    omega (arith, some, told, low, within, inside)

pub following_nearer : (next : List ℕ) (start : ℕ) (numbers : List ℕ) (at : ℕ) → IsFollowing next start numbers at → 0 < at → to_go next (get_or next (at - 1) 0) < to_go next at
following_nearer next start numbers at w some =
    let a = ahead next w.low at w.left some w.on in
    let told = a.told in
    let inside = a.inside in
    let here : a.number ≡ at - 1 = omega (arith, told) in
    let fewer = subst (λ m. to_go next (get_or next m 0) < length next - m) here (fewer_to_go next a.number a.rest a.inside a.on) in
    let now = to_go-some next at (λ e. omega (arith, e, some)) in
    omega (arith, fewer, now, told, inside)

pub following_more : (next : List ℕ) (start : ℕ) (numbers new : List ℕ) (at : ℕ) → IsFollowing next start numbers at → 0 < at → new ≡ numbers ++ (at - 1) ∷ [] → IsFollowing next start new (get_or next (at - 1) 0)
following_more next start numbers new at w some pushed =
    let a = ahead next w.low at w.left some w.on in
    let told = a.told in
    let here : a.number ≡ at - 1 = omega (arith, told) in
    record {
      low = at - 1 + 1;
      left = a.rest;
      on = subst (λ m. IsChain next (m + 1) (get_or next m 0) a.rest) here a.on;
      goes = λ list is.
          w.goes list is ∙ ap (λ (ns : List ℕ). numbers ++ ns) (a.is ∙ ap (λ m. m ∷ a.rest) here) ∙ sym (append_assoc numbers ((at - 1) ∷ []) a.rest) ∙ ap (λ (ns : List ℕ). ns ++ a.rest) (sym pushed);
    }

pub following_over : (next : List ℕ) (start : ℕ) (numbers : List ℕ) (at : ℕ) → IsFollowing next start numbers at → at ≡ 0 → (list : List ℕ) → IsChain next 0 start list → numbers ≡ list
following_over next start numbers at w none list is = by w.left w.on (w.goes list is)
  where
    by : (left : List ℕ) → IsChain next w.low at left → list ≡ numbers ++ left → numbers ≡ list
    by [] on e = sym (e ∙ append-nil numbers)
    by (m ∷ left) on e = absurd (let told = on.0 in omega (arith, told, none))
