-- One node: what it tells when it is visited, and what is known of it then.
use Rattle.std.proofs.Common.{◌≡◌, ℕ, zero, suc, ◌+◌, ◌-◌, ◌<◌, ◌≤◌, min, max, Bool, true, false, cond, List, [], ◌∷◌, ◌++◌, length, drop, replicate, Result, Ok, Err, refl, sym, ap, ◌∙◌, subst, inl, inr, arith, append_assoc, length-append, add-zero}
use Rattle.std.specs.Prelude.{◌||◌, ◌⊎◌, nat_lt, nat_le}
use Rattle.std.proofs.lemmas.Bool.{cases_Bool, cases_lt}
use Rattle.std.proofs.lemmas.Bool.Decides.{nat_tests}
use Rattle.std.proofs.lemmas.List.{length-replicate, drop-append-le, drop_all, drop-replicate}
use Rattle.jk_math.specs.Answer.{◌>>=◌}
use Rattle.jk_math.specs.declared.fault.Fault.{Fault}
use Rattle.jk_bits.specs.Reading.{Bits, ahead, bit_at}
use Rattle.jk_tree.specs.TagTree.{word, rest_of_word}
use Rattle.jk_tree.specs.declared.node.Node.{Node}
use Rattle.jk_tree.specs.Asking.{HasTold, climb, visit}
use Rattle.jk_bits.specs.Giving.{GivesBits, advance, ahead_on, gives_none, gives_join, gives_bit, bit_ahead}

-- the one that ends a word, where there is one
abbrev pub ending : Bool → List Bool
ending known = cond known (true ∷ []) []

-- Zeros up to a one or to the threshold.
pub record Climbed (low more : ℕ) (node : Node) (old new : Bits) : Type 0 where
  pub zeros : ℕ
  pub low_is : node.low ≡ low + zeros
  pub whole : node.known ≡ false → zeros ≡ more
  pub part : node.known ≡ true → zeros < more
  pub given : GivesBits old (replicate zeros false ++ ending node.known) new

climbed_step : (low more : ℕ) (node : Node) (old mid new : Bits) → GivesBits old (false ∷ []) mid → Climbed (low + 1) more node mid new → Climbed low (suc more) node old new
climbed_step low more node old mid new g c = record {
  zeros = suc c.zeros;
  low_is = c.low_is ∙ omega arith;
  whole = λ h. ap suc (c.whole h);
  part = λ h. let p = c.part h in omega (arith, p);
  given = gives_join old mid new (false ∷ []) (replicate c.zeros false ++ ending node.known) g c.given;
}

climb_after : (low more : ℕ) (old : Bits) (r : Node × Bits) → ((b : Bits) (r : Node × Bits) → climb (low + 1) more b ≡ Ok r → Climbed (low + 1) more r.0 b r.1)
    → (b : Bool × Bits) → bit_at old ≡ Ok b → (c : Bool) → b.0 ≡ c → cond c (Ok (record { low = low; known = true }, b.1)) (climb (low + 1) more b.1) ≡ Ok r → Climbed low (suc more) r.0 old r.1
climb_after low more old r on b e true is h =
    let same : (record { low = low; known = true }, b.1) ≡ r = cc in
    subst (λ (q : Node × Bits). Climbed low (suc more) q.0 old q.1) same record {
      zeros = 0;
      low_is = sym (add-zero low);
      whole = λ h. absurd (cc);
      part = λ _. omega arith;
      given = subst (λ (c : Bool). GivesBits old (c ∷ []) b.1) is (gives_bit old b e);
    }
climb_after low more old r on b e false is h =
    climbed_step low more r.0 old b.1 r.1 (subst (λ (c : Bool). GivesBits old (c ∷ []) b.1) is (gives_bit old b e)) (on b.1 r h)

climb_more : (low more : ℕ) (old : Bits) (r : Node × Bits) → ((b : Bits) (r : Node × Bits) → climb (low + 1) more b ≡ Ok r → Climbed (low + 1) more r.0 b r.1)
    → (o : Result (Bool × Bits) Fault) → bit_at old ≡ o → (o >>= (λ b. cond b.0 (Ok (record { low = low; known = true }, b.1)) (climb (low + 1) more b.1))) ≡ Ok r → Climbed low (suc more) r.0 old r.1
climb_more low more old r on (Ok b) e h = climb_after low more old r on b e b.0 refl h
climb_more low more old r on (Err f) e h = absurd (cc)

pub climb_out : (low more : ℕ) (old : Bits) (r : Node × Bits) → climb low more old ≡ Ok r → Climbed low more r.0 old r.1
unfolding climb
climb_out low zero old r h =
    let is : (record { low = low; known = false }, old) ≡ r = cc in
    subst (λ (q : Node × Bits). Climbed low zero q.0 old q.1) is record {
      zeros = 0;
      low_is = sym (add-zero low);
      whole = λ _. refl;
      part = λ h. absurd (cc);
      given = gives_none old;
    }
climb_out low (suc more) old r h = climb_more low more old r (climb_out (low + 1) more) (bit_at old) refl h

advance_advance : (r : Bits) (m n : ℕ) → advance (advance r m) n ≡ advance r (m + n)
advance_advance r m n = ap (λ k. record r { read = k }) (let e : r.read + m + n ≡ r.read + (m + n) = omega arith in e)

-- Zeros that are ahead are climbed.
pub climb_in : (zeros low more : ℕ) (r : Bits) (rest : List Bool) → ahead r ≡ replicate zeros false ++ rest → climb low (zeros + more) r ≡ climb (low + zeros) more (advance r zeros)
unfolding climb
climb_in zero low more r rest h =
    ap (λ k. climb low k r) (let e : 0 + more ≡ more = omega arith in e)
    ∙ ap (λ k. climb k more r) (sym (add-zero low))
    ∙ ap (λ n. climb (low + 0) more record r { read = n }) (sym (add-zero r.read))
climb_in (suc zeros) low more r rest h =
    let tail = replicate zeros false ++ rest in
    ap (λ k. climb low k r) (let e : suc zeros + more ≡ suc (zeros + more) = omega arith in e)
    ∙ ap (λ (o : Result (Bool × Bits) Fault). o >>= (λ b. cond b.0 (Ok (record { low = low; known = true }, b.1)) (climb (low + 1) (zeros + more) b.1))) (bit_ahead r false tail h)
    ∙ climb_in zeros (low + 1) more (advance r 1) rest (ahead_on r (false ∷ []) tail h)
    ∙ ap (λ k. climb k more (advance (advance r 1) zeros)) (let e : low + 1 + zeros ≡ low + suc zeros = omega arith in e)
    ∙ ap (climb (low + suc zeros) more) (advance_advance r 1 zeros ∙ ap (advance r) (let e : 1 + zeros ≡ suc zeros = omega arith in e))

climb_one : (low more : ℕ) (r : Bits) (rest : List Bool) → ahead r ≡ true ∷ rest → climb low (suc more) r ≡ Ok (record { low = low; known = true }, advance r 1)
unfolding climb
climb_one low more r rest h =
    ap (λ (o : Result (Bool × Bits) Fault). o >>= (λ b. cond b.0 (Ok (record { low = low; known = true }, b.1)) (climb (low + 1) more b.1))) (bit_ahead r true rest h)

-- A piece that isn't empty.
pub piece-form : (over value before threshold : ℕ) → over ≤ value → before < threshold → before ≤ value
    → rest_of_word over value before threshold ≡ replicate (min value threshold - max before (min over threshold)) false ++ ending (nat_lt value threshold)
piece-form u w a t tree less open_value =
    let zeros = min w t - min u t in
    let told = a - min u a in
    let last = ending (nat_lt w t) in
    let asks : nat_lt a t ≡ true = grind (arith, nat_tests) in
    let no_one : nat_lt w a ≡ false = grind (arith, nat_tests) in
    let so_far : length (word u w a) ≡ told =
    ap (λ (b : Bool). length (replicate (min w a - min u a) false ++ cond b (true ∷ []) [])) no_one
    ∙ length-append (replicate (min w a - min u a) false) []
    ∙ (let e : length (replicate (min w a - min u a) false) ≡ min w a - min u a = length-replicate (min w a - min u a) false in omega (arith, e)) in
    let within : told ≤ zeros = omega arith in
    ap (λ (b : Bool). cond b (drop (length (word u w a)) (word u w t)) []) asks
    ∙ ap (λ n. drop n (replicate zeros false ++ last)) so_far
    ∙ drop-append-le told (replicate zeros false) last (let e = length-replicate zeros false in omega (arith, e, within))
    ∙ ap (λ (xs : List Bool). xs ++ last) (drop-replicate told zeros false)
    ∙ ap (λ n. replicate n false ++ last) (let e : zeros - told ≡ min w t - max a (min u t) = omega arith in e)

-- A piece that is empty: the node was asked for as much, or its value is known.
pub piece_asked : (over value before threshold : ℕ) → threshold ≤ before → rest_of_word over value before threshold ≡ []
piece_asked u w a t h =
    let asks : nat_lt a t ≡ false = grind (arith, nat_tests) in
    ap (λ (b : Bool). cond b (drop (length (word u w a)) (word u w t)) []) asks

pub piece_known : (over value before threshold : ℕ) → over ≤ value → value < before → before < threshold → rest_of_word over value before threshold ≡ []
piece_known u w a t tree known less =
    let asks : nat_lt a t ≡ true = grind (arith, nat_tests) in
    let one : nat_lt w a ≡ true = grind (arith, nat_tests) in
    let one' : nat_lt w t ≡ true = grind (arith, nat_tests) in
    let same : word u w a ≡ word u w t =
    ap (λ n. replicate n false ++ ending (nat_lt w a)) (let e : min w a - min u a ≡ min w t - min u t = omega arith in e)
    ∙ ap (λ (b : Bool). replicate (min w t - min u t) false ++ ending b) (one ∙ sym one') in
    ap (λ (b : Bool). cond b (drop (length (word u w a)) (word u w t)) []) asks
    ∙ ap (λ (xs : List Bool). drop (length xs) (word u w t)) same
    ∙ drop_all (length (word u w t)) (word u w t) (omega arith)

pub node_same : (low low' : ℕ) (known known' : Bool) → low ≡ low' → known ≡ known' → ◌≡◌ {A = Node} (record { low = low; known = known }) (record { low = low'; known = known' })
node_same low low' known known' e f = ap (λ n. record { low = n; known = known }) e ∙ ap (λ (b : Bool). record { low = low'; known = b }) f

-- a node that is left alone
visit_kept : (node : Node) (over threshold : ℕ) (r : Bits) → (node.known || nat_le threshold node.low) ≡ true → visit node over threshold r ≡ Ok (node, r)
unfolding visit
visit_kept node over threshold r h = ap (λ (b : Bool). cond b (Ok (node, r)) (climb (max node.low over) (threshold - max node.low over) r)) h

-- a node that is climbed
visit_open : (node : Node) (over threshold : ℕ) (r : Bits) → node.known ≡ false → node.low < threshold → visit node over threshold r ≡ climb (max node.low over) (threshold - max node.low over) r
unfolding visit
visit_open node over threshold r h less =
    let high : nat_le threshold node.low ≡ false = grind (arith, nat_tests) in
    ap (λ (b : Bool). cond (b || nat_le threshold node.low) (Ok (node, r)) (climb (max node.low over) (threshold - max node.low over) r)) h
    ∙ ap (λ (b : Bool). cond b (Ok (node, r)) (climb (max node.low over) (threshold - max node.low over) r)) high

or_known : (known b : Bool) → known ≡ true → (known || b) ≡ true
or_known known b h = ap (λ (k : Bool). k || b) h

or_high : (known b : Bool) → b ≡ true → (known || b) ≡ true
or_high true b h = refl
or_high false b h = h

-- the steps of a climb
module _ (low threshold : ℕ) (r : Bits) where
  climb_from : low < threshold → climb low (threshold - low) r ≡ (bit_at r >>= (λ b. cond b.0 (Ok (record { low = low; known = true }, b.1)) (climb (low + 1) (threshold - (low + 1)) b.1)))
  unfolding climb
  climb_from less = ap (λ k. climb low k r) (let e : threshold - low ≡ suc (threshold - (low + 1)) = omega (arith, less) in e)

  pub climb_err : (e : Fault) → low < threshold → bit_at r ≡ Err e → climb low (threshold - low) r ≡ Err e
  climb_err e less h = climb_from less ∙ ap (λ (o : Result (Bool × Bits) Fault). o >>= (λ b. cond b.0 (Ok (record { low = low; known = true }, b.1)) (climb (low + 1) (threshold - (low + 1)) b.1))) h

  pub climb_bit : (bit : Bool) (r' : Bits) → low < threshold → bit_at r ≡ Ok (bit, r') → climb low (threshold - low) r ≡ cond bit (Ok (record { low = low; known = true }, r')) (climb (low + 1) (threshold - (low + 1)) r')
  climb_bit bit r' less h = climb_from less ∙ ap (λ (o : Result (Bool × Bits) Fault). o >>= (λ b. cond b.0 (Ok (record { low = low; known = true }, b.1)) (climb (low + 1) (threshold - (low + 1)) b.1))) h

  pub climb_done : threshold ≤ low → climb low (threshold - low) r ≡ Ok (record { low = low; known = false }, r)
  unfolding climb
  climb_done high = ap (λ k. climb low k r) (let e : threshold - low ≡ 0 = omega (arith, high) in e)

-- the two cases of a visit
module _ (node : Node) (over threshold : ℕ) (r : Bits) where
  pub visit_stays : ((node.known ≡ true) ⊎ (threshold ≤ node.low)) → visit node over threshold r ≡ Ok (node, r)
  visit_stays (inl k) = visit_kept node over threshold r (or_known node.known (nat_le threshold node.low) k)
  visit_stays (inr high) = visit_kept node over threshold r (or_high node.known (nat_le threshold node.low) (test node.low threshold high))
    where
      test : (a b : ℕ) → b ≤ a → nat_le b a ≡ true
      test a b h = grind (arith, nat_tests)

  pub visit_goes_on : node.known ≡ false → node.low < threshold → visit node over threshold r ≡ climb (max node.low over) (threshold - max node.low over) r
  visit_goes_on k less = visit_open node over threshold r k less

-- what a node of that value tells by itself after a threshold
abbrev told_node : (value before : ℕ) → Node
told_node value before = record { low = min value before; known = nat_lt value before }

pub told_has : (u w m : ℕ) → HasTold u w m (told_node w m)
told_has u w m = record {
  known = refl;
  value = λ k. (let less : w < m = grind (arith, nat_tests) in omega (arith, less));
  least = λ n. (let more : m ≤ w = grind (arith, nat_tests) in (omega (arith, more), omega (arith, more)));
}

told_climbed : (u w a t : ℕ) (r : Bits) (rest : List Bool) → u ≤ w → a < t → a ≤ w → ahead r ≡ rest_of_word u w a t ++ rest → visit (told_node w a) (min u t) t r ≡ Ok (told_node w (max a t), advance r (length (rest_of_word u w a t)))
unfolding climb
told_climbed u w a t r rest tree less open_value h =
    let at = max a (min u t) in
    let zeros = min w t - at in
    let known = nat_lt w t in
    let form : rest_of_word u w a t ≡ replicate zeros false ++ ending known = piece-form u w a t tree less open_value in
    let first : ahead r ≡ replicate zeros false ++ (ending known ++ rest) = h ∙ ap (λ (xs : List Bool). xs ++ rest) form ∙ append_assoc (replicate zeros false) (ending known) rest in
    let low_is : min w a ≡ a = omega arith in
    let unknown : nat_lt w a ≡ false = grind (arith, nat_tests) in
    let opened : visit (told_node w a) (min u t) t r ≡ climb at (t - at) r =
    visit_open (told_node w a) (min u t) t r unknown (omega arith) ∙ ap (λ n. climb (max n (min u t)) (t - max n (min u t)) r) low_is in
    let long : length (rest_of_word u w a t) ≡ zeros + length (ending known) =
    ap length form ∙ length-append (replicate zeros false) (ending known) ∙ ap (λ n. n + length (ending known)) (length-replicate zeros false) in
    let top_is : max a t ≡ t = omega arith in
    elim (cases_lt w t) [
      | inl below ↦
          let yes_known : known ≡ true = grind (arith, nat_tests) in
          let more = t - at - zeros - 1 in
          let next : ahead (advance r zeros) ≡ true ∷ rest =
          ap (λ n. ahead (advance r n)) (sym (length-replicate zeros false)) ∙ ahead_on r (replicate zeros false) (ending known ++ rest) first ∙ ap (λ (b : Bool). ending b ++ rest) yes_known in
          opened
          ∙ ap (λ n. climb at n r) (let e : t - at ≡ zeros + suc more = omega arith in e)
          ∙ climb_in zeros at (suc more) r (ending known ++ rest) first
          ∙ climb_one (at + zeros) more (advance r zeros) rest next
          ∙ ap (λ (n : Node). Ok (n, advance (advance r zeros) 1)) (node_same (at + zeros) (min w (max a t)) true (nat_lt w (max a t)) (omega arith) (sym (ap (λ n. nat_lt w n) top_is ∙ yes_known)))
          ∙ ap (λ (s : Bits). Ok (told_node w (max a t), s)) (advance_advance r zeros 1 ∙ ap (advance r) (sym (long ∙ ap (λ (b : Bool). zeros + length (ending b)) yes_known)))
      | inr high ↦
          let not_known : known ≡ false = grind (arith, nat_tests) in
          opened
          ∙ ap (λ n. climb at n r) (let e : t - at ≡ zeros + 0 = omega arith in e)
          ∙ climb_in zeros at 0 r (ending known ++ rest) first
          ∙ ap (λ (n : Node). Ok (n, advance r zeros)) (node_same (at + zeros) (min w (max a t)) false (nat_lt w (max a t)) (omega arith) (sym (ap (λ n. nat_lt w n) top_is ∙ not_known)))
          ∙ ap (λ n. Ok (told_node w (max a t), advance r n)) (sym (long ∙ ap (λ (b : Bool). zeros + length (ending b)) not_known ∙ add-zero zeros))
    ]

not_less : (a b : ℕ) → b ≤ a → nat_lt a b ≡ false
not_less a b h = grind (arith, nat_tests)

-- What a visit gives at a node whose piece is ahead.
pub record VisitTold (u w a t : ℕ) (node : Node) (r : Bits) : Type 0 where
  pub after : Node
  pub is : visit node (min u t) t r ≡ Ok (after, advance r (length (rest_of_word u w a t)))
  pub told : HasTold u w (max a t) after
  pub below : after.low < t → after.low ≡ w
  pub high : t ≤ after.low → t ≤ w

-- nothing is told, and the node stays
told_kept : (u w a t : ℕ) (node : Node) (r : Bits) → (node.known ≡ true) ⊎ (t ≤ node.low) → rest_of_word u w a t ≡ [] → visit node (min u t) t r ≡ Ok (node, advance r (length (rest_of_word u w a t)))
told_kept u w a t node r stays none =
    visit_stays node (min u t) t r stays
    ∙ ap (λ k. Ok (node, record r { read = k })) (sym (add-zero r.read))
    ∙ ap (λ (xs : List Bool). Ok (node, advance r (length xs))) (sym none)

told_known : (u w a t : ℕ) (node : Node) (r : Bits) → u ≤ w → HasTold u w a node → w < a → VisitTold u w a t node r
told_known u w a t node r tree h less =
    let one : nat_lt w a ≡ true = grind (arith, nat_tests) in
    let later : nat_lt w (max a t) ≡ true = grind (arith, nat_tests) in
    let is_known : node.known ≡ true = h.known ∙ one in
    let value : node.low ≡ w = h.value is_known in
    let none : rest_of_word u w a t ≡ [] = elim (cases_lt a t) [ inl more ↦ piece_known u w a t tree less more | inr enough ↦ piece_asked u w a t enough ] in
    record {
      after = node;
      is = told_kept u w a t node r (inl is_known) none;
      told = record { known = is_known ∙ sym later; value = λ _. value; least = λ n. absurd (let f : true ≡ false = sym is_known ∙ n in cc) };
      below = λ _. value;
      high = λ high. omega (arith, high, value);
    }

told_high : (u w a t : ℕ) (node : Node) (r : Bits) → HasTold u w a node → a ≤ w → node.known ≡ false → t ≤ node.low → VisitTold u w a t node r
told_high u w a t node r h open_value unknown high =
    let l = h.least unknown in
    let low = l.0 in
    let enough : t ≤ a = omega (arith, high, low) in
    record {
      after = node;
      is = told_kept u w a t node r (inr high) (piece_asked u w a t enough);
      told = subst (λ m. HasTold u w m node) (let e : a ≡ max a t = omega (arith, enough) in e) h;
      below = λ less. absurd (omega (arith, less, high));
      high = λ _. omega (arith, enough, open_value);
    }

-- the node above told it
told_over : (u w a t : ℕ) (node : Node) (r : Bits) → HasTold u w a node → a ≤ w → node.known ≡ false → node.low < t → t ≤ a → VisitTold u w a t node r
told_over u w a t node r h open_value unknown less enough =
    let l = h.least unknown in
    let over = l.1 in
    let from : max node.low (min u t) ≡ t = omega (arith, over, less, enough) in
    let none : rest_of_word u w a t ≡ [] = piece_asked u w a t enough in
    let not_below : nat_lt w (max a t) ≡ false = grind (arith, nat_tests) in
    record {
      after = record { low = t; known = false };
      is =
          visit_open node (min u t) t r unknown less
          ∙ ap (λ n. climb n (t - n) r) from
          ∙ climb_done t t r (omega arith)
          ∙ ap (λ k. Ok (record { low = t; known = false }, record r { read = k })) (sym (add-zero r.read))
          ∙ ap (λ (xs : List Bool). Ok (record { low = t; known = false }, advance r (length xs))) (sym none);
      told = record { known = sym not_below; value = λ k. absurd (cc); least = λ _. (omega arith, omega (arith, over, less, enough)) };
      below = λ under. absurd (omega (arith, under));
      high = λ _. omega (arith, enough, open_value);
    }

told_open : (u w a t : ℕ) (node : Node) (r : Bits) (rest : List Bool) → u ≤ w → HasTold u w a node → a ≤ w → node.known ≡ false → node.low < t → a < t → ahead r ≡ rest_of_word u w a t ++ rest → VisitTold u w a t node r
told_open u w a t node r rest tree h open_value unknown low less first =
    let l = h.least unknown in
    let own = l.0 in
    let over = l.1 in
    let not_known : nat_lt w a ≡ false = grind (arith, nat_tests) in
    let from : max node.low (min u t) ≡ max (min w a) (min u t) = omega (arith, own, over, open_value, less) in
    record {
      after = told_node w (max a t);
      is =
          visit_open node (min u t) t r unknown low
          ∙ ap (λ n. climb n (t - n) r) from
          ∙ sym (visit_open (told_node w a) (min u t) t r not_known (omega (arith, less)))
          ∙ told_climbed u w a t r rest tree less open_value first;
      told = told_has u w (max a t);
      below = λ under. omega (arith, under);
      high = λ high. omega (arith, high);
    }

-- A node whose piece is ahead tells it.
pub visit_told : (u w a t : ℕ) (node : Node) (r : Bits) (rest : List Bool) → u ≤ w → HasTold u w a node → ahead r ≡ rest_of_word u w a t ++ rest → VisitTold u w a t node r
visit_told u w a t node r rest tree h first =
    elim (cases_lt w a) [
      | inl less ↦ told_known u w a t node r tree h less
      | inr open_value ↦ (let unknown : node.known ≡ false = h.known ∙ not_less w a open_value in
          elim (cases_lt node.low t) [
            | inr high ↦ told_high u w a t node r h open_value unknown high
            | inl low ↦ elim (cases_lt a t) [
              | inr enough ↦ told_over u w a t node r h open_value unknown low enough
              | inl less ↦ told_open u w a t node r rest tree h open_value unknown low less first
            ]
          ])
    ]

-- What is known of a node after it was asked for a threshold, under nodes of which none is above `over`.
pub record IsAsked (node : Node) (before over : ℕ) : Type 0 where
  pub closed : node.known ≡ true → node.low < before
  pub still_open : node.known ≡ false → (node.low ≤ before) × (before ≤ max node.low over)

-- What a visit gives.
pub record Visited (u w a t : ℕ) (node : Node) (old new : Bits) : Type 0 where
  pub was : HasTold u w a node
  pub given : GivesBits old (rest_of_word u w a t) new

-- the outcome of a visit: the node stays, or is climbed
visit_kept_is : (node : Node) (over threshold : ℕ) (r : Bits) (out : Node × Bits) → (node.known ≡ true) ⊎ (threshold ≤ node.low) → visit node over threshold r ≡ Ok out → (out.0 ≡ node) × (out.1 ≡ r)
visit_kept_is node over threshold r out stays h =
    let same : Ok out ≡ Ok (node, r) = sym h ∙ visit_stays node over threshold r stays in
    (ap (λ (p : Node × Bits). p.0) (let e : out ≡ (node, r) = cc in e), ap (λ (p : Node × Bits). p.1) (let e : out ≡ (node, r) = cc in e))

visit_climbs : (node : Node) (over threshold : ℕ) (r : Bits) (out : Node × Bits) → node.known ≡ false → node.low < threshold → visit node over threshold r ≡ Ok out
    → Climbed (max node.low over) (threshold - max node.low over) out.0 r out.1
visit_climbs node over threshold r out k less h = climb_out (max node.low over) (threshold - max node.low over) r out (sym (visit_open node over threshold r k less) ∙ h)

found_known : (u w a t : ℕ) (node : Node) (r : Bits) → u ≤ w → IsAsked node a u → node.known ≡ true → HasTold u w (max a t) node → Visited u w a t node r r
found_known u w a t node r tree i k now =
    let value : node.low ≡ w = now.value k in
    let low_below : node.low < a = i.closed k in
    let below : w < a = omega (arith, value, low_below) in
    let one : nat_lt w a ≡ true = grind (arith, nat_tests) in
    let none : rest_of_word u w a t ≡ [] = elim (cases_lt a t) [ inl less ↦ piece_known u w a t tree below less | inr enough ↦ piece_asked u w a t enough ] in
    record {
      was = record { known = k ∙ sym one; value = λ _. value; least = λ n. absurd (let f : true ≡ false = sym k ∙ n in cc) };
      given = subst (λ (bs : List Bool). GivesBits r bs r) (sym none) (gives_none r);
    }

found_high : (u w a t : ℕ) (node : Node) (r : Bits) → t ≤ a → HasTold u w (max a t) node → Visited u w a t node r r
found_high u w a t node r enough now = record {
  was = subst (λ m. HasTold u w m node) (let e : max a t ≡ a = omega (arith, enough) in e) now;
  given = subst (λ (bs : List Bool). GivesBits r bs r) (sym (piece_asked u w a t enough)) (gives_none r);
}

-- the node above told it
found_over : (u w a t : ℕ) (node : Node) (r : Bits) (out : Node × Bits) → IsAsked node a u → node.known ≡ false → node.low < t → t ≤ a
    → Climbed (max node.low (min u t)) (t - max node.low (min u t)) out.0 r out.1 → HasTold u w (max a t) out.0 → Visited u w a t node r out.1
found_over u w a t node r out i unknown less enough c now =
    let s = i.still_open unknown in
    let over = s.1 in
    let from : max node.low (min u t) ≡ t = omega (arith, over, less, enough) in
    let still : out.0.known ≡ false = elim (cases_Bool out.0.known) [ inl k ↦ absurd (let p = c.part k in omega (arith, p, from)) | inr n ↦ n ] in
    let none : c.zeros ≡ 0 = (let e = c.whole still in omega (arith, e, from)) in
    let top_is : max a t ≡ a = omega (arith, enough) in
    record {
      was = record {
        known = unknown ∙ sym still ∙ now.known ∙ ap (nat_lt w) top_is;
        value = λ k. absurd (let f : true ≡ false = sym k ∙ unknown in cc);
        least = λ _. s;
      };
      given = subst (λ (bs : List Bool). GivesBits r bs out.1)
          (ap (λ n. replicate n false ++ ending out.0.known) none ∙ ap ending still ∙ sym (piece_asked u w a t enough)) c.given;
    }

found_climbed : (u w a t : ℕ) (node : Node) (r : Bits) (out : Node × Bits) → u ≤ w → IsAsked node a u → node.known ≡ false → node.low < t → a < t
    → Climbed (max node.low (min u t)) (t - max node.low (min u t)) out.0 r out.1 → HasTold u w (max a t) out.0 → Visited u w a t node r out.1
found_climbed u w a t node r out tree i unknown low less c now =
    let s = i.still_open unknown in
    let own = s.0 in
    let over = s.1 in
    let from : max node.low (min u t) ≡ max a (min u t) = omega (arith, own, over, less) in
    let climbed : out.0.low ≡ max node.low (min u t) + c.zeros = c.low_is in
    let top_is : max a t ≡ t = omega (arith, less) in
    let known_is : out.0.known ≡ nat_lt w t = now.known ∙ ap (nat_lt w) top_is in
    let both : (a ≤ w) × (c.zeros ≡ min w t - max a (min u t)) = elim (cases_lt w t) [
      | inl below ↦
          let one : nat_lt w t ≡ true = grind (arith, nat_tests) in
          let value = now.value (known_is ∙ one) in
          (omega (arith, value, climbed, from), omega (arith, value, climbed, from, below))
      | inr high ↦
          let none : nat_lt w t ≡ false = grind (arith, nat_tests) in
          let whole = c.whole (known_is ∙ none) in
          (omega (arith, high, less), omega (arith, whole, from, high, low))
    ] in
    let open_value = both.0 in
    let not_below : nat_lt w a ≡ false = grind (arith, nat_tests) in
    record {
      was = record {
        known = unknown ∙ sym not_below;
        value = λ k. absurd (let f : true ≡ false = sym k ∙ unknown in cc);
        least = λ _. s;
      };
      given = subst (λ (bs : List Bool). GivesBits r bs out.1)
          (ap (λ n. replicate n false ++ ending out.0.known) both.1
          ∙ ap (λ (b : Bool). replicate (min w t - max a (min u t)) false ++ ending b) known_is
          ∙ sym (piece-form u w a t tree less open_value)) c.given;
    }

-- What was told before a visit, and in it, is that of any value that fits afterwards.
pub visit_found : (u w a t : ℕ) (node : Node) (r : Bits) (out : Node × Bits) → u ≤ w → IsAsked node a u → visit node (min u t) t r ≡ Ok out → HasTold u w (max a t) out.0 → Visited u w a t node r out.1
visit_found u w a t node r out tree i h now = by_known (cases_Bool node.known) (cases_lt node.low t)
  where
    by_known : (node.known ≡ true) ⊎ (node.known ≡ false) → (node.low < t) ⊎ (t ≤ node.low) → Visited u w a t node r out.1
    by_known (inl k) order =
        let s = visit_kept_is node (min u t) t r out (inl k) h in
        subst (λ (b : Bits). Visited u w a t node r b) (sym s.1) (found_known u w a t node r tree i k (subst (λ (n : Node). HasTold u w (max a t) n) s.0 now))
    by_known (inr n) (inr high) =
        let s = visit_kept_is node (min u t) t r out (inr high) h in
        let low = (i.still_open n).0 in
        subst (λ (b : Bits). Visited u w a t node r b) (sym s.1) (found_high u w a t node r (omega (arith, high, low)) (subst (λ (n : Node). HasTold u w (max a t) n) s.0 now))
    by_known (inr n) (inl less) =
        let c = visit_climbs node (min u t) t r out n less h in
        elim (cases_lt a t) [
          | inl more ↦ found_climbed u w a t node r out tree i n less more c now
          | inr enough ↦ found_over u w a t node r out i n less enough c now
        ]

-- What is known after a visit.
pub record Knows (over a t : ℕ) (node out : Node) : Type 0 where
  pub closed : out.known ≡ true → out.low < max a t
  pub still_open : out.known ≡ false → (out.low ≤ max a t) × (t ≤ out.low)
  pub keeps : node.known ≡ true → out ≡ node
  pub lows : node.low ≤ out.low
  pub grows : node.known ≡ false → out.known ≡ true → (over ≤ out.low) × (out.low < t)

pub visit_knows : (over a t bound : ℕ) (node : Node) (r : Bits) (out : Node × Bits) → over ≤ t → IsAsked node a bound → visit node over t r ≡ Ok out → Knows over a t node out.0
visit_knows over a t bound node r out within i h = by_known (cases_Bool node.known) (cases_lt node.low t)
  where
    by_known : (node.known ≡ true) ⊎ (node.known ≡ false) → (node.low < t) ⊎ (t ≤ node.low) → Knows over a t node out.0
    by_known (inl k) order =
        let s = visit_kept_is node over t r out (inl k) h in
        subst (λ (n : Node). Knows over a t node n) (sym s.0) record {
          closed = λ _. (let low_below = i.closed k in omega (arith, low_below));
          still_open = λ n. absurd (let f : true ≡ false = sym k ∙ n in cc);
          keeps = λ _. refl;
          lows = omega arith;
          grows = λ n _. absurd (let f : true ≡ false = sym k ∙ n in cc);
        }
    by_known (inr n) (inr high) =
        let s = visit_kept_is node over t r out (inr high) h in
        let low = (i.still_open n).0 in
        subst (λ (m : Node). Knows over a t node m) (sym s.0) record {
          closed = λ k. absurd (let f : true ≡ false = sym k ∙ n in cc);
          still_open = λ _. (omega (arith, low), high);
          keeps = λ k. absurd (let f : true ≡ false = sym k ∙ n in cc);
          lows = omega arith;
          grows = λ _ k. absurd (let f : true ≡ false = sym k ∙ n in cc);
        }
    by_known (inr n) (inl less) =
        let c = visit_climbs node over t r out n less h in
        let climbed : out.0.low ≡ max node.low over + c.zeros = c.low_is in
        record {
          closed = λ k. (let p = c.part k in omega (arith, p, climbed));
          still_open = λ u. (let p = c.whole u in (omega (arith, p, climbed, less, within), omega (arith, p, climbed, less, within)));
          keeps = λ k. absurd (let f : true ≡ false = sym k ∙ n in cc);
          lows = omega (arith, climbed);
          grows = λ _ k. (omega (arith, climbed), (let p = c.part k in omega (arith, p, climbed)));
        }

-- A visit that leaves a node below the threshold knows it.
pub below_known : (over a t : ℕ) (node out : Node) → Knows over a t node out → out.low < t → out.known ≡ true
below_known over a t node out k less = elim (cases_Bool out.known) [ inl is ↦ is | inr n ↦ absurd (let high = (k.still_open n).1 in omega (arith, high, less)) ]

pub visit_known : (node : Node) (over t : ℕ) (r : Bits) (out : Node × Bits) → visit node over t r ≡ Ok out → out.0.low < t → out.0.known ≡ true
visit_known node over t r out h under = by_known (cases_Bool node.known) (cases_lt node.low t)
  where
    by_known : (node.known ≡ true) ⊎ (node.known ≡ false) → (node.low < t) ⊎ (t ≤ node.low) → out.0.known ≡ true
    by_known (inl k) order = ap (λ (z : Node). z.known) (visit_kept_is node over t r out (inl k) h).0 ∙ k
    by_known (inr n) (inr high) = absurd (let e = ap (λ (z : Node). z.low) (visit_kept_is node over t r out (inr high) h).0 in omega (arith, e, high, under))
    by_known (inr n) (inl less) =
        let c = visit_climbs node over t r out n less h in
        let climbed : out.0.low ≡ max node.low over + c.zeros = c.low_is in
        elim (cases_Bool out.0.known) [ inl is ↦ is | inr not_known ↦ absurd (let p = c.whole not_known in omega (arith, p, climbed, under)) ]
