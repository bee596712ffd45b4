-- The lists that are looked at in a run.
use Rattle.std.proofs.Common.{◌≡◌, ℕ, zero, suc, ◌≤◌, List, [], ◌∷◌, ◌++◌, Some, slice_get, refl, ap, sym, ◌∙◌, subst, arith, append_assoc}
use Rattle.std.proofs.lemmas.List.{append-nil}
use mathlib.Core.List.{IsPrefix}
use Rattle.jk_store.specs.declared.entry.Entry.{Entry}
use Rattle.jk_hall.specs.Runs.{Event, publishes, entered, LookedAt, looked_at, published, looks, publishing, HasPublished, LooksAt, LooksNext}
use Rattle.jk_hall.proofs.Fronts.{prefix_self, prefix_trans}

-- each begins with the list at first
pub opening_first : (list : List Entry) (events : List Event) (i : ℕ) (a : LookedAt) → slice_get (looks list events) i ≡ Some a → IsPrefix list a.list
opening_first list [] i a h = absurd cc
opening_first list (publishes e ∷ events) i a h =
    prefix_trans list (list ++ e ∷ []) a.list (e ∷ [], refl) (opening_first (list ++ e ∷ []) events i a h)
opening_first list (entered reader ∷ events) zero a h =
    let is : looked_at reader list ≡ a = cc (h) in
    subst (λ (x : LookedAt). IsPrefix list x.list) is (prefix_self list)
opening_first list (entered reader ∷ events) (suc i) a h = opening_first list events i a h

pub grow : (list : List Entry) (events : List Event) (i j : ℕ) (a b : LookedAt) → i ≤ j
    → slice_get (looks list events) i ≡ Some a → slice_get (looks list events) j ≡ Some b → IsPrefix a.list b.list
grow list [] i j a b le h k = absurd cc
grow list (publishes e ∷ events) i j a b le h k = grow (list ++ e ∷ []) events i j a b le h k
grow list (entered reader ∷ events) zero j a b le h k =
    let is : looked_at reader list ≡ a = cc (h) in
    subst (λ (x : LookedAt). IsPrefix x.list b.list) is (opening_first list (entered reader ∷ events) j b k)
grow list (entered reader ∷ events) (suc i) zero a b le h k = absurd (omega arith)
grow list (entered reader ∷ events) (suc i) (suc j) a b le h k = grow list events i j a b (omega arith) h k

pub all : (list : List Entry) (before after : List Event) (reader : ℕ)
    → looks list (before ++ entered reader ∷ after) ≡ looks list before ++ looked_at reader (list ++ published before) ∷ looks (list ++ published before) after
all list [] after reader = ap (λ l. looked_at reader l ∷ looks l after) (sym (append-nil list))
all list (publishes e ∷ before) after reader =
    all (list ++ e ∷ []) before after reader
    ∙ ap (λ l. looks (list ++ e ∷ []) before ++ looked_at reader l ∷ looks l after) (append_assoc list (e ∷ []) (published before))
all list (entered other ∷ before) after reader = ap (λ xs. looked_at other list ∷ xs) (all list before after reader)

-- What is published behind other events.
pub published_more : (events : List Event) (entries : List Entry) → published (events ++ publishing entries) ≡ published events ++ entries
published_more [] [] = refl
published_more [] (e ∷ entries) = ap (λ xs. e ∷ xs) (published_more [] entries)
published_more (publishes e ∷ events) entries = ap (λ xs. e ∷ xs) (published_more events entries)
published_more (entered reader ∷ events) entries = published_more events entries

pub publishes_on : (opening : List Entry) (events : List Event) (list more new : List Entry)
    → new ≡ list ++ more → HasPublished opening events list → HasPublished opening (events ++ publishing more) new
publishes_on opening events list more new is has =
    is ∙ ap (λ l. l ++ more) has ∙ append_assoc opening (published events) more
    ∙ ap (λ l. opening ++ l) (sym (published_more events more))

-- A look at what is published is the next of a history.
pub looks_on : (opening : List Entry) (events : List Event) (reader : ℕ) (list : List Entry)
    → HasPublished opening events list → LooksAt opening events reader list
looks_on opening events reader list has =
    all opening events [] reader ∙ ap (λ l. looks opening events ++ looked_at reader l ∷ []) (sym has)

pub looks_next : (old new : List Entry) → IsPrefix old new → LooksNext old new
looks_next old new p opening events reader has =
    let on : HasPublished opening (events ++ publishing p.0) new = publishes_on opening events old p.0 new (sym p.1) has in
    (p.0, on, looks_on opening (events ++ publishing p.0) reader new on)
