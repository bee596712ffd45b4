-- Lists of all precincts of a tile, one behind another.
use Rattle.std.proofs.Common.{◌≡◌, ℕ, ◌+◌, ◌*◌, ◌<◌, List, [], ◌∷◌, ◌++◌, append_assoc, length, get_or, sym, ap, ◌∙◌}
use Rattle.std.specs.List.{flat_map, range_with_len}
use Rattle.std.specs.Global.{Vec}
use Rattle.std.proofs.lemmas.List.{append-nil, get_or-map}
use Rattle.std.proofs.lemmas.List.Concat.{flat_map-append}
use Rattle.jk_math.specs.declared.rect.Rect.{Rect}
use Rattle.jk_marks.specs.declared.coding.Coding.{Coding}
use Rattle.jk_geom.specs.Precincts.{precincts_across, precincts_down, precinct_number}
use Rattle.jk_packet.specs.Written.{Table}
use Rattle.jk_math.specs.Lists.{lists_of}
use Rattle.jk_tile.proofs.Components.{range_push}

-- a part more
pub parts_grow : {X : Type 0} (g : ℕ → List X) (n : ℕ) (front old new : List X) → old ≡ front ++ flat_map g (range_with_len 0 n) → new ≡ old ++ g n → new ≡ front ++ flat_map g (range_with_len 0 (n + 1))
parts_grow {X} g n front old new eo e =
    e ∙ ap (λ (ls : List X). ls ++ g n) eo ∙ append_assoc front (flat_map g (range_with_len 0 n)) (g n)
    ∙ ap (λ (ls : List X). front ++ ls) (ap (λ (ls : List X). flat_map g (range_with_len 0 n) ++ ls) (sym (append-nil (g n))) ∙ sym (flat_map-append g (range_with_len 0 n) (n ∷ [])) ∙ ap (flat_map g) (sym (range_push n)))

pub parts_end : {X : Type 0} (g : ℕ → List X) (n m : ℕ) (front : List X) → n ≡ m → front ++ flat_map g (range_with_len 0 n) ≡ front ++ flat_map g (range_with_len 0 m)
parts_end g n m front e = ap (λ k. front ++ flat_map g (range_with_len 0 k)) e

-- how many precincts there are
pub count_of : (rect a : Rect) (coding k : Coding) (r across down : ℕ) → rect ≡ a → coding ≡ k → across ≡ precincts_across rect coding r → down ≡ precincts_down rect coding r → across * down ≡ precinct_number a k r
count_of rect a coding k r across down er ek ea ed =
    ap (λ n. n * down) ea ∙ ap (λ n. precincts_across rect coding r * n) ed ∙ ap (λ (b : Rect). precinct_number b coding r) er ∙ ap (λ (j : Coding). precinct_number a j r) ek

-- ---- writers

-- the list of tables that stands at a place
pub own_list : (vs : List (Vec Table)) (v : Vec Table) (lent : List Table) (at place : ℕ) → v ≡ get_or vs at v → lent ≡ v.items → at ≡ place → at < length vs → lent ≡ get_or (lists_of vs) place []
own_list vs v lent at place ev el ea lt = el ∙ ap (λ (w : Vec Table). w.items) ev ∙ sym (get_or-map (λ (w : Vec Table). w.items) vs at v [] lt) ∙ ap (λ n. get_or (lists_of vs) n []) ea
