-- The loop that looks for an item among boxes of XML and under UUIDs, one step at a time.
use Rattle.std.proofs.Common.{◌≡◌, ℕ, Bor, List, [], ◌∷◌, ◌++◌, Option, Some, None, is_some, option_map, true, false, Ok, refl}
use Rattle.jk_extras.specs.declared.finding.Found.{Found}
use Rattle.jk_beside.specs.declared.taking.Item.{Item}
use Rattle.jk_beside.specs.Taking.{held_in, HoldNone}

pub none_more : (item : Item) (file : List ℕ) (fs : List Found) (f : Found) → HoldNone item file fs → held_in item file f ≡ Ok None
    → HoldNone item file (fs ++ f ∷ [])
none_more item file [] f none held = (held, tt)
none_more item file (g ∷ gs) f none held = (none.0, none_more item file gs f none.1 held)

-- whether something is held, by the bytes of a slice
abbrev pub seen : Option (Bor (List ℕ)) → Option (List ℕ)
seen o = option_map (λ (b : Bor (List ℕ)). b.now) o

pub seen_some : (o : Option (Bor (List ℕ))) → is_some o ≡ true → (x : List ℕ) × (seen o ≡ Some x)
seen_some (Some b) h = (b.now, refl)
seen_some None h = absurd cc

pub seen_none : (o : Option (Bor (List ℕ))) → is_some o ≡ false → seen o ≡ None
seen_none (Some b) h = absurd cc
seen_none None h = refl
