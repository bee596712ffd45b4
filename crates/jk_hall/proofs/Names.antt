-- A name in one list or in another.
use Rattle.std.proofs.Common.{◌≡◌, ℕ, Bool, true, false, ◌||◌, List, [], ◌∷◌, ◌++◌, refl, ap, ◌∙◌}
use Rattle.std.specs.Str.{bytes_eq}
use Rattle.std.specs.String.{string_bytes}
use Rattle.jk_store.specs.Catalogue.{is_listed}
use Rattle.jk_store.specs.declared.entry.Entry.{Entry}

or_else : (a b c : Bool) → (a || (b || c)) ≡ ((a || b) || c)
or_else true b c = refl
or_else false b c = refl

pub listed-append : (xs ys : List Entry) (name : List ℕ) → is_listed (xs ++ ys) name ≡ (is_listed xs name || is_listed ys name)
listed-append [] ys name = refl
listed-append (x ∷ xs) ys name =
    let a = bytes_eq (string_bytes x.name) name in
    ap (λ (b : Bool). a || b) (listed-append xs ys name) ∙ or_else a (is_listed xs name) (is_listed ys name)
