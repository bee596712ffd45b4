-- Cuts that may have been made of entries still may where one is added at the end.
use Rattle.std.proofs.Common.{◌≡◌, ℕ, Bool, true, false, cond, List, [], ◌∷◌, ◌++◌, map, Some, sym, ap, ◌∙◌, subst}
use Rattle.std.specs.Str.{bytes_eq}
use Rattle.std.specs.String.{string_bytes}
use Rattle.jk_catalogue.specs.Images.{Within}
use Rattle.jk_store.specs.Catalogue.{entry_of}
use Rattle.jk_store.specs.Showing.{MayBeMade}
use Rattle.jk_store.specs.declared.entry.Entry.{Entry}
use Rattle.jk_store.proofs.AddLaws.{map_more}

pub found_on : (entries more : List Entry) (n : List ℕ) (e : Entry) → entry_of entries n ≡ Some e → entry_of (entries ++ more) n ≡ Some e
found_on [] more n e h = absurd (cc)
found_on (x ∷ entries) more n e h = at_first (bytes_eq (string_bytes x.name) n) (found_on entries more n e) h
  where
    at_first : (b : Bool) → (entry_of entries n ≡ Some e → entry_of (entries ++ more) n ≡ Some e)
        → cond b (Some x) (entry_of entries n) ≡ Some e → cond b (Some x) (entry_of (entries ++ more) n) ≡ Some e
    at_first true k h = h
    at_first false k h = k h

pub made_on : (entries more : List Entry) → Within (MayBeMade entries) (MayBeMade (entries ++ more))
made_on entries more n a b h = (h.0, h.1, found_on entries more n h.0 h.2, h.3, h.4)

pub same_made : {X : Type 0} (value : X → Entry) (old new : List X) → new ≡ old → Within (MayBeMade (map value old)) (MayBeMade (map value new))
same_made value old new same n a b h = subst (λ l. MayBeMade (map value l) n a b) (sym same) h

pub archive_made : {X : Type 0} (value : X → Entry) (old mid new : List X) (x : X) → new ≡ mid ++ x ∷ [] → mid ≡ old → Within (MayBeMade (map value old)) (MayBeMade (map value new))
archive_made value old mid new x pushed same n a b h =
    let all : map value new ≡ map value old ++ value x ∷ [] = ap (map value) (pushed ∙ ap (λ l. l ++ x ∷ []) same) ∙ map_more value old x in
    subst (λ es. MayBeMade es n a b) (sym all) (made_on (map value old) (value x ∷ []) n a b h)
