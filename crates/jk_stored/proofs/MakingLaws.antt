-- Tile-parts that are made one after another.
use Rattle.std.proofs.Common.{◌≡◌, ℕ, zero, suc, ◌+◌, ◌<◌, List, [], ◌∷◌, ◌++◌, length, map, take, get_or, refl, sym, ap, ◌∙◌, subst, arith, append-nil}
use Rattle.std.specs.List.{flat_map}
use Rattle.std.proofs.lemmas.List.{map-append}
use Rattle.std.proofs.lemmas.Grind.{flat_map-append}
use Rattle.jk_stored.specs.declared.outline.PartSize.{PartSize}
use Rattle.jk_stored.specs.Making.{Made, made_text, AreMade}

pub same_at : {A : Type 0} (xs : List A) (i : ℕ) (d e : A) → i < length xs → get_or xs i d ≡ get_or xs i e
same_at [] i d e lt = absurd (omega (arith, lt))
same_at (x ∷ xs) zero d e lt = refl
same_at (x ∷ xs) (suc i) d e lt = same_at xs i d e (omega (arith, lt))

-- They are made up to a tile, and places.
abbrev pub MadeUpto : ((t at place : ℕ) → Made → Type 0) → (t at place : ℕ) → List Made → (t' at' place' : ℕ) → Type 0
MadeUpto P t at place [] t' at' place' = (t ≡ t') × (at ≡ at') × (place ≡ place')
MadeUpto P t at place (m ∷ made) t' at' place' = P t at place m × MadeUpto P (t + 1) (at + m.size.held) (place + m.size.size) made t' at' place'

-- one more
pub made_push : (P : (t at place : ℕ) → Made → Type 0) (t at place : ℕ) (made : List Made) (t' at' place' : ℕ) (m : Made) → MadeUpto P t at place made t' at' place' → P t' at' place' m
    → MadeUpto P t at place (made ++ m ∷ []) (t' + 1) (at' + m.size.held) (place' + m.size.size)
made_push P t at place [] t' at' place' m upto is = (
  subst (λ k. P k at place m) (sym upto.0) (subst (λ k. P t' k place m) (sym upto.1) (subst (λ k. P t' at' k m) (sym upto.2) is)),
  (ap (λ k. k + 1) upto.0, ap (λ k. k + m.size.held) upto.1, ap (λ k. k + m.size.size) upto.2),
)
made_push P t at place (n ∷ made) t' at' place' m upto is = (upto.0, made_push P (t + 1) (at + n.size.held) (place + n.size.size) made t' at' place' m upto.1 is)

pub made_all : (P : (t at place : ℕ) → Made → Type 0) (t at place : ℕ) (made : List Made) (t' at' place' : ℕ) → MadeUpto P t at place made t' at' place' → AreMade P t at place made
made_all P t at place [] t' at' place' upto = tt
made_all P t at place (m ∷ made) t' at' place' upto = (upto.0, made_all P (t + 1) (at + m.size.held) (place + m.size.size) made t' at' place' upto.1)

pub made_texts : (made : List Made) (m : Made) → flat_map made_text (made ++ m ∷ []) ≡ flat_map made_text made ++ made_text m
made_texts made m = flat_map-append made_text made (m ∷ []) ∙ ap (λ (xs : List ℕ). flat_map made_text made ++ xs) (append-nil (made_text m))

-- the sizes, one more
take_push : {A : Type 0} (xs : List A) (i : ℕ) (d : A) → i < length xs → take i xs ++ get_or xs i d ∷ [] ≡ take (suc i) xs
take_push [] i d lt = absurd (omega (arith, lt))
take_push (x ∷ xs) zero d lt = refl
take_push {A} (x ∷ xs) (suc i) d lt = ap (λ (ys : List A). x ∷ ys) (take_push xs i d (omega (arith, lt)))

pub sizes_push : (sizes : List PartSize) (made : List Made) (m : Made) (i : ℕ) (d : PartSize) → i < length sizes → map (λ (u : Made). u.size) made ≡ take i sizes → m.size ≡ get_or sizes i d → map (λ (u : Made). u.size) (made ++ m ∷ []) ≡ take (i + 1) sizes
sizes_push sizes made m i d lt so is =
    map-append (λ (u : Made). u.size) made (m ∷ []) ∙ (λ j. so j ++ is j ∷ []) ∙ take_push sizes i d lt ∙ ap (λ k. take k sizes) (let e : suc i ≡ i + 1 = omega arith in e)
