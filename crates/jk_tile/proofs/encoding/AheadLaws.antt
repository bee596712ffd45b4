-- Code-blocks that are coded before the rows of them in which they stand.
use Rattle.std.proofs.Common.{◌≡◌, ℕ, ◌+◌, ◌<◌, List, [], ◌∷◌, ◌++◌, append_assoc, map, take, drop, reverse, All, Result, Ok, Err, IfOk, sym, ap, subst, ◌∙◌, refl}
use Rattle.std.specs.Global.{Vec}
use Rattle.std.specs.List.{flat_map, AllZip}
use Rattle.std.proofs.lemmas.List.{append-nil, map-append, reverse-append}
use Rattle.std.proofs.lemmas.List.Elements.{All-push, All-take, All-drop}
use Rattle.std.proofs.lemmas.Grind.{flat_map-append}
use Rattle.std.proofs.Math.Seq.{take-add}
use Rattle.jk_math.specs.Lists.{lists_of}
use Rattle.jk_block.specs.declared.decoding.Block.{Block}
use Rattle.jk_tile.specs.encoding.Layered.{Layered}
use Rattle.jk_tile.specs.encoding.Ahead.{IsCodable, layered_block, IsGroup, layered_group, IsGroupCoded}
use Rattle.jk_tile.specs.declared.encoding.ahead.GroupJob.{GroupJob}

-- ---- groups

-- the first ones are in groups
pub record AreGroupsUpto (layers : ℕ) (blocks : List Block) (from : ℕ) (jobs : List GroupJob) : Type 0 where
  pub groups : All IsGroup jobs
  pub whole : flat_map layered_group jobs ≡ map (layered_block layers) (take from blocks)

pub groups_more : (layers : ℕ) (blocks : List Block) (from count : ℕ) (j : GroupJob) (old new : List GroupJob) → All IsCodable blocks → j.layers ≡ layers → j.blocks.now ≡ take count (drop from blocks) → AreGroupsUpto layers blocks from old → new ≡ old ++ j ∷ []
    → AreGroupsUpto layers blocks (from + count) new
groups_more layers blocks from count j old new all el eb was is =
    let f = layered_block layers in
    let part = take count (drop from blocks) in
    record {
      groups = subst (All IsGroup) (sym is) (All-push IsGroup old j was.groups (subst (All IsCodable) (sym eb) (All-take IsCodable count (drop from blocks) (All-drop IsCodable from blocks all))));
      whole = ap (flat_map layered_group) is ∙ flat_map-append layered_group old (j ∷ []) ∙ ap (λ (l : List Layered). l ++ flat_map layered_group (j ∷ [])) was.whole
          ∙ ap (λ (l : List Layered). map f (take from blocks) ++ l) (append-nil (layered_group j) ∙ ap (λ m. map (layered_block m) j.blocks.now) el ∙ ap (map f) eb)
          ∙ sym (map-append f (take from blocks) part) ∙ ap (map f) (sym (take-add from count blocks));
    }

-- ---- what their jobs give

pub joined_more : (x : Vec Layered) (old new : List Layered) (rest less : List (Vec Layered)) → rest ≡ x ∷ less → new ≡ old ++ x.items
    → new ++ flat_map (λ own. own) (lists_of less) ≡ old ++ flat_map (λ own. own) (lists_of rest)
joined_more x old new rest less step e =
    ap (λ (l : List Layered). l ++ flat_map (λ own. own) (lists_of less)) e ∙ append_assoc old x.items (flat_map (λ own. own) (lists_of less)) ∙ ap (λ (l : List (Vec Layered)). old ++ flat_map (λ own. own) (lists_of l)) (sym step)

pub groups_given : (jobs : List GroupJob) (items : List (Vec Layered)) → AllZip (λ j d. IsGroupCoded j (Ok d)) jobs items → flat_map (λ own. own) (lists_of items) ≡ flat_map layered_group jobs
groups_given [] [] h = refl
groups_given [] (d ∷ items) h = absurd h
groups_given (j ∷ jobs) [] h = absurd h
groups_given (j ∷ jobs) (d ∷ items) h = ap (λ (l : List Layered). l ++ flat_map (λ own. own) (lists_of items)) h.0.value ∙ ap (λ (l : List Layered). layered_group j ++ l) (groups_given jobs items h.1)

pub map_reverse : {X Y : Type 0} (f : X → Y) (xs : List X) → map f (reverse xs) ≡ reverse (map f xs)
map_reverse f [] = refl
map_reverse f (x ∷ xs) =
    ap (map f) (reverse-append (x ∷ []) xs) ∙ map-append f (reverse xs) (x ∷ []) ∙ ap (λ l. l ++ f x ∷ []) (map_reverse f xs) ∙ sym (reverse-append (f x ∷ []) (map f xs))

-- ---- a code-block

-- two facts of what is given make a third one
pub both_ok : {A E : Type 0} (P Q R : A → Type 0) (r : Result A E) → ((b : A) → P b → Q b → R b) → IfOk r P → IfOk r Q → IfOk r R
both_ok P Q R (Ok b) h p q = h b p q
both_ok P Q R (Err e) h p q = tt

pub one_ok : {A E : Type 0} (P Q : A → Type 0) (r : Result A E) → ((b : A) → P b → Q b) → IfOk r P → IfOk r Q
one_ok P Q (Ok b) h p = h b p
one_ok P Q (Err e) h p = tt
