-- Cuts that are kept while a list of entries grows, and replies from entries over a shelf.
use Rattle.std.proofs.Common.{◌≡◌, ℕ, List, All, map, Result, Ok, Err, IfOk, subst}
use Rattle.std.specs.Arc.{arc_value}
use mathlib.Core.List.{IsPrefix}
use Rattle.jk_math.specs.declared.fault.Fault.{Fault}
use Rattle.jk_web.specs.declared.reply.Reply.{Reply}
use Rattle.jk_web.specs.declared.request.Request.{Request}
use Rattle.jk_web.specs.Resources.{IsPathSegment}
use Rattle.jk_web.specs.Cuts.{AreOf, Has, KeptCut}
use Rattle.jk_web.specs.Images.{Image, names_of, IsCachedReply, IsKeptReply}
use Rattle.jk_store.specs.Files.{Files}
use Rattle.jk_store.specs.Showing.{ShowImages, AreKept, Broke, ReadsFile, MayBeMade}
use Rattle.jk_store.specs.declared.entry.Entry.{Entry}
use Rattle.jk_store.specs.declared.shown.ShownWithParts.{ShownWithParts}
use Rattle.jk_store.proofs.Laws.{made_on}
use Rattle.jk_hall.specs.Kept.{KeepsCuts}
use Rattle.jk_hall.specs.Replying.{KeptOn, Replies}

-- What may have been made of a list may have been made of one that goes on from it.
pub cuts_on : (before after : List Entry) → IsPrefix before after → (kept : List KeptCut) → KeepsCuts before kept → KeepsCuts after kept
cuts_on before after p kept h n a b has = subst (λ (es : List Entry). MayBeMade es n a b) p.1 (made_on before p.0 n a b (h n a b has))

module _ {S : Type 0} (keeps : S → Files → Type 0) where
  pub kept_longer : (before after : List Entry) (shelf : S) (old new : List KeptCut) → IsPrefix before after
      → KeptOn keeps after after shelf old new → KeptOn keeps before after shelf old new
  kept_longer before after shelf old new p k = record { held = λ h. k.held (cuts_on before after p old h); known = λ h. k.known (cuts_on before after p old h) }

  pub kept_same : (before after : List Entry) (shelf : S) (kept : List KeptCut) → IsPrefix before after → KeptOn keeps before after shelf kept kept
  kept_same before after shelf kept p = record { held = cuts_on before after p kept; known = λ h images shows kept of. of }

  module _ (failed : S → ℕ) (gave : S → List ℕ → List ℕ → S → Type 0) (gave_at : S → List ℕ → ℕ → ℕ → List ℕ → S → Type 0)
      (s t : ShownWithParts S) (same : t.entries.now ≡ s.entries.now) (kept : List KeptCut) (q : Request) where
    -- The replies of entries over a shelf that is borrowed are those over the shelf.
    pub replies_as : (r : Result Reply Fault)
        → ((images : List Image) → ShowImages (map arc_value s.entries.now) images → KeepsCuts (map arc_value s.entries.now) kept → All IsPathSegment (names_of images)
        → IfOk r (IsCachedReply (λ (a : ShownWithParts S) n (b : ShownWithParts S). Broke failed gave gave_at (map arc_value a.entries.now) a.shelf.now n b.shelf.now)
        (λ (a : ShownWithParts S) n file (b : ShownWithParts S). ReadsFile gave (map arc_value a.entries.now) a.shelf.now n file b.shelf.now)
        (λ (a : ShownWithParts S). MayBeMade (map arc_value a.entries.now)) images q s t))
        → ((images : List Image) → ShowImages (map arc_value s.entries.now) images → AreKept keeps s.shelf.now images → AreOf (Has kept) images → All IsPathSegment (names_of images)
        → IfOk r (IsKeptReply (λ (a : ShownWithParts S) n (b : ShownWithParts S). Broke failed gave gave_at (map arc_value a.entries.now) a.shelf.now n b.shelf.now) images q s t))
        → IfOk r (λ y. Replies keeps failed gave gave_at (map arc_value s.entries.now) s.shelf.now t.shelf.now kept q y)
    replies_as (Err e) any own = tt
    replies_as (Ok y) any own = record {
      any = λ images shows held segments.
          subst (λ es. IsCachedReply (Broke failed gave gave_at (map arc_value s.entries.now)) (ReadsFile gave (map arc_value s.entries.now)) (λ (x : S). MayBeMade (map arc_value es)) images q s.shelf.now t.shelf.now y)
          same (any images shows held segments);
      same = own;
    }
