-- Code-blocks that were decoded by workers.
use Rattle.std.proofs.Common.{◌≡◌, ℕ, List, [], ◌∷◌, All, Result, Ok, Err, IfOk, MatchResult, subst}
use Rattle.std.specs.Global.{Vec}
use Rattle.std.specs.List.{AllZip}
use Rattle.std.proofs.lemmas.List.Elements.{All-nil, All-cons, All-head, All-tail, All-same}
use Rattle.jk_math.specs.declared.fault.Fault.{Fault}
use Rattle.jk_tile.specs.declared.decoding.decoded.SegmentJob.{SegmentJob}
use Rattle.jk_tile.specs.declared.decoding.decoded.DecodedBlock.{DecodedBlock}
use Rattle.jk_tile.specs.declared.decoding.decoded.DecodedBlocks.{DecodedBlocks}
use Rattle.jk_tile.specs.decoding.Decoded.{IsDecoded, AreDecoded, AreDecodedFrom, AreBlocksOf, IsJobOf}

-- What jobs of one codestream give are code-blocks of it.
pub all_decoded : (bytes : List ℕ) (jobs : List SegmentJob) (items : List (Vec DecodedBlock)) → All (IsJobOf bytes) jobs
    → AllZip (λ j d. AreDecodedFrom j (Ok d)) jobs items → All (AreBlocksOf bytes) items
all_decoded bytes [] [] all z = All-nil (AreBlocksOf bytes)
all_decoded bytes [] (d ∷ items) all z = absurd z
all_decoded bytes (j ∷ jobs) [] all z = absurd z
all_decoded bytes (j ∷ jobs) (d ∷ items) all z =
    All-cons (AreBlocksOf bytes) d items (subst (λ (b : List ℕ). AreBlocksOf b d) (All-head (IsJobOf bytes) j jobs all).bytes_are z.0)
    (all_decoded bytes jobs items (All-tail (IsJobOf bytes) j jobs all) z.1)

-- What holds of each value that is given holds where one is given.
pub where_ok : {A E : Type 0} (P R : A → Type 0) (Q : E → Type 0) (r : Result A E) → ((a : A) → P a → R a) → MatchResult r P Q → IfOk r R
where_ok P R Q (Ok a) each given = each a given
where_ok P R Q (Err e) each given = tt

-- They are found among these.
pub blocks_decoded : (bytes : List ℕ) (items : List DecodedBlock) (r : Result DecodedBlocks Fault) → IfOk r (λ d. d.blocks.items ≡ items) → All (IsDecoded bytes) items
    → IfOk r (AreDecoded bytes)
blocks_decoded bytes items (Ok d) same all = All-same (IsDecoded bytes) d.blocks.items items same all
blocks_decoded bytes items (Err e) same all = tt
