-- Parts with the digests of an entry's file are that file's, where their digests make them known.
use Rattle.std.proofs.Common.{◌≡◌, ℕ, ◌<◌, List, [], ◌∷◌, length, map, Some, Result, Ok, IfOk, sym, ap, ◌∙◌, subst}
use Rattle.std.specs.Prelude.{slice_get}
use Rattle.std.specs.Global.{Vec}
use Rattle.std.specs.List.{range_with_len}
use Rattle.std.proofs.lemmas.List.FromFn.{length-map-range_with_len}
use Rattle.std.proofs.lemmas.Option.{slice_get_within}
use Rattle.sha2.specs.Sha256.{sha256}
use Rattle.jk_math.specs.Steps.{if_ok}
use Rattle.jk_math.specs.declared.fault.Fault.{Fault}
use Rattle.jk_window.specs.declared.view.View.{View}
use Rattle.jk_window.specs.Indexing.{IsIndexOf}
use Rattle.jk_window.specs.Cutting.{cut_file}
use Rattle.jk_store.specs.Parts.{file_part, part_count, part_digests}
use Rattle.jk_store.specs.PartsGiven.{GivenPart, HasParts, IsPartOfFile, ReadsParts, IsCutOfParts, AreKnownByDigest}
use Rattle.jk_store.specs.declared.entry.Entry.{Entry}
use Rattle.jk_store.proofs.PartsLaws.{digest_is}

-- a part that passes has the digest of the file's
same_digest : (e : Entry) (file : List ℕ) (i : ℕ) (b : List ℕ) → e.parts.items ≡ part_digests file → IsPartOfFile e i b → sha256 b ≡ sha256 (file_part i file)
same_digest e file i b parts passes =
    let there : slice_get (part_digests file) i ≡ Some (sha256 b) = ap (λ (ds : List (List ℕ)). slice_get ds i) (sym parts) ∙ passes.1 in
    let within : i < part_count (length file) =
    subst (λ n. i < n) (length-map-range_with_len (λ j. sha256 (file_part j file)) 0 (part_count (length file))) (slice_get_within (part_digests file) i (sha256 b) there) in
    let both : Some (sha256 b) ≡ Some (sha256 (file_part i file)) = sym there ∙ digest_is i file within in
    cc

known : {S : Type 0} (gave_at : S → List ℕ → ℕ → ℕ → List ℕ → S → Type 0) (e : Entry) (file : List ℕ) (old new : S) (given : List GivenPart) → e.parts.items ≡ part_digests file → ReadsParts gave_at e old given new → AreKnownByDigest file given
    → HasParts given file
known gave_at e file old new [] parts reads by = tt
known gave_at e file old new (g ∷ given) parts reads by =
    (sym (by.0 (same_digest e file g.0 g.1 parts reads.2)), known gave_at e file reads.0 new given parts reads.3 by.1)

-- A window of such parts is that of the file of which the entry was made.
pub judged_parts : {S : Type 0} (gave_at : S → List ℕ → ℕ → ℕ → List ℕ → S → Type 0) (e : Entry) (file : List ℕ) (old new : S) (v : View) (r : Result (Vec ℕ) Fault) → e.parts.items ≡ part_digests file → (is : IsIndexOf file e.index)
    → IfOk r (λ w. (given : List GivenPart) × ReadsParts gave_at e old given new × IsCutOfParts e.index v given w.items)
    → IfOk r (λ w. (given : List GivenPart) × ReadsParts gave_at e old given new × (AreKnownByDigest file given → cut_file is v ≡ Ok w.items))
judged_parts gave_at e file old new v r parts is read =
    if_ok r (λ w x. (x.0, x.1, λ by. (x.2 file (known gave_at e file old new x.0 parts x.1 by)).cut is)) read
