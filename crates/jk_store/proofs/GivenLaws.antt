-- What is known of a shelf that gave parts of an entry's file, or was refused one.
use Rattle.std.proofs.Common.{◌≡◌, ℕ, ◌+◌, ◌*◌, ◌<◌, min, inl, inr, List, [], ◌∷◌, ◌++◌, length, take, drop, slice_get, Some, Result, Ok, Err, IfErr, refl, sym, ap, ◌∙◌, subst}
use Rattle.std.specs.Result.{IsErrAnd}
use Rattle.sha2.specs.Sha256.{sha256}
use Rattle.jk_math.specs.declared.fault.Fault.{Fault}
use Rattle.jk_math.specs.declared.fault.Fault.TheVariants.{Changed}
use Rattle.jk_math.specs.Memory.{IsMemory}
use Rattle.jk_store.specs.Files.{Files}
use Rattle.jk_store.specs.Counting.{last_count}
use Rattle.jk_store.specs.Parts.{part_size, file_part, part_length, part_count, part_digests}
use Rattle.jk_store.specs.PartsGiven.{file_of, size_of, GivenPart, IsPartOfFile, HasParts, ArePartsOf, GavePart, ReadsParts, IsOtherPart, PartsRead, PartsRefused}
use Rattle.jk_store.specs.declared.entry.Entry.{Entry}
use Rattle.jk_store.proofs.PartsLaws.{part_is_long, asked_part, digest_is}

-- what holds of each fault that says that memory was refused
pub memory_is : {A : Type 0} (r : Result A Fault) → IsErrAnd r IsMemory → (P : Fault → Type 0) → ((x : Fault) → IsMemory x → P x) → IfErr r P
memory_is (Err x) memory P of_memory = of_memory x memory
memory_is (Ok a) memory P of_memory = absurd memory

-- ---- parts one after another

pub has_both : (given more : List GivenPart) (file : List ℕ) → HasParts given file → HasParts more file → HasParts (given ++ more) file
has_both [] more file h k = k
has_both (g ∷ given) more file h k = (h.0, has_both given more file h.1 k)

pub has_front : (given more : List GivenPart) (file : List ℕ) → HasParts (given ++ more) file → HasParts given file
has_front [] more file h = tt
has_front (g ∷ given) more file h = (h.0, has_front given more file h.1)

pub has_rest : (given more : List GivenPart) (file : List ℕ) → HasParts (given ++ more) file → HasParts more file
has_rest [] more file h = h
has_rest (g ∷ given) more file h = has_rest given more file h.1

module _ {S : Type 0} (gave_at : S → List ℕ → ℕ → ℕ → List ℕ → S → Type 0) (e : Entry) where
  reads_join : (given more : List GivenPart) (old mid new : S) → ReadsParts gave_at e old given mid → ReadsParts gave_at e mid more new → ReadsParts gave_at e old (given ++ more) new
  reads_join [] more old mid new r s = subst (λ t. ReadsParts gave_at e t more new) r s
  reads_join (g ∷ given) more old mid new r s = (r.0, r.1, r.2, reads_join given more r.0 mid new r.3 s)

  pub parts_of : (given : List GivenPart) (old new : S) → ReadsParts gave_at e old given new → ArePartsOf e given
  parts_of [] old new r = tt
  parts_of (g ∷ given) old new r = (r.2, parts_of given r.0 new r.3)

  other_after : (given : List GivenPart) (old mid new : S) → ReadsParts gave_at e old given mid → IsOtherPart gave_at e mid new → IsOtherPart gave_at e old new
  other_after given old mid new r o = record {
    before = given ++ o.before;
    mid = o.mid;
    reads = reads_join given o.before old mid o.mid r o.reads;
    number = o.number;
    bytes = o.bytes;
    there = o.there;
    gave = o.gave;
    other = o.other;
  }

module _ {S : Type 0} (keeps : S → Files → Type 0) (gave_at : S → List ℕ → ℕ → ℕ → List ℕ → S → Type 0) (failed : S → ℕ) (e : Entry) where
  pub read_none : (s : S) → PartsRead keeps gave_at failed e s [] s
  read_none s = record { reads = refl; kept = λ files k. k; same = λ files b k is long. tt; counts = refl }

  pub read_join : (given more : List GivenPart) (old mid new : S) → PartsRead keeps gave_at failed e old given mid → PartsRead keeps gave_at failed e mid more new
      → PartsRead keeps gave_at failed e old (given ++ more) new
  read_join given more old mid new r s = record {
    reads = reads_join gave_at e given more old mid new r.reads s.reads;
    kept = λ files k. s.kept files (r.kept files k);
    same = λ files b k is long. has_both given more b (r.same files b k is long) (s.same files b (r.kept files k) is long);
    counts = s.counts ∙ r.counts;
  }

  pub refused_after : (given : List GivenPart) (old mid new : S) (x : Fault) → PartsRead keeps gave_at failed e old given mid → PartsRefused keeps gave_at failed e mid x new
      → PartsRefused keeps gave_at failed e old x new
  refused_after given old mid new x r s = record {
    kept = λ files k. s.kept files (r.kept files k);
    why = elim s.why [
      | inl memory ↦ inl (memory.0, memory.1 ∙ r.counts)
      | inr other ↦ elim other [
        | inl changed ↦ inr (inl (changed.0, other_after gave_at e given old mid new r.reads changed.1, changed.2 ∙ r.counts))
        | inr failure ↦ inr (inr (failure.0, failure.1 ∙ ap (λ n. min (n + 1) last_count) r.counts))
      ]
    ];
    steady = λ files b k is long digests. s.steady files b (r.kept files k) is long digests;
  }

  pub refused_memory : (given : List GivenPart) (old new : S) (x : Fault) → PartsRead keeps gave_at failed e old given new → IsMemory x → PartsRefused keeps gave_at failed e old x new
  refused_memory given old new x r memory = record {
    kept = r.kept;
    why = inl (memory, r.counts);
    steady = λ files b k is long digests changed. subst IsMemory changed memory;
  }

  pub refused_join : (given more : List GivenPart) (old mid new : S) → PartsRead keeps gave_at failed e old given mid → PartsRead keeps gave_at failed e mid more new
      → (x : Fault) → IsMemory x → PartsRefused keeps gave_at failed e old x new
  refused_join given more old mid new r s x memory = refused_memory (given ++ more) old new x (read_join given more old mid new r s) memory

  -- ---- a part is asked for

  -- The shelf was asked for part i of the entry's file, and gave these bytes.
  pub record WasAsked (old : S) (i : ℕ) (b : List ℕ) (new : S) : Type 0 where
    pub gave : GavePart gave_at e old i b new
    pub kept : (files : Files) → keeps old files → keeps new files
    pub same : (files : Files) (f : List ℕ) → keeps old files → files (file_of e) ≡ Some f → b ≡ take (part_length (size_of e) i) (drop (i * part_size) f)
    pub counts : failed new ≡ failed old

  pub was_asked : (old new : S) (i : ℕ) (b name : List ℕ) (start most : ℕ) → name ≡ file_of e → start ≡ i * part_size → most ≡ part_length (size_of e) i
      → gave_at old name start most b new → ((files : Files) → keeps old files → keeps new files)
      → ((files : Files) (f : List ℕ) → keeps old files → files name ≡ Some f → b ≡ take most (drop start f)) → failed new ≡ failed old → WasAsked old i b new
  was_asked old new i b name start most named from so_many gave kept same counts = record {
    gave = subst (λ m. gave_at old (file_of e) (i * part_size) m b new) so_many (subst (λ k. gave_at old (file_of e) k most b new) from (subst (λ n. gave_at old n start most b new) named gave));
    kept = kept;
    same = λ files f k is.
        same files f k (ap files named ∙ is)
        ∙ ap (λ m. take m (drop start f)) so_many
        ∙ ap (λ n. take (part_length (size_of e) i) (drop n f)) from;
    counts = counts;
  }

  module _ (old new : S) (i : ℕ) where
    pub one_read : (b : List ℕ) → WasAsked old i b new → IsPartOfFile e i b → PartsRead keeps gave_at failed e old ((i, b) ∷ []) new
    one_read b asked passes = record {
      reads = (new, asked.gave, passes, refl);
      kept = asked.kept;
      same = λ files f k is long. (sym (asked.same files f k is ∙ asked_part (size_of e) i f long), tt);
      counts = asked.counts;
    }

    passes_as : (b f : List ℕ) → i < part_count (size_of e) → b ≡ file_part i f → length f ≡ size_of e → e.parts.items ≡ part_digests f → IsPartOfFile e i b
    passes_as b f there same long digests = (
      ap (λ (l : List ℕ). length l) same ∙ part_is_long i f ∙ ap (λ n. part_length n i) long,
      ap (λ (ds : List (List ℕ)). slice_get ds i) digests
          ∙ digest_is i f (subst (λ n. i < part_count n) (sym long) there)
          ∙ ap (λ l. Some (sha256 l)) (sym same),
    )

    pub other_read : (b : List ℕ) → i < part_count (size_of e) → WasAsked old i b new → (IsPartOfFile e i b → ⊥) → PartsRefused keeps gave_at failed e old Changed new
    other_read b there asked other = record {
      kept = asked.kept;
      why = inr (inl (refl, record { before = []; mid = old; reads = refl; number = i; bytes = b; there = there; gave = asked.gave; other = other }, asked.counts));
      steady = λ files f k is long digests changed. other (passes_as b f there (asked.same files f k is ∙ asked_part (size_of e) i f long) long digests);
    }
