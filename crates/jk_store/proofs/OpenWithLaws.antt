-- What several workers make of files: what is made of more of them, and what reading them in turn comes to.
use Rattle.std.proofs.Common.{◌≡◌, ℕ, ◌+◌, ◌<◌, List, [], ◌∷◌, ◌++◌, length, map, take, get_or, not, Result, Ok, Err, inl, inr, refl, sym, ap, ◌∙◌, subst, append-nil, append_assoc, arith}
use Rattle.std.specs.List.{AllZip, flat_map}
use Rattle.std.specs.Global.{Vec, Global}
use Rattle.std.specs.String.{string_bytes}
use Rattle.std.specs.declared.string.String.{String}
use Rattle.std.proofs.lemmas.List.{map-append, take_more, get_or-map}
use Rattle.std.proofs.lemmas.List.Concat.{flat_map-append}
use Rattle.std.proofs.lemmas.List.FromFn.{length-map-range_with_len}
use Rattle.sha2.specs.Sha256.{sha256}
use Rattle.jk_math.specs.Steps.{bind_then, refuse_then, ok_is}
use Rattle.jk_math.specs.declared.fault.Fault.{Fault}
use Rattle.jk_math.specs.declared.fault.Fault.TheVariants.{BadBox}
use Rattle.jk_math.proofs.Laws.{AreBytes}
use Rattle.jk_boxes.specs.Reading.{boxes_at}
use Rattle.jk_window.specs.Indexing.{IndexFields, IsIndexOf, index_at}
use Rattle.jk_window.proofs.IndexLaws.{index_found}
use Rattle.jk_store.specs.declared.entry.Entry.{Entry}
use Rattle.jk_store.specs.declared.skipped.Skipped.{Skipped}
use Rattle.jk_store.specs.declared.opening.NamedFile.{NamedFile}
use Rattle.jk_store.specs.declared.opening.Made.{Made}
use Rattle.jk_store.specs.declared.opening_with.Few.{Few}
use Rattle.jk_store.specs.Names.{file_name}
use Rattle.jk_store.specs.Parts.{file_part, part_count, part_digests}
use Rattle.jk_store.specs.Catalogue.{Stored, stored, image_at}
use Rattle.jk_store.specs.Opening.{CanBeMade, Opened, Enters, ReadsPast, ReadsUpTo, stored_file}
use Rattle.jk_store.specs.OpeningWith.{AreMade, ReadInTurn, MakePast, IsMadeOfFew, few_files, made_entries, file_digest}

-- ---- what can be made of a file

indexed : (bytes : List ℕ) (i : IndexFields) → AreBytes bytes → image_at bytes ≡ Ok i → IsIndexOf bytes i
unfolding image_at
indexed bytes i fits e =
    bind_then (index_at bytes) _ i e (λ j found rest.
    bind_then (boxes_at bytes) _ i rest (λ place opened rest.
    refuse_then (not place.jp2) BadBox _ i rest (λ _ is. subst (IsIndexOf bytes) (ok_is j i is) (index_found bytes j fits found))))

-- the digests of its parts, which take less room than its bytes
parts_of : (bytes : Vec ℕ) → (v : Vec (List ℕ)) × (v.items ≡ part_digests bytes.items)
parts_of bytes =
    let n = part_count (length bytes.items) in
    let long : n ≡ length (part_digests bytes.items) = sym (length-map-range_with_len (λ i. sha256 (file_part i bytes.items)) 0 n) in
    let v : Vec (List ℕ) = record {
      ptr = bytes.ptr;
      len = n;
      cap = n;
      alloc = bytes.alloc;
      items = part_digests bytes.items;
      ok = (long, omega arith);
      small = omega (arith, bytes.ok.0, bytes.ok.1, bytes.small);
    } in
    (v, refl)

pub can_be_made : (name : String Global) (bytes : Vec ℕ) → AreBytes bytes.items → CanBeMade (stored (string_bytes name) bytes.items)
can_be_made name bytes fits = by (image_at bytes.items) refl
  where
    by : (r : Result IndexFields Fault) → image_at bytes.items ≡ r → CanBeMade (stored (string_bytes name) bytes.items)
    by (Ok i) is =
        let parts = parts_of bytes in
        let e : Entry = record { name = name; digest = sha256 bytes.items; parts = parts.0; index = i } in
        inl (e, record { name = refl; digest = refl; parts = parts.1; index = is; indexes = indexed bytes.items i fits is })
    by (Err f) is =
        let k : Skipped = record { name = name; fault = f } in
        inr (k, record { name = refl; fault = is })

-- ---- what is made of files

pub made_joined : (files more : List Stored) (es fs : List Entry) (ks ls : List Skipped) → AreMade files es ks → AreMade more fs ls → AreMade (files ++ more) (es ++ fs) (ks ++ ls)
made_joined [] more es fs ks ls h rest =
    subst (λ q. AreMade more (q ++ fs) (ks ++ ls)) (sym h.0) (subst (λ q. AreMade more fs (q ++ ls)) (sym h.1) rest)
made_joined (f ∷ files) more es fs ks ls h rest = elim h [
  | inl l ↦ inl (l.0, l.1 ++ fs, l.2, ap (λ q. q ++ fs) l.3, made_joined files more l.1 fs ks ls l.4 rest)
  | inr l ↦ inr (l.0, l.1 ++ ls, l.2, ap (λ q. q ++ ls) l.3, made_joined files more es fs l.1 ls l.4 rest)
]

-- one file more
pub made_more : (files : List Stored) (n bytes : List ℕ) (old new : List Entry) (passed skipped : List Skipped) → AreMade files old passed → Enters n bytes old new passed skipped
    → AreMade (files ++ stored n bytes ∷ []) new skipped
made_more files n bytes old new passed skipped h enters = elim enters [
  | inl l ↦
      (let one : AreMade (stored n bytes ∷ []) (l.0 ∷ []) [] = inl (l.0, [], l.1, refl, (refl, refl)) in
      subst (λ es. AreMade (files ++ stored n bytes ∷ []) es skipped) (sym l.2)
      (subst (AreMade (files ++ stored n bytes ∷ []) (old ++ l.0 ∷ [])) (append-nil passed ∙ sym l.3) (made_joined files (stored n bytes ∷ []) old (l.0 ∷ []) passed [] h one)))
  | inr l ↦
      (let one : AreMade (stored n bytes ∷ []) [] (l.0 ∷ []) = inr (l.0, [], l.1, refl, (refl, refl)) in
      subst (AreMade (files ++ stored n bytes ∷ []) new) (sym l.2)
      (subst (λ es. AreMade (files ++ stored n bytes ∷ []) es (passed ++ l.0 ∷ [])) (append-nil old ∙ sym l.3) (made_joined files (stored n bytes ∷ []) old [] passed (l.0 ∷ []) h one)))
]

-- what all jobs give
pub made_each : (jobs : List Few) (all : List Made) → AllZip (λ j m. IsMadeOfFew j (Ok m)) jobs all
    → AreMade (flat_map few_files jobs) (flat_map made_entries all) (flat_map (λ (m : Made). m.skipped.items) all)
made_each [] [] h = (refl, refl)
made_each [] (m ∷ all) h = absurd h
made_each (j ∷ jobs) [] h = absurd h
made_each (j ∷ jobs) (m ∷ all) h =
    made_joined (few_files j) (flat_map few_files jobs) (made_entries m) (flat_map made_entries all) m.skipped.items (flat_map (λ (k : Made). k.skipped.items) all) h.0 (made_each jobs all h.1)

-- and of the files before these
pub made_behind : (given front waits : List Stored) (jobs : List Few) (all : List Made) (es new : List Entry) (ks skipped : List Skipped) → given ≡ front ++ waits → waits ≡ flat_map few_files jobs
    → AreMade front es ks → AllZip (λ j m. IsMadeOfFew j (Ok m)) jobs all → new ≡ es ++ flat_map made_entries all → skipped ≡ ks ++ flat_map (λ (m : Made). m.skipped.items) all
    → AreMade given new skipped
made_behind given front waits jobs all es new ks skipped split same h each entries passed =
    subst (λ g. AreMade g new skipped) (sym (split ∙ ap (λ w. front ++ w) same))
    (subst (λ q. AreMade (front ++ flat_map few_files jobs) q skipped) (sym entries)
    (subst (AreMade (front ++ flat_map few_files jobs) (es ++ flat_map made_entries all)) (sym passed)
    (made_joined front (flat_map few_files jobs) es (flat_map made_entries all) ks (flat_map (λ (m : Made). m.skipped.items) all) h (made_each jobs all each))))

-- ---- the files that wait

-- the last job gets no more
pub closed : (jobs after : List Few) (f : Few) (last new : List NamedFile) → after ≡ jobs ++ f ∷ [] → f.files.items ≡ last → new ≡ []
    → flat_map few_files after ++ map stored_file new ≡ flat_map few_files jobs ++ map stored_file last
closed jobs after f last new longer files none =
    ap (λ l. flat_map few_files after ++ map stored_file l) none
    ∙ append-nil (flat_map few_files after)
    ∙ ap (flat_map few_files) longer
    ∙ flat_map-append few_files jobs (f ∷ [])
    ∙ ap (λ l. flat_map few_files jobs ++ l) (append-nil (few_files f) ∙ ap (map stored_file) files)

-- one more waits
pub waits_behind : (jobs : List Few) (last after : List NamedFile) (f : NamedFile) (old : List Stored) → after ≡ last ++ f ∷ [] → flat_map few_files jobs ++ map stored_file last ≡ old
    → flat_map few_files jobs ++ map stored_file after ≡ old ++ stored_file f ∷ []
waits_behind jobs last after f old longer same =
    ap (λ l. flat_map few_files jobs ++ map stored_file l) longer
    ∙ ap (λ l. flat_map few_files jobs ++ l) (map-append stored_file last (f ∷ []))
    ∙ sym (append_assoc (flat_map few_files jobs) (map stored_file last) (stored_file f ∷ []))
    ∙ ap (λ l. l ++ stored_file f ∷ []) same

pub taken_more : (given front old new : List Stored) (f : Stored) → given ≡ front ++ old → new ≡ old ++ f ∷ [] → given ++ f ∷ [] ≡ front ++ new
taken_more given front old new f split more =
    ap (λ l. l ++ f ∷ []) split ∙ append_assoc front old (f ∷ []) ∙ ap (λ l. front ++ l) (sym more)

-- only those of the jobs wait
pub wait_in_jobs : (jobs : List Few) (last : List NamedFile) (old : List Stored) → flat_map few_files jobs ++ map stored_file last ≡ old → last ≡ [] → old ≡ flat_map few_files jobs
wait_in_jobs jobs last old same none = sym same ∙ ap (λ l. flat_map few_files jobs ++ map stored_file l) none ∙ append-nil (flat_map few_files jobs)

-- none waits
pub none_wait : (jobs : List Few) (last : List NamedFile) → jobs ≡ [] → last ≡ [] → flat_map few_files jobs ++ map stored_file last ≡ []
none_wait jobs last none empty = ap (λ l. flat_map few_files l ++ map stored_file last) none ∙ ap (map stored_file) empty

-- ---- the digests of a job's files

pub digest_at : (files : List NamedFile) (digests : List (List ℕ)) (k : ℕ) (f : NamedFile) (d : List ℕ) → digests ≡ map file_digest files → k < length files → f ≡ get_or files k f
    → get_or digests k d ≡ file_digest f
digest_at files digests k f d same within is =
    ap (λ l. get_or l k d) same ∙ get_or-map file_digest files k f d within ∙ ap file_digest (sym is)

-- one file more
pub mapped_more : {A B : Type 0} (g : A → B) (files : List A) (k : ℕ) (f : A) → k < length files → f ≡ get_or files k f → map g (take (k + 1) files) ≡ map g (take k files) ++ g f ∷ []
mapped_more g files k f within is =
    ap (map g) (take_more files k f within) ∙ map-append g (take k files) (get_or files k f ∷ []) ∙ ap (λ x. map g (take k files) ++ g x ∷ []) (sym is)

-- ---- files in turn

module _ {S : Type 0} (gave : S → List ℕ → List ℕ → S → Type 0) where
  pub read_more : (n bytes : List ℕ) (mid new : S) → gave mid (file_name n) bytes new → CanBeMade (stored n bytes) → (names : List (List ℕ)) (old : S) (files : List Stored)
      → ReadInTurn gave names old files mid → ReadInTurn gave (names ++ n ∷ []) old (files ++ stored n bytes ∷ []) new
  read_more n bytes mid new is can [] old files h =
      (bytes, [], new, ap (λ l. l ++ stored n bytes ∷ []) h.0, subst (λ s. gave s (file_name n) bytes new) h.1 is, can, (refl, refl))
  read_more n bytes mid new is can (m ∷ names) old files h =
      (h.0, h.1 ++ stored n bytes ∷ [], h.2, ap (λ l. l ++ stored n bytes ∷ []) h.3, h.4, h.5, read_more n bytes mid new is can names h.2 h.1 h.6)

  -- with what was made of them
  pub opened_by : (names : List (List ℕ)) (old new : S) (files : List Stored) (entries : List Entry) (skipped : List Skipped)
      → ReadInTurn gave names old files new → AreMade files entries skipped → Opened gave names old entries skipped new
  opened_by [] old new files entries skipped h made =
      let none = subst (λ l. AreMade l entries skipped) h.0 made in
      (none.0, none.1, h.1)
  opened_by (n ∷ names) old new files entries skipped h made =
      let both = subst (λ l. AreMade l entries skipped) h.3 made in (
        h.0,
        h.2,
        h.4,
        elim both [
          | inl l ↦ inl (l.0, l.1, l.2, l.3, opened_by names h.2 new h.1 l.1 skipped h.6 l.4)
          | inr l ↦ inr (l.0, l.1, l.2, l.3, opened_by names h.2 new h.1 entries l.1 h.6 l.4)
        ],
      )

  -- Something can be made of them.
  pub can_make : (names : List (List ℕ)) (old new : S) (files : List Stored) → ReadInTurn gave names old files new → (entries : List Entry) × (skipped : List Skipped) × AreMade files entries skipped
  can_make [] old new files h = ([], [], subst (λ l. AreMade l [] []) (sym h.0) (refl, refl))
  can_make (n ∷ names) old new files h =
      let rest = can_make names h.2 new h.1 h.6 in
      elim h.5 [
        | inl l ↦ (l.0 ∷ rest.0, rest.1, subst (λ q. AreMade q (l.0 ∷ rest.0) rest.1) (sym h.3) (inl (l.0, rest.0, l.1, refl, rest.2)))
        | inr l ↦ (rest.0, l.0 ∷ rest.1, subst (λ q. AreMade q rest.0 (l.0 ∷ rest.1)) (sym h.3) (inr (l.0, rest.1, l.1, refl, rest.2)))
      ]

  -- the next can't be read
  pub up_to : (unread : S → List ℕ → S → Type 0) (all front : List (List ℕ)) (n : List ℕ) (rest : List (List ℕ)) (old mid new : S) (files : List Stored)
      → all ≡ front ++ n ∷ rest → ReadInTurn gave front old files mid → unread mid (file_name n) new → ReadsUpTo gave unread all old
  up_to unread all front n rest old mid new files split h failed =
      let made = can_make front old mid files h in
      (front, n, rest, made.0, made.1, mid, new, split, opened_by front old mid files made.0 made.1 h made.2, failed)

  -- they are more than there may be
  pub past_by : (all front rest : List (List ℕ)) (old new : S) (files : List Stored) → all ≡ front ++ rest → ReadInTurn gave front old files new → MakePast files → ReadsPast gave all old
  past_by all front rest old new files split h many = (front, rest, many.0, many.1, new, split, opened_by front old new files many.0 many.1 h many.2, many.3)
