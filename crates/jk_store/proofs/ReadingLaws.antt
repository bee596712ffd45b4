-- A stretch of a file that is read part by part, and the file that a plan makes of such stretches.
use Rattle.std.proofs.Common.{◌≡◌, ℕ, ◌+◌, ◌-◌, ◌*◌, ◌/◌, ◌<◌, ◌≤◌, inl, inr, List, [], ◌∷◌, ◌++◌, length, take, drop, get_or, refl, sym, ap, ◌∙◌, subst, arith, append-nil, append_assoc, drop-cons, add-one}
use Rattle.std.specs.List.{AllByRecursion, sum_by}
use Rattle.std.proofs.lemmas.List.Sums.{sum_by-cons}
use Rattle.jk_walk.specs.TilePackets.{slice_of}
use Rattle.jk_walk.proofs.Laws.{slice_join}
use Rattle.jk_store.specs.Files.{Files}
use Rattle.jk_store.specs.Parts.{part_size, file_part, part_length, part_count}
use Rattle.jk_store.specs.PartsGiven.{size_of, GivenPart, HasParts, PartsRead}
use Rattle.jk_store.specs.Readings.{HoldsOf}
use Rattle.jk_window.specs.Planning.{PlanFields, IsStep, IsPlan, planned, plan_text}
use Rattle.jk_window.specs.declared.steps.CutStep.{CutStep}
use Rattle.jk_store.specs.declared.entry.Entry.{Entry}
use Rattle.jk_store.specs.declared.reading.Reading.{Reading}
use Rattle.jk_store.proofs.PartsLaws.{stretch_is}
use Rattle.jk_store.proofs.GivenLaws.{has_front, has_rest, read_none, read_join}

-- a place within a file lies in one of its parts
pub part_there : (size at n : ℕ) → at < size → n ≡ at / part_size → n < part_count size
part_there size at n lt is = omega (arith, lt, is)

pub part_some : (size n : ℕ) → n < part_count size → 0 < part_length size n
part_some size n there = omega (arith, there)

-- what is held is the part, where it is as long
pub held_part : (size : ℕ) (r : Reading) (f : List ℕ) (n : ℕ) → n < part_count size → r.number ≡ n → length r.part.items ≡ part_length size n → HoldsOf r f → r.part.items ≡ file_part n f
held_part size r f n there is long (inl none) =
    let some = part_some size n there in
    let empty : length r.part.items ≡ 0 = ap (λ (l : List ℕ). length l) none in
    absurd (omega (arith, some, empty, long))
held_part size r f n there is long (inr held) = held ∙ ap (λ k. file_part k f) is

-- ---- the steps of a plan

pub step_split : (steps : List CutStep) (i : ℕ) (d : CutStep) → i < length steps → drop i steps ≡ get_or steps i d ∷ drop (i + 1) steps
step_split steps i d below = drop-cons steps i d below ∙ ap (λ n. get_or steps i d ∷ drop n steps) (sym (add-one i))

pub steps_within : (p : PlanFields) (steps : List CutStep) (size : ℕ) → IsPlan p → steps ≡ p.steps → p.size ≡ size → AllByRecursion (IsStep size) steps
steps_within p steps size sound same sized =
    subst (λ n. AllByRecursion (IsStep n) steps) sized
    (subst (λ (l : List CutStep). AllByRecursion (IsStep p.size) l) (sym same) sound.steps)

pub within_next : (size : ℕ) (s : CutStep) (steps all : List CutStep) → all ≡ s ∷ steps → AllByRecursion (IsStep size) all
    → AllByRecursion (IsStep size) steps
within_next size s steps all split within = (subst (AllByRecursion (IsStep size)) split within).1

pub written_next : (put n : ℕ) (s : CutStep) (steps all : List CutStep) → all ≡ s ∷ steps → put + sum_by (λ (s : CutStep). s.written) all ≡ n
    → put + s.written + sum_by (λ (s : CutStep). s.written) steps ≡ n
written_next put n s steps all split left =
    let now = ap (sum_by (λ (s : CutStep). s.written)) split ∙ sum_by-cons (λ (s : CutStep). s.written) s steps in
    omega (arith, now, left)

pub written_added : (new out written : List ℕ) (put n : ℕ) → new ≡ out ++ take (put + n - put) (drop put written) → new ≡ out ++ take n (drop put written)
written_added new out written put n is = is ∙ ap (λ m. out ++ take m (drop put written)) (let same : put + n - put ≡ n = omega arith in same)

module _ {S : Type 0} (keeps : S → Files → Type 0) (gave_at : S → List ℕ → ℕ → ℕ → List ℕ → S → Type 0) (failed : S → ℕ) (e : Entry) where
  -- From one state of the shelf to another a stretch of the file was read, from a place up to
  -- another.
  pub record ReadUpTo (old new : S) (held now : Reading) (front out : List ℕ) (start at : ℕ) : Type 0 where
    pub given : List GivenPart
    pub read : PartsRead keeps gave_at failed e old given new
    pub told : (f : List ℕ) → HasParts given f → HoldsOf held f → HoldsOf now f × (out ≡ front ++ slice_of f (start, at))

  no_stretch : (f : List ℕ) (start : ℕ) (out : List ℕ) → out ≡ out ++ slice_of f (start, start)
  no_stretch f start out = sym (ap (λ n. out ++ take n (drop start f)) (let none : start - start ≡ 0 = omega arith in none) ∙ append-nil out)

  pub nothing_read : (s : S) (r : Reading) (out : List ℕ) (start : ℕ) → ReadUpTo s s r r out out start start
  nothing_read s r out start = record { given = []; read = read_none keeps gave_at failed e s; told = λ f has h. (h, no_stretch f start out) }

  pub more_read : (old mid new : S) (held before now : Reading) (front out more : List ℕ) (start at stop first n : ℕ) → ReadUpTo old mid held before front out start at
      → ((given : List GivenPart) × PartsRead keeps gave_at failed e mid given new × ((f : List ℕ) → HasParts given f → HoldsOf before f → HoldsOf now f))
      → n < part_count (size_of e) → now.number ≡ n → length now.part.items ≡ part_length (size_of e) n
      → first ≡ n * part_size → start ≤ at → first ≤ at → at ≤ stop → stop ≤ first + part_size
      → more ≡ out ++ slice_of now.part.items (at - first, stop - first)
      → ReadUpTo old new held now front more start stop
  more_read old mid new held before now front out more start at stop first n r one there is long from begun after order to added = record {
    given = r.given ++ one.0;
    read = read_join keeps gave_at failed e r.given one.0 old mid new r.read one.1;
    told = λ f has h.
        let so_far = r.told f (has_front r.given one.0 f has) h in
        let holds = one.2 f (has_rest r.given one.0 f has) so_far.0 in
        let own = held_part (size_of e) now f n there is long holds in (
          holds,
          added
              ∙ ap (λ (l : List ℕ). out ++ slice_of l (at - first, stop - first)) own
              ∙ ap (λ (l : List ℕ). out ++ l) (stretch_is f n first at stop from after order to)
              ∙ ap (λ (l : List ℕ). l ++ slice_of f (at, stop)) so_far.1
              ∙ append_assoc front (slice_of f (start, at)) (slice_of f (at, stop))
              ∙ ap (λ (l : List ℕ). front ++ l) (sym (slice_join f start at stop begun order)),
        );
  }

  -- From one state of the shelf to another all but these steps of a plan were made.
  pub record MadeUpTo (old new : S) (now : Reading) (plan : PlanFields) (steps : List CutStep) (written out : List ℕ) : Type 0 where
    pub given : List GivenPart
    pub read : PartsRead keeps gave_at failed e old given new
    pub told : (f : List ℕ) → HasParts given f → HoldsOf now f × (out ++ planned f steps written ≡ plan_text f plan)

  pub nothing_made : (s : S) (r : Reading) (plan : PlanFields) (steps : List CutStep) (written out : List ℕ) → steps ≡ plan.steps → written ≡ plan.written → out ≡ [] → r.part.items ≡ []
      → MadeUpTo s s r plan steps written out
  nothing_made s r plan steps written out same_steps same_written empty none = record {
    given = [];
    read = read_none keeps gave_at failed e s;
    told = λ f has. (
      inl none,
      ap (λ (l : List ℕ). l ++ planned f steps written) empty
          ∙ ap (λ (l : List CutStep). planned f l written) same_steps
          ∙ ap (λ (l : List ℕ). planned f plan.steps l) same_written,
    );
  }

  one_planned : (f : List ℕ) (s : CutStep) (steps : List CutStep) (written : List ℕ)
      → planned f (s ∷ steps) written ≡ slice_of f (s.start, s.end) ++ (take s.written written ++ planned f steps (drop s.written written))
  unfolding planned
  one_planned f s steps written = refl

  none_planned : (f written : List ℕ) → planned f [] written ≡ []
  unfolding planned
  none_planned f written = refl

  pub step_made : (old mid new : S) (before now : Reading) (plan : PlanFields) (s : CutStep) (steps all : List CutStep) (written left out more most : List ℕ)
      → all ≡ s ∷ steps → MadeUpTo old mid before plan all written out
      → ((given : List GivenPart) × PartsRead keeps gave_at failed e mid given new
      × ((f : List ℕ) → HasParts given f → HoldsOf before f → HoldsOf now f × (more ≡ out ++ slice_of f (s.start, s.end))))
      → most ≡ more ++ take s.written written → left ≡ drop s.written written
      → MadeUpTo old new now plan steps left most
  step_made old mid new before now plan s steps all written left out more most split m one added is = record {
    given = m.given ++ one.0;
    read = read_join keeps gave_at failed e m.given one.0 old mid new m.read one.1;
    told = λ f has.
        let so_far = m.told f (has_front m.given one.0 f has) in
        let next = one.2 f (has_rest m.given one.0 f has) so_far.0 in
        let stretch = slice_of f (s.start, s.end) in
        let behind = planned f steps (drop s.written written) in (
          next.0,
          ap (λ (l : List ℕ). most ++ planned f steps l) is
              ∙ ap (λ (l : List ℕ). l ++ behind) (added ∙ ap (λ (l : List ℕ). l ++ take s.written written) next.1)
              ∙ append_assoc (out ++ stretch) (take s.written written) behind
              ∙ append_assoc out stretch (take s.written written ++ behind)
              ∙ ap (λ (l : List ℕ). out ++ l) (sym (one_planned f s steps written))
              ∙ ap (λ (l : List CutStep). out ++ planned f l written) (sym split)
              ∙ so_far.1,
        );
  }

  pub all_made : (old new : S) (now : Reading) (plan : PlanFields) (steps : List CutStep) (written out : List ℕ) → MadeUpTo old new now plan steps written out → steps ≡ []
      → (given : List GivenPart) × PartsRead keeps gave_at failed e old given new × ((f : List ℕ) → HasParts given f → out ≡ plan_text f plan)
  all_made old new now plan steps written out m none = (
    m.given,
    m.read,
    λ f has.
        sym (append-nil out)
        ∙ ap (λ (l : List ℕ). out ++ l) (sym (ap (λ (l : List CutStep). planned f l written) none ∙ none_planned f written))
        ∙ (m.told f has).1,
  )
