-- What is written or copied behind a plan stands behind what the plan makes.
use Rattle.std.proofs.Common.{◌≡◌, ℕ, zero, suc, ◌+◌, ◌-◌, ◌<◌, ◌≤◌, List, [], ◌∷◌, ◌++◌, length, length-append, take, drop, get_or, set, append_assoc, refl, sym, ap, ◌∙◌, subst, arith}
use Rattle.std.specs.Prelude.{sum_by}
use Rattle.std.specs.List.{AllByRecursion}
use Rattle.std.proofs.lemmas.List.{append-nil, take_at, drop_at, drop-drop, drop_more, drop_all, take-append-drop, length-take-le, length-drop}
use Rattle.std.proofs.lemmas.List.Sums.{sum_by-cons}
use Rattle.jk_walk.specs.TilePackets.{slice_of}
use Rattle.jk_walk.proofs.Laws.{slice_join, slice_none, slice_length}
use Rattle.jk_window.specs.declared.steps.CutStep.{CutStep}
use Rattle.jk_window.specs.Planning.{PlanFields, planned, plan_text, step_length, plan_length, IsStep, IsPlan, IsBehind, IsLast, no_step}

abbrev pub written_of : CutStep → ℕ
written_of s = s.written

pub planned-nil : (file written : List ℕ) → planned file [] written ≡ []
unfolding planned
planned-nil file written = refl

pub planned-cons : (file : List ℕ) (s : CutStep) (steps : List CutStep) (written : List ℕ)
    → planned file (s ∷ steps) written ≡ slice_of file (s.start, s.end) ++ (take s.written written ++ planned file steps (drop s.written written))
unfolding planned
planned-cons file s steps written = refl

-- what is written at a step, and what behind it
record IsSplit (n : ℕ) (written : List ℕ) (more : List ℕ) : Type 0 where
  front : take n (written ++ more) ≡ take n written
  back : drop n (written ++ more) ≡ drop n written ++ more
  left : length (drop n written) + n ≡ length written

split : (n : ℕ) (written more : List ℕ) → n ≤ length written → IsSplit n written more
split n written more le =
    let a = take n written in
    let b = drop n written in
    let whole : written ++ more ≡ a ++ (b ++ more) = ap (λ (xs : List ℕ). xs ++ more) (sym (take-append-drop n written)) ∙ append_assoc a b more in
    let long : length a ≡ n = length-take-le n written le in
    let left = length-drop n written in
    record {
      front = ap (take n) whole ∙ take_at a (b ++ more) n long;
      back = ap (drop n) whole ∙ drop_at a (b ++ more) n long;
      left = omega (arith, left, le);
    }

take_whole : (n : ℕ) (xs : List ℕ) → n ≡ length xs → take n xs ≡ xs
take_whole n xs e = ap (take n) (sym (append-nil xs)) ∙ take_at xs [] n (sym e)

-- ---- written behind

-- the last step with other numbers
abbrev pub last_with : List CutStep → ℕ → CutStep → List CutStep
last_with steps n s = set steps n s

written_behind : (file : List ℕ) (steps : List CutStep) (n : ℕ) (d : CutStep) (written bytes : List ℕ) → length steps ≡ suc n → sum_by written_of steps ≡ length written
    → planned file (set steps n (record (get_or steps n d) { written = (get_or steps n d).written + length bytes })) (written ++ bytes) ≡ planned file steps written ++ bytes
written_behind file [] n d written bytes e sum = absurd (omega (arith, e))
written_behind file (s ∷ []) zero d written bytes e sum =
    let w = s.written in
    let k = length bytes in
    let s2 : CutStep = record s { written = w + k } in
    let one = sum_by-cons written_of s [] in
    let own : w ≡ length written = omega (arith, sum, one) in
    let whole : take (w + k) (written ++ bytes) ≡ written ++ bytes = take_whole (w + k) (written ++ bytes) (omega (arith, own, length-append written bytes)) in
    let f = slice_of file (s.start, s.end) in
    planned-cons file s2 [] (written ++ bytes)
    ∙ ap (λ (xs : List ℕ). f ++ (take (w + k) (written ++ bytes) ++ xs)) (planned-nil file (drop (w + k) (written ++ bytes)))
    ∙ ap (λ (xs : List ℕ). f ++ xs) (append-nil (take (w + k) (written ++ bytes)) ∙ whole)
    ∙ sym (append_assoc f written bytes)
    ∙ ap (λ (xs : List ℕ). (f ++ xs) ++ bytes) (sym (take_whole w written own) ∙ sym (append-nil (take w written)))
    ∙ ap (λ (xs : List ℕ). (f ++ (take w written ++ xs)) ++ bytes) (sym (planned-nil file (drop w written)))
    ∙ ap (λ (xs : List ℕ). xs ++ bytes) (sym (planned-cons file s [] written))
written_behind file (s ∷ []) (suc n) d written bytes e sum = absurd (omega (arith, e))
written_behind file (s ∷ t ∷ steps) zero d written bytes e sum = absurd (omega (arith, e))
written_behind file (s ∷ t ∷ steps) (suc n) d written bytes e sum =
    let w = s.written in
    let one = sum_by-cons written_of s (t ∷ steps) in
    let sp = split w written bytes (omega (arith, sum, one)) in
    let rest = t ∷ steps in
    let next = set rest n (record (get_or rest n d) { written = (get_or rest n d).written + length bytes }) in
    let f = slice_of file (s.start, s.end) in
    let more = written_behind file rest n d (drop w written) bytes (omega (arith, e)) (omega (arith, sum, one, sp.left)) in
    planned-cons file s next (written ++ bytes)
    ∙ ap (λ (xs : List ℕ). f ++ (xs ++ planned file next (drop w (written ++ bytes)))) sp.front
    ∙ ap (λ (xs : List ℕ). f ++ (take w written ++ planned file next xs)) sp.back
    ∙ ap (λ (xs : List ℕ). f ++ (take w written ++ xs)) more
    ∙ ap (λ (xs : List ℕ). f ++ xs) (sym (append_assoc (take w written) (planned file rest (drop w written)) bytes))
    ∙ sym (append_assoc f (take w written ++ planned file rest (drop w written)) bytes)
    ∙ ap (λ (xs : List ℕ). xs ++ bytes) (sym (planned-cons file s rest written))

-- ---- copied behind

-- a step more
copied_behind : (file : List ℕ) (steps : List CutStep) (s : CutStep) (written : List ℕ) → s.written ≡ 0 → sum_by written_of steps ≡ length written
    → planned file (steps ++ s ∷ []) written ≡ planned file steps written ++ slice_of file (s.start, s.end)
copied_behind file [] s written none sum =
    let f = slice_of file (s.start, s.end) in
    planned-cons file s [] written
    ∙ ap (λ (xs : List ℕ). f ++ (take s.written written ++ xs)) (planned-nil file (drop s.written written))
    ∙ ap (λ n. f ++ (take n written ++ [])) none
    ∙ append-nil f
    ∙ ap (λ (xs : List ℕ). xs ++ f) (sym (planned-nil file written))
copied_behind file (t ∷ steps) s written none sum =
    let w = t.written in
    let f = slice_of file (t.start, t.end) in
    let g = slice_of file (s.start, s.end) in
    let one = sum_by-cons written_of t steps in
    let sp = split w written [] (omega (arith, sum, one)) in
    let more = copied_behind file steps s (drop w written) none (omega (arith, sum, one, sp.left)) in
    planned-cons file t (steps ++ s ∷ []) written
    ∙ ap (λ (xs : List ℕ). f ++ (take w written ++ xs)) more
    ∙ ap (λ (xs : List ℕ). f ++ xs) (sym (append_assoc (take w written) (planned file steps (drop w written)) g))
    ∙ sym (append_assoc f (take w written ++ planned file steps (drop w written)) g)
    ∙ ap (λ (xs : List ℕ). xs ++ g) (sym (planned-cons file t steps written))

-- the last step goes on
joined_behind : (file : List ℕ) (steps : List CutStep) (n : ℕ) (d : CutStep) (written : List ℕ) (start end : ℕ) → length steps ≡ suc n → sum_by written_of steps ≡ length written → (get_or steps n d).written ≡ 0
    → (get_or steps n d).end ≡ start → (get_or steps n d).start ≤ start → start ≤ end
    → planned file (set steps n (record (get_or steps n d) { end = end })) written ≡ planned file steps written ++ slice_of file (start, end)
joined_behind file [] n d written start end e sum none at le order = absurd (omega (arith, e))
joined_behind file (s ∷ []) zero d written start end e sum none at le order =
    let s2 : CutStep = record s { end = end } in
    let f = slice_of file (s.start, s.end) in
    let g = slice_of file (start, end) in
    let join : slice_of file (s.start, end) ≡ f ++ g =
    slice_join file s.start start end le order ∙ ap (λ k. slice_of file (s.start, k) ++ g) (sym at) in
    planned-cons file s2 [] written
    ∙ ap (λ (xs : List ℕ). slice_of file (s.start, end) ++ (take s.written written ++ xs)) (planned-nil file (drop s.written written))
    ∙ ap (λ n. slice_of file (s.start, end) ++ (take n written ++ [])) none
    ∙ append-nil (slice_of file (s.start, end))
    ∙ join
    ∙ ap (λ (xs : List ℕ). xs ++ g) (sym (append-nil f) ∙ ap (λ n. f ++ (take n written ++ [])) (sym none) ∙ ap (λ (xs : List ℕ). f ++ (take s.written written ++ xs)) (sym (planned-nil file (drop s.written written))) ∙ sym (planned-cons file s [] written))
joined_behind file (s ∷ []) (suc n) d written start end e sum none at le order = absurd (omega (arith, e))
joined_behind file (s ∷ t ∷ steps) zero d written start end e sum none at le order = absurd (omega (arith, e))
joined_behind file (s ∷ t ∷ steps) (suc n) d written start end e sum none at le order =
    let w = s.written in
    let rest = t ∷ steps in
    let one = sum_by-cons written_of s rest in
    let sp = split w written [] (omega (arith, sum, one)) in
    let next = set rest n (record (get_or rest n d) { end = end }) in
    let f = slice_of file (s.start, s.end) in
    let g = slice_of file (start, end) in
    let more = joined_behind file rest n d (drop w written) start end (omega (arith, e)) (omega (arith, sum, one, sp.left)) none at le order in
    planned-cons file s next written
    ∙ ap (λ (xs : List ℕ). f ++ (take w written ++ xs)) more
    ∙ ap (λ (xs : List ℕ). f ++ xs) (sym (append_assoc (take w written) (planned file rest (drop w written)) g))
    ∙ sym (append_assoc f (take w written ++ planned file rest (drop w written)) g)
    ∙ ap (λ (xs : List ℕ). xs ++ g) (sym (planned-cons file s rest written))

-- ---- sums of what the steps say

-- a step in the place of another
sum_set : (f : CutStep → ℕ) (steps : List CutStep) (n : ℕ) (d s : CutStep) → n < length steps → sum_by f (set steps n s) + f (get_or steps n d) ≡ sum_by f steps + f s
sum_set f [] n d s lt = absurd (omega (arith, lt))
sum_set f (t ∷ steps) zero d s lt = let a = sum_by-cons f t steps in let b = sum_by-cons f s steps in omega (arith, a, b)
sum_set f (t ∷ steps) (suc n) d s lt =
    let more = sum_set f steps n d s (omega (arith, lt)) in
    let a = sum_by-cons f t steps in
    let b = sum_by-cons f t (set steps n s) in
    omega (arith, more, a, b)

sum_push : (f : CutStep → ℕ) (steps : List CutStep) (s : CutStep) → sum_by f (steps ++ s ∷ []) ≡ sum_by f steps + f s
sum_push f [] s = let a = sum_by-cons f s [] in omega (arith, a)
sum_push f (t ∷ steps) s =
    let more = sum_push f steps s in
    let a = sum_by-cons f t steps in
    let b = sum_by-cons f t (steps ++ s ∷ []) in
    omega (arith, more, a, b)

all_set : (P : CutStep → Type 0) (steps : List CutStep) (n : ℕ) (s : CutStep) → AllByRecursion P steps → P s → AllByRecursion P (set steps n s)
all_set P [] n s all is = tt
all_set P (t ∷ steps) zero s all is = (is, all.1)
all_set P (t ∷ steps) (suc n) s all is = (all.0, all_set P steps n s all.1 is)

all_push : (P : CutStep → Type 0) (steps : List CutStep) (s : CutStep) → AllByRecursion P steps → P s → AllByRecursion P (steps ++ s ∷ [])
all_push P [] s all is = (is, tt)
all_push P (t ∷ steps) s all is = (all.0, all_push P steps s all.1 is)

pub all_get : (P : CutStep → Type 0) (steps : List CutStep) (n : ℕ) (d : CutStep) → n < length steps → AllByRecursion P steps → P (get_or steps n d)
all_get P [] n d lt all = absurd (omega (arith, lt))
all_get P (t ∷ steps) zero d lt all = all.0
all_get P (t ∷ steps) (suc n) d lt all = all_get P steps n d (omega (arith, lt)) all.1

-- what stands in a list doesn't hang on what would stand beside it
pub get_same : {A : Type 0} (xs : List A) (n : ℕ) (d e : A) → n < length xs → get_or xs n d ≡ get_or xs n e
get_same [] n d e lt = absurd (omega (arith, lt))
get_same (x ∷ xs) zero d e lt = refl
get_same (x ∷ xs) (suc n) d e lt = get_same xs n d e (omega (arith, lt))

-- ---- plans

abbrev pub plan_of : List CutStep → List ℕ → ℕ → PlanFields
plan_of steps written size = record { steps = steps; written = written; size = size }

-- a plan that stands behind another is a plan
pub record IsPlanBehind (old new : PlanFields) (text : List ℕ → List ℕ) (n : ℕ) : Type 0 where
  pub plan : IsPlan new
  pub behind : IsBehind old new text n

pub write_plan : (p : PlanFields) (n : ℕ) (s : CutStep) (bytes : List ℕ) → IsPlan p → length p.steps ≡ n + 1 → s ≡ get_or p.steps n no_step
    → IsPlanBehind p (plan_of (set p.steps n (record { start = s.start; end = s.end; written = s.written + length bytes })) (p.written ++ bytes) p.size) (λ _. bytes) (length bytes)
write_plan p n s bytes plan some is =
    subst (λ (x : CutStep). IsPlanBehind p (plan_of (set p.steps n (record { start = x.start; end = x.end; written = x.written + length bytes })) (p.written ++ bytes) p.size) (λ _. bytes) (length bytes)) (sym is)
    (let t = get_or p.steps n no_step in
    let s2 : CutStep = record { start = t.start; end = t.end; written = t.written + length bytes } in
    let lt : n < length p.steps = omega (arith, some) in
    let own = all_get (IsStep p.size) p.steps n no_step lt plan.steps in
    let sum = sum_set written_of p.steps n no_step s2 lt in
    let long = sum_set step_length p.steps n no_step s2 lt in
    let were = plan.written in
    record {
      plan = record {
        steps = all_set (IsStep p.size) p.steps n s2 plan.steps (record { order = own.order; within = own.within });
        written = omega (arith, sum, were, length-append p.written bytes);
      };
      behind = record {
        size = refl;
        made = λ file. written_behind file p.steps n no_step p.written bytes (omega (arith, some)) were;
        long = omega (arith, long);
      };
    })

pub copy_plan : (p : PlanFields) (start end : ℕ) → IsPlan p → start ≤ end → end ≤ p.size
    → IsPlanBehind p (plan_of (p.steps ++ record { start = start; end = end; written = 0 } ∷ []) p.written p.size) (λ file. slice_of file (start, end)) (end - start)
copy_plan p start end plan order within =
    let s : CutStep = record { start = start; end = end; written = 0 } in
    let sum = sum_push written_of p.steps s in
    let long = sum_push step_length p.steps s in
    let were = plan.written in
    record {
      plan = record {
        steps = all_push (IsStep p.size) p.steps s plan.steps (record { order = order; within = within });
        written = omega (arith, sum, were);
      };
      behind = record { size = refl; made = λ file. copied_behind file p.steps s p.written refl were; long = omega (arith, long) };
    }

pub join_plan : (p : PlanFields) (n : ℕ) (s : CutStep) (start end : ℕ) → IsPlan p → IsLast p n (λ t. (t.written ≡ 0) × (t.end ≡ start)) → s ≡ get_or p.steps n no_step → start ≤ end → end ≤ p.size
    → IsPlanBehind p (plan_of (set p.steps n (record { start = s.start; end = end; written = s.written })) p.written p.size) (λ file. slice_of file (start, end)) (end - start)
join_plan p n s start end plan last is order within =
    subst (λ (x : CutStep). IsPlanBehind p (plan_of (set p.steps n (record { start = x.start; end = end; written = x.written })) p.written p.size) (λ file. slice_of file (start, end)) (end - start)) (sym is)
    (let t = get_or p.steps n no_step in
    let s2 : CutStep = record { start = t.start; end = end; written = t.written } in
    let some = last.last in
    let none = last.holds.0 in
    let at = last.holds.1 in
    let lt : n < length p.steps = omega (arith, some) in
    let own = all_get (IsStep p.size) p.steps n no_step lt plan.steps in
    let before = own.order in
    let sum = sum_set written_of p.steps n no_step s2 lt in
    let long = sum_set step_length p.steps n no_step s2 lt in
    let were = plan.written in
    record {
      plan = record {
        steps = all_set (IsStep p.size) p.steps n s2 plan.steps (record { order = omega (arith, before, at, order); within = within });
        written = omega (arith, sum, were);
      };
      behind = record {
        size = refl;
        made = λ file. joined_behind file p.steps n no_step p.written start end (omega (arith, some)) were none at (omega (arith, before, at)) order;
        long = omega (arith, long, before, at, order);
      };
    })

-- nothing behind a plan, and one text behind another
pub behind_none : (p : PlanFields) → IsBehind p p (λ _. []) 0
behind_none p = record { size = refl; made = λ file. sym (append-nil (plan_text file p)); long = omega arith }

pub behind_both : (old mid new : PlanFields) (f g : List ℕ → List ℕ) (m n : ℕ) → IsBehind old mid f m → IsBehind mid new g n → IsBehind old new (λ file. f file ++ g file) (m + n)
behind_both old mid new f g m n a b =
    let one = a.long in
    let two = b.long in
    record {
      size = b.size ∙ a.size;
      made = λ file. b.made file ∙ ap (λ (xs : List ℕ). xs ++ g file) (a.made file) ∙ append_assoc (plan_text file old) (f file) (g file);
      long = omega (arith, one, two);
    }

pub behind_same : (old new : PlanFields) (f g : List ℕ → List ℕ) (m n : ℕ) → IsBehind old new f m → ((file : List ℕ) → f file ≡ g file) → m ≡ n → IsBehind old new g n
behind_same old new f g m n a same e = record {
  size = a.size;
  made = λ file. a.made file ∙ ap (λ (xs : List ℕ). plan_text file old ++ xs) (same file);
  long = a.long ∙ ap (λ k. plan_length old + k) e;
}

-- nothing is copied at the blank step in front
pub blank_none : (old new : PlanFields) → IsBehind old new (λ file. slice_of file (0, 0)) (0 - 0) → IsBehind old new (λ _. []) 0
blank_none old new a = behind_same old new (λ file. slice_of file (0, 0)) (λ _. []) (0 - 0) 0 a (λ file. slice_none file 0 0 (omega arith)) (omega arith)

-- ---- a plan behind another, step by step

-- So far steps of another plan stand behind this one.
pub record IsAppending (old cur : PlanFields) (steps : List CutStep) (written : List ℕ) (k at : ℕ) : Type 0 where
  pub size : cur.size ≡ old.size
  pub steps_left : AllByRecursion (IsStep cur.size) (drop k steps)
  pub there : at + sum_by written_of (drop k steps) ≡ length written
  pub made : (file : List ℕ) → plan_text file cur ++ planned file (drop k steps) (drop at written) ≡ plan_text file old ++ planned file steps written
  pub long : plan_length cur + sum_by step_length (drop k steps) ≡ plan_length old + sum_by step_length steps

pub appending_more : (old cur new : PlanFields) (steps : List CutStep) (written piece : List ℕ) (k at : ℕ) → IsAppending old cur steps written k at → k < length steps → piece ≡ take (get_or steps k no_step).written (drop at written)
    → IsBehind cur new (λ file. slice_of file ((get_or steps k no_step).start, (get_or steps k no_step).end) ++ piece) ((get_or steps k no_step).end - (get_or steps k no_step).start + length piece)
    → IsAppending old new steps written (k + 1) (at + (get_or steps k no_step).written)
appending_more old cur new steps written piece k at a lt is b =
    let s = get_or steps k no_step in
    let rest = drop (k + 1) steps in
    let here : drop k steps ≡ s ∷ rest = drop_more steps k no_step lt in
    let each = subst (AllByRecursion (IsStep cur.size)) here a.steps_left in
    let sum = ap (sum_by written_of) here ∙ sum_by-cons written_of s rest in
    let lens = ap (sum_by step_length) here ∙ sum_by-cons step_length s rest in
    let there = a.there in
    let long = a.long in
    let grown = b.long in
    let left = length-drop at written in
    let size : length piece ≡ s.written = ap (λ (xs : List ℕ). length xs) is ∙ length-take-le s.written (drop at written) (omega (arith, there, sum, left)) in
    record {
      size = b.size ∙ a.size;
      steps_left = subst (λ n. AllByRecursion (IsStep n) rest) (sym b.size) each.1;
      there = omega (arith, there, sum);
      made = λ file.
          let f = slice_of file (s.start, s.end) in
          let behind = planned file rest (drop (at + s.written) written) in
          ap (λ (xs : List ℕ). xs ++ behind) (b.made file)
          ∙ append_assoc (plan_text file cur) (f ++ piece) behind
          ∙ ap (λ (xs : List ℕ). plan_text file cur ++ xs) (append_assoc f piece behind)
          ∙ ap (λ (xs : List ℕ). plan_text file cur ++ (f ++ (xs ++ behind))) is
          ∙ ap (λ (xs : List ℕ). plan_text file cur ++ (f ++ (take s.written (drop at written) ++ planned file rest xs))) (sym (drop-drop s.written at written))
          ∙ ap (λ (xs : List ℕ). plan_text file cur ++ xs) (sym (planned-cons file s rest (drop at written)))
          ∙ ap (λ (xs : List CutStep). plan_text file cur ++ planned file xs (drop at written)) (sym here)
          ∙ a.made file;
      long = omega (arith, long, lens, grown, size);
    }

pub appending_over : (old cur : PlanFields) (steps : List CutStep) (written : List ℕ) (k at : ℕ) → IsAppending old cur steps written k at → length steps ≤ k → IsBehind old cur (λ file. planned file steps written) (sum_by step_length steps)
appending_over old cur steps written k at a le =
    let none : drop k steps ≡ [] = drop_all k steps le in
    let long = a.long in
    let over = ap (sum_by step_length) none in
    record {
      size = a.size;
      made = λ file.
          sym (append-nil (plan_text file cur))
          ∙ ap (λ (xs : List ℕ). plan_text file cur ++ xs) (sym (planned-nil file (drop at written)))
          ∙ ap (λ (xs : List CutStep). plan_text file cur ++ planned file xs (drop at written)) (sym none)
          ∙ a.made file;
      long = omega (arith, long, over);
    }

pub appending_starts : (old : PlanFields) (steps : List CutStep) (written : List ℕ) (size : ℕ) → size ≡ old.size → AllByRecursion (IsStep size) steps → sum_by written_of steps ≡ length written → IsAppending old old steps written 0 0
appending_starts old steps written size e all sum = record {
  size = refl;
  steps_left = subst (λ n. AllByRecursion (IsStep n) steps) e all;
  there = omega (arith, sum);
  made = λ file. refl;
  long = refl;
}

-- ---- how long it is

pub planned_long : (file : List ℕ) (steps : List CutStep) (written : List ℕ) → AllByRecursion (IsStep (length file)) steps → sum_by written_of steps ≡ length written → length (planned file steps written) ≡ sum_by step_length steps
planned_long file [] written all sum = ap (λ (xs : List ℕ). length xs) (planned-nil file written)
planned_long file (s ∷ steps) written all sum =
    let f = slice_of file (s.start, s.end) in
    let one = sum_by-cons written_of s steps in
    let sp = split s.written written [] (omega (arith, sum, one)) in
    let front = length-take-le s.written written (omega (arith, sum, one)) in
    let copied = slice_length file s.start s.end all.0.order all.0.within in
    let more = planned_long file steps (drop s.written written) all.1 (omega (arith, sum, one, sp.left)) in
    let rest = planned file steps (drop s.written written) in
    let whole = ap (λ (xs : List ℕ). length xs) (planned-cons file s steps written) in
    let total = sum_by-cons step_length s steps in
    omega (arith, whole, length-append f (take s.written written ++ rest), length-append (take s.written written) rest, front, copied, more, total)

pub plan_long : (file : List ℕ) (p : PlanFields) → IsPlan p → p.size ≡ length file → length (plan_text file p) ≡ plan_length p
plan_long file p plan e = planned_long file p.steps p.written (subst (λ n. AllByRecursion (IsStep n) p.steps) e plan.steps) plan.written
