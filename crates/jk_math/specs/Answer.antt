-- What a call answers, against the function that says which value or which first fault is due.
use Rattle.std.specs.Prelude.{◌≡◌, Bool, Result, Ok, Err, if◌then◌else◌}
use Rattle.jk_math.specs.declared.fault.Fault.{Fault}
use Rattle.jk_math.specs.declared.fault.Fault.TheVariants.{Memory}

-- one step after another: the first fault ends it
infixl 10 ◌>>=◌
abbrev pub ◌>>=◌ : {A B : Type 0} → Result A Fault → (A → Result B Fault) → Result B Fault
(Ok x) >>= f = f x
(Err e) >>= f = Err e

-- a fault where a test says so
abbrev pub refuse : Bool → Fault → Result (Unit {0}) Fault
refuse test fault = if test then Err fault else Ok tt

-- Due is the fault e, unless e says that memory was refused.
abbrev pub Refuses : {A : Type 0} → Fault → Result A Fault → Type 0
Refuses (Memory r) due = Unit {0}
Refuses e due = due ≡ Err e

-- A call that may take memory answers what is due, its value seen by view, or Memory.
abbrev pub Answers : {X Y : Type 0} → (X → Y) → Result X Fault → Result Y Fault → Type 0
Answers view (Ok x) due = due ≡ Ok (view x)
Answers view (Err e) due = Refuses e due

-- A call that takes no memory answers what is due, its value seen by view.
abbrev pub AnswersExactly : {X Y : Type 0} → (X → Y) → Result X Fault → Result Y Fault → Type 0
AnswersExactly view (Ok x) due = due ≡ Ok (view x)
AnswersExactly view (Err e) due = due ≡ Err e

-- A reader moves from old to new with a value, or the fault is due at old. It takes no memory.
abbrev pub Reads : {S A : Type 0} → (S → Result (A × S) Fault) → S → S → Result A Fault → Type 0
Reads read old new (Ok x) = read old ≡ Ok (x, new)
Reads read old new (Err e) = read old ≡ Err e

-- The same for a reader that may take memory, its value seen by view.
abbrev pub ReadsBy : {S A B : Type 0} → (A → B) → (S → Result (B × S) Fault) → S → S → Result A Fault → Type 0
ReadsBy view read old new (Ok x) = read old ≡ Ok (view x, new)
ReadsBy view read old new (Err e) = Refuses e (read old)
