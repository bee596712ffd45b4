-- What a reader and its shelf went through.
use Rattle.std.proofs.Common.{◌≡◌, ℕ, List, length, take, Result, Ok, Err, IfErr, ◌⊎◌, inl, inr, refl, ◌∙◌}
use mathlib.Core.List.{IsPrefix}
use Rattle.jk_math.specs.declared.fault.Fault.{Fault}
use Rattle.jk_math.specs.declared.fault.Fault.TheVariants.{WorkerFailed}
use Rattle.jk_math.specs.Memory.{IsMemory}
use Rattle.jk_web.specs.declared.reply.Reply.{Reply}
use Rattle.jk_web.specs.declared.request.Request.{Request}
use Rattle.jk_web.specs.declared.serving.End.{End}
use Rattle.httparse.specs.Grammar.{RequestHead}
use Rattle.jk_web.specs.Heads.{IsWhole, IsGood, request_of}
use Rattle.jk_web.specs.Cuts.{KeptCut}
use Rattle.jk_web.specs.Serving.{EndsConnection}
use Rattle.jk_web.proofs.Laws.{ends_by}
use Rattle.jk_store.specs.Files.{Files}
use Rattle.jk_store.specs.declared.entry.Entry.{Entry}
use Rattle.jk_hall.specs.declared.attending.Attending.{Attending}
use Rattle.jk_hall.specs.declared.reader.Reader.{Reader}
use Rattle.jk_hall.specs.Reading.{seen, cuts}
use Rattle.jk_hall.specs.Replying.{IsCause, KeepsOn, KeptOn, Goes}
use Rattle.jk_hall.specs.Behind.{behind, AreSame, GivesBehind, RefusesBehind, GivesUpTo, RefusesUpTo}
use Rattle.jk_hall.proofs.Fronts.{prefix_self, prefix_trans}
use Rattle.jk_hall.proofs.Fronting.{shown_front, cuts_front, cuts_all, kept_front, kept_on}
use Rattle.jk_hall.proofs.Keeping.{cuts_on, kept_same}

module _ {S : Type 0} (keeps : S → Files → Type 0) where
  kept_twice : (first next last : List Entry) (s t : S) (a b c : List KeptCut) → IsPrefix first next → IsPrefix next last → KeepsOn keeps s t
      → KeptOn keeps first next s a b → KeptOn keeps next last t b c → KeptOn keeps first last s a c
  kept_twice first next last s t a b c p q on k l = record {
    held = λ h. l.held (k.held h);
    known = λ h images shows kept of.
        let front = shown_front next last images q shows in
        l.known (k.held h) images shows (kept_on keeps s t images on kept)
        (cuts_all (length next) images b
        (k.known h (take (length next) images) front (kept_front keeps s (length next) images kept) (cuts_front next images a (cuts_on first next p a h) front of)));
  }

  goes_nowhere : (s : Reader × S) → Goes keeps s s
  goes_nowhere s = record {
    grown = prefix_self (seen s.0);
    told_same = refl;
    keeps_on = λ files k. k;
    cuts_on = kept_same keeps (seen s.0) (seen s.0) s.1 (cuts s.0) (prefix_self (seen s.0));
  }

  pub goes_on : (s t u : Reader × S) → Goes keeps s t → Goes keeps t u → Goes keeps s u
  goes_on s t u a b = record {
    grown = prefix_trans (seen s.0) (seen t.0) (seen u.0) a.grown b.grown;
    told_same = b.told_same ∙ a.told_same;
    keeps_on = λ files k. b.keeps_on files (a.keeps_on files k);
    cuts_on = kept_twice (seen s.0) (seen t.0) (seen u.0) s.1 t.1 (cuts s.0) (cuts t.0) (cuts u.0) a.grown b.grown a.keeps_on a.cuts_on b.cuts_on;
  }

  module _ (failed : S → ℕ) (gave : S → List ℕ → List ℕ → S → Type 0) (gave_at : S → List ℕ → ℕ → ℕ → List ℕ → S → Type 0) {W : Type 0} (start end : Attending S W) where
    Went : Attending S W → Type 0
    Went a = AreSame start a × Goes keeps (behind start) (behind a)

    went_on : (s t : Attending S W) → Went s → AreSame s t → Goes keeps (behind s) (behind t) → Went t
    unfolding Went
    went_on s t p same goes = ((same.0 ∙ p.0.0, same.1 ∙ p.0.1), goes_on (behind start) (behind s) (behind t) p.1 goes)

    Begins : Attending S W → Type 0
    Begins a = IsPrefix (seen a.reader.now) (seen end.reader.now)

    given : (s : Attending S W) (q : Request) (r : Reply) (t : Attending S W) → Went s → GivesBehind keeps failed gave gave_at s q r t
        → Went t × (Begins t → GivesUpTo keeps failed gave gave_at (seen end.reader.now) (behind s) q r (behind t) × Begins s)
    unfolding Begins
    given s q r t p g = (
      went_on s t p g.0 g.1.goes,
      λ b. ((g.1, b), prefix_trans (seen s.reader.now) (seen t.reader.now) (seen end.reader.now) g.1.goes.grown b),
    )

    refused : (s : Attending S W) (q : Request) (e : Fault) (t : Attending S W) → Went s → RefusesBehind keeps s q e t
        → Went t × (Begins t → RefusesUpTo keeps (seen end.reader.now) (behind s) q e (behind t) × Begins s)
    unfolding Begins
    refused s q e t p g = (
      went_on s t p g.0 g.1.1,
      λ b. ((g.1, b), prefix_trans (seen s.reader.now) (seen t.reader.now) (seen end.reader.now) g.1.1.grown b),
    )

    pub attended : (stream text : List ℕ) (over spent : Type 0) (r : Result End Fault)
        → EndsConnection (GivesBehind keeps failed gave gave_at) (RefusesBehind keeps) start stream text over spent end r
        → AreSame start end × Goes keeps (behind start) (behind end)
        × EndsConnection (GivesUpTo keeps failed gave gave_at (seen end.reader.now)) (RefusesUpTo keeps (seen end.reader.now)) (behind start) stream text over spent (behind end) r
    unfolding Went Begins
    attended stream text over spent r k =
        let e = ends_by (GivesBehind keeps failed gave gave_at) (RefusesBehind keeps) (GivesUpTo keeps failed gave gave_at (seen end.reader.now)) (RefusesUpTo keeps (seen end.reader.now))
        behind Went Begins given refused start stream text over spent end r ((refl, refl), goes_nowhere (behind start)) k in
        (e.0.0, e.0.1, (e.1 (prefix_self (seen end.reader.now))).0)

-- A refusal has one of the two causes.
pub cause_is : (e : Fault) (InVain : Type 0) → IsMemory e ⊎ ((e ≡ WorkerFailed) × InVain) → IsCause e
cause_is e InVain (inl memory) = inl memory
cause_is e InVain (inr failed) = inr failed.0

-- Why a connection ends, where no answer is given.
cause_of : {T : Type 0} (refuses : T → Request → Fault → T → Type 0) (state : T) (rest : List ℕ) (e : Fault) (t : T)
    → ((s : T) (q : Request) (f : Fault) (u : T) → refuses s q f u → IsCause f)
    → (IsMemory e × (t ≡ state)) ⊎ ((h : RequestHead) × (tail : List ℕ) × IsWhole rest h tail × IsGood h × refuses state (request_of h) e t) → IsCause e
cause_of refuses state rest e t only (inl c) = inl c.0
cause_of refuses state rest e t only (inr c) = only state (request_of c.0) e t c.4

pub ends_cause : {T : Type 0} (gives : T → Request → Reply → T → Type 0) (refuses : T → Request → Fault → T → Type 0) (s : T) (stream text : List ℕ) (over spent : Type 0) (t : T) (r : Result End Fault)
    → ((s : T) (q : Request) (f : Fault) (u : T) → refuses s q f u → IsCause f) → EndsConnection gives refuses s stream text over spent t r → IfErr r (λ e. IsCause e)
ends_cause gives refuses s stream text over spent t (Ok e) only k = tt
ends_cause gives refuses s stream text over spent t (Err e) only k = cause_of refuses k.state k.rest e t only k.cause
