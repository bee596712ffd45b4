-- The texts of a connection, as they are seen by another relation over other states: one fact goes forward along the
-- answers, another comes back from the end.
use Rattle.std.proofs.Common.{◌≡◌, ℕ, ◌⊎◌, inl, inr, List, Option, Result, Ok, Err, sym, ap, subst}
use Rattle.jk_math.specs.declared.fault.Fault.{Fault}
use Rattle.jk_math.specs.Memory.{IsMemory}
use Rattle.jk_web.specs.declared.reply.Reply.{Reply}
use Rattle.jk_web.specs.declared.request.Request.{Request}
use Rattle.jk_web.specs.declared.serving.End.{End}
use Rattle.jk_web.specs.declared.serving.End.TheVariants.{Closed, Bad, ReadFailed, WriteFailed, TurnsSpent}
use Rattle.httparse.specs.Grammar.{RequestHead}
use Rattle.jk_web.specs.Heads.{IsWhole, IsGood, request_of}
use Rattle.jk_web.specs.Serving.{Answered, nothing, one_more, IsOpenText, IsClosedText, IsBadText, IsCutText, IsDue, IsRefusedText, EndsConnection}

module _ {S T : Type 0} (gives : S → Request → Reply → S → Type 0) (refuses : S → Request → Fault → S → Type 0)
    (plain : T → Request → Reply → T → Type 0) (plainly : T → Request → Fault → T → Type 0)
    (f : S → T) (P Q : S → Type 0)
    (step : (s : S) (q : Request) (r : Reply) (t : S) → P s → gives s q r t → P t × (Q t → plain (f s) q r (f t) × Q s))
    (stop : (s : S) (q : Request) (e : Fault) (t : S) → P s → refuses s q e t → P t × (Q t → plainly (f s) q e (f t) × Q s)) where
  answered_by : (s : S) (stream text rest : List ℕ) (t : S) → P s → Answered gives s stream text rest t
      → P t × (Q t → Answered plain (f s) stream text rest (f t) × Q s)
  answered_by s stream _ _ _ p nothing = (p, λ b. (nothing, b))
  answered_by s stream _ _ _ p (one_more text rest t h tail reply u a w good keeps g) =
      let before = answered_by s stream text rest t p a in
      let now = step t (request_of h) reply u before.0 g in (
        now.0,
        λ b.
            let last = now.1 b in
            let first = before.1 last.1 in
            (one_more text rest (f t) h tail reply (f u) first.0 w good keeps last.0, first.1),
      )

  open_by : (s : S) (stream text : List ℕ) (t : S) → P s → IsOpenText gives s stream text t → P t × (Q t → IsOpenText plain (f s) stream text (f t) × Q s)
  open_by s stream text t p k =
      let a = answered_by s stream text k.rest t p k.answered in
      (a.0, λ b. let first = a.1 b in (record { rest = k.rest; answered = first.0; quiet = k.quiet }, first.1))

  closed_by : (s : S) (stream text : List ℕ) (t : S) → P s → IsClosedText gives s stream text t → P t × (Q t → IsClosedText plain (f s) stream text (f t) × Q s)
  closed_by s stream text t p k =
      let a = answered_by s stream k.before k.rest k.state p k.answered in
      let now = step k.state (request_of k.head) k.reply t a.0 k.given in (
        now.0,
        λ b.
            let last = now.1 b in
            let first = a.1 last.1 in (
              record {
                before = k.before;
                rest = k.rest;
                state = f k.state;
                answered = first.0;
                head = k.head;
                tail = k.tail;
                whole = k.whole;
                good = k.good;
                last = k.last;
                reply = k.reply;
                given = last.0;
                ends = k.ends;
              },
              first.1,
            ),
      )

  bad_by : (s : S) (stream text : List ℕ) (t : S) → P s → IsBadText gives s stream text t → P t × (Q t → IsBadText plain (f s) stream text (f t) × Q s)
  bad_by s stream text t p k =
      let a = answered_by s stream k.before k.rest t p k.answered in (
        a.0,
        λ b.
            let first = a.1 b in
            (record { before = k.before; rest = k.rest; answered = first.0; status = k.status; bad = k.bad; ends = k.ends }, first.1),
      )

  due_by : (s : S) (rest : List ℕ) (reply : Reply) (t : S) (left : Option (List ℕ)) → P s → IsDue gives s rest reply t left
      → P t × (Q t → IsDue plain (f s) rest reply (f t) left × Q s)
  due_by s rest reply t left p (inl k) =
      let now = step s (request_of k.0) reply t p k.4 in
      (now.0, λ b. let last = now.1 b in (inl (k.0, k.1, k.2, k.3, last.0, k.5), last.1))
  due_by s rest reply t left p (inr k) = (subst P (sym k.3) p, λ b. (inr (k.0, k.1, k.2, ap f k.3, k.4), subst Q k.3 b))

  cut_by : (s : S) (stream text : List ℕ) (t : S) → P s → IsCutText gives s stream text t → P t × (Q t → IsCutText plain (f s) stream text (f t) × Q s)
  cut_by s stream text t p k =
      let a = answered_by s stream k.before k.rest k.state p k.answered in
      let d = due_by k.state k.rest k.reply t k.left a.0 k.due in (
        d.0,
        λ b.
            let last = d.1 b in
            let first = a.1 last.1 in (
              record {
                before = k.before;
                rest = k.rest;
                state = f k.state;
                answered = first.0;
                reply = k.reply;
                left = k.left;
                due = last.0;
                whole = k.whole;
                part = k.part;
                cut = k.cut;
                ends = k.ends;
              },
              first.1,
            ),
      )

  cause_by : (state : S) (rest : List ℕ) (e : Fault) (t : S) → P state
      → (c : (IsMemory e × (t ≡ state)) ⊎ ((h : RequestHead) × (tail : List ℕ) × IsWhole rest h tail × IsGood h × refuses state (request_of h) e t))
      → P t × (Q t → ((IsMemory e × (f t ≡ f state)) ⊎ ((h : RequestHead) × (tail : List ℕ) × IsWhole rest h tail × IsGood h × plainly (f state) (request_of h) e (f t))) × Q state)
  cause_by state rest e t p (inl c) = (subst P (sym c.1) p, λ b. (inl (c.0, ap f c.1), subst Q c.1 b))
  cause_by state rest e t p (inr c) =
      let now = stop state (request_of c.0) e t p c.4 in
      (now.0, λ b. let last = now.1 b in (inr (c.0, c.1, c.2, c.3, last.0), last.1))

  refused_by : (s : S) (stream text : List ℕ) (e : Fault) (t : S) → P s → IsRefusedText gives refuses s stream text e t
      → P t × (Q t → IsRefusedText plain plainly (f s) stream text e (f t) × Q s)
  refused_by s stream text e t p k =
      let a = answered_by s stream text k.rest k.state p k.answered in
      let c = cause_by k.state k.rest e t a.0 k.cause in (
        c.0,
        λ b.
            let last = c.1 b in
            let first = a.1 last.1 in
            (record { rest = k.rest; state = f k.state; answered = first.0; cause = last.0 }, first.1),
      )

  pub ends_by : (s : S) (stream text : List ℕ) (over spent : Type 0) (t : S) (r : Result End Fault) → P s → EndsConnection gives refuses s stream text over spent t r
      → P t × (Q t → EndsConnection plain plainly (f s) stream text over spent (f t) r × Q s)
  ends_by s stream text over spent t (Ok Closed) p (inl k) =
      let a = open_by s stream text t p k.0 in (a.0, λ b. let first = a.1 b in (inl (first.0, k.1), first.1))
  ends_by s stream text over spent t (Ok Closed) p (inr k) =
      let a = closed_by s stream text t p k in (a.0, λ b. let first = a.1 b in (inr first.0, first.1))
  ends_by s stream text over spent t (Ok Bad) p k = bad_by s stream text t p k
  ends_by s stream text over spent t (Ok ReadFailed) p k = open_by s stream text t p k
  ends_by s stream text over spent t (Ok WriteFailed) p k = cut_by s stream text t p k
  ends_by s stream text over spent t (Ok TurnsSpent) p k =
      let a = open_by s stream text t p k.0 in (a.0, λ b. let first = a.1 b in ((first.0, k.1), first.1))
  ends_by s stream text over spent t (Err e) p k = refused_by s stream text e t p k
