-- Bytes that come from a source: what was taken in two steps was taken in one.
use Rattle.std.proofs.Common.{◌≡◌, ℕ, List, [], ◌∷◌, ◌++◌, drop, Bool, Result, Ok, Err, IfOk, OnOk, Option, None, Some, refl, sym, ap, subst, ◌∙◌, append_assoc, append-nil}
use Rattle.std.specs.Io.KnownBytes.{Consumes}
use Rattle.jk_files.specs.declared.incoming.Incoming.{Incoming}
use Rattle.jk_files.specs.Incoming.{waiting_of, Took}

consumes_none : (a : Option (List ℕ)) → Consumes a a []
consumes_none None = tt
consumes_none (Some xs) = refl

pub consumes_both : (a b c : Option (List ℕ)) (xs ys : List ℕ) → Consumes a b xs → Consumes b c ys → Consumes a c (xs ++ ys)
consumes_both None b c xs ys h k = tt
consumes_both (Some xa) None c xs ys h k = absurd h
consumes_both (Some xa) (Some xb) None xs ys h k = absurd k
consumes_both (Some xa) (Some xb) (Some xc) xs ys h k = h ∙ ap (λ (zs : List ℕ). xs ++ zs) k ∙ sym (append_assoc xs ys xc)

module _ {S : Type 0} (remaining : S → Option (List ℕ)) where
  -- none was taken
  pub took_none : (a : Incoming S) → Took remaining a a []
  took_none a = record { same = refl; more = []; consumed = consumes_none (remaining a.source.now); text = sym (append-nil (waiting_of a)) }

  pub took_both : (a b c : Incoming S) (xs ys : List ℕ) → Took remaining a b xs → Took remaining b c ys → Took remaining a c (xs ++ ys)
  took_both a b c xs ys h k = record {
    same = k.same ∙ h.same;
    more = h.more ++ k.more;
    consumed = consumes_both (remaining a.source.now) (remaining b.source.now) (remaining c.source.now) h.more k.more h.consumed k.consumed;
    text = append_assoc xs ys (waiting_of c) ∙ ap (λ (zs : List ℕ). xs ++ zs) k.text ∙ sym (append_assoc xs (waiting_of b) k.more)
        ∙ ap (λ (zs : List ℕ). zs ++ k.more) h.text ∙ append_assoc (waiting_of a) h.more k.more;
  }

  -- once more was read
  pub took_read : {E : Type 0} (a b : Incoming S) (r : Result Bool E) (long end : List ℕ → Bool → Type 0) → b.source.ghost_name ≡ a.source.ghost_name → a.taken ≡ 0 → b.taken ≡ 0
      → IfOk r (λ ended. (more : List ℕ) × (b.given.items ≡ a.given.items ++ more) × long more ended × Consumes (remaining a.source.now) (remaining b.source.now) more × end more ended)
      → OnOk r (Took remaining a b [])
  took_read a b (Ok ended) long end same first second h = record {
    same = same;
    more = h.0;
    consumed = h.3;
    text = ap (λ n. drop n b.given.items) second ∙ h.1 ∙ ap (λ n. drop n a.given.items ++ h.0) (sym first);
  }
  took_read a b (Err e) long end same first second h = tt

  -- all that waited was taken
  pub took_all : (a b : Incoming S) → b.source ≡ a.source → waiting_of b ≡ [] → Took remaining a b (waiting_of a)
  took_all a b same none = record {
    same = ap (λ s. s.ghost_name) same;
    more = [];
    consumed = subst (λ s. Consumes (remaining a.source.now) (remaining s.now) []) (sym same) (consumes_none (remaining a.source.now));
    text = ap (λ (zs : List ℕ). waiting_of a ++ zs) none;
  }
