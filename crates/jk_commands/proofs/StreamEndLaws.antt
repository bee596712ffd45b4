-- A source that was read to its end, and what was written of the file that it gave.
use Rattle.std.proofs.Common.{◌≡◌, ℕ, ◌⊎◌, List, [], ◌∷◌, ◌++◌, Option, Some, None, Result, Err, refl, sym, ap, subst, ◌∙◌, append-nil, inl, inr}
use Rattle.std.specs.Bool.{⊤}
use Rattle.std.specs.Io.KnownBytes.{Consumes, IsAtEnd}
use Rattle.jk_math.specs.Memory.{IsMemory}
use Rattle.jk_math.specs.declared.fault.Fault.{Fault}
use Rattle.jk_math.specs.declared.fault.Fault.TheVariants.{Shelf, BadPnm}
use Rattle.jk_pnm.specs.Reading.{pnm_at}
use Rattle.jk_options.specs.declared.plan.Plan.{Plan}
use Rattle.jk_files.specs.declared.incoming.Incoming.{Incoming}
use Rattle.jk_files.specs.Incoming.{waiting_of, Took}
use Rattle.jk_files.proofs.Laws.{consumes_both}
use Rattle.jk_commands.specs.Written.{LeftOf}
use Rattle.jk_commands.specs.RowStreaming.{HasAll, IsBad, IsLeftOfIncoming, NoneOfSource, IsLeftOfSource}
use Rattle.jk_commands.proofs.LeftLaws.{Wrote, unread}

-- ---- bytes that a source gives

none_first : (xs ys : List ℕ) → xs ++ ys ≡ [] → xs ≡ []
none_first [] ys h = refl
none_first (x ∷ xs) ys h = absurd cc

-- What a source gave before its end: none, where it was at its end already.
record Rest (x y : Option (List ℕ)) : Type 0 where
  bytes : List ℕ
  consumed : Consumes x y bytes
  none : IsAtEnd x → bytes ≡ []

rest_of : (x y : Option (List ℕ)) (bytes : List ℕ) → Consumes x y bytes → IsAtEnd y → Rest x y
rest_of None y bytes h ended = record { bytes = []; consumed = tt; none = λ e. refl }
rest_of (Some xs) None bytes h ended = absurd h
rest_of (Some xs) (Some ys) bytes h ended = record { bytes = bytes; consumed = h; none = λ e. none_first bytes ys (sym h ∙ e) }

-- ---- what was read and written in the end

-- nothing is written of a file without a picture
none_written : (input : List ℕ) (plan : Plan) (text : List ℕ) → LeftOf input plan text (Err BadPnm) → text ≡ []
none_written input plan text left = elim left [
  | inl memory ↦ absurd memory.0
  | inr other ↦ elim other [
    | inl refused ↦ refused.1
    | inr coded ↦ elim coded.4 [
      | inl h ↦ absurd (let e = h.0 in cc)
      | inr h ↦ elim h [
        | inl h ↦ absurd (let e = h.0 in cc)
        | inr h ↦ elim h.0 [
          | inl memory ↦ absurd memory
          | inr e ↦ absurd cc
        ]
      ]
    ]
  ]
]

module _ {S : Type 0} (remaining : S → Option (List ℕ)) where
  given_bytes : (a c : Incoming S) (bytes : List ℕ) (took : Took remaining a c bytes) → waiting_of a ≡ [] → bytes ++ waiting_of c ≡ took.more
  given_bytes a c bytes took none = took.text ∙ ap (λ (xs : List ℕ). xs ++ took.more) none

  pub all_consumed : (a c : Incoming S) (input : List ℕ) → waiting_of a ≡ [] → HasAll remaining a c input → Consumes (remaining a.source.now) (remaining c.source.now) input
  all_consumed a c input none all =
      let same : input ≡ all.took.more = sym (append-nil input) ∙ ap (λ (xs : List ℕ). input ++ xs) (sym all.none) ∙ given_bytes a c input all.took none in
      subst (λ (xs : List ℕ). Consumes (remaining a.source.now) (remaining c.source.now) xs) (sym same) all.took.consumed

  -- the file that a source gave, where it is refused
  record IsBadInput (a d : Incoming S) : Type 0 where
    input : List ℕ
    consumed : Consumes (remaining a.source.now) (remaining d.source.now) input
    bad : pnm_at input ≡ Err BadPnm

  bad_input : (a c d : Incoming S) (bytes : List ℕ) → waiting_of a ≡ [] → IsBad remaining a c → Took remaining c d bytes → IsAtEnd (remaining d.source.now) → IsBadInput a d
  bad_input a c d bytes none bad took ended =
      let rest = rest_of (remaining c.source.now) (remaining d.source.now) took.more took.consumed ended in
      let both = consumes_both (remaining a.source.now) (remaining c.source.now) (remaining d.source.now) bad.took.more rest.bytes bad.took.consumed rest.consumed in
      let same : (bad.bytes ++ waiting_of c) ++ rest.bytes ≡ bad.took.more ++ rest.bytes = ap (λ (xs : List ℕ). xs ++ rest.bytes) (given_bytes a c bad.bytes bad.took none) in
      record {
        input = (bad.bytes ++ waiting_of c) ++ rest.bytes;
        consumed = subst (λ (xs : List ℕ). Consumes (remaining a.source.now) (remaining d.source.now) xs) (sym same) both;
        bad = bad.why rest.bytes rest.none;
      }

  -- a source that was at its end gave no more
  all_again : (a c d : Incoming S) (input bytes : List ℕ) → waiting_of a ≡ [] → HasAll remaining a c input → Took remaining c d bytes → IsAtEnd (remaining d.source.now)
      → Consumes (remaining a.source.now) (remaining d.source.now) input
  all_again a c d input bytes none all took ended =
      let rest = rest_of (remaining c.source.now) (remaining d.source.now) took.more took.consumed ended in
      let both = consumes_both (remaining a.source.now) (remaining c.source.now) (remaining d.source.now) input rest.bytes (all_consumed a c input none all) rest.consumed in
      subst (λ (xs : List ℕ). Consumes (remaining a.source.now) (remaining d.source.now) xs) (ap (λ (xs : List ℕ). input ++ xs) (rest.none all.ended) ∙ append-nil input) both

  pub source_left : (x y : Option (List ℕ)) (plan : Plan) (a c : Incoming S) (r : Result ⊤ Fault) → waiting_of a ≡ [] → (r ≡ Err BadPnm → ⊥) → Wrote x y (λ text. IsLeftOfIncoming remaining plan a c text r)
      → Wrote x y (λ text. IsLeftOfSource remaining plan a c text r)
  source_left x y plan a c r none fine wrote = (
    wrote.0,
    wrote.1,
    elim wrote.2 [
      | inl h ↦ inl (h.0, h.1.took.same, all_consumed a c h.0 none h.1, h.1.ended, h.2)
      | inr h ↦ elim h [
        | inl failed ↦ inr failed
        | inr bad ↦ absurd (fine bad.0)
      ]
    ],
  )

  -- the rest of a file that is refused was read
  pub source_dropped : (x y : Option (List ℕ)) (plan : Plan) (a c d : Incoming S) (r : Result ⊤ Fault) (bytes : List ℕ) → waiting_of a ≡ [] → r ≡ Err BadPnm → Took remaining c d bytes
      → IsAtEnd (remaining d.source.now) → Wrote x y (λ text. IsLeftOfIncoming remaining plan a c text r)
      → Wrote x y (λ text. IsLeftOfSource remaining plan a d text r)
  source_dropped x y plan a c d r bytes none is took ended wrote = (
    wrote.0,
    wrote.1,
    elim wrote.2 [
      | inl h ↦ inl (h.0, took.same ∙ h.1.took.same, all_again a c d h.0 bytes none h.1 took ended, ended, h.2)
      | inr h ↦ elim h [
        | inl failed ↦ inr failed
        | inr bad ↦
            let found = bad_input a c d bytes none bad.2 took ended in
            inl (
              found.input,
              took.same ∙ bad.2.took.same,
              found.consumed,
              ended,
              subst (λ (t : List ℕ). LeftOf found.input plan t r) (sym bad.1) (subst (λ (q : Result ⊤ Fault). LeftOf found.input plan [] q) (sym is) (unread found.input plan BadPnm found.bad)),
            )
      ]
    ],
  )

  -- or a read of it failed
  pub source_failed : (x y : Option (List ℕ)) (plan : Plan) (a c : Incoming S) (r : Result ⊤ Fault) (e : Fault) → r ≡ Err BadPnm → IsMemory e ⊎ (e ≡ Shelf)
      → Wrote x y (λ text. IsLeftOfIncoming remaining plan a c text r) → Wrote x y (λ text. NoneOfSource text (Err e))
  source_failed x y plan a c r e is why wrote =
      let text = wrote.0 in
      let nothing : text ≡ [] = elim wrote.2 [
        | inl h ↦ none_written h.0 plan text (subst (λ (q : Result ⊤ Fault). LeftOf h.0 plan text q) is h.2)
        | inr h ↦ elim h [
          | inl failed ↦ failed.3
          | inr bad ↦ bad.1
        ]
      ] in
      (text, wrote.1, (e, refl, why, nothing))
