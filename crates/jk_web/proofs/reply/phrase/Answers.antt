use Rattle.std.proofs.Common.{◌≡◌, ℕ, true, cond, List, [], Option, Some, None, unwrap_or, option_map, Bor, refl, sym, ap, ◌∙◌, arith}
use Rattle.std.proofs.lemmas.Bool.Decides.{nat_tests}
use Rattle.http.specs.StatusCode.{reason_phrase}
use Rattle.jk_web.specs.Replies.{phrase_of, is_status}
use Rattle.jk_web.proofs.reply.phrase.Goals as goal

unwrap_or-map : {A B : Type 0} (f : A → B) (o : Option A) (d : A) → f (unwrap_or o d) ≡ unwrap_or (option_map f o) (f d)
unwrap_or-map f None d = refl
unwrap_or-map f (Some x) d = refl

pub returns-in-Ok : goal.returns-in-Ok
unfolding phrase_of
returns-in-Ok c =
    let status = c.args.status in
    let valid : is_status status ≡ true = grind (arith, nat_tests, c.in-Ok.ensures.0) in
    let now : Bor (List ℕ) → List ℕ = λ s. s.now in
    ap now c.unwrap_or.ensures
    ∙ unwrap_or-map now c.canonical_reason.result _
    ∙ ap (λ (o : Option (List ℕ)). unwrap_or o []) (c.canonical_reason.ensures.value ∙ ap reason_phrase c.in-Ok.ensures.1)
    ∙ sym (ap (λ b. cond b (unwrap_or (reason_phrase status) []) []) valid)
