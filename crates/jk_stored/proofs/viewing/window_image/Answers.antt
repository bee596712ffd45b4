use Rattle.std.proofs.Common.{◌≡◌, ◌-◌, ℕ, List, length, take, drop, refl, sym, ap, ◌∙◌, subst, arith}
use Rattle.std.proofs.lemmas.List.{length-drop}
use Rattle.jk_math.specs.Steps.{done}
use Rattle.jk_code.specs.ViewReading.{meaning_view_at}
use Rattle.jk_code.specs.Windows.{in_all_layers}
use Rattle.jk_stored.proofs.ViewKnown.{behind_front, view_known}
use Rattle.jk_stored.proofs.viewing.window_image.Goals as goal

pub window_codestream-requires : goal.window_codestream-requires
window_codestream-requires g c = λ code keeping.
    let front = c.in_ok-front.front.items in
    let same : c.deref-2.result.now ≡ front = c.deref-2.ensures.value in
    let begins : front ≡ take (length front) keeping.0 = c.in_ok-front.ensures keeping.0 keeping.1 in
    subst (λ (xs : List ℕ). take (length xs - c.in_ok-start.start) (drop c.in_ok-start.start xs) ≡ take (length (take (length xs - c.in_ok-start.start) (drop c.in_ok-start.start xs))) code) (sym same)
    (behind_front keeping.0 front c.in_ok-start.start begins (omega (arith, c.if-start-len.false, c.len.ensures)) ∙ ap (take (length (take (length front - c.in_ok-start.start) (drop c.in_ok-start.start front)))) (sym keeping.2))

pub returns : goal.returns
returns g c = λ f keeping long.
    let start = c.in_ok-start.start in
    let front = c.in_ok-front.front.items in
    let begins : front ≡ take (length front) f = c.in_ok-front.ensures f keeping in
    let read : c.deref.result.now ≡ take (length c.deref.result.now) f = subst (λ (xs : List ℕ). xs ≡ take (length xs) f) (sym c.deref.ensures.value) begins in
    let left = length-drop start f in
    view_known f (drop start f) c.in_ok-made.made.items c.args.view c.in_ok-image.image (c.in_ok-start.ensures f long read)
    (c.in_ok-made.ensures (drop start f) (f, keeping, refl) (omega (arith, left, long)))
    (subst (λ (xs : List ℕ). meaning_view_at xs (in_all_layers c.args.view) ≡ done c.in_ok-image.image) c.deref-3.ensures.value c.in_ok-image.ensures.exact)
