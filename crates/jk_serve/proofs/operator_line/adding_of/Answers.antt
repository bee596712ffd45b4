use Rattle.std.proofs.Common.{◌≡◌, ◌≢◌, ◌++◌, ◌∷◌, ℕ, List, ◌+◌, ◌<◌, length, drop, get_or, ap, sym, ◌∙◌, arith, length-append}
use Rattle.std.proofs.lemmas.List.{get_or_default}
use Rattle.std.proofs.Math.Seq.{get_or-append_seam}
use Rattle.std.proofs.lemmas.Str.Pattern.{split_parts}
use Rattle.jk_serve.specs.OperatorLines.{add_word}
use Rattle.jk_serve.proofs.operator_line.adding_of.Goals as goal

-- a list without a space isn't a name, a space and a path
no_space : (rest name path : List ℕ) → ((i : ℕ) → i < length rest → get_or rest i 0 ≢ 32) → rest ≡ name ++ 32 ∷ path → ⊥
no_space rest name path none is =
    let longer : length rest ≡ length name + length (32 ∷ path) = ap length is ∙ length-append name (32 ∷ path) in
    none (length name) (omega (arith, longer)) (ap (λ t. get_or t (length name) 0) is ∙ get_or-append_seam name 32 path 0)

pub returns-in_err-name-clause-only : goal.returns-in_err-name-clause-only
returns-in_err-name-clause-only c = λ _ name path is.
    let rest = c.in_ok-rest.rest.now in
    let front = c.in_ok-rest.ensures.cases in
    let told = split_parts 32 rest c.split_once.result c.split_once.ensures.cases (omega arith) in
    let parts = rw c.in_err-name.was at told in
    no_space rest name path parts (front.2 ∙ ap (λ n. drop n c.args.line.now) front.1.0 ∙ ap (drop 4) is.0)

pub returns-clause-found : goal.returns-clause-found
returns-clause-found c =
    let rest = c.in_ok-rest.rest.now in
    let front = c.in_ok-rest.ensures.cases in
    let told = split_parts 32 rest c.split_once.result c.split_once.ensures.cases (omega arith) in
    let parts = rw c.in_ok-name.was at told in (
      front.1.1 ∙ ap (λ t. add_word ++ t) (sym front.2 ∙ parts.0),
      λ k d small e. parts.1 k small (get_or_default c.in_ok-name.name.now k 0 d small ∙ e),
    )
