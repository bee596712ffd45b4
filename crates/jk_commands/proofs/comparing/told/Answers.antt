use Rattle.std.proofs.Common.{◌∷◌, ◌++◌, [], List, ℕ, Option, map, ap, sym, ◌∙◌, append_assoc}
use Rattle.std.specs.List.{cons_option}
use Rattle.std.specs.BTreeMap.{get_by_text}
use Rattle.std.specs.BTreeSet.{keys}
use Rattle.std.specs.String.{string_bytes}
use Rattle.jk_commands.specs.declared.comparing.Change.{Change}
use Rattle.jk_commands.specs.Sums.{change_of, told_of}
use Rattle.jk_commands.proofs.SumLaws.{sorted_bytes, told_more}
use Rattle.jk_commands.proofs.comparing.told.Goals as goal

pub returns-in_err-add_change-clause-ordered : goal.returns-in_err-add_change-clause-ordered
returns-in_err-add_change-clause-ordered c = sorted_bytes (keys c.args.names.now) c.iter-name-items.ensures.ordered

pub returns-clause-ordered : goal.returns-clause-ordered
returns-clause-ordered c = sorted_bytes (keys c.args.names.now) c.iter-name-items.ensures.ordered

pub loop-name-preserved : goal.loop-name-preserved
loop-name-preserved c =
    let before = c.loop-name.invariant.2 in
    let n = c.as_str.result.now in
    let rest = map string_bytes c.next.new.self in
    let split = before.1 ∙ (ap (λ l. before.0 ++ map string_bytes l) c.in-Some.ensures.steps
    ∙ (ap (λ m. before.0 ++ m ∷ rest) (sym c.as_str.ensures.value) ∙ sym (append_assoc before.0 (n ∷ []) rest))) in
    let f : List ℕ → Option Change = λ m. change_of (get_by_text c.args.earlier.now m) (get_by_text c.args.present.now m) in
    let all = c.in_ok-add_change.ensures.told ∙ (ap (λ l. l ++ cons_option (told_of f n) []) before.2 ∙ sym (told_more f before.0 n)) in
    (tt, tt, (before.0 ++ n ∷ [], split, all))
