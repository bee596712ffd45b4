use Rattle.std.proofs.Common.{◌||◌, true, cond, sym, ap, ◌∙◌}
use Rattle.std.specs.Str.{bytes_eq}
use Rattle.std.specs.String.{string_bytes}
use Rattle.std.specs.BTreeSet.{contains_text}
use Rattle.std.proofs.lemmas.Map.Text.{btree_set_updates_text}
use Rattle.jk_store.proofs.NameLaws.{cond_or}
use Rattle.jk_store.proofs.names.add_name.Goals as goal

pub returns-in-Some-clause-ok : goal.returns-in-Some-clause-ok
returns-in-Some-clause-ok c = λ n.
    let old = contains_text c.args.names.now n in
    btree_set_updates_text (string_bytes c.in_ok-from_str.field-0) c.args.names.now c.insert.new.self true c.in_ok-insert.ensures.updates n
    ∙ ap (λ q. cond (bytes_eq q n) true old) c.in_ok-from_str.ensures.ok
    ∙ cond_or (bytes_eq c.in-Some.name.now n) old
    ∙ ap (λ b. b || old) (sym (c.in-Some.ensures n))
