use Rattle.std.proofs.Common.{◌≡◌, ◌++◌, ◌∷◌, [], map, true, false, cond, ap, sym, subst, ◌∙◌, rules}
use Rattle.std.specs.List.{IsDistinct}
use Rattle.std.specs.Str.{bytes_eq}
use Rattle.std.specs.String.{string_bytes}
use Rattle.std.specs.BTreeSet.{contains_text}
use Rattle.std.proofs.lemmas.Map.Text.{btree_set_updates_text}
use Rattle.jk_commands.specs.declared.sums.Sum.{Sum}
use Rattle.jk_commands.specs.Sums.{SumFields, sum_fields, IsSumLine}
use Rattle.jk_commands.proofs.SumLaws.{no_name}
use Rattle.jk_commands.proofs.SumLists.{ReadSoFar, read_more, next_said, all_said, is_named, named_once, named_more, at_start, none_once, fields_more, some_bytes, no_byte, was_new, was_there, named_again}
use Rattle.jk_commands.proofs.sums.read_sums.Goals as goal

pub lines-init : goal.lines-init
lines-init c =
    let none = ap (λ l. map sum_fields l) c.new-sums.ensures.items in (
      search rules,
      at_start c.args.text.now (map sum_fields c.new-sums.result.items) none,
      λ n. no_name c.new-names.result n c.new-names.ensures.empty ∙ ap (λ l. is_named l n) (sym none),
      none_once (map sum_fields c.new-sums.result.items) none,
    )

pub lines-preserved : goal.lines-preserved
lines-preserved c =
    let pair = c.first_line.result in
    let old = map sum_fields c.lines.sums.items in
    let sum : Sum = record { name = c.in_ok-from_str-2.field-0; digest = c.in-Some.said.digest } in
    let s : SumFields = sum_fields sum in
    let says = subst (λ n. IsSumLine pair.0.now c.in-Some.said.digest n) (sym c.in_ok-from_str-2.ensures.ok) c.in-Some.ensures.found in
    let some = some_bytes c.lines.rest.now c.is_empty.result c.is_empty.ensures c.lines-test.true in
    let all : map sum_fields c.push.new.self.items ≡ old ++ s ∷ [] = ap (λ l. map sum_fields l) c.in_ok-push.ensures.items ∙ fields_more c.lines.sums.items sum in
    let key = c.in_ok-from_str.field-0 in
    let same : string_bytes key ≡ s.name = c.in_ok-from_str.ensures.ok ∙ sym c.in_ok-from_str-2.ensures.ok in
    let new : contains_text c.lines.names (string_bytes key) ≡ false = was_new c.in_ok-insert.field-0 (contains_text c.lines.names (string_bytes key)) c.in_ok-insert.ensures.added c.if-not-branch.false in
    let apart : is_named old s.name ≡ false = ap (λ n. is_named old n) (sym same) ∙ (sym (c.lines.invariant.2 (string_bytes key)) ∙ new) in (
      search rules,
      subst (λ l. ReadSoFar c.args.text.now pair.1.now l) (sym all) (read_more c.args.text.now c.lines.rest.now pair.0.now pair.1.now old s some c.first_line.ensures.text c.first_line.ensures.line says c.lines.invariant.1),
      λ n.
          let step = btree_set_updates_text (string_bytes key) c.lines.names c.insert.new.self true c.in_ok-insert.ensures.updates n in
          step
          ∙ (ap (λ q. cond (bytes_eq q n) true (contains_text c.lines.names n)) same
          ∙ (ap (λ b. cond (bytes_eq s.name n) true b) (c.lines.invariant.2 n)
          ∙ (sym (named_more old s n) ∙ ap (λ l. is_named l n) (sym all)))),
      subst (λ l. IsDistinct bytes_eq (map (λ (t : SumFields). t.name) l)) (sym all) (named_once old s c.lines.invariant.3 apart),
    )

pub returns-in_default-clause-only : goal.returns-in_default-clause-only
returns-in_default-clause-only c = λ sums is.
    let pair = c.first_line.result in
    let some = some_bytes c.lines.rest.now c.is_empty.result c.is_empty.ensures c.lines-test.true in
    let next = next_said c.args.text.now c.lines.rest.now pair.0.now pair.1.now (map sum_fields c.lines.sums.items) sums some c.first_line.ensures.text c.first_line.ensures.line c.lines.invariant.1 is in
    c.in_default.ensures.only next.file.digest next.file.name next.says

pub returns-then-not-branch-clause-only : goal.returns-then-not-branch-clause-only
returns-then-not-branch-clause-only c = λ sums is.
    let pair = c.first_line.result in
    let old = map sum_fields c.lines.sums.items in
    let some = some_bytes c.lines.rest.now c.is_empty.result c.is_empty.ensures c.lines-test.true in
    let next = next_said c.args.text.now c.lines.rest.now pair.0.now pair.1.now old sums some c.first_line.ensures.text c.first_line.ensures.line c.lines.invariant.1 is in
    let key = c.in_ok-from_str.field-0 in
    let there : contains_text c.lines.names (string_bytes key) ≡ true = was_there c.in_ok-insert.field-0 (contains_text c.lines.names (string_bytes key)) c.in_ok-insert.ensures.added c.if-not-branch.true in
    let again : is_named old c.in-Some.said.name.now ≡ true = ap (λ n. is_named old n) (sym c.in_ok-from_str.ensures.ok) ∙ (sym (c.lines.invariant.2 (string_bytes key)) ∙ there) in
    named_again pair.0.now old sums c.in-Some.said.digest c.in-Some.said.name.now c.in-Some.ensures.found next is.once again

pub returns-clause-only : goal.returns-clause-only
returns-clause-only c = λ sums is.
    let none = no_byte c.lines.rest.now (sym c.is_empty.ensures ∙ c.lines-test.false) in
    all_said c.args.text.now c.lines.rest.now (map sum_fields c.lines.sums.items) sums none c.lines.invariant.1 is
