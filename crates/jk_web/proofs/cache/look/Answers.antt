use Rattle.std.proofs.Common.{rules, ◌≡◌, Some, None, sym, subst}
use Rattle.std.specs.Map.{lookup}
use Rattle.jk_web.specs.Cuts.{Has}
use Rattle.jk_web.specs.Keys.{asked_of, kept_in}
use Rattle.jk_web.proofs.CacheLaws.{found_cut, never_kept, kept_promoted, same_key}
use Rattle.jk_web.proofs.cache.look.Goals as goal

pub returns-clause-found : goal.returns-clause-found
returns-clause-found c =
    let there : lookup (same_key c.args.key.now) c.args.cuts.now.entries ≡ Some c.in-Some.found.now = search rules in
    subst (Has (kept_in c.args.cuts.now.entries) c.args.key.now.name.items (asked_of c.args.key.now)) (sym c.in_ok-copy.ensures)
    (found_cut c.args.key.now c.args.cuts.now.entries c.in-Some.found.now there)

pub returns-clause-kept : goal.returns-clause-kept
returns-clause-kept c = rw c.promote.ensures.entries (kept_promoted _ _)

pub returns-in_default-clause-none : goal.returns-in_default-clause-none
returns-in_default-clause-none c =
    let gone : lookup (same_key c.args.key.now) c.args.cuts.now.entries ≡ None = search rules in
    never_kept c.args.key.now c.args.cuts.now.entries gone
