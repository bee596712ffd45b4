use Rattle.std.proofs.Common.{◌≡◌, ◌++◌, map, append-nil, ap, sym, ◌∙◌}
use Rattle.std.specs.BTreeMap.{keys}
use Rattle.std.specs.String.{string_bytes}
use Rattle.jk_store.proofs.MemoryLaws.{kept_listed, listed_kept}
use Rattle.jk_store.proofs.memory.MemoryShelfShelf.list.Goals as goal

pub returns-clause-found : goal.returns-clause-found
returns-clause-found c = λ files n b kept is.
    let names = map string_bytes c.loop-name.names.items in
    let all : names ≡ map string_bytes (keys c.args.self.now.files) = sym (append-nil names) ∙ (ap (λ l. names ++ map string_bytes l) (sym c.in-None.ensures.steps.0) ∙ c.loop-name.invariant.2) in
    kept_listed (λ v. v.items) c.args.self.now.files names n b all (kept n b is)

pub returns-clause-only : goal.returns-clause-only
returns-clause-only c = λ files n kept among.
    let names = map string_bytes c.loop-name.names.items in
    let all : names ≡ map string_bytes (keys c.args.self.now.files) = sym (append-nil names) ∙ (ap (λ l. names ++ map string_bytes l) (sym c.in-None.ensures.steps.0) ∙ c.loop-name.invariant.2) in
    listed_kept (λ v. v.items) c.args.self.now.files names n files all kept among
