use Rattle.std.proofs.Common.{◌≡◌, ◌-◌, length}
use Rattle.jk_params.specs.CodingReading.{codings_at, codings_from}
use Rattle.jk_params.proofs.coding.codings.Given as goal

-- the components that are left follow those that are done
abbrev pub invariant-loop-component : goal.invariant-loop-component
invariant-loop-component l =
    (codings_at l.main l.head ≡ codings_from l.main l.head (l.main.siz.components - l.component) l.component l.codings) × (length l.codings ≡ l.component)
