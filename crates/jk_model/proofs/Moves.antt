-- The move of a context, from the row of its state.
use Rattle.std.proofs.Common.{◌≡◌, ◌∙◌, ap, sym, Bool, true, false, not, cond}
use Rattle.std.specs.Bool.{beq}
use Rattle.jk_model.specs.declared.table.Row.{Row}
use Rattle.jk_model.specs.Contexts.{Context, row_of, moved}

abbrev pub up : Row → Bool → Context
up row mps = record { state = row.next_mps; mps = mps }

abbrev pub down : Row → Bool → Context
down row mps = record { state = row.next_lps; mps = cond row.switch (not mps) mps }

pub moved-mps : (cx : Context) (bit mps : Bool) (row : Row) → row ≡ row_of cx.state → mps ≡ cx.mps → beq bit mps ≡ true → up row mps ≡ moved cx bit
unfolding moved
moved-mps cx bit mps row r m h =
    ap (λ (x : Row). up x mps) r ∙ ap (λ (x : Bool). up (row_of cx.state) x) m ∙ sym (ap (λ (x : Bool). cond x (up (row_of cx.state) cx.mps) (down (row_of cx.state) cx.mps)) (ap (λ (x : Bool). beq bit x) (sym m) ∙ h))

pub moved-lps : (cx : Context) (bit mps : Bool) (row : Row) → row ≡ row_of cx.state → mps ≡ cx.mps → beq bit mps ≡ false → down row mps ≡ moved cx bit
unfolding moved
moved-lps cx bit mps row r m h =
    ap (λ (x : Row). down x mps) r ∙ ap (λ (x : Bool). down (row_of cx.state) x) m ∙ sym (ap (λ (x : Bool). cond x (up (row_of cx.state) cx.mps) (down (row_of cx.state) cx.mps)) (ap (λ (x : Bool). beq bit x) (sym m) ∙ h))
