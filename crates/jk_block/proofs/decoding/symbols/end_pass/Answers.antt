use Rattle.std.proofs.Common.{◌≡◌, ℕ, Bool, if◌then◌else◌, true, false, List, sym, ap, ◌∙◌}
use Rattle.jk_math.specs.declared.style.Style.{Style}
use Rattle.jk_math.specs.Steps.{done}
use Rattle.jk_block.specs.Symbols.{ends_with_symbol}
use Rattle.jk_block.specs.Steps.{number_of}
use Rattle.jk_block.specs.Reading.{Progress, symbol_at, closing_at}
use Rattle.jk_block.specs.decoding.BlockStates.{progress}
use Rattle.jk_block.proofs.decoding.Taking.{takes_through}
use Rattle.jk_block.proofs.decoding.symbols.end_pass.Goals as goal

with_symbol : (bytes : List ℕ) (style : Style) (pass : ℕ) (z : Progress) → ends_with_symbol style pass ≡ true → closing_at bytes style pass z ≡ symbol_at bytes z
unfolding closing_at
with_symbol bytes style pass z e = ap (λ (b : Bool). if b then symbol_at bytes z else done z) e

without_symbol : (bytes : List ℕ) (style : Style) (pass : ℕ) (z : Progress) → ends_with_symbol style pass ≡ false → closing_at bytes style pass z ≡ done z
unfolding closing_at
without_symbol bytes style pass z e = ap (λ (b : Bool). if b then symbol_at bytes z else done z) e

pub returns-then-ends_with_symbol-clause-takes : goal.returns-then-ends_with_symbol-clause-takes
returns-then-ends_with_symbol-clause-takes c = λ d.
    let bytes = c.args.decoder.now.bytes in
    let pass = number_of c.args.pass in
    takes_through (closing_at bytes c.args.style pass) (symbol_at bytes) d d d c.args.decoder.now c.read_symbol.new.decoder c.read_symbol.result
    (λ coder. with_symbol bytes c.args.style pass (progress d coder) (sym c.ends_with_symbol.ensures ∙ c.if-ends_with_symbol.true)) (c.read_symbol.ensures.takes d)

pub returns-clause-takes : goal.returns-clause-takes
returns-clause-takes c = λ d coder st. record {
  next = coder;
  stands = st;
  is = without_symbol c.args.decoder.now.bytes c.args.style (number_of c.args.pass) (progress d coder) (sym c.ends_with_symbol.ensures ∙ c.if-ends_with_symbol.false);
}
