use Rattle.std.proofs.Common.{◌≡◌, ◌≤◌, false, length, Option, Some, None, sym, ap, ◌∙◌, subst}
use Rattle.std.specs.Prelude.{is_some}
use Rattle.jk_math.specs.declared.fault.Fault.{Fault}
use Rattle.jk_bits.specs.Stuffing.{spread}
use Rattle.jk_bits.specs.Reading.{Bits, IsReading, finish_at}
use Rattle.jk_bits.proofs.Finishing.{seen, finish_failed, finish_whole, read_within, found_at, only_at}
use Rattle.jk_bits.proofs.reader.BitReader.finish.Goals as goal

pub returns-in-Some-clause-exact : goal.returns-in-Some-clause-exact
returns-in-Some-clause-exact c =
    let s = c.self.inside in
    let i : IsReading s.bytes.now s.position s.byte s.left (Some c.in-Some.fault) = subst (λ (f : Option Fault). IsReading s.bytes.now s.position s.byte s.left f) c.in-Some.is c.self.invariant in
    sym (finish_failed s.bytes.now s.position s.byte s.left c.in-Some.fault i)
    ∙ ap (λ (f : Option Fault). finish_at (seen s.bytes.now s.position s.byte s.left f)) (sym c.in-Some.is)
    ∙ ap finish_at c.self.view_is

-- what end_of answers is what is due
exact_end : (c : goal.After-end_of) → c.end_of.result ≡ finish_at c.args.self
exact_end c =
    let s = c.self.inside in
    let i : IsReading s.bytes.now s.position s.byte s.left None = subst (λ (f : Option Fault). IsReading s.bytes.now s.position s.byte s.left f) c.in-None.is c.self.invariant in
    c.end_of.ensures
    ∙ sym (finish_whole s.bytes.now s.position s.byte s.left i)
    ∙ ap (λ (f : Option Fault). finish_at (seen s.bytes.now s.position s.byte s.left f)) (sym c.in-None.is)
    ∙ ap finish_at c.self.view_is

within_end : (c : goal.After-end_of) → c.args.self.read ≤ length (spread false c.args.self.bytes)
within_end c =
    let s = c.self.inside in
    subst (λ (b : Bits). b.read ≤ length (spread false b.bytes)) c.self.view_is (read_within s.bytes.now s.position s.byte s.left)

pub returns-in-None-clause-exact : goal.returns-in-None-clause-exact
returns-in-None-clause-exact c = exact_end c

pub returns-in-None-clause-found : goal.returns-in-None-clause-found
returns-in-None-clause-found c =
    found_at c.args.self c.end_of.result (sym (ap (λ (b : Bits). b.failed) c.self.view_is) ∙ ap is_some c.in-None.is) (within_end c) (exact_end c)

pub returns-in-None-clause-only : goal.returns-in-None-clause-only
returns-in-None-clause-only c = λ whole n fits p. exact_end c ∙ only_at c.args.self n whole (within_end c) fits p
