use Rattle.std.proofs.Common.{◌+◌, ◌∙◌, arith}
use Rattle.jk_tile.proofs.encoding.Forwards.{plain_is, first_is, second_is, third_is, other_is}
use Rattle.jk_tile.proofs.encoding.values.ComponentRowsRowSource.put_row.Goals as goal

pub returns-then-not-self : goal.returns-then-not-self
returns-then-not-self c k lt =
    let s = c.args.self.now in
    c.put_plain.ensures k lt ∙ plain_is s.image.now s.colours s.component (s.rect.x0 + k) c.args.y c.if-not-self.true

pub returns-in-0 : goal.returns-in-0
returns-in-0 c k lt =
    let s = c.args.self.now in
    c.put_coloured.ensures k lt ∙ first_is s.image.now s.colours s.component (s.rect.x0 + k) c.args.y c.if-not-self.false c.in-0.is

pub returns-in-1 : goal.returns-in-1
returns-in-1 c k lt =
    let s = c.args.self.now in
    c.put_coloured-in-1.ensures k lt ∙ second_is s.image.now s.colours s.component (s.rect.x0 + k) c.args.y c.if-not-self.false c.in-1.is

pub returns-in-2 : goal.returns-in-2
returns-in-2 c k lt =
    let s = c.args.self.now in
    c.put_coloured-in-2.ensures k lt ∙ third_is s.image.now s.colours s.component (s.rect.x0 + k) c.args.y c.if-not-self.false c.in-2.is

pub returns-in_default : goal.returns-in_default
returns-in_default c k lt =
    let s = c.args.self.now in
    c.put_plain-in_default.ensures k lt ∙ other_is s.image.now s.colours s.component (s.rect.x0 + k) c.args.y c.if-not-self.false (omega arith)
