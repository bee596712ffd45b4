use Rattle.std.proofs.Common.{refl}
use Rattle.jk_mqdec.proofs.Feeding.{feeds-plain, feeds-stuffed, feeds-end}
use Rattle.jk_mqdec.proofs.registers.fed.Goals as goal

pub returns-then-byte-ne255-clause-feeds : goal.returns-then-byte-ne255-clause-feeds
returns-then-byte-ne255-clause-feeds c =
    feeds-plain _ _ _ _ _ c.byte.ensures.value c.byte-next.ensures.value c.byte-next.ensures.byte c.if-byte-ne255.true refl refl refl refl

pub returns-then-next-le143-clause-feeds : goal.returns-then-next-le143-clause-feeds
returns-then-next-le143-clause-feeds c =
    feeds-stuffed _ _ _ _ _ c.byte.ensures.value c.byte-next.ensures.value c.if-byte-ne255.false c.if-next-le143.true refl refl refl refl

pub returns-else-next-le143-clause-feeds : goal.returns-else-next-le143-clause-feeds
returns-else-next-le143-clause-feeds c =
    feeds-end _ _ _ _ _ c.byte.ensures.value c.byte-next.ensures.value c.if-byte-ne255.false c.if-next-le143.false refl refl refl refl
