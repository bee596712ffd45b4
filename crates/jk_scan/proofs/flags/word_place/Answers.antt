use Rattle.std.proofs.Common.{◌+◌, ◌*◌, ap, subst, sym, ◌<◌}
use Rattle.jk_scan.specs.Flags.{word_at, words_shown}
use Rattle.jk_scan.proofs.Geometry.{word_fits, word_within}
use Rattle.jk_scan.proofs.flags.word_place.Goals as goal

pub returns-clause-place : goal.returns-clause-place
unfolding word_at
returns-clause-place c = ap (λ n. c.args.stripe * (n + 2) + c.args.word) c.words_across.ensures

pub returns-clause-fits : goal.returns-clause-fits
returns-clause-fits c = subst (λ n. n < 774) (sym (returns-clause-place c)) (word_fits c.args.shape c.args.word c.args.stripe c.requires.sized c.requires.word c.requires.stripe)

pub returns-clause-within : goal.returns-clause-within
returns-clause-within c = subst (λ n. n < words_shown c.args.shape) (sym (returns-clause-place c)) (word_within c.args.shape c.args.word c.args.stripe c.requires.word c.requires.stripe)
