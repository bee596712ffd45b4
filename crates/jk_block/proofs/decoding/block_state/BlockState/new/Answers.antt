use Rattle.std.proofs.Common.{ℕ, false, ap, sym, subst, ◌*◌, ◌∙◌, List, Bool, length}
use Rattle.std.proofs.lemmas.List.{length-replicate}
use Rattle.jk_model.specs.Decisions.{initial}
use Rattle.jk_scan.specs.Neighbours.{Field}
use Rattle.jk_scan.specs.Flags.{IsDrawn}
use Rattle.jk_scan.proofs.Laws.{drawn_none}
use Rattle.jk_block.specs.Fields.{significant_of, flagged, words_of, magnitude_of}
use Rattle.jk_block.proofs.Drawing.{progress_same, magnitude_none, flagged_none, dark}
use Rattle.jk_block.proofs.decoding.block_state.BlockState.new.Goals as goal

pub returns-clause-blank : goal.returns-clause-blank
returns-clause-blank c =
    let s = c.args.shape in
    let n = c.args.planes in
    let negative = c.args.negative.now in
    let visited = c.args.visited.now in
    progress_same (magnitude_of s n c.args.bits.items) (λ _ _. 0) (flagged s negative) (λ _ _. false) (flagged s visited) (λ _ _. false) initial
    (ap (magnitude_of s n) c.requires.bits ∙ magnitude_none s n (n * words_of s))
    (ap (flagged s) c.requires.negative.1 ∙ flagged_none s (length negative))
    (ap (flagged s) c.requires.visited.1 ∙ flagged_none s (length visited))

pub invariant_of-result : goal.invariant_of-result
invariant_of-result c =
    let s = c.args.shape in
    let n = c.args.planes in
    let ms = magnitude_of s n c.args.bits.items in
    let significant = c.args.significant.now in
    let negative = c.args.negative.now in
    record {
      sized = c.requires.sized;
      significant_room = c.requires.significant.0;
      negative_room = c.requires.negative.0;
      visited_room = c.requires.visited.0;
      few = c.requires.few;
      room = ap (λ (ws : List ℕ). length ws) c.requires.bits ∙ length-replicate (n * words_of s) 0;
      known_significant = subst (λ (ws : List ℕ). IsDrawn s (significant_of s ms) ws) (sym c.requires.significant.1)
          (drawn_none s (significant_of s ms) (length significant) (λ x y. dark s ms x y (ap (magnitude_of s n) c.requires.bits ∙ magnitude_none s n (n * words_of s))));
      signs = let none = ap (flagged s) c.requires.negative.1 ∙ flagged_none s (length negative) in
          subst (λ (ws : List ℕ). IsDrawn s (flagged s negative) ws) (sym c.requires.negative.1) (drawn_none s (flagged s negative) (length negative) (λ x y. ap (λ (f : Field Bool). f x y) none));
    }
