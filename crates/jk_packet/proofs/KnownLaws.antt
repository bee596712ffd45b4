-- Blocks that a packet has something of are known in the tree of inclusion; blocks that a node over them leaves out
-- are passed over.
use Rattle.std.proofs.Common.{◌≡◌, ℕ, zero, suc, ◌+◌, ◌-◌, ◌<◌, ◌≤◌, true, false, List, length, set, Ok, refl, sym, ap, ◌∙◌, subst, inl, inr, arith}
use Rattle.std.proofs.lemmas.Bool.{cases_Bool, cases_eq}
use Rattle.std.proofs.lemmas.List.{get_or-set_other}
use Rattle.jk_bits.specs.Reading.{Bits}
use Rattle.jk_tree.specs.TagTree.{Shape, query_of}
use Rattle.jk_tree.specs.declared.node.Node.{Node}
use Rattle.jk_tree.specs.Asking.{TagTreeRead, IsKnown, ask_at}
use Rattle.jk_packet.specs.declared.block.Block.{Block}
use Rattle.jk_packet.specs.declared.header.BlockContribution.{BlockContribution}
use Rattle.jk_packet.specs.Reading.{BandState, BandWalk, block_in, block_at, blocks_at}
use Rattle.jk_packet.proofs.ReadLaws.{included_ask}
use Rattle.jk_packet.proofs.BandLaws.{block_left, blocks_next}

-- the first n blocks, as far as packets have something of them, are known
abbrev pub AreKnown : Shape → List Node → ℕ → List Block → Type 0
AreKnown s nodes n blocks = (j : ℕ) → j < n → (block_in blocks j).included ≡ true → IsKnown s nodes j

pub known_still : (s : Shape) (old new : TagTreeRead) (n : ℕ) (blocks : List Block) → old.shape ≡ s → new.shape ≡ s → ((j : ℕ) → IsKnown old.shape old.nodes j → IsKnown new.shape new.nodes j)
    → AreKnown s old.nodes n blocks → AreKnown s new.nodes n blocks
known_still s old new n blocks was is still known j less included =
    subst (λ (x : Shape). IsKnown x new.nodes j) is (still j (subst (λ (x : Shape). IsKnown x old.nodes j) (sym was) (known j less included)))

pub known_set : (s : Shape) (nodes : List Node) (n i : ℕ) (blocks : List Block) (b : Block) → i < length blocks → AreKnown s nodes n blocks → IsKnown s nodes i → AreKnown s nodes n (set blocks i b)
known_set s nodes n i blocks b within known own j less included =
    elim (cases_eq j i) [
      | inl same ↦ subst (λ k. IsKnown s nodes k) (sym same) own
      | inr apart ↦ known j less (sym (ap (λ (x : Block). x.included) (get_or-set_other blocks i j b _ apart)) ∙ included)
    ]

-- a block that was read is known
pub known_read : (s : Shape) (old new : TagTreeRead) (n i : ℕ) (blocks : List Block) (x : Block) → old.shape ≡ s → new.shape ≡ s → ((j : ℕ) → IsKnown old.shape old.nodes j → IsKnown new.shape new.nodes j)
    → AreKnown s old.nodes n blocks → i < n → x ≡ block_in blocks i → (x.included ≡ false → IsKnown new.shape new.nodes i) → IsKnown s new.nodes i
known_read s old new n i blocks x was is still known less e first =
    elim (cases_Bool x.included) [
      | inl yes_included ↦ known_still s old new n blocks was is still known i less (ap (λ (b : Block). b.included) (sym e) ∙ yes_included)
      | inr no_included ↦ subst (λ (y : Shape). IsKnown y new.nodes i) is (first no_included)
    ]

-- A block that the tree leaves out says nothing.
pub silent_block : (number layer j n : ℕ) (b : BandState) (bits : Bits) (parts : List BlockContribution) → AreKnown b.shape b.inclusion.nodes n b.blocks → j < n
    → ((r : Bits) → ask_at (query_of j (layer + 1)) (b.inclusion, r) ≡ Ok (false, (b.inclusion, r))) → (IsKnown b.shape b.inclusion.nodes j → ⊥)
    → block_at number layer j record { band = b; bits = bits; parts = parts } ≡ Ok record { band = b; bits = bits; parts = parts }
silent_block number layer j n b bits parts known less silent unknown =
    elim (cases_Bool (block_in b.blocks j).included) [
      | inl yes_included ↦ absurd (unknown (known j less yes_included))
      | inr no_included ↦
          block_left number layer j record { band = b; bits = bits; parts = parts } (false, (b.inclusion, bits))
          (included_ask layer j (block_in b.blocks j) (b.inclusion, bits) no_included ∙ silent bits) refl
    ]

-- Blocks that say nothing are passed over.
pub blocks_past : (number layer more from n : ℕ) (w : BandWalk) → ((j : ℕ) → from ≤ j → j < from + n → block_at number layer j w ≡ Ok w)
    → blocks_at number layer (n + more) from w ≡ blocks_at number layer more (from + n) w
blocks_past number layer more from zero w silent =
    ap (λ k. blocks_at number layer k from w) (let e : 0 + more ≡ more = omega arith in e) ∙ ap (λ k. blocks_at number layer more k w) (let e : from ≡ from + 0 = omega arith in e)
blocks_past number layer more from (suc n) w silent =
    ap (λ k. blocks_at number layer k from w) (let e : suc n + more ≡ suc (n + more) = omega arith in e)
    ∙ blocks_next number layer (n + more) from w w (silent from (omega arith) (omega arith))
    ∙ blocks_past number layer more (from + 1) n w (λ j least less. silent j (omega (arith, least)) (omega (arith, less)))
    ∙ ap (λ k. blocks_at number layer more k w) (let e : from + 1 + n ≡ from + suc n = omega arith in e)

pub blocks_skipped : (number layer from to end : ℕ) (w : BandWalk) → from ≤ to → to ≤ end → ((j : ℕ) → from ≤ j → j < to → block_at number layer j w ≡ Ok w)
    → blocks_at number layer (end - from) from w ≡ blocks_at number layer (end - to) to w
blocks_skipped number layer from to end w up within silent =
    ap (λ k. blocks_at number layer k from w) (let e : end - from ≡ to - from + (end - to) = omega (arith, up, within) in e)
    ∙ blocks_past number layer (end - to) from (to - from) w (λ j least less. silent j least (omega (arith, less, up)))
    ∙ ap (λ k. blocks_at number layer (end - to) k w) (let e : from + (to - from) ≡ to = omega (arith, up) in e)
