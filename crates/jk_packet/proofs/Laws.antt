-- The laws of packet headers that crates above cite.
use Rattle.std.proofs.Common.{◌≡◌, ℕ, ◌+◌, ◌%◌, Bool, List, [], ◌∷◌, ◌++◌, Option, refl}
use Rattle.jk_tree.specs.TagTree.{Query}
use Rattle.std.specs.List.{flat_map}
use Rattle.jk_bits.specs.Stuffing.{stuffed}
use Rattle.jk_packet.specs.declared.shape.BandShape.{BandShape}
use Rattle.jk_packet.specs.PacketText.{PacketContribution, BandLayer, given, option_list, contributions, queries_at, queries_of, eph_text, block_parts, band_parts, bands_parts}
use Rattle.jk_packet.specs.Written.{Table, sop_text, part_in, bits_in, header_in, bodies_text}
pub use Rattle.jk_packet.proofs.MarkerLaws.{zero_packs}
pub use Rattle.jk_packet.proofs.GatherLaws.{gathered, told_gathers, parts_within}
pub use Rattle.jk_packet.proofs.HeaderLaws.{sop_only}
pub use Rattle.jk_packet.proofs.LayerLaws.{layers_push}
pub use Rattle.jk_packet.proofs.QueryLaws.{contributions_push, queries_of_push}
pub use Rattle.jk_packet.proofs.TextLaws.{header_failed, header_goes}
pub use Rattle.jk_packet.proofs.PrecinctLaws.{some_bit, some_packed, header_some, Keeps, header_keeps, header_within, are_trees, Read, reached_read, StandsOn, precinct_only, tells_push, TellsLast, tells_last, precinct_found, fresh_stands, fresh_reached}
pub use Rattle.jk_packet.proofs.TableLaws.{part_skipped, part_behind, part_past, length-table, first_of, first_table, last_end, ends_wider, ends_push, table_bytes, table_size, table_passes}
pub use Rattle.jk_packet.proofs.HistoryLaws.{own_contribution, contribution_none, contribution_some, lblock_first, lblock_kept, lblock_grown, history_none, history_more, first_within}
pub use Rattle.jk_packet.proofs.WrittenLaws.{layers_more, layer_full, layer_empty, contributions_in, layer_is, bits_are, written_told, header_written}
pub use Rattle.jk_packet.proofs.PrecinctWriting.{blocks_in, length-banded, banded_at, count_more, count_within, banded_joined, joined_count, flat_banded, bits_full, bits_empty}
pub use Rattle.jk_packet.proofs.BodyLaws.{bodies_parts, bodies_lengths, bodies_joined, block_written, table_bodies, has_block, HasFront, front_written}

-- The equations of definitions that don't unfold by themselves.
pub contributions-nil : (i : ℕ) → contributions [] i ≡ []
unfolding contributions
contributions-nil i = refl

pub contributions-cons : (layer : BandLayer) (layers : List BandLayer) (i : ℕ) → contributions (layer ∷ layers) i ≡ option_list (given layer i) ++ contributions layers i
unfolding contributions
contributions-cons layer layers i = refl

pub queries_of-nil : (ask : List BandLayer → ℕ → Option PacketContribution → List Query) (before : List BandLayer) → queries_of ask before [] ≡ []
unfolding queries_of
queries_of-nil ask before = refl

pub queries_of-cons : (ask : List BandLayer → ℕ → Option PacketContribution → List Query) (before : List BandLayer) (layer : BandLayer) (layers : List BandLayer)
    → queries_of ask before (layer ∷ layers) ≡ queries_at (ask before) layer ++ queries_of ask (before ++ layer ∷ []) layers
unfolding queries_of
queries_of-cons ask before layer layers = refl

pub band_parts-nil : (number i : ℕ) → band_parts number i [] ≡ []
unfolding band_parts
band_parts-nil number i = refl

pub band_parts-cons : (number i : ℕ) (c : Option PacketContribution) (cs : List (Option PacketContribution)) → band_parts number i (c ∷ cs) ≡ block_parts number i c ++ band_parts number (i + 1) cs
unfolding band_parts
band_parts-cons number i c cs = refl

pub bands_parts-nil : (number : ℕ) → bands_parts number [] ≡ []
unfolding bands_parts
bands_parts-nil number = refl

pub bands_parts-cons : (number : ℕ) (cs : List (Option PacketContribution)) (bands : List (List (Option PacketContribution))) → bands_parts number (cs ∷ bands) ≡ band_parts number 0 cs ++ bands_parts (number + 1) bands
unfolding bands_parts
bands_parts-cons number cs bands = refl

pub header_in-is : (shapes : List BandShape) (sop eph : Bool) (tables : List (List Table)) (l number : ℕ) → header_in shapes sop eph tables l number ≡ sop_text sop (number % 65536) ++ (stuffed (bits_in shapes tables l) ++ eph_text eph)
unfolding header_in
header_in-is shapes sop eph tables l number = refl

pub bodies_text-is : (tables : List (List Table)) (l : ℕ) → bodies_text tables l ≡ flat_map (λ ts. flat_map (λ t. (part_in t l).1) ts) tables
unfolding bodies_text
bodies_text-is tables l = refl
