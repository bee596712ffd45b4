-- Examples: what stands in the lines of `jk info --all`, lines of a list of digests, and what
-- differs of a file.
use Rattle.std.specs.Prelude.{◌≡◌, [], ◌++◌, refl}
use Rattle.std.specs.Prelude.{codes, ℕ, List, ◌∷◌, None, Some}
use Rattle.std.proofs.Common.{inl, inr}
use Rattle.std.specs.Fmt.{digits}
use Rattle.hex.specs.Hex.{encode_with, encode_lower, decode_pairs}
use Rattle.jk_boxes.specs.Boxes.{code_kind}
use Rattle.jk_commands.specs.declared.comparing.Change.TheVariants.{Changed, Missing, New}
use Rattle.jk_commands.specs.Sums.{IsSumLine, change_of}
use Rattle.jk_commands.specs.Values.{size_value, pair_value, labelled, kind_text, marker_name}

sizes_line : labelled (codes "sizes") (size_value 3 2 ++ size_value 2 1) ≡ codes "sizes: 3x2 2x1\n"
unfolding labelled digits
sizes_line = refl

no_boxes : labelled (codes "boxes") [] ≡ codes "boxes: none\n"
unfolding labelled
no_boxes = refl

signature_name : pair_value (kind_text 0x6A502020) 12 ≡ codes " jP%20%20=12"
unfolding digits
signature_name = refl

codestream_name : kind_text code_kind ≡ codes "jp2c"
codestream_name = refl

strange_name : kind_text 0xFF2F4130 ≡ codes "%FF%2FA0"
strange_name = refl

comment_name : marker_name 0xFF64 ≡ codes "COM"
comment_name = refl

foreign_name : marker_name 0xFF77 ≡ codes "FF77"
foreign_name = refl

-- SHA-256 of no byte (FIPS 180-4), and a line of a file that has it, as sha256sum writes it, and as
-- it writes it with --binary, here in capital letters.
abbrev of_nothing : List ℕ
of_nothing = 0xE3 ∷ 0xB0 ∷ 0xC4 ∷ 0x42 ∷ 0x98 ∷ 0xFC ∷ 0x1C ∷ 0x14 ∷ 0x9A ∷ 0xFB ∷ 0xF4 ∷ 0xC8 ∷ 0x99 ∷ 0x6F ∷ 0xB9
    ∷ 0x24
    ∷ 0x27 ∷ 0xAE ∷ 0x41 ∷ 0xE4 ∷ 0x64 ∷ 0x9B ∷ 0x93 ∷ 0x4C ∷ 0xA4 ∷ 0x95 ∷ 0x99 ∷ 0x1B ∷ 0x78 ∷ 0x52 ∷ 0xB8 ∷ 0x55 ∷ []

digits_of : encode_lower of_nothing ≡ codes "e3b0c44298fc1c149afbf4c8996fb92427ae41e4649b934ca495991b7852b855"
unfolding encode_with
digits_of = refl

text_line : IsSumLine (codes "e3b0c44298fc1c149afbf4c8996fb92427ae41e4649b934ca495991b7852b855  a b.jp2") of_nothing
    (codes "a b.jp2")
unfolding decode_pairs
text_line = record {
  digits = codes "e3b0c44298fc1c149afbf4c8996fb92427ae41e4649b934ca495991b7852b855";
  mark = 32;
  text = refl;
  bytes = refl;
  marked = inl refl;
}

binary_line : IsSumLine (codes "E3B0C44298FC1C149AFBF4C8996FB92427AE41E4649B934CA495991B7852B855 * a.jp2") of_nothing
    (codes " a.jp2")
unfolding decode_pairs
binary_line = record {
  digits = codes "E3B0C44298FC1C149AFBF4C8996FB92427AE41E4649B934CA495991B7852B855";
  mark = 42;
  text = refl;
  bytes = refl;
  marked = inr refl;
}

-- a digest before and now
differs : change_of (Some (1 ∷ [])) (Some (2 ∷ [])) ≡ Some Changed
differs = refl

is_gone : change_of (Some (1 ∷ [])) None ≡ Some Missing
is_gone = refl

is_new : change_of None (Some (1 ∷ [])) ≡ Some New
is_new = refl

same : change_of (Some (1 ∷ [])) (Some (1 ∷ [])) ≡ None
same = refl
