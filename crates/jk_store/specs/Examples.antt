-- Examples: names of images, the parts of a file, and the files of a shelf.
use Rattle.std.specs.Prelude.{◌≡◌, ℕ, true, false, List, [], ◌∷◌, map, replicate, codes, None, Some, refl, Err}
use Rattle.std.specs.Fmt.{digits}
use Rattle.std.specs.String.{string_bytes}
use Rattle.jk_math.specs.declared.fault.Fault.TheVariants.{BadName}
use Rattle.jk_math.specs.Picture.{Picture}
use Rattle.jk_math.specs.Styles.{plain_style}
use Rattle.jk_marks.specs.Codestream.{no_coding}
use Rattle.jk_params.specs.declared.parameters.Parameters.{Parameters}
use Rattle.jk_params.specs.Headers.{TileFields, Headers}
use Rattle.jk_params.specs.Levels.{least_in, least_levels}
use Rattle.jk_store.specs.Adding.{judged}
use Rattle.jk_store.specs.Files.{Files, with_file, without}
use Rattle.jk_store.specs.Names.{is_good_name, file_name, temporary_name, is_image}
use Rattle.jk_store.specs.Parts.{part_count, part_length}
use Rattle.jk_store.specs.Showing.{line_of}
use Rattle.jk_store.specs.declared.entry.Entry.{Entry}

-- 1 to 64 letters, digits, hyphens and underscores
names : map is_good_name (codes "a" ∷ codes "scan-2_z9" ∷ replicate 64 97 ∷ []) ≡ true ∷ true ∷ true ∷ []
names = refl

no_names : map is_good_name ([] ∷ replicate 65 97 ∷ codes "A" ∷ codes "a.b" ∷ codes "a/b" ∷ codes "`" ∷ codes "{" ∷ [])
    ≡ false ∷ false ∷ false ∷ false ∷ false ∷ false ∷ false ∷ []
no_names = refl

-- the image is judged last
bad_name : (p : Picture) (q : Parameters) → judged [] (codes "A") p q ≡ Err BadName
unfolding judged
bad_name p q = refl

-- Of the files of a folder these are images, each without its ending.
abbrev listed : List (List ℕ)
listed = codes "a.jp2" ∷ codes "b.tmp" ∷ codes "C.jp2" ∷ codes "d.jp2.jp2" ∷ codes ".jp2" ∷ []

images : map (λ name. is_image name listed) (codes "a" ∷ codes "b" ∷ codes "C" ∷ codes "d.jp2" ∷ [] ∷ [])
    ≡ true ∷ false ∷ false ∷ false ∷ false ∷ []
images = refl

files_of_names : file_name (codes "a") ∷ temporary_name (codes "a") ∷ [] ≡ codes "a.jp2" ∷ codes "a.tmp" ∷ []
files_of_names = refl

-- A shelf with one file, another file in its place, and without it.
abbrev one : Files
one = with_file (codes "a.jp2") (1 ∷ 2 ∷ []) (λ n. None)

there : one (codes "a.jp2") ≡ Some (1 ∷ 2 ∷ [])
there = refl

not_there : one (codes "a.jp") ≡ None
not_there = refl

instead : with_file (codes "a.jp2") (3 ∷ []) one (codes "a.jp2") ≡ Some (3 ∷ [])
instead = refl

beside : with_file (codes "b.jp2") (3 ∷ []) one (codes "a.jp2") ≡ Some (1 ∷ 2 ∷ [])
beside = refl

gone : without (codes "a.jp2") one (codes "a.jp2") ≡ None
gone = refl

-- Files of no byte, of one, of 2^14 and of one more: the last part has what is left.
counts : map part_count (0 ∷ 1 ∷ 16384 ∷ 16385 ∷ []) ≡ 0 ∷ 1 ∷ 1 ∷ 2 ∷ []
counts = refl

lengths : part_length 16385 0 ∷ part_length 16385 1 ∷ part_length 16384 0 ∷ part_length 1 0 ∷ []
    ≡ 16384 ∷ 1 ∷ 16384 ∷ 1 ∷ []
lengths = refl

-- The line of an image of 17 by 13 at (3, 5), whose tiles can be halved twice and once.
abbrev tile : (levels : ℕ) → TileFields
tile levels = record {
  cod = no_coding;
  codings = record {
    levels = levels;
    xcb = 6;
    ycb = 6;
    precincts = [];
    style = plain_style;
    guard = 2;
    exponents = [];
  } ∷ [];
  data_places = [];
}

abbrev headers : Headers
headers = record {
  siz = record {
    rsiz = 0;
    x1 = 20;
    y1 = 18;
    x0 = 3;
    y0 = 5;
    tile_width = 10;
    tile_height = 18;
    tile_x0 = 0;
    tile_y0 = 0;
    components = 1;
    depth = 8;
    signed = false;
  };
  tiles = tile 2 ∷ tile 1 ∷ [];
}

line : (e : Entry) → string_bytes e.name ≡ codes "scan" → e.index.headers ≡ headers → line_of e
    ≡ codes "scan 17 13 1 8 1\n"
unfolding digits least_in least_levels
line e named has = rw (named, has) refl
