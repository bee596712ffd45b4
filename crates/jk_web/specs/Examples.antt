-- Examples: targets and queries of requests, and the replies of a server of one image.
use Rattle.std.specs.Prelude.{◌≡◌, ℕ, true, false, List, [], ◌∷◌, ◌++◌, map, codes, Option, None, Some, refl, ◌==◌}
use Rattle.std.specs.Prelude.{if◌then◌else◌}
use Rattle.std.specs.List.{flat_map}
use Rattle.std.specs.Fmt.{digits}
use lib.Utf8.{encode}
use Rattle.std.specs.Str.{chars, is_utf8}
use Rattle.std.specs.Str.Lossy.{utf8_lossy, utf8_valid_len}
use Rattle.form_urlencoded.specs.Form.{split, raw_pairs}
use Rattle.form_urlencoded.specs.Percent.{percent_decode}
use Rattle.jk_window.specs.declared.view.View.{View}
use Rattle.jk_web.specs.declared.request.Request.{Request}
use Rattle.jk_web.specs.Fields.{announces_body, asks_close}
use Rattle.jk_web.specs.Images.{Image, sent, window_content, content, answer, failed}
use Rattle.jk_web.specs.Queries.{is_number, number_of, pairs_of, asked_by}
use Rattle.jk_web.specs.Replies.{phrase_of, head_text, bad_reply}
use Rattle.jk_web.specs.Resources.{path_of, query_of, listing, whole, window, nowhere, resource_at}

-- ---- fields

-- which fields say that a body may follow
announced : map announces_body
    ((codes "Transfer-Encoding", codes "identity") ∷ (codes "CONTENT-LENGTH", codes "1")
    ∷ (codes "content-length", codes "00") ∷ [])
    ≡ true ∷ true ∷ true ∷ []
announced = refl

bodiless : map announces_body ((codes "Content-Length", codes "0") ∷ (codes "content-type", codes "1") ∷ [])
    ≡ false ∷ false ∷ []
bodiless = refl

closing : map asks_close
    ((codes "connection", codes "Close") ∷ (codes "Connection", codes "keep-alive")
    ∷ (codes "closing", codes "close") ∷ [])
    ≡ true ∷ false ∷ false ∷ []
closing = refl

-- ---- targets

-- the path ends at the first question mark
path : path_of (codes "/images?x=1?y=2") ≡ codes "/images"
path = refl

query : map query_of (codes "/images?x=1?y=2" ∷ codes "/images?" ∷ codes "/images" ∷ [])
    ≡ codes "x=1?y=2" ∷ [] ∷ [] ∷ []
query = refl

-- what paths name where the images a and b have these names
abbrev names : List (List ℕ)
names = codes "a" ∷ codes "b" ∷ []

named : map (λ p. resource_at (codes p) names) ("/images" ∷ "/images/b" ∷ "/images/a/window" ∷ [])
    ≡ listing ∷ whole (codes "b") ∷ window (codes "a") ∷ []
unfolding resource_at
named = refl

not_named : map (λ p. resource_at (codes p) names) ("/images/" ∷ "/images/c" ∷ "/images/a/" ∷ "/images/ab/window"
    ∷ "/" ∷ [])
    ≡ nowhere ∷ nowhere ∷ nowhere ∷ nowhere ∷ nowhere ∷ []
unfolding resource_at
not_named = refl

-- ---- queries

-- one to ten digits that write a number below 2^32
numbers : map number_of (codes "0" ∷ codes "0000000012" ∷ codes "4294967295" ∷ [])
    ≡ Some 0 ∷ Some 12 ∷ Some 4294967295 ∷ []
unfolding is_number number_of
numbers = refl

no_numbers : map number_of ([] ∷ codes "+1" ∷ codes "1 " ∷ codes "0x1" ∷ codes "4294967296" ∷ codes "00000000012" ∷ [])
    ≡ None ∷ None ∷ None ∷ None ∷ None ∷ None ∷ []
unfolding is_number number_of
no_numbers = refl

abbrev asked : (reduce x y width height : ℕ) → Option ℕ → View
asked reduce x y width height layers =
    record { reduce = reduce; x = x; y = y; width = width; height = height; layers = layers }

-- Names and values may come in any order. The reduction is 0 and all layers are asked for where
-- nothing is said of them.
abbrev sides : List (List ℕ × List ℕ)
sides = (codes "h", codes "96") ∷ (codes "w", codes "95") ∷ (codes "y", codes "112") ∷ (codes "x", codes "24") ∷ []

of_sides : asked_by sides ≡ Some (asked 0 24 112 95 96 None)
unfolding is_number number_of
of_sides = refl

of_all : asked_by ((codes "layers", codes "6") ∷ (codes "r", codes "5") ∷ sides) ≡ Some (asked 5 24 112 95 96 (Some 6))
unfolding is_number number_of
of_all = refl

-- a side is missing; a name stands twice; a name is unknown; a value is no number
refused_queries : map asked_by (((codes "y", codes "112") ∷ (codes "x", codes "24") ∷ (codes "w", codes "95") ∷ [])
    ∷ ((codes "x", codes "24") ∷ sides) ∷ ((codes "X", codes "1") ∷ sides) ∷ ((codes "r", codes "-1") ∷ sides)
    ∷ ((codes "r", []) ∷ sides) ∷ [] ∷ [])
    ≡ None ∷ None ∷ None ∷ None ∷ None ∷ None ∷ []
unfolding is_number number_of
refused_queries = refl

-- Names and values are decoded first: %79 is y, and %31 is 1.
decoded_query : asked_by (pairs_of (codes "h=96&w=95&%79=1%312&x=24")) ≡ Some (asked 0 24 112 95 96 None)
unfolding split raw_pairs percent_decode encode chars is_utf8 utf8_valid_len utf8_lossy is_number number_of
decoded_query = refl

-- a query without a pair, as of a target that ends with a question mark
no_pair : pairs_of [] ≡ []
unfolding split raw_pairs
no_pair = refl

-- ---- replies

-- the image a, of one sample, whose file stands for three bytes; it has windows one sample wide
abbrev image : Image
image = record {
  name = codes "a";
  line = codes "a 1 1 1 8 0\n";
  file = 1 ∷ 2 ∷ 3 ∷ [];
  cut = λ w. if w.width == 1 then Some (4 ∷ []) else None;
}

abbrev to : (method target : List ℕ) → Request
to method target = record { method = method; target = target; closes = false }

-- lines of a head, each with its end, and an empty one behind them
abbrev head : List (List ℕ) → List ℕ
head lines = flat_map (λ line. line ++ 13 ∷ 10 ∷ []) lines ++ 13 ∷ 10 ∷ []

the_list : answer (to (codes "GET") (codes "/images")) (image ∷ []) ≡ record {
  status = 200;
  close = false;
  bytes = head (codes "HTTP/1.1 200 OK" ∷ codes "Content-Type: text/plain" ∷ codes "Content-Length: 12" ∷ [])
      ++ codes "a 1 1 1 8 0\n";
}
unfolding resource_at split raw_pairs content head_text phrase_of digits
the_list = refl

the_file : answer (record { method = codes "GET"; target = codes "/images/a"; closes = true }) (image ∷ [])
    ≡ record {
      status = 200;
      close = true;
      bytes = head (codes "HTTP/1.1 200 OK" ∷ codes "Content-Type: image/jp2" ∷ codes "Content-Length: 3"
          ∷ codes "Connection: close" ∷ [])
          ++ 1 ∷ 2 ∷ 3 ∷ [];
    }
unfolding resource_at split raw_pairs content head_text phrase_of digits
the_file = refl

-- Another method is refused first, whatever the path.
other_method : answer (to (codes "HEAD") (codes "/b")) (image ∷ []) ≡ record {
  status = 405;
  close = false;
  bytes = head (codes "HTTP/1.1 405 Method Not Allowed" ∷ codes "Allow: GET" ∷ codes "Content-Type: text/plain"
      ∷ codes "Content-Length: 23" ∷ [])
      ++ codes "405 Method Not Allowed\n";
}
unfolding resource_at split raw_pairs content head_text phrase_of digits
other_method = refl

-- then a path that names nothing, and then a query that asks for no window
statuses : map (λ target. (content (to (codes "GET") (codes target)) (image ∷ [])).status)
    ("/images/b" ∷ "/images/b/window?x=0" ∷ "/images?x=1" ∷ "/images/a?x=1" ∷ "/images/a/window" ∷ "/images/a?" ∷ [])
    ≡ 404 ∷ 404 ∷ 400 ∷ 400 ∷ 400 ∷ 200 ∷ []
unfolding resource_at split raw_pairs is_number number_of content phrase_of digits
statuses = refl

-- a window that the image has, and one that it hasn't
windows : window_content (Some image) (asked_by ((codes "x", codes "0") ∷ (codes "y", codes "0")
    ∷ (codes "w", codes "1")
    ∷ (codes "h", codes "1") ∷ [])) ≡ sent (4 ∷ [])
unfolding is_number number_of
windows = refl

no_window : (window_content (Some image) (Some (asked 0 0 0 2 1 None))).status ≡ 400
unfolding is_number number_of phrase_of digits
no_window = refl

-- what is replied where a file couldn't be read, and to a bad request, behind which the connection
-- closes
unread : failed false ≡ record {
  status = 500;
  close = false;
  bytes = head (codes "HTTP/1.1 500 Internal Server Error" ∷ codes "Content-Type: text/plain"
      ∷ codes "Content-Length: 26" ∷ [])
      ++ codes "500 Internal Server Error\n";
}
unfolding head_text phrase_of digits
unread = refl

bad_request : bad_reply 400 ≡ record {
  status = 400;
  close = true;
  bytes = head (codes "HTTP/1.1 400 Bad Request" ∷ codes "Content-Type: text/plain" ∷ codes "Content-Length: 16"
      ∷ codes "Connection: close" ∷ [])
      ++ codes "400 Bad Request\n";
}
unfolding head_text phrase_of digits
bad_request = refl
