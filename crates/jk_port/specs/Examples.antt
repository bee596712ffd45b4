-- Examples: lines of the log.
use Rattle.std.specs.Prelude.{◌≡◌, codes, refl}
use Rattle.std.specs.Fmt.{digits}
use Rattle.jk_port.specs.Records.{record_text}

-- a request, its status, how many bytes were sent, and in how many microseconds
logged : record_text (codes "GET /images") 200 135 40 ≡ codes "GET /images 200 135 40"
unfolding digits
logged = refl

nothing_sent : record_text (codes "GET /images/a") 404 0 1000000 ≡ codes "GET /images/a 404 0 1000000"
unfolding digits
nothing_sent = refl
