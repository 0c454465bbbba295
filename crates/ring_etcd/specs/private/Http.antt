-- The bytes of a request to the gateway.
use Rattle.std.specs.Prelude.{ℕ, List, ◌++◌, codes, length}
use Rattle.http1.specs.Text.{numeral}

-- a request with this path and body, whose length is in decimal digits
abbrev pub request_text : List ℕ → List ℕ → List ℕ
request_text path body =
    codes "POST " ++ (path ++ (codes " HTTP/1.1\r\nhost: etcd\r\ncontent-type: application/json\r\n"
    ++ (codes "content-length: " ++ (numeral 10 (length body) ++ (codes "\r\n\r\n" ++ body)))))
