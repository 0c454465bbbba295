-- What a request asks for, by its host, its method and its path.
use Rattle.std.specs.Prelude.{◌≡◌, ◌==◌, ◌||◌, ℕ, Bool, true, false, not, List, ◌++◌, Option, None, Some, codes, take}
use Rattle.std.specs.List.{prefix_len}
use Rattle.std.specs.Str.{bytes_eq, str_eq_ignore_ascii_case}
use Rattle.http.specs.declared.request.Parts.{Parts}
use Rattle.http_header.specs.FieldValue.{FieldValue}
use Rattle.http_header.specs.HeaderMap.{get}
use Rattle.http_uri.specs.Uri.{uri_authority, uri_path}
use Rattle.ring_id.specs.GroupName.{IsName}
use Rattle.ring_http.specs.declared.route.Resource.{Resource}
use Rattle.ring_http.specs.declared.route.Resource.TheVariants.{Page, Script, Style, Health, Metrics, Groups, Group, Election}
use Rattle.ring_http.specs.declared.route.Route.{Route}
use Rattle.ring_http.specs.declared.route.Route.TheVariants.{Misdirected, NotAllowed, Unknown, Found}

-- a byte of a host's name
abbrev pub is_no_colon : ℕ → Bool
is_no_colon b = not (b == 58)

-- a host is this machine's, whatever its port and the case of its letters
abbrev pub is_local : List ℕ → Bool
is_local host = let name = take (prefix_len is_no_colon host) host in bytes_eq name (codes "127.0.0.1") || str_eq_ignore_ascii_case name (codes "localhost")

-- the host of a request: that of its target, or else the first field `Host`
abbrev pub is_host_local : Option (List ℕ) → Option FieldValue → Bool
is_host_local (Some authority) field = is_local authority
is_host_local None (Some value) = is_local value.bytes
is_host_local None None = false

-- a request is for this machine
abbrev pub is_for_here : Parts → Bool
is_for_here head = is_host_local (uri_authority head.uri) (get head.headers (codes "host"))

-- the methods that only read
abbrev pub reads : List ℕ → Bool
reads method = bytes_eq method (codes "GET") || bytes_eq method (codes "HEAD")

-- the path of each resource
abbrev pub path_of : Resource → List ℕ
path_of Page = codes "/"
path_of Script = codes "/app.js"
path_of Style = codes "/app.css"
path_of Health = codes "/healthz"
path_of Metrics = codes "/metrics"
path_of Groups = codes "/v1/groups"
path_of (Group name) = codes "/v1/groups/" ++ name
path_of (Election name) = codes "/v1/groups/" ++ (name ++ codes "/election.svg")

-- the name of a group is one
abbrev pub IsResource : Resource → Type 0
IsResource (Group name) = IsName name
IsResource (Election name) = IsName name
IsResource _ = Unit {0}

-- what a path names, and nothing else, and `None` only if it names nothing
abbrev pub Names : List ℕ → Option Resource → Type 0
Names path (Some resource) = IsResource resource × (path ≡ path_of resource)
    × ((other : Resource) → IsResource other → path ≡ path_of other → other ≡ resource)
Names path None = (resource : Resource) → IsResource resource → path ≡ path_of resource → ⊥

-- what becomes of a request
abbrev pub IsRoute : Parts → Route → Type 0
IsRoute head Misdirected = is_for_here head ≡ false
IsRoute head NotAllowed = (is_for_here head ≡ true) × (reads head.method ≡ false)
IsRoute head Unknown = (is_for_here head ≡ true) × (reads head.method ≡ true)
    × Names (uri_path head.uri) None
IsRoute head (Found resource) = (is_for_here head ≡ true) × (reads head.method ≡ true)
    × Names (uri_path head.uri) (Some resource)
