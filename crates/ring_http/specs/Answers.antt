-- What is answered to a request: the response, as a function of what the seat was answered.
use Rattle.std.specs.Prelude.{◌≡◌, ◌≤◌, ◌⊎◌, ℕ, List, [], ◌∷◌, ◌++◌, Option, Some, codes}
use Rattle.http1.specs.Fields.{Header}
use Rattle.http_server.specs.Response.{IsResponse}
use Rattle.http_server.specs.declared.response.Response.{Response}
use Rattle.serde_json.specs.Data.{Data}
use Rattle.serde_json.specs.Read.{read}
use Rattle.ring_id.specs.Refusals.{word_in_table}
use Rattle.ring_id.specs.declared.refusal.Refusal.{Refusal}
use Rattle.ring_id.specs.declared.refusal.Refusal.TheVariants as refused
use Rattle.ring_any.specs.declared.any.Any.{Any}
use Rattle.ring_events.specs.declared.event.Command.TheVariants as command
use Rattle.ring_events.specs.declared.reply.Reply.TheVariants as reply
use Rattle.ring_table.specs.declared.entry.Entry.{Entry}
use Rattle.ring_table.specs.declared.entry.Entry.TheVariants.{Call}
use Rattle.ring_http.specs.Asking.{AddsPicture, AddsPictures, AddsQuestions, IsPlaceAfter, Lacks}
use Rattle.ring_http.specs.Json.{group_value, groups_value, line_of}
use Rattle.ring_http.specs.Metrics.{metrics_of}
use Rattle.ring_http.specs.declared.asking.Lack.{Lack}
use Rattle.ring_http.specs.declared.asking.Lack.TheVariants.{Late, NoGroup, Unplaced}
use Rattle.ring_http.specs.declared.beside.Figures.{Figures}
use Rattle.ring_http.specs.declared.picture.GroupPicture.{GroupPicture}
use Rattle.ring_http.specs.declared.route.Resource.{Resource}
use Rattle.ring_http.specs.declared.route.Resource.TheVariants.{Page, Script, Style, Health, Metrics, Groups, Group, Election}
use Rattle.ring_http.specs.declared.route.Route.{Route}
use Rattle.ring_http.specs.declared.route.Route.TheVariants.{Misdirected, NotAllowed, Unknown, Found}

-- the status that follows from the route
abbrev pub code_of : Route → ℕ
code_of Misdirected = 421
code_of NotAllowed = 405
code_of Unknown = 404
code_of (Found resource) = 200

-- the type of a resource that is there
abbrev pub kind_in : Resource → List ℕ
kind_in Page = codes "text/html; charset=utf-8"
kind_in Script = codes "text/javascript; charset=utf-8"
kind_in Style = codes "text/css; charset=utf-8"
kind_in Health = codes "text/plain; charset=utf-8"
kind_in Metrics = codes "text/plain; version=0.0.4; charset=utf-8"
kind_in Groups = codes "application/json"
kind_in (Group name) = codes "application/json"
kind_in (Election name) = codes "image/svg+xml"

-- the type of a reason, whatever was asked for
abbrev pub reason_kind : List ℕ
reason_kind = codes "text/plain; charset=utf-8"

-- the fields of each response: nothing is loaded from elsewhere, and no answer is used again unless
-- the service was asked
abbrev pub policy_fields : List Header
policy_fields = (codes "content-security-policy", codes "default-src 'self'")
    ∷ (codes "cache-control", codes "no-cache") ∷ []

-- the same fields, and the type of the text
abbrev pub fields_with : List ℕ → List Header
fields_with kind = policy_fields ++ (codes "content-type", kind) ∷ []

-- the fields that follow from the route: the type of a resource is known only once it is found
abbrev pub fields_for : Route → List Header
fields_for Misdirected = fields_with reason_kind
fields_for NotAllowed = fields_with reason_kind ++ (codes "allow", codes "GET, HEAD") ∷ []
fields_for Unknown = fields_with reason_kind
fields_for (Found resource) = policy_fields

-- the text that follows from the route
abbrev pub text_of : Route → List ℕ
text_of Misdirected = codes "This is another host.\n"
text_of NotAllowed = codes "GET and HEAD alone are allowed.\n"
text_of Unknown = codes "There is nothing at this path.\n"
text_of (Found resource) = []

-- a refusal
abbrev pub refusal_text : Refusal → List ℕ
refusal_text refusal = codes "no " ++ (word_in_table refusal ++ codes "\n")

-- why there is no answer
abbrev pub reason_of : Lack → List ℕ
reason_of (Unplaced refusal) = refusal_text refusal
reason_of NoGroup = refusal_text refused.NoGroup
reason_of Late = codes "no answer\n"

-- why there is no picture
abbrev pub no_picture : List ℕ
no_picture = codes "no picture: no term was started since ringd began\n"

-- the status where a group was asked about and there is no answer
abbrev pub fault_code : Lack → ℕ
fault_code NoGroup = 404
fault_code (Unplaced refusal) = 503
fault_code Late = 503

-- The response has this status, and a text of this type. If an allocation failed for its text or its
-- type, it is a 503 without a text and without a type.
abbrev pub Says : ℕ → List ℕ → List ℕ → Response → Type 0
Says code kind text response = IsResponse code (fields_with kind) text response ⊎ IsResponse 503 policy_fields [] response

-- the response is the text of this value, and reads back as it
pub record IsJson (value : Data) (response : Response) : Type 0 where
  pub is : IsResponse 200 (fields_with (codes "application/json")) (line_of value) response
  pub reads : read response.body.items ≡ Some value

-- the same, or an allocation failed
abbrev pub SaysJson : Data → Response → Type 0
SaysJson value response = IsJson value response ⊎ IsResponse 503 policy_fields [] response

-- `last` is the last place that the connection had before, and `later` the last one after:
-- the place of what a response says is `later`, which is greater than `last`.
module _ (base most session : ℕ) (mine : List (Entry Any)) (last : ℕ) (response : Response)
    (now : List (Entry Any)) (later : ℕ) where
  -- There is no answer, for a reason. A group that is not there is a 404 where it was asked for.
  pub record ShowsLack (code : Lack → ℕ) : Type 0 where
    pub lack : Lack
    pub lacks : Lacks session lack mine now
    pub rises : last ≤ later
    pub says : Says (code lack) reason_kind (reason_of lack) response

  -- The names of all groups were asked for. The response has their place and the names.
  pub record ShowsNames (Told : ℕ → List (List ℕ) → Response → Type 0) : Type 0 where
    pub names : List (List ℕ)
    pub gained : now ≡ mine ++ Call session command.Groups (reply.Groups names) ∷ []
    pub placed : IsPlaceAfter base most last later
    pub says : Told later names response

  -- All groups were asked about.
  pub record ShowsAll : Type 0 where
    pub names : List (List ℕ)
    pub mid : List (Entry Any)
    pub listed : mid ≡ mine ++ Call session command.Groups (reply.Groups names) ∷ []
    pub groups : List GroupPicture
    pub each : AddsPictures session names groups mid now
    pub figures : Figures
    pub placed : IsPlaceAfter base most last later
    pub says : Says 200 (kind_in Metrics) (metrics_of later groups figures) response

  -- A group was asked about, and last after other questions.
  pub record ShowsGroup (name : List ℕ) : Type 0 where
    pub mid : List (Entry Any)
    pub earlier : AddsQuestions session mine mid
    pub group : GroupPicture
    pub named : group.name ≡ name
    pub pictured : AddsPicture session group mid now
    pub placed : IsPlaceAfter base most last later
    pub says : SaysJson (group_value later group) response

  -- The page or a part of it, whose text is not said, and nothing was asked.
  pub record ShowsPage (kind : List ℕ) : Type 0 where
    pub same : now ≡ mine
    pub still : later ≡ last
    pub text : List ℕ
    pub is : IsResponse 200 (fields_with kind) text response

  -- There is no picture, and nothing was asked. Whether a term was started is not said.
  pub record ShowsNoPicture : Type 0 where
    pub same : now ≡ mine
    pub still : later ≡ last
    pub says : Says 404 reason_kind no_picture response

  -- The terms of a group were asked for, and the response is a picture.
  pub record ShowsPicture (name : List ℕ) : Type 0 where
    pub leaders : List (Option ℕ)
    pub gained : now ≡ mine ++ Call session (command.Terms name) (reply.Terms leaders) ∷ []
    pub placed : IsPlaceAfter base most last later
    pub picture : List ℕ
    pub says : Says 200 (kind_in (Election name)) picture response

  -- what is answered for a resource
  abbrev pub Shows : Resource → Type 0
  Shows Health = ShowsNames (λ place names. Says 200 (kind_in Health) (codes "ok\n")) ⊎ ShowsLack (λ lack. 503)
  Shows Metrics = ShowsAll ⊎ ShowsLack (λ lack. 503)
  Shows Groups = ShowsNames (λ place names. SaysJson (groups_value place names)) ⊎ ShowsLack (λ lack. 503)
  Shows (Group name) = ShowsGroup name ⊎ ShowsLack fault_code
  Shows (Election name) = ShowsNoPicture ⊎ ShowsPicture name ⊎ ShowsLack fault_code
  Shows resource = ShowsPage (kind_in resource)

-- what is answered
abbrev pub Answers : ℕ → ℕ → ℕ → Route → List (Entry Any) → ℕ → Response → List (Entry Any) → ℕ
    → Type 0
Answers base most session (Found resource) mine last response now later =
    Shows base most session mine last response now later resource
Answers base most session route mine last response now later = (now ≡ mine) × (later ≡ last)
    × IsResponse (code_of route) (fields_for route) (text_of route) response
