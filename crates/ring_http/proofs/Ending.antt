-- What a response says in the end.
use Rattle.std.proofs.Common.{◌≡◌, ◌∙◌, ℕ, List, [], ◌++◌, Result, Ok, Err, OnErr, OnOk, Some, ap, codes, inl, inr, refl, subst}
use Rattle.http_server.specs.Response.{IsResponse}
use Rattle.http_server.specs.declared.response.Response.{Response}
use Rattle.serde_json.specs.Data.{Data}
use Rattle.serde_json.specs.Read.{read}
use Rattle.ring_http.specs.Answers.{Says, SaysJson, policy_fields}
use Rattle.ring_http.specs.Json.{line_of}

-- the same status, type and text, by other terms
says_as : (had code : ℕ) (sent kind body text : List ℕ) (new : Response) → had ≡ code → sent ≡ kind → body ≡ text → Says had sent body new → Says code kind text new
says_as had code sent kind body text new status same whole ended =
    let first = subst (λ (c : ℕ). Says c sent body new) status ended in
    let second = subst (λ (k : List ℕ). Says code k body new) same first in
    subst (λ (l : List ℕ). Says code kind l new) whole second

-- a text was put behind nothing, and its type was added, or an allocation failed
pub says_put : {T E : Type 0} (put : Result T E) (had code : ℕ) (sent kind body text : List ℕ) (old new : Response) → IsResponse code policy_fields [] old → had ≡ old.status → sent ≡ kind → OnOk put (body ≡ old.body.items ++ text)
    → OnOk put (Says had sent body new) → OnErr put (IsResponse 503 policy_fields [] new) → Says code kind text new
says_put (Ok value) had code sent kind body text old new begun status same grown ended failed =
    says_as had code sent kind body text new (status ∙ begun.status) same (grown ∙ ap (λ (l : List ℕ). l ++ text) begun.body) ended
says_put (Err fault) had code sent kind body text old new begun status same grown ended failed = inr failed

-- a text was put whose bytes are not said, and its type was added, or an allocation failed
pub says_any : {T E : Type 0} (put : Result T E) (had : ℕ) (sent kind body : List ℕ) (new : Response) → had ≡ 200 → sent ≡ kind
    → OnOk put (Says had sent body new) → OnErr put (IsResponse 503 policy_fields [] new) → Says 200 kind body new
says_any (Ok value) had sent kind body new status same ended failed = says_as had 200 sent kind body body new status same refl ended
says_any (Err fault) had sent kind body new status same ended failed = inr failed

-- a text that reads back as its value was sent, or none
says_json : (value : Data) (new : Response) → read (line_of value) ≡ Some value → Says 200 (codes "application/json") (line_of value) new → SaysJson value new
says_json value new reads (inl is) = inl (record { is = is; reads = ap read is.body ∙ reads })
says_json value new reads (inr none) = inr none

-- the same of a value's text
pub json_put : {T E : Type 0} (put : Result T E) (value : Data) (had : ℕ) (sent body : List ℕ) (old new : Response) → IsResponse 200 policy_fields [] old → had ≡ old.status → sent ≡ codes "application/json"
    → OnOk put (body ≡ old.body.items ++ line_of value) → OnOk put (read (line_of value) ≡ Some value) → OnOk put (Says had sent body new) → OnErr put (IsResponse 503 policy_fields [] new) → SaysJson value new
json_put (Ok done) value had sent body old new begun status same grown reads ended failed =
    says_json value new reads (says_as had 200 sent (codes "application/json") body (line_of value) new (status ∙ begun.status) same (grown ∙ ap (λ (l : List ℕ). l ++ line_of value) begun.body) ended)
json_put (Err fault) value had sent body old new begun status same grown reads ended failed = inr failed
