-- The bytes of a request to the gateway, as `http1` writes them.
use Rattle.std.proofs.Common.{◌≡◌, ℕ, Bool, true, false, cond, List, [], ◌∷◌, ◌++◌, ◌-◌, length, Result, Ok, Err, refl, ap, ◌∙◌, arith, append_assoc, append-nil}
use Rattle.std.specs.Prelude.{Option, Some, None, codes}
use Rattle.http1.specs.declared.client.Client.{Client}
use Rattle.http1.specs.declared.conn.BodySize.TheVariants.{Known}
use Rattle.http1.specs.declared.conn.Writing.TheVariants.{Body}
use Rattle.http1.specs.declared.error.WriteError.{WriteError}
use Rattle.http1.specs.declared.error.WriteError.TheVariants.{State}
use Rattle.http1.specs.declared.encode.Encoder.TheVariants.{Length}
use Rattle.http1.specs.declared.fields.ContentLength.{ContentLength}
use Rattle.http1.specs.declared.fields.ContentLength.TheVariants as Stated
use Rattle.http1.specs.declared.fields.KnownFields.{KnownFields}
use Rattle.http1.specs.declared.fields.TransferEncoding.TheVariants.{Absent}
use Rattle.http1.specs.declared.framing.Framing.TheVariants.{NoBody}
use Rattle.http1.specs.declared.framing.MethodKind.TheVariants.{Other}
use Rattle.http1.specs.declared.framing.FramingError.TheVariants.{InvalidTransferEncoding}
use Rattle.http1.specs.Client.{after_request, plan_fields, plan_framed, planned_request, request_plan, request_refusal, requesting, with_writing, writing}
use Rattle.http1.specs.Conn.{Plan, after_data, awaits_head, data_text, finish_text, length_header, plan_refusal, planned_headers}
use Rattle.http1.specs.Encoder.{encoder_for}
use Rattle.http1.specs.Fields.{Header, content_length, known_fields}
use Rattle.http1.specs.Framing.{by_fields}
use Rattle.http1.specs.Head as Written
use Rattle.http1.specs.Head.{is_request_line}
use Rattle.http1.specs.Output.{GivesOrRefuses}
use Rattle.http1.specs.Text.{eq_ignore_case, numeral}
use Rattle.httparse.specs.Grammar.{print_request}
use Rattle.ring_etcd.specs.private.Http.{request_text}

-- the headers of each request
abbrev headers : List Header
headers = (codes "host", codes "etcd") ∷ (codes "content-type", codes "application/json") ∷ []

-- The length is added to the headers, and the body has that length.
record IsPlanned (p : Plan) (len : ℕ) : Type 0 where
  extra : p.extra ≡ length_header len ∷ []
  encoder : encoder_for p.framing ≡ Length len

framed : (len : ℕ) (k : KnownFields) (found : ContentLength) (p : Plan) → plan_framed (Known len) (length_header len ∷ []) k (by_fields 1 NoBody (Err InvalidTransferEncoding) Absent found) ≡ Ok p → IsPlanned p len
framed len k Stated.Absent p e = record { extra = grind arith; encoder = grind arith }
framed len k (Stated.Value n) p e = record { extra = grind arith; encoder = grind arith }
framed len k Stated.Invalid p e = cc

planned : (awaits : Bool) (len : ℕ) (p : Plan) → cond awaits (plan_fields Other (Known len) headers) (Err State) ≡ Ok p → IsPlanned p len
unfolding plan_fields known_fields eq_ignore_case
planned true len p e = framed len (known_fields (headers ++ length_header len ∷ [])) (content_length (numeral 10 len ∷ [])) p e
planned false len p e = cc

-- the end of the head, and the body
end_is : (digits body : List ℕ) → (((digits ++ codes "\r\n") ++ []) ++ codes "\r\n") ++ body ≡ digits ++ (codes "\r\n\r\n" ++ body)
end_is digits body = simp append_assoc

-- a path, the three parts of the head after it, and the body
parts_are : (path a b c body : List ℕ) → (((path ++ a) ++ b) ++ c) ++ body ≡ path ++ (a ++ (b ++ (c ++ body)))
parts_are path a b c body = simp append_assoc

-- what is written before and with the body
head_is : (path body : List ℕ) → Written.request_text (codes "POST") path 1 (headers ++ length_header (length body) ∷ []) ++ body ≡ request_text path body
unfolding print_request
head_is path body =
    let digits = numeral 10 (length body) in
    let fields = codes "host: etcd\r\ncontent-type: application/json\r\ncontent-length: " in
    let rest = fields ++ (((digits ++ codes "\r\n") ++ []) ++ codes "\r\n") in
    ap (λ l. codes "POST " ++ l) (parts_are path (codes " HTTP/1.1") (codes "\r\n") rest body)
    ∙ ap (λ l. codes "POST " ++ (path ++ (codes " HTTP/1.1\r\n" ++ (fields ++ l)))) (end_is digits body)

-- What the three calls wrote, if the plan was not refused.
written : (found : Result Plan WriteError) (c c1 c2 : Client) (old o1 o2 new path body : List ℕ) → ((p : Plan) → found ≡ Ok p → IsPlanned p (length body)) → plan_refusal found (is_request_line (codes "POST") path 1) headers ≡ None → o1 ≡ old ++ Written.request_text (codes "POST") path 1 (planned_headers found headers) → c1 ≡ requesting c (codes "POST") headers found → o2 ≡ o1 ++ data_text (writing c1) body → c2 ≡ with_writing c1 (after_data (writing c1) (length body)) → new ≡ o2 ++ finish_text (writing c2) [] → new ≡ old ++ request_text path body
written (Ok p) c c1 c2 old o1 o2 new path body plans taken first next second after third =
    let made = plans p refl in
    let head = Written.request_text (codes "POST") path 1 (headers ++ length_header (length body) ∷ []) in
    let begun : writing c1 ≡ Body (Length (length body)) = ap writing next ∙ ap Body made.encoder in
    let ended : writing c2 ≡ Body (Length (length body - length body)) = ap writing after ∙ ap (λ w. after_data w (length body)) begun in
    let whole : new ≡ o2 = third ∙ ap (λ w. o2 ++ finish_text w []) ended ∙ append-nil o2 in
    let more : o2 ≡ o1 ++ body = second ∙ ap (λ w. o1 ++ data_text w body) begun ∙ ap (λ l. o1 ++ l) (append-nil body) in
    let front : o1 ≡ old ++ head = first ∙ ap (λ l. old ++ Written.request_text (codes "POST") path 1 (headers ++ l)) made.extra in
    whole ∙ more ∙ ap (λ l. l ++ body) front ∙ append_assoc old head body ∙ ap (λ l. old ++ l) (head_is path body)
written (Err e) c c1 c2 old o1 o2 new path body plans taken first next second after third = cc

-- a call that returned was not refused
taken_if : {T : Type 0} (refusal : Option WriteError) (spare len : ℕ) (x : T) → GivesOrRefuses refusal spare len (Ok x) → refusal ≡ None
taken_if None spare len x outcome = refl
taken_if (Some e) spare len x outcome = cc

-- what the three calls of `http1` wrote
pub sent : {T : Type 0} (c c1 c2 : Client) (old o1 o2 new path body : List ℕ) (spare len : ℕ) (x : T) → GivesOrRefuses (request_refusal c (codes "POST") path (Known (length body)) headers) spare len (Ok x) → o1 ≡ old ++ planned_request c (codes "POST") path (Known (length body)) headers → c1 ≡ after_request c (codes "POST") (Known (length body)) headers → o2 ≡ o1 ++ data_text (writing c1) body → c2 ≡ with_writing c1 (after_data (writing c1) (length body)) → new ≡ o2 ++ finish_text (writing c2) [] → new ≡ old ++ request_text path body
sent c c1 c2 old o1 o2 new path body spare len x outcome =
    written (request_plan c (codes "POST") (Known (length body)) headers) c c1 c2 old o1 o2 new path body
    (planned (awaits_head c.writing) (length body)) (taken_if _ spare len x outcome)
