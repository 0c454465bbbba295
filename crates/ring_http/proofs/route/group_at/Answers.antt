-- What stands before the name of an election, and what after it.
use Rattle.std.proofs.Common.{◌≡◌, ◌++◌, ◌∙◌, ℕ, List, Some, ap, codes, refl}
use Rattle.std.proofs.lemmas.Bool.Decides.{Decides-eqb}
use Rattle.std.proofs.lemmas.Slice.Eq.{strip_prefix_is, strip_suffix_is}
use Rattle.ring_http.proofs.route.group_at.Goals as goal

pub returns-in-Ok-from_bytes : goal.returns-in-Ok-from_bytes
returns-in-Ok-from_bytes c =
    let rest = c.in_ok-rest.rest in
    let name = c.in_ok-strip_suffix.field-0 in
    let before : c.args.path.now ≡ codes "/v1/groups/" ++ rest.now = strip_prefix_is Decides-eqb c.args.path.now (codes "/v1/groups/") (Some rest) c.in_ok-rest.ensures.cases in
    let after : rest.now ≡ name.now ++ codes "/election.svg" = strip_suffix_is Decides-eqb rest.now (codes "/election.svg") (Some name) c.in_ok-strip_suffix.ensures.cases in
    rw c.in-Ok-from_bytes.ensures.ok (c.in-Ok-from_bytes.ensures.taken.0 refl, before ∙ ap (λ (l : List ℕ). codes "/v1/groups/" ++ l) after)
