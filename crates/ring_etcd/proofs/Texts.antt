-- The texts of requests from those of their parts.
use Rattle.std.proofs.Common.{◌≡◌, ℕ, List, ◌++◌, subst}
use Rattle.std.specs.Prelude.{codes}
use Rattle.ring_etcd.specs.private.Requests.{compare_text, entry_text, failure_text, first_text, free_text, success_text, switch_text}

pub first_is : (key value from to free text : List ℕ) → free ≡ free_text key from to → text ≡ codes "{" ++ (free ++ (codes ",\"success\":[{\"request_put\":{\"key\":\"" ++ (key ++ (codes "\",\"value\":\"" ++ (value ++ (codes "\"}}],\"failure\":[{\"request_range\":{\"key\":\"" ++ (key ++ (codes "\"}},{\"request_range\":{\"key\":\"" ++ (key ++ codes "\"}}]}"))))))))) → text ≡ first_text key value from to
first_is key value from to free text is_free whole = subst (λ (f : List ℕ). text ≡ codes "{" ++ (f ++ (codes ",\"success\":[{\"request_put\":{\"key\":\"" ++ (key ++ (codes "\",\"value\":\"" ++ (value ++ (codes "\"}}],\"failure\":[{\"request_range\":{\"key\":\"" ++ (key ++ (codes "\"}},{\"request_range\":{\"key\":\"" ++ (key ++ codes "\"}}]}")))))))))) is_free whole

pub entry_is : (base_key base key value compare failure text : List ℕ) → compare ≡ compare_text base_key base key → failure ≡ failure_text base_key key → text ≡ codes "{" ++ (compare ++ (codes ",\"success\":[{\"request_put\":{\"key\":\"" ++ (key ++ (codes "\",\"value\":\"" ++ (value ++ (codes "\"}}]," ++ (failure ++ codes "}"))))))) → text ≡ entry_text base_key base key value
entry_is base_key base key value compare failure text is_compare is_failure whole =
    subst (λ (c : List ℕ). text ≡ codes "{" ++ (c ++ (codes ",\"success\":[{\"request_put\":{\"key\":\"" ++ (key ++ (codes "\",\"value\":\"" ++ (value ++ (codes "\"}}]," ++ (failure_text base_key key ++ codes "}")))))))) is_compare
    (subst (λ (f : List ℕ). text ≡ codes "{" ++ (compare ++ (codes ",\"success\":[{\"request_put\":{\"key\":\"" ++ (key ++ (codes "\",\"value\":\"" ++ (value ++ (codes "\"}}]," ++ (f ++ codes "}")))))))) is_failure whole)

pub switch_is : (base_key base key new from to compare success failure text : List ℕ) → compare ≡ compare_text base_key base key → success ≡ success_text base_key new from to → failure ≡ failure_text base_key key → text ≡ codes "{" ++ (compare ++ (codes "," ++ (success ++ (codes "," ++ (failure ++ codes "}"))))) → text ≡ switch_text base_key base key new from to
switch_is base_key base key new from to compare success failure text is_compare is_success is_failure whole =
    subst (λ (c : List ℕ). text ≡ codes "{" ++ (c ++ (codes "," ++ (success_text base_key new from to ++ (codes "," ++ (failure_text base_key key ++ codes "}")))))) is_compare
    (subst (λ (u : List ℕ). text ≡ codes "{" ++ (compare ++ (codes "," ++ (u ++ (codes "," ++ (failure_text base_key key ++ codes "}")))))) is_success
    (subst (λ (f : List ℕ). text ≡ codes "{" ++ (compare ++ (codes "," ++ (success ++ (codes "," ++ (f ++ codes "}")))))) is_failure whole))
