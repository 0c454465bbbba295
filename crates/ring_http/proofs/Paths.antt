-- A path names one resource. If it is none of a few, it names a group or its election, or nothing.
use Rattle.std.proofs.Common.{◌≡◌, ◌-◌, ◌∙◌, ℕ, List, Option, None, Some, ap, arith, codes, cond, drop, length, refl, sym, take}
use Rattle.std.specs.List.{list_all}
use Rattle.std.specs.Str.{bytes_eq}
use Rattle.std.proofs.lemmas.List.{length-append, take_at}
use Rattle.std.proofs.lemmas.List.Folds.{list_all-append}
use Rattle.ring_id.specs.GroupName.{is_name_byte}
use Rattle.ring_http.specs.Routes.{IsResource, Names, path_of}
use Rattle.ring_http.specs.private.Routes.{Finds, NamesGroup}
use Rattle.ring_http.specs.declared.route.Resource.{Resource}
use Rattle.ring_http.specs.declared.route.Resource.TheVariants.{Page, Script, Style, Health, Metrics, Groups, Group, Election}

-- none of a few
pub finds_rest : (path : List ℕ) (result : Option Resource) → (path ≡ path_of Page → ⊥) → (path ≡ path_of Script → ⊥) → (path ≡ path_of Style → ⊥) → (path ≡ path_of Health → ⊥) → (path ≡ path_of Metrics → ⊥)
    → (path ≡ path_of Groups → ⊥) → NamesGroup path result → Finds path result
finds_rest path (Some resource) page script style health metrics groups named = named
finds_rest path None page script style health metrics groups named = go
  where
    go : (resource : Resource) → IsResource resource → path ≡ path_of resource → ⊥
    go Page legal is = page is
    go Script legal is = script is
    go Style legal is = style is
    go Health legal is = health is
    go Metrics legal is = metrics is
    go Groups legal is = groups is
    go (Group name) legal is = (named name legal).0 is
    go (Election name) legal is = (named name legal).1 is

-- the resource of what follows `/v1/groups/`
unfoldable group_of : List ℕ → Resource
group_of rest = cond (list_all is_name_byte rest) (Group rest) (Election (take (length rest - 13) rest))

-- the resource of a path
unfoldable resource_of : List ℕ → Resource
resource_of path =
    cond (bytes_eq path (codes "/")) Page
    (cond (bytes_eq path (codes "/app.js")) Script
    (cond (bytes_eq path (codes "/app.css")) Style
    (cond (bytes_eq path (codes "/healthz")) Health
    (cond (bytes_eq path (codes "/metrics")) Metrics
    (cond (bytes_eq path (codes "/v1/groups")) Groups
    (group_of (drop 11 path)))))))

-- a resource is that of its path: a name has no slash
of_path : (resource : Resource) → IsResource resource → resource_of (path_of resource) ≡ resource
unfolding resource_of group_of
of_path Page legal = refl
of_path Script legal = refl
of_path Style legal = refl
of_path Health legal = refl
of_path Metrics legal = refl
of_path Groups legal = refl
of_path (Group name) legal = rw legal.each refl
of_path (Election name) legal = rw (list_all-append is_name_byte name (codes "/election.svg"), legal.each) (ap Election (take_at name (codes "/election.svg") _ (simp length-append (omega arith))))

-- no other has this path
pub names_one : (path : List ℕ) (result : Option Resource) → Finds path result → Names path result
names_one path None none = none
names_one path (Some resource) found =
    (found.0, found.1, λ other legal same. sym (of_path other legal) ∙ ap resource_of (sym same ∙ found.1) ∙ of_path resource found.0)
