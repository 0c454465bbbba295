-- What a reply says of what was to be put.
use Rattle.std.proofs.Common.{◌≡◌, ℕ, List, sym, subst, ◌∙◌, inl, inr}
use Rattle.serde_json.specs.Data.{Data}
use Rattle.ring_etcd.specs.declared.replies.Said.{Said}
use Rattle.ring_etcd.specs.declared.replies.Said.TheVariants.{Done, Found}
use Rattle.ring_etcd.specs.private.Saying.{Says}
use Rattle.ring_etcd.specs.declared.store.Put.{Put}
use Rattle.ring_etcd.specs.declared.store.Put.TheVariants.{Ours, Other, Gone}
use Rattle.ring_etcd.specs.private.Putting.{IsPut, IsSwitched}
use Rattle.ring_etcd.specs.private.Told.{IsToldPut, IsToldSwitched}

told : (said : Said) (reply : Data) (base : List ℕ) → Says reply said → IsSwitched said base → IsToldSwitched reply base
told Done reply base says is = inl says
told (Found there counts) reply base says is = inr (sym says.1 ∙ is)

pub told_switched : (said : Said) (reply : Data) (seen base : List ℕ) → Says reply said → seen ≡ base → IsSwitched said seen → IsToldSwitched reply base
told_switched said reply seen base says same is = subst (λ (b : List ℕ). IsToldSwitched reply b) same (told said reply seen says is)

put_told : (said : Said) (reply : Data) (entry base : List ℕ) (put : Put) → Says reply said → IsPut said entry base put → IsToldPut reply entry base put
put_told Done reply entry base Ours says is = inl says
put_told Done reply entry base (Other other) says is = absurd is
put_told Done reply entry base Gone says is = absurd is
put_told (Found there counts) reply entry base Ours says is = inr (sym says.0 ∙ is)
put_told (Found there counts) reply entry base (Other other) says is = (sym says.0 ∙ is.0, sym says.1 ∙ is.2)
put_told (Found there counts) reply entry base Gone says is = λ same. is (says.0 ∙ same)

pub told_put : (said : Said) (reply : Data) (entry seen base : List ℕ) (put : Put) → Says reply said → seen ≡ base → IsPut said entry seen put → IsToldPut reply entry base put
told_put said reply entry seen base put says same is = subst (λ (b : List ℕ). IsToldPut reply entry b put) same (put_told said reply entry seen put says is)
