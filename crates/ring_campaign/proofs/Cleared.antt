-- One more of a list that is taken from its front.
use Rattle.std.proofs.Common.{◌≡◌, ◌+◌, ℕ, List, [], ◌∷◌, ◌++◌, append-nil, drop, refl, subst, sym}
use Rattle.ring_id.specs.Identity.{number_of}
use Rattle.ring_any.specs.declared.any.Any.{Any}
use Rattle.ring_events.specs.declared.event.Command.TheVariants.{Leave}
use Rattle.ring_events.specs.declared.reply.Reply.{Reply}
use Rattle.ring_table.specs.declared.entry.Entry.{Entry}
use Rattle.ring_table.specs.declared.entry.Entry.TheVariants.{Call}
use Rattle.ring_campaign.specs.Clearing.{ClearsGroup, ClearsGroups, LetsGo}
use Rattle.ring_campaign.specs.private.Clearing.{Adds}

module _ (session : ℕ) where
  -- the next member is taken out, and then the rest
  pub lets_go_more : (group members : List ℕ) (i member : ℕ) (left : Reply) (rest : List (Entry Any)) → drop i members ≡ member ∷ drop (i + 1) members
      → LetsGo session group (drop (i + 1) members) rest → LetsGo session group (drop i members) (Call session (Leave group (number_of member)) left ∷ rest)
  lets_go_more group members i member left rest is gone =
      subst (λ (l : List ℕ). LetsGo session group l (Call session (Leave group (number_of member)) left ∷ rest)) (sym is) (left, rest, refl, gone)

  -- the next group is cleared, and then the rest
  pub clears_more : (groups : List (List ℕ)) (i : ℕ) (group : List ℕ) (first rest : List (Entry Any)) → drop i groups ≡ group ∷ drop (i + 1) groups
      → ClearsGroup session group first → ClearsGroups session (drop (i + 1) groups) rest → ClearsGroups session (drop i groups) (first ++ rest)
  clears_more groups i group first rest is one more = subst (λ (l : List (List ℕ)). ClearsGroups session l (first ++ rest)) (sym is) (first, rest, refl, one, more)

-- these entries are all that were added
pub adds_all : (Such : List (Entry Any) → Type 0) (mine now added : List (Entry Any)) → now ≡ mine ++ added → Such (added ++ []) → Adds Such mine now
adds_all Such mine now added gained such = record { added = added; gained = gained; such = subst Such (append-nil added) such }
