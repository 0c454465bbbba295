-- What it adds to the entries of a seat that all members are taken out of all groups.
use Rattle.std.specs.Prelude.{◌≡◌, ℕ, List, [], ◌∷◌, ◌++◌}
use Rattle.ring_id.specs.Identity.{number_of}
use Rattle.ring_any.specs.declared.any.Any.{Any}
use Rattle.ring_events.specs.declared.event.Command.TheVariants as command
use Rattle.ring_events.specs.declared.reply.Reply.{Reply}
use Rattle.ring_events.specs.declared.reply.Reply.TheVariants.{Groups, Members}
use Rattle.ring_table.specs.declared.entry.Entry.{Entry}
use Rattle.ring_table.specs.declared.entry.Entry.TheVariants.{Call}

-- the groups that a reply names
abbrev pub groups_in : Reply → List (List ℕ)
groups_in (Groups names) = names
groups_in _ = []

-- the members that a reply names
abbrev pub members_in : Reply → List ℕ
members_in (Members members) = members
members_in _ = []

module _ (session : ℕ) where
  -- Each of these members is taken out of a group, in their order.
  abbrev pub LetsGo : List ℕ → List ℕ → List (Entry Any) → Type 0
  LetsGo group [] entries = entries ≡ []
  LetsGo group (member ∷ members) entries =
      (left : Reply) × (rest : List (Entry Any))
      × (entries ≡ Call session (command.Leave group (number_of member)) left ∷ rest)
      × LetsGo group members rest

  -- The members of a group are asked for, and all that are named are taken out.
  pub record ClearsGroup (group : List ℕ) (entries : List (Entry Any)) : Type 0 where
    pub told : Reply
    pub leaves : List (Entry Any)
    pub whole : entries ≡ Call session (command.Members group) told ∷ leaves
    pub gone : LetsGo group (members_in told) leaves

  -- Each of these groups is cleared, in their order.
  abbrev pub ClearsGroups : List (List ℕ) → List (Entry Any) → Type 0
  ClearsGroups [] entries = entries ≡ []
  ClearsGroups (group ∷ groups) entries =
      (first : List (Entry Any)) × (rest : List (Entry Any))
      × (entries ≡ first ++ rest)
      × ClearsGroup group first
      × ClearsGroups groups rest

  -- The groups are asked for, and all that are named are cleared.
  pub record Clears (mine now : List (Entry Any)) : Type 0 where
    pub told : Reply
    pub cleared : List (Entry Any)
    pub gained : now ≡ mine ++ Call session command.Groups told ∷ cleared
    pub groups : ClearsGroups (groups_in told) cleared
