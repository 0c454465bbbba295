-- Metrics of each group, as functions of the answers about it: a heading, and below it a sample for
-- each group that has a value.
use Rattle.std.specs.Prelude.{ℕ, ◌-◌, List, ◌++◌, Option, None, Some, codes, length, slice_get}
use Rattle.std.specs.List.{flat_map}
use Rattle.ring_id.specs.Identity.{number_of}
use Rattle.ring_http.specs.Samples.{given_labelled, heading}
use Rattle.ring_http.specs.declared.gauges.Gauge.{Gauge}
use Rattle.ring_http.specs.declared.gauges.Gauge.TheVariants.{Members, Term, Leader, Informed}
use Rattle.ring_http.specs.declared.picture.GroupPicture.{GroupPicture}

-- the name of a metric
abbrev pub name_of : Gauge → List ℕ
name_of Members = codes "ringd_members"
name_of Term = codes "ringd_term"
name_of Leader = codes "ringd_leader"
name_of Informed = codes "ringd_informed"

-- its meaning
abbrev pub help_of : Gauge → List ℕ
help_of Members = codes "Number of present members of the group."
help_of Term = codes "Number of the last term of the group, or 0 before its first term."
help_of Leader = codes "Number of the leader of the last term, which may have left the group."
help_of Informed = codes "Number of present members that know the leader of the last term."

-- the number of a leader, if there is one
abbrev pub number_in : Option (Option ℕ) → Option ℕ
number_in (Some (Some leader)) = Some (number_of leader)
number_in (Some None) = None
number_in None = None

-- the number of the last leader, if it is known
abbrev pub leader_number : List (Option ℕ) → Option ℕ
leader_number leaders = number_in (slice_get leaders (length leaders - 1))

-- its value for a group, if there is one
abbrev pub value_of : Gauge → GroupPicture → Option ℕ
value_of Members group = Some (length group.members)
value_of Term group = Some (length group.leaders)
value_of Leader group = leader_number group.leaders
value_of Informed group = Some (length group.informed.items)

-- a group's sample of a metric
abbrev pub sample_text : Gauge → GroupPicture → List ℕ
sample_text gauge group =
    given_labelled (name_of gauge) (codes "{group=\"") group.name (value_of gauge group)

-- a metric that has a sample for each group
abbrev pub family_text : Gauge → List GroupPicture → List ℕ
family_text gauge groups = heading (name_of gauge) (help_of gauge) (codes "gauge")
    ++ flat_map (sample_text gauge) groups
