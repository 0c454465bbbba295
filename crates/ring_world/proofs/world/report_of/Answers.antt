-- The member stands at that position of the ring.
use Rattle.std.proofs.Common.{refl, sym, ◌∙◌}
use Rattle.std.proofs.lemmas.Option.{get_or_from_slice_get, slice_get-get_or}
use Rattle.ring_world.proofs.world.report_of.Goals as goal

pub take-charter-requires : goal.take-charter-requires
take-charter-requires g c = c.requires.found

pub unwrap-member-requires : goal.unwrap-member-requires
unwrap-member-requires g c =
    let at = rw (c.roster.ensures, c.deref.ensures, c.take-charter.ensures.owner) at c.at.ensures.value in
    rw (at, slice_get-get_or c.args.owners.now.charter.value.roster c.args.position 0 c.requires.inside) refl

pub new-requires-clause-truthful : goal.new-requires-clause-truthful
new-requires-clause-truthful g c =
    let at = rw (c.roster.ensures, c.deref.ensures, c.take-charter.ensures.owner) at c.at.ensures.value in
    let member = get_or_from_slice_get c.args.owners.now.charter.value.roster c.args.position c.unwrap-member.result 0 (sym at ∙ c.unwrap-member.ensures) in
    rw (c.take-charter.ensures.owner, ← member) c.requires.truthful

pub new-requires-clause-there : goal.new-requires-clause-there
new-requires-clause-there g c =
    let at = rw (c.roster.ensures, c.deref.ensures) at c.at.ensures.value in
    sym at ∙ c.unwrap-member.ensures

pub returns-clause-told : goal.returns-clause-told
returns-clause-told g c =
    let at = rw (c.roster.ensures, c.deref.ensures, c.take-charter.ensures.owner) at c.at.ensures.value in
    let member = get_or_from_slice_get c.args.owners.now.charter.value.roster c.args.position c.unwrap-member.result 0 (sym at ∙ c.unwrap-member.ensures) in
    rw (c.take-charter.ensures.owner, ← member) at c.new.ensures

pub returns-clause-same : goal.returns-clause-same
returns-clause-same g c = c.take-charter.ensures.same
