-- Two lists of identities are compared, of which the first is the ring's.
use Rattle.std.proofs.Common.{◌≡◌, rules}
use Rattle.ring_roster.proofs.members.Members.are.Goals as goal

pub returns : goal.returns
returns c =
    let list : c.deref.result.now ≡ c.args.self.now = search rules in
    rw list at c.same_ids.ensures
