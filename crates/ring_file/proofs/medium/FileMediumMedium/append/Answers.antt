use Rattle.std.proofs.Common.{ap}
use Rattle.ring_file.proofs.Joined.{joined_more}
use Rattle.ring_file.proofs.medium.FileMediumMedium.append.Goals as goal

pub returns-then-put-clause-text : goal.returns-then-put-clause-text
returns-then-put-clause-text g c =
    joined_more _ _ _ _ _ _ _ c.in-Ok.ensures.items c.push_reserved.ensures.items (ap (λ batch. batch.bytes) c.of.ensures) (ap (λ v. v.text) c.self.view_is)

pub returns-clause-text : goal.returns-clause-text
returns-clause-text g c =
    joined_more _ _ _ _ _ _ _ c.in-Ok.ensures.items c.push_reserved.ensures.items (ap (λ batch. batch.bytes) c.of.ensures) (ap (λ v. v.text) c.self.view_is)
