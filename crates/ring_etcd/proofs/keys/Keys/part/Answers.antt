use Rattle.std.proofs.Common.{rules}
use Rattle.ring_etcd.proofs.Digits.{padded_is}
use Rattle.ring_etcd.proofs.keys.Keys.part.Goals as goal

pub returns : goal.returns
returns c = search (rules, padded_is)
