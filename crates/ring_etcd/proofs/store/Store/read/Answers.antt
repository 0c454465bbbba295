use Rattle.std.proofs.Common.{ℕ, subst}
use Rattle.std.specs.Prelude.{IfOk, string_bytes}
use Rattle.ring_etcd.specs.Readings.{AreEntries, ArePieces}
use Rattle.ring_etcd.specs.declared.keys.Keys.{Keys}
use Rattle.ring_etcd.proofs.Gathering.{read_is}
use Rattle.ring_etcd.proofs.store.Store.read.Goals as goal

pub returns-clause-read : goal.returns-clause-read
returns-clause-read g c =
    read_is c.read_entries.result (string_bytes c.args.self.now.keys.name) c.args.base.text c.args.base.pieces
    c.args.found.now.items c.read_pieces.new.found.items c.read_entries.new.found.items
    (subst (λ (n : ℕ). ArePieces (string_bytes c.args.self.now.keys.name) c.args.base.text n c.args.found.now.items c.read_pieces.new.found.items)
    c.if-branch-base.false c.in_ok-read_pieces.ensures.read)
    (subst (λ (k : Keys). IfOk c.read_entries.result (λ next. AreEntries (string_bytes k.name) c.args.base.text 1 next c.read_pieces.new.found.items c.read_entries.new.found.items))
    c.in_ok-read_pieces.ensures.keys c.read_entries.ensures.read)
