use Rattle.std.proofs.Common.{◌<◌, ◌∷◌, [], ◌++◌, length, refl, ap, sym, subst, arith, length-append}
use Rattle.ring_journal.proofs.Adding.{one_more, short_more, still_journal}
use Rattle.ring_journal.proofs.Settling.{crash_finds, near_same}
use Rattle.ring_journal.proofs.journal.Journal.add_reserved.Goals as goal

pub invariant_of-self : goal.invariant_of-self
invariant_of-self g c =
    let room = subst (λ v. length c.args.line.now < v.room) (sym c.self.view_is) c.requires.room in
    still_journal _ _ _ _ _ c.self.invariant c.requires.line c.add_reserved.ensures.bytes (short_more _ _ _ _ room c.add_reserved.ensures.bytes)

pub returns-clause-added : goal.returns-clause-added
returns-clause-added g c = rw (← c.self.view_is) (record {
  lines = one_more _ _ _ _ _ c.self.invariant c.requires.line c.add_reserved.ensures.bytes;
  disk = refl;
  pending = omega (arith, ap length c.add_reserved.ensures.bytes, length-append c.self.inside.batch.bytes (c.args.line.now ++ 10 ∷ []), length-append c.args.line.now (10 ∷ []));
  is_broken = refl;
})

pub returns-clause-any_moment : goal.returns-clause-any_moment
returns-clause-any_moment g c =
    let room = subst (λ v. length c.args.line.now < v.room) (sym c.self.view_is) c.requires.room in
    let j = still_journal _ _ _ _ _ c.self.invariant c.requires.line c.add_reserved.ensures.bytes (short_more _ _ _ _ room c.add_reserved.ensures.bytes) in
    rw (← c.self.view_is) (λ m from to found find. crash_finds _ _ _ j _ _ refl (near_same _ _ _ j _ refl) m from to found find)
