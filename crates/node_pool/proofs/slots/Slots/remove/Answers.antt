use Rattle.std.proofs.Common.{arith}
use Rattle.std.proofs.lemmas.List.{map-set}
use Rattle.node_pool.proofs.EntryLaws.{occupied_at, linked_vacate, some_live}
use Rattle.node_pool.proofs.slots.Slots.remove.Goals as goal

pub invariant_of-self : goal.invariant_of-self
invariant_of-self g c =
    let found = occupied_at c.self.inside.entries.items c.args.number (rw (← c.self.view_is) at c.requires) in
    record {
      linked = rw c.replace.ensures.after (linked_vacate _ _ _ c.args.number found.0 c.self.invariant.linked found.1);
      room = omega (arith, c.self.invariant.room, some_live _ _ _ c.args.number c.self.invariant.linked (rw (← c.self.view_is) at c.requires));
    }

pub returns-clause-slots : goal.returns-clause-slots
returns-clause-slots g c = rw (← c.self.view_is, c.replace.ensures.after, map-set)
