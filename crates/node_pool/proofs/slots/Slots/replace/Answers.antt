use Rattle.std.proofs.lemmas.List.{map-set}
use Rattle.node_pool.proofs.EntryLaws.{occupied_at, linked_rewrite}
use Rattle.node_pool.proofs.slots.Slots.replace.Goals as goal

pub invariant_of-self : goal.invariant_of-self
invariant_of-self g c =
    let found = occupied_at c.self.inside.entries.items c.args.number (rw (← c.self.view_is) at c.requires) in
    record { linked = rw c.replace.ensures.after (linked_rewrite _ _ _ c.args.number found.0 c.args.value c.self.invariant.linked found.1); room = c.self.invariant.room }

pub returns-clause-slots : goal.returns-clause-slots
returns-clause-slots g c = rw (← c.self.view_is, c.replace.ensures.after, map-set)
