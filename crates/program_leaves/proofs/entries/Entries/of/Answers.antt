use Rattle.std.proofs.Common.{subst}
use Rattle.core_tree.specs.Names.{AllMatch}
use Rattle.program_leaves.specs.Entries.{HasEntries}
use Rattle.program_leaves.proofs.EntryLaws.{gives_law}
use Rattle.program_leaves.proofs.entries.Entries.of.Goals as goal

pub returns : goal.returns
returns c = λ work text uris all p h.
    gives_law work text uris all p c.in_ok-units.units.items c.args.program.now.units (subst (AllMatch HasEntries c.in_ok-units.units.items) c.as_slice.ensures c.in_ok-units.ensures) h
