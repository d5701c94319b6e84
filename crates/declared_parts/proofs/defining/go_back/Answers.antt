use Rattle.std.proofs.Common.{[], sym, subst, arith}
use Rattle.core_tree.specs.Names.{AllMatch}
use Rattle.unit_scopes.specs.Kept.{NoteFor}
use Rattle.declared_parts.proofs.defining.go_back.Goals as goal

pub returns-clause-own : goal.returns-clause-own
returns-clause-own c = λ work ls own h. record {
  few = omega arith;
  notes = record { notes = subst (λ xs. AllMatch (NoteFor work ls) xs []) (sym c.new.ensures.notes) tt; asks = c.new.ensures.stands work.symbols };
}
