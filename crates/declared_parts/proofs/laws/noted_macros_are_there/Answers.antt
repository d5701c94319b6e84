use Rattle.note_laws.specs.Told.{goes_noting}
use Rattle.note_laws.proofs.NoteLaws.{pass_noted, pass_leaves}
use Rattle.declared_parts.proofs.NotedMacros.{macros_left, macros_outside_left}
use Rattle.declared_parts.proofs.laws.noted_macros_are_there.Goals as goal

pub returns : goal.returns
returns c = record {
  told = λ w turns t ms s e leaves. macros_left w turns t ms e s leaves;
  noted = λ w turns t e out h closed others.
      let q = goes_noting w turns t e in
      let same = pass_noted w e out h.state closed others turns t h.notes in
      let leaves = pass_leaves w e out h.state closed others turns t h.notes in
      (macros_left w turns t q.1 same q.0 leaves, λ s forgotten. macros_outside_left w turns t q.1 same q.0 s leaves forgotten);
}
