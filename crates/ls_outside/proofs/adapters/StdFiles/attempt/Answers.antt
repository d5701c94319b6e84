use Rattle.std.proofs.Common.{[], ◌∙◌, ap, sym}
use Rattle.ls_outside.specs.declared.record.Record.{Record}
use Rattle.ls_outside.proofs.CallLaws.{took_none}
use Rattle.ls_outside.proofs.adapters.StdFiles.attempt.Goals as goal
use Rattle.ls_outside.proofs.adapters.StdFiles.attempt.Goals.{then-matches, else-matches}

pub returns-in_default-clause-gives : goal.returns-in_default-clause-gives
returns-in_default-clause-gives g c = ([], took_none _ _ c.note.ensures)

pub returns-clause-gives : goal.returns-clause-gives
returns-clause-gives g c =
    let from = sym (c.with-source.ensures.reads ∙ ap (λ (r : Record). r.pieces) c.replace-reads.ensures.value) in
    elim c.if-matches.branch [
      | then-matches w ↦ rw (w.self-is, from) c.read_whole-answer.ensures.read
      | else-matches w ↦ rw (w.self-is, from) c.read_whole-answer.ensures.read
    ]
