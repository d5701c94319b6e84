use Rattle.moved_numbers.proofs.forms.trace.Goals as goal

pub returns-clause-value : goal.returns-clause-value
returns-clause-value c =
    let it = c.args.it.now in
    λ i. record { definitions = c.binders.ensures i; keywords = c.targets.ensures i; uses = c.uses.ensures.value i; notes = record it.notes { notes = c.notes.ensures.moved i } }
