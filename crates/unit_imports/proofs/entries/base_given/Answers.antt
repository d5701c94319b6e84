use Rattle.std.proofs.Common.{List, [], Some, map, sym, ap, ◌∙◌, subst}
use Rattle.scheme_model.specs.Program.{standard_entry}
use Rattle.import_sets.specs.declared.gather.Group.{Group}
use Rattle.import_sets.specs.Given.{Gathered}
use Rattle.unit_imports.specs.Joining.{GroupsStand}
use Rattle.unit_imports.proofs.BaseLaws.{base_gathered, base_there}
use Rattle.unit_imports.proofs.entries.base_given.Goals as goal

pub returns-in-None-clause-exact : goal.returns-in-None-clause-exact
returns-in-None-clause-exact c = absurd (base_there (sym c.in-None.is ∙ c.in_ok-standard.ensures.names))

pub returns-in_ok-join_all-in-Some-clause-exact : goal.returns-in_ok-join_all-in-Some-clause-exact
returns-in_ok-join_all-in-Some-clause-exact c =
    let names = c.standard_entries.new.symbols in
    let ss = c.as_slice.result.now in
    subst (GroupsStand names c.in_ok-join_all-in-Some.field-0.groups.items) (base_gathered ss (ap Some c.as_slice.ensures ∙ sym c.in-Some.is ∙ c.in_ok-standard.ensures.names))
    (c.in_ok-join_all-in-Some.ensures.exact (ap (λ (g : Gathered). g.clashes) c.new-gathering.ensures) names (record { symbols = c.told_apart.ensures.symbols; idents = c.told_apart.ensures.idents }) []
    (subst (λ (gs : List Group). GroupsStand names gs []) (sym (ap (λ (g : Gathered). g.groups) c.new-gathering.ensures)) tt) (map standard_entry ss) c.in_ok-entries-in-Some.ensures.entries).groups
