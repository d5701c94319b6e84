use Rattle.unit_imports.proofs.GivenLaws.{comes_chosen}
use Rattle.unit_imports.proofs.ImportLaws.{any_set, answered_mean}
use Rattle.scheme_model.specs.Entries as model
use Rattle.unit_imports.proofs.entries.chosen.Goals as goal

pub returns-in-Ok-clause-means : goal.returns-in-Ok-clause-means
returns-in-Ok-clause-means c =
    let names = c.args.symbols.now in
    let s = any_set c.args.set.now in
    answered_mean names c.in-Ok.entries (model.entries_of s.0 c.requires.0)
    (c.in-Ok.ensures names (record { symbols = c.told_apart.ensures.symbols; idents = c.told_apart.ensures.idents }) s.0 s.1 c.requires.0 c.requires.1)

pub returns-in-Ok-clause-exact : goal.returns-in-Ok-clause-exact
returns-in-Ok-clause-exact c = λ s is es are.
    let names = c.args.symbols.now in
    comes_chosen names c.args.set.now s c.in-Ok.entries es (c.in-Ok.ensures names (record { symbols = c.told_apart.ensures.symbols; idents = c.told_apart.ensures.idents }) s is es are)

pub returns-in-Err-clause-means : goal.returns-in-Err-clause-means
returns-in-Err-clause-means c = c.faulty.ensures.means c.args.symbols.now

pub returns-in-Err-clause-exact : goal.returns-in-Err-clause-exact
returns-in-Err-clause-exact c = λ s is es are.
    let names = c.args.symbols.now in
    c.faulty.ensures.exact names (model.entries_of s es) (c.in-Err.ensures names (record { symbols = c.told_apart.ensures.symbols; idents = c.told_apart.ensures.idents }) s is es are)
