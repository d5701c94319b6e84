use Rattle.std.proofs.Common.{[], sym, subst}
use Rattle.scheme_model.specs.Entries as model
use Rattle.import_sets.specs.Given.{Gathered}
use Rattle.import_sets.specs.GatheringSeen.{seen}
use Rattle.unit_imports.specs.Joining.{AreApart, GatheredAs, GroupsMean}
use Rattle.unit_imports.proofs.GivenLaws.{gathered_as}
use Rattle.unit_imports.proofs.JoiningLaws.{all_mean, all_apart}
use Rattle.unit_imports.proofs.joining.join_all.Goals as goal

pub returns-clause-means : goal.returns-clause-means
returns-clause-means c = λ names apart means entries.
    subst (λ (g : Gathered). GroupsMean names g.groups) (sym c.in_ok-take_all.ensures) (all_mean names apart (seen c.args.gathering) c.args.entries means entries)

pub returns-clause-apart : goal.returns-clause-apart
returns-clause-apart c = λ apart. subst (λ (g : Gathered). AreApart g.groups) (sym c.in_ok-take_all.ensures) (all_apart (seen c.args.gathering) c.args.entries apart)

pub returns-clause-exact : goal.returns-clause-exact
returns-clause-exact c = λ none names apart es stand ds are.
    subst (λ (g : Gathered). GatheredAs names g (model.gather es ds [])) (sym c.in_ok-take_all.ensures) (gathered_as names apart (seen c.args.gathering) c.args.entries es ds none stand are)
