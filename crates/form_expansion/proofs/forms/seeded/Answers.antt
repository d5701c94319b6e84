-- The tree of the form is added.
use Rattle.std.proofs.Common.{refl, subst}
use Rattle.scheme_model.specs.declared.Home.{Home}
use Rattle.datum_reader.specs.Seeded.{seeded_as}
use Rattle.datum_reader.specs.Views.{datum_of}
use Rattle.syntax_tree.specs.Works.{StandsFor}
use Rattle.syntax_tree.specs.Regions.{itself}
use Rattle.unit_sources.specs.UnitsRead.{form_of}
use Rattle.form_expansion.specs.Forms.{taken}
use Rattle.form_expansion.specs.declared.forms.Bench.{Bench}
use Rattle.form_expansion.proofs.BenchLaws.{stands_in, stays_by}
use Rattle.form_expansion.proofs.forms.seeded.Goals as goal

pub returns-in-Ok-clause-tree : goal.returns-in-Ok-clause-tree
returns-in-Ok-clause-tree c = subst (λ (h : Home). StandsFor c.seed_as.new.work c.in-Ok.tree (seeded_as c.args.unit h (datum_of c.args.form.now.datum))) c.home_in-home.ensures c.in-Ok.ensures.tree

pub returns-in-Ok-clause-lies : goal.returns-in-Ok-clause-lies
returns-in-Ok-clause-lies c =
    ((taken c.args.unit c.args.number (form_of c.args.form.now), (subst (λ (h : Home). StandsFor c.seed_as.new.work c.in-Ok.tree (seeded_as c.args.unit h (datum_of c.args.form.now.datum))) c.home_in-home.ensures c.in-Ok.ensures.tree)), (c.args.bench.now.region.in_pool.number, c.in-Ok.ensures.region, itself))

pub returns-in-Ok-clause-stands : goal.returns-in-Ok-clause-stands
returns-in-Ok-clause-stands c = λ ls s notes h. stands_in c.args.bench.now c.seed_as.new.work c.in-Ok.ensures.keeps c.in-Ok.ensures.old_names c.told_apart.ensures.idents c.told_apart.ensures.symbols ls s notes h

pub returns-in-Ok-clause-stays : goal.returns-in-Ok-clause-stays
returns-in-Ok-clause-stays c =
    let b = c.args.bench.now in
    let m : Bench = record { work = c.seed_as.new.work; region = b.region; scope = b.scope } in
    stays_by b m c.requires.region refl c.in-Ok.ensures.keeps c.in-Ok.ensures.old_names c.in-Ok.ensures.added c.in-Ok.ensures.regions refl refl refl
