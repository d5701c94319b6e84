use Rattle.std.proofs.Common.{◌∙◌, subst}
use Rattle.syntax_tree.specs.Meant.{IsMeaning}
use Rattle.syntax_tree.specs.declared.meaning.Meaning.{Meaning}
use Rattle.program_leaves.proofs.SightLaws.{global_law}
use Rattle.program_leaves.proofs.sight.Sight.binder_of.Goals as goal

pub returns-in-Global : goal.returns-in-Global
returns-in-Global c = λ work ls ks ms table m sees is.
    c.global_at.ensures ∙ global_law work c.args.self.now ls ks ms table c.in-Global.unit c.in-Global.ident c.args.at.unit c.args.at.form m sees (subst (λ (x : Meaning). IsMeaning work.symbols c.args.at.unit c.args.at.form x m) c.in-Global.is is)
