use Rattle.std.proofs.Common.{◌≤◌, ◌∙◌, length, take, sym, ap, subst}
use Rattle.syntax_tree.specs.Names.{Names, StandBeside}
use Rattle.syntax_tree.proofs.ShorterTables.{AreLeft, tables_taken}
use Rattle.syntax_tree.proofs.symbols.Symbols.back_to.Goals as goal

pub invariant_of-self : goal.invariant_of-self
invariant_of-self c =
    (tables_taken c.self.inside.names c.truncate.new.self c.self.inside.idents c.truncate-2.new.self c.args.symbols c.args.idents c.self.invariant c.truncate.ensures.keys c.truncate-2.ensures.entries
    (subst (λ (n : Names). c.args.symbols ≤ length n.symbols) (sym c.self.view_is) c.requires.few_symbols)
    (subst (λ (n : Names). c.args.idents ≤ length n.idents) (sym c.self.view_is) c.requires.few_idents)
    (subst (λ (n : Names). StandBeside n c.args.symbols c.args.idents) (sym c.self.view_is) c.requires.beside)).tables

pub returns-clause-symbols : goal.returns-clause-symbols
returns-clause-symbols c =
    (tables_taken c.self.inside.names c.truncate.new.self c.self.inside.idents c.truncate-2.new.self c.args.symbols c.args.idents c.self.invariant c.truncate.ensures.keys c.truncate-2.ensures.entries
    (subst (λ (n : Names). c.args.symbols ≤ length n.symbols) (sym c.self.view_is) c.requires.few_symbols)
    (subst (λ (n : Names). c.args.idents ≤ length n.idents) (sym c.self.view_is) c.requires.few_idents)
    (subst (λ (n : Names). StandBeside n c.args.symbols c.args.idents) (sym c.self.view_is) c.requires.beside)).left_symbols
    ∙ ap (λ (n : Names). take c.args.symbols n.symbols) c.self.view_is

pub returns-clause-idents : goal.returns-clause-idents
returns-clause-idents c =
    (tables_taken c.self.inside.names c.truncate.new.self c.self.inside.idents c.truncate-2.new.self c.args.symbols c.args.idents c.self.invariant c.truncate.ensures.keys c.truncate-2.ensures.entries
    (subst (λ (n : Names). c.args.symbols ≤ length n.symbols) (sym c.self.view_is) c.requires.few_symbols)
    (subst (λ (n : Names). c.args.idents ≤ length n.idents) (sym c.self.view_is) c.requires.few_idents)
    (subst (λ (n : Names). StandBeside n c.args.symbols c.args.idents) (sym c.self.view_is) c.requires.beside)).left_idents
    ∙ ap (λ (n : Names). take c.args.idents n.idents) c.self.view_is
