use Rattle.std.proofs.Common.{List, sym, ap, ◌∙◌, subst}
use Rattle.std.specs.Option.{option_copied}
use Rattle.scheme_model.specs.Expression.{meaning_of}
use Rattle.scheme_model.specs.Leaves.{leaves_of}
use Rattle.scheme_model.specs.ScopedExpansion.{macro_at}
use Rattle.syntax_tree.specs.Macros.{identifiers, RulesFor}
use Rattle.syntax_tree.specs.declared.rules.Rules as code_rules
use Rattle.rules_check.specs.Gathered.{AreLeaves}
use Rattle.rules_check.specs.declared.leaf.RuleLeaf.{RuleLeaf}
use Rattle.unit_scopes.specs.Macros.{macro_in}
use Rattle.unit_scopes.proofs.SyntaxLaws.{nothing_copied, means_macro, macro_found, macro_none, no_def, a_def}
use Rattle.unit_scopes.proofs.scope.UnitScope.macro_def.Goals as goal

pub rule_leaves-requires-clause-look : goal.rule_leaves-requires-clause-look
rule_leaves-requires-clause-look c =
    let w = c.args.work.now in let u = c.args.self.now in let l = c.requires in
    let o = macro_in u.macros u.form.number c.args.meaning in
    let m = macro_found w l.layout o c.in-Some.defined.now (macro_at l.state.macros l.meaning) (sym c.meaning.ensures ∙ ap option_copied c.in-Some.is) (means_macro w u l.layout l.state c.args.meaning l.meaning l.stands l.means) in
    record { layout = l.layout; state = l.state; frames = m.0.env; stands = l.stands; at = m.2.scope }

pub rule_leaves-requires-clause-leaves : goal.rule_leaves-requires-clause-leaves
rule_leaves-requires-clause-leaves c =
    let w = c.args.work.now in let u = c.args.self.now in let l = c.requires in
    let o = macro_in u.macros u.form.number c.args.meaning in
    let m = macro_found w l.layout o c.in-Some.defined.now (macro_at l.state.macros l.meaning) (sym c.meaning.ensures ∙ ap option_copied c.in-Some.is) (means_macro w u l.layout l.state c.args.meaning l.meaning l.stands l.means) in
    let ms = leaves_of identifiers m.0.rules in
    (ms, subst (λ (xs : List RuleLeaf). AreLeaves w.symbols xs ms) (sym c.as_slice.ensures.value) m.2.leaves)

pub returns-in_default : goal.returns-in_default
returns-in_default c = λ known ls s b stands binder means.
    let w = c.args.work.now in let u = c.args.self.now in
    let none = nothing_copied c.meaning.result c.in_default.not-Some in
    no_def known w s b (record { binder = c.args.binder; rules = c.no_rules.result; leaves = c.new.result }) binder
    (macro_none w ls (macro_in u.macros u.form.number c.args.meaning) (macro_at s.macros (meaning_of b.bound b.ident)) (sym c.meaning.ensures ∙ none) (means_macro w u ls s c.args.meaning (meaning_of b.bound b.ident) stands means)) c.no_rules.ensures c.new.ensures.items

pub returns : goal.returns
returns c = λ known ls s b stands binder means.
    let w = c.args.work.now in let u = c.args.self.now in
    let o = macro_in u.macros u.form.number c.args.meaning in
    let m = macro_found w ls o c.in-Some.defined.now (macro_at s.macros (meaning_of b.bound b.ident)) (sym c.meaning.ensures ∙ ap option_copied c.in-Some.is) (means_macro w u ls s c.args.meaning (meaning_of b.bound b.ident) stands means) in
    let ms = leaves_of identifiers m.0.rules in
    let leaves = subst (λ (xs : List RuleLeaf). AreLeaves w.symbols xs ms) (sym c.as_slice.ensures.value) m.2.leaves in
    a_def known w s b (record { binder = c.args.binder; rules = c.in_ok-rules.rules; leaves = c.in_ok-leaves.leaves }) m.0 binder m.1 (subst (λ (x : code_rules.Rules). RulesFor w x m.0.rules) (sym c.in_ok-rules.ensures) m.2.rules)
    (c.in_ok-leaves.ensures ls s m.0.env ms stands m.2.scope leaves)
