use Rattle.std.proofs.Common.{◌<◌, List, [], sym, ◌∙◌, subst, arith}
use Rattle.scheme_model.specs.Trees.{list, tree}
use Rattle.scheme_model.specs.RulesShape.{role_of, dots_of}
use Rattle.scheme_model.specs.Matching.{compared}
use Rattle.syntax_tree.specs.Macros.{identifiers, RulesFor, AreChecked}
use Rattle.syntax_tree.specs.declared.rules.IdPair.{IdPair}
use Rattle.rules_match.specs.Matches.{ArePairs}
use Rattle.scheme_model.specs.Order.{Note}
use Rattle.scheme_model.specs.ScopedExpansion.{FramedIdent}
use Rattle.core_tree.specs.Names.{AllMatch}
use Rattle.unit_scopes.specs.Outcomes.{At}
use Rattle.unit_scopes.specs.Used.{ComparisonFor}
use Rattle.unit_scopes.specs.declared.uses.Comparison.{Comparison}
use Rattle.unit_scopes.specs.declared.macros.Macro.{Macro}
use Rattle.unit_scopes.proofs.UseLaws.{macro_there, copied_is, copied_some, none_compared, each_compared}
use Rattle.unit_scopes.proofs.scope.UnitScope.compare.Goals as goal

pub returns-in_default : goal.returns-in_default
returns-in_default c = λ known ls s fs keyword m ts tail stands at for.
    let k = macro_there c.args.work.now c.args.self.now ls s c.args.at keyword m ts tail stands for in
    copied_some c.meaning.result k.0 (c.meaning.ensures ∙ k.1) c.in_default.not-Some

pub literal_pairs-requires-clause-rules : goal.literal_pairs-requires-clause-rules
literal_pairs-requires-clause-rules c =
    let l = c.requires in
    let k = macro_there c.args.work.now c.args.self.now l.layout l.state c.args.at l.keyword l.transformer l.parts l.tail l.stands l.used in
    subst (λ (x : Macro). AreChecked c.args.work.now x.rules) (copied_is c.meaning.result c.in-Some.used k.0 c.in-Some.is (c.meaning.ensures ∙ k.1)) k.2.checked

pub literal_pairs-requires-clause-form : goal.literal_pairs-requires-clause-form
literal_pairs-requires-clause-form c = let l = c.requires in (list (tree l.used.head l.parts) l.tail l.used.place, l.used.form)

pub compare_each-requires-clause-literals : goal.compare_each-requires-clause-literals
compare_each-requires-clause-literals c =
    let l = c.requires in
    let k = macro_there c.args.work.now c.args.self.now l.layout l.state c.args.at l.keyword l.transformer l.parts l.tail l.stands l.used in
    let same = copied_is c.meaning.result c.in-Some.used k.0 c.in-Some.is (c.meaning.ensures ∙ k.1) in
    record { layout = l.layout; state = l.state; frames = l.transformer.env; stands = l.stands; at = subst (λ (x : Macro). At l.layout x.scope l.transformer.env) same k.2.scope }

pub compare_each-requires-clause-look : goal.compare_each-requires-clause-look
compare_each-requires-clause-look c = let l = c.requires in record { layout = l.layout; state = l.state; frames = l.frames; stands = l.stands; at = l.there }

pub compare_each-requires-clause-pairs : goal.compare_each-requires-clause-pairs
compare_each-requires-clause-pairs c =
    let l = c.requires in let w = c.args.work.now in
    let k = macro_there w c.args.self.now l.layout l.state c.args.at l.keyword l.transformer l.parts l.tail l.stands l.used in
    let m = l.transformer in
    let rules = subst (λ (x : Macro). RulesFor w x.rules m.rules) (copied_is c.meaning.result c.in-Some.used k.0 c.in-Some.is (c.meaning.ensures ∙ k.1)) k.2.rules in
    let qs = compared (role_of identifiers m.rules) (dots_of identifiers m.rules) m.rules.rules l.parts l.tail in
    (qs, subst (λ (ps : List IdPair). ArePairs w ps qs) (sym c.as_slice.ensures) (c.in_ok-pairs.ensures m.rules (list (tree l.used.head l.parts) l.tail l.used.place) rules l.used.form))

pub returns : goal.returns
returns c = λ known ls s fs keyword m ts tail stands at for.
    let w = c.args.work.now in
    let k = macro_there w c.args.self.now ls s c.args.at keyword m ts tail stands for in
    let same = copied_is c.meaning.result c.in-Some.used k.0 c.in-Some.is (c.meaning.ensures ∙ k.1) in
    let rules = subst (λ (x : Macro). RulesFor w x.rules m.rules) same k.2.rules in
    let there = subst (λ (x : Macro). At ls x.scope m.env) same k.2.scope in
    let qs = compared (role_of identifiers m.rules) (dots_of identifiers m.rules) m.rules.rules ts tail in
    let pairs = subst (λ (ps : List IdPair). ArePairs w ps qs) (sym c.as_slice.ensures) (c.in_ok-pairs.ensures m.rules (list (tree for.head ts) tail for.place) rules for.form) in
    let few : c.args.self.now.form.budget.uses < 10000 = let most = stands.form.few_uses in omega (arith, most, c.if-self-eq-MAX_USES.false) in (
      there,
      subst (λ (ns : List (Note FramedIdent)). AllMatch (ComparisonFor w ls c.in-Some.used.now.scope c.args.at.scope) c.in_ok-comparisons.comparisons.items ns) (sym (each_compared known w c.args.self.now ls s fs m ts tail stands few))
          (c.in_ok-comparisons.ensures ls s m.env fs qs stands there at pairs),
    )

pub returns-then-self-eq-MAX_USES : goal.returns-then-self-eq-MAX_USES
returns-then-self-eq-MAX_USES c = λ known ls s fs keyword m ts tail stands at for.
    let w = c.args.work.now in
    let k = macro_there w c.args.self.now ls s c.args.at keyword m ts tail stands for in
    let same = copied_is c.meaning.result c.in-Some.used k.0 c.in-Some.is (c.meaning.ensures ∙ k.1) in (
      subst (λ (x : Macro). At ls x.scope m.env) same k.2.scope,
      subst (λ (ns : List (Note FramedIdent)). AllMatch (ComparisonFor w ls c.in-Some.used.now.scope c.args.at.scope) c.new-then-self-eq-MAX_USES.result.items ns) (sym (none_compared known w c.args.self.now ls s fs m ts tail stands c.if-self-eq-MAX_USES.true))
          (subst (λ (cs : List Comparison). AllMatch (ComparisonFor w ls c.in-Some.used.now.scope c.args.at.scope) cs []) (sym c.new-then-self-eq-MAX_USES.ensures.items) tt),
    )
