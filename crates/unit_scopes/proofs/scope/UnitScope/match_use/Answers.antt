use Rattle.std.proofs.Common.{Some, Err, ap, ◌∙◌, subst}
use Rattle.scheme_model.specs.Trees.{list, tree}
use Rattle.scheme_model.specs.Matching.{first_match, matcher}
use Rattle.syntax_tree.specs.Macros.{identifiers, RulesFor, AreChecked}
use Rattle.rules_match.specs.Matches.{means_same, Matches}
use Rattle.rules_match.specs.declared.fault.MatchFault.{MatchFault}
use Rattle.unit_scopes.specs.Used.{match_of_use}
use Rattle.unit_scopes.specs.declared.macros.Macro.{Macro}
use Rattle.unit_scopes.proofs.UseLaws.{macro_there, matches_same, found_is, nothing_is, copied_is, copied_some}
use Rattle.unit_scopes.proofs.scope.UnitScope.match_use.Goals as goal

pub returns-in_default-clause-found : goal.returns-in_default-clause-found
returns-in_default-clause-found c = λ ls s fs keyword m ts tail stands for held.
    let k = macro_there c.args.work.now c.args.self.now ls s c.args.at keyword m ts tail stands for in
    copied_some c.meaning.result k.0 (c.meaning.ensures ∙ k.1) c.in_default.not-Some

pub match_rules-requires-clause-rules : goal.match_rules-requires-clause-rules
match_rules-requires-clause-rules c =
    let l = c.requires in
    let k = macro_there c.args.work.now c.args.self.now l.layout l.state c.args.at l.keyword l.transformer l.parts l.tail l.stands l.used in
    subst (λ (x : Macro). AreChecked c.args.work.now x.rules) (copied_is c.meaning.result c.in-Some.used k.0 c.in-Some.is (c.meaning.ensures ∙ k.1)) k.2.checked

pub match_rules-requires-clause-form : goal.match_rules-requires-clause-form
match_rules-requires-clause-form c = let l = c.requires in (list (tree l.used.head l.parts) l.tail l.used.place, l.used.form)

pub returns-in-Ok-clause-found : goal.returns-in-Ok-clause-found
returns-in-Ok-clause-found c = λ ls s fs keyword m ts tail stands for held.
    let w = c.args.work.now in let same = c.args.same.now in
    let k = macro_there w c.args.self.now ls s c.args.at keyword m ts tail stands for in
    let rules = subst (λ (x : Macro). RulesFor w x.rules m.rules) (copied_is c.meaning.result c.in-Some.used k.0 c.in-Some.is (c.meaning.ensures ∙ k.1)) k.2.rules in
    found_is w m.rules (first_match (matcher identifiers m.rules (means_same w same)) m.rules.rules ts tail) (match_of_use s fs m ts tail) c.in-Ok.matched (matches_same w s fs m same ts tail held)
    (c.in-Ok.ensures.finds m.rules (list (tree for.head ts) tail for.place) rules for.form)

pub returns-in-Ok-clause-matched : goal.returns-in-Ok-clause-matched
returns-in-Ok-clause-matched c = λ region can.
    let l = c.requires in
    let k = macro_there c.args.work.now c.args.self.now l.layout l.state c.args.at l.keyword l.transformer l.parts l.tail l.stands l.used in
    let same = copied_is c.meaning.result c.in-Some.used k.0 c.in-Some.is (c.meaning.ensures ∙ k.1) in
    record {
      used = c.in-Some.used.now;
      macro = k.1 ∙ ap Some same;
      of_rules = c.in-Ok.ensures.matched region can;
      named = c.in-Ok.ensures.named region can;
    }

pub returns-in-Err-NoRule-clause-found : goal.returns-in-Err-NoRule-clause-found
returns-in-Err-NoRule-clause-found c = λ ls s fs keyword m ts tail stands for held.
    let w = c.args.work.now in let same = c.args.same.now in
    let k = macro_there w c.args.self.now ls s c.args.at keyword m ts tail stands for in
    let rules = subst (λ (x : Macro). RulesFor w x.rules m.rules) (copied_is c.meaning.result c.in-Some.used k.0 c.in-Some.is (c.meaning.ensures ∙ k.1)) k.2.rules in
    nothing_is w m.rules (first_match (matcher identifiers m.rules (means_same w same)) m.rules.rules ts tail) (match_of_use s fs m ts tail) (matches_same w s fs m same ts tail held)
    (subst (λ (x : MatchFault). Matches w m.rules (first_match (matcher identifiers m.rules (means_same w same)) m.rules.rules ts tail) (Err x)) c.in-Err-NoRule.field-0-is
    (c.in-Err-NoRule.ensures.finds m.rules (list (tree for.head ts) tail for.place) rules for.form))
