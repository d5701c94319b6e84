use Rattle.std.proofs.Common.{arith, subst}
use Rattle.scheme_model.specs.Matching.{matcher, match_rest}
use Rattle.syntax_tree.specs.Macros.{identifiers}
use Rattle.syntax_tree.proofs.Looking.{depth_positive, list_parts_within, end_within}
use Rattle.rules_match.specs.Found.{FindsParts}
use Rattle.rules_match.proofs.RuleLaws.{rule_standing, pattern_parts, list_is}
use Rattle.rules_match.proofs.Adding.{parts_then}
use Rattle.rules_match.proofs.matching.Matcher.rule.Goals as goal

pub depth-depth-requires : goal.depth-depth-requires
depth-depth-requires c = rule_standing c.args.self.now.work.now c.args.rule c.requires.rule.0 c.requires.rule.1

pub look_at-requires : goal.look_at-requires
look_at-requires c = rule_standing c.args.self.now.work.now c.args.rule c.requires.rule.0 c.requires.rule.1

pub overflow_sub-depth : goal.overflow_sub-depth
overflow_sub-depth c =
    let s = rule_standing c.args.self.now.work.now c.args.rule c.requires.rule.0 c.requires.rule.1 in
    let d = c.depth-depth.ensures s.0 s.1 in
    let p = depth_positive s.0 in
    omega arith

pub parts-requires-clause-pattern : goal.parts-requires-clause-pattern
parts-requires-clause-pattern c =
    let w = c.args.self.now.work.now in
    let s = rule_standing w c.args.rule c.requires.rule.0 c.requires.rule.1 in
    let d = c.depth-depth.ensures s.0 s.1 in
    let l = c.in-List.ensures.look s.0 s.1 in
    list_parts_within w c.depth-depth.result s.0 c.in-List.parts.now l.0 l.1 l.2 (omega arith) l.3 l.4

pub overflow_sub-depth-in-Some : goal.overflow_sub-depth-in-Some
overflow_sub-depth-in-Some c =
    let s = rule_standing c.args.self.now.work.now c.args.rule c.requires.rule.0 c.requires.rule.1 in
    let d = c.depth-depth.ensures s.0 s.1 in
    let p = depth_positive s.0 in
    omega arith

pub rest-requires-clause-tail : goal.rest-requires-clause-tail
rest-requires-clause-tail c =
    let w = c.args.self.now.work.now in
    let s = rule_standing w c.args.rule c.requires.rule.0 c.requires.rule.1 in
    let d = c.depth-depth.ensures s.0 s.1 in
    let l = c.in-List.ensures.look s.0 s.1 in
    end_within w c.depth-depth.result s.0 c.in-List.tail l.0 l.1 l.2 (omega arith) l.3 l.5

pub returns-in_ok-rest-in-Some-clause-finds : goal.returns-in_ok-rest-in-Some-clause-finds
returns-in_ok-rest-in-Some-clause-finds c = λ r same m ts end knows is row.
    let w = c.args.self.now.work.now in
    let model = matcher identifiers r same in
    let s = rule_standing w c.args.rule m is in
    let l = c.in-List.ensures.look s.0 s.1 in
    let parts = pattern_parts w c.args.rule m is in
    let q = list_is w c.in-List.parts.now c.in-List.tail parts l.0 m.tail l.1 is.place l.2 l.3 l.4 l.5 in
    let a = subst (FindsParts w model parts ts 1 c.args.found.now c.parts.new.found) c.in-Some.is (c.in_ok-at-in-List.ensures.finds r same parts ts knows q.0 row.stands.parts) in
    parts_then w model parts ts 1 c.in-Some.at c.args.found.now c.parts.new.found c.rest.new.found (match_rest model m.tail) end c.in_ok-rest-in-Some.field-0 a (c.in_ok-rest-in-Some.ensures.finds r same m.tail ts end knows q.1 row)

pub returns-in-None-clause-finds : goal.returns-in-None-clause-finds
returns-in-None-clause-finds c = λ r same m ts end knows is row.
    let w = c.args.self.now.work.now in
    let model = matcher identifiers r same in
    let s = rule_standing w c.args.rule m is in
    let l = c.in-List.ensures.look s.0 s.1 in
    let parts = pattern_parts w c.args.rule m is in
    let q = list_is w c.in-List.parts.now c.in-List.tail parts l.0 m.tail l.1 is.place l.2 l.3 l.4 l.5 in
    let a = subst (FindsParts w model parts ts 1 c.args.found.now c.parts.new.found) c.in-None.is (c.in_ok-at-in-List.ensures.finds r same parts ts knows q.0 row.stands.parts) in
    a (match_rest model m.tail) end

pub returns-in-Name-clause-finds : goal.returns-in-Name-clause-finds
returns-in-Name-clause-finds c = λ r same m ts end knows is row.
    let s = rule_standing c.args.self.now.work.now c.args.rule m is in
    let l = c.in-Name.ensures.look s.0 s.1 in
    let e = l.2 in
    absurd cc

pub returns-in-Atom-clause-finds : goal.returns-in-Atom-clause-finds
returns-in-Atom-clause-finds c = λ r same m ts end knows is row.
    let s = rule_standing c.args.self.now.work.now c.args.rule m is in
    let l = c.in-Atom.ensures.look s.0 s.1 in
    let e = l.2 in
    absurd cc

pub returns-in-Vector-clause-finds : goal.returns-in-Vector-clause-finds
returns-in-Vector-clause-finds c = λ r same m ts end knows is row.
    let s = rule_standing c.args.self.now.work.now c.args.rule m is in
    let l = c.in-Vector.ensures.look s.0 s.1 in
    let e = l.2 in
    absurd cc

pub returns-in_ok-rest-in-Some-clause-named : goal.returns-in_ok-rest-in-Some-clause-named
returns-in_ok-rest-in-Some-clause-named c = λ region can row h. c.in_ok-rest-in-Some.ensures.named region can row (c.in_ok-at-in-List.ensures.named region row.0 h)

pub returns-in-None-clause-named : goal.returns-in-None-clause-named
returns-in-None-clause-named c = λ region can row h. c.in_ok-at-in-List.ensures.named region row.0 h
