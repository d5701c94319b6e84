use Rattle.std.proofs.Common.{arith}
use Rattle.syntax_tree.proofs.Looking.{depth_positive, list_parts_within, end_within}
use Rattle.rules_match.proofs.RuleLaws.{rule_standing, pattern_parts, list_is}
use Rattle.rules_match.proofs.pairs.compare_rule.Goals as goal

pub depth-depth-requires : goal.depth-depth-requires
depth-depth-requires c = rule_standing c.args.work.now c.args.rule c.requires.rule.0 c.requires.rule.1

pub look_at-requires : goal.look_at-requires
look_at-requires c = rule_standing c.args.work.now c.args.rule c.requires.rule.0 c.requires.rule.1

pub overflow_sub-depth : goal.overflow_sub-depth
overflow_sub-depth c =
    let s = rule_standing c.args.work.now c.args.rule c.requires.rule.0 c.requires.rule.1 in
    let d = c.depth-depth.ensures s.0 s.1 in
    let p = depth_positive s.0 in
    omega arith

pub compare_list-requires-clause-pattern : goal.compare_list-requires-clause-pattern
compare_list-requires-clause-pattern c =
    let w = c.args.work.now in
    let s = rule_standing w c.args.rule c.requires.rule.0 c.requires.rule.1 in
    let d = c.depth-depth.ensures s.0 s.1 in
    let l = c.in-List.ensures.look s.0 s.1 in
    record {
      parts = list_parts_within w c.depth-depth.result s.0 c.in-List.items.now l.0 l.1 l.2 (omega arith) l.3 l.4;
      tail = end_within w c.depth-depth.result s.0 c.in-List.end l.0 l.1 l.2 (omega arith) l.3 l.5;
    }

pub returns-in_ok-compare_list-in-List : goal.returns-in_ok-compare_list-in-List
returns-in_ok-compare_list-in-List c = λ r m ts end tells is row.
    let w = c.args.work.now in
    let s = rule_standing w c.args.rule m is in
    let l = c.in-List.ensures.look s.0 s.1 in
    let parts = pattern_parts w c.args.rule m is in
    let q = list_is w c.in-List.items.now c.in-List.end parts l.0 m.tail l.1 is.place l.2 l.3 l.4 l.5 in
    c.in_ok-compare_list-in-List.ensures r parts m.tail ts end tells (record { parts = q.0; tail = q.1 }) row

pub returns-in-Name : goal.returns-in-Name
returns-in-Name c = λ r m ts end tells is row.
    let s = rule_standing c.args.work.now c.args.rule m is in
    let l = c.in-Name.ensures.look s.0 s.1 in
    let e = l.2 in
    absurd cc

pub returns-in-Atom : goal.returns-in-Atom
returns-in-Atom c = λ r m ts end tells is row.
    let s = rule_standing c.args.work.now c.args.rule m is in
    let l = c.in-Atom.ensures.look s.0 s.1 in
    let e = l.2 in
    absurd cc

pub returns-in-Vector : goal.returns-in-Vector
returns-in-Vector c = λ r m ts end tells is row.
    let s = rule_standing c.args.work.now c.args.rule m is in
    let l = c.in-Vector.ensures.look s.0 s.1 in
    let e = l.2 in
    absurd cc
