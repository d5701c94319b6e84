use Rattle.std.proofs.Common.{rules, arith, ◌-◌, [], ◌∷◌, ◌++◌, sym, ap, ◌∙◌}
use Rattle.std.proofs.lemmas.List.{append-nil}
use Rattle.std.proofs.lemmas.Option.{slice_get_within}
use Rattle.scheme_model.specs.RulesShape.{role_of}
use Rattle.scheme_model.specs.Matching.{names_in, names_among, names_behind, variable_name}
use Rattle.syntax_tree.specs.Macros.{identifiers}
use Rattle.syntax_tree.proofs.Looking.{vector_parts_within, list_parts_within, end_within, within_positive, part_there, part_within, split_one, behind_past}
use Rattle.rules_match.proofs.Parts.{tail_within, end_dotted, end_proper}
use Rattle.rules_match.proofs.VariableLaws.{columns_one, columns_both, columns_same, variables_more, variables_all}
use Rattle.rules_match.proofs.matching.Matcher.+columns.Goals as goal

pub columns-role-requires : goal.columns-role-requires
columns-role-requires t c =
    let q = c.in-Name.ensures.look c.requires.pattern.0 c.requires.pattern.1 in
    slice_get_within c.args.self.now.work.now.symbols.idents c.in-Name.variable q.0 q.3

pub columns-returns-in_ok-push-in-Variable : goal.columns-returns-in_ok-push-in-Variable
columns-returns-in_ok-push-in-Variable t c = λ r same p knows ps.
    let w = c.args.self.now.work.now in
    let q = c.in-Name.ensures.look p ps in
    let e = c.in-Variable.ensures r q.0 knows.tells q.3 in
    columns_same w c.args.columns.now c.push.new.self (q.0 ∷ []) (names_in (role_of identifiers r) p) (ap (λ x. variable_name x q.0) e ∙ ap (names_in (role_of identifiers r)) (sym q.2))
    (columns_one w c.args.columns.now c.push.new.self (record { variable = c.in-Name.variable; values = c.new-values.result }) q.0 c.in_ok-push-in-Variable.ensures.items c.new-values.ensures.items q.3)

pub columns-columns_among-requires-in-Vector : goal.columns-columns_among-requires-in-Vector
columns-columns_among-requires-in-Vector t c =
    let w = c.args.self.now.work.now in
    let p = c.requires.pattern in
    let q = c.in-Vector.ensures.look p.0 p.1 in
    let deep = within_positive w c.args.pattern c.args.left p in
    (first_of (omega arith, search rules, grind arith), (c.requires.knows, vector_parts_within w c.args.left p.0 c.in-Vector.parts.now q.0 q.1 p.2 q.2 q.3))

pub columns-returns-in_ok-columns_among-in-Vector : goal.columns-returns-in_ok-columns_among-in-Vector
columns-returns-in_ok-columns_among-in-Vector t c = λ r same p knows ps.
    let w = c.args.self.now.work.now in
    let q = c.in-Vector.ensures.look p ps in
    columns_same w c.args.columns.now c.columns_among-in-Vector.new.columns (names_among (role_of identifiers r) q.0) (names_in (role_of identifiers r) p) (ap (names_in (role_of identifiers r)) (sym q.2))
    (c.in_ok-columns_among-in-Vector.ensures r same q.0 knows q.3)

pub columns-columns_among-requires : goal.columns-columns_among-requires
columns-columns_among-requires t c =
    let w = c.args.self.now.work.now in
    let p = c.requires.pattern in
    let q = c.in-List.ensures.look p.0 p.1 in
    let deep = within_positive w c.args.pattern c.args.left p in
    (first_of (omega arith, search rules, grind arith), (c.requires.knows, list_parts_within w c.args.left p.0 c.in-List.parts.now q.0 q.1 q.2 p.2 q.3 q.4))

pub columns-columns-requires : goal.columns-columns-requires
columns-columns-requires t c =
    let w = c.args.self.now.work.now in
    let p = c.requires.pattern in
    let q = c.in-List.ensures.look p.0 p.1 in
    let deep = within_positive w c.args.pattern c.args.left p in
    (first_of (omega arith, search rules, grind arith), (c.requires.knows, tail_within w c.in-List.tail c.in-Some.tail (c.args.left - 1) c.in-Some.is (end_within w c.args.left p.0 c.in-List.tail q.0 q.1 q.2 p.2 q.3 q.5)))

pub columns-returns-in-None : goal.columns-returns-in-None
columns-returns-in-None t c = λ r same p knows ps.
    let w = c.args.self.now.work.now in
    let role = role_of identifiers r in
    let q = c.in-List.ensures.look p ps in
    let e = end_proper w c.in-List.tail q.1 c.in-None.is q.5 in
    columns_same w c.args.columns.now c.columns_among.new.columns (names_among role q.0) (names_in role p)
    (sym (append-nil (names_among role q.0)) ∙ ap (λ x. names_among role q.0 ++ names_behind role x) (sym e) ∙ ap (names_in role) (sym q.3)) (c.in_ok-columns_among-in-List.ensures r same q.0 knows q.4)

pub columns-returns-in_ok-columns-in-Some : goal.columns-returns-in_ok-columns-in-Some
columns-returns-in_ok-columns-in-Some t c = λ r same p knows ps.
    let w = c.args.self.now.work.now in
    let role = role_of identifiers r in
    let q = c.in-List.ensures.look p ps in
    let e = end_dotted w c.in-List.tail q.1 c.in-Some.tail c.in-Some.is q.5 in
    columns_same w c.args.columns.now c.columns.new.columns (names_among role q.0 ++ names_in role e.0) (names_in role p) (ap (λ x. names_among role q.0 ++ names_behind role x) (sym e.1) ∙ ap (names_in role) (sym q.3))
    (columns_both w c.args.columns.now c.columns_among.new.columns c.columns.new.columns (names_among role q.0) (names_in role e.0) (c.in_ok-columns_among-in-List.ensures r same q.0 knows q.4) (c.in_ok-columns-in-Some.ensures r same e.0 knows e.3))

pub columns_among-columns-requires : goal.columns_among-columns-requires
columns_among-columns-requires t c =
    (first_of (omega arith, search rules, grind arith), (c.requires.knows, part_within c.args.self.now.work.now c.args.parts.now c.args.left c.loop-part.part-index _ c.requires.parts c.loop-part-test.true))

pub columns_among-loop-part-preserved : goal.columns_among-loop-part-preserved
columns_among-loop-part-preserved t c = λ r same ps knows stands.
    let w = c.args.self.now.work.now in
    let k = c.loop-part.part-index in
    let n = part_there w k c.args.parts.now ps (record { number = 0 }) stands c.loop-part-test.true in
    variables_more w c.args.columns.now c.loop-part.columns c.columns.new.columns (role_of identifiers r) ps k n.part (c.loop-part.invariant r same ps knows stands) (split_one w k ps _ n) (c.in_ok-columns.ensures r same n.part knows n.stands)

pub columns_among-returns : goal.columns_among-returns
columns_among-returns t c = λ r same ps knows stands.
    let w = c.args.self.now.work.now in
    let k = c.loop-part.part-index in
    variables_all w c.args.columns.now c.loop-part.columns (role_of identifiers r) ps k (c.loop-part.invariant r same ps knows stands) (behind_past w k c.args.parts.now ps stands c.loop-part-test.false)
