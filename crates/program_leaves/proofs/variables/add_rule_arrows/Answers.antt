use Rattle.std.proofs.Common.{◌++◌, ◌+◌, List, Option, None, map, take, get_or, sym, ap, ◌∙◌, subst, arith}
use Rattle.std.specs.List.{flat_map}
use Rattle.scheme_model.specs.declared.Occ.{Occ}
use Rattle.scheme_model.specs.ExpansionFaults.{Named}
use Rattle.scheme_model.specs.Ident.{Ident as Identifier}
use Rattle.scheme_model.specs.Trees.{name, list, tree}
use Rattle.scheme_model.specs.RulesShape.{pattern_variables}
use Rattle.scheme_model.specs.ProgramArrows.{arrow_of, template_arrows}
use Rattle.syntax_tree.specs.declared.rules.Named as code
use Rattle.syntax_tree.specs.Macros.{identifiers}
use Rattle.syntax_tree.specs.Placed.{IsNamed}
use Rattle.core_tree.specs.Names.{AllMatch}
use Rattle.program_leaves.specs.Pairs.{as_arrow}
use Rattle.program_leaves.specs.Placed.{place_in}
use Rattle.program_leaves.specs.Variables.{place_among}
use Rattle.program_leaves.proofs.Growing.{grows_as, grows_twice, flat_next, flat_all}
use Rattle.program_leaves.proofs.VariableLaws.{variables_are, template_is}
use Rattle.program_leaves.proofs.variables.add_rule_arrows.Goals as goal

pub variables-requires : goal.variables-requires
variables-requires c = let m = c.requires.1 in (list (tree (name m.head m.head_place) c.requires.0.parts) c.requires.0.tail m.place, m.pattern)

pub names_of-requires : goal.names_of-requires
names_of-requires c = (c.requires.0.template, c.requires.1.template)

pub loop-name-preserved : goal.loop-name-preserved
loop-name-preserved c =
    let d : code.Named = record { ident = 0; occ = None } in
    let ns = c.as_slice-name-items.result.now in
    let k = c.loop-name.name-index in
    let n = get_or ns k d in
    let vs = c.in_ok-variables.variables.items in
    let place = c.place_at-binder.ensures ∙ ap place_in (c.in_ok-places.ensures n.ident ∙ ap (λ (xs : List code.Named). place_among xs n.ident) c.as_slice.ensures.value) in
    let mid = c.loop-name.pairs.items in
    let step = c.in_ok-add_arrow.ensures ∙ ap (λ (o : Option Occ). map as_arrow mid ++ arrow_of o n.occ) place in
    let g = λ (m : code.Named). arrow_of (place_in (place_among vs m.ident)) m.occ in
    grows_twice as_arrow c.args.pairs.now.items mid c.add_arrow.new.pairs.items (flat_map g (take k ns)) (g n) (flat_map g (take (k + 1) ns)) c.loop-name.invariant step (flat_next g ns k d (omega arith))

pub returns : goal.returns
returns c = λ r m tells is.
    let named = IsNamed c.args.work.now.symbols in
    let vs = c.in_ok-variables.variables.items in
    let ns = c.in_ok-names.names.items in
    let found = c.in_ok-variables.ensures r (list (tree (name is.head is.head_place) m.parts) m.tail is.place) tells is.pattern in
    let match = subst (λ (ms : List (Named Identifier)). AllMatch named vs ms) (variables_are r m) found in
    let all = template_is c.args.work.now.symbols c.told_apart.ensures.idents vs (pattern_variables identifiers r m) ns m.template match (c.in_ok-names.ensures m.template is.template) in
    let g = λ (x : code.Named). arrow_of (place_in (place_among vs x.ident)) x.occ in
    let whole = flat_all g c.as_slice-name-items.result.now c.loop-name.name-index (omega arith) ∙ ap (flat_map g) c.as_slice-name-items.ensures.value ∙ all in
    grows_as as_arrow c.args.pairs.now.items c.loop-name.pairs.items _ (template_arrows (pattern_variables identifiers r m) m.template) c.loop-name.invariant (sym whole)
