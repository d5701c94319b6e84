use Rattle.std.proofs.Common.{◌≡◌, Some, ap, ◌∙◌, sym, subst}
use Rattle.std.proofs.lemmas.Option.{slice_get_within}
use Rattle.scheme_model.specs.Trees.{atom, Numeral}
use Rattle.scheme_model.specs.Requirements.{part_in}
use Rattle.scheme_model.specs.Ident.{Ident as Identifier}
use Rattle.syntax_tree.specs.Standing.{leaf_tree}
use Rattle.syntax_tree.specs.declared.trees.nodes.Leaf.{Leaf}
use Rattle.std.proofs.lemmas.Option.{same_Some}
use Rattle.feature_requirements.specs.Judged.{map_ok, part_text}
use Rattle.feature_requirements.proofs.JudgeLaws.{numeral_leaf, other_leaf_of, reads_same}
use Rattle.feature_requirements.proofs.libraries.leaf_text.Goals as goal

pub name-requires : goal.name-requires
name-requires c =
    let names = c.args.work.now.symbols in
    let l = numeral_leaf names c.in-Numeral.symbol c.requires.1.0 c.requires.0 (subst (λ (x : Leaf). leaf_tree names x c.requires.1.0 ≡ Some (atom c.requires.0 c.requires.1.0)) c.in-Numeral.is c.requires.1.1) in
    slice_get_within names.symbols c.in-Numeral.symbol l.0 l.2

pub returns-in-Numeral : goal.returns-in-Numeral
returns-in-Numeral c = λ a o h.
    let names = c.args.work.now.symbols in
    let l = numeral_leaf names c.in-Numeral.symbol o a (subst (λ (x : Leaf). leaf_tree names x o ≡ Some (atom a o)) c.in-Numeral.is h) in
    let same = same_Some c.name.result.now l.0 (sym c.name.ensures ∙ l.2) in
    reads_same (λ t. t) c.digits.result (map_ok part_text (part_in {A = Identifier} (Numeral c.name.result.now))) (map_ok part_text (part_in {A = Identifier} a))
    (ap (λ x. map_ok part_text (part_in {A = Identifier} x)) (l.1 ∙ ap Numeral (sym same))) c.digits.ensures

pub returns-in-Name : goal.returns-in-Name
returns-in-Name c = λ a o h. other_leaf_of c.args.work.now.symbols c.args.leaf _ o a c.in-Name.is tt h

pub returns-in-Quoted : goal.returns-in-Quoted
returns-in-Quoted c = λ a o h. other_leaf_of c.args.work.now.symbols c.args.leaf _ o a c.in-Quoted.is tt h

pub returns-in-Char : goal.returns-in-Char
returns-in-Char c = λ a o h. other_leaf_of c.args.work.now.symbols c.args.leaf _ o a c.in-Char.is tt h

pub returns-in-Bool : goal.returns-in-Bool
returns-in-Bool c = λ a o h. other_leaf_of c.args.work.now.symbols c.args.leaf _ o a c.in-Bool.is tt h

pub returns-in-Bytes : goal.returns-in-Bytes
returns-in-Bytes c = λ a o h. other_leaf_of c.args.work.now.symbols c.args.leaf _ o a c.in-Bytes.is tt h
