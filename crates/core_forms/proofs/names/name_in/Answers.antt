use Rattle.std.proofs.Common.{ap, refl, subst}
use Rattle.std.specs.Prelude.{◌≡◌, Some}
use Rattle.scheme_model.specs.ExpansionFaults.{named}
use Rattle.scheme_model.specs.Shapes.{name_of}
use Rattle.syntax_tree.specs.Standing.{leaf_tree}
use Rattle.syntax_tree.specs.declared.trees.nodes.Leaf.{Leaf}
use Rattle.core_forms.proofs.Words.{leaf_name, no_name_of}
use Rattle.core_forms.proofs.names.name_in.Goals as goal

pub returns-in-Name : goal.returns-in-Name
returns-in-Name c = λ t h.
    let names = c.args.work.now.symbols in
    let l = leaf_name names c.in-Name.ident c.args.occ t (subst (λ (x : Leaf). leaf_tree names x c.args.occ ≡ Some t) c.in-Name.is h) in
    (named l.0 c.args.occ, ap name_of l.1, (l.2, refl))

pub returns-in-Numeral : goal.returns-in-Numeral
returns-in-Numeral c = λ t h. no_name_of c.args.work.now.symbols c.args.leaf _ c.args.occ t c.in-Numeral.is tt h

pub returns-in-Quoted : goal.returns-in-Quoted
returns-in-Quoted c = λ t h. no_name_of c.args.work.now.symbols c.args.leaf _ c.args.occ t c.in-Quoted.is tt h

pub returns-in-Char : goal.returns-in-Char
returns-in-Char c = λ t h. no_name_of c.args.work.now.symbols c.args.leaf _ c.args.occ t c.in-Char.is tt h

pub returns-in-Bool : goal.returns-in-Bool
returns-in-Bool c = λ t h. no_name_of c.args.work.now.symbols c.args.leaf _ c.args.occ t c.in-Bool.is tt h

pub returns-in-Bytes : goal.returns-in-Bytes
returns-in-Bytes c = λ t h. no_name_of c.args.work.now.symbols c.args.leaf _ c.args.occ t c.in-Bytes.is tt h
