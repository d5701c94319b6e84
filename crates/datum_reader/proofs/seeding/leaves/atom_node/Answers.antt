use Rattle.std.proofs.Common.{Some, Ok, sym, subst}
use Rattle.scheme_model.specs.Trees.{Tree, name, atom, Numeral, Quoted}
use Rattle.scheme_model.specs.Data.{spelled}
use Rattle.scheme_model.specs.Ident.{Ident as Identifier, Written}
use Rattle.syntax_tree.specs.Names.{KeepsNames}
use Rattle.syntax_tree.specs.Interned.{interned}
use Rattle.datum_reader.specs.Views.{leaf_of}
use Rattle.datum_reader.specs.Seeded.{atom_tree}
use Rattle.datum_reader.proofs.LeafLaws.{name_is, numeral_is, quoted_is, interns_as, interns_err, interns_none, numeral_made, quoted_made}
use Rattle.datum_reader.proofs.seeding.leaves.atom_node.Goals as goal

pub returns-in_err-name_node-in-Name : goal.returns-in_err-name_node-in-Name
returns-in_err-name_node-in-Name c =
    let old = c.args.symbols.now in
    let new = c.name_node.new.symbols in
    let is = name_is c.args.unit c.args.occ c.args.atom.now c.in-Name.name c.as_str.result.now c.as_str.ensures c.as_str.utf8 c.in-Name.bars c.in-Name.is in
    interns_err old new (atom_tree c.args.unit (spelled (leaf_of c.args.atom.now)) c.args.occ) c.from_residual.result c.from_residual.ensures.0
    (subst (λ (x : Tree Identifier). KeepsNames old new × KeepsNames new (interned x old)) (sym is) c.in_err-name_node-in-Name.ensures)

pub returns-in_err-symbol-in-Numeral : goal.returns-in_err-symbol-in-Numeral
returns-in_err-symbol-in-Numeral c =
    interns_none c.args.symbols.now c.symbol.new.self (atom_tree c.args.unit (spelled (leaf_of c.args.atom.now)) c.args.occ) c.from_residual-in_err-symbol-in-Numeral.result c.from_residual-in_err-symbol-in-Numeral.ensures.0
    c.in_err-symbol-in-Numeral.ensures.err

pub returns-in_err-symbol-in-Quoted : goal.returns-in_err-symbol-in-Quoted
returns-in_err-symbol-in-Quoted c =
    interns_none c.args.symbols.now c.symbol-in-Quoted.new.self (atom_tree c.args.unit (spelled (leaf_of c.args.atom.now)) c.args.occ) c.from_residual-in_err-symbol-in-Quoted.result
    c.from_residual-in_err-symbol-in-Quoted.ensures.0 c.in_err-symbol-in-Quoted.ensures.err

pub returns-in_ok-name_node-in-Name : goal.returns-in_ok-name_node-in-Name
returns-in_ok-name_node-in-Name c =
    let is = name_is c.args.unit c.args.occ c.args.atom.now c.in-Name.name c.as_str.result.now c.as_str.ensures c.as_str.utf8 c.in-Name.bars c.in-Name.is in
    interns_as c.args.symbols.now c.name_node.new.symbols (name (Written c.args.unit c.as_str.result.now) (Some c.args.occ)) (atom_tree c.args.unit (spelled (leaf_of c.args.atom.now)) c.args.occ)
    (Ok c.in_ok-name_node-in-Name.field-0) is c.in_ok-name_node-in-Name.ensures

pub returns-in_ok-symbol-in-Numeral : goal.returns-in_ok-symbol-in-Numeral
returns-in_ok-symbol-in-Numeral c =
    let text = c.as_str-in-Numeral in
    let done = c.in_ok-symbol-in-Numeral in
    interns_as c.args.symbols.now c.symbol.new.self (atom (Numeral text.result.now) (Some c.args.occ)) (atom_tree c.args.unit (spelled (leaf_of c.args.atom.now)) c.args.occ) (Ok c.leaf_node.result)
    (numeral_is c.args.unit c.args.occ c.args.atom.now c.in-Numeral.text text.result.now text.ensures text.utf8 c.in-Numeral.is)
    (numeral_made c.args.symbols.now c.symbol.new.self (Some c.args.occ) done.symbol text.result.now done.ensures.ok done.ensures.symbols done.ensures.idents c.leaf_node.result c.leaf_node.ensures)

pub returns-in_ok-symbol-in-Quoted : goal.returns-in_ok-symbol-in-Quoted
returns-in_ok-symbol-in-Quoted c =
    let text = c.as_str-in-Quoted in
    let done = c.in_ok-symbol-in-Quoted in
    interns_as c.args.symbols.now c.symbol-in-Quoted.new.self (atom (Quoted text.result.now) (Some c.args.occ)) (atom_tree c.args.unit (spelled (leaf_of c.args.atom.now)) c.args.occ) (Ok c.leaf_node-in-Quoted.result)
    (quoted_is c.args.unit c.args.occ c.args.atom.now c.in-Quoted.text text.result.now text.ensures text.utf8 c.in-Quoted.is)
    (quoted_made c.args.symbols.now c.symbol-in-Quoted.new.self (Some c.args.occ) done.symbol text.result.now done.ensures.ok done.ensures.symbols done.ensures.idents c.leaf_node-in-Quoted.result c.leaf_node-in-Quoted.ensures)
