use Rattle.std.proofs.Common.{◌∙◌}
use Rattle.std.proofs.lemmas.Option.{slice_get_within}
use Rattle.form_parts.proofs.LeafLaws.{atom_here, name_here, name_within}
use Rattle.form_parts.proofs.places.leaf_here.Goals as goal

pub name_here-requires : goal.name_here-requires
name_here-requires c =
    let names = c.args.work.now.symbols in
    let p = name_within names c.args.leaf c.in-Name.ident c.args.occ c.requires.0 c.in-Name.is c.requires.1 in
    slice_get_within names.idents c.in-Name.ident p.0 p.1

pub returns-in-Name : goal.returns-in-Name
returns-in-Name c = λ t h. name_here c.args.work.now.symbols c.args.leaf c.in-Name.ident c.args.occ t c.args.here c.name_here.result c.in-Name.is h c.name_here.ensures

pub returns-in-Numeral : goal.returns-in-Numeral
returns-in-Numeral c = λ t h. c.or_here.ensures ∙ atom_here c.args.work.now.symbols c.args.leaf _ c.args.occ t c.in-Numeral.is tt h c.args.here

pub returns-in-Quoted : goal.returns-in-Quoted
returns-in-Quoted c = λ t h. c.or_here-in-Quoted.ensures ∙ atom_here c.args.work.now.symbols c.args.leaf _ c.args.occ t c.in-Quoted.is tt h c.args.here

pub returns-in-Char : goal.returns-in-Char
returns-in-Char c = λ t h. c.or_here-in-Char.ensures ∙ atom_here c.args.work.now.symbols c.args.leaf _ c.args.occ t c.in-Char.is tt h c.args.here

pub returns-in-Bool : goal.returns-in-Bool
returns-in-Bool c = λ t h. c.or_here-in-Bool.ensures ∙ atom_here c.args.work.now.symbols c.args.leaf _ c.args.occ t c.in-Bool.is tt h c.args.here

pub returns-in-Bytes : goal.returns-in-Bytes
returns-in-Bytes c = λ t h. c.or_here-in-Bytes.ensures ∙ atom_here c.args.work.now.symbols c.args.leaf _ c.args.occ t c.in-Bytes.is tt h c.args.here
