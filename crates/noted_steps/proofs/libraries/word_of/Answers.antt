use Rattle.std.proofs.Common.{sym, ap, ◌∙◌}
use Rattle.scheme_model.specs.Trees.{Tree, tree}
use Rattle.scheme_model.specs.Ident.{Ident as Identifier, symbol_of}
use Rattle.std.specs.Option.{option_map}
use Rattle.std.proofs.lemmas.Option.{slice_get_within, same_Some}
use Rattle.feature_requirements.specs.Judged.{connective_named}
use Rattle.form_parts.proofs.LeafLaws.{first_there, first_gone}
use Rattle.noted_steps.specs.Asked.{word_named}
use Rattle.noted_steps.proofs.libraries.word_of.Goals as goal

pub returns-in-None : goal.returns-in-None
returns-in-None c = λ ts stands. ap word_named (sym (first_gone c.args.work.now c.args.parts.now ts c.in-None.ensures.value stands))

pub look_at-requires : goal.look_at-requires
look_at-requires c =
    let p = first_there c.args.work.now c.args.parts.now c.in-Some.head.now c.requires.0 c.in-Some.ensures.value c.requires.1 in
    (p.0, p.3)

pub strip-requires : goal.strip-requires
strip-requires c =
    let w = c.args.work.now in
    let p = first_there w c.args.parts.now c.in-Some.head.now c.requires.0 c.in-Some.ensures.value c.requires.1 in
    let l = c.in-Name.ensures.look p.0 p.3 in
    slice_get_within w.symbols.idents c.in-Name.ident l.0 l.3

pub name-requires : goal.name-requires
name-requires c =
    let w = c.args.work.now in
    let p = first_there w c.args.parts.now c.in-Some.head.now c.requires.0 c.in-Some.ensures.value c.requires.1 in
    let l = c.in-Name.ensures.look p.0 p.3 in
    slice_get_within w.symbols.symbols c.strip.result (symbol_of l.0) (c.strip.ensures ∙ ap (option_map symbol_of) l.3)

pub returns-in-Name : goal.returns-in-Name
returns-in-Name c = λ ts stands.
    let w = c.args.work.now in
    let p = first_there w c.args.parts.now c.in-Some.head.now ts c.in-Some.ensures.value stands in
    let l = c.in-Name.ensures.look p.0 p.3 in
    let split = p.2 ∙ ap (λ (x : Tree Identifier). tree x p.1) l.2 in
    let called = same_Some c.name.result.now (symbol_of l.0) (sym c.name.ensures ∙ (c.strip.ensures ∙ ap (option_map symbol_of) l.3)) in
    c.connective_in.ensures ∙ (ap connective_named called ∙ sym (ap word_named split))

pub returns-in-Atom : goal.returns-in-Atom
returns-in-Atom c = λ ts stands.
    let p = first_there c.args.work.now c.args.parts.now c.in-Some.head.now ts c.in-Some.ensures.value stands in
    let l = c.in-Atom.ensures.look p.0 p.3 in
    sym (ap word_named (p.2 ∙ ap (λ (x : Tree Identifier). tree x p.1) l.2))

pub returns-in-List : goal.returns-in-List
returns-in-List c = λ ts stands.
    let p = first_there c.args.work.now c.args.parts.now c.in-Some.head.now ts c.in-Some.ensures.value stands in
    let l = c.in-List.ensures.look p.0 p.3 in
    sym (ap word_named (p.2 ∙ ap (λ (x : Tree Identifier). tree x p.1) l.3))

pub returns-in-Vector : goal.returns-in-Vector
returns-in-Vector c = λ ts stands.
    let p = first_there c.args.work.now c.args.parts.now c.in-Some.head.now ts c.in-Some.ensures.value stands in
    let l = c.in-Vector.ensures.look p.0 p.3 in
    sym (ap word_named (p.2 ∙ ap (λ (x : Tree Identifier). tree x p.1) l.2))
