use Rattle.std.proofs.Common.{ap, ◌∙◌, arith}
use Rattle.std.specs.Prelude.{Ok, Err}
use Rattle.std.specs.Option.{option_map}
use Rattle.scheme_model.specs.Trees.{name}
use Rattle.scheme_model.specs.Ident.{Ident as Identifier, Inserted}
use Rattle.syntax_tree.specs.Numbered.{number_of}
use Rattle.syntax_tree.specs.Works.{with_names}
use Rattle.rules_build.proofs.AddLaws.{inserts_one, grows_names, adds_on, adds_handed_on}
use Rattle.rules_build.proofs.adding.add_name.Goals as goal

pub add_node-requires-clause-small : goal.add_node-requires-clause-small
add_node-requires-clause-small c =
    let k = number_of c.args.number in
    let h = c.requires.id in
    let e = c.in_ok-inserted.ensures.ok ∙ ap (option_map (λ (j : Identifier). Inserted j k)) h.1 in
    (name (Inserted h.0 k) c.args.occ, ap (option_map (λ (j : Identifier). name j c.args.occ)) e, omega arith, omega arith)

pub returns-in_err-add_node : goal.returns-in_err-add_node
returns-in_err-add_node c = λ i is.
    let w = c.args.work.now in
    let names = c.ident.new.self in
    let mid = with_names w names in
    let r = c.args.region.now in
    let k = number_of c.args.number in
    let t = name (Inserted i k) c.args.occ in
    let same = ap (option_map (λ (j : Identifier). Inserted j k)) is in
    let e = c.in_ok-inserted.ensures.ok ∙ same in
    let ins = inserts_one w.symbols names k i c.in_ok-inserted.ensures.keeps c.in_ok-inserted.ensures.symbols (c.in_ok-inserted.ensures.idents (Inserted i k) same) in
    let a = c.in_err-add_node.ensures k t (ap (option_map (λ (j : Identifier). name j c.args.occ)) e) in
    let b = adds_on w mid c.add_node.new.work r k 0 1 1 t (Err c.in_err-add_node.field-0.0) (grows_names w names r k 0 ins) a (omega arith) in
    adds_handed_on w c.add_node.new.work r k 1 t c.from_residual-in_err-add_node.result c.in_err-add_node.field-0.0 c.from_residual-in_err-add_node.ensures.1 b.0 b.1

pub returns : goal.returns
returns c = λ i is.
    let w = c.args.work.now in
    let names = c.ident.new.self in
    let mid = with_names w names in
    let r = c.args.region.now in
    let k = number_of c.args.number in
    let t = name (Inserted i k) c.args.occ in
    let same = ap (option_map (λ (j : Identifier). Inserted j k)) is in
    let e = c.in_ok-inserted.ensures.ok ∙ same in
    let ins = inserts_one w.symbols names k i c.in_ok-inserted.ensures.keeps c.in_ok-inserted.ensures.symbols (c.in_ok-inserted.ensures.idents (Inserted i k) same) in
    let a = c.in_ok-add_node.ensures k t (ap (option_map (λ (j : Identifier). name j c.args.occ)) e) in
    adds_on w mid c.add_node.new.work r k 0 1 1 t (Ok c.in_ok-add_node.field-0) (grows_names w names r k 0 ins) a (omega arith)
