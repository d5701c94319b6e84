use Rattle.std.proofs.Common.{List, map, refl, sym, ap, ◌∙◌, subst, arith}
use Rattle.syntax_tree.specs.declared.trees.Work.{Work}
use Rattle.syntax_tree.specs.declared.trees.faults.PoolFault.TheVariants as fault
use Rattle.syntax_tree.specs.declared.rules.Rule as code_rule
use Rattle.syntax_tree.proofs.WorkLaws.{names_keep}
use Rattle.datum_reader.proofs.Growing.{names_on}
use Rattle.base_library.specs.Sketches.{made}
use Rattle.base_library.specs.Macros.{Each}
use Rattle.base_library.specs.Sketched.{IsPair, IsSketched, pairs, paired, sketch_size, IsMade}
use Rattle.base_library.proofs.MacroLaws.{named_kept, pairs_kept, pairs_stand, made_named, made_begun, makes_begun}
use Rattle.base_library.proofs.macros.add_macro.Goals as goal

pub returns-in_err-literals : goal.returns-in_err-literals
returns-in_err-literals c =
    let w = c.args.work.now in
    let mid = c.make_trees.new.work in
    let new : Work = record { trees = mid.trees; symbols = c.literals_of.new.symbols } in
    let r = c.args.region.now in
    let s = c.args.sketch.now in
    let trees = c.in_ok-trees.ensures.0 in
    let all : IsMade w mid r (sketch_size s) = record { grows = trees.grows; nodes = trees.nodes } in
    makes_begun w new r (sketch_size s) (λ m. IsSketched new r m s) c.from_residual-in_err-literals.result fault.Memory c.from_residual-in_err-literals.ensures.1
    (made_begun w new r (sketch_size s) (sketch_size s) (made_named w mid c.literals_of.new.symbols r (sketch_size s) all c.in_err-literals.ensures.keeps) (omega arith)) tt

pub returns-in_err-name : goal.returns-in_err-name
returns-in_err-name c =
    let w = c.args.work.now in
    let mid = c.make_trees.new.work in
    let named = c.literals_of.new.symbols in
    let last = c.symbol.new.self in
    let new : Work = record { trees = mid.trees; symbols = last } in
    let r = c.args.region.now in
    let s = c.args.sketch.now in
    let trees = c.in_ok-trees.ensures.0 in
    let all : IsMade w mid r (sketch_size s) = record { grows = trees.grows; nodes = trees.nodes } in
    let keeps = names_on mid.symbols named last c.in_ok-literals.ensures.keeps c.in_err-name.ensures.keeps in
    makes_begun w new r (sketch_size s) (λ m. IsSketched new r m s) c.from_residual-in_err-name.result fault.Memory c.from_residual-in_err-name.ensures.1
    (made_begun w new r (sketch_size s) (sketch_size s) (made_named w mid last r (sketch_size s) all keeps) (omega arith)) tt

pub returns : goal.returns
returns c =
    let w = c.args.work.now in
    let mid = c.make_trees.new.work in
    let named = c.literals_of.new.symbols in
    let last = c.symbol.new.self in
    let new : Work = record { trees = mid.trees; symbols = last } in
    let r = c.args.region.now in
    let s = c.args.sketch.now in
    let ts = made s.steps.now in
    let trees = c.in_ok-trees.ensures in
    let all : IsMade w mid r (sketch_size s) = record { grows = trees.0.grows; nodes = trees.0.nodes } in
    let keeps = names_on mid.symbols named last c.in_ok-literals.ensures.keeps c.in_ok-name.ensures.keeps in
    let ns = c.in_ok-trees.trees.items in
    let rules = c.in_ok-rules.ensures ∙ ap paired c.deref.ensures.value in (
      made_named w mid last r (sketch_size s) all keeps,
      record {
        name = c.in_ok-name.ensures.ok;
        ellipsis = refl;
        literals = named_kept named last c.in_ok-name.ensures.keeps c.in_ok-literals.literals (map (λ l. l.now) s.literals.now) c.in_ok-literals.ensures.ids;
        rules = subst (λ (rs : List code_rule.Rule). Each (IsPair new r) rs (pairs ts)) (sym rules)
            (pairs_kept mid new r (names_keep mid last keeps) (paired ns) (pairs ts) (pairs_stand mid r ts ns trees.1 trees.2));
      },
    )
