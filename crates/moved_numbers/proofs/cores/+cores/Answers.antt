use Rattle.std.proofs.Common.{◌+◌, ◌<◌, ◌≤◌, length, refl, sym, ap, ◌∙◌, subst, arith}
use Rattle.core_tree.specs.Names.{AllMatch}
use Rattle.core_tree.specs.declared.cores.Core.{Core}
use Rattle.core_tree.specs.declared.cores.Clause.{Clause}
use Rattle.core_tree.specs.declared.cores.CorePart.{CorePart}
use Rattle.core_tree.specs.declared.cores.Core.TheViews.{out-roll-Clause}
use Rattle.moves.specs.Numbers.{numbers_of}
use Rattle.renumbering_laws.specs.Renumbering.{Renumbering}
use Rattle.moved_numbers.specs.Values.{core_as, part_as, clause_as}
use Rattle.moved_numbers.proofs.Fronts.{Becomes, front_more, front_all, unvisited, each_is, all_related, all_mapped}
use Rattle.moved_numbers.proofs.ValueLaws.{box_is, ref_is, const_is, quote_is, quasi_is, lambda_is, case_lambda_is, if_is, set_is, call_is, body_is, let_syntax_is, clause_is, expression_is, define_is, values_is, fields_is, syntax_is}
use Rattle.moved_numbers.proofs.CoreLaws.{CoreOn, ClauseOn, PartOn, ref_on, const_on, quote_on, quasi_on, lambda_on, case_lambda_on, if_on, set_on, call_on, body_on, let_syntax_on, clause_on, expression_on, define_on, values_on, fields_on, syntax_on, cores_on, clauses_on, parts_on}
use Rattle.moved_numbers.proofs.cores.+cores.Goals as goal

pub core-moved-requires : goal.core-moved-requires
core-moved-requires t c = let d = c.decreases in rw c.replace-old.ensures.value (omega (arith, d), tt)

pub core-returns-clause-stands : goal.core-returns-clause-stands
core-returns-clause-stands t c = subst (λ (x : Core). CoreOn (numbers_of c.args.moves.now) x c.moved.result) c.replace-old.ensures.value c.moved.ensures.stands

pub moved-returns-in-Ref-clause-stands : goal.moved-returns-in-Ref-clause-stands
moved-returns-in-Ref-clause-stands t c = ref_on (numbers_of c.args.moves.now) (λ u n. refl) c.args.it c.in-Ref.target c.target.result c.in-Ref.is c.target.ensures

pub moved-returns-in-Const-clause-stands : goal.moved-returns-in-Const-clause-stands
moved-returns-in-Const-clause-stands t c = rw (sym c.in-Const.is) (const_on (numbers_of c.args.moves.now) (λ u n. refl) c.args.it c.in-Const.tree c.in-Const.is)

pub moved-returns-in-Quote-clause-stands : goal.moved-returns-in-Quote-clause-stands
moved-returns-in-Quote-clause-stands t c = rw (sym c.in-Quote.is) (quote_on (numbers_of c.args.moves.now) (λ u n. refl) c.args.it c.in-Quote.tree c.in-Quote.is)

pub moved-returns-in-Quasi-clause-stands : goal.moved-returns-in-Quasi-clause-stands
moved-returns-in-Quasi-clause-stands t c = let q = c.in-Quasi in quasi_on (numbers_of c.args.moves.now) (λ u n. refl) c.args.it q.datum q.places q.parts c.cores.new.all q.is c.cores.ensures.stands

pub moved-returns-in-Lambda-clause-stands : goal.moved-returns-in-Lambda-clause-stands
moved-returns-in-Lambda-clause-stands t c = let q = c.in-Lambda in lambda_on (numbers_of c.args.moves.now) (λ u n. refl) c.args.it q.only c.clause.new.it q.is c.clause.ensures.stands

pub moved-returns-in-CaseLambda-clause-stands : goal.moved-returns-in-CaseLambda-clause-stands
moved-returns-in-CaseLambda-clause-stands t c = let q = c.in-CaseLambda in case_lambda_on (numbers_of c.args.moves.now) (λ u n. refl) c.args.it q.all c.clauses.new.all q.is c.clauses.ensures.stands

pub moved-returns-in-If-clause-stands : goal.moved-returns-in-If-clause-stands
moved-returns-in-If-clause-stands t c = let q = c.in-If in if_on (numbers_of c.args.moves.now) (λ u n. refl) c.args.it q.all c.cores-in-If.new.all q.is c.cores-in-If.ensures.stands

pub moved-returns-in-Set-clause-stands : goal.moved-returns-in-Set-clause-stands
moved-returns-in-Set-clause-stands t c =
    let q = c.in-Set in
    set_on (numbers_of c.args.moves.now) (λ u n. refl) c.args.it q.target c.target-in-Set.result q.value _ q.is c.target-in-Set.ensures (subst (λ (x : Core). CoreOn (numbers_of c.args.moves.now) x c.core.new.it) c.deref_mut.ensures.value c.core.ensures.stands)

pub moved-returns-in-Call-clause-stands : goal.moved-returns-in-Call-clause-stands
moved-returns-in-Call-clause-stands t c = let q = c.in-Call in call_on (numbers_of c.args.moves.now) (λ u n. refl) c.args.it q.all c.cores-in-Call.new.all q.is c.cores-in-Call.ensures.stands

pub moved-returns-in-Body-clause-stands : goal.moved-returns-in-Body-clause-stands
moved-returns-in-Body-clause-stands t c = let q = c.in-Body in body_on (numbers_of c.args.moves.now) (λ u n. refl) c.args.it q.all c.parts.new.all q.is c.parts.ensures.stands

pub moved-returns-in-LetSyntax-clause-stands : goal.moved-returns-in-LetSyntax-clause-stands
moved-returns-in-LetSyntax-clause-stands t c =
    let q = c.in-LetSyntax in
    let_syntax_on (numbers_of c.args.moves.now) (λ u n. refl) c.args.it q.macros c.macro_defs.new.all q.body _ q.is c.macro_defs.ensures.stands
    (subst (λ (x : Core). CoreOn (numbers_of c.args.moves.now) x c.core-in-LetSyntax.new.it) c.deref_mut-in-LetSyntax.ensures.value c.core-in-LetSyntax.ensures.stands)

pub part-returns-in-Expression-clause-stands : goal.part-returns-in-Expression-clause-stands
part-returns-in-Expression-clause-stands t c = expression_on (numbers_of c.args.moves.now) (λ u n. refl) c.args.it.now c.in-Expression.value c.core.new.it c.in-Expression.is c.core.ensures.stands

pub part-returns-in-Define-clause-stands : goal.part-returns-in-Define-clause-stands
part-returns-in-Define-clause-stands t c = define_on (numbers_of c.args.moves.now) (λ u n. refl) c.args.it.now c.in-Define.binder c.binder.result c.in-Define.value c.core-in-Define.new.it c.in-Define.is c.binder.ensures c.core-in-Define.ensures.stands

pub part-returns-in-Values-clause-stands : goal.part-returns-in-Values-clause-stands
part-returns-in-Values-clause-stands t c =
    values_on (numbers_of c.args.moves.now) (λ u n. refl) c.args.it.now c.in-Values.binders c.binders.new.all c.in-Values.dotted c.in-Values.value c.core-in-Values.new.it c.in-Values.is c.binders.ensures.items c.core-in-Values.ensures.stands

pub part-returns-in-Fields-clause-stands : goal.part-returns-in-Fields-clause-stands
part-returns-in-Fields-clause-stands t c =
    let q = c.in-Fields in
    fields_on (numbers_of c.args.moves.now) (λ u n. refl) c.args.it.now q.binders c.binders-in-Fields.new.all q.fields c.binders-in-Fields-2.new.all q.modified q.used c.fields.new.all q.is c.binders-in-Fields.ensures.items c.binders-in-Fields-2.ensures.items c.fields.ensures.items

pub part-returns-in-Syntax-clause-stands : goal.part-returns-in-Syntax-clause-stands
part-returns-in-Syntax-clause-stands t c = syntax_on (numbers_of c.args.moves.now) (λ u n. refl) c.args.it.now c.in-Syntax.only c.macro_def.new.it c.in-Syntax.is c.macro_def.ensures.stands

pub clause-returns-clause-stands : goal.clause-returns-clause-stands
clause-returns-clause-stands t c =
    let it = c.args.it.now in
    clause_on (numbers_of c.args.moves.now) (λ u n. refl) it _ it.binders c.binders.new.all it.dotted it.body _ refl (out-roll-Clause _) c.binders.ensures.items
    (subst (λ (x : Core). CoreOn (numbers_of c.args.moves.now) x c.core.new.it) c.deref_mut.ensures.value c.core.ensures.stands)

-- ---- values

pub core-returns-clause-value : goal.core-returns-clause-value
core-returns-clause-value t c = c.moved.ensures.value ∙ ap (core_as (numbers_of c.args.moves.now)) c.replace-old.ensures.value

pub moved-returns-in-Ref-clause-value : goal.moved-returns-in-Ref-clause-value
moved-returns-in-Ref-clause-value t c = ref_is (numbers_of c.args.moves.now) c.args.it c.in-Ref.target c.target.result c.in-Ref.is c.target.ensures

pub moved-returns-in-Const-clause-value : goal.moved-returns-in-Const-clause-value
moved-returns-in-Const-clause-value t c = const_is (numbers_of c.args.moves.now) c.args.it c.in-Const.tree c.in-Const.is

pub moved-returns-in-Quote-clause-value : goal.moved-returns-in-Quote-clause-value
moved-returns-in-Quote-clause-value t c = quote_is (numbers_of c.args.moves.now) c.args.it c.in-Quote.tree c.in-Quote.is

pub moved-returns-in-Quasi-clause-value : goal.moved-returns-in-Quasi-clause-value
moved-returns-in-Quasi-clause-value t c = let q = c.in-Quasi in quasi_is (numbers_of c.args.moves.now) c.args.it q.datum q.places q.parts c.cores.new.all q.is c.cores.ensures.value

pub moved-returns-in-Lambda-clause-value : goal.moved-returns-in-Lambda-clause-value
moved-returns-in-Lambda-clause-value t c = let q = c.in-Lambda in lambda_is (numbers_of c.args.moves.now) c.args.it q.only c.clause.new.it q.is c.clause.ensures.value

pub moved-returns-in-CaseLambda-clause-value : goal.moved-returns-in-CaseLambda-clause-value
moved-returns-in-CaseLambda-clause-value t c = let q = c.in-CaseLambda in case_lambda_is (numbers_of c.args.moves.now) c.args.it q.all c.clauses.new.all q.is c.clauses.ensures.value

pub moved-returns-in-If-clause-value : goal.moved-returns-in-If-clause-value
moved-returns-in-If-clause-value t c = let q = c.in-If in if_is (numbers_of c.args.moves.now) c.args.it q.all c.cores-in-If.new.all q.is c.cores-in-If.ensures.value

pub moved-returns-in-Set-clause-value : goal.moved-returns-in-Set-clause-value
moved-returns-in-Set-clause-value t c =
    let q = c.in-Set in
    let r = numbers_of c.args.moves.now in
    set_is r c.args.it q.target c.target-in-Set.result q.value _ q.is c.target-in-Set.ensures (box_is r q.value _ refl refl (c.core.ensures.value ∙ ap (core_as r) c.deref_mut.ensures.value))

pub moved-returns-in-Call-clause-value : goal.moved-returns-in-Call-clause-value
moved-returns-in-Call-clause-value t c = let q = c.in-Call in call_is (numbers_of c.args.moves.now) c.args.it q.all c.cores-in-Call.new.all q.is c.cores-in-Call.ensures.value

pub moved-returns-in-Body-clause-value : goal.moved-returns-in-Body-clause-value
moved-returns-in-Body-clause-value t c = let q = c.in-Body in body_is (numbers_of c.args.moves.now) c.args.it q.all c.parts.new.all q.is c.parts.ensures.value

pub moved-returns-in-LetSyntax-clause-value : goal.moved-returns-in-LetSyntax-clause-value
moved-returns-in-LetSyntax-clause-value t c =
    let q = c.in-LetSyntax in
    let r = numbers_of c.args.moves.now in
    let_syntax_is r c.args.it q.macros c.macro_defs.new.all q.body _ q.is c.macro_defs.ensures.value (box_is r q.body _ refl refl (c.core-in-LetSyntax.ensures.value ∙ ap (core_as r) c.deref_mut-in-LetSyntax.ensures.value))

pub part-returns-in-Expression-clause-value : goal.part-returns-in-Expression-clause-value
part-returns-in-Expression-clause-value t c = expression_is (numbers_of c.args.moves.now) c.args.it.now c.in-Expression.value c.core.new.it c.in-Expression.is c.core.ensures.value

pub part-returns-in-Define-clause-value : goal.part-returns-in-Define-clause-value
part-returns-in-Define-clause-value t c = define_is (numbers_of c.args.moves.now) c.args.it.now c.in-Define.binder c.binder.result c.in-Define.value c.core-in-Define.new.it c.in-Define.is c.binder.ensures c.core-in-Define.ensures.value

pub part-returns-in-Values-clause-value : goal.part-returns-in-Values-clause-value
part-returns-in-Values-clause-value t c =
    let q = c.in-Values in
    values_is (numbers_of c.args.moves.now) c.args.it.now q.binders c.binders.new.all q.dotted q.value c.core-in-Values.new.it q.is c.binders.ensures.value c.core-in-Values.ensures.value

pub part-returns-in-Fields-clause-value : goal.part-returns-in-Fields-clause-value
part-returns-in-Fields-clause-value t c =
    let q = c.in-Fields in
    fields_is (numbers_of c.args.moves.now) c.args.it.now q.binders c.binders-in-Fields.new.all q.fields c.binders-in-Fields-2.new.all q.modified q.used c.fields.new.all q.is c.binders-in-Fields.ensures.value c.binders-in-Fields-2.ensures.value c.fields.ensures.value

pub part-returns-in-Syntax-clause-value : goal.part-returns-in-Syntax-clause-value
part-returns-in-Syntax-clause-value t c = syntax_is (numbers_of c.args.moves.now) c.args.it.now c.in-Syntax.only c.macro_def.new.it c.in-Syntax.is c.macro_def.ensures.value

pub clause-returns-clause-value : goal.clause-returns-clause-value
clause-returns-clause-value t c =
    let it = c.args.it.now in
    let r = numbers_of c.args.moves.now in
    clause_is r it _ it.binders c.binders.new.all it.dotted it.body _ refl (out-roll-Clause _) c.binders.ensures.value (box_is r it.body _ refl refl (c.core.ensures.value ∙ ap (core_as r) c.deref_mut.ensures.value))

-- ---- lists

abbrev CoreBecomes : Renumbering → Core → Core → Type 0
CoreBecomes r = Becomes (CoreOn r) (core_as r)

abbrev ClauseBecomes : Renumbering → Clause → Clause → Type 0
ClauseBecomes r = Becomes (ClauseOn r) (clause_as r)

abbrev PartBecomes : Renumbering → CorePart → CorePart → Type 0
PartBecomes r = Becomes (PartOn r) (part_as r)

pub cores-loop-i-preserved : goal.cores-loop-i-preserved
cores-loop-i-preserved t c =
    let r = numbers_of c.args.moves.now in
    let inv = c.loop-i.invariant in
    let lt : c.loop-i.i < length c.loop-i.all.items = omega (arith, inv.front.length_is) in
    let front = front_more (CoreBecomes r) c.args.all.now.items c.loop-i.all.items c.loop-i.i c.index_mut.result.now c.core.new.it inv.front lt c.index_mut.ensures.value (c.core.ensures.stands, c.core.ensures.value) in
    record { unvisited = unvisited (CoreBecomes r) c.args.all.now.items _ (c.loop-i.i + 1) front; front = front; block = inv.block }

pub cores-returns-clause-stands : goal.cores-returns-clause-stands
cores-returns-clause-stands t c =
    let r = numbers_of c.args.moves.now in
    let inv = c.loop-i.invariant in
    let end : length c.loop-i.all.items ≤ c.loop-i.i = omega (arith, inv.front.length_is) in
    let all : AllMatch (CoreBecomes r) c.args.all.now.items c.loop-i.all.items = front_all (CoreBecomes r) c.args.all.now.items c.loop-i.all.items c.loop-i.i inv.front end in
    cores_on r c.args.all.now.items c.loop-i.all.items (all_related (CoreOn r) (core_as r) c.args.all.now.items c.loop-i.all.items all)

pub cores-returns-clause-value : goal.cores-returns-clause-value
cores-returns-clause-value t c =
    let r = numbers_of c.args.moves.now in
    let inv = c.loop-i.invariant in
    let end : length c.loop-i.all.items ≤ c.loop-i.i = omega (arith, inv.front.length_is) in
    let all : AllMatch (CoreBecomes r) c.args.all.now.items c.loop-i.all.items = front_all (CoreBecomes r) c.args.all.now.items c.loop-i.all.items c.loop-i.i inv.front end in
    each_is (core_as r) c.args.all.now c.loop-i.all inv.block (all_mapped (CoreOn r) (core_as r) c.args.all.now.items c.loop-i.all.items all)

pub clauses-loop-i-preserved : goal.clauses-loop-i-preserved
clauses-loop-i-preserved t c =
    let r = numbers_of c.args.moves.now in
    let inv = c.loop-i.invariant in
    let lt : c.loop-i.i < length c.loop-i.all.items = omega (arith, inv.front.length_is) in
    let front = front_more (ClauseBecomes r) c.args.all.now.items c.loop-i.all.items c.loop-i.i c.index_mut.result.now c.clause.new.it inv.front lt c.index_mut.ensures.value (c.clause.ensures.stands, c.clause.ensures.value) in
    record { unvisited = unvisited (ClauseBecomes r) c.args.all.now.items _ (c.loop-i.i + 1) front; front = front; block = inv.block }

pub clauses-returns-clause-stands : goal.clauses-returns-clause-stands
clauses-returns-clause-stands t c =
    let r = numbers_of c.args.moves.now in
    let inv = c.loop-i.invariant in
    let end : length c.loop-i.all.items ≤ c.loop-i.i = omega (arith, inv.front.length_is) in
    let all : AllMatch (ClauseBecomes r) c.args.all.now.items c.loop-i.all.items = front_all (ClauseBecomes r) c.args.all.now.items c.loop-i.all.items c.loop-i.i inv.front end in
    clauses_on r c.args.all.now.items c.loop-i.all.items (all_related (ClauseOn r) (clause_as r) c.args.all.now.items c.loop-i.all.items all)

pub clauses-returns-clause-value : goal.clauses-returns-clause-value
clauses-returns-clause-value t c =
    let r = numbers_of c.args.moves.now in
    let inv = c.loop-i.invariant in
    let end : length c.loop-i.all.items ≤ c.loop-i.i = omega (arith, inv.front.length_is) in
    let all : AllMatch (ClauseBecomes r) c.args.all.now.items c.loop-i.all.items = front_all (ClauseBecomes r) c.args.all.now.items c.loop-i.all.items c.loop-i.i inv.front end in
    each_is (clause_as r) c.args.all.now c.loop-i.all inv.block (all_mapped (ClauseOn r) (clause_as r) c.args.all.now.items c.loop-i.all.items all)

pub parts-loop-i-preserved : goal.parts-loop-i-preserved
parts-loop-i-preserved t c =
    let r = numbers_of c.args.moves.now in
    let inv = c.loop-i.invariant in
    let lt : c.loop-i.i < length c.loop-i.all.items = omega (arith, inv.front.length_is) in
    let front = front_more (PartBecomes r) c.args.all.now.items c.loop-i.all.items c.loop-i.i c.index_mut.result.now c.part.new.it inv.front lt c.index_mut.ensures.value (c.part.ensures.stands, c.part.ensures.value) in
    record { unvisited = unvisited (PartBecomes r) c.args.all.now.items _ (c.loop-i.i + 1) front; front = front; block = inv.block }

pub parts-returns-clause-stands : goal.parts-returns-clause-stands
parts-returns-clause-stands t c =
    let r = numbers_of c.args.moves.now in
    let inv = c.loop-i.invariant in
    let end : length c.loop-i.all.items ≤ c.loop-i.i = omega (arith, inv.front.length_is) in
    let all : AllMatch (PartBecomes r) c.args.all.now.items c.loop-i.all.items = front_all (PartBecomes r) c.args.all.now.items c.loop-i.all.items c.loop-i.i inv.front end in
    parts_on r c.args.all.now.items c.loop-i.all.items (all_related (PartOn r) (part_as r) c.args.all.now.items c.loop-i.all.items all)

pub parts-returns-clause-value : goal.parts-returns-clause-value
parts-returns-clause-value t c =
    let r = numbers_of c.args.moves.now in
    let inv = c.loop-i.invariant in
    let end : length c.loop-i.all.items ≤ c.loop-i.i = omega (arith, inv.front.length_is) in
    let all : AllMatch (PartBecomes r) c.args.all.now.items c.loop-i.all.items = front_all (PartBecomes r) c.args.all.now.items c.loop-i.all.items c.loop-i.i inv.front end in
    each_is (part_as r) c.args.all.now c.loop-i.all inv.block (all_mapped (PartOn r) (part_as r) c.args.all.now.items c.loop-i.all.items all)
