use Rattle.std.proofs.Common.{[], ◌∷◌, ◌++◌, true, refl, sym, ap, ◌∙◌}
use Rattle.core_tree.specs.declared.cores.CorePart.{CorePart}
use Rattle.program_leaves.specs.Leaves.{Uses, Assigns, Quoted, Holed, Binds, seen_of, core_seen, cores_seen, clause_seen, clauses_seen, part_seen, parts_seen, binders_seen, macro_seen, macros_seen, fields_seen}
use Rattle.program_leaves.proofs.SeenLaws.{seen_ref, seen_const, seen_quote, seen_quasi, seen_lambda, seen_case_lambda, seen_if, seen_set, seen_call, seen_body, seen_let_syntax, clause_is, seen_expression, seen_define, seen_values, seen_fields, seen_syntax}
use Rattle.program_leaves.proofs.Growing.{grows_by_one, grows_by_none, grows_as, grows_twice}
use Rattle.program_leaves.proofs.leaves.+leaves.Goals as goal

pub add_core-returns-in_ok-push-in-Ref : goal.add_core-returns-in_ok-push-in-Ref
add_core-returns-in_ok-push-in-Ref t c =
    grows_as seen_of c.args.leaves.now.items c.push.new.self.items (Uses c.in-Ref.target ∷ []) (core_seen c.args.core.now) (grows_by_one seen_of c.args.leaves.now.items c.push.new.self.items _ c.in_ok-push-in-Ref.ensures.items)
    (ap core_seen c.in-Ref.is ∙ seen_ref c.in-Ref.target)

pub add_core-returns-in-Const : goal.add_core-returns-in-Const
add_core-returns-in-Const t c = grows_by_none seen_of c.args.leaves.now.items (core_seen c.args.core.now) (ap core_seen c.in-Const.is ∙ seen_const c.in-Const.field-0)

pub add_core-returns-in_ok-push-in-Quote : goal.add_core-returns-in_ok-push-in-Quote
add_core-returns-in_ok-push-in-Quote t c =
    grows_as seen_of c.args.leaves.now.items c.push-in-Quote.new.self.items (Quoted c.in-Quote.datum ∷ []) (core_seen c.args.core.now) (grows_by_one seen_of c.args.leaves.now.items c.push-in-Quote.new.self.items _ c.in_ok-push-in-Quote.ensures.items)
    (ap core_seen c.in-Quote.is ∙ seen_quote c.in-Quote.datum)

pub add_core-returns-in_ok-add_cores-in-Quasi : goal.add_core-returns-in_ok-add_cores-in-Quasi
add_core-returns-in_ok-add_cores-in-Quasi t c =
    let q = c.in-Quasi in
    let one = grows_by_one seen_of c.args.leaves.now.items c.push-in-Quasi.new.self.items _ c.in_ok-push-in-Quasi.ensures.items in
    grows_twice seen_of c.args.leaves.now.items c.push-in-Quasi.new.self.items c.add_cores.new.leaves.items (Holed q.datum c.as_slice.result.now ∷ []) (cores_seen c.as_slice-in-Quasi.result.now) (core_seen c.args.core.now) one c.in_ok-add_cores-in-Quasi.ensures
    (ap core_seen q.is ∙ seen_quasi q.datum q.places q.parts ∙ (λ j. Holed q.datum (sym c.as_slice.ensures.value j) ∷ cores_seen (sym c.as_slice-in-Quasi.ensures.value j)))

pub add_core-returns-in_ok-add_clause-in-Lambda : goal.add_core-returns-in_ok-add_clause-in-Lambda
add_core-returns-in_ok-add_clause-in-Lambda t c =
    grows_as seen_of c.args.leaves.now.items c.add_clause.new.leaves.items (clause_seen c.in-Lambda.clause) (core_seen c.args.core.now) c.in_ok-add_clause-in-Lambda.ensures (ap core_seen c.in-Lambda.is ∙ seen_lambda c.in-Lambda.clause)

pub add_core-returns-in_ok-add_clauses-in-CaseLambda : goal.add_core-returns-in_ok-add_clauses-in-CaseLambda
add_core-returns-in_ok-add_clauses-in-CaseLambda t c =
    grows_as seen_of c.args.leaves.now.items c.add_clauses.new.leaves.items (clauses_seen c.as_slice-in-CaseLambda.result.now) (core_seen c.args.core.now) c.in_ok-add_clauses-in-CaseLambda.ensures
    (ap core_seen c.in-CaseLambda.is ∙ seen_case_lambda c.in-CaseLambda.clauses ∙ ap clauses_seen (sym c.as_slice-in-CaseLambda.ensures.value))

pub add_core-returns-in_ok-add_cores-in-If : goal.add_core-returns-in_ok-add_cores-in-If
add_core-returns-in_ok-add_cores-in-If t c =
    grows_as seen_of c.args.leaves.now.items c.add_cores-in-If.new.leaves.items (cores_seen c.as_slice-in-If.result.now) (core_seen c.args.core.now) c.in_ok-add_cores-in-If.ensures
    (ap core_seen c.in-If.is ∙ seen_if c.in-If.parts ∙ ap cores_seen (sym c.as_slice-in-If.ensures.value))

pub add_core-returns-in_ok-add_core-in-Set : goal.add_core-returns-in_ok-add_core-in-Set
add_core-returns-in_ok-add_core-in-Set t c =
    let q = c.in-Set in
    let one = grows_by_one seen_of c.args.leaves.now.items c.push-in-Set.new.self.items _ c.in_ok-push-in-Set.ensures.items in
    grows_twice seen_of c.args.leaves.now.items c.push-in-Set.new.self.items c.add_core.new.leaves.items (Assigns q.target ∷ []) (core_seen c.deref.result.now) (core_seen c.args.core.now) one c.in_ok-add_core-in-Set.ensures
    (ap core_seen q.is ∙ seen_set q.target q.value ∙ (λ j. Assigns q.target ∷ core_seen (sym c.deref.ensures j)))

pub add_core-returns-in_ok-add_cores-in-Call : goal.add_core-returns-in_ok-add_cores-in-Call
add_core-returns-in_ok-add_cores-in-Call t c =
    grows_as seen_of c.args.leaves.now.items c.add_cores-in-Call.new.leaves.items (cores_seen c.as_slice-in-Call.result.now) (core_seen c.args.core.now) c.in_ok-add_cores-in-Call.ensures
    (ap core_seen c.in-Call.is ∙ seen_call c.in-Call.parts ∙ ap cores_seen (sym c.as_slice-in-Call.ensures.value))

pub add_core-returns-in_ok-add_parts-in-Body : goal.add_core-returns-in_ok-add_parts-in-Body
add_core-returns-in_ok-add_parts-in-Body t c =
    grows_as seen_of c.args.leaves.now.items c.add_parts.new.leaves.items (parts_seen c.as_slice-in-Body.result.now) (core_seen c.args.core.now) c.in_ok-add_parts-in-Body.ensures
    (ap core_seen c.in-Body.is ∙ seen_body c.in-Body.parts ∙ ap parts_seen (sym c.as_slice-in-Body.ensures.value))

pub add_core-returns-in_ok-add_core-in-LetSyntax : goal.add_core-returns-in_ok-add_core-in-LetSyntax
add_core-returns-in_ok-add_core-in-LetSyntax t c =
    let q = c.in-LetSyntax in
    grows_twice seen_of c.args.leaves.now.items c.add_macros.new.leaves.items c.add_core-in-LetSyntax.new.leaves.items (macros_seen c.as_slice-in-LetSyntax.result.now) (core_seen c.deref-in-LetSyntax.result.now) (core_seen c.args.core.now)
    c.in_ok-add_macros-in-LetSyntax.ensures c.in_ok-add_core-in-LetSyntax.ensures
    (ap core_seen q.is ∙ seen_let_syntax q.macros q.body ∙ (λ j. macros_seen (sym c.as_slice-in-LetSyntax.ensures.value j) ++ core_seen (sym c.deref-in-LetSyntax.ensures j)))

pub add_clause-returns : goal.add_clause-returns
add_clause-returns t c =
    let x = c.args.clause.now in
    grows_twice seen_of c.args.leaves.now.items c.add_binders.new.leaves.items c.add_core.new.leaves.items (binders_seen true c.as_slice.result.now) (core_seen c.deref.result.now) (clause_seen x) c.in_ok-add_binders.ensures c.in_ok-add_core.ensures
    (clause_is x ∙ (λ j. binders_seen true (sym c.as_slice.ensures.value j) ++ core_seen (sym c.deref.ensures j)))

pub add_part-returns-in_ok-add_core-in-Expression : goal.add_part-returns-in_ok-add_core-in-Expression
add_part-returns-in_ok-add_core-in-Expression t c =
    let local = c.args.local in
    grows_as seen_of c.args.leaves.now.items c.add_core.new.leaves.items (core_seen c.in-Expression.core) (part_seen c.args.part.now local) c.in_ok-add_core-in-Expression.ensures
    (ap (λ (p : CorePart). part_seen p local) c.in-Expression.is ∙ seen_expression c.in-Expression.core local)

pub add_part-returns-in_ok-add_core-in-Define : goal.add_part-returns-in_ok-add_core-in-Define
add_part-returns-in_ok-add_core-in-Define t c =
    let local = c.args.local in
    let q = c.in-Define in
    grows_twice seen_of c.args.leaves.now.items c.push.new.self.items c.add_core-in-Define.new.leaves.items (Binds local q.binder ∷ []) (core_seen q.value) (part_seen c.args.part.now local)
    (grows_by_one seen_of c.args.leaves.now.items c.push.new.self.items _ c.in_ok-push-in-Define.ensures.items) c.in_ok-add_core-in-Define.ensures
    (ap (λ (p : CorePart). part_seen p local) q.is ∙ seen_define q.binder q.value local)

pub add_part-returns-in_ok-add_core-in-Values : goal.add_part-returns-in_ok-add_core-in-Values
add_part-returns-in_ok-add_core-in-Values t c =
    let local = c.args.local in
    let q = c.in-Values in
    grows_twice seen_of c.args.leaves.now.items c.add_binders.new.leaves.items c.add_core-in-Values.new.leaves.items (binders_seen local c.as_slice.result.now) (core_seen q.value) (part_seen c.args.part.now local)
    c.in_ok-add_binders-in-Values.ensures c.in_ok-add_core-in-Values.ensures
    (ap (λ (p : CorePart). part_seen p local) q.is ∙ seen_values q.binders q.dotted q.value local ∙ (λ j. binders_seen local (sym c.as_slice.ensures.value j) ++ core_seen q.value))

pub add_part-returns-in_ok-add_used-in-Fields : goal.add_part-returns-in_ok-add_used-in-Fields
add_part-returns-in_ok-add_used-in-Fields t c =
    let local = c.args.local in
    let q = c.in-Fields in
    let old = c.args.leaves.now.items in
    let first = binders_seen local c.as_slice-in-Fields.result.now in
    let second = binders_seen true c.as_slice-in-Fields-2.result.now in
    let third = fields_seen c.as_slice-in-Fields-3.result.now c.as_slice-in-Fields-4.result.now in
    let both = grows_twice seen_of old c.add_binders-in-Fields.new.leaves.items c.add_binders-in-Fields-2.new.leaves.items first second (first ++ second) c.in_ok-add_binders-in-Fields.ensures c.in_ok-add_binders-in-Fields-2.ensures refl in
    grows_twice seen_of old c.add_binders-in-Fields-2.new.leaves.items c.add_used.new.leaves.items (first ++ second) third (part_seen c.args.part.now local) both c.in_ok-add_used-in-Fields.ensures
    (ap (λ (p : CorePart). part_seen p local) q.is ∙ seen_fields q.binders q.fields q.modified q.used local
    ∙ (λ j. binders_seen local (sym c.as_slice-in-Fields.ensures.value j) ++ binders_seen true (sym c.as_slice-in-Fields-2.ensures.value j) ++ fields_seen (sym c.as_slice-in-Fields-3.ensures.value j) (sym c.as_slice-in-Fields-4.ensures.value j)))

pub add_part-returns-in_ok-add_macro-in-Syntax : goal.add_part-returns-in_ok-add_macro-in-Syntax
add_part-returns-in_ok-add_macro-in-Syntax t c =
    let local = c.args.local in
    grows_as seen_of c.args.leaves.now.items c.add_macro.new.leaves.items (macro_seen local c.in-Syntax.definition) (part_seen c.args.part.now local) c.in_ok-add_macro-in-Syntax.ensures
    (ap (λ (p : CorePart). part_seen p local) c.in-Syntax.is ∙ seen_syntax c.in-Syntax.definition local)
