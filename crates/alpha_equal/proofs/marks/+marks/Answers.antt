use Rattle.std.proofs.Common.{◌≡◌, [], ◌∷◌, ◌++◌, length, sym, ap, ◌∙◌}
use Rattle.alpha_equal.specs.declared.nodes.Node.TheVariants as nodes
use Rattle.alpha_equal.specs.Marks.{ANode, ANumber, AUse, ADatum, mark_of, core_marks, cores_marks, clauses_marks, parts_binding, parts_marks, macro_bindings, macros_marks}
use Rattle.program_leaves.proofs.Growing.{grows_by_one, grows_twice}
use Rattle.alpha_equal.proofs.MarkLaws.{grows_three, marks_quasi, marks_case_lambda, marks_if, marks_set, marks_call, marks_body, marks_let_syntax}
use Rattle.alpha_equal.proofs.marks.+marks.Goals as goal

pub add_core-returns-in_ok-add_cores-in-Quasi : goal.add_core-returns-in_ok-add_cores-in-Quasi
add_core-returns-in_ok-add_cores-in-Quasi t c =
    let q = c.in-Quasi in
    let n : length q.parts.items ≡ c.len.result = sym (c.len.ensures ∙ q.parts.ok.0) in
    let one = grows_by_one mark_of c.add_counted.new.marks.items c.push-in-Quasi.new.self.items _ c.in_ok-push-in-Quasi.ensures.items in
    grows_three mark_of c.args.marks.now.items c.add_counted.new.marks.items c.push-in-Quasi.new.self.items c.add_cores.new.marks.items (ANode nodes.Quasiquotation ∷ ANumber c.len.result ∷ []) (ADatum q.datum c.as_slice.result.now ∷ [])
    (cores_marks c.as_slice-in-Quasi.result.now) (core_marks c.args.core.now) c.in_ok-add_counted-in-Quasi.ensures one c.in_ok-add_cores-in-Quasi.ensures
    (ap core_marks q.is ∙ marks_quasi q.datum q.places q.parts ∙ (λ j. ANode nodes.Quasiquotation ∷ ANumber (n j) ∷ ADatum q.datum (sym c.as_slice.ensures.value j) ∷ cores_marks (sym c.as_slice-in-Quasi.ensures.value j)))

pub add_core-returns-in_ok-add_clauses-in-CaseLambda : goal.add_core-returns-in_ok-add_clauses-in-CaseLambda
add_core-returns-in_ok-add_clauses-in-CaseLambda t c =
    let q = c.in-CaseLambda in
    let n : length q.clauses.items ≡ c.len-in-CaseLambda.result = sym (c.len-in-CaseLambda.ensures ∙ q.clauses.ok.0) in
    grows_twice mark_of c.args.marks.now.items c.add_counted-in-CaseLambda.new.marks.items c.add_clauses.new.marks.items (ANode nodes.CaseLambda ∷ ANumber c.len-in-CaseLambda.result ∷ []) (clauses_marks c.as_slice-in-CaseLambda.result.now)
    (core_marks c.args.core.now) c.in_ok-add_counted-in-CaseLambda.ensures c.in_ok-add_clauses-in-CaseLambda.ensures
    (ap core_marks q.is ∙ marks_case_lambda q.clauses ∙ (λ j. ANode nodes.CaseLambda ∷ ANumber (n j) ∷ clauses_marks (sym c.as_slice-in-CaseLambda.ensures.value j)))

pub add_core-returns-in_ok-add_cores-in-If : goal.add_core-returns-in_ok-add_cores-in-If
add_core-returns-in_ok-add_cores-in-If t c =
    let q = c.in-If in
    let n : length q.parts.items ≡ c.len-in-If.result = sym (c.len-in-If.ensures ∙ q.parts.ok.0) in
    grows_twice mark_of c.args.marks.now.items c.add_counted-in-If.new.marks.items c.add_cores-in-If.new.marks.items (ANode nodes.Conditional ∷ ANumber c.len-in-If.result ∷ []) (cores_marks c.as_slice-in-If.result.now)
    (core_marks c.args.core.now) c.in_ok-add_counted-in-If.ensures c.in_ok-add_cores-in-If.ensures
    (ap core_marks q.is ∙ marks_if q.parts ∙ (λ j. ANode nodes.Conditional ∷ ANumber (n j) ∷ cores_marks (sym c.as_slice-in-If.ensures.value j)))

pub add_core-returns-in_ok-add_core-in-Set : goal.add_core-returns-in_ok-add_core-in-Set
add_core-returns-in_ok-add_core-in-Set t c =
    let q = c.in-Set in
    let one = grows_by_one mark_of c.add_node-in-Set.new.marks.items c.push-in-Set.new.self.items _ c.in_ok-push-in-Set.ensures.items in
    grows_three mark_of c.args.marks.now.items c.add_node-in-Set.new.marks.items c.push-in-Set.new.self.items c.add_core.new.marks.items (ANode nodes.Assignment ∷ []) (AUse q.target ∷ []) (core_marks c.deref.result.now)
    (core_marks c.args.core.now) c.in_ok-add_node-in-Set.ensures one c.in_ok-add_core-in-Set.ensures
    (ap core_marks q.is ∙ marks_set q.target q.value ∙ (λ j. ANode nodes.Assignment ∷ AUse q.target ∷ core_marks (sym c.deref.ensures j)))

pub add_core-returns-in_ok-add_cores-in-Call : goal.add_core-returns-in_ok-add_cores-in-Call
add_core-returns-in_ok-add_cores-in-Call t c =
    let q = c.in-Call in
    let n : length q.parts.items ≡ c.len-in-Call.result = sym (c.len-in-Call.ensures ∙ q.parts.ok.0) in
    grows_twice mark_of c.args.marks.now.items c.add_counted-in-Call.new.marks.items c.add_cores-in-Call.new.marks.items (ANode nodes.Call ∷ ANumber c.len-in-Call.result ∷ []) (cores_marks c.as_slice-in-Call.result.now)
    (core_marks c.args.core.now) c.in_ok-add_counted-in-Call.ensures c.in_ok-add_cores-in-Call.ensures
    (ap core_marks q.is ∙ marks_call q.parts ∙ (λ j. ANode nodes.Call ∷ ANumber (n j) ∷ cores_marks (sym c.as_slice-in-Call.ensures.value j)))

pub add_core-returns-in_ok-add_parts-in-Body : goal.add_core-returns-in_ok-add_parts-in-Body
add_core-returns-in_ok-add_parts-in-Body t c =
    let q = c.in-Body in
    let n : length q.parts.items ≡ c.len-in-Body.result = sym (c.len-in-Body.ensures ∙ q.parts.ok.0) in
    grows_three mark_of c.args.marks.now.items c.add_counted-in-Body.new.marks.items c.add_all_binders.new.marks.items c.add_parts.new.marks.items (ANode nodes.Body ∷ ANumber c.len-in-Body.result ∷ []) (parts_binding c.as_slice-in-Body.result.now)
    (parts_marks c.as_slice-in-Body-2.result.now) (core_marks c.args.core.now) c.in_ok-add_counted-in-Body.ensures c.in_ok-add_all_binders-in-Body.ensures c.in_ok-add_parts-in-Body.ensures
    (ap core_marks q.is ∙ marks_body q.parts ∙ (λ j. ANode nodes.Body ∷ ANumber (n j) ∷ parts_binding (sym c.as_slice-in-Body.ensures.value j) ++ parts_marks (sym c.as_slice-in-Body-2.ensures.value j)))

pub add_core-returns-in_ok-add_core-in-LetSyntax : goal.add_core-returns-in_ok-add_core-in-LetSyntax
add_core-returns-in_ok-add_core-in-LetSyntax t c =
    let q = c.in-LetSyntax in
    let n : length q.macros.items ≡ c.len-in-LetSyntax.result = sym (c.len-in-LetSyntax.ensures ∙ q.macros.ok.0) in
    let ds = c.as_slice-in-LetSyntax.result.now in
    grows_three mark_of c.args.marks.now.items c.add_counted-in-LetSyntax.new.marks.items c.add_macros.new.marks.items c.add_core-in-LetSyntax.new.marks.items (ANode nodes.LocalMacros ∷ ANumber c.len-in-LetSyntax.result ∷ [])
    (macro_bindings ds ++ macros_marks ds) (core_marks c.deref-in-LetSyntax.result.now) (core_marks c.args.core.now) c.in_ok-add_counted-in-LetSyntax.ensures c.in_ok-add_macros-in-LetSyntax.ensures c.in_ok-add_core-in-LetSyntax.ensures
    (ap core_marks q.is ∙ marks_let_syntax q.macros q.body
    ∙ (λ j. ANode nodes.LocalMacros ∷ ANumber (n j) ∷ (macro_bindings (sym c.as_slice-in-LetSyntax.ensures.value j) ++ macros_marks (sym c.as_slice-in-LetSyntax.ensures.value j)) ++ core_marks (sym c.deref-in-LetSyntax.ensures j)))
