-- The law of an expression, whatever its form, over expanders that hold it of parts.
use Rattle.std.proofs.Common.{◌≡◌, ℕ, List, Bool, Option, Some, None, refl, ap, ◌∙◌, subst}
use Rattle.scheme_model.specs.declared.Occ.{Occ}
use Rattle.scheme_model.specs.Identifiers.{Number, Name}
use Rattle.scheme_model.specs.Ident.{Ident, erase, same_ident}
use Rattle.scheme_model.specs.Keywords.{CoreKeyword, IsQuote, IsQuasiquote, IsLambda, IsCaseLambda, IsIf, IsSet, IsBegin, IsDefine, IsDefineValues, IsDefineRecordType, IsDefineSyntax, IsLetSyntax, IsLetrecSyntax, IsCondExpand, IsSyntaxError, IsInclude}
use Rattle.scheme_model.specs.Trees.{Tree, name, atom, list, vector, Trees, no_trees, tree, Tail, map_tree, map_trees, map_tail}
use Rattle.scheme_model.specs.ExpansionFaults.{named, BadForm, BadPlace, SyntaxError, IncludeRefused}
use Rattle.scheme_model.specs.Meaning.{Head, IsCore, IsAuxiliary, IsMacro, IsNone}
use Rattle.scheme_model.specs.Requirements.{Known}
use Rattle.scheme_model.specs.Shapes.{Clause, LocalMacros, lambda_of, case_lambda_of, local_macros_of}
use Rattle.scheme_model.specs.RulesShape.{option_map}
use Rattle.scheme_model.specs.Cores.{Target, Core, Const, CaseLambda, If}
use Rattle.scheme_model.specs.Steps.{◌>>=◌, done, fails}
use Rattle.scheme_model.specs.Order.{Here, Transformer, target_of, head_of, given, meet_waiting}
use Rattle.scheme_model.specs.Expression.{whole, node, each, clauses, lambda, quasi, quote, set, sequence, misplaced, chosen_sequence, let_syntax, letrec_syntax, core_form, macro_use, by_head, expression}
use Rattle.scheme_model.specs.Substitution.{Clock, model}
use Rattle.scheme_model.specs.ScopedExpansion.{Frames, ScopedState, macro_at, scoped}
use Rattle.model_laws.proofs.FrameEras.{Era, Below}
use Rattle.model_laws.proofs.IdentKinds.{Kind, tree_kind, trees_kind, clause_kind, clauses_kind, definition_kind, local_macros_kind}
use Rattle.scheme_model.proofs.Distinct.{Distinct, AllDistinct, lambda_distinct, case_lambda_distinct, local_macros_distinct}
use Rattle.model_laws.proofs.FrameStates.{names, view, Old, ident_of, Made, FineState, Stands, stands_later}
use Rattle.model_laws.proofs.FrameLeaves.{TreeAll, TreesAll, TailAll, all_made_tree, all_made_trees}
use Rattle.model_laws.proofs.FrameAgrees.{Agrees, agrees_at, Keeps, keeps_bind, Same, same_done, same_fails, Seen}
use Rattle.model_laws.proofs.FrameHeads.{seen_transformer, transformer_seen, IfMacro, TransformerFine, macro_found, head_seen, target_seen, node_law}
use Rattle.model_laws.proofs.FrameUses.{meet_seen}
use Rattle.model_laws.proofs.FrameInstances.{use_law}
use Rattle.model_laws.proofs.FrameReaders.{identifiers, model_names, rest_kind, named_tree_kind, formals_tree_kind, maybe_trees_kind, text_kind, Reader, one_reader, some_reader, if_reader, text_reader, named_tree_reader, syntax_reader, lambda_reader, case_lambda_reader, definition_reader, values_reader, local_macros_reader, chosen_reader, read_law, made_rest}
use Rattle.model_laws.proofs.FrameExpressions.{Scoped, Modelled, WholeLaw, BodyLaw, sequence_law, call_law, conditional_law, set_law, quote_law, reference_law}
use Rattle.model_laws.proofs.FrameBinders.{knows, lambda_law, clauses_law, each_made}
use Rattle.model_laws.proofs.FrameMacros.{let_syntax_law, letrec_syntax_law}
use Rattle.model_laws.proofs.FrameQuasi.{quasi_law, quasi_read}

module _ (w : Era) (known : Known) (F : Scoped w known) (G : Modelled w known) (law : WholeLaw w known F G) (body_law : BodyLaw w known F G) (depth : ℕ) (here : Here) (fs : Frames) where
  -- where a form stands, and what stands behind its keyword
  module _ (s : ScopedState) (f : FineState w s) (in_body : Bool) (mine : List Number) (stands : Stands w s fs) (ts : Trees Ident) (tail : Tail Ident) (old : TreesAll (Below w s.uses) ts) (old_end : TailAll (Below w s.uses) tail) where
    abbrev rest : Made rest_kind w s.uses (ts, tail)
    rest = made_rest w s.uses ts tail old old_end

    reading : (l : Kind) (r : Reader rest_kind l) → Agrees (Keeps w s) (Seen w l fs) (given (λ i. i) here (r.read Ident identifiers (ts, tail)) s) (given erase here (r.read Name model_names (map_trees (names s fs) ts, map_tail (names s fs) tail)) (view in_body mine s))
    reading l r = read_law w rest_kind l r here fs s f in_body mine (ts, tail) rest

    -- a form that stands at a wrong place
    misplaced_law : (l : Kind) (r : Reader rest_kind l) → Same w s (given (λ i. i) here (r.read Ident identifiers (ts, tail)) s >>= misplaced {C = Core} here) (given erase here (r.read Name model_names (map_trees (names s fs) ts, map_tail (names s fs) tail)) (view in_body mine s) >>= misplaced {C = Core} here)
    misplaced_law l r = keeps_bind w s _ (reading l r) (λ a b t i n k q. same_fails w t i n here BadPlace k.0)

    chosen_law : (t : ScopedState) → FineState w t → (i : Bool) (n : List Number) → Stands w t fs → (o : Option (Trees Ident)) → IfMacro (TreesAll (Below w t.uses)) o
        → Same w t (chosen_sequence F (scoped known) depth here fs o t) (chosen_sequence G (model known) depth here tt (option_map (map_trees (names t fs)) o) (view i n t))
    chosen_law t ft i n h None l = same_fails w t i n here BadForm ft
    chosen_law t ft i n h (Some no_trees) l = same_fails w t i n here BadForm ft
    chosen_law t ft i n h (Some (tree u us)) l = sequence_law w known F G law depth here fs (tree u us) t ft i n h l

    chosen_old : (u : Clock) (o : Option (Trees Ident)) → Made maybe_trees_kind w u o → IfMacro (TreesAll (Below w u)) o
    chosen_old u o m = subst (IfMacro (TreesAll (Below w u))) m.same (go m.made)
      where
        go : (x : Option (Trees (Old w m.clock))) → IfMacro (TreesAll (Below w u)) (option_map (map_trees (ident_of w m.clock)) x)
        go None = tt
        go (Some us) = all_made_trees w u (map_trees (ident_of w m.clock) us) (record { clock = m.clock; earlier = m.earlier; made = us; same = refl })

    pub core_form_law : (c : CoreKeyword) → Same w s (core_form F (scoped known) depth here fs c ts tail s) (core_form G (model known) depth here tt c (map_trees (names s fs) ts) (map_tail (names s fs) tail) (view in_body mine s))
    core_form_law IsQuote = keeps_bind w s _ (reading tree_kind one_reader) (λ a b t i n k q. agrees_at refl (ap (λ (x : Tree Name). quote (model known) depth here x (view i n t)) q.1) (quote_law w known depth here fs a t k.0 i n))
    core_form_law IsQuasiquote =
        keeps_bind w s _ (quasi_read w known F G law here fs ts tail s f in_body mine old old_end) (λ a b t i n k q.
        agrees_at refl (ap (λ x. quasi G (model known) depth here tt x (view i n t)) q.1) (quasi_law w known F G law depth here fs a t k.0 i n (stands_later w s t k.1 fs stands) q.0))
    core_form_law IsLambda =
        keeps_bind w s _ (knows (λ (c : Clause Ident). Distinct c.formals.names) here (lambda_of same_ident ts tail) s (lambda_distinct ts tail) (reading clause_kind lambda_reader)) (λ a b t i n k q.
        agrees_at refl (ap (λ x. lambda G (model known) depth here tt x (view i n t)) q.0.1) (lambda_law w known F G body_law depth here fs a t k.0 i n (stands_later w s t k.1 fs stands) q.0.0 q.1))
    core_form_law IsCaseLambda =
        keeps_bind w s _ (knows AllDistinct here (case_lambda_of same_ident ts tail) s (case_lambda_distinct ts tail) (reading clauses_kind case_lambda_reader)) (λ a b t i n k q.
        agrees_at refl (ap (λ x. node (model known) here 1 depth (λ below t. clauses G (model known) below here tt x t >>= λ more. done (CaseLambda more)) (view i n t)) q.0.1)
        (node_law w known here 1 depth t k.0 i n _ _ (λ below x.
        keeps_bind w (record t { nodes = x }) _ (clauses_law w known F G body_law below here fs a (record t { nodes = x }) k.0 i n (stands_later w s t k.1 fs stands) (each_made w known t.uses a q.0.0) q.1) (λ cs ds v i1 n1 k1 e.
        same_done w v i1 n1 (CaseLambda cs) (CaseLambda ds) k1.0 (ap CaseLambda e)))))
    core_form_law IsIf =
        keeps_bind w s _ (reading trees_kind if_reader) (λ a b t i n k q.
        agrees_at refl (ap (λ us. node (model known) here 1 depth (λ below t. each (λ u. G below here tt (whole u)) us t >>= λ cs. done (If cs)) (view i n t)) q.1)
        (conditional_law w known F G law depth here fs a t k.0 i n (stands_later w s t k.1 fs stands) (all_made_trees w t.uses a q.0)))
    core_form_law IsSet =
        keeps_bind w s _ (reading named_tree_kind named_tree_reader) (λ a b t i n k q.
        agrees_at refl (ap (λ p. set G (model known) depth here tt p (view i n t)) q.1)
        (set_law w known F G law depth here fs a t k.0 i n (stands_later w s t k.1 fs stands) (all_made_tree w t.uses a.1 (record { clock = q.0.clock; earlier = q.0.earlier; made = q.0.made.1; same = ap (λ p. p.1) q.0.same }))))
    core_form_law IsBegin =
        keeps_bind w s _ (reading trees_kind some_reader) (λ a b t i n k q.
        agrees_at refl (ap (λ us. sequence G (model known) depth here tt us (view i n t)) q.1) (sequence_law w known F G law depth here fs a t k.0 i n (stands_later w s t k.1 fs stands) (all_made_trees w t.uses a q.0)))
    core_form_law IsDefine = misplaced_law definition_kind definition_reader
    core_form_law IsDefineValues = misplaced_law formals_tree_kind values_reader
    core_form_law IsDefineRecordType = same_fails w s in_body mine here BadPlace f
    core_form_law IsDefineSyntax = misplaced_law named_tree_kind syntax_reader
    core_form_law IsLetSyntax =
        keeps_bind w s _ (knows (λ (m : LocalMacros Ident). Distinct m.names) here (local_macros_of same_ident ts tail) s (local_macros_distinct ts tail) (reading local_macros_kind local_macros_reader)) (λ a b t i n k q.
        agrees_at refl (ap (λ x. let_syntax G (model known) depth here tt x (view i n t)) q.0.1) (let_syntax_law w known F G body_law depth here fs a t k.0 i n (stands_later w s t k.1 fs stands) q.0.0 q.1))
    core_form_law IsLetrecSyntax =
        keeps_bind w s _ (knows (λ (m : LocalMacros Ident). Distinct m.names) here (local_macros_of same_ident ts tail) s (local_macros_distinct ts tail) (reading local_macros_kind local_macros_reader)) (λ a b t i n k q.
        agrees_at refl (ap (λ x. letrec_syntax G (model known) depth here tt x (view i n t)) q.0.1) (letrec_syntax_law w known F G body_law depth here fs a t k.0 i n (stands_later w s t k.1 fs stands) q.0.0 q.1))
    core_form_law IsCondExpand =
        keeps_bind w s _ (reading maybe_trees_kind (chosen_reader known)) (λ a b t i n k q.
        agrees_at refl (ap (λ o. chosen_sequence G (model known) depth here tt o (view i n t)) q.1) (chosen_law t k.0 i n (stands_later w s t k.1 fs stands) a (chosen_old t.uses a q.0)))
    core_form_law IsSyntaxError =
        keeps_bind w s _ (reading text_kind text_reader) (λ a b t i n k q. agrees_at refl (ap (λ x. fails here (SyntaxError x) (view i n t)) q.1) (same_fails w t i n here (SyntaxError a) k.0))
    core_form_law IsInclude = same_fails w s in_body mine here IncludeRefused f

    -- ---- macro uses

    macro_law : (k : Target) (o : Option (Transformer Frames Ident)) → IfMacro (TransformerFine w s) o
        → Same w s (macro_use F (scoped known) depth here fs k o ts tail s) (macro_use G (model known) depth here tt k (option_map (seen_transformer s.places s.definitions) o) (map_trees (names s fs) ts) (map_tail (names s fs) tail) (view in_body mine s))
    macro_law k None m = same_fails w s in_body mine here BadForm f
    macro_law k (Some x) m =
        keeps_bind w s _ (use_law w known s f in_body mine fs stands x m ts tail old old_end here k) (λ a b t i n l q.
        let e = q.1 in
        agrees_at refl
        ((λ j. G depth here tt (whole (e j).tree) (meet_waiting (model known) tt (e j).met (view i n t))) ∙ ap (G depth here tt (whole (map_tree (names t fs) a.tree))) (meet_seen w known t l.0 i n fs a.met))
        (law depth here fs a.tree (meet_waiting (scoped known) fs a.met t) l.0 i n (stands_later w s t l.1 fs stands) (all_made_tree w t.uses a.tree (record { clock = q.0.clock; earlier = q.0.earlier; made = q.0.made.tree; same = ap (λ y. y.tree) q.0.same }))))

  -- ---- a form by its head

  module _ (s : ScopedState) (f : FineState w s) (in_body : Bool) (mine : List Number) (stands : Stands w s fs) (ts : Trees Ident) (tail : Tail Ident) (old : TreesAll (Below w s.uses) ts) (old_end : TailAll (Below w s.uses) tail) where
    -- a core form's keyword is met first
    core_met : (c : CoreKeyword) (k : Target) (k' : Target) → k' ≡ k
        → Same w s (core_form F (scoped known) depth here fs c ts tail ((scoped known).meet k s)) (core_form G (model known) depth here tt c (map_trees (names s fs) ts) (map_tail (names s fs) tail) ((model known).meet k' (view in_body mine s)))
    core_met c k k' e =
        agrees_at refl (ap (λ (x : Target). core_form G (model known) depth here tt c (map_trees (names s fs) ts) (map_tail (names s fs) tail) ((model known).meet x (view in_body mine s))) e)
        (core_form_law ((scoped known).meet k s) f in_body mine stands ts tail old old_end c)

    pub by_head_law : (h : Head) (x : Ident) (o : Option Occ) → Below w s.uses x
        → Same w s (by_head F (scoped known) depth here fs h (named x o) ts tail s) (by_head G (model known) depth here tt h (named (names s fs x) o) (map_trees (names s fs) ts) (map_tail (names s fs) tail) (view in_body mine s))
    by_head_law (IsCore c) x o l = core_met c (target_of (scoped known) fs s x o) (target_of (model known) tt (view in_body mine s) (names s fs x) o) (target_seen w known s f in_body mine fs x o)
    by_head_law (IsAuxiliary a) x o l = call_law w known F G law depth here fs (tree (name x o) ts) tail s f in_body mine stands (l, old)
    by_head_law (IsMacro m) x o l =
        let e = target_seen w known s f in_body mine fs x o in
        let d = transformer_seen s.places s.definitions s.macros m in
        agrees_at refl (λ j. macro_use G (model known) depth here tt (e j) (d j) (map_trees (names s fs) ts) (map_tail (names s fs) tail) (view in_body mine s))
        (macro_law s f in_body mine stands ts tail old old_end (target_of (scoped known) fs s x o) (macro_at s.macros m) (macro_found w s f m))
    by_head_law IsNone x o l = call_law w known F G law depth here fs (tree (name x o) ts) tail s f in_body mine stands (l, old)

  -- ---- any expression

  pub expression_law : (t : Tree Ident) (s : ScopedState) → FineState w s → (in_body : Bool) (mine : List Number) → Stands w s fs → TreeAll (Below w s.uses) t
      → Same w s (expression F (scoped known) depth here fs t s) (expression G (model known) depth here tt (map_tree (names s fs) t) (view in_body mine s))
  expression_law (name i o) s f b n h l = reference_law w known depth here fs (named i o) s f b n
  expression_law (atom a o) s f b n h l = node_law w known here 2 depth s f b n _ _ (λ below x. same_done w (record s { nodes = x }) b n (Const a) (Const a) f refl)
  expression_law (vector ts o) s f b n h l = quote_law w known depth here fs (vector ts o) s f b n
  expression_law (list no_trees tail o) s f b n h l = same_fails w s b n here BadForm f
  expression_law (list (tree (name i q) ts) tail o) s f b n h l =
      agrees_at refl (ap (λ (k : Head). by_head G (model known) depth here tt k (named (names s fs i) q) (map_trees (names s fs) ts) (map_tail (names s fs) tail) (view b n s)) (head_seen w known s f b n fs i))
      (by_head_law s f b n h ts tail l.0.1 l.1 (head_of (scoped known) fs s i) i q l.0.0)
  expression_law (list (tree (atom a q) ts) tail o) s f b n h l = call_law w known F G law depth here fs (tree (atom a q) ts) tail s f b n h l.0
  expression_law (list (tree (list us end q) ts) tail o) s f b n h l = call_law w known F G law depth here fs (tree (list us end q) ts) tail s f b n h l.0
  expression_law (list (tree (vector us q) ts) tail o) s f b n h l = call_law w known F G law depth here fs (tree (vector us q) ts) tail s f b n h l.0
