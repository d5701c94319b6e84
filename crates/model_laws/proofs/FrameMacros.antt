-- The law of local macros: their rules are read, checked and kept alike, and then the body is expanded.
use Rattle.std.proofs.Common.{◌≡◌, ℕ, suc, List, [], ◌∷◌, map, Bool, true, false, cond, Option, Some, None, refl, sym, ap, ◌∙◌, subst}
use Rattle.scheme_model.specs.Identifiers.{Number, Name}
use Rattle.scheme_model.specs.Ident.{Ident, erase}
use Rattle.scheme_model.specs.Trees.{Tree, name, atom, list, vector, Trees, no_trees, tree, proper, map_tree, map_trees}
use Rattle.scheme_model.specs.Measures.{tree_size}
use Rattle.scheme_model.specs.ExpansionFaults.{Named, named_map, BadForm}
use Rattle.scheme_model.specs.Meaning.{Local, Head}
use Rattle.scheme_model.specs.Requirements.{Known}
use Rattle.scheme_model.specs.Shapes.{LocalMacros}
use Rattle.scheme_model.specs.RulesShape.{Rules, rules_map, rules_of, option_map}
use Rattle.scheme_model.specs.Leaves.{Leaf, leaves_of}
use Rattle.scheme_model.specs.Cores.{LocalNumber, Binder, LetSyntax}
use Rattle.scheme_model.specs.Steps.{◌>>=◌, done, fails}
use Rattle.scheme_model.specs.Order.{Here, Transformer, target_of, head_of, counting, given, RulesParts, rules_parts_of, is_rules, rules_parts, rules_at}
use Rattle.scheme_model.specs.Expression.{body, bound, meaning_of, macro_with, macro_def, heads, keep_all, numbers, local_defs, local_macros, recursive, let_syntax, letrec_syntax}
use Rattle.scheme_model.specs.Substitution.{Clock, model}
use Rattle.scheme_model.specs.ScopedExpansion.{Frames, ScopedState, macro_at, next_number, scoped}
use Rattle.scheme_model.specs.Renaming.{leaf_map, local_macros_map}
use Rattle.model_laws.proofs.FrameEras.{Era, Before, Below, before_more, frames_entered}
use Rattle.scheme_model.proofs.RenamingLaws.{map_after, size-map}
use Rattle.model_laws.proofs.LeafLaws.{leaves_of-map}
use Rattle.model_laws.proofs.IdentKinds.{pointwise, rules_kind, local_macros_kind, rules_fused}
use Rattle.scheme_model.proofs.Clocks.{leq_itself}
use Rattle.scheme_model.proofs.Distinct.{Distinct}
use Rattle.model_laws.proofs.FrameNames.{erase_frame_image}
use Rattle.model_laws.proofs.FrameAsks.{AllOf, all_of_more}
use Rattle.model_laws.proofs.FrameStates.{names, view, Made, made_later, made_same, FineState, Grows, grows_then, Stands, stands_later, names_later, macro_fine}
use Rattle.model_laws.proofs.FrameLeaves.{TreeAll, TreesAll, lift_trees, lift_tail, lifted_trees, lifted_tail, all_made_trees}
use Rattle.model_laws.proofs.FrameAgrees.{Agrees, agree, agrees_at, Keeps, keeps_itself, keeps_bind, Same, same_done, same_fails, Seen}
use Rattle.model_laws.proofs.FrameHeads.{seen_transformer, transformer_seen, IfMacro, head_seen, target_seen, node_law, counted_law}
use Rattle.model_laws.proofs.FrameUses.{named_in}
use Rattle.model_laws.proofs.FrameReaders.{parts_map, parts_kind, rules_reader, identifiers, model_names, read_law}
use Rattle.model_laws.proofs.FrameExpressions.{Scoped, Modelled, BodyLaw, trees_still, trees_old}
use Rattle.model_laws.proofs.FrameBinders.{NamesOld, names_old, names_made, InRegion, bound_law}

-- ---- a macro ps it is told

module _ (w : Era) (known : Known) (s : ScopedState) (f : FineState w s) (in_body : Bool) (mine : List Number) where
  rules_erased : (fs : Frames) (r : Rules Ident) → rules_map erase (rules_map (names s fs) r) ≡ rules_map (λ i. i) r
  rules_erased fs r =
      rules_fused Ident Name Ident erase (names s fs) r ∙ ap (λ (h : Ident → Ident). rules_map h r) (pointwise (λ i. erase (names s fs i)) (λ i. i) (λ i. erase_frame_image s.places s.definitions fs i))

  macro_with_seen : (b : Binder) (o : Option (Transformer Frames Ident)) → macro_with (model known) (view in_body mine s) b (option_map (seen_transformer s.places s.definitions) o) ≡ macro_with (scoped known) s b o
  macro_with_seen b None = refl
  macro_with_seen b (Some m) =
      let rs = rules_erased m.env m.rules in
      let ls = ap (map (λ (l : Leaf Name). record { target = target_of (model known) tt (view in_body mine s) l.leaf.name l.leaf.occ; literal = l.literal })) (leaves_of-map Ident Name (names s m.env) identifiers model_names (named_in s m.env) m.rules)
      ∙ map_after (λ (l : Leaf Name). record { target = target_of (model known) tt (view in_body mine s) l.leaf.name l.leaf.occ; literal = l.literal }) (leaf_map (names s m.env)) (λ (l : Leaf Ident). record { target = target_of (scoped known) m.env s l.leaf.name l.leaf.occ; literal = l.literal })
      (λ l. ap (λ t. record { target = t; literal = l.literal }) (target_seen w known s f in_body mine m.env l.leaf.name l.leaf.occ)) (leaves_of identifiers m.rules) in
      λ j. record { binder = b; rules = rs j; leaves = ls j }

  pub macro_def_seen : (b : Binder) → macro_def (model known) (view in_body mine s) b ≡ macro_def (scoped known) s b
  macro_def_seen b =
      ap (macro_with (model known) (view in_body mine s) b) (transformer_seen s.places s.definitions s.macros (meaning_of b.bound b.ident)) ∙ macro_with_seen b (macro_at s.macros (meaning_of b.bound b.ident))

  local_defs_seen : (g : Ident → Name) → ((i : Ident) → erase (g i) ≡ i) → (vs : List Number) (ns : List (Named Ident)) → local_defs (model known) (view in_body mine s) vs (map (named_map g) ns) ≡ local_defs (scoped known) s vs ns
  local_defs_seen g h [] ns = refl
  local_defs_seen g h (v ∷ vs) [] = refl
  local_defs_seen g h (v ∷ vs) (n ∷ ns) =
      let e = ap (λ (i : Ident). macro_def (model known) (view in_body mine s) (record { bound = LocalNumber v; ident = i; occ = n.occ })) (h n.name) ∙ macro_def_seen (record { bound = LocalNumber v; ident = n.name; occ = n.occ }) in
      let rest = local_defs_seen g h vs ns in
      λ j. e j ∷ rest j

-- ---- heads of rules

pub parts_of-map : (f : Ident → Name) (t : Tree Ident) → rules_parts_of (map_tree f t) ≡ option_map (parts_map f) (rules_parts_of t)
parts_of-map f (name i o) = refl
parts_of-map f (atom a o) = refl
parts_of-map f (vector ts o) = refl
parts_of-map f (list no_trees tail o) = refl
parts_of-map f (list (tree (name i p) ts) tail o) = refl
parts_of-map f (list (tree (atom a p) ts) tail o) = refl
parts_of-map f (list (tree (list us end p) ts) tail o) = refl
parts_of-map f (list (tree (vector us p) ts) tail o) = refl

module _ (w : Era) (known : Known) where
  pub parts_made : (u : Clock) (t : Tree Ident) → TreeAll (Below w u) t → IfMacro (Made parts_kind w u) (rules_parts_of t)
  parts_made u (name i o) l = tt
  parts_made u (atom a o) l = tt
  parts_made u (vector ts o) l = tt
  parts_made u (list no_trees tail o) l = tt
  parts_made u (list (tree (name i p) ts) tail o) l = record {
    clock = u;
    earlier = leq_itself u;
    made = record { head = (i, l.0.0); parts = lift_trees (Below w u) ts l.0.1; tail = lift_tail (Below w u) tail l.1 };
    same = (let a = lifted_trees (Below w u) ts l.0.1 in let b = lifted_tail (Below w u) tail l.1 in λ j. record { head = i; parts = a j; tail = b j });
  }
  parts_made u (list (tree (atom a p) ts) tail o) l = tt
  parts_made u (list (tree (list us end p) ts) tail o) l = tt
  parts_made u (list (tree (vector us p) ts) tail o) l = tt

  module _ (here : Here) (fs : Frames) where
    some_parts : (s : ScopedState) → FineState w s → (in_body : Bool) (mine : List Number) (o : Option (RulesParts Ident)) → IfMacro (Made parts_kind w s.uses) o
        → Agrees (Keeps w s) (Seen w parts_kind fs) (rules_parts (scoped known) here fs o s) (rules_parts (model known) here tt (option_map (parts_map (names s fs)) o) (view in_body mine s))
    some_parts s f i n None m = same_fails w s i n here BadForm f
    some_parts s f i n (Some r) m =
        agrees_at refl (ap (λ (h : Head). cond (is_rules h) (done (parts_map (names s fs) r) (view i n s)) (fails here BadForm (view i n s))) (head_seen w known s f i n fs r.head)) (go (is_rules (head_of (scoped known) fs s r.head)))
      where
        go : (t : Bool) → Agrees (Keeps w s) (Seen w parts_kind fs) (cond t (done r s) (fails here BadForm s)) (cond t (done (parts_map (names s fs) r) (view i n s)) (fails here BadForm (view i n s)))
        go true = agree r (parts_map (names s fs) r) s i n refl refl (keeps_itself w s f i n) (m, refl)
        go false = same_fails w s i n here BadForm f

    pub rules_parts_law : (s : ScopedState) → FineState w s → (in_body : Bool) (mine : List Number) (t : Tree Ident) → TreeAll (Below w s.uses) t
        → Agrees (Keeps w s) (Seen w parts_kind fs) (rules_parts (scoped known) here fs (rules_parts_of t) s) (rules_parts (model known) here tt (rules_parts_of (map_tree (names s fs) t)) (view in_body mine s))
    rules_parts_law s f i n t l =
        agrees_at refl (ap (λ o. rules_parts (model known) here tt o (view i n s)) (parts_of-map (names s fs) t)) (some_parts s f i n (rules_parts_of t) (parts_made s.uses t l))

    -- parts one by one
    abbrev pub SeenParts : ScopedState → List (RulesParts Ident) → List (RulesParts Name) → Type 0
    SeenParts t [] [] = Unit {0}
    SeenParts t [] (b ∷ bs) = ⊥
    SeenParts t (a ∷ ps) [] = ⊥
    SeenParts t (a ∷ ps) (b ∷ bs) = Seen w parts_kind fs t a b × SeenParts t ps bs

    seen_still : (s t : ScopedState) → FineState w s → Grows w s t → Stands w s fs → (a : RulesParts Ident) (b : RulesParts Name) → Seen w parts_kind fs s a b → Seen w parts_kind fs t a b
    seen_still s t f g h a b q = (made_later parts_kind w s.uses t.uses g.uses a q.0, q.1 ∙ made_same parts_kind w s.uses (names s fs) (names t fs) (names_later w s t f g fs h) a q.0)

    parts_still : (s t : ScopedState) → FineState w s → Grows w s t → Stands w s fs → (ps : List (RulesParts Ident)) (bs : List (RulesParts Name)) → SeenParts s ps bs → SeenParts t ps bs
    parts_still s t f g h [] [] q = tt
    parts_still s t f g h [] (b ∷ bs) q = q
    parts_still s t f g h (a ∷ ps) [] q = q
    parts_still s t f g h (a ∷ ps) (b ∷ bs) q = (seen_still s t f g h a b q.0, parts_still s t f g h ps bs q.1)

    heads_law : (ts : Trees Ident) (s : ScopedState) → FineState w s → (in_body : Bool) (mine : List Number) → Stands w s fs → TreesAll (Below w s.uses) ts
        → Agrees (Keeps w s) SeenParts (heads (scoped known) here fs ts s) (heads (model known) here tt (map_trees (names s fs) ts) (view in_body mine s))
    heads_law no_trees s f i n h l = agree [] [] s i n refl refl (keeps_itself w s f i n) tt
    heads_law (tree t ts) s f i n h l =
        keeps_bind w s _ (rules_parts_law s f i n t l.0) (λ a b v i1 n1 k q.
        keeps_bind w v _ (agrees_at refl (ap (λ (us : Trees Name). heads (model known) here tt us (view i1 n1 v)) (trees_still w known s v f k.1 fs h ts l.1)) (heads_law ts v k.0 i1 n1 (stands_later w s v k.1 fs h) (trees_old w known s v k.1 ts l.1))) (λ ps bs x i2 n2 k2 q2.
        agree (a ∷ ps) (b ∷ bs) x i2 n2 refl refl (keeps_itself w x k2.0 i2 n2) (seen_still v x k.0 k2.1 (stands_later w s v k.1 fs h) a b q, q2)))

    -- ---- rules

    pub rules_at_law : (g : Ident → Name) (t : Tree Ident) (a : RulesParts Ident) (b : RulesParts Name) (s : ScopedState) → FineState w s → (in_body : Bool) (mine : List Number) → Seen w parts_kind fs s a b
        → Agrees (Keeps w s) (Seen w rules_kind fs) (rules_at (scoped known) here t a s) (rules_at (model known) here (map_tree g t) b (view in_body mine s))
    rules_at_law g t a b s f i n q =
        agrees_at refl (let z = size-map Ident Name g t in let e = q.1 in λ j. counting (model known) here (z j) (view i n s) >>= λ u. given erase here (rules_of model_names (e j).parts (e j).tail))
        (counted_law w known here (tree_size t) s f i n (given (λ i. i) here (rules_of identifiers a.parts a.tail)) (given erase here (rules_of model_names (parts_map (names s fs) a).parts (parts_map (names s fs) a).tail))
        (λ x. read_law w parts_kind rules_kind rules_reader here fs (record s { nodes = x }) f i n a q.0))

    keep_all_law : (g : Ident → Name) (vs : List Number) (ts : Trees Ident) (ps : List (RulesParts Ident)) (bs : List (RulesParts Name)) (s : ScopedState) → FineState w s → (in_body : Bool) (mine : List Number) → Stands w s fs → AllOf (Before w s.locals) vs → SeenParts s ps bs
        → Agrees (Keeps w s) (λ (t : ScopedState) (a : Unit {0}) (b : Unit {0}). Unit {0}) (keep_all (scoped known) here fs vs ts ps s) (keep_all (model known) here tt vs (map_trees g ts) bs (view in_body mine s))
    keep_all_law g [] ts ps bs s f i n h l q = agree tt tt s i n refl refl (keeps_itself w s f i n) tt
    keep_all_law g (v ∷ vs) no_trees ps bs s f i n h l q = agree tt tt s i n refl refl (keeps_itself w s f i n) tt
    keep_all_law g (v ∷ vs) (tree t ts) [] [] s f i n h l q = agree tt tt s i n refl refl (keeps_itself w s f i n) tt
    keep_all_law g (v ∷ vs) (tree t ts) [] (b ∷ bs) s f i n h l q = absurd q
    keep_all_law g (v ∷ vs) (tree t ts) (a ∷ ps) [] s f i n h l q = absurd q
    keep_all_law g (v ∷ vs) (tree t ts) (a ∷ ps) (b ∷ bs) s f i n h l q =
        keeps_bind w s _ (rules_at_law g t a b s f i n q.0) (λ r r' x i1 n1 k e.
        let st = stands_later w s x k.1 fs h in
        let counted : AllOf (Before w x.locals) (v ∷ vs) = all_of_more (Before w s.locals) (Before w x.locals) (before_more w s.locals x.locals k.1.locals) (v ∷ vs) l in
        let fine : FineState w (record x { macros = record { meaning = Local v; frames = fs; rules = r } ∷ x.macros }) =
        macro_fine w x (record { meaning = Local v; frames = fs; rules = r }) (record { entered = frames_entered w x.definitions x.uses x.bodies fs st.0; rules = e.0; binders = st.1; meaning = counted.0 }) tt k.0 in
        agrees_at refl (ap (λ (z : Rules Name). keep_all (model known) here tt vs (map_trees g ts) bs ((model known).keep v z tt (view i1 n1 x))) e.1)
        (keep_all_law g vs ts ps bs (record x { macros = record { meaning = Local v; frames = fs; rules = r } ∷ x.macros }) fine i1 n1 st counted.1 (parts_still s x f k.1 h ps bs q.1)))

  -- ---- the forms

  module _ (F : Scoped w known) (G : Modelled w known) (law : BodyLaw w known F G) (depth : ℕ) (here : Here) where
    -- rules in one place, a body in another, binders by their numbers
    pub local_macros_law : (vs : List Number) (g : Ident → Name) → ((i : Ident) → erase (g i) ≡ i) → (ns : List (Named Ident)) (d : Frames) (rules : Trees Ident) (e : Frames) (ts : Trees Ident) (s : ScopedState) → FineState w s → (in_body : Bool) (mine : List Number)
        → Stands w s d → Stands w s e → AllOf (Before w s.locals) vs → TreesAll (Below w s.uses) rules → TreesAll (Below w s.uses) ts
        → Same w s (local_macros F (scoped known) depth here vs ns d rules e ts s) (local_macros G (model known) depth here vs (map (named_map g) ns) tt (map_trees (names s d) rules) tt (map_trees (names s e) ts) (view in_body mine s))
    local_macros_law vs g erased ns d rules e ts s f i n hd he l lr lt =
        keeps_bind w s _ (heads_law here d rules s f i n hd lr) (λ ps bs t i1 n1 k q.
        node_law w known here 1 depth t k.0 i1 n1 _ _ (λ below x.
        keeps_bind w (record t { nodes = x }) _
        (keep_all_law here d (names s d) vs rules ps bs (record t { nodes = x }) k.0 i1 n1 (stands_later w s t k.1 d hd) (all_of_more (Before w s.locals) (Before w t.locals) (before_more w s.locals t.locals k.1.locals) vs l) q) (λ u u' v i2 n2 k2 z.
        let grown : Grows w s v = grows_then w s t v k.1 k2.1 in
        keeps_bind w v _ (agrees_at refl (ap (λ (us : Trees Name). G below here tt (body us) (view i2 n2 v)) (trees_still w known s v f grown e he ts lt)) (law below here e ts v k2.0 i2 n2 (stands_later w s v grown e he) (trees_old w known s v grown ts lt))) (λ c c' y i3 n3 k3 p.
        same_done w y i3 n3 (LetSyntax (local_defs (scoped known) v vs ns) c) (LetSyntax (local_defs (model known) (view i2 n2 v) vs (map (named_map g) ns)) c') k3.0
        (let m = sym (local_defs_seen w known v k2.0 i2 n2 g erased vs ns) in λ j. LetSyntax (m j) (p j))))))

    numbers_same : (g : Ident → Name) (v : Number) (ns : List (Named Ident)) → numbers v (map (named_map g) ns) ≡ numbers v ns
    numbers_same g v [] = refl
    numbers_same g v (n ∷ ns) = ap (λ vs. v ∷ vs) (numbers_same g (record { unit = v.unit; form = v.form; count = suc v.count }) ns)

    pub let_syntax_law : (fs : Frames) (m : LocalMacros Ident) (s : ScopedState) → FineState w s → (in_body : Bool) (mine : List Number) → Stands w s fs → Made local_macros_kind w s.uses m → Distinct m.names
        → Same w s (let_syntax F (scoped known) depth here fs m s) (let_syntax G (model known) depth here tt (local_macros_map (names s fs) m) (view in_body mine s))
    let_syntax_law fs m s f i n h made d =
        keeps_bind w s _
        (agrees_at refl
        (ap (λ vs. bound (model known) (λ e us. local_macros G (model known) depth here vs (map (named_map (names s fs)) m.names) tt (map_trees (names s fs) m.rules) e us) (map (named_map (names s fs)) m.names) tt (map_trees (names s fs) m.body) (view i n s)) (numbers_same (names s fs) (next_number s s.locals) m.names))
        (bound_law w known
        (λ e us. local_macros F (scoped known) depth here (numbers (next_number s s.locals) m.names) m.names fs m.rules e us)
        (λ e us. local_macros G (model known) depth here (numbers (next_number s s.locals) m.names) (map (named_map (names s fs)) m.names) tt (map_trees (names s fs) m.rules) e us)
        m.body m.names fs s f i n h d old region))
        (λ a b t i1 n1 k e. same_done w t i1 n1 a.1 b.1 k.0 (ap (λ q. q.1) e))
      where
        old : NamesOld w known s.uses m.names
        old = names_old w known made.clock s.uses made.earlier m.names (subst (λ (x : LocalMacros Ident). NamesOld w known made.clock x.names) made.same (names_made w known made.clock made.made.names))

        rules_all : TreesAll (Below w s.uses) m.rules
        rules_all = all_made_trees w s.uses m.rules (record { clock = made.clock; earlier = made.earlier; made = made.made.rules; same = ap (λ (x : LocalMacros Ident). x.rules) made.same })

        body_all : TreesAll (Below w s.uses) m.body
        body_all = all_made_trees w s.uses m.body (record { clock = made.clock; earlier = made.earlier; made = made.made.body; same = ap (λ (x : LocalMacros Ident). x.body) made.same })

        region : InRegion w known m.names s m.body
            (λ e us. local_macros F (scoped known) depth here (numbers (next_number s s.locals) m.names) m.names fs m.rules e us)
            (λ e us. local_macros G (model known) depth here (numbers (next_number s s.locals) m.names) (map (named_map (names s fs)) m.names) tt (map_trees (names s fs) m.rules) e us)
        region c t ft g st counted i1 n1 =
            agrees_at refl (ap (λ (us : Trees Name). local_macros G (model known) depth here (numbers (next_number s s.locals) m.names) (map (named_map (names s fs)) m.names) tt us tt (map_trees (names t c) m.body) (view i1 n1 t)) (trees_still w known s t f g fs h m.rules rules_all))
            (local_macros_law (numbers (next_number s s.locals) m.names) (names s fs) (λ i. erase_frame_image s.places s.definitions fs i) m.names fs m.rules c m.body t ft i1 n1 (stands_later w s t g fs h) st counted (trees_old w known s t g m.rules rules_all) (trees_old w known s t g m.body body_all))

    -- the rules are the first tree of the region
    recursive_law : (vs : List Number) (g : Ident → Name) → ((i : Ident) → erase (g i) ≡ i) → (ns : List (Named Ident)) (c : Frames) (rules : Trees Ident) (ts : Trees Ident) (t : ScopedState) → FineState w t → (in_body : Bool) (mine : List Number) → Stands w t c
        → AllOf (Before w t.locals) vs → TreesAll (Below w t.uses) rules → TreesAll (Below w t.uses) ts
        → Same w t (recursive F (scoped known) depth here vs ns c (tree (list rules proper None) ts) t) (recursive G (model known) depth here vs (map (named_map g) ns) tt (map_trees (names t c) (tree (list rules proper None) ts)) (view in_body mine t))
    recursive_law vs g erased ns c rules ts t ft i n st l lr lt = local_macros_law vs g erased ns c rules c ts t ft i n st st l lr lt

    pub letrec_syntax_law : (fs : Frames) (m : LocalMacros Ident) (s : ScopedState) → FineState w s → (in_body : Bool) (mine : List Number) → Stands w s fs → Made local_macros_kind w s.uses m → Distinct m.names
        → Same w s (letrec_syntax F (scoped known) depth here fs m s) (letrec_syntax G (model known) depth here tt (local_macros_map (names s fs) m) (view in_body mine s))
    letrec_syntax_law fs m s f i n h made d =
        keeps_bind w s _
        (agrees_at refl
        (ap (λ vs. bound (model known) (recursive G (model known) depth here vs (map (named_map (names s fs)) m.names)) (map (named_map (names s fs)) m.names) tt (map_trees (names s fs) (tree (list m.rules proper None) m.body)) (view i n s)) (numbers_same (names s fs) (next_number s s.locals) m.names))
        (bound_law w known
        (recursive F (scoped known) depth here (numbers (next_number s s.locals) m.names) m.names)
        (recursive G (model known) depth here (numbers (next_number s s.locals) m.names) (map (named_map (names s fs)) m.names))
        (tree (list m.rules proper None) m.body) m.names fs s f i n h d old
        (λ c t ft g st counted i1 n1. recursive_law (numbers (next_number s s.locals) m.names) (names s fs) (λ i. erase_frame_image s.places s.definitions fs i) m.names c m.rules m.body t ft i1 n1 st counted (trees_old w known s t g m.rules rules_all) (trees_old w known s t g m.body body_all))))
        (λ a b t i1 n1 k e. same_done w t i1 n1 a.1 b.1 k.0 (ap (λ q. q.1) e))
      where
        old : NamesOld w known s.uses m.names
        old = names_old w known made.clock s.uses made.earlier m.names (subst (λ (x : LocalMacros Ident). NamesOld w known made.clock x.names) made.same (names_made w known made.clock made.made.names))

        rules_all : TreesAll (Below w s.uses) m.rules
        rules_all = all_made_trees w s.uses m.rules (record { clock = made.clock; earlier = made.earlier; made = made.made.rules; same = ap (λ (x : LocalMacros Ident). x.rules) made.same })

        body_all : TreesAll (Below w s.uses) m.body
        body_all = all_made_trees w s.uses m.body (record { clock = made.clock; earlier = made.earlier; made = made.made.body; same = ap (λ (x : LocalMacros Ident). x.body) made.same })
