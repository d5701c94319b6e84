-- The law of expressions that hold no binder: references, constants, quotations, calls, assignments, sequences.
use Rattle.std.proofs.Common.{◌≡◌, ℕ, ◌+◌, List, Bool, refl, sym, ap, ◌∙◌}
use Rattle.scheme_model.specs.Identifiers.{Number, Name, strip}
use Rattle.scheme_model.specs.Ident.{Ident, erase, symbol_of}
use Rattle.scheme_model.specs.Trees.{Tree, Trees, no_trees, tree, Tail, proper, dotted, map_tree, map_trees, map_tail}
use Rattle.scheme_model.specs.Measures.{tree_size}
use Rattle.scheme_model.specs.ExpansionFaults.{Named, named, named_map, BadForm, KeywordAsValue}
use Rattle.scheme_model.specs.Meaning.{Head, IsCore, IsAuxiliary, IsMacro, IsNone}
use Rattle.scheme_model.specs.Requirements.{Known}
use Rattle.scheme_model.specs.Cores.{Ref, Quote, Set, Call, Body, If, no_cores, core, no_parts, part, Expression as expression_part}
use Rattle.scheme_model.specs.Steps.{Step, ◌>>=◌, done, fails}
use Rattle.scheme_model.specs.Order.{Here, target_of, head_of}
use Rattle.scheme_model.specs.Expression.{whole, body, Expander, each, expressions, sequence, quote, unless_keyword, set, reference, call, node}
use Rattle.scheme_model.specs.Substitution.{State, model}
use Rattle.scheme_model.specs.ScopedExpansion.{Frames, ScopedState, scoped}
use Rattle.model_laws.proofs.FrameEras.{Era, Below, below_more}
use Rattle.scheme_model.proofs.RenamingLaws.{size-map}
use Rattle.scheme_model.proofs.ScopeLaws.{map_map, map_same}
use Rattle.model_laws.proofs.FrameNames.{erase_frame_image, strip_frame_image}
use Rattle.model_laws.proofs.FrameStates.{names, view, FineState, Grows, Stands, stands_later, names_later}
use Rattle.model_laws.proofs.FrameLeaves.{TreeAll, TreesAll, trees_more, trees_same}
use Rattle.model_laws.proofs.FrameAgrees.{Agrees, agrees_at, Keeps, keeps_bind, Same, same_done, same_fails}
use Rattle.model_laws.proofs.FrameHeads.{head_seen, target_seen, node_law}

-- a variable that is assigned or read isn't a keyword
module _ (w : Era) (known : Known) (s : ScopedState) (f : FineState w s) (in_body : Bool) (mine : List Number) (here : Here) (fs : Frames) (x : Named Ident) where
  keyword_fails : {A B : Type 0} {R : ScopedState → A → B → Type 0} → Agrees (Keeps w s) R (fails here (KeywordAsValue (named x.name x.occ)) s) (fails here (KeywordAsValue (named (erase (names s fs x.name)) x.occ)) (view in_body mine s))
  keyword_fails = agrees_at refl (ap (λ (y : Ident). fails here (KeywordAsValue (named y x.occ)) (view in_body mine s)) (erase_frame_image s.places s.definitions fs x.name)) (same_fails w s in_body mine here (KeywordAsValue (named x.name x.occ)) f)

  by_head_law : {A B : Type 0} {R : ScopedState → A → B → Type 0} (h : Head) (go : Step ScopedState A) (go' : Step State B) → Agrees (Keeps w s) R (go s) (go' (view in_body mine s))
      → Agrees (Keeps w s) R (unless_keyword (scoped known) here h x go s) (unless_keyword (model known) here h (named_map (names s fs) x) go' (view in_body mine s))
  by_head_law (IsCore k) go go' h = keyword_fails
  by_head_law (IsAuxiliary a) go go' h = keyword_fails
  by_head_law (IsMacro m) go go' h = keyword_fails
  by_head_law IsNone go go' h = h

  pub unless_law : {A B : Type 0} {R : ScopedState → A → B → Type 0} (go : Step ScopedState A) (go' : Step State B) → Agrees (Keeps w s) R (go s) (go' (view in_body mine s))
      → Agrees (Keeps w s) R (unless_keyword (scoped known) here (head_of (scoped known) fs s x.name) x go s) (unless_keyword (model known) here (head_of (model known) tt (view in_body mine s) (names s fs x.name)) (named_map (names s fs) x) go' (view in_body mine s))
  unless_law go go' h =
      agrees_at refl (ap (λ (k : Head). unless_keyword (model known) here k (named_map (names s fs) x) go' (view in_body mine s)) (head_seen w known s f in_body mine fs x.name))
      (by_head_law (head_of (scoped known) fs s x.name) go go' h)

module _ (w : Era) (known : Known) where
  abbrev pub Scoped : Type 0
  Scoped = Expander Frames Ident ScopedState

  abbrev pub Modelled : Type 0
  Modelled = Expander (Unit {0}) Name State

  -- both expand a tree to the same core, and the forms of a body
  abbrev pub WholeLaw : Scoped → Modelled → Type 0
  WholeLaw F G = (depth : ℕ) (here : Here) (fs : Frames) (t : Tree Ident) (s : ScopedState) → FineState w s → (in_body : Bool) (mine : List Number) → Stands w s fs → TreeAll (Below w s.uses) t
      → Same w s (F depth here fs (whole t) s) (G depth here tt (whole (map_tree (names s fs) t)) (view in_body mine s))

  abbrev pub BodyLaw : Scoped → Modelled → Type 0
  BodyLaw F G = (depth : ℕ) (here : Here) (fs : Frames) (ts : Trees Ident) (s : ScopedState) → FineState w s → (in_body : Bool) (mine : List Number) → Stands w s fs → TreesAll (Below w s.uses) ts
      → Same w s (F depth here fs (body ts) s) (G depth here tt (body (map_trees (names s fs) ts)) (view in_body mine s))

  -- trees in a later state
  pub trees_still : (s t : ScopedState) → FineState w s → Grows w s t → (fs : Frames) → Stands w s fs → (ts : Trees Ident) → TreesAll (Below w s.uses) ts → map_trees (names s fs) ts ≡ map_trees (names t fs) ts
  trees_still s t f g fs h ts l = trees_same (Below w s.uses) (names s fs) (names t fs) (names_later w s t f g fs h) ts l

  pub trees_old : (s t : ScopedState) → Grows w s t → (ts : Trees Ident) → TreesAll (Below w s.uses) ts → TreesAll (Below w t.uses) ts
  trees_old s t g ts l = trees_more (Below w s.uses) (Below w t.uses) (below_more w s.uses t.uses g.uses) ts l

  module _ (F : Scoped) (G : Modelled) (law : WholeLaw F G) where
    pub each_law : (depth : ℕ) (here : Here) (fs : Frames) (ts : Trees Ident) (s : ScopedState) → FineState w s → (in_body : Bool) (mine : List Number) → Stands w s fs → TreesAll (Below w s.uses) ts
        → Same w s (each (λ u. F depth here fs (whole u)) ts s) (each (λ u. G depth here tt (whole u)) (map_trees (names s fs) ts) (view in_body mine s))
    each_law depth here fs no_trees s f i n h l = same_done w s i n no_cores no_cores f refl
    each_law depth here fs (tree t ts) s f i n h l =
        keeps_bind w s _ (law depth here fs t s f i n h l.0) (λ a b v i1 n1 k e.
        keeps_bind w v _ (agrees_at refl (ap (λ (us : Trees Name). each (λ u. G depth here tt (whole u)) us (view i1 n1 v)) (trees_still s v f k.1 fs h ts l.1)) (each_law depth here fs ts v k.0 i1 n1 (stands_later w s v k.1 fs h) (trees_old s v k.1 ts l.1))) (λ cs ds x i2 n2 k2 e2.
        same_done w x i2 n2 (core a cs) (core b ds) k2.0 (λ j. core (e j) (e2 j))))

    pub expressions_law : (depth : ℕ) (here : Here) (fs : Frames) (ts : Trees Ident) (s : ScopedState) → FineState w s → (in_body : Bool) (mine : List Number) → Stands w s fs → TreesAll (Below w s.uses) ts
        → Same w s (expressions (λ u. F depth here fs (whole u)) ts s) (expressions (λ u. G depth here tt (whole u)) (map_trees (names s fs) ts) (view in_body mine s))
    expressions_law depth here fs no_trees s f i n h l = same_done w s i n no_parts no_parts f refl
    expressions_law depth here fs (tree t ts) s f i n h l =
        keeps_bind w s _ (law depth here fs t s f i n h l.0) (λ a b v i1 n1 k e.
        keeps_bind w v _ (agrees_at refl (ap (λ (us : Trees Name). expressions (λ u. G depth here tt (whole u)) us (view i1 n1 v)) (trees_still s v f k.1 fs h ts l.1)) (expressions_law depth here fs ts v k.0 i1 n1 (stands_later w s v k.1 fs h) (trees_old s v k.1 ts l.1))) (λ cs ds x i2 n2 k2 e2.
        same_done w x i2 n2 (part (expression_part a) cs) (part (expression_part b) ds) k2.0 (λ j. part (expression_part (e j)) (e2 j))))

    pub sequence_law : (depth : ℕ) (here : Here) (fs : Frames) (ts : Trees Ident) (s : ScopedState) → FineState w s → (in_body : Bool) (mine : List Number) → Stands w s fs → TreesAll (Below w s.uses) ts
        → Same w s (sequence F (scoped known) depth here fs ts s) (sequence G (model known) depth here tt (map_trees (names s fs) ts) (view in_body mine s))
    sequence_law depth here fs ts s f i n h l =
        node_law w known here 1 depth s f i n _ _ (λ below x.
        keeps_bind w (record s { nodes = x }) _ (expressions_law below here fs ts (record s { nodes = x }) f i n h l) (λ a b t i1 n1 k e. same_done w t i1 n1 (Body a) (Body b) k.0 (ap Body e)))

    pub call_law : (depth : ℕ) (here : Here) (fs : Frames) (ts : Trees Ident) (tail : Tail Ident) (s : ScopedState) → FineState w s → (in_body : Bool) (mine : List Number) → Stands w s fs → TreesAll (Below w s.uses) ts
        → Same w s (call F (scoped known) depth here fs ts tail s) (call G (model known) depth here tt (map_trees (names s fs) ts) (map_tail (names s fs) tail) (view in_body mine s))
    call_law depth here fs ts (dotted u) s f i n h l = same_fails w s i n here BadForm f
    call_law depth here fs ts proper s f i n h l =
        node_law w known here 1 depth s f i n _ _ (λ below x.
        keeps_bind w (record s { nodes = x }) _ (each_law below here fs ts (record s { nodes = x }) f i n h l) (λ a b t i1 n1 k e. same_done w t i1 n1 (Call a) (Call b) k.0 (ap Call e)))

    pub conditional_law : (depth : ℕ) (here : Here) (fs : Frames) (ts : Trees Ident) (s : ScopedState) → FineState w s → (in_body : Bool) (mine : List Number) → Stands w s fs → TreesAll (Below w s.uses) ts
        → Same w s (node (scoped known) here 1 depth (λ below t. each (λ u. F below here fs (whole u)) ts t >>= λ cs. done (If cs)) s)
        (node (model known) here 1 depth (λ below t. each (λ u. G below here tt (whole u)) (map_trees (names s fs) ts) t >>= λ cs. done (If cs)) (view in_body mine s))
    conditional_law depth here fs ts s f i n h l =
        node_law w known here 1 depth s f i n _ _ (λ below x.
        keeps_bind w (record s { nodes = x }) _ (each_law below here fs ts (record s { nodes = x }) f i n h l) (λ a b t i1 n1 k e. same_done w t i1 n1 (If a) (If b) k.0 (ap If e)))

    pub set_law : (depth : ℕ) (here : Here) (fs : Frames) (p : Named Ident × Tree Ident) (s : ScopedState) → FineState w s → (in_body : Bool) (mine : List Number) → Stands w s fs → TreeAll (Below w s.uses) p.1
        → Same w s (set F (scoped known) depth here fs p s) (set G (model known) depth here tt (named_map (names s fs) p.0, map_tree (names s fs) p.1) (view in_body mine s))
    set_law depth here fs p s f i n h l =
        unless_law w known s f i n here fs p.0 _ _
        (node_law w known here 1 depth s f i n _ _ (λ below x.
        keeps_bind w (record s { nodes = x }) _ (law below here fs p.1 (record s { nodes = x }) f i n h l) (λ a b t i1 n1 k e.
        same_done w t i1 n1 (Set (target_of (scoped known) fs s p.0.name p.0.occ) a) (Set (target_of (model known) tt (view i n s) (names s fs p.0.name) p.0.occ) b) k.0
        (let q = target_seen w known s f i n fs p.0.name p.0.occ in λ j. Set (sym q j) (e j)))))

  -- ---- without trees to expand

  pub quote_law : (depth : ℕ) (here : Here) (fs : Frames) (t : Tree Ident) (s : ScopedState) → FineState w s → (in_body : Bool) (mine : List Number)
      → Same w s (quote (scoped known) depth here t s) (quote (model known) depth here (map_tree (names s fs) t) (view in_body mine s))
  quote_law depth here fs t s f i n =
      let z = size-map Ident Name (names s fs) t in
      let q = map_map strip (names s fs) t ∙ map_same (λ x. strip (names s fs x)) symbol_of (strip_frame_image s.places s.definitions fs) t in
      agrees_at refl (λ j. node (model known) here (1 + z j) depth (λ below. done (Quote (q j))) (view i n s))
      (node_law w known here (1 + tree_size t) depth s f i n (λ below. done (Quote (map_tree symbol_of t))) (λ below. done (Quote (map_tree symbol_of t))) (λ below x. same_done w (record s { nodes = x }) i n (Quote (map_tree symbol_of t)) (Quote (map_tree symbol_of t)) f refl))

  pub reference_law : (depth : ℕ) (here : Here) (fs : Frames) (x : Named Ident) (s : ScopedState) → FineState w s → (in_body : Bool) (mine : List Number)
      → Same w s (reference (scoped known) depth here fs x s) (reference (model known) depth here tt (named_map (names s fs) x) (view in_body mine s))
  reference_law depth here fs x s f i n =
      unless_law w known s f i n here fs x _ _
      (node_law w known here 1 depth s f i n _ _ (λ below y.
      same_done w (record s { nodes = y }) i n (Ref (target_of (scoped known) fs (record s { nodes = y }) x.name x.occ)) (Ref (target_of (model known) tt (view i n (record s { nodes = y })) (names s fs x.name) x.occ)) f
      (ap Ref (sym (target_seen w known (record s { nodes = y }) f i n fs x.name x.occ)))))
