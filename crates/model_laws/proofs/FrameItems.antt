-- What was set aside, expanded: both sides come to the same parts.
use Rattle.std.proofs.Common.{◌≡◌, ℕ, List, [], ◌∷◌, map, Bool, refl, sym, ap, subst}
use Rattle.scheme_model.specs.Identifiers.{Number}
use Rattle.scheme_model.specs.Ident.{Ident}
use Rattle.scheme_model.specs.Trees.{Tree, map_tree}
use Rattle.scheme_model.specs.ExpansionFaults.{Named, named_map}
use Rattle.scheme_model.specs.Requirements.{Known}
use Rattle.scheme_model.specs.Shapes.{Clause}
use Rattle.scheme_model.specs.Cores.{Core, Set, no_parts, part, Expression as expression_part, Define as define_part, Values as values_part, Fields as fields_part, Syntax as syntax_part}
use Rattle.scheme_model.specs.Steps.{Step}
use Rattle.scheme_model.specs.Order.{Here, Item, Expression, Value, Function, Assigned, AssignedFunction, ValuesOf, Record, Macro, target_of}
use Rattle.scheme_model.specs.Expression.{whole, lambda, macro_def, assignment, item_part, parts}
use Rattle.scheme_model.specs.Substitution.{State, Clock, clause_map, item_map, model}
use Rattle.scheme_model.specs.ScopedExpansion.{Frames, ScopedState, scoped}
use Rattle.scheme_model.proofs.OpenBodies.{Leq}
use Rattle.model_laws.proofs.FrameEras.{Era, Below, below_more}
use Rattle.model_laws.proofs.IdentKinds.{clause_kind, item_kind}
use Rattle.model_laws.proofs.FrameAsks.{AllOf, all_of_more}
use Rattle.model_laws.proofs.FrameStates.{names, view, Old, ident_of, Made, made_later, made_same, FineState, Grows, Stands, stands_later, names_later}
use Rattle.model_laws.proofs.FrameLeaves.{TreeAll, tree_more, all_held}
use Rattle.model_laws.proofs.FrameAgrees.{agrees_at, keeps_bind, Same, same_done}
use Rattle.model_laws.proofs.FrameHeads.{target_seen, node_law}
use Rattle.model_laws.proofs.FrameHeld.{ItemDistinct}
use Rattle.model_laws.proofs.FrameExpressions.{Scoped, Modelled, WholeLaw, BodyLaw}
use Rattle.model_laws.proofs.FrameBinders.{lambda_law}
use Rattle.model_laws.proofs.FrameMacros.{macro_def_seen}

module _ (w : Era) (known : Known) (F : Scoped w known) (G : Modelled w known) (law : WholeLaw w known F G) (body_law : BodyLaw w known F G) (depth : ℕ) (fs : Frames) where
  -- a later definition of a variable, read as an assignment
  assigned_law : (here : Here) (x : Named Ident) (s : ScopedState) → FineState w s → (i : Bool) (n : List Number) (go : ℕ → Step ScopedState Core) (go' : ℕ → Step State Core)
      → ((below : ℕ) (y : Clock) → Same w s (go below (record s { nodes = y })) (go' below (view i n (record s { nodes = y }))))
      → Same w s (assignment (scoped known) depth here fs x go s) (assignment (model known) depth here tt (named_map (names s fs) x) go' (view i n s))
  assigned_law here x s f i n go go' h =
      node_law w known here 1 depth s f i n _ _ (λ below y.
      keeps_bind w (record s { nodes = y }) _ (h below y) (λ a b t i1 n1 k e.
      same_done w t i1 n1 (Set (target_of (scoped known) fs (record s { nodes = y }) x.name x.occ) a) (Set (target_of (model known) tt (view i n (record s { nodes = y })) (names s fs x.name) x.occ) b) k.0
      (let q = target_seen w known (record s { nodes = y }) f i n fs x.name x.occ in λ j. Set (sym q j) (e j))))

  module _ (s : ScopedState) (f : FineState w s) (i : Bool) (n : List Number) (h : Stands w s fs) (u : Clock) (le : Leq u s.uses) where
    old_tree : (t : Tree (Old w u)) → TreeAll (Below w s.uses) (map_tree (ident_of w u) t)
    old_tree t = tree_more (Below w u) (Below w s.uses) (below_more w u s.uses le) (map_tree (ident_of w u) t) (all_held (Below w u) t)

    old_clause : (c : Clause (Old w u)) → Made clause_kind w s.uses (clause_map (ident_of w u) c)
    old_clause c = record { clock = u; earlier = le; made = c; same = refl }

    item_over : (y : Item (Old w u)) → ItemDistinct (item_map (ident_of w u) y)
        → Same w s (item_part F (scoped known) depth fs (item_map (ident_of w u) y) s) (item_part G (model known) depth tt (item_map (names s fs) (item_map (ident_of w u) y)) (view i n s))
    item_over (Expression y) d = keeps_bind w s _ (law depth y.here fs (map_tree (ident_of w u) y.tree) s f i n h (old_tree y.tree)) (λ a b t i1 n1 k e. same_done w t i1 n1 (expression_part a) (expression_part b) k.0 (ap expression_part e))
    item_over (Value z y) d = keeps_bind w s _ (law depth y.here fs (map_tree (ident_of w u) y.tree) s f i n h (old_tree y.tree)) (λ a b t i1 n1 k e. same_done w t i1 n1 (define_part z a) (define_part z b) k.0 (ap (define_part z) e))
    item_over (Function z here c) d =
        keeps_bind w s _ (lambda_law w known F G body_law depth here fs (clause_map (ident_of w u) c) s f i n h (old_clause c) d) (λ a b t i1 n1 k e. same_done w t i1 n1 (define_part z a) (define_part z b) k.0 (ap (define_part z) e))
    item_over (Assigned x y) d =
        keeps_bind w s _ (assigned_law y.here (named_map (ident_of w u) x) s f i n (λ below. F below y.here fs (whole (map_tree (ident_of w u) y.tree))) (λ below. G below y.here tt (whole (map_tree (names s fs) (map_tree (ident_of w u) y.tree))))
        (λ below z. law below y.here fs (map_tree (ident_of w u) y.tree) (record s { nodes = z }) f i n h (old_tree y.tree))) (λ a b t i1 n1 k e. same_done w t i1 n1 (expression_part a) (expression_part b) k.0 (ap expression_part e))
    item_over (AssignedFunction x here c) d =
        keeps_bind w s _ (assigned_law here (named_map (ident_of w u) x) s f i n (λ below. lambda F (scoped known) below here fs (clause_map (ident_of w u) c)) (λ below. lambda G (model known) below here tt (clause_map (names s fs) (clause_map (ident_of w u) c)))
        (λ below z. lambda_law w known F G body_law below here fs (clause_map (ident_of w u) c) (record s { nodes = z }) f i n h (old_clause c) d)) (λ a b t i1 n1 k e. same_done w t i1 n1 (expression_part a) (expression_part b) k.0 (ap expression_part e))
    item_over (ValuesOf bs y) d = keeps_bind w s _ (law depth y.here fs (map_tree (ident_of w u) y.tree) s f i n h (old_tree y.tree)) (λ a b t i1 n1 k e. same_done w t i1 n1 (values_part bs a) (values_part bs b) k.0 (ap (values_part bs) e))
    item_over (Record r) d = same_done w s i n (fields_part r) (fields_part r) f refl
    item_over (Macro z here) d = same_done w s i n (syntax_part (macro_def (scoped known) s z)) (syntax_part (macro_def (model known) (view i n s) z)) f (ap syntax_part (sym (macro_def_seen w known s f i n z)))

  -- an item that was made by then
  abbrev pub ItemMade : Clock → Item Ident → Type 0
  ItemMade u x = Made item_kind w u x × ItemDistinct x

  pub item_law : (x : Item Ident) (s : ScopedState) → FineState w s → (i : Bool) (n : List Number) → Stands w s fs → ItemMade s.uses x → Same w s (item_part F (scoped known) depth fs x s) (item_part G (model known) depth tt (item_map (names s fs) x) (view i n s))
  item_law x s f i n h m =
      subst (λ (y : Item Ident). ItemDistinct y → Same w s (item_part F (scoped known) depth fs y s) (item_part G (model known) depth tt (item_map (names s fs) y) (view i n s))) m.0.same
      (item_over s f i n h m.0.clock m.0.earlier m.0.made) m.1

  pub items_still : (s t : ScopedState) → FineState w s → Grows w s t → Stands w s fs → (xs : List (Item Ident)) → AllOf (ItemMade s.uses) xs → map (item_map (names s fs)) xs ≡ map (item_map (names t fs)) xs
  items_still s t f g h [] m = refl
  items_still s t f g h (x ∷ xs) m = let a = made_same item_kind w s.uses (names s fs) (names t fs) (names_later w s t f g fs h) x m.0.0 in let b = items_still s t f g h xs m.1 in λ j. a j ∷ b j

  pub parts_law : (xs : List (Item Ident)) (s : ScopedState) → FineState w s → (i : Bool) (n : List Number) → Stands w s fs → AllOf (ItemMade s.uses) xs
      → Same w s (parts (item_part F (scoped known) depth fs) xs s) (parts (item_part G (model known) depth tt) (map (item_map (names s fs)) xs) (view i n s))
  parts_law [] s f i n h m = same_done w s i n no_parts no_parts f refl
  parts_law (x ∷ xs) s f i n h m =
      keeps_bind w s _ (item_law x s f i n h m.0) (λ a b t i1 n1 k e.
      keeps_bind w t _ (agrees_at refl (ap (λ ys. parts (item_part G (model known) depth tt) ys (view i1 n1 t)) (items_still s t f k.1 h xs m.1))
      (parts_law xs t k.0 i1 n1 (stands_later w s t k.1 fs h) (all_of_more (ItemMade s.uses) (ItemMade t.uses) (λ y q. (made_later item_kind w s.uses t.uses k.1.uses y q.0, q.1)) xs m.1))) (λ c d v i2 n2 k2 e2.
      same_done w v i2 n2 (part a c) (part b d) k2.0 (λ j. part (e j) (e2 j))))
