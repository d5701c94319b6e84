-- The law of quasiquotations.
use Rattle.std.proofs.Common.{◌≡◌, ℕ, ◌+◌, List, [], ◌∷◌, map, Bool, Option, Some, None, refl, ap, ◌∙◌, subst}
use Rattle.scheme_model.specs.Identifiers.{Number, Name, strip}
use Rattle.scheme_model.specs.Ident.{Ident, erase, symbol_of}
use Rattle.scheme_model.specs.Trees.{Tree, name, atom, list, vector, Trees, no_trees, tree, Tail, proper, dotted, map_tree, map_trees, map_tail}
use Rattle.scheme_model.specs.ExpansionFaults.{◌>>◌}
use Rattle.scheme_model.specs.Requirements.{Known}
use Rattle.scheme_model.specs.Shapes.{one_of}
use Rattle.scheme_model.specs.RulesShape.{option_map}
use Rattle.scheme_model.specs.Quasiquote.{Pieces, quasi_of}
use Rattle.scheme_model.specs.Cores.{Quasi, no_cores, core, weight, weights, tail_weight, hole_weight, outside}
use Rattle.scheme_model.specs.Steps.{◌>>=◌, done}
use Rattle.scheme_model.specs.Order.{Here, given, head_of}
use Rattle.scheme_model.specs.Expression.{whole, node, each_of, mark_of, symbol_or_hole, quasi}
use Rattle.scheme_model.specs.Substitution.{Clock, model}
use Rattle.scheme_model.specs.ScopedExpansion.{Frames, ScopedState, scoped}
use Rattle.scheme_model.specs.Renaming.{pieces_map}
use Rattle.model_laws.proofs.FrameEras.{Era, Below, below_more}
use Rattle.scheme_model.proofs.RenamingLaws.{Reads, then_map, map_after}
use Rattle.scheme_model.proofs.ShapeLaws.{one_of-map}
use Rattle.model_laws.proofs.QuasiLaws.{quasi_of-map}
use Rattle.scheme_model.proofs.ScopeLaws.{map_map, map_same}
use Rattle.model_laws.proofs.IdentKinds.{Kind, map_twice}
use Rattle.model_laws.proofs.FrameNames.{strip_frame_image}
use Rattle.model_laws.proofs.FrameAsks.{AllOf, all_of_more}
use Rattle.model_laws.proofs.FrameStates.{names, view, Old, ident_of, Made, FineState, Grows, Stands, stands_later, names_later}
use Rattle.model_laws.proofs.FrameLeaves.{TreeAll, TreesAll, TailAll, tree_more, tree_same, lift_trees, lift_tail, lifted_trees, lifted_tail, all_held}
use Rattle.model_laws.proofs.FrameAgrees.{Agrees, agrees_at, Keeps, keeps_bind, Same, same_done, Seen, read_both}
use Rattle.model_laws.proofs.FrameHeads.{head_seen, node_law}
use Rattle.model_laws.proofs.FrameExpressions.{Scoped, Modelled, WholeLaw}

-- ---- data with holes

module _ (A B : Type 0) (f : A → B) where
  hole_same : (o : Option A) → hole_weight (option_map f o) ≡ hole_weight o
  hole_same None = refl
  hole_same (Some i) = refl

  mutual
    pub weight_same : (t : Tree (Option A)) → weight hole_weight (map_tree (option_map f) t) ≡ weight hole_weight t
    weight_same (name i o) = hole_same i
    weight_same (atom a o) = refl
    weight_same (list ts tail o) = let a = weights_same ts in let b = tail_weight_same tail in λ j. a j + b j + 1
    weight_same (vector ts o) = ap (λ n. n + 1) (weights_same ts)

    weights_same : (ts : Trees (Option A)) → weights hole_weight (map_trees (option_map f) ts) ≡ weights hole_weight ts
    weights_same no_trees = refl
    weights_same (tree t ts) = let a = weight_same t in let b = weights_same ts in λ j. a j + b j

    tail_weight_same : (tail : Tail (Option A)) → tail_weight hole_weight (map_tail (option_map f) tail) ≡ tail_weight hole_weight tail
    tail_weight_same proper = refl
    tail_weight_same (dotted t) = weight_same t

pub pieces_fused : (A B C : Type 0) (g : B → C) (f : A → B) (p : Pieces A) → pieces_map g (pieces_map f p) ≡ pieces_map (λ a. g (f a)) p
pieces_fused A B C g f p =
    let d = map_map (option_map g) (option_map f) p.datum ∙ map_same (λ o. option_map g (option_map f o)) (option_map (λ a. g (f a))) (map_twice g f (λ a. g (f a)) (λ a. refl)) p.datum in
    let hs = map_after (map_tree g) (map_tree f) (map_tree (λ a. g (f a))) (map_map g f) p.holes in
    λ j. record { datum = d j; holes = hs j }

abbrev pub pieces_kind : Kind
pieces_kind = record { of = Pieces; map = λ A B f p. pieces_map f p; fused = pieces_fused }

module _ (w : Era) (known : Known) (F : Scoped w known) (G : Modelled w known) (law : WholeLaw w known F G) where
  abbrev HolesOld : Clock → List (Tree Ident) → Type 0
  HolesOld u ts = AllOf (TreeAll (Below w u)) ts

  holes_old : (u v : Clock) → ((i : Ident) → Below w u i → Below w v i) → (ts : List (Tree Ident)) → HolesOld u ts → HolesOld v ts
  holes_old u v h ts l = all_of_more (TreeAll (Below w u)) (TreeAll (Below w v)) (λ t e. tree_more (Below w u) (Below w v) h t e) ts l

  holes_still : (s t : ScopedState) → FineState w s → Grows w s t → (fs : Frames) → Stands w s fs → (ts : List (Tree Ident)) → HolesOld s.uses ts → map (map_tree (names s fs)) ts ≡ map (map_tree (names t fs)) ts
  holes_still s t f g fs h [] l = refl
  holes_still s t f g fs h (x ∷ xs) l = let a = tree_same (Below w s.uses) (names s fs) (names t fs) (names_later w s t f g fs h) x l.0 in let b = holes_still s t f g fs h xs l.1 in λ j. a j ∷ b j

  each_hole : (depth : ℕ) (here : Here) (fs : Frames) (ts : List (Tree Ident)) (s : ScopedState) → FineState w s → (in_body : Bool) (mine : List Number) → Stands w s fs → HolesOld s.uses ts
      → Same w s (each_of (λ u. F depth here fs (whole u)) ts s) (each_of (λ u. G depth here tt (whole u)) (map (map_tree (names s fs)) ts) (view in_body mine s))
  each_hole depth here fs [] s f i n h l = same_done w s i n no_cores no_cores f refl
  each_hole depth here fs (t ∷ ts) s f i n h l =
      keeps_bind w s _ (law depth here fs t s f i n h l.0) (λ a b v i1 n1 k e.
      keeps_bind w v _ (agrees_at refl (ap (λ (us : List (Tree Name)). each_of (λ u. G depth here tt (whole u)) us (view i1 n1 v)) (holes_still s v f k.1 fs h ts l.1))
      (each_hole depth here fs ts v k.0 i1 n1 (stands_later w s v k.1 fs h) (holes_old s.uses v.uses (below_more w s.uses v.uses k.1.uses) ts l.1))) (λ cs ds x i2 n2 k2 e2.
      same_done w x i2 n2 (core a cs) (core b ds) k2.0 (λ j. core (e j) (e2 j))))

  holes_made : (u : Clock) (p : Pieces Ident) → Made pieces_kind w u p → HolesOld u p.holes
  holes_made u p m = holes_old m.clock u (below_more w m.clock u m.earlier) p.holes (subst (λ (q : Pieces Ident). HolesOld m.clock q.holes) m.same (go m.made.holes))
    where
      go : (ts : List (Tree (Old w m.clock))) → HolesOld m.clock (map (map_tree (ident_of w m.clock)) ts)
      go [] = tt
      go (t ∷ ts) = (all_held (Below w m.clock) t, go ts)

  symbol_same : (s : ScopedState) (fs : Frames) (o : Option Ident) → symbol_or_hole strip (option_map (names s fs) o) ≡ symbol_or_hole symbol_of o
  symbol_same s fs None = refl
  symbol_same s fs (Some i) = ap Some (strip_frame_image s.places s.definitions fs i)

  pub quasi_law : (depth : ℕ) (here : Here) (fs : Frames) (p : Pieces Ident) (s : ScopedState) → FineState w s → (in_body : Bool) (mine : List Number) → Stands w s fs → Made pieces_kind w s.uses p
      → Same w s (quasi F (scoped known) depth here fs p s) (quasi G (model known) depth here tt (pieces_map (names s fs) p) (view in_body mine s))
  quasi_law depth here fs p s f i n h m =
      let z = weight_same Ident Name (names s fs) p.datum in
      let d = map_map (symbol_or_hole strip) (option_map (names s fs)) p.datum ∙ map_same (λ o. symbol_or_hole strip (option_map (names s fs) o)) (symbol_or_hole symbol_of) (symbol_same s fs) p.datum in
      agrees_at refl (λ j. node (model known) here (1 + z j) depth (λ below t. each_of (λ u. G below here tt (whole u)) (map (map_tree (names s fs)) p.holes) t >>= λ cs. done (Quasi (d j) cs)) (view i n s))
      (node_law w known here (1 + outside p.datum) depth s f i n
      (λ below t. each_of (λ u. F below here fs (whole u)) p.holes t >>= λ cs. done (Quasi (map_tree (symbol_or_hole symbol_of) p.datum) cs))
      (λ below t. each_of (λ u. G below here tt (whole u)) (map (map_tree (names s fs)) p.holes) t >>= λ cs. done (Quasi (map_tree (symbol_or_hole symbol_of) p.datum) cs))
      (λ below x. keeps_bind w (record s { nodes = x }) _ (each_hole below here fs p.holes (record s { nodes = x }) f i n h (holes_made s.uses p m)) (λ a b t i1 n1 k e.
      same_done w t i1 n1 (Quasi (map_tree (symbol_or_hole symbol_of) p.datum) a) (Quasi (map_tree (symbol_or_hole symbol_of) p.datum) b) k.0 (ap (Quasi (map_tree (symbol_or_hole symbol_of) p.datum)) e))))

  -- both sides read a quasiquotation
  pub quasi_read : (here : Here) (fs : Frames) (ts : Trees Ident) (tail : Tail Ident) (s : ScopedState) → FineState w s → (in_body : Bool) (mine : List Number) → TreesAll (Below w s.uses) ts → TailAll (Below w s.uses) tail
      → Agrees (Keeps w s) (Seen w pieces_kind fs) (given (λ i. i) here (one_of ts tail >> quasi_of (λ i. mark_of (head_of (scoped known) fs s i))) s)
      (given erase here (one_of (map_trees (names s fs) ts) (map_tail (names s fs) tail) >> quasi_of (λ j. mark_of (head_of (model known) tt (view in_body mine s) j))) (view in_body mine s))
  quasi_read here fs ts tail s f i n l e =
      read_both w pieces_kind here fs s f i n
      (one_of (lift_trees (Below w s.uses) ts l) (lift_tail (Below w s.uses) tail e) >> quasi_of (λ p. mark_of (head_of (scoped known) fs s p.0)))
      (one_of ts tail >> quasi_of (λ i. mark_of (head_of (scoped known) fs s i)))
      (one_of (map_trees (names s fs) ts) (map_tail (names s fs) tail) >> quasi_of (λ j. mark_of (head_of (model known) tt (view i n s) j)))
      (let us = lifted_trees (Below w s.uses) ts l in let end = lifted_tail (Below w s.uses) tail e in
      subst (Reads (ident_of w s.uses) (pieces_map (ident_of w s.uses)) (one_of (lift_trees (Below w s.uses) ts l) (lift_tail (Below w s.uses) tail e) >> quasi_of (λ p. mark_of (head_of (scoped known) fs s p.0))))
      (λ j. one_of (us j) (end j) >> quasi_of (λ i. mark_of (head_of (scoped known) fs s i)))
      (then_map (quasi_of (λ i. mark_of (head_of (scoped known) fs s i))) (one_of-map (Old w s.uses) Ident (ident_of w s.uses) (lift_trees (Below w s.uses) ts l) (lift_tail (Below w s.uses) tail e))
      (quasi_of-map (Old w s.uses) Ident (ident_of w s.uses) (λ p. mark_of (head_of (scoped known) fs s p.0)) (λ i. mark_of (head_of (scoped known) fs s i)) (λ p. refl))))
      (then_map (quasi_of (λ j. mark_of (head_of (model known) tt (view i n s) j))) (one_of-map Ident Name (names s fs) ts tail)
      (quasi_of-map Ident Name (names s fs) (λ i. mark_of (head_of (scoped known) fs s i)) (λ j. mark_of (head_of (model known) tt (view i n s) j)) (λ x. ap mark_of (head_seen w known s f i n fs x))))
