-- What is left of forms stands under other numbers for what it stood for.
use Rattle.std.proofs.Common.{◌≡◌, ℕ, List, [], ◌∷◌, map, Bool, Option, None, refl, sym, ap, ◌∙◌, subst, Vec, arith}
use Rattle.std.specs.declared.alloc.Global.{Global}
use Rattle.std.specs.List.{AllByRecursion}
use Rattle.std.proofs.lemmas.List.{length-map}
use Rattle.scheme_model.specs.declared.Occ.{Occ}
use Rattle.scheme_model.specs.Trees.{Tree, list, Trees, proper}
use Rattle.scheme_model.specs.Measures.{trees_size}
use Rattle.scheme_model.specs.ExpansionFaults.{Named}
use Rattle.scheme_model.specs.Ident.{Ident as Identifier}
use Rattle.scheme_model.specs.Cores as model
use Rattle.scheme_model.specs.Expression.{meaning_of}
use Rattle.scheme_model.specs.Order as order
use Rattle.scheme_model.specs.Shapes.{Clause}
use Rattle.syntax_tree.specs.Kept.{numbers}
use Rattle.syntax_tree.specs.Looks.{AllNamed, PartsStand}
use Rattle.syntax_tree.specs.Meant.{IsMeaning}
use Rattle.syntax_tree.specs.Regions.{MayName}
use Rattle.syntax_tree.specs.declared.trees.Work.{Work}
use Rattle.syntax_tree.specs.declared.trees.nodes.Tree as number
use Rattle.syntax_tree.specs.declared.trees.table.Region.{Region}
use Rattle.core_forms.specs.Parts as parts
use Rattle.core_forms.specs.declared.shape.ClauseShape.{ClauseShape}
use Rattle.core_forms.specs.declared.shape.NamePart.{NamePart}
use Rattle.core_tree.specs.Names.{AllMatch, IsBinder, IsField, IsTarget}
use Rattle.core_tree.specs.declared.cores.Binder.{Binder}
use Rattle.core_tree.specs.declared.cores.FieldUse.{FieldUse}
use Rattle.core_tree.specs.declared.cores.Target.{Target}
use Rattle.form_parts.specs.declared.items.Form.{Form}
use Rattle.form_parts.specs.declared.items.Item.{Item}
use Rattle.form_parts.specs.declared.items.Kept as code_kept
use Rattle.form_parts.specs.declared.items.Kept.TheVariants as kept
use Rattle.form_parts.specs.declared.items.Left.{Left}
use Rattle.form_parts.specs.declared.items.WaitingUse.{WaitingUse}
use Rattle.renumbering_laws.specs.Moving.{move_tree, move_trees, move_named, move_clause}
use Rattle.renumbering_laws.specs.Renumbering as new
use Rattle.renumbering_laws.specs.Renumbering.{Renumbering, place, ident, change, item_as, use_as, left_as}
use Rattle.renumbering_laws.proofs.MovingSteps.{size-map}
use Rattle.moves.specs.Numbers.{meaning_as}
use Rattle.moves.specs.Works.{WorkMoves}
use Rattle.moves.proofs.EntryLaws.{ident_there, meaning_there}
use Rattle.moves.proofs.StandLaws.{stands_there, all_there, named_there}
use Rattle.moved_numbers.specs.Leaves.{binder_as, field_as}
use Rattle.moved_numbers.proofs.Fronts.{each_there}
use Rattle.moved_numbers.proofs.LeafLaws.{KeepsDefinitions, field_there, binder_there, binders_there, target_there}
use Rattle.unit_scopes.specs.Kept.{FormFor, ClauseFits, ClauseFor, KeptFor, WaitsFor}
use Rattle.unit_scopes.specs.Outcomes.{WorksOn}
use Rattle.unit_scopes.specs.Units.{ItemFor}
use Rattle.moved_entries.specs.Left.{name_as, form_as, ClauseMoves, KeptMoves, UseMoves, LeftStands}

module _ (r : Renumbering) where
  -- ---- what was set aside, as the code changes it

  module _ (k : code_kept.Kept) (here here' : Option Occ) (c d : ClauseShape) (same : here' ≡ place r here) (moved : ClauseMoves r c d) where
    pub function_moves : (b b' : Binder) → k ≡ kept.Function b here c → b' ≡ binder_as r b → KeptMoves r k (kept.Function b' here' d)
    function_moves b b' is e = subst (λ (x : code_kept.Kept). KeptMoves r x (kept.Function b' here' d)) (sym is) (d, (λ j. kept.Function (e j) (same j) d), moved)

    pub assigned_moves : (n n' : NamePart) → k ≡ kept.AssignedFunction n here c → n' ≡ name_as r n → KeptMoves r k (kept.AssignedFunction n' here' d)
    assigned_moves n n' is e = subst (λ (x : code_kept.Kept). KeptMoves r x (kept.AssignedFunction n' here' d)) (sym is) (d, (λ j. kept.AssignedFunction (e j) (same j) d), moved)

  pub values_moves : (k : code_kept.Kept) (bs cs : Vec Binder Global) (dotted : Bool) (f g : Form) → k ≡ kept.Values bs dotted f → cs.items ≡ map (binder_as r) bs.items → g ≡ form_as r f → KeptMoves r k (kept.Values cs dotted g)
  values_moves k bs cs dotted f g is names e = subst (λ (x : code_kept.Kept). KeptMoves r x (kept.Values cs dotted g)) (sym is) (cs, ap (λ (h : Form). kept.Values cs dotted h) e, names)

  pub record_moves : (k : code_kept.Kept) (bs cs fs gs : Vec Binder Global) (ms : Vec ℕ Global) (us vs : Vec FieldUse Global) → k ≡ kept.Record bs fs ms us → cs.items ≡ map (binder_as r) bs.items → gs.items ≡ map (binder_as r) fs.items →
      vs.items ≡ map (field_as r) us.items → KeptMoves r k (kept.Record cs gs ms vs)
  record_moves k bs cs fs gs ms us vs is binders fields used = subst (λ (x : code_kept.Kept). KeptMoves r x (kept.Record cs gs ms vs)) (sym is) (cs, gs, vs, refl, binders, fields, used)

  -- a clause has as many nodes
  sizes_there : (ts : Trees Identifier) → trees_size (move_trees (change r) ts) ≡ trees_size ts
  sizes_there ts = let e = size-map Identifier Identifier (change r) (list ts proper None) in omega (arith, e)

  meaning_moves : (b : model.Bound) (i : Identifier) → meaning_of (new.bound r b) (ident r i) ≡ new.meaning r (meaning_of b i)
  meaning_moves (model.LocalNumber v) i = refl
  meaning_moves (model.Definition u n) i = refl

  module _ (keeps : KeepsDefinitions r) (old now : Work) (moves : WorkMoves r old now) where
    -- ---- identifiers and trees

    name_there : (n : NamePart) (m : Named Identifier) → parts.IsName old n m → parts.IsName now (name_as r n) (move_named (change r) m)
    name_there n m h = (ident_there r old.symbols now.symbols moves.names n.ident m.name h.0, ap (place r) h.1)

    names_there : (ns : List NamePart) (ms : List (Named Identifier)) → parts.AllMatch (parts.IsName old) ns ms → parts.AllMatch (parts.IsName now) (map (name_as r) ns) (map (move_named (change r)) ms)
    names_there [] [] h = tt
    names_there [] (m ∷ ms) h = absurd h
    names_there (n ∷ ns) [] h = absurd h
    names_there (n ∷ ns) (m ∷ ms) h = (name_there n m h.0, names_there ns ms h.1)

    module _ (region : Region) where
      abbrev Named_in : Work → ℕ → Type 0
      Named_in work n = MayName work.trees.nodes work.trees.regions region.in_pool.number n

      works_there : (n : number.Tree) (t : Tree Identifier) → WorksOn old region n t → WorksOn now region n (move_tree (change r) t)
      works_there n t h =
          (stands_there r old.trees.nodes now.trees.nodes old.symbols now.symbols moves.trees.nodes moves.names t n.number h.0, named_there r old now moves region.in_pool.number n.number h.1)

      all_named : (ns : List ℕ) → AllByRecursion (Named_in old) ns → AllByRecursion (Named_in now) ns
      all_named [] h = tt
      all_named (n ∷ ns) h = (named_there r old now moves region.in_pool.number n h.0, all_named ns h.1)

      form_there : (f : Form) (m : order.Form Identifier) → FormFor old region f m → FormFor now region (form_as r f) (new.form_as r (ident r) m)
      form_there f m h = (ap (place r) h.0, works_there f.tree m.tree h.1)

      -- ---- clauses

      clause_there : (c d : ClauseShape) (m : Clause Identifier) → ClauseMoves r c d → ClauseFor old region c m → ClauseFor now region d (move_clause (change r) m)
      clause_there c d m moved h = (
        record {
          formals = record {
            names = subst (λ (ns : List NamePart). parts.AllMatch (parts.IsName now) ns (map (move_named (change r)) m.formals.names)) (sym moved.names) (names_there c.formals.names.items m.formals.names h.0.formals.names);
            rest = moved.dotted ∙ h.0.formals.rest;
          };
          body = subst (λ (ns : Vec number.Tree Global). PartsStand now ns.items (move_trees (change r) m.body)) (sym moved.body)
              (all_there r old.trees.nodes now.trees.nodes old.symbols now.symbols moves.trees.nodes moves.names m.body (numbers c.body.items) h.0.body);
        },
        subst (λ (ns : Vec number.Tree Global). AllNamed now region ns.items) (sym moved.body) (all_named (numbers c.body.items) h.1),
        fits_there m h.2,
      )
        where
          fits_there : (m : Clause Identifier) → ClauseFits m → ClauseFits (move_clause (change r) m)
          fits_there m h =
              let names = h.0 in let size = h.1 in
              (omega (arith, names, length-map m.formals.names (move_named (change r))), omega (arith, size, sizes_there m.body))

      -- ---- what was set aside

      module _ (unit form : ℕ) where
        abbrev Bound_old : Binder → model.Binder → Type 0
        Bound_old = IsBinder old.symbols unit form

        abbrev Bound_now : Binder → model.Binder → Type 0
        Bound_now = IsBinder now.symbols (r.unit unit) (r.form unit form)

        abbrev KeptNow : code_kept.Kept → order.Item Identifier → Type 0
        KeptNow k m = KeptFor now region (r.unit unit) (r.form unit form) k m

        moved_as : (k x l : code_kept.Kept) → k ≡ x → KeptMoves r k l → KeptMoves r x l
        moved_as k x l e h = subst (λ (y : code_kept.Kept). KeptMoves r y l) e h

        all_bound : (bs cs : List Binder) (ms : List model.Binder) → cs ≡ map (binder_as r) bs → AllMatch Bound_old bs ms → AllMatch Bound_now cs (map (new.binder r) ms)
        all_bound bs cs ms e h = subst (λ (xs : List Binder). AllMatch Bound_now xs (map (new.binder r) ms)) (sym e) (binders_there r keeps old now moves unit form bs ms h)

        kept_there : (k l : code_kept.Kept) (m : order.Item Identifier) → KeptMoves r k l → KeptFor old region unit form k m → KeptNow l (item_as r (ident r) m)
        kept_there k l (order.Expression x) moved h = (form_as r h.0, moved_as k (kept.Expression h.0) l h.1 moved, form_there h.0 x h.2)
        kept_there k l (order.Value b x) moved h =
            (binder_as r h.0, form_as r h.1, moved_as k (kept.Value h.0 h.1) l h.2 moved, binder_there r keeps old now moves unit form h.0 b h.3, form_there h.1 x h.4)
        kept_there k l (order.Function b here c) moved h =
            let e = moved_as k (kept.Function h.0 here h.1) l h.2 moved in
            (binder_as r h.0, e.0, e.1, binder_there r keeps old now moves unit form h.0 b h.3, clause_there h.1 e.0 c e.2 h.4)
        kept_there k l (order.Assigned n x) moved h =
            (name_as r h.0, form_as r h.1, moved_as k (kept.Assigned h.0 h.1) l h.2 moved, name_there h.0 n h.3, form_there h.1 x h.4)
        kept_there k l (order.AssignedFunction n here c) moved h =
            let e = moved_as k (kept.AssignedFunction h.0 here h.1) l h.2 moved in
            (name_as r h.0, e.0, e.1, name_there h.0 n h.3, clause_there h.1 e.0 c e.2 h.4)
        kept_there k l (order.ValuesOf bs x) moved h =
            let e = moved_as k (kept.Values h.0 h.1 h.2) l h.3 moved in
            (e.0, h.1, form_as r h.2, e.1, (all_bound h.0.items e.0.items bs.names e.2 h.4.0, h.4.1), form_there h.2 x h.5)
        kept_there k l (order.Record t) moved h =
            let e = moved_as k (kept.Record h.0 h.1 h.2 h.3) l h.4 moved in (
              e.0,
              e.1,
              h.2,
              e.2,
              e.3,
              all_bound h.0.items e.0.items t.binders e.4 h.5,
              all_bound h.1.items e.1.items t.fields e.5 h.6,
              h.7,
              subst (λ (us : List FieldUse). AllMatch IsField us (map (new.field_use r) t.used)) (sym e.6) (each_there IsField IsField (field_as r) (new.field_use r) (field_there r) h.3.items t.used h.8),
            )
        kept_there k l (order.Macro b here) moved h = (
          binder_as r h.0,
          meaning_as r h.1,
          moved_as k (kept.Macro h.0 h.1) l h.2 moved,
          binder_there r keeps old now moves unit form h.0 b h.3,
          subst (IsMeaning now.symbols (r.unit unit) (r.form unit form) (meaning_as r h.1)) (sym (meaning_moves b.bound b.ident)) (meaning_there r old.symbols now.symbols moves.names unit form h.1 (meaning_of b.bound b.ident) h.4),
        )

        items_there : (xs ys : List Item) (ms : List (order.Item Identifier)) → AllMatch (λ x y. KeptMoves r x.kept y.kept) xs ys → AllMatch (ItemFor old region unit form) xs ms →
            AllMatch (ItemFor now region (r.unit unit) (r.form unit form)) ys (map (item_as r (ident r)) ms)
        items_there [] [] [] moved h = tt
        items_there [] [] (m ∷ ms) moved h = absurd h
        items_there [] (y ∷ ys) ms moved h = absurd moved
        items_there (x ∷ xs) [] ms moved h = absurd moved
        items_there (x ∷ xs) (y ∷ ys) [] moved h = absurd h
        items_there (x ∷ xs) (y ∷ ys) (m ∷ ms) moved h = (kept_there x.kept y.kept m moved.0 h.0, items_there xs ys ms moved.1 h.1)

    -- ---- macro uses that wait

    module _ (unit form : ℕ) where
      literals_there : (ns : List NamePart) (ms : List (Named Identifier)) → AllMatch (parts.IsName old) ns ms → AllMatch (parts.IsName now) (map (name_as r) ns) (map (move_named (change r)) ms)
      literals_there ns ms h = each_there (parts.IsName old) (parts.IsName now) (name_as r) (move_named (change r)) name_there ns ms h

      use_there : (u v : WaitingUse) (m : order.WaitingUse Identifier) → UseMoves r u v → WaitsFor old unit form u m → WaitsFor now (r.unit unit) (r.form unit form) v (use_as r (ident r) m)
      use_there u v m moved h = record {
        keyword = subst (λ (t : Target). IsTarget now.symbols (r.unit unit) (r.form unit form) t (new.target r m.keyword)) (sym moved.keyword) (target_there r keeps old now moves unit form u.keyword m.keyword h.keyword);
        literals = subst (λ (ns : List NamePart). AllMatch (parts.IsName now) ns (map (move_named (change r)) m.literals)) (sym moved.literals) (literals_there u.literals.items m.literals h.literals);
      }

      uses_there : (us vs : List WaitingUse) (ms : List (order.WaitingUse Identifier)) → AllMatch (UseMoves r) us vs → AllMatch (WaitsFor old unit form) us ms →
          AllMatch (WaitsFor now (r.unit unit) (r.form unit form)) vs (map (use_as r (ident r)) ms)
      uses_there [] [] [] moved h = tt
      uses_there [] [] (m ∷ ms) moved h = absurd h
      uses_there [] (v ∷ vs) ms moved h = absurd moved
      uses_there (u ∷ us) [] ms moved h = absurd moved
      uses_there (u ∷ us) (v ∷ vs) [] moved h = absurd h
      uses_there (u ∷ us) (v ∷ vs) (m ∷ ms) moved h = (use_there u v m moved.0 h.0, uses_there us vs ms moved.1 h.1)

  -- ---- what is left

  pub left_on : KeepsDefinitions r → (x y : Left) → AllMatch (UseMoves r) x.uses.items y.uses.items → AllMatch (λ i j. KeptMoves r i.kept j.kept) x.items y.items → LeftStands r x y
  left_on keeps x y uses items region old now unit form l moves h = record {
    uses = uses_there keeps old now moves unit form x.uses.items y.uses.items l.uses uses h.uses;
    items = items_there keeps old now moves region unit form x.items y.items l.items items h.items;
  }
