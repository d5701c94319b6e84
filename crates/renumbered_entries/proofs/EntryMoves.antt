-- An entry stands under other numbers for what it stood for.
use Rattle.std.proofs.Common.{◌≡◌, ℕ, ◌≤◌, List, [], ◌∷◌, map, length, reverse, Bool, true, false, Option, Some, None, Result, Ok, Err, refl, sym, ap, ◌∙◌, subst}
use Rattle.scheme_model.specs.Ident.{Ident}
use Rattle.scheme_model.specs.Trees.{Tree}
use Rattle.scheme_model.specs.Cores as model
use Rattle.scheme_model.specs.RulesShape.{option_map}
use Rattle.scheme_model.specs.Steps.{Broken}
use Rattle.scheme_model.specs.Order.{Item, Expression, Value, Function, Assigned, AssignedFunction, ValuesOf, Record, Macro, Left, max_nodes, max_uses}
use Rattle.scheme_model.specs.Program.{enough_turns}
use Rattle.scheme_model.specs.Questions.{Around, Moment}
use Rattle.scheme_model.specs.Substitution.{Table}
use Rattle.scheme_model.specs.FormsAlike.{bound_moved, left_with, or_fault, set_aside_asking}
use Rattle.form_laws.specs.Begins.{Each}
use Rattle.syntax_tree.specs.Works.{StandsFor, LiesIn}
use Rattle.syntax_tree.specs.declared.trees.Work.{Work}
use Rattle.syntax_tree.specs.declared.trees.table.Region.{Region}
use Rattle.core_tree.specs.Levels.{BindsAs, AllBind}
use Rattle.core_tree.specs.Names.{AllMatch, IsTarget, IsUse}
use Rattle.core_tree.specs.Units.{IsResult}
use Rattle.core_tree.specs.declared.cores.Target.{Target}
use Rattle.core_tree.specs.declared.units.UnitForm.{UnitForm}
use Rattle.form_notes.specs.Standing.{HaveNotes}
use Rattle.form_notes.specs.declared.notes.Note as code_note
use Rattle.form_parts.specs.declared.items.Left as code_left
use Rattle.expansion_laws.specs.Tops.{ItemBinds, ItemsBind}
use Rattle.renumbering_laws.specs.Moving.{move_tree}
use Rattle.renumbering_laws.specs.Renumbering as new
use Rattle.renumbering_laws.specs.Renumbering.{Renumbering, IsOneToOne, ident, change, result_as, part_as, parts_as, item_as, left_as, counted_as}
use Rattle.renumbering_laws.specs.Asked.{new_moment}
use Rattle.renumbering_laws.specs.NewSurroundings.{HasOldNumbers, around_new}
use Rattle.renumbering_laws.specs.States.{defined_as}
use Rattle.renumbering_laws.proofs.NewSurroundings.{old_numbers_apart, turns_move}
use Rattle.kept_forms.specs.KeptForms.{KeptAside, KeptItem, KeptParts, KeptForm}
use Rattle.kept_forms.specs.Carried.{RestFits}
use Rattle.kept_turns.specs.Turns.{last_of, part_before, result_in}
use Rattle.carried_laws.specs.CarriedEntries.{IsWhole}
use Rattle.carried_laws.specs.Entries as carried
use Rattle.carried_laws.specs.Entries.{aside_as, kept_item_as, kept_parts_as, kept_as}
use Rattle.carried_laws.proofs.ClosedForms.{closed_new}
use Rattle.carried_laws.proofs.Renumbered.{entry_moved}
use Rattle.declared_again.specs.Endings.{endings, table_made}
use Rattle.declared_again.proofs.EndingSides.{made_by_then}
use Rattle.note_laws.specs.Told.{since_of}
use Rattle.moves.specs.Works.{WorkMoves}
use Rattle.moves.proofs.StandLaws.{stands_there, lies_there}
use Rattle.moved_numbers.specs.Leaves.{binder_as, target_as}
use Rattle.moved_numbers.specs.Notes.{note_as, noted_as, SinceMoves}
use Rattle.moved_numbers.specs.Standing as standing
use Rattle.moved_numbers.specs.Standing.{StandsOn, UseStands, ResultStands}
use Rattle.moved_numbers.proofs.Fronts.{each_there, none_of_none}
use Rattle.moved_numbers.proofs.LeafLaws.{target_there}
use Rattle.moved_numbers.proofs.NoteLaws.{notes_there}
use Rattle.moved_notes.proofs.NotedMoved.{pass_moved, left_moved}
use Rattle.unit_scopes.specs.State.{IsNumbered, most_locals}
use Rattle.unit_scopes.specs.declared.scope.Budget.{Budget}
use Rattle.moved_entries.specs.Left.{IfLeftStands}
use Rattle.moved_entries.specs.Part.{PartStands}
use Rattle.form_cache.specs.Entries.{Editions, counted_at, CountsAt, DeclaredAt, HasSpaceLeft, IsLeft, AsideFor, RestFor, RestClosed, numbered_from, FaultFor, IsEntry}
use Rattle.form_cache.specs.declared.entries.Entry.{Entry}
use Rattle.renumbered_entries.specs.Renumbered.{EditionsMove, IsEntryUnder}
use Rattle.renumbered_entries.proofs.Definitions.{IsOf, made_of, reverse_map, definitions_on}

-- ---- what a form comes to

module _ (r : Renumbering) where
  abbrev part_to : Result model.Part Broken → Result model.Part Broken
  part_to p = result_as r (part_as r) p

  abbrev parts_to : Result model.Parts Broken → Result model.Parts Broken
  parts_to p = result_as r (parts_as r) p

  part_moves : (p : Result model.Part Broken) (q : Result model.Parts Broken) → part_before (part_to p) (parts_to q) ≡ parts_to (part_before p q)
  part_moves (Ok p) (Ok q) = refl
  part_moves (Ok p) (Err e) = refl
  part_moves (Err e) q = refl

  result_moves : (ks : List KeptItem) → result_in (map (kept_item_as r) ks) ≡ parts_to (result_in ks)
  result_moves [] = refl
  result_moves (k ∷ ks) = ap (part_before (part_to k.part)) (result_moves ks) ∙ part_moves k.part (result_in ks)

  last_moves : (m : Moment) (ks : List KeptItem) → last_of (new_moment r m) (map (kept_item_as r) ks) ≡ new_moment r (last_of m ks)
  last_moves m [] = refl
  last_moves m (k ∷ ks) = last_moves k.moment ks

  -- ---- what items bind

  binds_as : (local : Bool) (b : model.Bound) → BindsAs local b → BindsAs local (new.bound r b)
  binds_as true (model.LocalNumber v) h = h
  binds_as true (model.Definition u n) h = h
  binds_as false (model.LocalNumber v) h = h
  binds_as false (model.Definition u n) h = h

  all_bind : (local : Bool) (bs : List model.Binder) → AllBind local bs → AllBind local (map (new.binder r) bs)
  all_bind local [] h = h
  all_bind local (b ∷ bs) h = (binds_as local b.bound h.0, all_bind local bs h.1)

  item_binds : (local : Bool) (i : Item Ident) → ItemBinds local i → ItemBinds local (item_as r (ident r) i)
  item_binds local (Expression x) h = h
  item_binds local (Value b x) h = binds_as local b.bound h
  item_binds local (Function b here c) h = binds_as local b.bound h
  item_binds local (Assigned n x) h = h
  item_binds local (AssignedFunction n here c) h = h
  item_binds local (ValuesOf bs x) h = all_bind local bs.names h
  item_binds local (Record t) h = (all_bind local t.binders h.0, all_bind true t.fields h.1)
  item_binds local (Macro b here) h = binds_as local b.bound h

  items_bind : (local : Bool) (is : List (Item Ident)) → ItemsBind local is → ItemsBind local (map (item_as r (ident r)) is)
  items_bind local [] h = h
  items_bind local (i ∷ is) h = (item_binds local i h.0, items_bind local is h.1)

  -- ---- what is left

  abbrev left_to : Result (Left Ident) Broken → Result (Left Ident) Broken
  left_to l = result_as r (left_as r (ident r)) l

  module _ (old now : Work) (moves : WorkMoves r old now) (region : Region) (unit form : ℕ) where
    left_is : (x y : Option code_left.Left) (l : Result (Left Ident) Broken) → IfLeftStands r x y → IsLeft old region unit form x l → IsLeft now region (r.unit unit) (r.form unit form) y (left_to l)
    left_is None None (Ok l) moved h = absurd h
    left_is None None (Err e) moved h = tt
    left_is None (Some y) l moved h = absurd moved
    left_is (Some x) None l moved h = absurd moved
    left_is (Some x) (Some y) (Ok l) moved h = (moved region old now unit form l moves h.0, items_bind false l.items h.1)
    left_is (Some x) (Some y) (Err e) moved h = absurd h

  space_left : (b : Budget) (x y : Option code_left.Left) → IfLeftStands r x y → HasSpaceLeft b x → HasSpaceLeft b y
  space_left b None None moved h = h
  space_left b None (Some y) moved h = absurd moved
  space_left b (Some x) None moved h = absurd moved
  space_left b (Some x) (Some y) moved h = h

  none_left : (x y : Option code_left.Left) → IfLeftStands r x y → x ≡ None → y ≡ None
  none_left None None moved h = refl
  none_left None (Some y) moved h = absurd moved
  none_left (Some x) y moved h = absurd cc

-- ---- what the code does

-- an entry and a form that are moved
pub record Moved (r : Renumbering) (x y : Entry) (f g : UnitForm) : Type 0 where
  pub tree : y.tree ≡ x.tree
  pub before : y.before ≡ x.before
  pub counts : y.counts ≡ x.counts
  pub counted : y.declared.counts ≡ x.declared.counts
  pub keywords : y.declared.keywords ≡ map (target_as r) x.declared.keywords
  pub uses : StandsOn r (λ work unit form. AllMatch (UseStands work unit form)) (map (new.macro_use_as r)) x.declared.uses y.declared.uses
  pub left : IfLeftStands r x.left y.left
  pub part : PartStands r x.part y.part
  pub items : length g.items ≡ length f.items
  pub result : StandsOn r ResultStands (standing.result_as r) f g
  pub definitions : g.trace.definitions ≡ map (binder_as r) f.trace.definitions
  pub notes : g.trace.notes.notes ≡ map (note_as r) f.trace.notes.notes

module _ (r : Renumbering) (back : HasOldNumbers r) (x y : Entry) (f g : UnitForm) (moved : Moved r x y f g) (old now : Work) (moves : WorkMoves r old now) (region : Region) (e e' : Editions) (editions : EditionsMove r e e') (unit : ℕ) (n : ℕ × Tree Ident) (k : KeptForm)
    (w u : Around) (h : IsEntry old region e unit n x f k w u) where
  one : IsOneToOne r
  one = old_numbers_apart r back

  abbrev form : ℕ
  form = r.form unit n.0

  stands : carried.StandsFor (r.unit unit) (form, move_tree (change r) n.1) (kept_as r k) (around_new r back w) (around_new r back u)
  stands = entry_moved r back unit n k w u h.stands

  since : (v : Around) → SinceMoves r (since_of v e) (since_of (around_new r back v) e')
  since v = record { unit = refl; form = refl; editions = editions }

  counts_at : (b c : Budget) (m : Moment) → c ≡ b → CountsAt b m → CountsAt c (new_moment r m)
  counts_at b c m same at = record { uses = ap (λ (d : Budget). d.uses) same ∙ at.uses; nodes = ap (λ (d : Budget). d.nodes) same ∙ at.nodes; locals = ap (λ (d : Budget). d.locals) same ∙ at.locals }

  -- ---- the first part

  declared : (m : Moment) → DeclaredAt old.symbols unit n.0 x.declared m → DeclaredAt now.symbols (r.unit unit) form y.declared (new_moment r m)
  declared m at = record {
    counts = counts_at x.declared.counts y.declared.counts m moved.counted at.counts;
    few_uses = subst (λ (b : Budget). b.uses ≤ max_uses) (sym moved.counted) at.few_uses;
    few_nodes = subst (λ (b : Budget). b.nodes ≤ max_nodes) (sym moved.counted) at.few_nodes;
    few_locals = subst (λ (b : Budget). b.locals ≤ most_locals b.nodes) (sym moved.counted) at.few_locals;
    keywords = subst (λ (ts : List Target). AllMatch (IsTarget now.symbols (r.unit unit) form) ts (reverse (map (new.target r) m.keywords))) (sym moved.keywords)
        (subst (λ (ms : List model.Target). AllMatch (IsTarget now.symbols (r.unit unit) form) (map (target_as r) x.declared.keywords) ms) (sym (reverse_map (new.target r) m.keywords))
        (each_there (IsTarget old.symbols unit n.0) (IsTarget now.symbols (r.unit unit) form) (target_as r) (new.target r) (target_there r back.definitions old now moves unit n.0) x.declared.keywords (reverse m.keywords) at.keywords));
    met = subst (λ (ms : List model.MacroUse). AllMatch (IsUse now.symbols (r.unit unit) form) y.declared.uses ms) (sym (reverse_map (new.macro_use_as r) m.met))
        (moved.uses old now unit n.0 (reverse m.met) moves at.met);
  }

  -- where the form was gone through so far, by what came of the rest
  left_then : (p : Option KeptParts) → k.parts ≡ p → IsLeft now region (r.unit unit) form y.left (or_fault (left_with (bound_moved k.aside.before y.before)) (left_to r k.aside.pass.left))
  left_then None none =
      let broken = subst (IsWhole k.aside) none h.whole in
      let was : IsLeft old region unit n.0 x.left (Err broken.0) = subst (IsLeft old region unit n.0 x.left) (ap (or_fault (left_with (bound_moved k.aside.before x.before))) broken.1) h.aside.left in
      subst (IsLeft now region (r.unit unit) form y.left) (ap (λ (l : Result (Left Ident) Broken). or_fault (left_with (bound_moved k.aside.before y.before)) (left_to r l)) (sym broken.1))
      (left_is r old now moves region unit n.0 x.left y.left (Err broken.0) moved.left was)
  left_then (Some c) some =
      let rest = subst (λ (o : Option KeptParts). RestFor old region e unit n.0 x f o u) some h.rest in
      let fits = subst (RestFits (aside_as r k.aside)) (ap (option_map (kept_parts_as r)) some) stands.fits in
      let here : y.before ≡ c.before = moved.before ∙ sym rest.1 in
      subst (IsLeft now region (r.unit unit) form y.left) (sym (ap (λ (b : ℕ). or_fault (left_with (bound_moved k.aside.before b)) (left_to r k.aside.pass.left)) here ∙ fits.1))
      (left_is r old now moves region unit n.0 x.left y.left (Ok c.left) moved.left rest.2)

  aside : AsideFor now region e' (r.unit unit) form (move_tree (change r) n.1) y (aside_as r k.aside) (around_new r back w)
  aside =
      let a = h.aside in
      record {
        tree = subst (λ t. StandsFor now t (move_tree (change r) n.1)) (sym moved.tree) (stands_there r old.trees.nodes now.trees.nodes old.symbols now.symbols moves.trees.nodes moves.names n.1 x.tree.number a.tree);
        lies = subst (LiesIn now region) (sym moved.tree) (lies_there r old now moves x.tree.number region.in_pool.number a.lies);
        left = left_then k.parts refl;
        declared = declared k.aside.moment a.declared;
        space = subst (λ (b : Budget). HasSpaceLeft b y.left) (sym moved.counted) (space_left r x.declared.counts x.left y.left moved.left a.space);
        noted = map (noted_as r) a.noted;
        part = moved.part one old now (since_of w e) (since_of (around_new r back w) e') k.aside.pass.notes a.noted moves (since w) a.part;
        told = pass_moved r one w (around_new r back w) (turns_move r back w) enough_turns n.1 a.noted a.told;
      }

  -- ---- the second part

  rest_is : (p : Option KeptParts) → RestFor old region e unit n.0 x f p u → RestFor now region e' (r.unit unit) form y g (option_map (kept_parts_as r) p) (around_new r back u)
  rest_is None at = (none_of_none f.items g.items moved.items at.0, none_left r x.left y.left moved.left at.1, moved.counts ∙ at.2 ∙ sym moved.counted)
  rest_is (Some c) at =
      let last = last_of c.met c.items in (
        map (noted_as r) at.0,
        at.1 ∙ sym moved.before,
        left_is r old now moves region unit n.0 x.left y.left (Ok c.left) moved.left at.2,
        subst (λ (q : Result model.Parts Broken). IsResult now (r.unit unit) form g q (counted_at (last_of (new_moment r c.met) (map (kept_item_as r) c.items)))) (sym (result_moves r c.items))
            (subst (λ (m : Moment). IsResult now (r.unit unit) form g (parts_to r (result_in c.items)) (counted_at m)) (sym (last_moves r c.met c.items))
            (moved.result old now unit n.0 (result_in c.items, counted_at last) moves at.3)),
        subst (CountsAt y.counts) (sym (last_moves r c.met c.items)) (counts_at x.counts y.counts last moved.counts at.4),
        subst (λ (xs : List code_note.Note). HaveNotes now.symbols (since_of (around_new r back u) e') xs (map (noted_as r) at.0)) (sym moved.notes)
            (notes_there r old.symbols now.symbols moves.names (since_of u e) (since_of (around_new r back u) e') (since u) f.trace.notes.notes at.0 at.5),
        left_moved r one u (around_new r back u) (turns_move r back u) enough_turns c.left at.0 at.6,
      )

  rest_closed : (p : Option KeptParts) → RestClosed u p → RestClosed (around_new r back u) (option_map (kept_parts_as r) p)
  rest_closed None at = tt
  rest_closed (Some c) at = closed_new r back u at

  -- ---- what its unit has of it

  all_of : Each (IsOf unit) k.aside.moment.table
  all_of =
      let q = (set_aside_asking w enough_turns n.1).1 in
      let made : k.aside.moment.table ≡ _ = ap (λ (a : KeptAside). a.moment.table) h.stands.aside ∙ (made_by_then w enough_turns n.1).0.0 in
      subst (λ (t : Table). Each (IsOf unit) t) (sym made) (subst (λ (v : ℕ). Each (IsOf v) (table_made w (endings q.asked))) h.stands.unit_there (made_of w (endings q.asked)))

  faulty : (l : Result (Left Ident) Broken) → FaultFor old.symbols f.fault l → FaultFor now.symbols g.fault (left_to r l)
  faulty (Ok l) at = tt
  faulty (Err b) at = moved.result old now unit n.0 (Err b, counted_at k.aside.moment) moves at

  whole : (p : Option KeptParts) → IsWhole k.aside p → IsWhole (aside_as r k.aside) (option_map (kept_parts_as r) p)
  whole None at = (new.broken_as r at.0, ap (left_to r) at.1)
  whole (Some c) at = tt

  pub entry_there : IsEntryUnder r back now region e' unit n y g k w u
  entry_there = record {
    stands = stands;
    closed = (closed_new r back w h.closed.0, rest_closed k.parts h.closed.1);
    aside = aside;
    rest = rest_is k.parts h.rest;
    definitions = subst (λ (b : ℕ). AllMatch (IsNumbered now.symbols form) (reverse g.trace.definitions) (numbered_from b (map (defined_as r) k.aside.moment.table))) (sym moved.before)
        (definitions_on r old.symbols now.symbols moves.names unit n.0 x.before f.trace.definitions g.trace.definitions k.aside.moment.table moved.definitions all_of h.definitions);
    fault = faulty k.aside.pass.left h.fault;
    whole = whole k.parts h.whole;
  }
