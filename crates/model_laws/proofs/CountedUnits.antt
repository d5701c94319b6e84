-- A unit expanded by counts is the unit expanded by whole numbers.
use Rattle.std.proofs.Common.{◌≡◌, ℕ, List, [], ◌∷◌, map, Bool, true, false, cond, Option, Some, None, Result, Ok, Err, refl, sym, ap, ◌∙◌, subst}
use Rattle.std.specs.Prelude.{◌&&◌, ◌||◌, if◌then◌else◌}
use Rattle.scheme_model.specs.Identifiers.{Number, Name}
use Rattle.scheme_model.specs.Ident.{Ident}
use Rattle.scheme_model.specs.Trees.{Tree}
use Rattle.scheme_model.specs.ExpansionFaults.{Named, named_map, Fault, KeywordRedefined, Duplicate}
use Rattle.scheme_model.specs.Meaning.{Meaning, Local, Global, Standard, Free, same_meaning, of_form}
use Rattle.scheme_model.specs.Requirements.{Known}
use Rattle.scheme_model.specs.RulesShape.{Rules, rules_map, option_map}
use Rattle.scheme_model.specs.Cores.{Parts, no_parts, Part}
use Rattle.scheme_model.specs.Steps.{Broken}
use Rattle.scheme_model.specs.Order.{Item, Expression, Value, Function, Assigned, AssignedFunction, ValuesOf, Record, Macro, Note, LookedUp, Compared, WaitingUse, Left, Pending, Renamed, Pass, Ops, is_some, meet_all, run}
use Rattle.scheme_model.specs.Expression.{expand, item_part}
use Rattle.scheme_model.specs.UnitExpansion.{Formed as FormResult, max_depth, Work, ◌then◌, going, unless_over, one_form, passes, with_part, before_parts, items_parts, form_parts, finished, unit}
use Rattle.scheme_model.specs.Substitution.{State, item_map, use_map, note_map, any, differ, unchanged}
use Rattle.scheme_model.specs.ScopedExpansion.{Frames, FramedIdent, ScopedState, means_at, macro_at, body_around, definition_added, meaning_next, is_defined, refused_now, scoped}
use Rattle.scheme_model.specs.CountedExpansion.{means_here, refused_here, counted}
use Rattle.model_laws.proofs.IdentKinds.{item_kind, use_kind}
use Rattle.model_laws.proofs.FrameEras.{Era, Below}
use Rattle.model_laws.proofs.FrameAsks.{AllOf, all_of_more}
use Rattle.model_laws.proofs.EntryLaws.{GivenNoLocal}
use Rattle.model_laws.proofs.FrameStates.{FineState, Grows, grows_itself, grows_then}
use Rattle.model_laws.proofs.FrameLeaves.{TreeAll, tree_more, lift_tree, lifted_tree, held_more}
use Rattle.model_laws.proofs.FrameHeld.{NoteAll, ItemHeld, UsesHeld, left_map, LeftHeld, left_more}
use Rattle.model_laws.proofs.FramePlaces.{Came, came, broke, Together}
use Rattle.model_laws.proofs.FrameForms.{forms_law}
use Rattle.model_laws.proofs.FrameUnit.{UnitLeaf, UnitPlace, UnitRule, UnitState, UnitInside, Noted, unit_facts, leaf_later}
use Rattle.model_laws.proofs.UnitEnds.{Both, both_end, both_go, both_at, both_then, both_over, on_work, both_know}
use Rattle.model_laws.proofs.FrameUnits.{Aside, AsideMade, FormHeld, passed, turned, forms_later, aside_law}
use Rattle.model_laws.proofs.CountedOps.{Setting, seen, Side, B, D, T, M, ident, at, define_cases, defined_seen, then_, then_holds, over, side, goes}
use Rattle.model_laws.proofs.CountedUses.{meet_all_goes}
use Rattle.model_laws.proofs.CountedForms.{ToldItem, ToldRest, OkAll, left_seen, Ran, ran}
use Rattle.model_laws.proofs.CountedRuns.{run_goes}
use Rattle.model_laws.proofs.CountedExpressions.{Same, item_goes, expand_goes}
use Rattle.model_laws.proofs.CountedStates.{of_is, OfForm, Formed, told_by, Stand, rooted_stand, LocalsKept, Holds, form_setting, locals_later, form_begins}

-- ---- both sides are the third side's image

-- a local that is told is what its count tells
pub of_form_told : (u f u' f' : ℕ) → u' ≡ u → f' ≡ f → (m : Meaning) → told_by u f m ≡ true → of_form u' f' m ≡ m
of_form_told u f u' f' a b (Local v) h = let q = of_is u f v h in let x = a ∙ sym q.0 in let y = b ∙ sym q.1 in λ j. Local (record { unit = x j; form = y j; count = v.count })
of_form_told u f u' f' a b (Global z i) h = refl
of_form_told u f u' f' a b (Standard s) h = refl
of_form_told u f u' f' a b (Free s) h = refl

-- ---- definitions that ask some notes alone

abbrev pub Asks : Type 0
Asks = Ident → Note FramedIdent → Bool

-- all notes are asked
abbrev pub every : Asks
every x note = true

abbrev pub defined_unless : Bool → Option Number → Named Ident → Option (Rules Ident) → Frames → Pending Ident FramedIdent → ScopedState → Result (Renamed Ident FramedIdent) (Fault Ident) × ScopedState
defined_unless refused b n r fs p s =
    if refused then (Err (KeywordRedefined n), s)
    else if is_defined s b n.name then (Err (Duplicate n), s)
    else (Ok (unchanged p), definition_added b n r fs s)

abbrev pub refused_by_number : Asks → Option Number → Named Ident → Option (Rules Ident) → Frames → ScopedState → Note FramedIdent → Bool
refused_by_number asks b n r fs s note = asks n.name note && refused_now (definition_added b n r fs s) (meaning_next s b n.name) (is_some r) note

abbrev pub refused_by_count : Asks → Option Number → Named Ident → Option (Rules Ident) → Frames → ScopedState → Note FramedIdent → Bool
refused_by_count asks b n r fs s note = asks n.name note && refused_here (definition_added b n r fs s) (meaning_next s b n.name) (is_some r) note

-- expansion by whole numbers, and by counts; where all notes are asked it is as ever
abbrev pub numbered_asking : Asks → Known → Ops Frames Ident FramedIdent ScopedState
numbered_asking asks known = record (scoped known) { define = λ n r fs p s. defined_unless (any (refused_by_number asks (body_around fs) n r fs s) p.notes) (body_around fs) n r fs p s }

abbrev pub counted_asking : Asks → Known → Ops Frames Ident FramedIdent ScopedState
counted_asking asks known = record (counted known) { define = λ n r fs p s. defined_unless (any (refused_by_count asks (body_around fs) n r fs s) p.notes) (body_around fs) n r fs p s }

module _ (w : Era) (known : Known) (asks : Asks) (s0 : ScopedState) where
  abbrev c : Setting
  c = form_setting w s0 known asks s0.form

  cases_seen : (n : Named (B c)) (r : Option (Rules (B c))) (e : D c) (p : Pending (B c) (M c)) (s : T c) (t d : Bool)
      → cond t (Err (KeywordRedefined (named_map (ident c) n)), s.0) (cond d (Err (Duplicate (named_map (ident c) n)), s.0) (Ok (unchanged (left_seen c p)), then_ c n r e s)) ≡ defined_seen c (define_cases c n r e p s t d)
  cases_seen n r e p s true d = refl
  cases_seen n r e p s false true = refl
  cases_seen n r e p s false false = refl

  here_told : (e : D c) (s : T c) (i : B c) → means_here s.0 e.0 i.0 ≡ means_at s.0 e.0 i.0
  here_told e s i = of_form_told w.unit s0.form s.0.unit s.0.form s.1.unit s.1.form (means_at s.0 e.0 i.0) (c.means s.0 s.1 e.0 e.1 i.0 i.1)

  refused_told : (s : T c) (m : Meaning) (new : Bool) (n : Note (M c)) → refused_here s.0 m new (note_map (at c) n) ≡ refused_now s.0 m new (note_map (at c) n)
  refused_told s m new (LookedUp l head keyword) = ap (λ x. same_meaning x m && (keyword || (head && new))) (here_told l.0 s l.1)
  refused_told s m new (Compared l j held) =
      let a = here_told l.0 s l.1 in let b = here_told j.0 s j.1 in λ i. (same_meaning (a i) m || same_meaning (b i) m) && differ held (same_meaning (a i) (b i))

  any_told : (s : T c) (x : Ident) (m : Meaning) (new : Bool) (ns : List (Note (M c))) → any (λ note. asks x note && refused_here s.0 m new note) (map (note_map (at c)) ns) ≡ any (λ note. asks x note && refused_now s.0 m new note) (map (note_map (at c)) ns)
  any_told s x m new [] = refl
  any_told s x m new (n ∷ ns) = let a = refused_told s m new n in let b = any_told s x m new ns in λ j. (asks x (note_map (at c) n) && a j) || b j

  -- the note by which a definition is refused
  abbrev asked : (n : Named (B c)) (r : Option (Rules (B c))) (e : D c) (s : T c) → Note FramedIdent → Bool
  asked n r e s note = refused_by_number asks (body_around e.0) (named_map (ident c) n) (option_map (rules_map (ident c)) r) e.0 s.0 note

  abbrev by_number : Side c
  by_number = record {
    means = λ fs s i. means_at s fs i;
    transformer = λ s m. macro_at s.macros m;
    same_transformer = λ s m h. refl;
    define = (numbered_asking asks known).define;
    same_means = λ e s i. refl;
    same_define = λ n r e p s. cases_seen n r e p s (any (asked n r e s) (map (note_map (at c)) p.notes)) (is_defined s.0 (body_around e.0) n.name.0);
  }

  abbrev by_count : Side c
  by_count = record {
    means = λ fs s i. means_here s fs i;
    transformer = λ s m. macro_at s.macros m;
    same_transformer = λ s m h. refl;
    define = (counted_asking asks known).define;
    same_means = here_told;
    same_define = λ n r e p s.
        ap (λ t. cond t (Err (KeywordRedefined (named_map (ident c) n)), s.0) (cond (is_defined s.0 (body_around e.0) n.name.0) (Err (Duplicate (named_map (ident c) n)), s.0) (Ok (unchanged (left_seen c p)), then_ c n r e s)))
        (any_told (then_ c n r e s, then_holds c n r e s) n.name.0 (meaning_next s.0 (body_around e.0) n.name.0) (is_some (option_map (rules_map (ident c)) r)) p.notes)
        ∙ cases_seen n r e p s (any (asked n r e s) (map (note_map (at c)) p.notes)) (is_defined s.0 (body_around e.0) n.name.0);
  }

  -- ---- items

  item_told : (i : Item (B c)) → ToldItem c.told i → ToldItem c.told (item_map (ident c) i)
  item_told (Expression x) h = tt
  item_told (Value z x) h = tt
  item_told (Function z here k) h = tt
  item_told (Assigned n x) h = tt
  item_told (AssignedFunction n here k) h = tt
  item_told (ValuesOf bs x) h = tt
  item_told (Record r) h = tt
  item_told (Macro z here) h = h

  item_back : (i : Item (B c)) → ToldItem c.told (item_map (ident c) i) → ToldItem c.told i
  item_back (Expression x) h = tt
  item_back (Value z x) h = tt
  item_back (Function z here k) h = tt
  item_back (Assigned n x) h = tt
  item_back (AssignedFunction n here k) h = tt
  item_back (ValuesOf bs x) h = tt
  item_back (Record r) h = tt
  item_back (Macro z here) h = h

  each_told : (is : List (Item (B c))) → AllOf (ToldItem c.told) is → AllOf (ToldItem c.told) (map (item_map (ident c)) is)
  each_told [] h = tt
  each_told (i ∷ is) h = (item_told i h.0, each_told is h.1)

  left_told : (r : Result (Left (B c)) Broken) → OkAll (ToldRest c) r → OkAll (λ (l : Left Ident). AllOf (ToldItem c.told) l.items) (seen (left_map (ident c)) r)
  left_told (Ok l) h = each_told l.items h
  left_told (Err e) h = tt

  -- ---- the forms gone through

  pub record RunSame (turns : ℕ) (p : Pending Ident FramedIdent) : Type 0 where
    pub same : run (counted_asking asks known) turns [] p s0 ≡ run (numbered_asking asks known) turns [] p s0
    pub holds : Holds w s0 s0.form (run (numbered_asking asks known) turns [] p s0).1
    pub told : OkAll (λ (l : Left Ident). AllOf (ToldItem c.told) l.items) (run (numbered_asking asks known) turns [] p s0).0.left

  module _ (h0 : Holds w s0 s0.form s0) where
    abbrev start : T c
    start = (s0, h0)

    abbrev outermost : D c
    outermost = ([], tt)

    run_over : (turns : ℕ) (p : Pending (B c) (M c)) → AllOf (ToldItem c.told) p.aside → RunSame turns (left_seen c p)
    run_over turns p h = go (run_goes c by_count turns outermost p start h) (run_goes c by_number turns outermost p start h)
      where
        go : Ran c (run (over c) turns outermost p start) (run (side c by_count) turns [] (left_seen c p) s0) → Ran c (run (over c) turns outermost p start) (run (side c by_number) turns [] (left_seen c p) s0) → RunSame turns (left_seen c p)
        go (ran e a) (ran d b) =
            let q = run (over c) turns outermost p start in
            record {
              same = e ∙ sym d;
              holds = subst (λ (z : Pass Ident FramedIdent × ScopedState). Holds w s0 s0.form z.1) (sym d) q.1.1;
              told = subst (λ (z : Pass Ident FramedIdent × ScopedState). OkAll (λ (l : Left Ident). AllOf (ToldItem c.told) l.items) z.0.left) (sym d) (left_told q.0.left b);
            }

    abbrev lift_place : (l : FramedIdent) → UnitPlace w known s0 l → M c
    lift_place l h = ((l.frames, subst (OfForm w.unit s0.form) (sym h.0) tt), (l.ident, rooted_stand w s0 s0.form l.ident h.1))

    abbrev lift_note : (n : Note FramedIdent) → NoteAll (UnitPlace w known s0) n → Note (M c)
    lift_note (LookedUp l head keyword) h = LookedUp (lift_place l h) head keyword
    lift_note (Compared l j held) h = Compared (lift_place l h.0) (lift_place j h.1) held

    lifted_note : (n : Note FramedIdent) (h : NoteAll (UnitPlace w known s0) n) → note_map (at c) (lift_note n h) ≡ n
    lifted_note (LookedUp l head keyword) h = refl
    lifted_note (Compared l j held) h = refl

    abbrev lift_notes : (ns : List (Note FramedIdent)) → AllOf (NoteAll (UnitPlace w known s0)) ns → List (Note (M c))
    lift_notes [] h = []
    lift_notes (n ∷ ns) h = lift_note n h.0 ∷ lift_notes ns h.1

    lifted_notes : (ns : List (Note FramedIdent)) (h : AllOf (NoteAll (UnitPlace w known s0)) ns) → map (note_map (at c)) (lift_notes ns h) ≡ ns
    lifted_notes [] h = refl
    lifted_notes (n ∷ ns) h = let a = lifted_note n h.0 in let b = lifted_notes ns h.1 in λ j. a j ∷ b j

    -- one form of the unit
    pub run_same : (turns : ℕ) (t : Tree Ident) → TreeAll (UnitLeaf w known s0) t → (ns : List (Note FramedIdent)) → AllOf (NoteAll (UnitPlace w known s0)) ns → RunSame turns (one_form t ns)
    run_same turns t l ns h =
        let l' = tree_more (UnitLeaf w known s0) (Stand w s0 s0.form) (rooted_stand w s0 s0.form) t l in
        let a = lifted_tree (Stand w s0 s0.form) t l' in let b = lifted_notes ns h in
        subst (RunSame turns) (λ j. one_form (a j) (b j)) (run_over turns (one_form (lift_tree (Stand w s0 s0.form) t l') (lift_notes ns h)) tt)

    -- ---- what was set aside, expanded

    -- both give the same, in a state of which more holds
    abbrev pub Ended : ScopedState → ScopedState → Type 0
    Ended v t = (t ≡ v) × Holds w s0 s0.form v

    abbrev pub Going : {X : Type 0} → ScopedState → ScopedState → X → X → Type 0
    Going v t x y = (t ≡ v) × (y ≡ x) × Holds w s0 s0.form v

    module _ (turns : ℕ) (fs : List ℕ) where
      abbrev numbered_parts : List (Item Ident) → Work ScopedState (Result Parts Broken)
      numbered_parts is t = items_parts (numbered_asking asks known) fs (item_part (expand (numbered_asking asks known) turns) (numbered_asking asks known) max_depth []) is t

      abbrev counted_parts : List (Item Ident) → Work ScopedState (Result Parts Broken)
      counted_parts is t = items_parts (counted_asking asks known) fs (item_part (expand (counted_asking asks known) turns) (counted_asking asks known) max_depth []) is t

      abbrev ItemsOver : List (Item (B c)) → Type 0
      ItemsOver is = (s : T c) → Both Ended Going (numbered_parts (map (item_map (ident c)) is) s.0) (counted_parts (map (item_map (ident c)) is) s.0)

      -- behind an item's part
      next_over : (is : List (Item (B c))) → ItemsOver is → (p p' : Result Part Broken) (v t : ScopedState) → Going v t p p'
          → Both Ended Going (before_parts (numbered_parts (map (item_map (ident c)) is)) p v) (before_parts (counted_parts (map (item_map (ident c)) is)) p' t)
      next_over is law p p' v t k = let a = k.1 in let b = k.0 in both_at refl (λ j. before_parts (counted_parts (map (item_map (ident c)) is)) (a j) (b j)) (go p)
        where
          go : (z : Result Part Broken) → Both Ended Going (before_parts (numbered_parts (map (item_map (ident c)) is)) z v) (before_parts (counted_parts (map (item_map (ident c)) is)) z v)
          go (Err e) = both_go (Err e) (Err e) v v refl refl (refl, refl, k.2)
          go (Ok y) = both_then _ _ (law (v, k.2)) (λ r r' u t1 k1. both_go (with_part y r) (with_part y r') u t1 refl refl (k1.0, ap (with_part y) k1.1, k1.2))

      items_over : (is : List (Item (B c))) → AllOf (ToldItem c.told) is → ItemsOver is
      items_over [] h s = both_go (Ok no_parts) (Ok no_parts) s.0 s.0 refl refl (refl, refl, s.1)
      items_over (i ∷ is) h s =
          let x = expand_goes c by_count turns in let y = expand_goes c by_number turns in
          both_then _ _ (go (item_goes c by_count (expand (over c) turns) (expand (side c by_count) turns) x.0 x.1 max_depth outermost i h.0 s) (item_goes c by_number (expand (over c) turns) (expand (side c by_number) turns) y.0 y.1 max_depth outermost i h.0 s))
          (next_over is (items_over is h.1))
        where
          go : Same c by_count (item_part (expand (over c) turns) (over c) max_depth outermost i s) (item_part (expand (side c by_count) turns) (side c by_count) max_depth [] (item_map (ident c) i) s.0)
              → Same c by_number (item_part (expand (over c) turns) (over c) max_depth outermost i s) (item_part (expand (side c by_number) turns) (side c by_number) max_depth [] (item_map (ident c) i) s.0)
              → Both Ended Going (unless_over (numbered_asking asks known) fs (item_part (expand (numbered_asking asks known) turns) (numbered_asking asks known) max_depth [] (item_map (ident c) i) s.0))
              (unless_over (counted_asking asks known) fs (item_part (expand (counted_asking asks known) turns) (counted_asking asks known) max_depth [] (item_map (ident c) i) s.0))
          go (goes e) (goes d) =
              let q = item_part (expand (over c) turns) (over c) max_depth outermost i s in
              both_at (ap (unless_over (numbered_asking asks known) fs) d) (ap (unless_over (counted_asking asks known) fs) e)
              (both_over (numbered_asking asks known) (counted_asking asks known) fs (seen (λ z. z) q.0, q.1.0) (seen (λ z. z) q.0, q.1.0) refl (refl, q.1.1) (refl, refl, q.1.1))

      left_over : (l : Left (B c)) → AllOf (ToldItem c.told) l.items
          → Both Ended Going (form_parts (numbered_asking asks known) (expand (numbered_asking asks known) turns) [] fs (Ok (left_map (ident c) l)) s0) (form_parts (counted_asking asks known) (expand (counted_asking asks known) turns) [] fs (Ok (left_map (ident c) l)) s0)
      left_over l h =
          both_at (ap (numbered_parts (map (item_map (ident c)) l.items)) (meet_all_goes c by_number outermost l.uses start)) (ap (counted_parts (map (item_map (ident c)) l.items)) (meet_all_goes c by_count outermost l.uses start))
          (items_over l.items h (meet_all (over c) outermost l.uses start))

    -- what stands in the form
    record LiftedItems (is : List (Item Ident)) : Type 0 where
      over_them : List (Item (B c))
      same : map (item_map (ident c)) over_them ≡ is
      told : AllOf (ToldItem c.told) over_them

    lift_items : (is : List (Item Ident)) → AllOf (ItemHeld (UnitLeaf w known s0)) is → AllOf (ToldItem c.told) is → LiftedItems is
    lift_items [] h k = record { over_them = []; same = refl; told = tt }
    lift_items (i ∷ is) h k =
        let m = held_more item_kind (UnitLeaf w known s0) (Stand w s0 s0.form) (rooted_stand w s0 s0.form) i h.0.0 in
        let rest = lift_items is h.1 k.1 in let a = m.same in let b = rest.same in
        record { over_them = m.made ∷ rest.over_them; same = λ j. a j ∷ b j; told = (item_back m.made (subst (ToldItem c.told) (sym m.same) k.0), rest.told) }

    record LiftedUses (us : List (WaitingUse Ident)) : Type 0 where
      over_them : List (WaitingUse (B c))
      same : map (use_map (ident c)) over_them ≡ us

    lift_uses : (us : List (WaitingUse Ident)) → UsesHeld (UnitLeaf w known s0) us → LiftedUses us
    lift_uses [] h = record { over_them = []; same = refl }
    lift_uses (u ∷ us) h =
        let m = held_more use_kind (UnitLeaf w known s0) (Stand w s0 s0.form) (rooted_stand w s0 s0.form) u h.0 in
        let rest = lift_uses us h.1 in let a = m.same in let b = rest.same in
        record { over_them = m.made ∷ rest.over_them; same = λ j. a j ∷ b j }

    pub left_same : (turns : ℕ) (fs : List ℕ) (l : Left Ident) → LeftHeld (UnitLeaf w known s0) l → AllOf (ToldItem c.told) l.items
        → Both Ended Going (form_parts (numbered_asking asks known) (expand (numbered_asking asks known) turns) [] fs (Ok l) s0) (form_parts (counted_asking asks known) (expand (counted_asking asks known) turns) [] fs (Ok l) s0)
    left_same turns fs l h k =
        let u = lift_uses l.uses h.0 in let i = lift_items l.items h.1 k in let a = sym u.same in let b = sym i.same in
        both_at (λ j. form_parts (numbered_asking asks known) (expand (numbered_asking asks known) turns) [] fs (Ok (record { uses = a j; items = b j })) s0) (λ j. form_parts (counted_asking asks known) (expand (counted_asking asks known) turns) [] fs (Ok (record { uses = a j; items = b j })) s0)
        (left_over turns fs (record { uses = u.over_them; items = i.over_them }) i.told)

-- ---- the unit

abbrev pub FormedState : ScopedState → Type 0
FormedState s = Formed s.places s.definitions

module _ (w : Era) (known : Known) where
  abbrev AsideRooted : ScopedState → Aside Ident → Type 0
  AsideRooted s (Ok l) = LeftHeld (UnitLeaf w known s) l
  AsideRooted s (Err e) = Unit {0}

  -- what is left of a form stands in it
  abbrev pub SetStands : ScopedState → ℕ × Aside Ident → Type 0
  SetStands s r = AsideRooted s r.1 × OkAll (λ (l : Left Ident). AllOf (ToldItem (told_by w.unit r.0)) l.items) r.1

  aside_later : (s t : ScopedState) → Grows w s t → (r : Aside Ident) → AsideRooted s r → AsideRooted t r
  aside_later s t g (Ok l) h = left_more (UnitLeaf w known s) (UnitLeaf w known t) (leaf_later w known s t g) l h
  aside_later s t g (Err e) h = tt

  pub sets_later : (s t : ScopedState) → Grows w s t → (rs : List (ℕ × Aside Ident)) → AllOf (SetStands s) rs → AllOf (SetStands t) rs
  sets_later s t g rs h = all_of_more (SetStands s) (SetStands t) (λ r q. (aside_later s t g r.1 q.0, q.1)) rs h

  aside_made : (s : ScopedState) (r : Aside Ident) → AsideRooted s r → AsideMade w s.uses r
  aside_made s (Ok l) h = left_more (UnitLeaf w known s) (Below w s.uses) (λ y l. l.0) l h
  aside_made s (Err e) h = tt

  pass_rooted : (s : ScopedState) (q : Pass Ident FramedIdent × ScopedState) (m : Pass Name Name × State) → Together w known [] (UnitInside w known s) (Grows w) (UnitLeaf w known) (UnitPlace w known) (UnitRule w known) (Noted w known s) q m → AsideRooted q.1 q.0.left
  pass_rooted s q m h = go h.came_to
    where
      go : Came w known [] (UnitInside w known s) (Grows w) (UnitLeaf w known) (UnitPlace w known) (UnitRule w known) (Noted w known s) q.1 q.0 m.0 → AsideRooted q.1 q.0.left
      go (came l e d hi hn z) = subst (AsideRooted q.1) (sym e) hi
      go (broke y e d k) = subst (AsideRooted q.1) (sym e) tt

  module _ (turns : ℕ) (fs : List ℕ) where
    -- work ended in the same state
    abbrev pub EndedSame : ScopedState → ScopedState → Type 0
    EndedSame v t = (t ≡ v) × FormedState v

    -- ---- the forms gone through

    -- what holds of a state after s0
    abbrev pub After : ScopedState → ScopedState → Type 0
    After s0 v = UnitState w known v × Grows w s0 v × FormedState v × LocalsKept w v

    abbrev pub PassSame : ScopedState → ℕ → ScopedState → ScopedState → Pass Ident FramedIdent → Pass Ident FramedIdent → Type 0
    PassSame s0 form v t x y = (t ≡ v) × (y ≡ x) × After s0 v × AllOf (NoteAll (UnitPlace w known v)) x.notes × SetStands v (form, x.left)

    abbrev pub SetsSame : ScopedState → ScopedState → ScopedState → List (ℕ × Aside Ident) → List (ℕ × Aside Ident) → Type 0
    SetsSame s0 v t x y = (t ≡ v) × (y ≡ x) × After s0 v × AllOf (SetStands v) x

    abbrev pub PassesSame : List (ℕ × Tree Ident) → Type 0
    PassesSame ts = (ns : List (Note FramedIdent)) (s : ScopedState) → UnitState w known s → FormedState s → LocalsKept w s → AllOf (FormHeld w known s) ts → AllOf (NoteAll (UnitPlace w known s)) ns
        → Both EndedSame (SetsSame s) (passes (scoped known) turns [] fs ts ns s) (passes (counted known) turns [] fs ts ns s)

    -- one form of the unit
    pub pass_same : (form : ℕ) (t : Tree Ident) (ns : List (Note FramedIdent)) (s : ScopedState) → UnitState w known s → FormedState s → LocalsKept w s → FormHeld w known s (form, t) → AllOf (NoteAll (UnitPlace w known s)) ns
        → Both EndedSame (PassSame s form) (unless_over (scoped known) fs (run (scoped known) turns [] (one_form t ns) (turned w known form s))) (unless_over (counted known) fs (run (counted known) turns [] (one_form t ns) (turned w known form s)))
    pass_same form t ns s k fd l h hn =
        let s1 = turned w known form s in
        let r = run (scoped known) turns [] (one_form t ns) s1 in
        let k1 : UnitState w known s1 = record { fine = k.fine; entries = k.entries } in
        let together = forms_law w known [] (UnitInside w known s1) (Grows w) (UnitLeaf w known) (UnitPlace w known) (UnitRule w known) (Noted w known s1) (unit_facts w known s1) turns (one_form t ns) s1 false [] (k1, refl, grows_itself w s1) ((h, tt), tt, hn, tt) in
        let done = passed w known s1 _ _ together in
        let one = run_same w known every s1 (form_begins w s1 k.fine.0 fd l k.fine.1.stands k.entries) turns t h ns hn in
        both_at refl (ap (unless_over (counted known) fs) one.same)
        (both_over (scoped known) (counted known) fs r r refl (refl, one.holds.formed) (refl, refl, (done.unit_state, done.grows, one.holds.formed, locals_later w s1 s1.form r.1 one.holds), done.stood, (pass_rooted s1 _ _ together, one.told)))

    abbrev then_scoped : ℕ → List (ℕ × Tree Ident) → Pass Ident FramedIdent → Work ScopedState (List (ℕ × Aside Ident))
    then_scoped form ts q t = passes (scoped known) turns [] fs ts q.notes t then λ rest. going ((form, q.left) ∷ rest)

    abbrev then_counted : ℕ → List (ℕ × Tree Ident) → Pass Ident FramedIdent → Work ScopedState (List (ℕ × Aside Ident))
    then_counted form ts q t = passes (counted known) turns [] fs ts q.notes t then λ rest. going ((form, q.left) ∷ rest)

    pub passes_same : (ts : List (ℕ × Tree Ident)) → PassesSame ts
    passes_same [] ns s k fd l h hn = both_go [] [] s s refl refl (refl, refl, (k, grows_itself w s, fd, l), tt)
    passes_same (t ∷ ts) ns s k fd l h hn =
        both_then (then_scoped t.0 ts) (then_counted t.0 ts) (pass_same t.0 t.1 ns s k fd l h.0 hn) (λ x y v u z.
        let a = z.1 in let b = z.0 in
        both_at refl (λ j. then_counted t.0 ts (a j) (b j))
        (both_then _ _ (passes_same ts x.notes v z.2.0 z.2.2 z.2.3 (forms_later w known turns fs s v z.2.1 ts h.1) z.3) (λ xs ys v1 u1 z1.
        both_go ((t.0, x.left) ∷ xs) ((t.0, x.left) ∷ ys) v1 u1 refl refl
        (z1.0, ap (λ (q : List (ℕ × Aside Ident)). (t.0, x.left) ∷ q) z1.1, (z1.2.0, grows_then w s v v1 z.2.1 z1.2.1, z1.2.2, z1.2.3), ((aside_later v v1 z1.2.1 x.left z.4.0, z.4.1), z1.3)))))

    -- ---- what was set aside, expanded

    -- what holds once a form's items were expanded
    abbrev pub KeptSame : {X : Type 0} → ScopedState → ScopedState → ScopedState → X → X → Type 0
    KeptSame s v t x y = (t ≡ v) × (y ≡ x) × Holds w s s.form v × FineState w v × Grows w s v

    pub aside_same : (s : ScopedState) → FineState w s → Holds w s s.form s → (r : Aside Ident) → SetStands s (s.form, r)
        → Both EndedSame (KeptSame s) (form_parts (scoped known) (expand (scoped known) turns) [] fs r s) (form_parts (counted known) (expand (counted known) turns) [] fs r s)
    aside_same s f h (Err e) k = both_go (Err e) (Err e) s s refl refl (refl, refl, h, f, grows_itself w s)
    aside_same s f h (Ok l) k =
        both_more
        (both_know (λ v. Unit {0}) (λ v x. FineState w v × Grows w s v)
        (on_work (λ v. Unit {0}) (λ v x. FineState w v × Grows w s v) (λ v t z. tt) (λ v t x y z. (z.0.0.2, z.0.1)) (aside_law w known turns fs (Ok l) s f false [] (aside_made s (Ok l) k.0)))
        (left_same w known every s h turns fs l k.0 k.1))
      where
        both_more : {X : Type 0} {q m : Option X × ScopedState} → Both (λ v t. Unit {0} × ((t ≡ v) × Holds w s s.form v)) (λ v t x y. (FineState w v × Grows w s v) × ((t ≡ v) × (y ≡ x) × Holds w s s.form v)) q m → Both EndedSame (KeptSame s) q m
        both_more (both_end v t e d z) = both_end v t e d (z.1.0, z.1.1.formed)
        both_more (both_go x y v t e d z) = both_go x y v t e d (z.1.0, z.1.1, z.1.2, z.0.0, z.0.1)

    abbrev pub FormedSame : {X : Type 0} → ScopedState → ScopedState → X → X → Type 0
    FormedSame v t x y = (t ≡ v) × (y ≡ x) × FormedState v

    finished_same : (rs : List (ℕ × Aside Ident)) (s : ScopedState) → FineState w s → FormedState s → LocalsKept w s → ((u : ℕ) (x : List ℕ) → GivenNoLocal (s.entry u x)) → AllOf (SetStands s) rs
        → Both EndedSame FormedSame (finished (scoped known) (expand (scoped known) turns) [] fs rs s) (finished (counted known) (expand (counted known) turns) [] fs rs s)
    finished_same [] s f fd l en h = both_go [] [] s s refl refl (refl, refl, fd)
    finished_same (r ∷ rs) s f fd l en h =
        let s1 = turned w known r.0 s in
        both_then _ _ (aside_same s1 f (form_begins w s1 f.0 fd l f.1.stands en) r.1 h.0) (λ x y v t z.
        let a = z.1 in let b = z.0 in
        both_at refl (λ j. finished (counted known) (expand (counted known) turns) [] fs rs (b j) then λ rest. going (record { form = r.0; result = a j; counted = (counted known).counted (b j) } ∷ rest))
        (both_then _ _ (finished_same rs v z.3 z.2.formed (locals_later w s1 s1.form v z.2) z.2.entries (sets_later s v z.4 rs h.1)) (λ xs ys v1 t1 z1.
        both_go (record { form = r.0; result = x; counted = (scoped known).counted v } ∷ xs) (record { form = r.0; result = x; counted = (scoped known).counted v } ∷ ys) v1 t1 refl refl
        (z1.0, ap (λ (q : List FormResult). record { form = r.0; result = x; counted = (scoped known).counted v } ∷ q) z1.1, z1.2))))

  -- ---- the whole unit

  pub record UnitSame (turns : ℕ) (ts : List (ℕ × Tree Ident)) (s : ScopedState) : Type 0 where
    pub same : unit (counted known) turns [] ts s ≡ unit (scoped known) turns [] ts s
    pub formed : FormedState (unit (scoped known) turns [] ts s).1

  pub unit_same : (turns : ℕ) (ts : List (ℕ × Tree Ident)) (s : ScopedState) → UnitState w known s → FormedState s → LocalsKept w s → AllOf (FormHeld w known s) ts → UnitSame turns ts s
  unit_same turns ts s k fd l h =
      let fs = map (λ (t : ℕ × Tree Ident). t.0) ts in
      go (both_then (finished (scoped known) (expand (scoped known) turns) [] fs) (finished (counted known) (expand (counted known) turns) [] fs) (passes_same turns fs ts [] s k fd l h tt) (λ x y v t z.
      let a = z.1 in let b = z.0 in
      both_at refl (λ j. finished (counted known) (expand (counted known) turns) [] fs (a j) (b j)) (finished_same turns fs x v z.2.0.fine z.2.2 z.2.3 z.2.0.entries z.3)))
    where
      go : Both (λ (v t : ScopedState). (t ≡ v) × FormedState v) (λ (v t : ScopedState) (x y : List FormResult). (t ≡ v) × (y ≡ x) × FormedState v) (unit (scoped known) turns [] ts s) (unit (counted known) turns [] ts s) → UnitSame turns ts s
      go (both_end v t e d z) = let b = z.0 in record { same = d ∙ (λ j. (None, b j)) ∙ sym e; formed = subst (λ (q : Option (List FormResult) × ScopedState). FormedState q.1) (sym e) z.1 }
      go (both_go x y v t e d z) = let a = z.1 in let b = z.0 in record { same = d ∙ (λ j. (Some (a j), b j)) ∙ sym e; formed = subst (λ (q : Option (List FormResult) × ScopedState). FormedState q.1) (sym e) z.2 }
