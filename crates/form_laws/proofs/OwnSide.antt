-- A form expanded by its own answers, and by what is asked at the root, comes to what it comes to by counts.
use Rattle.std.proofs.Common.{◌≡◌, ℕ, List, [], ◌∷◌, map, Bool, true, false, Option, Some, None, Result, Ok, refl, sym, ap, ◌∙◌, subst}
use Rattle.std.specs.Prelude.{◌&&◌, ◌||◌}
use Rattle.scheme_model.specs.Identifiers.{Number, same_number}
use Rattle.scheme_model.specs.Ident.{Ident}
use Rattle.scheme_model.specs.Trees.{Tree}
use Rattle.scheme_model.specs.ExpansionFaults.{named_map, Named, Fault}
use Rattle.scheme_model.specs.Meaning.{Meaning, Local, Global, Standard, Free, same_meaning}
use Rattle.scheme_model.specs.Requirements.{Known}
use Rattle.scheme_model.specs.RulesShape.{Rules, rules_map, option_map}
use Rattle.scheme_model.specs.Cores.{Bound, LocalNumber, Definition}
use Rattle.scheme_model.specs.Order.{Item, Expression, Value, Function, Assigned, AssignedFunction, ValuesOf, Record, Macro, Note, LookedUp, Compared, WaitingUse, Left, Pending, Renamed, is_some, meet_all, run}
use Rattle.scheme_model.specs.Expression.{expand, item_part, parts}
use Rattle.scheme_model.specs.UnitExpansion.{max_depth, one_form}
use Rattle.scheme_model.specs.FormsAlike.{finish_by}
use Rattle.scheme_model.specs.Substitution.{item_map, use_map, note_map, any, differ}
use Rattle.scheme_model.specs.Scopes.{local_or}
use Rattle.scheme_model.specs.ScopedExpansion.{Frames, Bind, Enter, FramedIdent, ScopedState, means_at, macro_at, body_around, definition_added, meaning_next, is_defined, refused_now, find}
use Rattle.scheme_model.specs.CountedExpansion.{means_here, refused_here, counted}
use Rattle.scheme_model.specs.OwnAnswers.{own_local, root_means, own_means, own_macro, unit_refused, body_refused}
use Rattle.model_laws.proofs.IdentKinds.{Kind, tree_kind, rules_kind, item_kind, use_kind}
use Rattle.model_laws.proofs.FrameAsks.{AllOf}
use Rattle.model_laws.proofs.EntryLaws.{NoLocal}
use Rattle.model_laws.proofs.FrameHeads.{IfMacro}
use Rattle.model_laws.proofs.FrameLeaves.{Held}
use Rattle.model_laws.proofs.CountedOps.{Setting, ToldBound, Side, B, D, T, M, ident, at, over, side, goes, define_cases, defined_seen, maybe_held, then_, then_holds}
use Rattle.model_laws.proofs.CountedUses.{meet_all_goes}
use Rattle.model_laws.proofs.CountedForms.{ToldItem, left_seen, Ran, ran}
use Rattle.model_laws.proofs.CountedRuns.{run_goes}
use Rattle.model_laws.proofs.CountedExpressions.{Same, parts_goes, expand_goes}
use Rattle.model_laws.proofs.CountedStates.{told_by}
use Rattle.model_laws.proofs.CountedUnits.{of_form_told}
use Rattle.form_laws.specs.Begins.{Each, With, TreeWith, ItemWith, UseWith, IsRooted, Begins, PlaceStands, NoteStands, BindsInUnit, MacroInUnit}
use Rattle.form_laws.proofs.Answering.{own_since, ended_as, define_own, answering}
use Rattle.form_laws.proofs.AskingSides.{apart_left, apart_right}
use Rattle.form_laws.proofs.OwnStates.{find_some, is_new, new_parts, Stand, rooted_stand, Here, told, since_is, answered_so, root_free, macro_is, added, own_setting, begins}

-- ---- what a body's definition asks is the form's own

pub local_asked : (l : Option Number) (m : Meaning) → NoLocal m → (k : Number) → same_meaning (local_or l m) (Local k) ≡ same_meaning (local_or l (Free [])) (Local k)
local_asked None m h k = apart_right k m h
local_asked (Some v) m h k = refl

pub both_asked : (l j : Option Number) (m n : Meaning) → NoLocal m → NoLocal n → (k : Number) (held : Bool)
    → ((same_meaning (local_or l m) (Local k) || same_meaning (local_or j n) (Local k)) && differ held (same_meaning (local_or l m) (local_or j n)))
    ≡ ((same_meaning (local_or l (Free [])) (Local k) || same_meaning (local_or j (Free [])) (Local k)) && differ held (same_meaning (local_or l (Free [])) (local_or j (Free []))))
both_asked None None m n a b k held = let p = apart_right k m a in let q = apart_right k n b in λ i. (p i || q i) && differ held (same_meaning m n)
both_asked None (Some v) m n a b k held = let p = apart_right k m a in let q = apart_right v m a in λ i. (p i || same_number v k) && differ held (q i)
both_asked (Some v) None m n a b k held = let p = apart_right k n b in let q = apart_left v n b in λ i. (same_number v k || p i) && differ held (q i)
both_asked (Some v) (Some z) m n a b k held = refl

module _ (known : Known) (s0 : ScopedState) (k0 : Begins s0) where
  abbrev c : Setting
  c = own_setting s0 k0 known

  -- ---- definitions

  cases_seen : (n : Named (B c)) (r : Option (Rules (B c))) (e : D c) (p : Pending (B c) (M c)) (s : T c) (t d : Bool)
      → ended_as t d (body_around e.0) (named_map (ident c) n) (option_map (rules_map (ident c)) r) e.0 (left_seen c p) s.0 ≡ defined_seen c (define_cases c n r e p s t d)
  cases_seen n r e p s true d = refl
  cases_seen n r e p s false true = refl
  cases_seen n r e p s false false = refl

  module _ (s : T c) where
    unit_note : (m : Meaning) (new : Bool) (n : Note (M c)) → unit_refused (own_since s0 s.0) s.0 m new (note_map (at c) n) ≡ refused_now s.0 m new (note_map (at c) n)
    unit_note m new (LookedUp l head keyword) = ap (λ x. same_meaning x m && (keyword || (head && new))) (answered_so s0 k0 s.0 s.1 l.0.0 l.0.1 l.1.0 l.1.1)
    unit_note m new (Compared l j held) =
        let a = answered_so s0 k0 s.0 s.1 l.0.0 l.0.1 l.1.0 l.1.1 in let b = answered_so s0 k0 s.0 s.1 j.0.0 j.0.1 j.1.0 j.1.1 in
        λ i. (same_meaning (a i) m || same_meaning (b i) m) && differ held (same_meaning (a i) (b i))

    unit_notes : (m : Meaning) (new : Bool) (ns : List (Note (M c))) → any (unit_refused (own_since s0 s.0) s.0 m new) (map (note_map (at c)) ns) ≡ any (refused_now s.0 m new) (map (note_map (at c)) ns)
    unit_notes m new [] = refl
    unit_notes m new (n ∷ ns) = let a = unit_note m new n in let b = unit_notes m new ns in λ j. a j || b j

    body_note : (k : Number) (new : Bool) (n : Note (M c)) → body_refused (own_since s0 s.0) (Local k) new (note_map (at c) n) ≡ refused_now s.0 (Local k) new (note_map (at c) n)
    body_note k new (LookedUp l head keyword) =
        let a = answered_so s0 k0 s.0 s.1 l.0.0 l.0.1 l.1.0 l.1.1 in
        ap (λ x. x && (keyword || (head && new))) (sym (local_asked (own_local (own_since s0 s.0) l.0.0 l.1.0) (root_means s.0 l.1.0) (root_free s0 k0 s.0 s.1 l.1.0) k) ∙ ap (λ x. same_meaning x (Local k)) a)
    body_note k new (Compared l j held) =
        let a = answered_so s0 k0 s.0 s.1 l.0.0 l.0.1 l.1.0 l.1.1 in let b = answered_so s0 k0 s.0 s.1 j.0.0 j.0.1 j.1.0 j.1.1 in
        sym (both_asked (own_local (own_since s0 s.0) l.0.0 l.1.0) (own_local (own_since s0 s.0) j.0.0 j.1.0) (root_means s.0 l.1.0) (root_means s.0 j.1.0) (root_free s0 k0 s.0 s.1 l.1.0) (root_free s0 k0 s.0 s.1 j.1.0) k held)
        ∙ (λ i. (same_meaning (a i) (Local k) || same_meaning (b i) (Local k)) && differ held (same_meaning (a i) (b i)))

    body_notes : (k : Number) (new : Bool) (ns : List (Note (M c))) → any (body_refused (own_since s0 s.0) (Local k) new) (map (note_map (at c)) ns) ≡ any (refused_now s.0 (Local k) new) (map (note_map (at c)) ns)
    body_notes k new [] = refl
    body_notes k new (n ∷ ns) = let a = body_note k new n in let b = body_notes k new ns in λ j. a j || b j

    here_told : (e : D c) (i : B c) → means_here s.0 e.0 i.0 ≡ means_at s.0 e.0 i.0
    here_told e i = of_form_told s0.unit s0.form s.0.unit s.0.form s.1.unit s.1.form (means_at s.0 e.0 i.0) (go (means_at s.0 e.0 i.0) (c.means s.0 s.1 e.0 e.1 i.0 i.1))
      where
        go : (m : Meaning) → told s0 m ≡ true → told_by s0.unit s0.form m ≡ true
        go (Local v) t = (new_parts s0 s0.locals v t).0
        go (Global u j) t = refl
        go (Standard x) t = refl
        go (Free x) t = refl

    count_note : (m : Meaning) (new : Bool) (n : Note (M c)) → refused_here s.0 m new (note_map (at c) n) ≡ refused_now s.0 m new (note_map (at c) n)
    count_note m new (LookedUp l head keyword) = ap (λ x. same_meaning x m && (keyword || (head && new))) (here_told l.0 l.1)
    count_note m new (Compared l j held) = let a = here_told l.0 l.1 in let b = here_told j.0 j.1 in λ i. (same_meaning (a i) m || same_meaning (b i) m) && differ held (same_meaning (a i) (b i))

    count_notes : (m : Meaning) (new : Bool) (ns : List (Note (M c))) → any (refused_here s.0 m new) (map (note_map (at c)) ns) ≡ any (refused_now s.0 m new) (map (note_map (at c)) ns)
    count_notes m new [] = refl
    count_notes m new (n ∷ ns) = let a = count_note m new n in let b = count_notes m new ns in λ j. a j || b j

  abbrev NewBody : Option Number → Type 0
  NewBody b = IfMacro (λ (z : Number). is_new s0 s0.bodies z ≡ true) b

  body_new : (fs : Frames) → Here s0 fs → NewBody (body_around fs)
  body_new [] e = tt
  body_new (Bind x v ∷ fs) e = body_new fs e.1
  body_new (Enter b u ∷ fs) e = e.0

  abbrev as_ever : (b : Option Number) → Named Ident → Option (Rules Ident) → Frames → Pending Ident FramedIdent → ScopedState → Result (Renamed Ident FramedIdent) (Fault Ident) × ScopedState
  as_ever b n r fs p s = ended_as (any (refused_now (definition_added b n r fs s) (meaning_next s b n.name) (is_some r)) p.notes) (is_defined s b n.name) b n r fs p s

  own_defines : (b : Option Number) → NewBody b → (n : Named Ident) (r : Option (Rules Ident)) → IfMacro (Held rules_kind (Stand s0)) r → (e : D c) (p : Pending (B c) (M c)) (s : T c)
      → define_own s0 b n r e.0 (left_seen c p) s.0 ≡ as_ever b n r e.0 (left_seen c p) s.0
  own_defines None a n r q e p s =
      let t : T c = (definition_added None n r e.0 s.0, added s0 k0 s.0 s.1 n e.0 e.1 None r q) in
      ap (λ z. ended_as z (is_defined s.0 None n.name) None n r e.0 (left_seen c p) s.0) (unit_notes t (meaning_next s.0 None n.name) (is_some r) p.notes)
  own_defines (Some b) a n r q e p s =
      let t : T c = (definition_added (Some b) n r e.0 s.0, added s0 k0 s.0 s.1 n e.0 e.1 (Some b) r q) in
      let x = body_notes t (record { unit = s.0.unit; form = s.0.form; count = s.0.locals s.0.form }) (is_some r) p.notes in
      let f : is_some (find (own_since s0 s.0).definitions b n.name) ≡ is_some (find s.0.definitions b n.name) =
      ap (λ o. is_some (find o.definitions b n.name)) (since_is s0 k0 s.0 s.1)
      ∙ sym (ap (λ ds. is_some (find ds b n.name)) s.1.definitions ∙ find_some s.1.own.definitions s0.definitions b n.name (k0.bodies b (new_parts s0 s0.bodies b a).1 n.name)) in
      λ j. ended_as (x j) (f j) (Some b) n r e.0 (left_seen c p) s.0

  -- ---- both sides

  abbrev by_own : Side c
  by_own = record {
    means = λ fs s i. own_means (own_since s0 s) s fs i;
    transformer = λ s m. own_macro (own_since s0 s) s m;
    define = (answering s0 known).define;
    same_means = λ e s i. answered_so s0 k0 s.0 s.1 e.0 e.1 i.0 i.1;
    same_transformer = λ s m t. macro_is s0 k0 s.0 s.1 m t;
    same_define = λ n r e p s.
        own_defines (body_around e.0) (body_new e.0 e.1) (named_map (ident c) n) (option_map (rules_map (ident c)) r) (maybe_held c r) e p s
        ∙ cases_seen n r e p s (any (refused_now (then_ c n r e s) (meaning_next s.0 (body_around e.0) n.name.0) (is_some (option_map (rules_map (ident c)) r))) (map (note_map (at c)) p.notes)) (is_defined s.0 (body_around e.0) n.name.0);
  }

  abbrev by_count : Side c
  by_count = record {
    means = λ fs s i. means_here s fs i;
    transformer = λ s m. macro_at s.macros m;
    define = (counted known).define;
    same_means = λ e s i. here_told s e i;
    same_transformer = λ s m t. refl;
    same_define = λ n r e p s.
        ap (λ t. ended_as t (is_defined s.0 (body_around e.0) n.name.0) (body_around e.0) (named_map (ident c) n) (option_map (rules_map (ident c)) r) e.0 (left_seen c p) s.0)
        (count_notes (then_ c n r e s, then_holds c n r e s) (meaning_next s.0 (body_around e.0) n.name.0) (is_some (option_map (rules_map (ident c)) r)) p.notes)
        ∙ cases_seen n r e p s (any (refused_now (then_ c n r e s) (meaning_next s.0 (body_around e.0) n.name.0) (is_some (option_map (rules_map (ident c)) r))) (map (note_map (at c)) p.notes)) (is_defined s.0 (body_around e.0) n.name.0);
  }

  -- ---- the form gone through

  abbrev start : T c
  start = (s0, begins s0 k0)

  abbrev outermost : D c
  outermost = ([], tt)

  run_over : (turns : ℕ) (p : Pending (B c) (M c)) → AllOf (ToldItem c.told) p.aside → run (counted known) turns [] (left_seen c p) s0 ≡ run (answering s0 known) turns [] (left_seen c p) s0
  run_over turns p h = go (run_goes c by_count turns outermost p start h) (run_goes c by_own turns outermost p start h)
    where
      go : Ran c (run (over c) turns outermost p start) (run (side c by_count) turns [] (left_seen c p) s0) → Ran c (run (over c) turns outermost p start) (run (side c by_own) turns [] (left_seen c p) s0)
          → run (counted known) turns [] (left_seen c p) s0 ≡ run (answering s0 known) turns [] (left_seen c p) s0
      go (ran e a) (ran d b) = e ∙ sym d

  -- structures over rooted identifiers are over those that can stand in the form
  lift : (k : Kind) (x : k.of (With (IsRooted s0))) → k.of (B c)
  lift k x = k.map (With (IsRooted s0)) (B c) (λ p. (p.0, rooted_stand s0 p.0 p.1)) x

  lifted : (k : Kind) (x : k.of (With (IsRooted s0))) → k.map (B c) Ident (ident c) (lift k x) ≡ k.map (With (IsRooted s0)) Ident (λ p. p.0) x
  unfolding lift
  lifted k x = k.fused (With (IsRooted s0)) (B c) Ident (ident c) (λ p. (p.0, rooted_stand s0 p.0 p.1)) x

  abbrev lift_place : (l : FramedIdent) → PlaceStands s0 l → M c
  lift_place l h = ((l.frames, subst (Here s0) (sym h.0) tt), (l.ident, rooted_stand s0 l.ident h.1))

  abbrev lift_note : (n : Note FramedIdent) → NoteStands s0 n → Note (M c)
  lift_note (LookedUp l head keyword) h = LookedUp (lift_place l h) head keyword
  lift_note (Compared l j held) h = Compared (lift_place l h.0) (lift_place j h.1) held

  lifted_note : (n : Note FramedIdent) (h : NoteStands s0 n) → note_map (at c) (lift_note n h) ≡ n
  lifted_note (LookedUp l head keyword) h = refl
  lifted_note (Compared l j held) h = refl

  abbrev lift_notes : (ns : List (Note FramedIdent)) → Each (NoteStands s0) ns → List (Note (M c))
  lift_notes [] h = []
  lift_notes (n ∷ ns) h = lift_note n h.0 ∷ lift_notes ns h.1

  lifted_notes : (ns : List (Note FramedIdent)) (h : Each (NoteStands s0) ns) → map (note_map (at c)) (lift_notes ns h) ≡ ns
  lifted_notes [] h = refl
  lifted_notes (n ∷ ns) h = let a = lifted_note n h.0 in let b = lifted_notes ns h.1 in λ j. a j ∷ b j

  pub run_own : (turns : ℕ) (t : Tree Ident) → TreeWith (IsRooted s0) t → (ns : List (Note FramedIdent)) → Each (NoteStands s0) ns → run (counted known) turns [] (one_form t ns) s0 ≡ run (answering s0 known) turns [] (one_form t ns) s0
  run_own turns t l ns h =
      let a = lifted tree_kind l.0 ∙ l.1 in let b = lifted_notes ns h in
      subst (λ (p : Pending Ident FramedIdent). run (counted known) turns [] p s0 ≡ run (answering s0 known) turns [] p s0) (λ j. one_form (a j) (b j)) (run_over turns (one_form (lift tree_kind l.0) (lift_notes ns h)) tt)

  -- ---- what it set aside, expanded

  parts_over : (turns : ℕ) (is : List (Item (B c))) → AllOf (ToldItem c.told) is → (s : T c)
      → parts (item_part (expand (counted known) turns) (counted known) max_depth []) (map (item_map (ident c)) is) s.0 ≡ parts (item_part (expand (answering s0 known) turns) (answering s0 known) max_depth []) (map (item_map (ident c)) is) s.0
  parts_over turns is h s =
      let x = expand_goes c by_count turns in let y = expand_goes c by_own turns in
      go (parts_goes c by_count (expand (over c) turns) (expand (side c by_count) turns) x.0 x.1 max_depth outermost is h s) (parts_goes c by_own (expand (over c) turns) (expand (side c by_own) turns) y.0 y.1 max_depth outermost is h s)
    where
      go : Same c by_count (parts (item_part (expand (over c) turns) (over c) max_depth outermost) is s) (parts (item_part (expand (side c by_count) turns) (side c by_count) max_depth []) (map (item_map (ident c)) is) s.0)
          → Same c by_own (parts (item_part (expand (over c) turns) (over c) max_depth outermost) is s) (parts (item_part (expand (side c by_own) turns) (side c by_own) max_depth []) (map (item_map (ident c)) is) s.0)
          → parts (item_part (expand (counted known) turns) (counted known) max_depth []) (map (item_map (ident c)) is) s.0 ≡ parts (item_part (expand (answering s0 known) turns) (answering s0 known) max_depth []) (map (item_map (ident c)) is) s.0
      go (goes e) (goes d) = e ∙ sym d

  left_over : (turns : ℕ) (us : List (WaitingUse (B c))) (is : List (Item (B c))) → AllOf (ToldItem c.told) is → let l : Left Ident = record { uses = map (use_map (ident c)) us; items = map (item_map (ident c)) is } in
      finish_by (counted known) turns [] (Ok l) s0 ≡ finish_by (answering s0 known) turns [] (Ok l) s0
  left_over turns us is h =
      let u = meet_all (over c) outermost us start in
      ap (parts (item_part (expand (counted known) turns) (counted known) max_depth []) (map (item_map (ident c)) is)) (meet_all_goes c by_count outermost us start)
      ∙ (parts_over turns is h u
      ∙ sym (ap (parts (item_part (expand (answering s0 known) turns) (answering s0 known) max_depth []) (map (item_map (ident c)) is)) (meet_all_goes c by_own outermost us start)))

  record LiftedUses (us : List (WaitingUse Ident)) : Type 0 where
    over_them : List (WaitingUse (B c))
    same : map (use_map (ident c)) over_them ≡ us

  lift_uses : (us : List (WaitingUse Ident)) → Each (UseWith (IsRooted s0)) us → LiftedUses us
  lift_uses [] h = record { over_them = []; same = refl }
  lift_uses (u ∷ us) h = let a = lifted use_kind h.0.0 ∙ h.0.1 in let rest = lift_uses us h.1 in let b = rest.same in record { over_them = lift use_kind h.0.0 ∷ rest.over_them; same = λ j. a j ∷ b j }

  record LiftedItems (is : List (Item Ident)) : Type 0 where
    over_them : List (Item (B c))
    same : map (item_map (ident c)) over_them ≡ is
    told : AllOf (ToldItem c.told) over_them

  bound_told : (b : Bound) → BindsInUnit b → ToldBound c.told b
  bound_told (LocalNumber v) h = absurd h
  bound_told (Definition u n) h = tt

  item_told : (i : Item (B c)) → MacroInUnit (item_map (ident c) i) → ToldItem c.told i
  item_told (Expression x) h = tt
  item_told (Value z x) h = tt
  item_told (Function z here k) h = tt
  item_told (Assigned n x) h = tt
  item_told (AssignedFunction n here k) h = tt
  item_told (ValuesOf bs x) h = tt
  item_told (Record r) h = tt
  item_told (Macro z here) h = bound_told z.bound h

  lift_items : (is : List (Item Ident)) → Each (ItemWith (IsRooted s0)) is → Each MacroInUnit is → LiftedItems is
  lift_items [] h k = record { over_them = []; same = refl; told = tt }
  lift_items (i ∷ is) h k =
      let a = lifted item_kind h.0.0 ∙ h.0.1 in let rest = lift_items is h.1 k.1 in let b = rest.same in
      record { over_them = lift item_kind h.0.0 ∷ rest.over_them; same = λ j. a j ∷ b j; told = (item_told (lift item_kind h.0.0) (subst MacroInUnit (sym a) k.0), rest.told) }

  pub finish_own : (turns : ℕ) (l : Left Ident) → Each (UseWith (IsRooted s0)) l.uses → Each (ItemWith (IsRooted s0)) l.items → Each MacroInUnit l.items
      → finish_by (counted known) turns [] (Ok l) s0 ≡ finish_by (answering s0 known) turns [] (Ok l) s0
  finish_own turns l hu hi hm =
      let u = lift_uses l.uses hu in let i = lift_items l.items hi hm in let a = u.same in let b = i.same in
      subst (λ (m : Left Ident). finish_by (counted known) turns [] (Ok m) s0 ≡ finish_by (answering s0 known) turns [] (Ok m) s0) (λ j. record { uses = a j; items = b j }) (left_over turns u.over_them i.over_them i.told)
