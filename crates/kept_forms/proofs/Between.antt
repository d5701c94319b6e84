-- What holds of a unit at work between two of its forms, so that the next one may begin.
use Rattle.std.proofs.Common.{◌≡◌, ℕ, List, [], ◌∷◌, false, cond, Option, Some, None, Result, Ok, Err, refl, sym, ap, ◌∙◌, subst}
use Rattle.scheme_model.specs.Identifiers.{Number}
use Rattle.scheme_model.specs.Ident.{Ident, Written, Inserted}
use Rattle.scheme_model.specs.Trees.{Tree}
use Rattle.scheme_model.specs.Requirements.{Known}
use Rattle.scheme_model.specs.Steps.{Broken}
use Rattle.scheme_model.specs.Order.{Item, Note, LookedUp, Compared, WaitingUse, Left, Pass, run}
use Rattle.scheme_model.specs.Expression.{expand}
use Rattle.scheme_model.specs.UnitExpansion.{unless_over, one_form, form_parts}
use Rattle.scheme_model.specs.Substitution.{Clock}
use Rattle.scheme_model.specs.FrameImages.{is_before}
use Rattle.scheme_model.specs.ScopedExpansion.{UsePlace, FramedIdent, ScopedState, around}
use Rattle.scheme_model.specs.CountedExpansion.{counted}
use Rattle.scheme_model.proofs.Clocks.{apart}
use Rattle.model_laws.proofs.IdentKinds.{tree_kind, item_kind, use_kind}
use Rattle.model_laws.proofs.FrameEras.{Era, Before}
use Rattle.model_laws.proofs.FrameAsks.{AllOf}
use Rattle.model_laws.proofs.EntryLaws.{GivenNoLocal}
use Rattle.model_laws.proofs.FrameStates.{FineState, Grows}
use Rattle.model_laws.proofs.FrameLeaves.{TreeAll, lift_tree, lifted_tree, Held}
use Rattle.model_laws.proofs.FrameHeld.{NoteAll, ItemHeld}
use Rattle.model_laws.proofs.FrameUnit.{UnitLeaf, UnitPlace, UnitState}
use Rattle.model_laws.proofs.UnitEnds.{Both, both_end, both_go, OnWork}
use Rattle.model_laws.proofs.CountedStates.{Formed, LocalsKept, locals_later, form_begins}
use Rattle.model_laws.proofs.CountedUnits.{SetStands, sets_later, pass_same, aside_same}
use Rattle.form_laws.specs.Begins.{Each, ItemWith, UseWith, IsRooted, Begins, NoteStands, FormBegins, RestBegins}
use Rattle.form_laws.proofs.Beginnings.{fine_begins}
use Rattle.kept_forms.specs.KeptForms.{around_form}
use Rattle.kept_forms.proofs.Bares.{with_more}
use Rattle.kept_forms.proofs.OneSide.{MacrosOfUnit}
use Rattle.kept_forms.proofs.Uses.{IsPlaced, pass_placed, parts_placed}

-- ---- work, and what is known of it

-- what is known of the second side
pub on_second : {S T X Y : Type 0} {Ended : S → T → Type 0} {Going : S → T → X → Y → Type 0} {q : Option X × S} {m : Option Y × T} (Q : T → Y → Type 0)
    → ((s : S) (t : T) (x : X) (y : Y) → Going s t x y → Q t y) → Both Ended Going q m → OnWork (λ t. Unit {0}) Q m
on_second Q g (both_end s t e d h) = subst (OnWork (λ t. Unit {0}) Q) (sym d) tt
on_second Q g (both_go x y s t e d h) = subst (OnWork (λ t. Unit {0}) Q) (sym d) (g s t x y h)

-- from two that are known
pub on_join : {S X : Type 0} {Q W : S → X → Type 0} (R : S → Type 0) (V : S → X → Type 0) (q : Option X × S) → OnWork (λ s. Unit {0}) Q q → OnWork R W q → ((s : S) (x : X) → Q s x → W s x → V s x) → OnWork (λ s. Unit {0}) V q
on_join R V (None, s) h k g = tt
on_join R V (Some x, s) h k g = g s x h k

module _ (w : Era) (known : Known) where
  -- ---- identifiers

  is_rooted : (s : ScopedState) → s.unit ≡ w.unit → (i : Ident) → UnitLeaf w known s i → IsRooted s i
  is_rooted s e (Written u x) h = tt
  is_rooted s e (Inserted i k) h = ((ap (λ u. is_before u s.uses k) e ∙ h.0.0.0, h.1.0), is_rooted s e i (h.0.1, h.1.1))

  none_to_come : (u : Clock) (ps : List UsePlace) → AllOf (λ (p : UsePlace). Before w u p.use_number) ps → (k : Number) → is_before w.unit u k ≡ false → around ps k ≡ []
  none_to_come u [] h k e = refl
  none_to_come u (p ∷ ps) h k e = ap (λ t. cond t p.frames (around ps k)) (apart w.unit u p.use_number k h.0.0 e) ∙ none_to_come u ps h.1 k e

  state_begins : (s : ScopedState) → FineState w s → ((u : ℕ) (x : List ℕ) → GivenNoLocal (s.entry u x)) → IsPlaced w known s → Begins s
  state_begins s f entries h = fine_begins w s f entries (λ k e. none_to_come s.uses s.places h.1 k (ap (λ u. is_before u s.uses k) (sym h.0) ∙ e))

  -- ---- while forms are gone through

  pub record Between (s : ScopedState) (ns : List (Note FramedIdent)) : Type 0 where
    pub unit_state : UnitState w known s
    pub formed : Formed s.places s.definitions
    pub locals : LocalsKept w s
    pub placed : IsPlaced w known s
    pub stood : AllOf (NoteAll (UnitPlace w known s)) ns

  note_stands : (s : ScopedState) → s.unit ≡ w.unit → (n : Note FramedIdent) → NoteAll (UnitPlace w known s) n → NoteStands s n
  note_stands s e (LookedUp l head keyword) h = (h.0, is_rooted s e l.ident h.1)
  note_stands s e (Compared l j held) h = ((h.0.0, is_rooted s e l.ident h.0.1), (h.1.0, is_rooted s e j.ident h.1.1))

  notes_stand : (s : ScopedState) → s.unit ≡ w.unit → (ns : List (Note FramedIdent)) → AllOf (NoteAll (UnitPlace w known s)) ns → Each (NoteStands s) ns
  notes_stand s e [] h = tt
  notes_stand s e (n ∷ ns) h = (note_stands s e n h.0, notes_stand s e ns h.1)

  pub form_may_begin : (form : ℕ) (s : ScopedState) (ns : List (Note FramedIdent)) → Between s ns → (t : Tree Ident) → TreeAll (UnitLeaf w known s) t → FormBegins (around_form known form ns s) t
  form_may_begin form s ns h t l =
      let s1 : ScopedState = (around_form known form ns s).state in
      record {
        state = state_begins s1 h.unit_state.fine h.unit_state.entries h.placed;
        stands = with_more tree_kind (UnitLeaf w known s) (IsRooted s1) (is_rooted s1 h.placed.0) t (lift_tree (UnitLeaf w known s) t l, lifted_tree (UnitLeaf w known s) t l);
        notes = notes_stand s1 h.placed.0 ns h.stood;
      }

  -- ---- while what they set aside is expanded

  pub record BetweenRests (s : ScopedState) : Type 0 where
    pub fine : FineState w s
    pub entries : (u : ℕ) (x : List ℕ) → GivenNoLocal (s.entry u x)
    pub formed : Formed s.places s.definitions
    pub locals : LocalsKept w s
    pub placed : IsPlaced w known s

  pub between_rests : (s : ScopedState) (ns : List (Note FramedIdent)) → Between s ns → BetweenRests s
  between_rests s ns h = record { fine = h.unit_state.fine; entries = h.unit_state.entries; formed = h.formed; locals = h.locals; placed = h.placed }

  -- what was left of a form stands in the unit
  abbrev pub Stays : ScopedState → ℕ → Result (Left Ident) Broken → Type 0
  Stays s form r = SetStands w known s (form, r) × MacrosOfUnit r

  pub stays_later : (s t : ScopedState) → Grows w s t → (form : ℕ) (r : Result (Left Ident) Broken) → Stays s form r → Stays t form r
  stays_later s t g form r h = ((sets_later w known s t g ((form, r) ∷ []) (h.0, tt)).0, h.1)

  uses_with : (s : ScopedState) → s.unit ≡ w.unit → (us : List (WaitingUse Ident)) → AllOf (Held use_kind (UnitLeaf w known s)) us → Each (UseWith (IsRooted s)) us
  uses_with s e [] h = tt
  uses_with s e (u ∷ us) h = (with_more use_kind (UnitLeaf w known s) (IsRooted s) (is_rooted s e) u (h.0.made, h.0.same), uses_with s e us h.1)

  items_with : (s : ScopedState) → s.unit ≡ w.unit → (is : List (Item Ident)) → AllOf (ItemHeld (UnitLeaf w known s)) is → Each (ItemWith (IsRooted s)) is
  items_with s e [] h = tt
  items_with s e (i ∷ is) h = (with_more item_kind (UnitLeaf w known s) (IsRooted s) (is_rooted s e) i (h.0.0.made, h.0.0.same), items_with s e is h.1)

  pub rest_may_begin : (form : ℕ) (s : ScopedState) → BetweenRests s → (r : Result (Left Ident) Broken) → Stays s form r → RestBegins (around_form known form [] s) r
  rest_may_begin form s h (Err e) k = tt
  rest_may_begin form s h (Ok l) k =
      let s1 : ScopedState = (around_form known form [] s).state in
      record { state = state_begins s1 h.fine h.entries h.placed; uses = uses_with s1 h.placed.0 l.uses k.0.0.0; items = items_with s1 h.placed.0 l.items k.0.0.1; macros = k.1 }

  -- ---- after a form

  module _ (turns : ℕ) (fs : List ℕ) where
    abbrev pub AfterPass : ScopedState → ℕ → ScopedState → Pass Ident FramedIdent → Type 0
    AfterPass s form t q = Between t q.notes × Grows w s t × Stays t form q.left

    abbrev Known_after : ScopedState → ℕ → ScopedState × Pass Ident FramedIdent → Type 0
    Known_after s form r = (IsPlaced w known r.0 → Between r.0 r.1.notes) × Grows w s r.0 × SetStands w known r.0 (form, r.1.left)

    pub after_pass : (form : ℕ) (s : ScopedState) (ns : List (Note FramedIdent)) → Between s ns → (t : Tree Ident) → TreeAll (UnitLeaf w known s) t
        → let v = around_form known form ns s in OnWork (λ u. Unit {0}) (λ u q. AfterPass s form u q) (unless_over (counted known) fs (run (counted known) turns [] (one_form t ns) v.state))
    after_pass form s ns h t l =
        let s1 : ScopedState = (around_form known form ns s).state in
        on_join (IsPlaced w known) (λ u q. AfterPass s form u q) (unless_over (counted known) fs (run (counted known) turns [] (one_form t ns) s1))
        (on_second (λ u x. Known_after s form (u, x)) (λ v u x y z.
        let a = z.0 in let b = z.1 in
        subst (Known_after s form) (λ j. (sym a j, sym b j)) ((λ ms. record { unit_state = z.2.0; formed = z.2.2; locals = z.2.3; placed = ms; stood = z.3 }), z.2.1, z.4))
        (pass_same w known turns fs form t ns s h.unit_state h.formed h.locals l h.stood))
        (pass_placed w known turns fs t ns s1 h.placed)
        (λ u x z y. (z.0 y.0, z.1, (z.2, y.1)))

    abbrev Known_then : ScopedState → ScopedState → Type 0
    Known_then s u = (IsPlaced w known u → BetweenRests u) × Grows w s u

    pub after_rest : (form : ℕ) (s : ScopedState) → BetweenRests s → (r : Result (Left Ident) Broken) → Stays s form r
        → let v = around_form known form [] s in OnWork (λ u. Unit {0}) (λ u x. BetweenRests u × Grows w s u) (form_parts (counted known) (expand (counted known) turns) [] fs r v.state)
    after_rest form s h r k =
        let s1 : ScopedState = (around_form known form [] s).state in
        on_join (IsPlaced w known) (λ u x. BetweenRests u × Grows w s u) (form_parts (counted known) (expand (counted known) turns) [] fs r s1)
        (on_second (λ u x. Known_then s u) (λ v u x y z.
        subst (Known_then s) (sym z.0) ((λ ms. record { fine = z.3; entries = z.2.entries; formed = z.2.formed; locals = locals_later w s1 s1.form v z.2; placed = ms }), z.4))
        (aside_same w known turns fs s1 h.fine (form_begins w s1 h.fine.0 h.formed h.locals h.fine.1.stands h.entries) r k.0))
        (parts_placed w known turns fs r s1 h.placed)
        (λ u x z y. (z.0 y, z.1))
