-- What a unit gives as a place whose forms are gone through: nothing local is around them, and a definition goes into the table.
use Rattle.std.proofs.Common.{◌≡◌, ℕ, suc, List, [], ◌∷◌, map, Bool, true, false, not, cond, Option, Some, None, Result, Ok, Err, refl, sym, ap, ◌∙◌, subst}
use Rattle.std.specs.Prelude.{◌&&◌, ◌==◌}
use Rattle.scheme_model.specs.Identifiers.{Number, Name}
use Rattle.scheme_model.specs.Ident.{Ident, Written, Inserted, same_ident, erase}
use Rattle.scheme_model.specs.ExpansionFaults.{Named, named, named_map, Fault, KeywordRedefined, Duplicate}
use Rattle.scheme_model.specs.Meaning.{Meaning, Local, Global, Standard, Free, same_meaning}
use Rattle.scheme_model.specs.Requirements.{Known}
use Rattle.scheme_model.specs.RulesShape.{Rules, rules_map, option_map}
use Rattle.scheme_model.specs.Cores.{LocalNumber, Definition}
use Rattle.scheme_model.specs.Order.{Here, Note, Pending, Renamed, Transformer, is_some, told}
use Rattle.scheme_model.specs.Substitution.{State, Table, Entries, Defined, Clock, at_form, note_map, pending_map, unchanged, any, meaning, refused_in_unit, with_macro, defined_global, define_in_unit, is_plain, is_variable, defined_in, definition_count, model}
use Rattle.scheme_model.specs.Scopes.{own_of, imported_as, defined_or, given_or}
use Rattle.scheme_model.specs.ScopedExpansion.{Frames, BodyDefinitions, UsePlace, FramedIdent, ScopedMacro, ScopedState, around, next_number, means_inside, means_outside, means_at, macro_at, macro_added, definition_added, refused_now, define_at}
use Rattle.scheme_model.specs.FrameImages.{image_outside}
use Rattle.model_laws.proofs.FrameEras.{Era, Below}
use Rattle.scheme_model.proofs.IdentLaws.{ident_told}
use Rattle.model_laws.proofs.IdentKinds.{rules_kind}
use Rattle.scheme_model.proofs.Clocks.{leq_counted}
use Rattle.model_laws.proofs.FrameNames.{erase_frame_image}
use Rattle.model_laws.proofs.FrameAsks.{AllOf}
use Rattle.model_laws.proofs.EntryLaws.{NoLocal, GivenNoLocal}
use Rattle.model_laws.proofs.FrameRoots.{AtRoot, root_plain, Rooted, RootMacro, MacroStands, UnitMacro, rooted_later}
use Rattle.model_laws.proofs.FrameStates.{names, view, seen_macro, FineState, Grows, grows_itself, grows_then, MacroFine, names_mean, names_later, locals_fine, locals_grow}
use Rattle.model_laws.proofs.FrameGrowth.{used_state, use_grows, use_fine, inserted_below, around_new}
use Rattle.model_laws.proofs.FrameLeaves.{Held, held_more, held_made}
use Rattle.model_laws.proofs.FrameAgrees.{Agrees, agree, break, agrees_at}
use Rattle.model_laws.proofs.FrameHeads.{IfMacro, TransformerFine, macro_found}
use Rattle.model_laws.proofs.FrameUses.{placed}
use Rattle.model_laws.proofs.FrameHeld.{NoteAll, PendingHeld, notes_more, notes_same}
use Rattle.model_laws.proofs.FramePlaces.{MacroHere, DefinesSo, PlaceFacts}
use Rattle.model_laws.proofs.FrameBodyDefines.{refused_same, any_same, some_same}

module _ (table : Table) (entry : Entries) (entries : (u : ℕ) (s : List ℕ) → GivenNoLocal (entry u s)) where
  given_no : (o : Option Meaning) (m : Meaning) → GivenNoLocal o → NoLocal m → NoLocal (given_or o m)
  given_no None m h k = k
  given_no (Some x) m h k = h

  own_no : (u : ℕ) (i : Ident) → GivenNoLocal (own_of table entry u i)
  own_no u i = go i (defined_in table u i)
    where
      go : (j : Ident) (d : Option Defined) → GivenNoLocal (defined_or d u j (imported_as entry u j))
      go (Written w s) None = entries u s
      go (Inserted j k) None = tt
      go j (Some d) = tt

  -- so nothing that stands in a unit means a local
  pub means_no : (ps : List UsePlace) (ds : BodyDefinitions) (i : Ident) → AtRoot ps i → NoLocal (means_outside table entry ps ds i)
  means_no ps ds (Written u s) h = given_no (own_of table entry u (Written u s)) (Free s) (own_no u (Written u s)) tt
  means_no ps ds (Inserted i k) h =
      given_no (own_of table entry k.unit (Inserted i k)) (means_inside ds (around ps k) i (means_outside table entry ps ds i)) (own_no k.unit (Inserted i k))
      (subst (λ (fs : Frames). NoLocal (means_inside ds fs i (means_outside table entry ps ds i))) (sym h.0) (means_no ps ds i h.1))

module _ (w : Era) (known : Known) where
  -- what stands in a unit
  abbrev pub UnitLeaf : ScopedState → Ident → Type 0
  UnitLeaf s i = Rooted w s.uses s.places i

  abbrev pub UnitPlace : ScopedState → FramedIdent → Type 0
  UnitPlace s l = (l.frames ≡ []) × UnitLeaf s l.ident

  abbrev pub UnitRule : ScopedState → Transformer Frames Ident → Ident → Type 0
  UnitRule s m i = (m.env ≡ []) × UnitLeaf s i

  -- a state of a unit whose forms are gone through
  pub record UnitState (s : ScopedState) : Type 0 where
    pub fine : FineState w s
    pub entries : (u : ℕ) (x : List ℕ) → GivenNoLocal (s.entry u x)

  -- ---- later states

  pub leaf_later : (s t : ScopedState) → Grows w s t → (i : Ident) → UnitLeaf s i → UnitLeaf t i
  leaf_later s t g i h = rooted_later w s.uses t.uses s.places t.places g.uses g.places i h

  pub place_later : (s t : ScopedState) → Grows w s t → (l : FramedIdent) → UnitPlace s l → UnitPlace t l
  place_later s t g l h = (h.0, leaf_later s t g l.ident h.1)

  pub placed_later : (s t : ScopedState) → FineState w s → Grows w s t → (l : FramedIdent) → UnitPlace s l → placed s l ≡ placed t l
  placed_later s t f g l h = subst (λ (fs : Frames). names s fs l.ident ≡ names t fs l.ident) (sym h.0) (names_later w s t f g [] (tt, tt) l.ident h.1.0)

  -- ---- a macro that is used

  same_stands : (u : Clock) (ps : List UsePlace) (m n : Meaning) → same_meaning m n ≡ true → NoLocal n → (fs : Frames) (rs : Rules Ident) → MacroStands w u ps m fs rs → RootMacro w u ps fs rs
  same_stands u ps (Local v) (Local z) e q fs rs h = absurd q
  same_stands u ps (Local v) (Global z i) e q fs rs h = absurd cc
  same_stands u ps (Local v) (Standard x) e q fs rs h = absurd cc
  same_stands u ps (Local v) (Free x) e q fs rs h = absurd cc
  same_stands u ps (Global z i) n e q fs rs h = h
  same_stands u ps (Standard x) n e q fs rs h = h
  same_stands u ps (Free x) n e q fs rs h = h

  abbrev AsRoot : ScopedState → Transformer Frames Ident → Type 0
  AsRoot s x = RootMacro w s.uses s.places x.env x.rules

  root_among : (s : ScopedState) (ks : List ScopedMacro) → AllOf (UnitMacro w s.uses s.places) ks → (m : Meaning) → NoLocal m → IfMacro (AsRoot s) (macro_at ks m)
  root_among s [] h m q = tt
  root_among s (k ∷ ks) h m q = go (same_meaning k.meaning m) refl (root_among s ks h.1 m q)
    where
      go : (z : Bool) → same_meaning k.meaning m ≡ z → IfMacro (AsRoot s) (macro_at ks m) → IfMacro (AsRoot s) (cond z (Some (record { env = k.frames; rules = k.rules })) (macro_at ks m))
      go true d e = same_stands s.uses s.places k.meaning m d q k.frames k.rules h.0
      go false d e = e

  pub used_unit : (s : ScopedState) → UnitState s → (x : Transformer Frames Ident) → TransformerFine w s x → UnitState (used_state w x.env s)
  used_unit s k x e = record {
    fine = use_fine w s k.fine x.env e.entered e.binders;
    entries = k.entries;
  }

  module _ (s0 : ScopedState) where
    -- since this state, in which the form began
    abbrev pub UnitInside : ScopedState → Bool → List Number → Type 0
    UnitInside s i n = UnitState s × (i ≡ false) × Grows w s0 s

    -- the notes where a fault ends the form
    pub record Noted (t : ScopedState) (ns : List (Note FramedIdent)) (ms : List (Note Name)) : Type 0 where
      pub stood : AllOf (NoteAll (UnitPlace t)) ns
      pub same : ms ≡ map (note_map (placed t)) ns

    macro_here : (s : ScopedState) (i : Bool) (n : List Number) → UnitInside s i n → (q : Option (Transformer Frames Ident)) → IfMacro (AsRoot s) q → IfMacro (TransformerFine w s) q
        → IfMacro (MacroHere w known [] UnitInside (Grows w) UnitLeaf UnitPlace UnitRule Noted s i n) q
    macro_here s i n k None h e = tt
    macro_here s i n k (Some x) h e = record {
      entered = e.entered;
      binders = e.binders;
      rules = held_more rules_kind (UnitLeaf s) (UnitRule s x) (λ y q. (h.outside, q)) x.rules (record { made = h.rooted.over; same = h.rooted.same });
      below = λ y q. q.1.0;
      inserts = λ y q. (inserted_below w s k.0.fine y q.1.0, (around_new w s x.env ∙ q.0, (leaf_later s (used_state w x.env s) (use_grows w s k.0.fine x.env) y q.1).1));
      place = λ y q. q;
      after = (used_unit s k.0 x e, k.1, grows_then w s0 s (used_state w x.env s) k.2 (use_grows w s k.0.fine x.env));
    }

    -- ---- a definition

    module _ (s : ScopedState) (k : UnitState s) (g : Grows w s0 s) (n : List Number) (x : Named Ident) (l : UnitLeaf s x.name) (r : Option (Rules Ident)) (hr : IfMacro (Held rules_kind (UnitLeaf s)) r) where
      abbrev X : Name
      X = names s [] x.name

      abbrev then_ : ScopedState
      then_ = definition_added None x r [] s

      abbrev r' : Option (Rules Name)
      r' = option_map (rules_map (names s [])) r

      er : erase X ≡ x.name
      er = erase_frame_image s.places s.definitions [] x.name

      outside_then : (v : ℕ) (i : Ident) → is_some (defined_in then_.table v i) ≡ true → Below w s.uses i × ((es : BodyDefinitions) → is_plain (image_outside s.places i es) ≡ true)
      outside_then v i = go (s.unit == v) (same_ident x.name i) refl
        where
          go : (p q : Bool) → same_ident x.name i ≡ q → is_some (cond (p && q) (Some (record { unit = s.unit; form = s.form; ident = x.name; keyword = is_some r; occ = x.occ })) (defined_in s.table v i)) ≡ true
              → Below w s.uses i × ((es : BodyDefinitions) → is_plain (image_outside s.places i es) ≡ true)
          go true true e h = subst (λ (y : Ident). Below w s.uses y × ((es : BodyDefinitions) → is_plain (image_outside s.places y es) ≡ true)) (ident_told x.name i e) (l.0, root_plain s.places x.name l.1)
          go true false e h = k.fine.1.outside v i h
          go false q e h = k.fine.1.outside v i h

      fine_macros : (q : Option (Rules Ident)) → IfMacro (Held rules_kind (UnitLeaf s)) q → AllOf (MacroFine w s.locals s.uses s.bodies) (macro_added (Global s.unit x.name) [] q s.macros)
      fine_macros None h = k.fine.1.macros
      fine_macros (Some z) h = (record { entered = tt; rules = held_made rules_kind w s.uses z (held_more rules_kind (UnitLeaf s) (Below w s.uses) (λ i q. q.0) z h); binders = tt; meaning = tt }, k.fine.1.macros)

      unit_macros : (q : Option (Rules Ident)) → IfMacro (Held rules_kind (UnitLeaf s)) q → AllOf (UnitMacro w s.uses s.places) (macro_added (Global s.unit x.name) [] q s.macros)
      unit_macros None h = k.fine.1.stands
      unit_macros (Some z) h = (record { outside = refl; rooted = record { over = h.made; same = h.same } }, k.fine.1.stands)

      fine_then : FineState w then_
      fine_then = (
        k.fine.0,
        record {
          definitions = k.fine.1.definitions;
          bodies = k.fine.1.bodies;
          idents = k.fine.1.idents;
          entered = k.fine.1.entered;
          macros = fine_macros r hr;
          stands = unit_macros r hr;
          outside = outside_then;
          binders = k.fine.1.binders;
          places = k.fine.1.places;
          entries = k.fine.1.entries;
        },
      )

      unit_then : UnitState then_
      unit_then = record { fine = fine_then; entries = k.entries }

      macros_then : (q : Option (Rules Ident)) → with_macro (Global s.unit x.name) (option_map (rules_map (names s [])) q) (map (seen_macro s.places s.definitions) s.macros) ≡ map (seen_macro s.places s.definitions) (macro_added (Global s.unit x.name) [] q s.macros)
      macros_then None = refl
      macros_then (Some z) = refl

      state_then : defined_global (named X x.occ) r' (view false n s) ≡ view false n then_
      state_then =
          let e = er in
          let y = some_same (rules_map (names s [])) r in
          let ms = ap (λ (i : Ident). with_macro (Global s.unit i) r' (map (seen_macro s.places s.definitions) s.macros)) er ∙ macros_then r in
          λ j. record (view false n then_) { table = record { unit = s.unit; form = s.form; ident = e j; keyword = y j; occ = x.occ } ∷ s.table; macros = ms j }

      -- refused by a note
      means_then : (p : FramedIdent) → meaning then_.table then_.entry (placed s p) ≡ means_at then_ p.frames p.ident
      means_then p = names_mean w then_ fine_then p.frames p.ident

      refused : (p : Pending Ident FramedIdent) → PendingHeld (UnitLeaf s) (UnitPlace s) p
          → any (refused_in_unit (defined_global (named X x.occ) r' (view false n s)) (Global s.unit (erase X)) (is_some r')) (map (note_map (placed s)) p.notes) ≡ any (refused_now then_ (Global s.unit x.name) (is_some r)) p.notes
      refused p h =
          (let t = state_then in let e = er in let y = some_same (rules_map (names s [])) r in λ j. any (refused_in_unit (t j) (Global s.unit (e j)) (y j)) (map (note_map (placed s)) p.notes))
          ∙ any_same (NoteAll (UnitPlace s)) (note_map (placed s)) (refused_now then_ (Global s.unit x.name) (is_some r)) (refused_in_unit (view false n then_) (Global s.unit x.name) (is_some r))
          (refused_same (UnitPlace s) (placed s) (is_some r) (λ q. same_meaning (means_at then_ q.frames q.ident) (Global s.unit x.name)) (λ j. same_meaning (meaning then_.table then_.entry j) (Global s.unit x.name)) (λ q. means_at then_ q.frames q.ident) (λ j. meaning then_.table then_.entry j)
          (λ q d. ap (λ m. same_meaning m (Global s.unit x.name)) (means_then q)) (λ q d. means_then q)) p.notes h.2

      abbrev Made : ScopedState → Renamed Ident FramedIdent → Renamed Name Name → Type 0
      Made z q q' = DefinesSo w known [] UnitInside (Grows w) UnitLeaf UnitPlace UnitRule Noted s z q q'

      abbrev Goal : Here → Result (Renamed Ident FramedIdent) (Fault Ident) × ScopedState → Result (Renamed Name Name) (Fault Ident) × State → Type 0
      Goal here q m = Agrees (λ z i n1. UnitInside z i n1 × Grows w s z) Made (told here q) (told here m)

      define_cases : (here : Here) (p : Pending Ident FramedIdent) → PendingHeld (UnitLeaf s) (UnitPlace s) p → (y d : Bool)
          → Goal here (cond y (Err (KeywordRedefined x), s) (cond d (Err (Duplicate x), s) (Ok (unchanged p), then_)))
          (cond y (Err (KeywordRedefined (named (erase X) x.occ)), view false n s) (cond d (Err (Duplicate (named (erase X) x.occ)), view false n s) (Ok (unchanged (pending_map (names s []) (placed s) p)), defined_global (named X x.occ) r' (view false n s))))
      define_cases here p h true d =
          break (record { fault = KeywordRedefined x; here = here }) s false n refl (ap (λ i. (Err (record { fault = KeywordRedefined (named i x.occ); here = here }), view false n s)) er) ((k, refl, g), grows_itself w s)
      define_cases here p h false true =
          break (record { fault = Duplicate x; here = here }) s false n refl (ap (λ i. (Err (record { fault = Duplicate (named i x.occ); here = here }), view false n s)) er) ((k, refl, g), grows_itself w s)
      define_cases here p h false false =
          agree (unchanged p) (unchanged (pending_map (names s []) (placed s) p)) then_ false n refl (ap (λ z. (Ok (unchanged (pending_map (names s []) (placed s) p)), z)) state_then) ((unit_then, refl, g), grows_itself w s)
          (record { held = h; seen = refl; plain = refl; leaf = λ i y. y; reads = λ i y. refl })

      define_law : (here : Here) (p : Pending Ident FramedIdent) → PendingHeld (UnitLeaf s) (UnitPlace s) p
          → Goal here (define_at None x r [] p s) (define_in_unit (named X x.occ) r' (pending_map (names s []) (placed s) p) (view false n s))
      define_law here p h =
          agrees_at refl
          (let y = refused p h in let e = er in
          λ j. told here (cond (y j) (Err (KeywordRedefined (named (erase X) x.occ)), view false n s) (cond (is_some (defined_in s.table s.unit (e j))) (Err (Duplicate (named (erase X) x.occ)), view false n s)
          (Ok (unchanged (pending_map (names s []) (placed s) p)), defined_global (named X x.occ) r' (view false n s)))))
          (define_cases here p h (any (refused_now then_ (Global s.unit x.name) (is_some r)) p.notes) (is_some (defined_in s.table s.unit x.name)))

    -- ---- all that a place has to give

    pub unit_facts : PlaceFacts w known [] UnitInside (Grows w) UnitLeaf UnitPlace UnitRule Noted
    unit_facts = record {
      fine = λ s i n k. k.0.fine;
      stands = λ s i n k. (tt, tt);
      below = λ s i n k x l. l.0;
      here = λ s i n k x l. (refl, l);
      leaf_later = λ s t i n k g x l. leaf_later s t g x l;
      place_later = λ s t i n k g p l. place_later s t g p l;
      placed_later = λ s t i n k g p l. placed_later s t k.0.fine g p l;
      still = λ s i n x y z k. (record { fine = k.0.fine; entries = k.0.entries }, k.1, k.2);
      local = λ s i n k. (
        record { fine = locals_fine w s (at_form s.form suc s.locals) (leq_counted s.form s.locals) k.0.fine; entries = k.0.entries },
        k.1,
        grows_then w s0 s (record s { locals = at_form s.form suc s.locals }) k.2 (locals_grow w s (at_form s.form suc s.locals) (leq_counted s.form s.locals)),
      );
      trail = λ s t g. g;
      trail_then = λ s t v g h. grows_then w s t v g h;
      ended = λ s t i n k g ns h. record { stood = notes_more (UnitPlace s) (UnitPlace t) (place_later s t g) ns h; same = notes_same (UnitPlace s) (placed s) (placed t) (placed_later s t k.0.fine g) ns h };
      assigned = λ s i n k x l. let e = k.1 in let p = root_plain s.places x l.1 s.definitions in let q = erase_frame_image s.places s.definitions [] x in λ j. s.program && (not (e j) && (p j && is_variable (defined_in s.table s.unit (q j))));
      bound = λ s i n k. ap (λ z. cond z (LocalNumber (next_number s s.locals)) (Definition s.unit (definition_count s.table s.unit))) k.1;
      defines = λ s i n k here x l r h p q. agrees_at refl (let e = k.1 in λ j. told here ((model known).define (named_map (names s []) x) (option_map (rules_map (names s [])) r) tt (pending_map (names s []) (placed s) p) (view (e j) n s))) (define_law s k.0 k.2 n x l r h here p q);
      macros = λ s i n k x l. let m = means_at s [] x in macro_here s i n k (macro_at s.macros m) (root_among s s.macros k.0.fine.1.stands m (means_no s.table s.entry k.0.entries s.places s.definitions x l.1)) (macro_found w s k.0.fine m);
    }
