-- What an open body gives as a place whose forms are gone through.
use Rattle.std.proofs.Common.{◌≡◌, ℕ, suc, ◌⊎◌, inl, inr, List, [], ◌∷◌, map, Bool, true, false, not, cond, Option, Some, None, Result, Ok, Err, refl, sym, ap, ◌∙◌, subst}
use Rattle.std.specs.Prelude.{◌&&◌, ◌||◌}
use Rattle.scheme_model.specs.Identifiers.{Number, same_number, Name}
use Rattle.scheme_model.specs.Ident.{Ident, same_ident, erase}
use Rattle.scheme_model.specs.ExpansionFaults.{Named, named, named_map, Fault, KeywordRedefined, Duplicate}
use Rattle.scheme_model.specs.Meaning.{Local, same_meaning}
use Rattle.scheme_model.specs.Requirements.{Known}
use Rattle.scheme_model.specs.RulesShape.{Rules, rules_map, option_map}
use Rattle.scheme_model.specs.Cores.{LocalNumber, Definition}
use Rattle.scheme_model.specs.Order.{Here, Note, Pending, Renamed, Transformer, is_some, told}
use Rattle.scheme_model.specs.Substitution.{State, at_form, note_map, pending_map, renamed, unchanged, any, refused_in_body, is_own, rules_mapped, own_rules, with_macro, meaning, deep, asks, defined_local, define_in_body, is_plain, is_variable, defined_in, definition_count, model}
use Rattle.scheme_model.specs.ScopedExpansion.{Frames, BodyDefinitions, FramedIdent, ScopedMacro, ScopedState, find, next_number, means_at, macro_at, macro_added, definition_added, refused_now, define_at}
use Rattle.scheme_model.proofs.OpenBodies.{Before as Counted, Below as BelowCounted, Entered}
use Rattle.model_laws.proofs.FrameEras.{Before, Below, below_counted, frames_entered}
use Rattle.scheme_model.proofs.IdentLaws.{number_itself, ident_told}
use Rattle.model_laws.proofs.IdentKinds.{rules_kind}
use Rattle.scheme_model.proofs.Clocks.{leq_then, leq_counted}
use Rattle.model_laws.proofs.FrameNames.{erase_frame_image}
use Rattle.model_laws.proofs.FrameDefines.{same_elsewhere}
use Rattle.model_laws.proofs.FrameAsks.{AllOf}
use Rattle.model_laws.proofs.FrameRoots.{UnitMacro}
use Rattle.model_laws.proofs.FrameStates.{era, names, view, seen_macro, Fine, FineState, grows_then, Stands, MacroFine, binders_more, locals_fine, locals_grow, next_old}
use Rattle.model_laws.proofs.FrameGrowth.{inserted_below}
use Rattle.model_laws.proofs.FrameLeaves.{Held, held_more, held_made}
use Rattle.model_laws.proofs.FrameAgrees.{Agrees, agree, break, agrees_at}
use Rattle.model_laws.proofs.FrameHeads.{IfMacro, TransformerFine, macro_found}
use Rattle.model_laws.proofs.FrameUses.{placed}
use Rattle.model_laws.proofs.FrameHeld.{NoteAll, PendingHeld}
use Rattle.model_laws.proofs.FramePlaces.{MacroHere, DefinesSo, PlaceFacts}
use Rattle.model_laws.proofs.FrameOpen.{b, home, mine_of, MacroSits, Opened, Inside, Leaf, PlaceIn, RuleLeaf, other_of, young, places_in, definitions_in, frames_in, entered_body, stands_in, placed_below, leaf_later, place_later, placed_later, sits_among, used_sits, used_opened}
use Rattle.model_laws.proofs.FrameBodyDefines.{refused_same, any_same, some_same, asked_same, now_same, mine_same, leaf_defined, pending_defined, own_later, foreign_later, rules_defined, macros_defined}

module _ (worked : ℕ → Bool) (known : Known) (s0 : ScopedState) (f0 : Fine (era worked s0) s0.locals s0.uses s0.bodies s0.table s0.entry s0.macros s0.places s0.definitions) (c : Frames) (st0 : Stands (era worked s0) s0 c) where
  abbrev body : Number
  body = b worked known s0 f0 c st0

  abbrev frames : Frames
  frames = home worked known s0 f0 c st0

  abbrev mine : BodyDefinitions → List Number
  mine ds = mine_of worked known s0 f0 c st0 ds

  abbrev In : ScopedState → Bool → List Number → Type 0
  In t i n = Inside worked known s0 f0 c st0 t i n

  abbrev Stands_here : ScopedState → Ident → Type 0
  Stands_here t i = Leaf worked known s0 f0 c st0 t i

  abbrev Stood : ScopedState → FramedIdent → Type 0
  Stood t l = PlaceIn worked known s0 f0 c st0 t l

  abbrev Rule_leaf : ScopedState → Transformer Frames Ident → Ident → Type 0
  Rule_leaf t m i = RuleLeaf worked known s0 f0 c st0 t m i

  -- nothing more is asked of states in turn, nor of the notes where a fault ends the body
  abbrev pub Any : ScopedState → ScopedState → Type 0
  Any s t = Unit {0}

  abbrev pub Dropped : ScopedState → List (Note FramedIdent) → List (Note Name) → Type 0
  Dropped t ns ms = Unit {0}

  -- ---- a definition

  module _ (t : ScopedState) (o : Opened worked known s0 f0 c st0 t) (x : Named Ident) (l : Leaf worked known s0 f0 c st0 t x.name) (r : Option (Rules Ident)) (hr : IfMacro (Held rules_kind (Leaf worked known s0 f0 c st0 t)) r) where
    abbrev v : Number
    v = next_number t t.locals

    abbrev X : Name
    X = names t frames x.name

    abbrev then_ : ScopedState
    then_ = definition_added (Some body) x r frames t

    -- refused by a note
    refused : (p : Pending Ident FramedIdent) → PendingHeld (Stands_here t) (Stood t) p
        → any (refused_in_body (view true (mine t.definitions) t) X v (is_some (option_map (rules_map (names t frames)) r))) (map (note_map (placed t)) p.notes) ≡ any (refused_now then_ (Local v) (is_some r)) p.notes
    refused p h =
        ap (λ z. any (refused_in_body (view true (mine t.definitions) t) X v z) (map (note_map (placed t)) p.notes)) (some_same (rules_map (names t frames)) r)
        ∙ any_same (NoteAll (Stood t)) (note_map (placed t)) (refused_now then_ (Local v) (is_some r)) (refused_in_body (view true (mine t.definitions) t) X v (is_some r))
        (refused_same (Stood t) (placed t) (is_some r) (λ l. same_meaning (means_at then_ l.frames l.ident) (Local v)) (asks X) (λ l. means_at then_ l.frames l.ident) (λ j. meaning t.table t.entry (deep X v j)) (asked_same worked known s0 f0 c st0 t o x.name) (now_same worked known s0 f0 c st0 t o x.name)) p.notes h.2

    module _ (free : find t.definitions body x.name ≡ None) where
      mine_then : (v ∷ mine t.definitions) ≡ mine then_.definitions
      mine_then = sym (ap (λ z. cond z (v ∷ mine t.definitions) (mine t.definitions)) (number_itself body))

      new_own : is_own (v ∷ mine t.definitions) (Local v) ≡ true
      new_own = ap (λ y. y || is_own (mine t.definitions) (Local v)) (number_itself v)

      macros_then : (q : Option (Rules Ident)) → IfMacro (Held rules_kind (Leaf worked known s0 f0 c st0 t)) q
          → map (own_rules (v ∷ mine t.definitions) (deep X v)) (with_macro (Local v) (option_map (rules_map (names t frames)) q) (map (seen_macro t.places t.definitions) t.macros)) ≡ map (seen_macro t.places then_.definitions) (macro_added (Local v) frames q t.macros)
      macros_then None h = macros_defined worked known s0 f0 c st0 t o x.name free t.macros o.macros o.fine.1.macros
      macros_then (Some z) h =
          let a = ap (λ y. record { meaning = Local v; rules = rules_mapped y (deep X v) (rules_map (names t frames) z) }) new_own
          ∙ ap (λ y. record { meaning = Local v; rules = y }) (rules_defined worked known s0 f0 c st0 t o x.name free (record { meaning = Local v; frames = frames; rules = z }) (held_more rules_kind (Leaf worked known s0 f0 c st0 t) (λ i. Stood t (record { frames = frames; ident = i })) (λ i q. inl (refl, q)) z h)) in
          let rest = macros_defined worked known s0 f0 c st0 t o x.name free t.macros o.macros o.fine.1.macros in
          λ j. a j ∷ rest j

      -- what holds of the state once x is defined
      counted : FineState (era worked s0) (record t { locals = at_form t.form suc t.locals })
      counted = locals_fine (era worked s0) t (at_form t.form suc t.locals) (leq_counted t.form t.locals) o.fine

      defined_below : (a : Number) (i : Ident) → Counted s0.unit t.bodies a → (find then_.definitions a i ≡ None) ⊎ BelowCounted s0.unit t.uses i
      defined_below a i h = go (same_number body a) (same_ident x.name i) refl
        where
          go : (p q : Bool) → same_ident x.name i ≡ q → (cond (p && q) (Some (v, t.definitions)) (find t.definitions a i) ≡ None) ⊎ BelowCounted s0.unit t.uses i
          go true true e = inr (subst (BelowCounted s0.unit t.uses) (ident_told x.name i e) (below_counted (era worked s0) t.uses x.name l.0))
          go true false e = o.fine.1.definitions a i h
          go false q e = o.fine.1.definitions a i h

      fine_macros : (q : Option (Rules Ident)) → IfMacro (Held rules_kind (Leaf worked known s0 f0 c st0 t)) q → AllOf (MacroFine (era worked s0) (at_form t.form suc t.locals) t.uses t.bodies) (macro_added (Local v) frames q t.macros)
      fine_macros None h = counted.1.macros
      fine_macros (Some z) h = (
        record {
          entered = frames_entered (era worked s0) t.definitions t.uses t.bodies frames (stands_in worked known s0 f0 c st0 t o).0;
          rules = held_made rules_kind (era worked s0) t.uses z (held_more rules_kind (Leaf worked known s0 f0 c st0 t) (Below (era worked s0) t.uses) (λ i q. q.0) z h);
          binders = binders_more (era worked s0) t.locals (at_form t.form suc t.locals) (leq_counted t.form t.locals) frames (stands_in worked known s0 f0 c st0 t o).1;
          meaning = next_old (era worked s0) t o.fine t.locals;
        },
        counted.1.macros,
      )

      stands_added : (q : Option (Rules Ident)) → AllOf (UnitMacro (era worked s0) t.uses t.places) (macro_added (Local v) frames q t.macros)
      stands_added None = o.fine.1.stands
      stands_added (Some z) = (tt, o.fine.1.stands)

      fine_then : FineState (era worked s0) then_
      fine_then = (
        o.fine.0,
        record {
          definitions = defined_below;
          bodies = (entered_body worked known s0 f0 c st0 t o, o.fine.1.bodies);
          idents = (l.0, o.fine.1.idents);
          entered = o.fine.1.entered;
          macros = fine_macros r hr;
          stands = stands_added r;
          outside = o.fine.1.outside;
          binders = (next_old (era worked s0) t o.fine t.locals, counted.1.binders);
          places = counted.1.places;
          entries = counted.1.entries;
        },
      )

      sits_more : (ks : List ScopedMacro) → AllOf (MacroSits worked known s0 f0 c st0 t.uses t.places (mine t.definitions)) ks → AllOf (MacroFine (era worked s0) t.locals t.uses t.bodies) ks → AllOf (MacroSits worked known s0 f0 c st0 t.uses t.places (v ∷ mine t.definitions)) ks
      sits_more [] h q = tt
      sits_more (k ∷ ks) h q = (record { rules = h.0.rules; owned = go h.0.owned }, sits_more ks h.1 q.1)
        where
          go : ((is_own (mine t.definitions) k.meaning ≡ true) × (k.frames ≡ frames)) ⊎ ((is_own (mine t.definitions) k.meaning ≡ false) × Entered (Before (era worked s0) s0.bodies) k.frames)
              → ((is_own (v ∷ mine t.definitions) k.meaning ≡ true) × (k.frames ≡ frames)) ⊎ ((is_own (v ∷ mine t.definitions) k.meaning ≡ false) × Entered (Before (era worked s0) s0.bodies) k.frames)
          go (inl e) = inl (own_later worked known s0 f0 c st0 t o x.name free k.meaning e.0, e.1)
          go (inr e) = inr (foreign_later worked known s0 f0 c st0 t o x.name free k.meaning q.0.meaning e.0, e.1)

      sits_then : (q : Option (Rules Ident)) → IfMacro (Held rules_kind (Leaf worked known s0 f0 c st0 t)) q → AllOf (MacroSits worked known s0 f0 c st0 t.uses t.places (v ∷ mine t.definitions)) (macro_added (Local v) frames q t.macros)
      sits_then None h = sits_more t.macros o.macros o.fine.1.macros
      sits_then (Some z) h =
          (record { rules = held_more rules_kind (Leaf worked known s0 f0 c st0 t) (λ i. Stood t (record { frames = frames; ident = i })) (λ i q. inl (refl, q)) z h; owned = inl (new_own, refl) }, sits_more t.macros o.macros o.fine.1.macros)

      opened_then : Opened worked known s0 f0 c st0 then_
      opened_then = record {
        fine = fine_then;
        grows = record {
          uses = o.grows.uses;
          bodies = o.grows.bodies;
          locals = leq_then s0.locals t.locals (at_form t.form suc t.locals) o.grows.locals (leq_counted t.form t.locals);
          places = o.grows.places;
          definitions = λ a i h. o.grows.definitions a i h ∙ same_elsewhere body s0.uses c t.places t.definitions s0.bodies (places_in worked known s0 f0 c st0 t o) (young worked known s0 f0 c st0) (definitions_in worked known s0 f0 c st0 t o) (frames_in worked known s0 f0 c st0 t o) x.name v free a i (other_of worked known s0 f0 c st0 a h);
        };
        entered = o.entered;
        macros = subst (λ ms. AllOf (MacroSits worked known s0 f0 c st0 t.uses t.places ms) (macro_added (Local v) frames r t.macros)) mine_then (sits_then r hr);
        table = o.table;
      }

      state_then : defined_local X (option_map (rules_map (names t frames)) r) (view true (mine t.definitions) t) ≡ view true (mine then_.definitions) then_
      state_then = let m = macros_then r hr in let n = mine_then in λ j. record (view true (mine then_.definitions) then_) { macros = m j; mine = n j }

    abbrev Made : ScopedState → Renamed Ident FramedIdent → Renamed Name Name → Type 0
    Made z q q' = DefinesSo (era worked s0) known frames In Any Stands_here Stood Rule_leaf Dropped t z q q'

    abbrev Goal : Here → Pending Ident FramedIdent → Result (Renamed Ident FramedIdent) (Fault Ident) × ScopedState → Result (Renamed Name Name) (Fault Ident) × State → Type 0
    Goal here p q m = Agrees (λ z i n. In z i n × Any t z) Made (told here q) (told here m)

    define_cases : (here : Here) (p : Pending Ident FramedIdent) → PendingHeld (Stands_here t) (Stood t) p → (y : Bool) (d : Option (Number × BodyDefinitions)) → find t.definitions body x.name ≡ d
        → Goal here p (cond y (Err (KeywordRedefined x), t) (cond (is_some d) (Err (Duplicate x), t) (Ok (unchanged p), then_)))
        (cond y (Err (KeywordRedefined (named (erase X) x.occ)), view true (mine t.definitions) t) (cond (is_some d) (Err (Duplicate (named (erase X) x.occ)), view true (mine t.definitions) t)
        (Ok (renamed (deep X v) (pending_map (names t frames) (placed t) p)), defined_local X (option_map (rules_map (names t frames)) r) (view true (mine t.definitions) t))))
    define_cases here p h true d e =
        break (record { fault = KeywordRedefined x; here = here }) t true (mine t.definitions) refl
        (ap (λ i. (Err (record { fault = KeywordRedefined (named i x.occ); here = here }), view true (mine t.definitions) t)) (erase_frame_image t.places t.definitions frames x.name)) ((o, refl, refl), tt)
    define_cases here p h false (Some d) e =
        break (record { fault = Duplicate x; here = here }) t true (mine t.definitions) refl
        (ap (λ i. (Err (record { fault = Duplicate (named i x.occ); here = here }), view true (mine t.definitions) t)) (erase_frame_image t.places t.definitions frames x.name)) ((o, refl, refl), tt)
    define_cases here p h false None e =
        agree (unchanged p) (renamed (deep X v) (pending_map (names t frames) (placed t) p)) then_ true (mine then_.definitions) refl
        (ap (λ s. (Ok (renamed (deep X v) (pending_map (names t frames) (placed t) p)), s)) (state_then e)) ((opened_then e, refl, refl), tt)
        (record { held = h; seen = pending_defined worked known s0 f0 c st0 t o x.name e p h; plain = refl; leaf = λ i l. l; reads = λ i l. leaf_defined worked known s0 f0 c st0 t o x.name e i l })

    define_law : (here : Here) (p : Pending Ident FramedIdent) → PendingHeld (Stands_here t) (Stood t) p
        → Goal here p (define_at (Some body) x r frames p t) (define_in_body (named X x.occ) (option_map (rules_map (names t frames)) r) (pending_map (names t frames) (placed t) p) (view true (mine t.definitions) t))
    define_law here p h =
        agrees_at refl
        (let y = refused p h in let z = mine_same worked known s0 f0 c st0 t o x.name in
        λ j. told here (cond (y j) (Err (KeywordRedefined (named (erase X) x.occ)), view true (mine t.definitions) t) (cond (z j) (Err (Duplicate (named (erase X) x.occ)), view true (mine t.definitions) t)
        (Ok (renamed (deep X v) (pending_map (names t frames) (placed t) p)), defined_local X (option_map (rules_map (names t frames)) r) (view true (mine t.definitions) t)))))
        (define_cases here p h (any (refused_now then_ (Local v) (is_some r)) p.notes) (find t.definitions body x.name) refl)

  -- ---- all that a place has to give

  and_false : (z : Bool) → (z && false) ≡ false
  and_false true = refl
  and_false false = refl

  macro_here : (s : ScopedState) (i : Bool) (n : List Number) → In s i n → (q : Option (Transformer Frames Ident)) → IfMacro (λ (x : Transformer Frames Ident). Held rules_kind (Rule_leaf s x) x.rules) q → IfMacro (TransformerFine (era worked s0) s) q
      → IfMacro (MacroHere (era worked s0) known frames In Any Stands_here Stood Rule_leaf Dropped s i n) q
  macro_here s i n k None h e = tt
  macro_here s i n k (Some x) h e = record {
    entered = e.entered;
    binders = e.binders;
    rules = h;
    below = λ y q. placed_below worked known s0 f0 c st0 s k.0 (record { frames = x.env; ident = y }) q;
    inserts = λ y q. (inserted_below (era worked s0) s k.0.fine y (placed_below worked known s0 f0 c st0 s k.0 (record { frames = x.env; ident = y }) q), used_sits worked known s0 f0 c st0 s k.0 x y q);
    place = λ y q. q;
    after = (used_opened worked known s0 f0 c st0 s k.0 x e, k.1, k.2);
  }

  pub body_facts : PlaceFacts (era worked s0) known frames In Any Stands_here Stood Rule_leaf Dropped
  body_facts = record {
    fine = λ s i n k. k.0.fine;
    stands = λ s i n k. stands_in worked known s0 f0 c st0 s k.0;
    below = λ s i n k x l. l.0;
    here = λ s i n k x l. inl (refl, l);
    leaf_later = λ s t i n k g x l. leaf_later worked known s0 f0 c st0 s k.0 t g x l;
    place_later = λ s t i n k g p l. place_later worked known s0 f0 c st0 s k.0 t g p l;
    placed_later = λ s t i n k g p l. placed_later worked known s0 f0 c st0 s k.0 t g p l;
    still = λ s i n x y z k. (record { fine = k.0.fine; grows = k.0.grows; entered = k.0.entered; macros = k.0.macros; table = k.0.table }, k.1, k.2);
    local = λ s i n k. (
      record {
        fine = locals_fine (era worked s0) s (at_form s.form suc s.locals) (leq_counted s.form s.locals) k.0.fine;
        grows = grows_then (era worked s0) s0 s (record s { locals = at_form s.form suc s.locals }) k.0.grows (locals_grow (era worked s0) s (at_form s.form suc s.locals) (leq_counted s.form s.locals));
        entered = k.0.entered;
        macros = k.0.macros;
        table = k.0.table;
      },
      k.1,
      k.2,
    );
    trail = λ s t g. tt;
    trail_then = λ s t v g h. tt;
    ended = λ s t i n k g ns h. tt;
    assigned = λ s i n k x l. ap (λ z. s.program && (not z && (is_plain (names s frames x) && is_variable (defined_in s.table s.unit (erase (names s frames x)))))) k.1 ∙ and_false s.program;
    bound = λ s i n k. ap (λ z. cond z (LocalNumber (next_number s s.locals)) (Definition s.unit (definition_count s.table s.unit))) k.1;
    defines = λ s i n k here x l r h p q. agrees_at refl (let e = k.1 in let d = k.2 in λ j. told here ((model known).define (named_map (names s frames) x) (option_map (rules_map (names s frames)) r) tt (pending_map (names s frames) (placed s) p) (view (e j) (d j) s))) (define_law s k.0 x l r h here p q);
    macros = λ s i n k x l. let m = means_at s frames x in macro_here s i n k (macro_at s.macros m) (sits_among worked known s0 f0 c st0 s k.0 s.macros k.0.macros m) (macro_found (era worked s0) s k.0.fine m);
  }
