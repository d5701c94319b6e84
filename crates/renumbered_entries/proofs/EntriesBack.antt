-- By the way back what is kept of a form and what was around it are what they were, and so an entry is one.
use Rattle.std.proofs.Common.{◌≡◌, ℕ, List, [], map, Option, Some, None, refl, sym, ap, ◌∙◌, subst}
use Rattle.scheme_model.specs.Ident.{Ident}
use Rattle.scheme_model.specs.Meaning.{Meaning}
use Rattle.scheme_model.specs.Trees.{Tree}
use Rattle.scheme_model.specs.Cores.{Target, MacroUse}
use Rattle.scheme_model.specs.RulesShape.{Rules, option_map}
use Rattle.scheme_model.specs.Order.{Note, LookedUp, Compared, Pass, Transformer}
use Rattle.scheme_model.specs.Questions.{Around, Moment}
use Rattle.scheme_model.specs.Substitution.{Defined}
use Rattle.scheme_model.specs.ScopedExpansion.{Frame, Bind, Enter, Frames, FramedIdent, BodyDefinition, UsePlace, ScopedMacro}
use Rattle.syntax_tree.specs.declared.trees.Work.{Work}
use Rattle.syntax_tree.specs.declared.trees.table.Region.{Region}
use Rattle.core_tree.specs.declared.units.UnitForm.{UnitForm}
use Rattle.renumbering_laws.specs.Moving.{move_tree, move_rules}
use Rattle.renumbering_laws.specs.Renumbering as new
use Rattle.renumbering_laws.specs.Renumbering.{Renumbering, ident, change, target, macro_use_as}
use Rattle.renumbering_laws.specs.Asked.{new_frame, new_frames, new_framed, new_note, new_macro, new_kept, new_use, new_definition, new_moment, new_pass}
use Rattle.renumbering_laws.specs.NewSurroundings.{HasOldNumbers, at_old, forms_new, imports_new, around_new}
use Rattle.renumbering_laws.specs.States.{defined_as}
use Rattle.renumbering_laws.proofs.NewSurroundings.{form_new}
use Rattle.kept_forms.specs.KeptForms.{KeptAside, KeptItem, KeptParts, KeptForm}
use Rattle.carried_laws.specs.Entries.{aside_as, kept_item_as, kept_parts_as, kept_as}
use Rattle.moves.specs.Numbers.{IsBack}
use Rattle.form_cache.specs.Entries.{Editions, IsEntry}
use Rattle.form_cache.specs.declared.entries.Entry.{Entry}
use Rattle.renumbered_entries.specs.Renumbered.{EditionsMove, IsEntryUnder}
use Rattle.renumbered_entries.proofs.TreesBack.{list_back, option_back, number_back, ident_back, place_back, tree_back, rules_back}
use Rattle.renumbered_entries.proofs.CoresBack.{meaning_back, target_back, use_met_back, came_back, left_back, set_aside_back}

module _ (r s : Renumbering) (back : IsBack r s) where
  -- ---- frames, notes and macros

  frame_back : (f : Frame) → new_frame s (new_frame r f) ≡ f
  frame_back (Bind x v) = let a = ident_back r s back x in let b = number_back r s back v in λ j. Bind (a j) (b j)
  frame_back (Enter b uses) = ap (λ c. Enter c uses) (number_back r s back b)

  frames_back : (fs : Frames) → new_frames s (new_frames r fs) ≡ fs
  frames_back fs = list_back (new_frame s) (new_frame r) frame_back fs

  framed_back : (p : FramedIdent) → new_framed s (new_framed r p) ≡ p
  framed_back p = let a = frames_back p.frames in let b = ident_back r s back p.ident in λ j. record { frames = a j; ident = b j }

  note_back : (n : Note FramedIdent) → new_note s (new_note r n) ≡ n
  note_back (LookedUp p head keyword) = ap (λ q. LookedUp q head keyword) (framed_back p)
  note_back (Compared l p held) = let a = framed_back l in let b = framed_back p in λ j. Compared (a j) (b j) held

  notes_back : (ns : List (Note FramedIdent)) → map (new_note s) (map (new_note r) ns) ≡ ns
  notes_back ns = list_back (new_note s) (new_note r) note_back ns

  rules_were : (x : Rules Ident) → move_rules (change s) (move_rules (change r) x) ≡ x
  rules_were x = rules_back Ident (change s) (change r) (ident_back r s back) (place_back r s back) x

  macro_back : (m : Transformer Frames Ident) → new_macro s (new_macro r m) ≡ m
  macro_back m = let a = frames_back m.env in let b = rules_were m.rules in λ j. record { env = a j; rules = b j }

  pub editions_back : (e f g : Editions) → EditionsMove r e f → EditionsMove s f g → (n : ℕ) → g n ≡ e n
  editions_back e f g there again n = again n ∙ ap (option_map (new_macro s)) (there n) ∙ option_back (new_macro s) (new_macro r) macro_back (e n)

  use_back : (p : UsePlace) → new_use s (new_use r p) ≡ p
  use_back p = let a = number_back r s back p.use_number in let b = frames_back p.frames in λ j. record { use_number = a j; frames = b j }

  definition_back : (d : BodyDefinition) → new_definition s (new_definition r d) ≡ d
  definition_back d = let a = number_back r s back d.body in let b = ident_back r s back d.ident in let c = number_back r s back d.binder in λ j. record { body = a j; ident = b j; binder = c j }

  defined_back : (d : Defined) → defined_as s (defined_as r d) ≡ d
  defined_back d =
      let a = back.unit d.unit in let b = back.form d.unit d.form in let c = ident_back r s back d.ident in let e = place_back r s back d.occ in
      λ j. record { unit = a j; form = b j; ident = c j; keyword = d.keyword; occ = e j }

  module _ (keeps : (u n : ℕ) → r.definition u n ≡ n) (keeps' : (u n : ℕ) → s.definition u n ≡ n) where
    kept_macro_back : (k : ScopedMacro) → new_kept s (new_kept r k) ≡ k
    kept_macro_back k = let a = meaning_back r s back keeps keeps' k.meaning in let b = frames_back k.frames in let c = rules_were k.rules in λ j. record { meaning = a j; frames = b j; rules = c j }

    targets_back : (ts : List Target) → map (target s) (map (target r) ts) ≡ ts
    targets_back ts = list_back (target s) (target r) (target_back r s back keeps keeps') ts

    met_back : (us : List MacroUse) → map (macro_use_as s) (map (macro_use_as r) us) ≡ us
    met_back us = list_back (macro_use_as s) (macro_use_as r) (use_met_back r s back keeps keeps') us

    -- ---- what is kept

    moment_back : (m : Moment) → new_moment s (new_moment r m) ≡ m
    moment_back m =
        let a = targets_back m.keywords in
        let b = met_back m.met in
        let c = list_back (defined_as s) (defined_as r) defined_back m.table in
        let d = list_back (new_kept s) (new_kept r) kept_macro_back m.macros in
        let e = list_back (new_use s) (new_use r) use_back m.places in
        let f = list_back (new_definition s) (new_definition r) definition_back m.definitions in
        λ j. record {
          locals = m.locals;
          uses = m.uses;
          nodes = m.nodes;
          bodies = m.bodies;
          keywords = a j;
          met = b j;
          table = c j;
          macros = d j;
          places = e j;
          definitions = f j;
        }

    pass_back : (p : Pass Ident FramedIdent) → new_pass s (new_pass r p) ≡ p
    pass_back p = let a = notes_back p.notes in let b = set_aside_back r s back keeps keeps' p.left in λ j. record { notes = a j; left = b j }

    aside_back : (k : KeptAside) → aside_as s (aside_as r k) ≡ k
    aside_back k = let a = pass_back k.pass in let b = moment_back k.moment in λ j. record { pass = a j; moment = b j; before = k.before }

    kept_item_back : (i : KeptItem) → kept_item_as s (kept_item_as r i) ≡ i
    kept_item_back i = let a = came_back r s back keeps keeps' i.part in let b = moment_back i.moment in λ j. record { part = a j; moment = b j }

    parts_were : (k : KeptParts) → kept_parts_as s (kept_parts_as r k) ≡ k
    parts_were k =
        let a = left_back r s back keeps keeps' k.left in let b = moment_back k.begun in let c = moment_back k.met in let d = list_back (kept_item_as s) (kept_item_as r) kept_item_back k.items in
        λ j. record { left = a j; before = k.before; begun = b j; met = c j; items = d j }

    kept_back : (k : KeptForm) → kept_as s (kept_as r k) ≡ k
    kept_back k = let a = aside_back k.aside in let b = option_back (kept_parts_as s) (kept_parts_as r) parts_were k.parts in λ j. record { aside = a j; parts = b j }

  -- ---- what was around it

  module _ (b : HasOldNumbers r) (c : HasOldNumbers s) where
    unit_was : (u : ℕ) → c.unit_back u ≡ Some (r.unit u)
    unit_was u = ap c.unit_back (sym (back.unit u)) ∙ c.unit_here (r.unit u)

    form_was : (u f : ℕ) → c.form_back (r.unit u) f ≡ Some (r.form u f)
    form_was u f = ap (c.form_back (r.unit u)) (sym (back.form u f)) ∙ c.form_here (r.unit u) (r.form u f)

    forms_back : {X : Type 0} (u : ℕ) (none : X) (g h : X → X) → ((x : X) → g (h x) ≡ x) → (d : ℕ → X) (f : ℕ) → forms_new s c (r.unit u) none (λ m. g (forms_new r b u none (λ n. h (d n)) m)) f ≡ d f
    forms_back u none g h same d f =
        ap (at_old none (λ m. g (forms_new r b u none (λ n. h (d n)) m))) (form_was u f) ∙ (ap g (form_new r b u none (λ n. h (d n)) f) ∙ same (d f))

    imports_back : (e : ℕ → List ℕ → Option Meaning) (u : ℕ) (x : List ℕ) → imports_new s c (imports_new r b e) u x ≡ e u x
    imports_back e u x =
        ap (at_old None (λ v. option_map (new.meaning s) (imports_new r b e v x))) (unit_was u)
        ∙ (ap (λ o. option_map (new.meaning s) (at_old None (λ v. option_map (new.meaning r) (e v x)) o)) (b.unit_here u) ∙ option_back (new.meaning s) (new.meaning r) (meaning_back r s back b.definitions c.definitions) (e u x))

    around_back : (w : Around) → around_new s c (around_new r b w) ≡ w
    around_back w =
        let t = w.state in
        let count = λ (d : ℕ → ℕ) (f : ℕ). forms_back t.unit 0 (λ n. n) (λ n. n) (λ n. refl) d f in
        let k = λ (f : ℕ). forms_back t.unit [] (map (target s)) (map (target r)) (targets_back b.definitions c.definitions) t.keywords f in
        let m = λ (f : ℕ). forms_back t.unit [] (map (macro_use_as s)) (map (macro_use_as r)) (met_back b.definitions c.definitions) t.met f in
        let unit = back.unit t.unit in
        let form = back.form t.unit t.form in
        let table = list_back (defined_as s) (defined_as r) defined_back t.table in
        let macros = list_back (new_kept s) (new_kept r) (kept_macro_back b.definitions c.definitions) t.macros in
        let places = list_back (new_use s) (new_use r) use_back t.places in
        let definitions = list_back (new_definition s) (new_definition r) definition_back t.definitions in
        let notes = notes_back w.notes in
        λ j. record {
          state = record {
            unit = unit j;
            program = t.program;
            form = form j;
            locals = λ f. count t.locals f j;
            uses = λ f. count t.uses f j;
            nodes = λ f. count t.nodes f j;
            bodies = λ f. count t.bodies f j;
            keywords = λ f. k f j;
            met = λ f. m f j;
            table = table j;
            entry = λ u x. imports_back t.entry u x j;
            macros = macros j;
            places = places j;
            definitions = definitions j;
          };
          known = w.known;
          notes = notes j;
        }

    -- ---- the entry

    module _ (work : Work) (region : Region) (e : Editions) (x : Entry) (f : UnitForm) where
      abbrev Whole : Type 0
      Whole = ℕ × (ℕ × Tree Ident) × KeptForm × Around × Around

      abbrev IsSo : Whole → Type 0
      IsSo p = IsEntry work region e p.0 p.1 x f p.2 p.3 p.4

      pub entry_back : (unit : ℕ) (n : ℕ × Tree Ident) (k : KeptForm) (w u : Around) → IsEntryUnder s c work region e (r.unit unit) (r.form unit n.0, move_tree (change r) n.1) x f (kept_as r k) (around_new r b w) (around_new r b u) → IsEntry work region e unit n x f k w u
      entry_back unit n k w u h =
          let a = back.unit unit in
          let i = back.form unit n.0 in
          let t = tree_back Ident (change s) (change r) (ident_back r s back) (place_back r s back) n.1 in
          let q = kept_back b.definitions c.definitions k in
          let v = around_back w in
          let z = around_back u in
          let twice : Whole = (s.unit (r.unit unit), (s.form (r.unit unit) (r.form unit n.0), move_tree (change s) (move_tree (change r) n.1)), kept_as s (kept_as r k), around_new s c (around_new r b w), around_new s c (around_new r b u)) in
          let once : Whole = (unit, n, k, w, u) in
          let same : twice ≡ once = (λ j. (a j, (i j, t j), q j, v j, z j)) in
          subst IsSo same h
