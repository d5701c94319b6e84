-- So they do of what a form leaves.
use Rattle.std.proofs.Common.{◌≡◌, ℕ, List, [], ◌++◌, map, cond, Result, Ok, Err, refl, sym, ap, ◌∙◌, subst, eq-eqb}
use Rattle.scheme_model.specs.Ident.{Ident}
use Rattle.scheme_model.specs.Trees.{Tree}
use Rattle.scheme_model.specs.Steps.{Broken}
use Rattle.scheme_model.specs.Order.{Left, Note, Pass}
use Rattle.scheme_model.specs.Program.{enough_turns}
use Rattle.scheme_model.specs.Substitution.{Entries}
use Rattle.scheme_model.specs.ScopedExpansion.{FramedIdent, ScopedMacro, ScopedState}
use Rattle.scheme_model.specs.Questions.{Moment, Around, Asking}
use Rattle.scheme_model.specs.FormsAlike.{bare_kept, Leaves, set_aside, set_aside_asking, finish, finish_asking}
use Rattle.form_laws.specs.Begins.{FormBegins, RestBegins}
use Rattle.form_laws.proofs.FormLaws.{set_itself, finish_itself}
use Rattle.kept_forms.specs.KeptForms.{counts_at}
use Rattle.renumbering_laws.specs.Moving.{move_tree}
use Rattle.renumbering_laws.specs.Renumbering.{Renumbering, ident, change, target, macro_use_as, left_as, result_as}
use Rattle.renumbering_laws.specs.States.{defined_as}
use Rattle.renumbering_laws.specs.Asked.{new_note, new_kept, new_moment}
use Rattle.renumbering_laws.specs.NewSurroundings.{HasOldNumbers}
use Rattle.agreeing_numbers.proofs.Agreeing.{same_both, macros_bare, macros_back, notes_bare, notes_back, Imported, Agrees, AroundAgrees, pass_same, left_same}

module _ (r q : Renumbering) where
  -- ---- what a form left

  module _ (w : Around) (a : AroundAgrees r q w) (n : Moment) (s : ScopedState) (leaves : Leaves w n s) (same : new_moment r n ≡ new_moment q n) where
    pub state_left : Agrees r q s.table s.macros s.entry
    state_left =
        let macros = macros_bare r q (n.macros ++ w.state.macros) (same_both (new_kept r) (new_kept q) n.macros w.state.macros (ap (λ (z : Moment). z.macros) same) a.state.macros) in
        let told : map bare_kept s.macros ≡ map bare_kept (n.macros ++ w.state.macros) = ap (λ (z : ScopedState). z.macros) leaves in
        record {
          table = subst (λ ds. map (defined_as r) ds ≡ map (defined_as q) ds) (sym (ap (λ (z : ScopedState). z.table) leaves)) (same_both (defined_as r) (defined_as q) n.table w.state.table (ap (λ (z : Moment). z.table) same) a.state.table);
          macros = macros_back r q s.macros (subst (λ (ks : List ScopedMacro). map (new_kept r) ks ≡ map (new_kept q) ks) (sym told) macros);
          entry = subst (λ (e : Entries). (u : ℕ) (x : List ℕ) → Imported r q u (e u x)) (sym (ap (λ (z : ScopedState). z.entry) leaves)) a.state.entry;
        }

    pub unit_left : s.unit ≡ w.state.unit
    unit_left = ap (λ (z : ScopedState). z.unit) leaves

    keywords_left : s.keywords w.state.form ≡ n.keywords
    keywords_left = ap (λ (z : ScopedState). z.keywords w.state.form) leaves ∙ ap (λ t. cond t n.keywords (w.state.keywords w.state.form)) (eq-eqb w.state.form w.state.form refl)

    met_left : s.met w.state.form ≡ n.met
    met_left = ap (λ (z : ScopedState). z.met w.state.form) leaves ∙ ap (λ t. cond t n.met (w.state.met w.state.form)) (eq-eqb w.state.form w.state.form refl)

    pub counts_left : new_moment r (counts_at w.state.form s) ≡ new_moment q (counts_at w.state.form s)
    counts_left =
        let f = w.state.form in
        let c = counts_at f s in
        let x = ap (map (target r)) keywords_left ∙ (ap (λ (z : Moment). z.keywords) same ∙ sym (ap (map (target q)) keywords_left)) in
        let y = ap (map (macro_use_as r)) met_left ∙ (ap (λ (z : Moment). z.met) same ∙ sym (ap (map (macro_use_as q)) met_left)) in
        λ j. record { locals = c.locals; uses = c.uses; nodes = c.nodes; bodies = c.bodies; keywords = x j; met = y j; table = []; macros = []; places = []; definitions = [] }

  -- ---- where it was gone through

  pub record AsideAgrees (w : Around) (t : Tree Ident) : Type 0 where
    pub state : let s = (set_aside w enough_turns t).1 in Agrees r q s.table s.macros s.entry
    pub unit : (set_aside w enough_turns t).1.unit ≡ w.state.unit
    pub left : let l = (set_aside w enough_turns t).0.left in result_as r (left_as r (ident r)) l ≡ result_as q (left_as q (ident q)) l
    pub notes : let ns = (set_aside w enough_turns t).0.notes in map (new_note r) ns ≡ map (new_note q) ns
    pub counts : let c = counts_at w.state.form (set_aside w enough_turns t).1 in new_moment r c ≡ new_moment q c

  module _ (b : HasOldNumbers r) (c : HasOldNumbers q) (w : Around) (a : AroundAgrees r q w) where
    pub aside_agrees : (t : Tree Ident) → FormBegins w t → move_tree (change r) t ≡ move_tree (change q) t → AsideAgrees w t
    aside_agrees t begins tree =
        let p = set_aside_asking w enough_turns t in
        let z = set_aside w enough_turns t in
        let i = set_itself w enough_turns t begins in
        let same = pass_same r q b c w a enough_turns t tree in
        let moment : new_moment r p.1.moment ≡ new_moment q p.1.moment = ap (λ (x : Pass Ident FramedIdent × Asking). x.1.moment) same in
        let own : map (new_note r) p.0.notes ≡ map (new_note q) p.0.notes = ap (λ (x : Pass Ident FramedIdent × Asking). x.0.notes) same in
        let left : result_as r (left_as r (ident r)) p.0.left ≡ result_as q (left_as q (ident q)) p.0.left = ap (λ (x : Pass Ident FramedIdent × Asking). x.0.left) same in
        let notes = notes_bare r q (p.0.notes ++ w.notes) (same_both (new_note r) (new_note q) p.0.notes w.notes own a.notes) in
        record {
          state = state_left w a p.1.moment z.1 i.state moment;
          unit = unit_left w a p.1.moment z.1 i.state moment;
          left = subst (λ (l : Result (Left Ident) Broken). result_as r (left_as r (ident r)) l ≡ result_as q (left_as q (ident q)) l) (sym i.rest) left;
          notes = notes_back r q z.0.notes (subst (λ (ns : List (Note FramedIdent)). map (new_note r) ns ≡ map (new_note q) ns) (sym i.notes) notes);
          counts = counts_left w a p.1.moment z.1 i.state moment;
        }

    -- ---- where what it set aside was expanded

    pub rest_agrees : (l : Result (Left Ident) Broken) → RestBegins w l → result_as r (left_as r (ident r)) l ≡ result_as q (left_as q (ident q)) l
        → let s = (finish w enough_turns l).1 in Agrees r q s.table s.macros s.entry × (s.unit ≡ w.state.unit)
    rest_agrees (Err e) begins left = (a.state, refl)
    rest_agrees (Ok l) begins left =
        let p = finish_asking w enough_turns (Ok l) in
        let s = (finish w enough_turns (Ok l)).1 in
        let i = finish_itself w enough_turns l begins in
        let moment : new_moment r p.1.moment ≡ new_moment q p.1.moment = ap (λ x. x.1.moment) (left_same r q b c w a enough_turns (Ok l) left) in
        (state_left w a p.1.moment s i.state moment, unit_left w a p.1.moment s i.state moment)
