-- A macro that a form noted to be defined is there behind the form.
use Rattle.std.proofs.Common.{◌≡◌, ℕ, List, [], ◌∷◌, map, Bool, true, false, cond, Option, Some, None, Contains, refl, sym, ap, ◌∙◌, subst}
use Rattle.scheme_model.specs.Ident.{Ident}
use Rattle.scheme_model.specs.Trees.{Tree}
use Rattle.scheme_model.specs.ExpansionFaults.{Named}
use Rattle.scheme_model.specs.Meaning.{Meaning, Global}
use Rattle.scheme_model.specs.Order.{Note, Transformer}
use Rattle.scheme_model.specs.RulesShape.{Rules, option_map}
use Rattle.scheme_model.specs.ScopedExpansion.{Frames, Bind, Enter, FramedIdent, ScopedState, macro_at}
use Rattle.scheme_model.specs.Questions.{Moment, Around, Question, LooksUp, UsesRules, Compares, IsAssigned, Requires, Defines, Outcome, Stands, Answer, Means, Expands, Says, Ends, answer, unit_outcome, bare, bare_macro}
use Rattle.scheme_model.specs.FormsAlike.{again, bare_note, bare_state, Leaves, set_aside_asking, questions_of_pass}
use Rattle.form_laws.specs.Begins.{Each}
use Rattle.form_laws.proofs.Bare.{macro_bare}
use Rattle.forgotten_locals.specs.Outside.{outside, IsOutsideOf}
use Rattle.forgotten_locals.proofs.Outsides.{macro_outside}
use Rattle.question_laws.specs.Noted.{noted_as, noted, all_noted}
use Rattle.form_notes.specs.Noted.{Noted}
use Rattle.note_laws.specs.Told.{bare_question, bare_noted, told}
use Rattle.note_laws.specs.Tested.{is_definition}
use Rattle.declared_again.specs.Endings.{endings, MadeInOrder}
use Rattle.declared_again.proofs.EndingSides.{made_by_then}
use Rattle.declared_again.proofs.OwnNotes.{made_in_order}
use Rattle.declared_parts.specs.Parts.{MacrosThere}
use Rattle.declared_parts.specs.Stood.{IsThere}
use Rattle.declared_parts.proofs.EachLaws.{each_both, each_contained, contained_map, map_contained}
use Rattle.declared_parts.proofs.StoodMacros.{stood_there}

-- ---- what isn't local is told without the times at which bodies were entered

no_frames : (fs : Frames) → bare fs ≡ [] → fs ≡ []
no_frames [] e = refl
no_frames (Bind x v ∷ fs) e = absurd cc
no_frames (Enter b u ∷ fs) e = absurd cc

abbrev env_or : Option (Transformer Frames Ident) → Frames
env_or None = []
env_or (Some t) = t.env

abbrev rules_or : Rules Ident → Option (Transformer Frames Ident) → Rules Ident
rules_or d None = d
rules_or d (Some t) = t.rules

some_bare : (o : Option (Transformer Frames Ident)) (r : Rules Ident) → option_map bare_macro o ≡ Some (record { env = []; rules = r }) → o ≡ Some (record { env = []; rules = r })
some_bare None r h = absurd cc
some_bare (Some t) r h = let e = no_frames t.env (ap env_or h) in let f : t.rules ≡ r = ap (rules_or r) h in λ j. Some (record { env = e j; rules = f j })

macro_told : (s t : ScopedState) → bare_state s ≡ bare_state t → (m : Meaning) (r : Rules Ident) → macro_at t.macros m ≡ Some (record { env = []; rules = r }) → macro_at s.macros m ≡ Some (record { env = []; rules = r })
macro_told s t same m r h =
    some_bare (macro_at s.macros m) r
    (sym (macro_bare s.macros m) ∙ (ap (λ (z : ScopedState). macro_at z.macros m) same ∙ (macro_bare t.macros m ∙ ap (option_map bare_macro) h)))

-- ---- the noted definitions

abbrev outcome_or : Outcome → Answer → Outcome
outcome_or d (Means m k) = d
outcome_or d (Expands t) = d
outcome_or d (Says b) = d
outcome_or d (Ends o) = o

abbrev name_or : Named Ident → Question → Named Ident
name_or d (LooksUp i) = d
name_or d (UsesRules m) = d
name_or d (Compares l i) = d
name_or d (IsAssigned i) = d
name_or d (Requires l) = d
name_or d (Defines fs x r ns) = x

abbrev defined_or : Option (Rules Ident) → Question → Option (Rules Ident)
defined_or d (LooksUp i) = d
defined_or d (UsesRules m) = d
defined_or d (Compares l i) = d
defined_or d (IsAssigned i) = d
defined_or d (Requires l) = d
defined_or d (Defines fs x r ns) = r

module _ (w : Around) (m : Moment) where
  -- in the unit itself, and of a macro that is there where it stood as a keyword's
  record IsMade (n : Moment) (fs : Frames) (x : Named Ident) (r : Option (Rules Ident)) (ns : List (Note FramedIdent)) : Type 0 where
    frames : fs ≡ []
    there : IsThere w m (record { moment = n; frames = fs; name = x; rules = r; notes = ns })

  abbrev IfMade : Moment × Question → Type 0
  IfMade (n, LooksUp i) = Unit {0}
  IfMade (n, UsesRules k) = Unit {0}
  IfMade (n, Compares l i) = Unit {0}
  IfMade (n, IsAssigned i) = Unit {0}
  IfMade (n, Requires l) = Unit {0}
  IfMade (n, Defines fs x r ns) = IsMade n fs x r ns

  none_of : (alone part : Bool) (now : Moment × Question) (before : Question) → IfMade now → ((n : Moment) → IfMade (n, before)) → Each IfMade (noted_as w alone part now before)
  none_of true part now before h k = tt
  none_of false true now before h k = (h, tt)
  none_of false false now before h k = (k _, tt)

  one_if : (b : Bool) (q : Moment × Question) → IfMade q → Each IfMade (cond b [] (q ∷ []))
  one_if true q h = tt
  one_if false q h = (h, tt)

  all_made : (qs : List (Moment × Question)) (ns : List (Note FramedIdent)) → MadeInOrder (endings qs) ns → Each (IsThere w m) (endings qs) → Each IfMade (all_noted w qs)
  all_made [] ns order there = tt
  all_made ((n, LooksUp i) ∷ qs) ns order there = each_both IfMade (noted w (n, LooksUp i)) (all_noted w qs) (none_of _ _ (n, LooksUp i) _ tt (λ k. tt)) (all_made qs ns order there)
  all_made ((n, UsesRules k) ∷ qs) ns order there = each_both IfMade (noted w (n, UsesRules k)) (all_noted w qs) (one_if _ _ tt) (all_made qs ns order there)
  all_made ((n, Compares l i) ∷ qs) ns order there = each_both IfMade (noted w (n, Compares l i)) (all_noted w qs) (none_of _ _ (n, Compares l i) _ tt (λ k. tt)) (all_made qs ns order there)
  all_made ((n, IsAssigned i) ∷ qs) ns order there = each_both IfMade (noted w (n, IsAssigned i)) (all_noted w qs) (one_if _ _ tt) (all_made qs ns order there)
  all_made ((n, Requires l) ∷ qs) ns order there = (tt, all_made qs ns order there)
  all_made ((n, Defines fs x r os) ∷ qs) ns order there = (record { frames = order.0; there = there.0 }, all_made qs os order.2 there.1)

  -- what such a question tells
  made_macro : (n : Moment) (q : Question) (gs : Frames) (x : Named Ident) (rules : Rules Ident) (os : List (Note FramedIdent)) → IfMade (n, q) → bare_question q ≡ Defines gs x (Some rules) os → answer w n q ≡ Ends Stands →
      macro_at (outside (again w m)).macros (Global w.state.unit x.name) ≡ Some (record { env = []; rules = rules })
  made_macro n (LooksUp i) gs x rules os h e is = let z : false ≡ true = ap is_definition e in absurd cc
  made_macro n (UsesRules k) gs x rules os h e is = let z : false ≡ true = ap is_definition e in absurd cc
  made_macro n (Compares l i) gs x rules os h e is = let z : false ≡ true = ap is_definition e in absurd cc
  made_macro n (IsAssigned i) gs x rules os h e is = let z : false ≡ true = ap is_definition e in absurd cc
  made_macro n (Requires l) gs x rules os h e is = let z : false ≡ true = ap is_definition e in absurd cc
  made_macro n (Defines fs y rs ns) gs x rules os h e is =
      let name : y ≡ x = ap (name_or x) e in
      let has : rs ≡ Some rules = ap (defined_or (Some rules)) e in
      let stood : unit_outcome w n fs y rs ns ≡ Stands = ap (outcome_or Stands) is in
      ap (λ (z : Named Ident). macro_at (outside (again w m)).macros (Global w.state.unit z.name)) (sym name)
      ∙ (h.there rules stood has ∙ ap (λ (es : Frames). Some (record { env = es; rules = rules })) h.frames)

  -- and such a note
  noted_there : (qs : List (Moment × Question)) (ms : List Noted) → Each IfMade qs → map bare_noted ms ≡ map (told w) qs → MacrosThere (outside (again w m)) ms
  noted_there qs ms made e k fs x rules ns there is stood =
      let there : Contains (map (told w) qs) (bare_noted k) = subst (λ (ls : List Noted). Contains ls (bare_noted k)) e (contained_map bare_noted ms k there) in
      let q = map_contained (told w) qs (bare_noted k) there in
      made_macro q.0.0 q.0.1 (bare fs) x rules (map bare_note ns) (each_contained IfMade qs made q.0 q.1) (ap (λ (n : Noted). n.question) q.2 ∙ ap bare_question is) (ap (λ (n : Noted). n.answer) q.2 ∙ stood)

-- ---- behind the form

module _ (w : Around) (turns : ℕ) (t : Tree Ident) (ms : List Noted) (e : map bare_noted ms ≡ map (told w) (all_noted w (questions_of_pass w turns t))) where
  abbrev m : Moment
  m = (set_aside_asking w turns t).1.moment

  all_there : MacrosThere (outside (again w m)) ms
  all_there =
      let q = set_aside_asking w turns t in
      let made = made_by_then w turns t in
      noted_there w m (all_noted w q.1.asked) ms (all_made w m q.1.asked q.0.notes (made_in_order w turns t) (stood_there w m q.1.asked made.1 made.0)) e

  -- as it left them
  pub macros_left : (s : ScopedState) → Leaves w m s → MacrosThere s ms
  macros_left s leaves k fs x rules ns there is stood =
      let there_at = all_there k fs x rules ns there is stood in
      let g = Global w.state.unit x.name in
      ap (λ (u : ℕ). macro_at s.macros (Global u x.name)) (ap (λ (z : ScopedState). z.unit) leaves)
      ∙ macro_told s (again w m) leaves g rules (sym (macro_outside g refl (again w m).macros) ∙ there_at)

  -- and where what is local is forgotten
  pub macros_outside_left : (s u : ScopedState) → Leaves w m s → IsOutsideOf s u → MacrosThere u ms
  macros_outside_left s u leaves forgotten k fs x rules ns there is stood =
      let at = macros_left s leaves k fs x rules ns there is stood in
      let g = Global s.unit x.name in
      ap (λ (n : ℕ). macro_at u.macros (Global n x.name)) (ap (λ (z : ScopedState). z.unit) forgotten)
      ∙ macro_told u (outside s) forgotten g rules (macro_outside g refl s.macros ∙ at)
