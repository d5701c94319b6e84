-- A definition while what is asked is noted: how it ends is noted where it stands in a unit, and from then on it is the form's own.
use Rattle.std.proofs.Common.{◌≡◌, ℕ, ◌-◌, ◌==◌, List, [], ◌∷◌, ◌++◌, length, reverse, arith, Bool, true, false, cond, Option, Some, None, Result, Ok, Err, refl, sym, ap, ◌∙◌, subst}
use Rattle.std.specs.Prelude.{◌&&◌, is_some as is_there}
use Rattle.std.proofs.lemmas.Bool.{false_from_ne_true}
use Rattle.std.proofs.lemmas.List.{length-reverse, length-take-le}
use Rattle.scheme_model.specs.Identifiers.{Number}
use Rattle.scheme_model.specs.Ident.{Ident as Identifier, same_ident}
use Rattle.scheme_model.specs.ExpansionFaults.{Named, KeywordRedefined, Duplicate, fault_code}
use Rattle.scheme_model.specs.Meaning as model
use Rattle.scheme_model.specs.RulesShape.{Rules}
use Rattle.scheme_model.specs.Steps.{Broken}
use Rattle.scheme_model.specs.Order.{Here, Assigns, Note, Pending, Renamed, is_some, told}
use Rattle.scheme_model.specs.Requirements.{Known}
use Rattle.scheme_model.specs.Questions.{Outcome, Stands as stands_outcome, outcome_by}
use Rattle.scheme_model.specs.Substitution.{Defined, defined_in, unchanged}
use Rattle.scheme_model.specs.ScopedExpansion.{Frames, FramedIdent, ScopedState, body_around, definition_added, is_defined}
use Rattle.syntax_tree.specs.Names.{AreToldApart}
use Rattle.syntax_tree.specs.Macros.{IsIdent}
use Rattle.syntax_tree.specs.Meant.{IsMeaning}
use Rattle.syntax_tree.specs.declared.meaning.Meaning as code_meaning
use Rattle.syntax_tree.specs.declared.meaning.Meaning.TheVariants as code
use Rattle.syntax_tree.specs.declared.trees.Work.{Work}
use Rattle.core_forms.specs.Parts.{IsName}
use Rattle.core_forms.specs.declared.shape.NamePart.{NamePart}
use Rattle.core_tree.specs.declared.traces.FormFault.{FormFault}
use Rattle.core_tree.proofs.Matched.{as_many}
use Rattle.question_laws.specs.Noted.{is_defined_in}
use Rattle.form_notes.specs.Noted.{Noted, Since, assigned_as, defined_as, defining}
use Rattle.form_notes.specs.Standing.{IsDefinitionOf, NotingStands, SameStart, outcome_as}
use Rattle.form_notes.specs.declared.notes.Definition.{Definition}
use Rattle.form_notes.specs.declared.noting.Noting as code_noting
use Rattle.feature_requirements.specs.declared.fault.ExpandFault.TheVariants as fault
use Rattle.form_parts.specs.declared.items.Spot.{Spot}
use Rattle.unit_scopes.specs.Defining as plain_define
use Rattle.unit_scopes.specs.Defining.{next_here}
use Rattle.unit_scopes.specs.Kept.{IsIn}
use Rattle.unit_scopes.specs.Kept as plain_kept
use Rattle.unit_scopes.specs.Macros.{macro_in, same_key, IsBound}
use Rattle.unit_scopes.specs.Outcomes.{SameForm}
use Rattle.unit_scopes.specs.Searched.{define_searched}
use Rattle.unit_scopes.specs.State as plain_state
use Rattle.unit_scopes.specs.declared.asked.Asked.{Asked}
use Rattle.unit_scopes.specs.declared.macros.Macro.{Macro}
use Rattle.unit_scopes.specs.declared.scope.UnitScope.{UnitScope}
use Rattle.unit_scopes.proofs.DefineLaws.{is_in_on}
use Rattle.unit_scopes.proofs.OutcomeLaws.{same_itself}
use Rattle.noted_steps.specs.Defined.{failed_as}
use Rattle.noted_steps.specs.Kept.{SpotFor, EndsIn}
use Rattle.noted_steps.specs.Noting.{Noting, state_of, with_state, next_number, assigned, in_unit, noting, refused, own_notes, ended, owned, define_by, define_noting}
use Rattle.noted_steps.specs.Standing.{Stands, EditionsStand, StartsAt, with_notes}
use Rattle.noted_steps.proofs.EditionLaws.{editions_beside, local_apart, global_apart, others_stay}
use Rattle.noted_steps.proofs.NoteLaws.{plain_notes, notes_stand, starts_on}

clash : {P : Type 0} → false ≡ true → P
clash h = absurd cc

abbrev pub Same : Pending Identifier FramedIdent → Unit {0} → Renamed Identifier FramedIdent → Type 0
Same p done made = made ≡ unchanged p

-- ---- what the step comes to, by whether the definition is refused and whether it is the second

module _ (here : Here) (b : Option Number) (n : Named Identifier) (r : Option (Rules Identifier)) (fs : Frames) (p : Pending Identifier FramedIdent) (s : Noting) where
  abbrev Made : Type 0
  Made = Result (Renamed Identifier FramedIdent) Broken × ScopedState

  abbrev added : ScopedState
  added = definition_added b n r fs (state_of s)

  abbrev plain_by : Bool → Bool → Made
  plain_by a c = told here (cond a (Err (KeywordRedefined n), state_of s) (cond c (Err (Duplicate n), state_of s) (Ok (unchanged p), added)))

  abbrev is_refused : Bool
  is_refused = refused b n r fs p s

  abbrev is_second : Bool
  is_second = is_defined (state_of s) b n.name

  -- it stands
  made_by : (a c : Bool) (y : Renamed Identifier FramedIdent) → (plain_by a c).0 ≡ Ok y → (a ≡ false) × (c ≡ false)
  made_by true c y h = absurd cc
  made_by false true y h = absurd cc
  made_by false false y h = (refl, refl)

  pub made_so : (y : Renamed Identifier FramedIdent) → (told here (define_searched b n r fs p (state_of s))).0 ≡ Ok y → (is_refused ≡ false) × (is_second ≡ false)
  made_so y h = made_by is_refused is_second y h

  -- a fault tells which
  abbrev code_of : Result (Renamed Identifier FramedIdent) Broken → ℕ
  code_of (Ok y) = 0
  code_of (Err g) = fault_code g.fault

  pub failed_by : (a c : Bool) (e : FormFault) (f : Broken) → (plain_by a c).0 ≡ Err f → e.code ≡ fault_code f.fault → outcome_as (failed_as e.code) ≡ outcome_by a c
  failed_by true c e f h is = ap (λ (k : ℕ). outcome_as (failed_as k)) (is ∙ ap code_of (sym h))
  failed_by false true e f h is = ap (λ (k : ℕ). outcome_as (failed_as k)) (is ∙ ap code_of (sym h))
  failed_by false false e f h is = absurd cc

-- ---- whether it is an assignment

pub assigned_ends : (known : Known) (work : Work) (u w : UnitScope) (ls : List Frames) (s : Noting) (spot : Spot) (fs : Frames) (i : Identifier) (answer : Bool) → Stands work u ls s → SpotFor work u ls s spot fs → w ≡ with_notes u w.form.trace.notes → (spot.in_body ≡ true → w ≡ u) → SameStart u.form.trace.notes w.form.trace.notes →
    answer ≡ assigned s (body_around fs) i →
    ((r : Since) (ms : List Noted) → spot.in_body ≡ false → NotingStands work.symbols u.form.trace.notes r ms → NotingStands work.symbols w.form.trace.notes r (assigned_as r i answer ++ ms)) → Stands work w ls ((noting known).ask (Assigns fs i ∷ []) s)
assigned_ends known work u w ls s spot fs i answer e placed rest inside same tells noted = go spot.in_body refl placed.inside
  where
    After : Option Number → Type 0
    After b = Stands work w ls (record s { noted = in_unit b (assigned_as s.since i (assigned s None i)) ++ s.noted })

    go : (b : Bool) → spot.in_body ≡ b → IsIn work u ls (state_of s) spot.scope fs b → Stands work w ls ((noting known).ask (Assigns fs i ∷ []) s)
    go false out h =
        let none : body_around fs ≡ None = ap body_around h.1 in
        let told_so : answer ≡ assigned s None i = tells ∙ ap (λ (b : Option Number). assigned s b i) none in
        let ms = assigned_as s.since i (assigned s None i) ++ s.noted in
        subst After (sym none)
        (subst (λ (y : UnitScope). Stands work y ls (record s { noted = ms })) (sym rest)
        (notes_stand work u ls s w.form.trace.notes ms same (λ exact. subst (λ (b : Bool). NotingStands work.symbols w.form.trace.notes s.since (assigned_as s.since i b ++ s.noted)) told_so (noted s.since s.noted out (e.notes exact))) e))
    go true within h =
        let body : body_around fs ≡ Some h.body = ap body_around h.frames in
        subst After (sym body) (subst (λ (y : UnitScope). Stands work y ls s) (sym (inside within)) e)

-- ---- as it is noted

kept_so : (work : Work) (ls : List Frames) (fs : Frames) (k : Option Macro) (r : Option (Rules Identifier)) → plain_define.IsKept work ls fs k r → is_there k ≡ is_some r
kept_so work ls fs None None h = refl
kept_so work ls fs None (Some r) h = absurd h
kept_so work ls fs (Some k) None h = absurd h
kept_so work ls fs (Some k) (Some r) h = refl

-- by its name, whether it is a keyword's, and how many of the unit's notes are its form's own
pub noted_so : (work : Work) (u : UnitScope) (ls : List Frames) (s : Noting) (fs : Frames) (asked : Asked) (name : NamePart) (k : Option Macro) (keyword : Bool) (d : Definition) (n : Named Identifier) (r : Option (Rules Identifier)) (ns : List (Note FramedIdent)) →
    Stands work u ls s → IsName work name n → plain_define.IsKept work ls fs k r → plain_kept.NotesFor work ls asked ns → s.exact ≡ true → keyword ≡ is_there k →
    d ≡ record { ident = name.ident; occ = name.occ; keyword = keyword; asked = length asked.notes.items - u.form.trace.notes.before } → IsDefinitionOf work.symbols d n r (own_notes s ns)
noted_so work u ls s fs asked name k keyword d n r ns e is kept notes exact tells made =
    let all : length asked.notes.items ≡ length ns = as_many (plain_kept.NoteFor work ls) asked.notes.items (reverse ns) notes.notes ∙ length-reverse ns in
    let before = (e.start exact).before in
    let count = length-take-le (length ns - s.before) ns (omega arith) in
    subst (λ (x : Definition). IsDefinitionOf work.symbols x n r (own_notes s ns)) (sym made)
    (record { name = is.0; place = is.1; keyword = tells ∙ kept_so work ls fs k r kept; asked = (λ j. all j - before j) ∙ sym count })

-- ---- it stands in a unit

defined_too : (q : Bool) (d c : Defined) (o p : Option Defined) → (is_some o ≡ true → is_some p ≡ true) → is_some (cond q (Some d) o) ≡ true → is_some (cond q (Some c) p) ≡ true
defined_too true d c o p f h = refl
defined_too false d c o p f h = f h

module _ (work : Work) (apart : AreToldApart work.symbols.idents) (told_apart : AreToldApart work.symbols.symbols) (u v : UnitScope) (ls : List Frames) (s : Noting) (ident : ℕ) (n : Named Identifier) (is : IsIdent work.symbols ident n.name) (r : Option (Rules Identifier)) (fs : Frames)
    (e : Stands work u ls s) where
  module _ (x : code_noting.Noting) (o : List Noted)
      (others : (f : ℕ) (m : code_meaning.Meaning) → same_key u.form.number (code.Global u.unit ident) f m ≡ false → macro_in v.macros f m ≡ macro_in u.macros f m) where
    abbrev unit_state : Noting
    unit_state = owned None n (is_some r) (with_state (record s { noted = o }) (definition_added None n r fs (state_of s)))

    made_in_unit : (i : Identifier) → is_defined_in (defining s.since n (is_some r)).own s.unit i ≡ true → is_some (defined_in unit_state.table s.unit i) ≡ true
    made_in_unit i h =
        let same : (s.since.unit == s.unit && same_ident n.name i) ≡ (s.unit == s.unit && same_ident n.name i) = ap (λ (k : ℕ). k == s.unit && same_ident n.name i) e.since_unit in
        let d : Defined = record { unit = s.since.unit; form = s.since.form; ident = n.name; keyword = is_some r; occ = n.occ } in
        let c : Defined = record { unit = s.unit; form = s.form; ident = n.name; keyword = is_some r; occ = n.occ } in
        defined_too (s.unit == s.unit && same_ident n.name i) d c (defined_in s.since.own s.unit i) (defined_in s.table s.unit i) (e.made i) (ap (λ (q : Bool). is_some (cond q (Some d) (defined_in s.since.own s.unit i))) (sym same) ∙ h)

    editions_in_unit : s.exact ≡ true → EditionsStand work.symbols v.macros unit_state
    editions_in_unit exact =
        let l = model.Global s.unit n.name in
        editions_beside work.symbols apart told_apart u.macros v.macros s unit_state u.form.number (code.Global u.unit ident) l tt (e.unit, is) refl refl others
        (λ m free. let q = global_apart s.since n (is_some r) m free in (q.0, ap (λ (k : ℕ). model.same_meaning (model.Global k n.name) m) (sym e.since_unit) ∙ q.1))
        (λ m other. others_stay l m fs r s.macros other) (e.editions exact)

    pub unit_stands : plain_state.Stands work v ls (definition_added None n r fs (state_of s)) → (s.exact ≡ true → NotingStands work.symbols x (defining s.since n (is_some r)) o) → (s.exact ≡ true → StartsAt x s.before s.anew) → Stands work (with_notes v x) ls unit_state
    unit_stands q notes start =
        let p = plain_notes work v ls (definition_added None n r fs (state_of s)) x q in
        record {
          unit = p.unit;
          program = p.program;
          env = p.env;
          macros = p.macros;
          root = p.root;
          own = p.own;
          begun = p.begun;
          form = p.form;
          defined = p.defined;
          known = p.known;
          count = p.count;
          made = made_in_unit;
          since_unit = e.since_unit;
          since_form = e.since_form;
          editions = editions_in_unit;
          notes = notes;
          start = start;
        }

  -- and in a body
  module _ (c : Number) (m : code_meaning.Meaning) (bound : IsBound m) (means : IsMeaning work.symbols s.unit u.form.number m (model.Local (next_number s s.locals)))
      (others : (f : ℕ) (d : code_meaning.Meaning) → same_key u.form.number m f d ≡ false → macro_in v.macros f d ≡ macro_in u.macros f d) where
    abbrev in_body : Noting
    in_body = with_state s (definition_added (Some c) n r fs (state_of s))

    pub body_stands : plain_state.Stands work v ls (definition_added (Some c) n r fs (state_of s)) → v.form.trace.notes ≡ u.form.trace.notes → Stands work v ls in_body
    body_stands p same =
        let l = model.Local (next_number s s.locals) in
        record {
          unit = p.unit;
          program = p.program;
          env = p.env;
          macros = p.macros;
          root = p.root;
          own = p.own;
          begun = p.begun;
          form = p.form;
          defined = p.defined;
          known = p.known;
          count = p.count;
          made = e.made;
          since_unit = e.since_unit;
          since_form = e.since_form;
          editions = λ exact. editions_beside work.symbols apart told_apart u.macros v.macros s in_body u.form.number m l bound means refl refl others (local_apart s.since (next_number s s.locals)) (λ d other. others_stay l d fs r s.macros other) (e.editions exact);
          notes = λ exact. subst (λ (x : code_noting.Noting). NotingStands work.symbols x s.since s.noted) (sym same) (e.notes exact);
          start = λ exact. subst (λ (x : code_noting.Noting). StartsAt x s.before s.anew) (sym same) (e.start exact);
        }

-- ---- the whole

-- notes alone change: forms are gone through there as before
spot_on : (work : Work) (v w : UnitScope) (ls : List Frames) (t : ScopedState) (spot : Spot) (fs : Frames) → w ≡ with_notes v w.form.trace.notes → plain_kept.SpotFor work v ls t spot fs → plain_kept.SpotFor work w ls t spot fs
spot_on work v w ls t spot fs rest h =
    subst (λ (x : UnitScope). plain_kept.SpotFor work x ls t spot fs) (sym rest) (record { at = h.at; inside = is_in_on work ls spot.scope fs v (with_notes v w.form.trace.notes) t t spot.in_body refl refl refl h.inside })

same_on : (u v w : UnitScope) → w ≡ with_notes v w.form.trace.notes → SameForm u v → SameForm u w
same_on u v w rest h =
    subst (λ (x : UnitScope). SameForm u x) (sym rest) (record { unit = h.unit; number = h.number; root = h.root; libraries = h.libraries; roots = h.roots; uses = h.uses; nodes = h.nodes; numbers = record { defined = h.numbers.defined; numbers = h.numbers.numbers } })

module _ (work : Work) (u v w : UnitScope) (ls : List Frames) (s : Noting) (spot : Spot) (fs : Frames) (here : Here) (name : NamePart) (n : Named Identifier) (r : Option (Rules Identifier)) (p : Pending Identifier FramedIdent)
    (e : Stands work u ls s) (placed : SpotFor work u ls s spot fs) (is : IsName work name n) (rest : w ≡ with_notes v w.form.trace.notes) (inside : spot.in_body ≡ true → w ≡ v) (start : SameStart v.form.trace.notes w.form.trace.notes) where
  abbrev around : Option Number
  around = body_around fs

  abbrev noting_by : Option Number → Bool → Bool → Result (Renamed Identifier FramedIdent) Broken × Noting
  noting_by b a c = told here (define_by (outcome_by a c) b n r fs p (ended b n r fs p.notes (outcome_by a c) s))

  abbrev a : Bool
  a = refused around n r fs p s

  abbrev c : Bool
  c = is_defined (state_of s) around n.name

  -- ---- it stands

  module _ (apart : AreToldApart work.symbols.idents) (told_apart : AreToldApart work.symbols.symbols) (notes : v.form.trace.notes ≡ u.form.trace.notes)
      (others : (f : ℕ) (m : code_meaning.Meaning) → same_key u.form.number (next_here u spot.in_body name.ident) f m ≡ false → macro_in v.macros f m ≡ macro_in u.macros f m)
      (noted : s.exact ≡ true → (rs : Since) (ms : List Noted) (k : Bool) → spot.in_body ≡ false → NotingStands work.symbols v.form.trace.notes rs ms → is_defined_in rs.own rs.unit n.name ≡ false →
      NotingStands work.symbols w.form.trace.notes (defining rs n k) (defined_as rs fs n r (own_notes s p.notes) stands_outcome ++ ms)) where
    abbrev goes : Option Number → Type 0
    goes b = plain_define.GoesTo work u v ls spot fs (definition_added b n r fs (state_of s))

    -- the form hasn't defined it yet
    not_own : is_defined (state_of s) None n.name ≡ false → is_defined_in s.since.own s.since.unit n.name ≡ false
    not_own none = false_from_ne_true (is_defined_in s.since.own s.since.unit n.name)
        (λ has. clash (sym none ∙ e.made n.name (ap (λ (k : ℕ). is_defined_in s.since.own k n.name) (sym e.since_unit) ∙ has)))

    made : (b : Bool) → spot.in_body ≡ b → IsIn work u ls (state_of s) spot.scope fs b → a ≡ false → c ≡ false → goes around → EndsIn (Same p) work u w ls spot fs (Ok tt) (noting_by around a c)
    made false out h first_refused second g =
        let none : around ≡ None = ap body_around h.1 in
        let q = subst goes none g in
        let first : is_defined (state_of s) None n.name ≡ false = ap (λ (b : Option Number). is_defined (state_of s) b n.name) (sym none) ∙ second in
        let at_root = subst (λ (b : Bool). (f : ℕ) (m : code_meaning.Meaning) → same_key u.form.number (next_here u b name.ident) f m ≡ false → macro_in v.macros f m ≡ macro_in u.macros f m) out others in
        let x = w.form.trace.notes in
        let o = defined_as s.since fs n r (own_notes s p.notes) stands_outcome ++ s.noted in
        let stands = unit_stands work apart told_apart u v ls s name.ident n is.0 r fs e x o at_root q.stands
        (λ exact. noted exact s.since s.noted (is_some r) out (subst (λ (y : code_noting.Noting). NotingStands work.symbols y s.since s.noted) (sym notes) (e.notes exact)) (not_own first))
        (λ exact. starts_on v.form.trace.notes x s.before s.anew start (subst (λ (y : code_noting.Noting). StartsAt y s.before s.anew) (sym notes) (e.start exact))) in
        subst (λ (y : Result (Renamed Identifier FramedIdent) Broken × Noting). EndsIn (Same p) work u w ls spot fs (Ok tt) y) (λ j. noting_by (sym none j) (sym first_refused j) (sym second j))
        (unchanged p, record { stands = subst (λ (y : UnitScope). Stands work y ls (unit_state work apart told_apart u v ls s name.ident n is.0 r fs e x o at_root)) (sym rest) stands; placed = spot_on work v w ls (definition_added None n r fs (state_of s)) spot fs rest q.placed; same = same_on u v w rest q.same }, refl, refl)
    made true within h first_refused second g =
        let body : around ≡ Some h.body = ap body_around h.frames in
        let q = subst goes body g in
        let here_means : next_here u spot.in_body name.ident ≡ code.Local u.form.budget.locals = ap (λ (b : Bool). next_here u b name.ident) within in
        let local = subst (λ (m : code_meaning.Meaning). (f : ℕ) (d : code_meaning.Meaning) → same_key u.form.number m f d ≡ false → macro_in v.macros f d ≡ macro_in u.macros f d) here_means others in
        let means : model.Local (next_number s s.locals) ≡ model.Local (record { unit = s.unit; form = u.form.number; count = u.form.budget.locals }) = λ j. model.Local (record { unit = s.unit; form = sym e.form.number j; count = sym e.form.locals j }) in
        let same = inside within in
        subst (λ (x : UnitScope). EndsIn (Same p) work u x ls spot fs (Ok tt) (noting_by around a c)) (sym same)
        (subst (λ (y : Result (Renamed Identifier FramedIdent) Broken × Noting). EndsIn (Same p) work u v ls spot fs (Ok tt) y) (λ j. noting_by (sym body j) (sym first_refused j) (sym second j))
        (unchanged p, record { stands = body_stands work apart told_apart u v ls s name.ident n is.0 r fs e h.body (code.Local u.form.budget.locals) tt means local q.stands notes; placed = q.placed; same = q.same }, refl, refl))

    pub made_ends : plain_define.EndsIn (Same p) work u v ls spot fs (Ok tt) (told here (define_searched around n r fs p (state_of s))) → EndsIn (Same p) work u w ls spot fs (Ok tt) (told here (define_noting around n r fs p s))
    made_ends h =
        let q = made_so here around n r fs p s h.0 h.2 in
        let state : (told here (define_searched around n r fs p (state_of s))).1 ≡ definition_added around n r fs (state_of s) = λ j. (plain_by here around n r fs p s (q.0 j) (q.1 j)).1 in
        made spot.in_body refl placed.inside q.0 q.1 (subst (λ (t : ScopedState). plain_define.GoesTo work u v ls spot fs t) state h.1)

  -- ---- it fails

  module _ (f : FormFault) (same : v ≡ u)
      (noted : s.exact ≡ true → (rs : Since) (ms : List Noted) → spot.in_body ≡ false → NotingStands work.symbols v.form.trace.notes rs ms → NotingStands work.symbols w.form.trace.notes rs (defined_as rs fs n r (own_notes s p.notes) (outcome_as (failed_as f.code)) ++ ms)) where
    over : w ≡ with_notes u w.form.trace.notes
    over = rest ∙ ap (λ (x : UnitScope). with_notes x w.form.trace.notes) same

    abbrev end_at : Option Number → Outcome → Noting
    end_at b o = ended b n r fs p.notes o s

    -- the state with the note stands
    abbrev After : Noting → Type 0
    After t = Stands work w ls t × plain_kept.SpotFor work w ls (state_of t) spot fs

    noted_end : (b : Bool) → spot.in_body ≡ b → IsIn work u ls (state_of s) spot.scope fs b → After (end_at around (outcome_as (failed_as f.code)))
    noted_end false out h =
        let none : around ≡ None = ap body_around h.1 in
        let o = outcome_as (failed_as f.code) in
        let x = w.form.trace.notes in
        subst (λ (b : Option Number). After (end_at b o)) (sym none) (
          subst (λ (y : UnitScope). Stands work y ls (end_at None o)) (sym over)
              (notes_stand work u ls s x (defined_as s.since fs n r (own_notes s p.notes) o ++ s.noted) (subst (λ (y : UnitScope). SameStart y.form.trace.notes x) same start) (λ exact. noted exact s.since s.noted out (subst (λ (y : UnitScope). NotingStands work.symbols y.form.trace.notes s.since s.noted) (sym same) (e.notes exact))) e),
          spot_on work u w ls (state_of s) spot fs over placed,
        )
    noted_end true within h =
        let body : around ≡ Some h.body = ap body_around h.frames in
        let o = outcome_as (failed_as f.code) in
        let all : u ≡ w = sym (inside within ∙ same) in
        subst (λ (b : Option Number). After (end_at b o)) (sym body) (subst (λ (y : UnitScope). Stands work y ls s × plain_kept.SpotFor work y ls (state_of s) spot fs) all (e, placed))

    same_fault : (x y : Bool) → (noting_by around x y).0 ≡ (plain_by here around n r fs p s x y).0
    same_fault true y = refl
    same_fault false true = refl
    same_fault false false = refl

    fault_state : (x y : Bool) (b : Broken) → (plain_by here around n r fs p s x y).0 ≡ Err b → (noting_by around x y).1 ≡ end_at around (outcome_by x y)
    fault_state true y b h = refl
    fault_state false true b h = refl
    fault_state false false b h = absurd cc

    pub failed_ends : plain_define.EndsIn (Same p) work u v ls spot fs (Err (fault.At f)) (told here (define_searched around n r fs p (state_of s))) → EndsIn (Same p) work u w ls spot fs (Err (fault.At f)) (told here (define_noting around n r fs p s))
    failed_ends h =
        let b = h.1.0 in
        let q = failed_by here around n r fs p s a c f b h.1.1 h.1.2.code in
        let state : (noting_by around a c).1 ≡ end_at around (outcome_as (failed_as f.code)) = fault_state a c b h.1.1 ∙ ap (end_at around) (sym q) in
        let there = subst After (sym state) (noted_end spot.in_body refl placed.inside) in
        (record { stands = there.0; placed = there.1; same = same_on u u w over (same_itself u) }, (b, same_fault a c ∙ h.1.1, h.1.2))
